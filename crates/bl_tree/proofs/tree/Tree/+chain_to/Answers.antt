use Rattle.std.proofs.Common.{◌≡◌, ◌<◌, Some, None, List, ℕ, ◌++◌, ◌∷◌, [], ap, sym, ◌∙◌, subst}
use Rattle.std.proofs.Common.{arith}
use Rattle.std.specs.Prelude.{reverse}
use Rattle.bl_problem.specs.declared.cut.Cut.{Cut}
use Rattle.bl_desc.specs.declared.desc.Piece.{Piece}
use Rattle.bl_desc.specs.declared.desc.Piece.TheVariants.{Relative}
use Rattle.bl_desc.specs.declared.change.Change.{Change}
use Rattle.bl_journal.specs.Descriptions.{full_of}
use Rattle.bl_journal.specs.Pieces.{chain_of, stored_of}
use Rattle.bl_journal.specs.States.{state_of}
use Rattle.bl_journal.specs.declared.state.State.TheVariants.{Freed as freed}
use Rattle.bl_tree.specs.Views.{TreeView, past_of}
use Rattle.bl_tree.specs.Answers.{IsBorn}
use Rattle.bl_tree.specs.Chains.{StandsFor}
use Rattle.bl_tree.proofs.Chained.{some_same, standing, piece_of_standing, explicit_facts}
use Rattle.bl_tree.proofs.Chained.{relative_facts, chain_room, pieces_first, pieces_more}
use Rattle.bl_tree.proofs.Chained.{stands_first, stands_more}
use Rattle.bl_tree.proofs.tree.Tree.+chain_to.Goals as goal

pub unreachable-requires : goal.unreachable-requires
unreachable-requires t c =
    let k = c.self.invariant.follows in
    let f = standing c.self.inside.problem c.self.inside.settings c.self.inside.journal.entries
    c.args.self.now c.self.inside.kept.records.items c.args.id c.index-record.result.now
    c.self.view_is c.requires.born c.requires.stands k.records.count k.storage
    c.index-record.ensures in
    let g : None ≡ Some (stored_of c.self.inside.problem c.self.inside.settings
    (reverse c.self.inside.journal.entries) c.args.id) = sym c.in_default.is ∙ f.piece in cc

pub unreachable-requires-in_default-parent : goal.unreachable-requires-in_default-parent
unreachable-requires-in_default-parent t c =
    let k = c.self.invariant.follows in
    let f = standing c.self.inside.problem c.self.inside.settings c.self.inside.journal.entries
    c.args.self.now c.self.inside.kept.records.items c.args.id c.index-record.result.now
    c.self.view_is c.requires.born c.requires.stands k.records.count k.storage
    c.index-record.ensures in
    let rel = relative_facts c.self.inside.problem c.self.inside.settings _ c.args.id
    c.in-Relative.change k.legal f.born f.stands
    (piece_of_standing _ _ _ _ _ _ f c.in-Some.is ∙ c.in-Relative.is) in
    let g : None ≡ Some rel.q = sym c.in_default-parent.is ∙ (f.storage.parent ∙ rel.parent) in cc

pub chain_to-requires : goal.chain_to-requires
chain_to-requires t c =
    let k = c.self.invariant.follows in
    let f = standing c.self.inside.problem c.self.inside.settings c.self.inside.journal.entries
    c.args.self.now c.self.inside.kept.records.items c.args.id c.index-record.result.now
    c.self.view_is c.requires.born c.requires.stands k.records.count k.storage
    c.index-record.ensures in
    let rel = relative_facts c.self.inside.problem c.self.inside.settings _ c.args.id
    c.in-Relative.change k.legal f.born f.stands
    (piece_of_standing _ _ _ _ _ _ f c.in-Some.is ∙ c.in-Relative.is) in
    let same : c.in-Some-parent.parent ≡ rel.q =
    some_same _ _ (sym c.in-Some-parent.is ∙ (f.storage.parent ∙ rel.parent)) in
    let below : rel.q < c.args.id = rel.below in
    let born = f.born in
    let measure = c.decreases in (
      omega (arith, same, below, measure),
      (
        subst (λ (v : TreeView). IsBorn v c.in-Some-parent.parent) c.self.view_is
            (omega (arith, same, below, born)),
        subst (λ (v : TreeView). state_of (past_of v) c.in-Some-parent.parent ≡ freed → ⊥)
            c.self.view_is (subst (λ (q : ℕ). state_of (reverse c.self.inside.journal.entries) q
            ≡ freed → ⊥) (sym same) rel.stands),
      ),
    )

pub push-requires : goal.push-requires
push-requires t c =
    let k = c.self.invariant.follows in
    let f = standing c.self.inside.problem c.self.inside.settings c.self.inside.journal.entries
    c.args.self.now c.self.inside.kept.records.items c.args.id c.index-record.result.now
    c.self.view_is c.requires.born c.requires.stands k.records.count k.storage
    c.index-record.ensures in
    let rel = relative_facts c.self.inside.problem c.self.inside.settings _ c.args.id
    c.in-Relative.change k.legal f.born f.stands
    (piece_of_standing _ _ _ _ _ _ f c.in-Some.is ∙ c.in-Relative.is) in
    let same : c.in-Some-parent.parent ≡ rel.q =
    some_same _ _ (sym c.in-Some-parent.is ∙ (f.storage.parent ∙ rel.parent)) in
    let there : TreeView → ℕ → List (Piece Cut) =
    λ v q. chain_of v.problem v.settings (past_of v) q in
    let is = c.in_ok-chain-in-Relative.ensures.pieces
    ∙ (ap (λ (v : TreeView). there v c.in-Some-parent.parent) (sym c.self.view_is)
    ∙ ap (chain_of c.self.inside.problem c.self.inside.settings
    (reverse c.self.inside.journal.entries)) same) in (
      omega arith,
      chain_room c.self.inside.problem c.self.inside.settings _ c.args.id rel.q
          c.in-Relative.change c.in_ok-chain-in-Relative.chain k.legal k.span_some k.span_few f.born
          f.stands is rel.chain,
    )

pub returns-in_ok-share-in-Explicit-clause-pieces :
    goal.returns-in_ok-share-in-Explicit-clause-pieces
returns-in_ok-share-in-Explicit-clause-pieces t c =
    let k = c.self.invariant.follows in
    let f = standing c.self.inside.problem c.self.inside.settings c.self.inside.journal.entries
    c.args.self.now c.self.inside.kept.records.items c.args.id c.index-record.result.now
    c.self.view_is c.requires.born c.requires.stands k.records.count k.storage
    c.index-record.ensures in
    let ex = explicit_facts c.self.inside.problem c.self.inside.settings _ c.args.id
    c.in-Explicit.desc k.legal f.born f.stands
    (piece_of_standing _ _ _ _ _ _ f c.in-Some.is ∙ c.in-Explicit.is) in
    let there : TreeView → ℕ → List (Piece Cut) =
    λ v q. chain_of v.problem v.settings (past_of v) q in
    pieces_first c.begin.result c.in-Explicit.desc (c.begin.ensures.top
    ∙ c.in_ok-share-in-Explicit.ensures) c.begin.ensures.changes
    ∙ (sym ex.chain ∙ ap (λ (v : TreeView). there v c.args.id) c.self.view_is)

pub returns-in_ok-share-in-Explicit-clause-sound :
    goal.returns-in_ok-share-in-Explicit-clause-sound
returns-in_ok-share-in-Explicit-clause-sound t c =
    let k = c.self.invariant.follows in
    let f = standing c.self.inside.problem c.self.inside.settings c.self.inside.journal.entries
    c.args.self.now c.self.inside.kept.records.items c.args.id c.index-record.result.now
    c.self.view_is c.requires.born c.requires.stands k.records.count k.storage
    c.index-record.ensures in
    let ex = explicit_facts c.self.inside.problem c.self.inside.settings _ c.args.id
    c.in-Explicit.desc k.legal f.born f.stands
    (piece_of_standing _ _ _ _ _ _ f c.in-Some.is ∙ c.in-Explicit.is) in
    subst (λ (v : TreeView). StandsFor c.begin.result (full_of v.problem (past_of v) c.args.id))
    c.self.view_is
    (stands_first c.self.inside.problem (reverse c.self.inside.journal.entries) c.args.id
    c.begin.result c.in-Explicit.desc
    (c.begin.ensures.top ∙ c.in_ok-share-in-Explicit.ensures) c.begin.ensures.changes ex.full)

pub returns-in_ok-share-in-Relative-clause-pieces :
    goal.returns-in_ok-share-in-Relative-clause-pieces
returns-in_ok-share-in-Relative-clause-pieces t c =
    let k = c.self.invariant.follows in
    let f = standing c.self.inside.problem c.self.inside.settings c.self.inside.journal.entries
    c.args.self.now c.self.inside.kept.records.items c.args.id c.index-record.result.now
    c.self.view_is c.requires.born c.requires.stands k.records.count k.storage
    c.index-record.ensures in
    let rel = relative_facts c.self.inside.problem c.self.inside.settings _ c.args.id
    c.in-Relative.change k.legal f.born f.stands
    (piece_of_standing _ _ _ _ _ _ f c.in-Some.is ∙ c.in-Relative.is) in
    let same : c.in-Some-parent.parent ≡ rel.q =
    some_same _ _ (sym c.in-Some-parent.is ∙ (f.storage.parent ∙ rel.parent)) in
    let there : TreeView → ℕ → List (Piece Cut) =
    λ v q. chain_of v.problem v.settings (past_of v) q in
    let is = c.in_ok-chain-in-Relative.ensures.pieces
    ∙ (ap (λ (v : TreeView). there v c.in-Some-parent.parent) (sym c.self.view_is)
    ∙ ap (chain_of c.self.inside.problem c.self.inside.settings
    (reverse c.self.inside.journal.entries)) same) in
    let more = c.push.ensures.changes ∙ ap
    (λ (x : Change Cut). c.in_ok-chain-in-Relative.chain.changes ++ x ∷ [])
    c.in_ok-share-in-Relative.ensures in
    pieces_more c.in_ok-chain-in-Relative.chain c.push.new.self c.in-Relative.change
    c.push.ensures.top more
    ∙ (ap (λ (l : List (Piece Cut)). l ++ Relative c.in-Relative.change ∷ []) is
    ∙ (sym rel.chain ∙ ap (λ (v : TreeView). there v c.args.id) c.self.view_is))

pub returns-in_ok-share-in-Relative-clause-sound :
    goal.returns-in_ok-share-in-Relative-clause-sound
returns-in_ok-share-in-Relative-clause-sound t c =
    let k = c.self.invariant.follows in
    let f = standing c.self.inside.problem c.self.inside.settings c.self.inside.journal.entries
    c.args.self.now c.self.inside.kept.records.items c.args.id c.index-record.result.now
    c.self.view_is c.requires.born c.requires.stands k.records.count k.storage
    c.index-record.ensures in
    let rel = relative_facts c.self.inside.problem c.self.inside.settings _ c.args.id
    c.in-Relative.change k.legal f.born f.stands
    (piece_of_standing _ _ _ _ _ _ f c.in-Some.is ∙ c.in-Relative.is) in
    let same : c.in-Some-parent.parent ≡ rel.q =
    some_same _ _ (sym c.in-Some-parent.is ∙ (f.storage.parent ∙ rel.parent)) in
    let more = c.push.ensures.changes ∙ ap
    (λ (x : Change Cut). c.in_ok-chain-in-Relative.chain.changes ++ x ∷ [])
    c.in_ok-share-in-Relative.ensures in
    let sound =
    subst (λ (q : ℕ). StandsFor c.in_ok-chain-in-Relative.chain
    (full_of c.self.inside.problem (reverse c.self.inside.journal.entries) q)) same
    (subst (λ (v : TreeView). StandsFor c.in_ok-chain-in-Relative.chain
    (full_of v.problem (past_of v) c.in-Some-parent.parent)) (sym c.self.view_is)
    c.in_ok-chain-in-Relative.ensures.sound) in
    subst (λ (v : TreeView). StandsFor c.push.new.self (full_of v.problem (past_of v) c.args.id))
    c.self.view_is
    (stands_more c.in_ok-chain-in-Relative.chain c.push.new.self _ _ c.in-Relative.change sound
    c.push.ensures.top more rel.fits rel.gives)
