use Rattle.std.proofs.Common.{◌≡◌, sym, subst, ap, ◌∙◌, rules, ℤ, FitsSigned, to_z, of_z}
use Rattle.std.specs.Int.{w64}
use Rattle.std.proofs.lemmas.Int.{to_z-of_z}
use Rattle.bl_desc.specs.declared.desc.Desc.{Desc}
use Rattle.bl_desc.specs.declared.change.Change.{Change}
use Rattle.bl_problem.specs.declared.cut.Cut.{Cut}
use Rattle.bl_journal.specs.declared.entry.Step.{Step}
use Rattle.bl_journal.specs.declared.entry.Step.TheVariants.{Split as SplitStep}
use Rattle.bl_desc.specs.Changes.{changed}
use Rattle.bl_journal.specs.Descriptions.{full_of, left_child, right_child}
use Rattle.bl_journal.specs.Pieces.{piece_below}
use Rattle.bl_journal.specs.Legality.{MayPut}
use Rattle.bl_journal.specs.declared.entry.Entry.TheVariants.{Put}
use Rattle.bl_journal.specs.declared.outcome.Next.TheVariants.{Split}
use Rattle.bl_tree.specs.Views.{past_of, extended, PiecesStored}
use Rattle.bl_replay.specs.Splits.{MaySplit}
use Rattle.bl_replay.proofs.Splitting.{IsSplit, may_split, split_put, same_desc, form_is}
use Rattle.bl_replay.proofs.Splitting.{form_under}
use Rattle.bl_replay.proofs.outcomes.next_again.Goals as goal

pub split_pieces-requires : goal.split_pieces-requires
split_pieces-requires c =
    let t = c.args.tree.now in
    let id = c.args.lease.now.id in
    let f = full_of t.problem (past_of t) id in
    let s = c.in-Split in
    let fits : FitsSigned w64 s.at = search rules in
    let same : c.in_ok-parent-in-Split.parent ≡ f = c.in_ok-parent-in-Split.ensures
    ∙ same_desc _ f (sym c.chain.ensures.gives ∙ c.requires.leased.chain) in
    let w : IsSplit t c.args.seat id c.args.found.now c.args.low s.common s.column s.at = record {
      legal = c.journal-journal.ensures.legal;
      program = c.requires.program;
      allowed = subst (λ (x : Step). MayPut t.problem t.settings (past_of t) c.args.seat id
          c.args.found.now c.args.low x) s.is c.requires.allowed;
    } in
    let k : MaySplit f s.common s.column s.at =
    may_split c.descriptions_are_whole.ensures c.nodes_are_stable.ensures
    c.children_follow.ensures t c.args.seat id c.args.found.now c.args.low s.common s.column
    s.at w in
    rw (to_z-of_z w64 s.at fits)
    (subst (λ (d : Desc Cut). MaySplit d c.get.result.now s.column s.at) (sym same)
    (subst (λ (x : Change Cut). MaySplit f x s.column s.at) (sym c.get.ensures) k))

pub returns-in_ok-share-in-Split-clause-pieces : goal.returns-in_ok-share-in-Split-clause-pieces
returns-in_ok-share-in-Split-clause-pieces c =
    let t = c.args.tree.now in
    let seat = c.args.seat in
    let id = c.args.lease.now.id in
    let found = c.args.found.now in
    let low = c.args.low in
    let f = full_of t.problem (past_of t) id in
    let s = c.in-Split in
    let parent = c.in_ok-parent-in-Split.parent in
    let form = c.form_below-form.result in
    let pieces = c.in_ok-left-in-Split in
    let fits : FitsSigned w64 s.at = search rules in
    let same : parent ≡ f = c.in_ok-parent-in-Split.ensures
    ∙ same_desc _ f (sym c.chain.ensures.gives ∙ c.requires.leased.chain) in
    let w : IsSplit t seat id found low s.common s.column s.at = record {
      legal = c.journal-journal.ensures.legal;
      program = c.requires.program;
      allowed = subst (λ (x : Step). MayPut t.problem t.settings (past_of t) seat id found low x)
          s.is c.requires.allowed;
    } in
    let shape : form ≡ form_under t id = c.form_below-form.ensures
    ∙ form_is t id c.args.span c.args.lease.now.depth c.depth.result c.requires.span
    c.depth.ensures c.requires.leased.depth in
    let back = to_z-of_z w64 s.at fits in
    let left : pieces.left ≡ piece_below parent form
    (left_child (changed s.common parent) s.column s.at) =
    pieces.ensures.left ∙ ap (λ (x : Change Cut). piece_below parent form
    (left_child (changed x parent) s.column (to_z w64 (of_z w64 s.at)))) c.get.ensures
    ∙ ap (λ (v : ℤ). piece_below parent form (left_child (changed s.common parent) s.column v))
    back in
    let right : pieces.right ≡ piece_below parent form
    (right_child (changed s.common parent) s.column s.at) =
    pieces.ensures.right ∙ ap (λ (x : Change Cut). piece_below parent form
    (right_child (changed x parent) s.column (to_z w64 (of_z w64 s.at)))) c.get.ensures
    ∙ ap (λ (v : ℤ). piece_below parent form (right_child (changed s.common parent) s.column v))
    back in
    let k : PiecesStored (extended t (Put seat id found low (SplitStep s.common s.column s.at)))
    (Split s.common s.column s.at pieces.left pieces.right) =
    split_put c.children_follow.ensures c.newborns_are_stored.ensures t seat id found low s.common
    s.column s.at parent form pieces.left pieces.right w same shape left right in
    subst (λ (x : Step). PiecesStored (extended t (Put seat id found low x))
    (Split s.common s.column s.at pieces.left pieces.right)) (sym s.is) k
