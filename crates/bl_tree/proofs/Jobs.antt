-- Plans and jobs outlast all entries.
use Rattle.std.proofs.Common.{◌≡◌, ℕ, ◌<◌, ◌≤◌, ◌%◌, List, [], ◌++◌, length, refl, ap, sym, ◌∙◌}
use Rattle.std.proofs.Common.{subst, arith, false, Option, Some, None}
use Rattle.std.specs.Prelude.{reverse, IfSome, ◌==◌}
use Rattle.std.proofs.lemmas.List.{reverse-append}
use Rattle.bl_problem.specs.Program.{Program, IsProgram}
use Rattle.bl_problem.specs.declared.cut.Cut.{Cut}
use Rattle.bl_desc.specs.declared.desc.Desc.{Desc}
use Rattle.bl_desc.specs.declared.desc.Form.{Form}
use Rattle.bl_desc.specs.declared.desc.Form.TheVariants.{Explicit, Relative}
use Rattle.bl_desc.specs.Changes.{difference}
use Rattle.bl_desc.specs.declared.desc.Piece.{Piece}
use Rattle.bl_desc.specs.declared.desc.Piece.TheVariants.{Explicit as ExplicitPiece}
use Rattle.bl_desc.specs.declared.desc.Piece.TheVariants.{Relative as RelativePiece}
use Rattle.bl_journal.specs.declared.entry.Entry.{Entry}
use Rattle.bl_journal.specs.declared.settings.Settings.{Settings}
use Rattle.bl_journal.specs.Births.{Node, nodes_of, node_at}
use Rattle.bl_journal.specs.Descriptions.{full_of, full_along}
use Rattle.bl_journal.specs.States.{is_spanned}
use Rattle.bl_journal.specs.Pieces.{piece_in, difference_from, rebuilt, chain_of}
use Rattle.bl_journal.specs.Legality.{IsLegal, IsLegalPast}
use Rattle.bl_journal.specs.Laws.{DescriptionsAreWhole}
use Rattle.bl_journal.proofs.Growth.{node_at-more, length-nodes_more}
use Rattle.bl_rebuild.specs.declared.chain.Chain.{Chain}
use Rattle.bl_tree.specs.Views.{TreeView, past_of, IsLegalTree, pieces_of}
use Rattle.bl_tree.specs.Chains.{StandsFor, IsApplicable, described_by}
use Rattle.bl_tree.specs.Calls.{IsPlanFor}
use Rattle.bl_tree.specs.Jobs.{PlanView, IsMadeOf, form_below, pieces_if, pieces_above}
use Rattle.bl_tree.specs.Jobs.{StandsForParent, MayBeRelated, MayHaveForm, MayFollow}
use Rattle.bl_tree.specs.Jobs.{IsChainAbove, piece_from, later, PlansStay, JobsStay}
use Rattle.bl_tree.specs.Jobs.{PlansMakeJobs}
use Rattle.bl_tree.proofs.Chained.{parent_born, some_same, rebuilt_is}

full-more : (p : Program) (more past : List Entry) (id : ℕ) → id < length (nodes_of p past)
    → full_of p (more ++ past) id ≡ full_of p past id
full-more p more past id born =
    ap (λ (n : Node). full_along p n.path) (node_at-more p more past id born)

-- the difference from the parent's description is the same later
difference_later : (p : Program) (more past : List Entry) (parent : Option ℕ) (d : Desc Cut)
    → IfSome parent (λ q. q < length (nodes_of p past)) → difference_from p (more ++ past) parent
    d ≡ difference_from p past parent d
difference_later p more past None d born = refl
difference_later p more past (Some q) d born =
    ap (λ (above : Desc Cut). RelativePiece (difference (λ (c : Cut). c.id) above d))
    (full-more p more past q born)

-- what would be stored of a node in a form is the same later
piece_later : (p : Program) (s : Settings) (more past : List Entry) (id : ℕ) (form : Form)
    → IsLegalPast p s past → id < length (nodes_of p past) → piece_in p (more ++ past) id form
    ≡ piece_in p past id form
piece_later p s more past id Explicit l born = ap ExplicitPiece (full-more p more past id born)
piece_later p s more past id Relative l born =
    ap (λ (n : Node). difference_from p (more ++ past) n.parent (full_of p (more ++ past) id))
    (node_at-more p more past id born)
    ∙ (difference_later p more past (node_at p past id).parent (full_of p (more ++ past) id)
    (parent_born p s past id l born)
    ∙ ap (difference_from p past (node_at p past id).parent) (full-more p more past id born))

spanned_later : (p : Program) (s : Settings) (more past : List Entry) (id : ℕ) → id
    < length (nodes_of p past) → is_spanned p s (more ++ past) id ≡ is_spanned p s past id
spanned_later p s more past id born =
    ap (λ (n : Node). n.depth % s.span == 0) (node_at-more p more past id born)

-- a job may be installed after any entries
pub job_later : JobsStay
job_later t entries job legal j =
    let p : Program = t.problem in
    let past : List Entry = past_of t in
    let more : List Entry = reverse entries in
    let turned : past_of (later t entries) ≡ more ++ past = reverse-append t.history entries in
    let longer : length (nodes_of p past) ≤ length (nodes_of p (more ++ past)) =
    length-nodes_more p more past in
    let born : job.id < length (nodes_of p (more ++ past)) = let b =
    j.born in omega (arith, longer, b) in
    record {
      born = subst (λ h. job.id < length (nodes_of p h)) (sym turned) born;
      piece = j.piece ∙ sym (ap (λ h. piece_in p h job.id job.form) turned
          ∙ piece_later p t.settings more past job.id job.form legal.steps j.born);
      spanned = by_form job.form (ap (λ h. is_spanned p t.settings h job.id) turned
          ∙ spanned_later p t.settings more past job.id j.born) j.spanned;
    }
  where
    by_form : (form : Form) → is_spanned t.problem t.settings (past_of (later t entries)) job.id
        ≡ is_spanned t.problem t.settings (past_of t) job.id → MayHaveForm t job.id form
        → MayHaveForm (later t entries) job.id form
    by_form Explicit same m = tt
    by_form Relative same m = same ∙ m

-- a plan stands for its node after any entries
pub plan_later : PlansStay
plan_later t entries plan legal j =
    let p : Program = t.problem in
    let past : List Entry = past_of t in
    let more : List Entry = reverse entries in
    let turned : past_of (later t entries) ≡ more ++ past = reverse-append t.history entries in
    let longer : length (nodes_of p past) ≤ length (nodes_of p (more ++ past)) =
    length-nodes_more p more past in
    let born : plan.id < length (nodes_of p (more ++ past)) = let b =
    j.born in omega (arith, longer, b) in
    let node : node_at p (past_of (later t entries)) plan.id ≡ node_at p past plan.id =
    ap (λ h. node_at p h plan.id) turned ∙ node_at-more p more past plan.id j.born in
    record {
      born = subst (λ h. plan.id < length (nodes_of p h)) (sym turned) born;
      chain = j.chain
          ∙ ap Some (sym (ap (λ h. full_of p h plan.id) turned
          ∙ full-more p more past plan.id j.born));
      related = by_form plan.form (ap (λ h. is_spanned p t.settings h plan.id) turned
          ∙ spanned_later p t.settings more past plan.id j.born) node j.related;
    }
  where
    stands : (o : Option ℕ) → IfSome o (λ q. q < length (nodes_of t.problem (past_of t)))
        → StandsForParent t plan.above o → StandsForParent (later t entries) plan.above o
    stands None born h = h
    stands (Some q) born h =
        h ∙ ap Some (sym (ap (λ h. full_of t.problem h q) (reverse-append t.history entries)
        ∙ full-more t.problem (reverse entries) (past_of t) q born))

    by_form : (form : Form) → is_spanned t.problem t.settings (past_of (later t entries)) plan.id
        ≡ is_spanned t.problem t.settings (past_of t) plan.id
        → node_at t.problem (past_of (later t entries)) plan.id
        ≡ node_at t.problem (past_of t) plan.id → MayBeRelated t plan.id plan.above form
        → MayBeRelated (later t entries) plan.id plan.above form
    by_form Explicit same node m = tt
    by_form Relative same node m = (
      same ∙ m.0,
      subst (λ (n : Node). StandsForParent (later t entries) plan.above n.parent) (sym node)
          (stands (node_at t.problem (past_of t) plan.id).parent
          (parent_born t.problem t.settings (past_of t) plan.id legal.steps j.born) m.1),
    )

-- a job that is made of a plan has the node's piece
pub made_job : PlansMakeJobs
made_job t plan job k m =
    record {
      born = subst (λ (i : ℕ). i < length (nodes_of t.problem (past_of t))) (sym m.id) k.born;
      piece = some_same _ _ (m.piece ∙ by_form plan.form k.related)
          ∙ ap (λ (i : ℕ). piece_in t.problem (past_of t) i plan.form) (sym m.id)
          ∙ ap (piece_in t.problem (past_of t) job.id) (sym m.form);
      spanned = subst (λ (f : Form). MayHaveForm t job.id f) (sym m.form)
          (subst (λ (i : ℕ). MayHaveForm t i plan.form) (sym m.id) (span_of plan.form k.related));
    }
  where
    d : Desc Cut
    d = full_of t.problem (past_of t) plan.id

    by_parent : (o : Option ℕ) → StandsForParent t plan.above o → piece_from Relative
        (Some (full_of t.problem (past_of t) plan.id)) (rebuilt plan.above)
        ≡ Some (difference_from t.problem (past_of t) o (full_of t.problem (past_of t) plan.id))
    by_parent None h = absurd h
    by_parent (Some q) h = ap (piece_from Relative (Some (full_of t.problem (past_of t) plan.id))) h

    by_form : (form : Form) → MayBeRelated t plan.id plan.above form
        → piece_from form (rebuilt plan.chain) (rebuilt plan.above)
        ≡ Some (piece_in t.problem (past_of t) plan.id form)
    by_form Explicit r =
        ap (λ (o : Option (Desc Cut)). piece_from Explicit o (rebuilt plan.above)) k.chain
    by_form Relative r =
        ap (λ (o : Option (Desc Cut)). piece_from Relative o (rebuilt plan.above)) k.chain
        ∙ by_parent (node_at t.problem (past_of t) plan.id).parent r.1

    span_of : (form : Form) → MayBeRelated t plan.id plan.above form → MayHaveForm t plan.id form
    span_of Explicit r = tt
    span_of Relative r = r.0

-- a child's description may be told as a change of its parent's
pub may_follow : DescriptionsAreWhole → (p : Program) (s : Settings) (history : List Entry)
    (id parent : ℕ) → IsLegal p s history → IsProgram p → id
    < length (nodes_of p (reverse history)) → (node_at p (reverse history) id).parent ≡ Some parent
    → MayFollow (full_of p (reverse history) parent) (full_of p (reverse history) id)
may_follow law p s history id parent legal w born e =
    let child = law p s history legal id born in
    let line = child.below parent e in
    let before : parent < id = line.before in
    let above = (law p s history legal parent (omega (arith, before, born))).desc in
    let columns = above.columns in
    let rows = above.rows in
    let few = above.few in
    let few_below = child.desc.few in
    let wide = w.few_columns in
    let long = w.few_rows in
    record {
      parent_whole = above.whole;
      child_whole = child.desc.whole;
      columns = columns ∙ sym child.desc.columns;
      rows = rows ∙ sym child.desc.rows;
      few_columns = omega (arith, columns, wide);
      few_rows = omega (arith, rows, long);
      parent_few = omega (arith, few);
      child_few = omega (arith, few_below);
      parent_ids = above.ids;
      child_ids = child.desc.ids;
      part = line.part;
    }

-- the parent of a born node is born
pub parent_is_born : (t : TreeView) (id parent : ℕ) → IsLegalTree t → id
    < length (nodes_of t.problem (past_of t)) → (node_at t.problem (past_of t) id).parent
    ≡ Some parent → parent < length (nodes_of t.problem (past_of t))
parent_is_born t id parent legal born e =
    subst (λ (o : Option ℕ). IfSome o (λ q. q < length (nodes_of t.problem (past_of t)))) e
    (parent_born t.problem t.settings (past_of t) id legal.steps born)

-- the chain of a node may follow that of its parent
pub chain_above : DescriptionsAreWhole → (t : TreeView) (id parent : ℕ) (above chain : Chain Cut)
    → IsLegalTree t → IsProgram t.problem → id < length (nodes_of t.problem (past_of t))
    → (node_at t.problem (past_of t) id).parent ≡ Some parent
    → StandsFor above (full_of t.problem (past_of t) parent)
    → StandsFor chain (full_of t.problem (past_of t) id) → IsChainAbove above (described_by chain)
chain_above law t id parent above chain legal w born e a b =
    record {
      applicable = record { whole = a.whole; fits = a.fits };
      follows = subst (λ (d : Desc Cut). MayFollow d (described_by chain)) (sym a.gives)
          (subst (λ (d : Desc Cut). MayFollow (full_of t.problem (past_of t) parent) d)
          (sym b.gives) (may_follow law t.problem t.settings t.history id parent legal w born
          e));
    }

-- the plan to store a node relative to its parent
pub relative_planned : (t : TreeView) (id parent : ℕ) (above chain : Chain Cut) → id
    < length (nodes_of t.problem (past_of t)) → is_spanned t.problem t.settings (past_of t) id
    ≡ false
    → (node_at t.problem (past_of t) id).parent ≡ Some parent
    → StandsFor above (full_of t.problem (past_of t) parent)
    → StandsFor chain (full_of t.problem (past_of t) id)
    → pieces_of above ≡ chain_of t.problem t.settings (past_of t) parent → pieces_of chain
    ≡ chain_of t.problem t.settings (past_of t) id
    → IsPlanFor t id Relative (record {
      id = id;
      form = Relative;
      chain = pieces_of chain;
      above =
          pieces_of above;
    })
relative_planned t id parent above chain born spanned e a b up own =
    record {
      is = ap (λ (l : List (Piece Cut)). plan l (pieces_of above)) own
          ∙ ap (plan (chain_of t.problem t.settings (past_of t) id))
          (up ∙ ap (λ (o : Option ℕ). pieces_above t o Relative) (sym e));
      of_tree = record {
        born = born;
        chain = rebuilt_is chain (full_of t.problem (past_of t) id) b;
        related = (
          spanned,
          subst (λ (o : Option ℕ). StandsForParent t (pieces_of above) o)
              (sym e) (rebuilt_is above (full_of t.problem (past_of t) parent) a),
        );
      };
    }
  where
    plan : List (Piece Cut) → List (Piece Cut) → PlanView
    plan own up = record { id = id; form = Relative; chain = own; above = up }

-- the plan to store a node whole
pub whole_planned : (t : TreeView) (id : ℕ) (chain : Chain Cut) → id
    < length (nodes_of t.problem (past_of t)) → StandsFor chain (full_of t.problem (past_of t) id)
    → pieces_of chain ≡ chain_of t.problem t.settings (past_of t) id
    → IsPlanFor t id Explicit
    (record { id = id; form = Explicit; chain = pieces_of chain; above = [] })
whole_planned t id chain born b own =
    record {
      is = ap (λ (l : List (Piece Cut)). record {
        id = id;
        form = Explicit;
        chain = l;
        above =
            [];
      }) own;
      of_tree = record {
        born = born;
        chain =
            rebuilt_is chain (full_of t.problem (past_of t) id) b;
        related = tt;
      };
    }

-- what a chain that can be applied stands for
stands_for : (chain : Chain Cut) → IsApplicable chain → rebuilt (pieces_of chain)
    ≡ Some (described_by chain)
stands_for chain a = rebuilt_is chain (described_by chain)
    (record { whole = a.whole; fits = a.fits; gives = refl })

-- the job of a plan to store a node whole
pub whole_made : (plan : PlanView) (id : ℕ) (chain : Chain Cut) (above : Option (Chain Cut))
    (d : Desc Cut) → (record {
      id = id;
      form = form_below above;
      chain = pieces_of chain;
      above =
          pieces_if above;
    }) ≡ plan
    → above ≡ None → IsApplicable chain → d ≡ described_by chain
    → IsMadeOf plan (record { id = id; form = Explicit; piece = ExplicitPiece d })
whole_made plan id chain above d view none a is =
    subst (λ (v : PlanView). IsMadeOf v
    (record { id = id; form = Explicit; piece = ExplicitPiece d })) view
    (subst (λ (o : Option (Chain Cut)). IsMadeOf (record {
      id = id;
      form = form_below o;
      chain =
          pieces_of chain;
      above = pieces_if o;
    })
    (record { id = id; form = Explicit; piece = ExplicitPiece d })) (sym none)
    (record {
      id = refl;
      form = refl;
      piece = ap (λ (x : Desc Cut). Some (ExplicitPiece x)) is
          ∙ sym (ap (λ (o : Option (Desc Cut)). piece_from Explicit o (rebuilt []))
          (stands_for chain a));
    }))

-- the job of a plan to store a node relative to its parent
pub relative_made : (plan : PlanView) (id : ℕ) (chain : Chain Cut) (above : Option (Chain Cut))
    (parent : Chain Cut) (d : Desc Cut) (piece : Piece Cut)
    → (record {
      id = id;
      form = form_below above;
      chain = pieces_of chain;
      above =
          pieces_if above;
    }) ≡ plan → above ≡ Some parent → IsApplicable chain → IsApplicable parent
    → d ≡ described_by chain
    → piece ≡ RelativePiece (difference (λ (c : Cut). c.id) (described_by parent) d)
    → IsMadeOf plan (record { id = id; form = Relative; piece = piece })
relative_made plan id chain above parent d piece view some a b is made =
    subst (λ (v : PlanView). IsMadeOf v (record { id = id; form = Relative; piece = piece })) view
    (subst (λ (o : Option (Chain Cut)). IsMadeOf (record {
      id = id;
      form = form_below o;
      chain =
          pieces_of chain;
      above = pieces_if o;
    })
    (record { id = id; form = Relative; piece = piece })) (sym some)
    (record {
      id = refl;
      form = refl;
      piece = ap Some made
          ∙ (ap (λ (x : Desc Cut). Some
          (RelativePiece (difference (λ (c : Cut). c.id) (described_by parent) x))) is
          ∙ sym (ap (λ (o : Option (Desc Cut)). piece_from Relative o
          (rebuilt (pieces_of parent))) (stands_for chain a)
          ∙ ap (piece_from Relative (Some (described_by chain))) (stands_for parent b)));
    }))
