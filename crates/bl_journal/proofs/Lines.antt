-- How a node stands to its parent: its ancestors, its depth, and its cuts, which are a part of
-- the parent's and then fresh ones.
use Rattle.std.proofs.Common.{◌≡◌, ℕ, ◌+◌, ◌<◌, List, [], ◌∷◌, ◌++◌, length, refl, sym, ◌∙◌}
use Rattle.std.proofs.Common.{subst, arith, Some, None, Option}
use Rattle.std.specs.Prelude.{IfSome}
use Rattle.std.proofs.lemmas.List.{length-replicate}
use Rattle.bl_mods.specs.Mods.{IsPartThenFresh, relisted}
use Rattle.bl_mods.proofs.Relisting.{IsPartThenFresh-relisted, length-written}
use Rattle.bl_problem.specs.Program.{Program}
use Rattle.bl_problem.specs.declared.cut.Cut.{Cut}
use Rattle.bl_problem.specs.declared.decision.Decision.{Decision}
use Rattle.bl_desc.specs.declared.desc.Desc.{Desc}
use Rattle.bl_desc.specs.declared.desc.Status.TheVariants.{AtLow}
use Rattle.bl_desc.specs.Changes.{changed, IsWhole, cut_status_after}
use Rattle.bl_desc.proofs.Canonical.{length-cut_status_after}
use Rattle.bl_journal.specs.declared.entry.Entry.{Entry}
use Rattle.bl_journal.specs.declared.settings.Settings.{Settings}
use Rattle.bl_journal.specs.Births.{Node, Branch, nodes_of, node_at, node_in, grown, root_node}
use Rattle.bl_journal.specs.Births.{IsBorn}
use Rattle.bl_journal.specs.Descriptions.{full_of, full_along, changed_along, root_desc}
use Rattle.bl_journal.specs.Legality.{IsLegalPast, SplitPut, split_entry}
use Rattle.bl_journal.proofs.Growth.{get_or-grown}
use Rattle.bl_journal.proofs.Induction.{child_by, each_node}
use Rattle.bl_journal.proofs.Children.{child_list}
use Rattle.bl_journal.proofs.Budget.{length-box_along}

changed_columns : (d : Desc Cut) (branches : List Branch)
    → length (changed_along d branches).column_status ≡ length d.column_status
changed_columns d [] = refl
changed_columns d (branch ∷ branches) = changed_columns (changed branch.common d) branches
    ∙ length-written branch.common.columns d.column_status

changed_rows : (d : Desc Cut) (branches : List Branch)
    → length (changed_along d branches).row_status ≡ length d.row_status
changed_rows d [] = refl
changed_rows d (branch ∷ branches) = changed_rows (changed branch.common d) branches
    ∙ length-written branch.common.rows d.row_status

changed_cuts : (d : Desc Cut) (branches : List Branch) → length d.cut_status ≡ length d.cuts
    → length (changed_along d branches).cut_status ≡ length (changed_along d branches).cuts
changed_cuts d [] e = e
changed_cuts d (branch ∷ branches) e =
    changed_cuts (changed branch.common d) branches
    (length-written branch.common.fresh (cut_status_after branch.common.cuts d.cut_status)
    ∙ length-cut_status_after branch.common.cuts d.cuts d.cut_status e)

-- each description is whole, and has the problem's counts
pub full_whole : (p : Program) (past : List Entry) (id : ℕ) → IsWhole (full_of p past id)
full_whole p past id =
    let branches = (node_at p past id).path in
    let b = length-box_along p (node_at p past id).path in
    record {
      highs = b.1 ∙ sym b.0;
      columns = changed_columns (root_desc p) (node_at p past id).path
          ∙ (length-replicate (length p.columns) AtLow ∙ sym b.0);
      cuts = changed_cuts (root_desc p) (node_at p past id).path refl;
    }

pub full_columns : (p : Program) (past : List Entry) (id : ℕ) → length (full_of p past id).lows
    ≡ length p.columns
full_columns p past id = (length-box_along p (node_at p past id).path).0

pub full_rows : (p : Program) (past : List Entry) (id : ℕ) → length (full_of p past id).row_status
    ≡ length p.rows
full_rows p past id = changed_rows (root_desc p) (node_at p past id).path
    ∙ length-replicate (length p.rows) AtLow

-- the node n with the number id is a child of the node m with the number q
pub record IsChildOf (p : Program) (m : Node) (q id : ℕ) (n : Node) : Type 0 where
  pub ancestors : n.ancestors ≡ m.ancestors ++ q ∷ []
  pub depth : n.depth ≡ m.depth + 1
  pub below : q < id
  pub part : IsPartThenFresh (λ (c : Cut). c.id) (full_along p m.path).cuts
      (full_along p n.path).cuts

abbrev pub HasLine : Program → List Node → ℕ → Node → Type 0
HasLine p nodes id n = IfSome n.parent (λ q. IsChildOf p (node_in p nodes q) q id n)

pub IfSome-map : {X : Type 0} (P Q : X → Type 0) (o : Option X) → ((x : X) → P x → Q x)
    → IfSome o P → IfSome o Q
IfSome-map P Q None f h = tt
IfSome-map P Q (Some x) f h = f x h

lines_grown : (p : Program) (nodes : List Node) (e : Entry) (id : ℕ) (n : Node) → id
    < length nodes → HasLine p nodes id n → HasLine p (grown p nodes e) id n
lines_grown p nodes e id n born h =
    IfSome-map (λ q. IsChildOf p (node_in p nodes q) q id n)
    (λ q. IsChildOf p (node_in p (grown p nodes e) q) q id n) n.parent
    (λ q c. let below : q < id = c.below in
    subst (λ (m : Node). IsChildOf p m q id n)
    (sym (get_or-grown p nodes e (root_node p) q (omega (arith, below, born)))) c) h

child_line : (p : Program) (s : Settings) (past : List Entry) (put : SplitPut p s past)
    (d : Decision) (id : ℕ) → put.id < id
    → IsChildOf p (node_at p past put.id) put.id id (child_by put d)
child_line p s past put d id under =
    let parent : List Cut = (full_of p past put.id).cuts in
    let part : IsPartThenFresh (λ (c : Cut). c.id) parent (relisted put.common.cuts parent) =
    IsPartThenFresh-relisted (λ (c : Cut). c.id) put.common.cuts parent
    put.may.sound.next_ok.common_fits.ids_differ in
    record {
      ancestors = refl;
      depth = refl;
      below = under;
      part = subst (λ (l : List Cut). IsPartThenFresh (λ (c : Cut). c.id) parent l)
          (sym (child_list p past put.id put.common d)) part;
    }

-- each node stands so to its parent
pub lines : (p : Program) (s : Settings) (past : List Entry) → IsLegalPast p s past → (id : ℕ)
    → IsBorn p past id → HasLine p (nodes_of p past) id (node_at p past id)
lines p s past l id born =
    each_node p s (λ h k n. HasLine p (nodes_of p h) k n) (record {
      root = tt;
      kept = λ h e l a k b line. lines_grown p (nodes_of p h) e k (node_at p h k) b line;
      handed = λ h put b line d k under.
          subst (λ (m : Node). IsChildOf p m put.id k (child_by put d))
          (sym (get_or-grown p (nodes_of p h) (split_entry put) (root_node p) put.id b))
          (child_line p s h put d k under);
    }) past l id born

-- a node stands so to the parent that it has
pub line_to : (p : Program) (s : Settings) (past : List Entry) → IsLegalPast p s past → (id : ℕ)
    → id < length (nodes_of p past) → (q : ℕ) → (node_at p past id).parent ≡ Some q
    → IsChildOf p (node_at p past q) q id (node_at p past id)
line_to p s past l id born q e =
    subst (λ (o : Option ℕ). IfSome o (λ k. IsChildOf p (node_in p (nodes_of p past) k) k id
    (node_at p past id))) e (lines p s past l id born)
