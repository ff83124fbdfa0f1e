use Rattle.std.proofs.Common.{rules, ◌≡◌, ◌^◌, Some, ℤ, pos, ◌-ℤ◌, ◌≤ℤ◌, FitsSigned, to_z, of_z}
use Rattle.std.proofs.Common.{arith, ap, sym, ◌∙◌, subst}
use Rattle.std.specs.Prelude.{reverse}
use Rattle.std.specs.Int.{w128}
use Rattle.std.proofs.lemmas.Int.{ints, to_z-of_z}
use Rattle.bl_problem.specs.Program.{Program, IsProgram}
use Rattle.bl_problem.specs.Sums.{IsWithin}
use Rattle.bl_journal.specs.States.{best_of, value_if, cutoff_for}
use Rattle.bl_journal.specs.declared.limits.TheConstants.{LARGEST_GAP}
use Rattle.bl_journal.proofs.Meaning.{best_good}
use Rattle.bl_tree.specs.Views.{TreeView, past_of}
use Rattle.bl_tree.proofs.Values.{best_near, cutoff_is}
use Rattle.bl_tree.proofs.tree.Tree.cutoff.Goals as goal

-- the numbers are what they are as machine words
same : (c : goal.After-result-1) → (to_z w128 (of_z w128 c.in_ok-value.value)
    ≡ c.in_ok-value.value) × (to_z w128 (of_z w128 c.self.inside.settings.gap)
    ≡ c.self.inside.settings.gap)
same c =
    let value : FitsSigned w128 c.in_ok-value.value = search rules in
    let gap : FitsSigned w128 c.self.inside.settings.gap = search rules in
    (to_z-of_z w128 _ value, to_z-of_z w128 _ gap)

-- the difference fits
fits : (c : goal.After-result-1)
    → FitsSigned w128 (c.in_ok-value.value -ℤ c.self.inside.settings.gap)
fits c =
    let k = c.self.invariant.follows in
    let w : IsProgram c.self.inside.problem =
    subst (λ (p : Program). IsProgram p) c.get.ensures c.columns-columns.ensures.program in
    let best : value_if (best_of c.self.inside.problem (reverse c.self.inside.journal.entries))
    ≡ Some c.in_ok-value.value = sym k.best_is ∙ c.in_ok-value.was in
    let near : IsWithin (10 ^ 28) c.in_ok-value.value =
    best_near _ _ _ w (best_good c.self.inside.problem c.self.inside.settings _ k.legal) best in
    let some : pos 0 ≤ℤ c.self.inside.settings.gap = k.gap_some in
    let few : c.self.inside.settings.gap ≤ℤ LARGEST_GAP = k.gap_few in
    omega (arith, ints, near, some, few)

pub overflow_sub-result : goal.overflow_sub-result
overflow_sub-result c = rw ((same c).0, (same c).1) (fits c)

pub returns : goal.returns
returns c =
    let k = c.self.invariant.follows in
    let best : value_if (best_of c.self.inside.problem (reverse c.self.inside.journal.entries))
    ≡ Some c.in_ok-value.value = sym k.best_is ∙ c.in_ok-value.was in
    let is = cutoff_is c.self.inside.settings.gap _ _ best in
    ap Some (ap (λ (z : ℤ). to_z w128 (of_z w128 z))
    (ap (λ (z : ℤ). z -ℤ to_z w128 (of_z w128 c.self.inside.settings.gap)) (same c).0
    ∙ ap (λ (z : ℤ). c.in_ok-value.value -ℤ z) (same c).1) ∙ to_z-of_z w128 _ (fits c))
    ∙ (sym is ∙ ap (λ (t : TreeView). cutoff_for t.problem t.settings (past_of t)) c.self.view_is)
