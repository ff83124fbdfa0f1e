use Rattle.std.proofs.Common.{◌≡◌, ℤ, List, drop}
use Rattle.bl_cuts.specs.OneRow.{row_breaks, IsSplit, AreUnbroken}
use Rattle.bl_cuts.specs.Separations.{first_size}
use Rattle.bl_cuts.specs.declared.separation.Candidate.{Candidate}
use Rattle.bl_cuts.proofs.separation.first_size.Given as goal

abbrev pub invariant-loop-term : goal.invariant-loop-term
invariant-loop-term l = record {
  first :
      (x : List ℤ) → IsSplit l.split x →
      first_size (λ (c : Candidate). row_breaks l.split.lows x l.terms l.weight l.over c.q) l.row
      l.weight l.terms ≡ first_size (λ (c : Candidate). row_breaks l.split.lows x l.terms
      l.weight l.over c.q) l.row l.weight (drop l.term-index l.terms);
  tried : (x : List ℤ) → IsSplit l.split x → AreUnbroken l.split.lows x l.terms l.weight l.over
      l.tried.items;
}
