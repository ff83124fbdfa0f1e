use Rattle.std.proofs.Common.{◌≡◌, ◌≤◌, ◌*◌, ◌^◌, take, None}
use Rattle.bl_problem.specs.Sums.{IsWithin}
use Rattle.bl_cover.specs.Covers.{first_misfit, least_at, listed_sum}
use Rattle.bl_cover.proofs.knapsack.listed_sum.Given as goal

abbrev pub invariant-loop-place : goal.invariant-loop-place
invariant-loop-place l = record {
  fits : first_misfit l.columns l.terms l.listed l.place ≡ None;
  above : least_at l.listed l.place ≡ l.above;
  exact : listed_sum l.terms (take l.place l.listed) ≡ l.sum;
  within : IsWithin (l.place * 10 ^ 15) l.sum;
  place : l.place ≤ l.above;
  below : l.above ≤ 1000;
}
