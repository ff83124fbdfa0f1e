use Rattle.std.proofs.Common.{◌≡◌, ◌+◌, ◌*◌, ◌^◌, ◌+ℤ◌}
use Rattle.bl_num.specs.Exact.{sum_below, at}
use Rattle.bl_problem.specs.Sums.{IsWithin}
use Rattle.bl_problem.specs.Points.{costs_of}
use Rattle.bl_bound.specs.Units.{least_at}
use Rattle.bl_bound.proofs.units.box_sum.Given as goal

abbrev pub invariant-loop-j : goal.invariant-loop-j
invariant-loop-j l = record {
  exact : l.sum ≡ l.offset +ℤ sum_below l.j
      (λ j. least_at l.lows l.highs j (at (costs_of l.columns) j));
  within : IsWithin ((l.j + 1) * 10 ^ 24) l.sum;
}
