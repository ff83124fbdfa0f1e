use Rattle.std.proofs.Common.{◌≡◌, ◌+◌, ◌*◌, ◌^◌, ◌+ℤ◌, ◌*ℤ◌}
use Rattle.std.specs.Int.{int_min}
use Rattle.bl_num.specs.Exact.{sum_below, at}
use Rattle.bl_problem.specs.Sums.{IsWithin}
use Rattle.bl_problem.specs.Points.{costs_of}
use Rattle.bl_problem.proofs.point.least_sum.Given as goal

abbrev pub invariant-loop-j : goal.invariant-loop-j
invariant-loop-j l = record {
  exact : l.sum ≡ l.offset +ℤ sum_below l.j
      (λ j. int_min (at (costs_of l.columns) j *ℤ at l.lows j)
      (at (costs_of l.columns) j *ℤ at l.highs j));
  within : IsWithin ((l.j + 1) * 10 ^ 24) l.sum;
}
