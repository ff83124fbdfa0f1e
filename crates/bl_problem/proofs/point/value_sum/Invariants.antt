use Rattle.std.proofs.Common.{◌≡◌, ◌+◌, ◌*◌, ◌^◌, ◌+ℤ◌, ◌*ℤ◌}
use Rattle.bl_num.specs.Exact.{sum_below, at}
use Rattle.bl_problem.specs.Sums.{IsWithin}
use Rattle.bl_problem.specs.Points.{costs_of}
use Rattle.bl_problem.proofs.point.value_sum.Given as goal

abbrev pub invariant-loop-j : goal.invariant-loop-j
invariant-loop-j l = record {
  exact : l.sum ≡ l.offset +ℤ sum_below l.j (λ j. at (costs_of l.columns) j *ℤ at l.point j);
  within : IsWithin ((l.j + 1) * 10 ^ 24) l.sum;
}
