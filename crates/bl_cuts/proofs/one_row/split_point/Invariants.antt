use Rattle.std.proofs.Common.{◌≡◌, ◌<◌, ◌*ℤ◌, ◌+ℤ◌, ℕ, take}
use Rattle.bl_num.specs.Exact.{at}
use Rattle.bl_fixed.specs.Fixed.{one}
use Rattle.bl_problem.specs.Points.{lows_of}
use Rattle.bl_cuts.specs.Separations.{raws_of}
use Rattle.bl_cuts.specs.OneRow.{IsNear}
use Rattle.bl_cuts.proofs.one_row.split_point.Given as goal

abbrev pub invariant-loop-j : goal.invariant-loop-j
invariant-loop-j l = record {
  lows : lows_of (take l.j l.columns) ≡ l.split.lows;
  exact : (k : ℕ) → k < l.j → at (raws_of l.point) k
      ≡ at l.split.wholes k *ℤ one +ℤ at l.split.parts k;
  near : IsNear l.j l.split;
}
