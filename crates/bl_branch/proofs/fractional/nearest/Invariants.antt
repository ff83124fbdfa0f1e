use Rattle.bl_branch.specs.Fractions.{IsNearest}
use Rattle.bl_branch.proofs.fractional.nearest.Given as goal

abbrev pub invariant-loop-j : goal.invariant-loop-j
invariant-loop-j l = IsNearest l.lows l.highs l.point l.j l.nearest
