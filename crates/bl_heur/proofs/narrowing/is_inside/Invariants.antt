use Rattle.std.proofs.Common.{ℕ, ◌<◌, ◌≤ℤ◌}
use Rattle.bl_num.specs.Exact.{at}
use Rattle.bl_heur.proofs.narrowing.is_inside.Given as goal

abbrev pub invariant-loop-j : goal.invariant-loop-j
invariant-loop-j l = (k : ℕ) → k < l.j → (at l.lows k ≤ℤ at l.point k)
    × (at l.point k ≤ℤ at l.highs k)
