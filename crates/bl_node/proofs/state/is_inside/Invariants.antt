use Rattle.std.proofs.Common.{ℕ, ◌<◌, ◌≤ℤ◌}
use Rattle.bl_num.specs.Exact.{at}
use Rattle.bl_node.proofs.state.is_inside.Given as goal

abbrev pub invariant-loop-j : goal.invariant-loop-j
invariant-loop-j l = (k : ℕ) → k < l.j → (at l.fn.lows k ≤ℤ at l.fn.point k)
    × (at l.fn.point k ≤ℤ at l.fn.highs k)
