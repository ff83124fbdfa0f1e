use Rattle.std.proofs.Common.{ℕ, ◌<◌, ◌≤ℤ◌}
use Rattle.bl_num.specs.Exact.{at}
use Rattle.bl_node.proofs.node.has_two.Given as goal

abbrev pub invariant-loop-j : goal.invariant-loop-j
invariant-loop-j l = (k : ℕ) → k < l.j → at l.highs k ≤ℤ at l.lows k
