use Rattle.std.proofs.Common.{◌≡◌, ◌+◌, ◌-◌, ◌≤◌, length, drop, ◌++◌}
use Rattle.bl_mods.specs.InTurn.{overlaid}
use Rattle.bl_mods.proofs.in_turn.overlay.Given as goal

abbrev pub invariant-loop-step : goal.invariant-loop-step
invariant-loop-step g l = record {
  rest : l.both ++ overlaid (drop l.at l.first) (drop l.next l.later) ≡ overlaid l.first l.later;
  at : l.at ≤ length l.first;
  next : l.next ≤ length l.later;
}

abbrev pub decreases-loop-step : goal.decreases-loop-step
decreases-loop-step g l = length l.first + length l.later - (l.at + l.next)
