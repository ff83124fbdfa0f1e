use Rattle.std.proofs.Common.{◌≡◌, ◌+◌, ◌-◌, ◌≤◌, length, drop, ◌++◌}
use Rattle.bl_mods.specs.InTurn.{dropped_in_turn}
use Rattle.bl_mods.proofs.in_turn.drop_in_turn.Given as goal

abbrev pub invariant-loop-step : goal.invariant-loop-step
invariant-loop-step l = record {
  rest : l.both ++ dropped_in_turn l.at (drop l.at l.first) (drop l.next l.later)
      ≡ dropped_in_turn 0 l.first l.later;
  at : l.at ≤ length l.first;
  next : l.next ≤ length l.later;
}

abbrev pub decreases-loop-step : goal.decreases-loop-step
decreases-loop-step l = length l.first + length l.later - (l.at + l.next)
