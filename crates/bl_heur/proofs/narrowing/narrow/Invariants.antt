use Rattle.std.proofs.Common.{◌≡◌, length, drop}
use Rattle.bl_heur.specs.Dives.{narrowed}
use Rattle.bl_heur.proofs.narrowing.narrow.Given as goal

abbrev pub invariant-loop-decision : goal.invariant-loop-decision
invariant-loop-decision l = record {
  rest : narrowed l.desc (drop l.decision-index l.decisions) ≡ narrowed l.initial.desc l.decisions;
  lows : length l.desc.lows ≡ length l.initial.desc.lows;
  highs : length l.desc.highs ≡ length l.initial.desc.highs;
}
