use Rattle.std.proofs.Common.{take}
use Rattle.bl_cuts.specs.OneRow.{AreAboveLows}
use Rattle.bl_cuts.proofs.one_row.is_above_lows.Given as goal

abbrev pub invariant-loop-term : goal.invariant-loop-term
invariant-loop-term l = AreAboveLows l.split (take l.term-index l.terms)
