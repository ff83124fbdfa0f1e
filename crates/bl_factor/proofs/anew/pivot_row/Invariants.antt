use Rattle.bl_factor.specs.Support.{IsPivotRow}
use Rattle.bl_factor.proofs.anew.pivot_row.Given as goal

abbrev pub invariant-loop-listed : goal.invariant-loop-listed
invariant-loop-listed l = IsPivotRow l.image l.best
