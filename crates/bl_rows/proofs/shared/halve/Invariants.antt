use Rattle.bl_rows.proofs.shared.halve.Given as goal

abbrev pub invariant-loop-column : goal.invariant-loop-column
invariant-loop-column l = Unit {0}
