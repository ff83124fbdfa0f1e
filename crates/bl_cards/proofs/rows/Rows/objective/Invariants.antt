use Rattle.std.proofs.Common.{◌≡◌, take, false}
use Rattle.bl_cards.specs.Lines.{has_objective}
use Rattle.bl_cards.proofs.rows.Rows.objective.Given as goal

abbrev pub invariant-loop-place : goal.invariant-loop-place
invariant-loop-place l = has_objective (take l.place l.self) ≡ false
