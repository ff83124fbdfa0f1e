use Rattle.bl_rows.specs.Shared.{IsAt}
use Rattle.bl_rows.proofs.shared.store_each.Given as goal

abbrev pub invariant-loop-id : goal.invariant-loop-id
invariant-loop-id g l = IsAt l.tree l.fn.size.high l.fn.size.nodes l.seat
