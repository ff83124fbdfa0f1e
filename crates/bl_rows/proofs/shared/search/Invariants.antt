use Rattle.bl_rows.specs.Shared.{IsAt}
use Rattle.bl_rows.proofs.shared.search.Given as goal

abbrev pub invariant-loop : goal.invariant-loop
invariant-loop g l = IsAt l.tree l.fn.size.high l.fn.size.nodes l.seat
