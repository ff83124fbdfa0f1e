use Rattle.std.proofs.Common.{◌≡◌, take}
use Rattle.bl_cover.specs.Greedy.{candidates}
use Rattle.bl_cover.proofs.greedy.list.Given as goal

abbrev pub invariant-loop-term : goal.invariant-loop-term
invariant-loop-term l = candidates l.columns l.point (take l.term-index l.terms) ≡ l.order.items
