use Rattle.std.proofs.Common.{sym, ◌∙◌}
use Rattle.bl_pool.specs.Heaps.{key_of}
use Rattle.bl_pool.proofs.HeapSteps.{right_least}
use Rattle.bl_pool.proofs.heap.first_child.Goals as goal

pub returns-then-is_before-clause-least : goal.returns-then-is_before-clause-least
returns-then-is_before-clause-least c = λ i i_pos i_in child. right_least c.args.order
    (key_of c.args.keys.now) c.args.at i i_pos child (sym c.is_before.ensures ∙ c.if-is_before.true)
