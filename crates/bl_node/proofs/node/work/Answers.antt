use Rattle.bl_node.proofs.node.work.Goals as goal

pub returns : goal.returns
returns g c = rw c.new-separator.ensures at c.work_with.ensures
