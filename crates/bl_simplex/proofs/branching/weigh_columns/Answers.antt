use Rattle.bl_simplex.proofs.branching.weigh_columns.Goals as goal

pub loop-place-init : goal.loop-place-init
loop-place-init c = c.none-choice.ensures _ _
