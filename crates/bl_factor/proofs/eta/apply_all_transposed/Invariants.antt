use Rattle.std.proofs.Common.{◌≡◌, drop, length}
use Rattle.bl_factor.specs.Elimination.{transposed_image_under}
use Rattle.bl_factor.specs.Etas.{eliminations}
use Rattle.bl_factor.proofs.eta.apply_all_transposed.Given as goal

abbrev pub invariant-loop-i : goal.invariant-loop-i
invariant-loop-i l = transposed_image_under
    (eliminations (length l.initial.right) (drop l.i l.etas)) l.initial.right ≡ l.right
