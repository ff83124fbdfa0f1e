use Rattle.std.proofs.Common.{◌≡◌, take, length}
use Rattle.std.specs.List.{fold}
use Rattle.bl_factor.specs.Elimination.{eliminated}
use Rattle.bl_factor.specs.Etas.{elimination_of}
use Rattle.bl_factor.proofs.eta.apply_all.Given as goal

abbrev pub invariant-loop-eta : goal.invariant-loop-eta
invariant-loop-eta l = fold (λ ys eta. eliminated (elimination_of (length l.initial.right) eta)
    ys) l.initial.right (take l.eta-index l.etas) ≡ l.right
