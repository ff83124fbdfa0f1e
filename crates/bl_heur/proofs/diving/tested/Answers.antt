use Rattle.std.proofs.Common.{refl, inl}
use Rattle.bl_problem.specs.Points.{InBox, IsFeasible}
use Rattle.bl_heur.proofs.Feasible.{found}
use Rattle.bl_heur.proofs.diving.tested.Goals as goal

pub returns-then-is_feasible : goal.returns-then-is_feasible
returns-then-is_feasible c =
    let b : InBox c.args.desc.now.lows c.args.desc.now.highs c.args.point =
    rw (c.as_slice-entries.ensures, c.as_slice-lows.ensures, c.as_slice-highs.ensures) at
    (c.if-is_inside.ensures.0 refl) in
    let f : IsFeasible c.args.problem.now c.args.point =
    rw c.as_slice-entries.ensures at (c.if-is_feasible.ensures.0 refl) in
    inl (refl, found c.args.problem.now c.args.desc.now c.args.point c.requires.suits f b)
