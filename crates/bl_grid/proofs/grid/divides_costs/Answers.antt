use Rattle.std.proofs.Common.{rules, FitsSigned, get_or}
use Rattle.std.specs.Int.{w64}
use Rattle.std.proofs.lemmas.Int.{to_z-of_z}
use Rattle.bl_grid.proofs.OnGrid.{more, covers}
use Rattle.bl_grid.proofs.grid.divides_costs.Goals as goal

pub loop-j-preserved : goal.loop-j-preserved
loop-j-preserved c =
    let d : FitsSigned w64 c.args.divisor = search rules in
    let cost : FitsSigned w64 (get_or c.columns-columns.result.now c.loop-j.j
    c.index-columns-j.result).cost = search rules in
    let m = simp to_z-of_z at (c.is_multiple.ensures c.if-not-is_multiple.false) in
    rw (to_z-of_z w64 c.args.divisor d) (more c.columns-columns.result.now c.args.divisor
    c.loop-j.j c.index-columns-j.result c.loop-j-test.true
    (simp to_z-of_z at c.loop-j.invariant) m)

pub returns : goal.returns
returns c e =
    let d : FitsSigned w64 c.args.divisor = search rules in
    covers c.args.problem.now c.args.divisor c.columns-columns.result.now c.loop-j.j
    c.columns-columns.ensures.columns c.loop-j-test.false (simp to_z-of_z at c.loop-j.invariant)
