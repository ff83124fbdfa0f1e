use Rattle.std.proofs.Common.{rules, FitsSigned, sym, ◌∙◌}
use Rattle.std.specs.Int.{w128}
use Rattle.std.proofs.lemmas.Int.{to_z-of_z}
use Rattle.bl_grid.proofs.OnGrid.{last-some}
use Rattle.bl_grid.proofs.rounding.last_cutoff.Goals as goal

pub returns : goal.returns
returns c =
    let b : FitsSigned w128 c.args.cutoff = search rules in
    let i : FitsSigned w128 c.in_ok-limit.limit = search rules in
    let o : FitsSigned w128 c.offset.result = search rules in
    let g : FitsSigned w128 c.args.grid = search rules in
    let w : FitsSigned w128 c.in_ok-above.above = search rules in
    let v : FitsSigned w128 c.floor_div.result = search rules in
    let u : FitsSigned w128 c.in_ok-steps.steps = search rules in
    let n : FitsSigned w128 c.offset-2.result = search rules in
    let k : FitsSigned w128 c.in_ok-last.last = search rules in
    let r = simp to_z-of_z at c.sub.ensures in
    let s = simp to_z-of_z at c.sub-2.ensures in
    let t = simp to_z-of_z at c.floor_div.ensures in
    let m = simp to_z-of_z at c.mul.ensures in
    let a = simp to_z-of_z at c.add.ensures in
    let e = simp to_z-of_z at c.add-2.ensures in
    last-some c.args.problem.now c.args.grid c.args.cutoff c.in_ok-limit.limit c.in_ok-above.above
    c.in_ok-steps.steps c.in_ok-last.last c.add-2.result c.requires.counted c.requires.divides
    (sym r ∙ c.in_ok-limit.was) (rw (← c.offset.ensures) (sym s ∙ c.in_ok-above.was))
    (rw (← t) (sym m ∙ c.in_ok-steps.was))
    (rw (← c.offset-2.ensures) (sym a ∙ c.in_ok-last.was)) e
