use Rattle.std.proofs.Common.{◌≡◌, ◌^◌, ◌+ℤ◌, ◌*ℤ◌, ℤ, Some, sym, ◌∙◌, ap}
use Rattle.std.proofs.lemmas.Int.{to_z-of_z}
use Rattle.std.specs.Int.{w64}
use Rattle.bl_problem.specs.Sums.{IsWithin}
use Rattle.bl_problem.specs.Points.{costs_of}
use Rattle.bl_bound.specs.Units.{end_of}
use Rattle.bl_bound.proofs.UnitSums.{end-near, row_bound_is, TotalIs, summed, total_is}
use Rattle.bl_bound.proofs.units.row_sum.Goals as goal
use Rattle.bl_bound.proofs.units.row_sum.Goals.{After-move_of-moved}

-- the end that the multiplier asks for
end : (c : After-move_of-moved) → end_of c.args.y c.args.row.now.low c.args.row.now.high
    ≡ Some c.in_ok-end.end
end c = sym (rw (to_z-of_z w64 c.args.y c.ranges.y) at c.in_ok-end.ensures)

near : (c : After-move_of-moved) → IsWithin (10 ^ 24) c.in_ok-end.end
near c = end-near c.args.y c.args.row.now.low c.args.row.now.high c.in_ok-end.end
    c.requires.row.ends (end c)

sum : (c : After-move_of-moved) → TotalIs c.args.base c.move_of-moved.result c.args.y
    c.in_ok-end.end (summed c.args.base c.move_of-moved.result c.args.y c.in_ok-end.end)
sum c = total_is c.args.base c.move_of-moved.result c.args.y c.in_ok-end.end c.requires.base
    c.move_of-moved.ensures.near c.requires.unit (near c)

pub overflow_add-result-2 : goal.overflow_add-result-2
overflow_add-result-2 c = (sum c).fits

pub returns : goal.returns
returns c =
    let m = rw (to_z-of_z w64 c.args.y c.ranges.y, c.as_slice.ensures) at
    c.move_of-moved.ensures.exact in
    row_bound_is _ c.args.base c.args.y c.in_ok-end.end (costs_of c.args.columns.now)
    c.args.lows.now c.args.highs.now c.args.row.now (end c)
    ((sum c).exact ∙ ap (λ (v : ℤ). c.args.base +ℤ v +ℤ c.args.y *ℤ c.in_ok-end.end) m)
