use Rattle.std.proofs.Common.{◌≡◌, ◌<◌, ◌+◌, ◌++◌, ◌∷◌, ◌∙◌, [], ℕ, ap, arith, drop, get_or}
use Rattle.std.proofs.Common.{length, map, pos, refl, replicate, subst, suc, sym}
use Rattle.std.proofs.lemmas.List.{drop_more, get_or-replicate, length-replicate}
use Rattle.bl_problem.specs.declared.problem.Column.{Column}
use Rattle.bl_write.specs.Cursors.{IsAt}
use Rattle.bl_write.specs.Written.{cells_lines, coefficient_in, cost_of, nonzero, number_line}
use Rattle.bl_write.proofs.Cursor.{at_start}
use Rattle.bl_write.proofs.Texts.{and_then, pushed}
use Rattle.bl_write.proofs.cells.push_cells.Goals as goal

no_column : Column
no_column = record { name = []; low = pos 0; high = pos 0; cost = pos 0 }

zero_at : (n k : ℕ) → k < n → get_or (replicate {A = ℕ} n 0) k 0 ≡ 0
zero_at n k lt = get_or-replicate n k 0 0 lt

pub loop-j-init : goal.loop-j-init
loop-j-init c =
    let p = c.args.problem.now in
    let cursors = c.in_ok-cursors.cursors.items in
    let zeros : (k : ℕ) → k < length p.rows → get_or cursors k 0 ≡ 0 =
    λ k lt. ap (λ xs. get_or xs k 0) (c.in_ok-cursors.ensures.items_if_clones_equal
    (λ y e. e)) ∙ zero_at (length c.rows.result.now) k
    (omega (arith, lt, ap length c.rows.ensures.rows)) in (
      refl,
      record {
        as_many = ap length (c.in_ok-cursors.ensures.items_if_clones_equal (λ y e. e))
            ∙ length-replicate (length c.rows.result.now) 0 ∙ ap length c.rows.ensures.rows;
        each = λ k r lt. subst (λ n. IsAt (get_or p.rows k r).terms n 0) (sym (zeros k lt))
            (at_start (length p.columns) (get_or p.rows k r).terms
            (c.rows.ensures.program.rows k r lt).terms);
      },
    )

pub loop-j-preserved : goal.loop-j-preserved
loop-j-preserved c =
    let p = c.args.problem.now in
    let j = c.loop-j.j in
    let within : j < length p.columns = omega (arith, ap length c.columns-j-end.ensures.columns) in
    let column = get_or p.columns j no_column in
    let rest = drop (j + 1) p.columns in
    let line = number_line column.name in
    let others = nonzero (map (coefficient_in j) p.rows) in
    let items = c.loop-j.text.items in
    let mid = c.push_cost.new.text.items in
    let new = c.push_coefficients.new.text.items in (
      pushed c.args.text.now.items items new (cells_lines p 0 p.columns)
          (cells_lines p j (drop j p.columns)) (map line (cost_of p column ∷ others))
          (cells_lines p (j + 1) rest)
          (ap (cells_lines p j) (drop_more p.columns j no_column within)
          ∙ ap (λ k. map line (cost_of p column ∷ others) ++ cells_lines p k rest)
          (let e : suc j ≡ j + 1 = omega arith in e))
          (and_then items mid new (line (cost_of p column) ∷ []) (map line others)
          (c.in_ok-push_cost.ensures no_column)
          (c.in_ok-push_coefficients.ensures.lines no_column))
          c.loop-j.invariant.0,
      c.in_ok-push_coefficients.ensures.at,
    )
