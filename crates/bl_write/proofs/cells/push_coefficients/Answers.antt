use Rattle.std.proofs.Common.{◌≡◌, ◌<◌, ◌+◌, ◌∷◌, ◌∙◌, [], None, ap, arith, drop, get_or, length}
use Rattle.std.proofs.Common.{map, refl, subst, sym}
use Rattle.std.proofs.lemmas.List.{drop_more, get_or_default, length-set}
use Rattle.bl_problem.specs.declared.problem.Row.{Row}
use Rattle.bl_write.specs.Cursors.{IsAt}
use Rattle.bl_write.specs.Written.{coefficient_in, nonzero, number_line}
use Rattle.bl_write.proofs.Cursor.{gone_on, not_yet}
use Rattle.bl_write.proofs.Texts.{nonzero_step, pushed}
use Rattle.bl_write.proofs.cells.push_coefficients.Goals as goal

no_row : Row
no_row = record { name = []; terms = []; low = None; high = None }

pub loop-i-init : goal.loop-i-init
loop-i-init c = (
  λ column. refl,
  c.requires.at.as_many,
  λ k r l lt. absurd (omega (arith, l)),
  λ k r l lt. c.requires.at.each k r lt,
)

pub push_coefficient-requires-clause-at : goal.push_coefficient-requires-clause-at
push_coefficient-requires-clause-at c = λ r.
    let rows = c.args.problem.now.rows in
    let cursors = c.loop-i.cursors.items in
    let i = c.loop-i.i in
    let within : i < length rows = omega (arith, ap length c.rows-i-end.ensures.rows) in
    let is : c.index.result.now ≡ get_or cursors i 0 =
    c.index.ensures ∙ get_or_default cursors i c.index.result.now 0
    (omega (arith, within, c.loop-i.invariant.1)) in
    subst (λ k. IsAt (get_or rows i r).terms k c.args.j) (sym is)
    (c.loop-i.invariant.3 i r (omega arith) within)

pub loop-i-preserved : goal.loop-i-preserved
loop-i-preserved c =
    let rows = c.args.problem.now.rows in
    let columns = c.args.problem.now.columns in
    let j = c.args.j in
    let cursors = c.loop-i.cursors.items in
    let i = c.loop-i.i in
    let next = c.in_ok-cursors.field-0 in
    let within : i < length rows = omega (arith, ap length c.rows-i-end.ensures.rows) in
    let row = get_or rows i no_row in
    let rest = drop (i + 1) rows in
    let drops : drop i rows ≡ row ∷ rest = drop_more rows i no_row within in (
      λ column.
          let line = number_line (get_or columns j column).name in
          pushed c.args.text.now.items c.loop-i.text.items c.push_coefficient.new.text.items
          (map line (nonzero (map (coefficient_in j) rows)))
          (map line (nonzero (map (coefficient_in j) (drop i rows))))
          (map line (nonzero (coefficient_in j row ∷ [])))
          (map line (nonzero (map (coefficient_in j) rest)))
          (ap (λ rs. map line (nonzero (map (coefficient_in j) rs))) drops
          ∙ nonzero_step line (coefficient_in j row) (map (coefficient_in j) rest))
          (c.in_ok-cursors.ensures.lines column no_row)
          (c.loop-i.invariant.0 column),
      length-set cursors i next ∙ c.loop-i.invariant.1,
      gone_on rows cursors i j next c.loop-i.invariant.1 within c.in_ok-cursors.ensures.at
          c.loop-i.invariant.2,
      not_yet rows cursors i j next c.loop-i.invariant.1 within c.loop-i.invariant.3,
    )

pub returns-clause-at : goal.returns-clause-at
returns-clause-at c = record {
  as_many = c.loop-i.invariant.1;
  each =
      λ k r lt. c.loop-i.invariant.2 k r (omega (arith, lt, ap length c.rows-i-end.ensures.rows)) lt;
}
