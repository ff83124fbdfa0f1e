use Rattle.std.proofs.Common.{arith, ◌≡◌, ◌<◌, ◌∙◌, FitsSigned, rules, List, ℕ, ℤ, ap, get_or}
use Rattle.std.proofs.Common.{length, pos, subst, sym, w64, to_z, of_z}
use Rattle.std.proofs.lemmas.Int.{to_z-of_z}
use Rattle.std.proofs.lemmas.List.{get_or_default}
use Rattle.bl_problem.specs.declared.problem.Row.{Row}
use Rattle.bl_problem.specs.Rows.{coefficient_of}
use Rattle.bl_write.specs.Cursors.{IsAt}
use Rattle.bl_write.proofs.Cursor.{at_moves, at_stays}
use Rattle.bl_write.proofs.cells.push_coefficient.Goals as goal

pub coefficient_at-coefficient-requires : goal.coefficient_at-coefficient-requires
coefficient_at-coefficient-requires c =
    let rows = c.args.problem.now.rows in
    let row = c.index-rows-i.result in
    let is : get_or rows c.args.i row ≡ row =
    sym (ap (λ rs. get_or rs c.args.i row) c.rows.ensures.rows) ∙ sym c.index-rows-i.is in
    subst (λ ts. IsAt ts c.args.cursor c.args.j)
    (ap (λ (r : Row). r.terms) is ∙ sym c.as_slice.ensures) (c.requires.at row)

-- the row of the index
same_row : (rows now : List Row) (i : ℕ) (row r : Row) → now ≡ rows → i < length rows → row
    ≡ get_or now i row → row ≡ get_or rows i r
same_row rows now i row r e lt is = is ∙ ap (λ rs. get_or rs i row) e
    ∙ get_or_default rows i row r lt

zero_back : (z : ℤ) → FitsSigned w64 z → of_z w64 z ≡ 0 → z ≡ pos 0
zero_back z fits e = sym (to_z-of_z w64 z fits) ∙ ap (to_z w64) e

zero_there : (z : ℤ) → z ≡ pos 0 → of_z w64 z ≡ 0
zero_there z e = ap (of_z w64) e

pub returns-then-coefficient-eq0-clause-at : goal.returns-then-coefficient-eq0-clause-at
returns-then-coefficient-eq0-clause-at c = λ r.
    let rows = c.args.problem.now.rows in
    let i = c.args.i in
    let j = c.args.j in
    let row = c.index-rows-i.result in
    let same = same_row rows c.rows.result.now i row r c.rows.ensures.rows c.requires.row
    c.index-rows-i.is in
    let terms = (get_or rows i r).terms in
    let value : coefficient_of terms j ≡ c.coefficient_at-coefficient.result =
    sym (c.coefficient_at-coefficient.ensures
    ∙ ap (λ ts. coefficient_of ts j) (c.as_slice.ensures ∙ ap (λ (q : Row). q.terms) same)) in
    let fits : FitsSigned w64 c.coefficient_at-coefficient.result = search rules in
    at_stays (length c.args.problem.now.columns) terms c.args.cursor j
    (c.rows.ensures.program.rows i r c.requires.row).terms.each (c.requires.at r)
    (value ∙ zero_back c.coefficient_at-coefficient.result fits c.if-coefficient-eq0.true)

pub overflow_add-result : goal.overflow_add-result
overflow_add-result c =
    let few = (c.requires.at c.index-rows-i.result).few in
    let column = c.requires.column in
    let columns = c.rows.ensures.program.few_columns in
    record { fits = omega (arith, few, column, columns) }

pub returns-clause-at : goal.returns-clause-at
returns-clause-at c = λ r.
    let rows = c.args.problem.now.rows in
    let i = c.args.i in
    let row = c.index-rows-i.result in
    let same = same_row rows c.rows.result.now i row r c.rows.ensures.rows c.requires.row
    c.index-rows-i.is in
    let terms = (get_or rows i r).terms in
    let value : coefficient_of terms c.args.j ≡ c.coefficient_at-coefficient.result =
    sym (c.coefficient_at-coefficient.ensures
    ∙ ap (λ ts. coefficient_of ts c.args.j)
    (c.as_slice.ensures ∙ ap (λ (q : Row). q.terms) same)) in
    (at_moves terms c.args.cursor c.args.j (c.requires.at r)
    (λ e. c.if-coefficient-eq0.false
    (zero_there c.coefficient_at-coefficient.result (sym value ∙ e)))).next
