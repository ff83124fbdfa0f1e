-- What the steps make is the stated sum.
use Rattle.std.proofs.Common.{◌≡◌, ℕ, ◌<◌, ◌+◌, ℤ, ◌*ℤ◌, List, length, All, Option, sym, ◌∙◌, ap}
use Rattle.std.proofs.Common.{arith}
use Rattle.std.proofs.lemmas.List.{length-map}
use Rattle.bl_num.specs.Exact.{at}
use Rattle.bl_num.specs.Checked.{i128_of, checked_sum}
use Rattle.bl_problem.specs.Rows.{AreTerms}
use Rattle.bl_problem.specs.Program.{Program, IsProgram}
use Rattle.bl_problem.specs.Points.{costs_of}
use Rattle.bl_problem.specs.declared.problem.Column.{Column}
use Rattle.bl_problem.specs.declared.problem.Row.{Row}
use Rattle.bl_problem.specs.declared.cut.Cut.{Cut}
use Rattle.bl_desc.specs.declared.desc.Desc.{Desc}
use Rattle.bl_bound.specs.Lines.{Line, lines_of}
use Rattle.bl_bound.specs.Bounds.{sum_at, taken, reduced_cost, column_part, column_value}
use Rattle.bl_bound.specs.Bounds.{line_value, bound_sum, multiplier_sum_of, AreReducedCosts}
use Rattle.bl_bound.specs.Descriptions.{Describes}
use Rattle.bl_bound.specs.Steps.{part_at}
use Rattle.bl_bound.proofs.LineLemmas.{length-lines_of}
use Rattle.bl_bound.proofs.Columns.{checked_sum-same}
use Rattle.bl_bound.proofs.Meets.{lines_terms}

-- the terms of all lines, where the lists are the problem's and the description's
pub moved-terms : (p : Program) (desc : Desc Cut) (rows : List Row) (cuts : List Cut) (n : ℕ)
    → IsProgram p → Describes p desc →
    rows ≡ p.rows → cuts ≡ desc.cuts → n ≡ length p.columns
    → All (λ line. AreTerms n line.terms) (lines_of rows cuts)
moved-terms p desc rows cuts n h s r c e = rw (r, c, e) (lines_terms p desc h s)

-- the columns' sums that the lines leave
pub AreReduced : List (Option ℤ) → List ℤ → List Line → List ℤ → ℤ → Type 0
AreReduced sums costs lines y d = (j : ℕ) → j < length sums → sum_at sums j
    ≡ checked_sum (i128_of (d *ℤ at costs j)) (length y) (taken lines y j)

pub sum_is : (offset : ℤ) (costs lows highs : List ℤ) (lines : List Line) (y : List ℤ) (d : ℤ)
    (sums : List (Option ℤ)) (start columns whole : Option ℤ) →
    length sums ≡ length costs → length y ≡ length lines → AreReduced sums costs lines y d →
    start ≡ i128_of (d *ℤ offset) →
    columns ≡ checked_sum start (length sums) (part_at sums lows highs) →
    whole ≡ checked_sum columns (length y) (line_value lines y) →
    whole ≡ bound_sum offset costs lows highs lines y d
unfolding AreReduced
sum_is offset costs lows highs lines y d sums start columns whole w m h a b e =
    let parts = checked_sum-same (i128_of (d *ℤ offset)) (length sums) (part_at sums lows highs)
    (column_value costs lows highs lines y d)
    (λ k l. ap (λ (o : Option ℤ). column_part o (at lows k) (at highs k))
    (h k l ∙ ap (λ (n : ℕ). checked_sum (i128_of (d *ℤ at costs k)) n (taken lines y k)) m)) in
    let c = b ∙ ap (λ (o : Option ℤ). checked_sum o (length sums) (part_at sums lows highs)) a
    ∙ parts ∙ ap (λ (n : ℕ). checked_sum (i128_of (d *ℤ offset)) n
    (column_value costs lows highs lines y d)) w in
    e ∙ ap (λ (n : ℕ). checked_sum columns n (line_value lines y)) m
    ∙ ap (λ (o : Option ℤ). checked_sum o (length lines) (line_value lines y)) c

pub length-lines : (p : Program) (desc : Desc Cut) (y : List ℤ) → length y ≡ length p.rows
    + length desc.cuts → length y ≡ length (lines_of p.rows desc.cuts)
length-lines p desc y e = e ∙ sym (length-lines_of p.rows desc.cuts)

pub length-costs : (columns : List Column) → length (costs_of columns) ≡ length columns
length-costs columns = length-map columns (λ (c : Column). c.cost)

-- the lists that a call read are those of the problem and of the description
pub record AreRead (p : Program) (desc : Desc Cut) (columns : List Column) (rows : List Row)
    (cuts : List Cut) (lows highs : List ℤ) (offset : ℤ) : Type 0 where
  pub columns_are : columns ≡ p.columns
  pub rows_are : rows ≡ p.rows
  pub cuts_are : cuts ≡ desc.cuts
  pub lows_are : lows ≡ desc.lows
  pub highs_are : highs ≡ desc.highs
  pub offset_is : offset ≡ p.offset

pub whole_sum : (p : Program) (desc : Desc Cut) (columns : List Column) (rows : List Row)
    (cuts : List Cut) (lows highs : List ℤ) (offset : ℤ) (y : List ℤ) (d : ℤ)
    (costs sums : List (Option ℤ)) (start sum whole : Option ℤ)
    → AreRead p desc columns rows cuts lows highs offset →
    length costs ≡ length columns → length sums ≡ length costs → length y ≡ length p.rows
    + length desc.cuts →
    ((j : ℕ) → j < length columns → sum_at costs j ≡ i128_of (d *ℤ at (costs_of columns) j)) →
    ((j : ℕ) → j < length costs → sum_at sums j ≡ checked_sum (sum_at costs j) (length y)
    (taken (lines_of rows cuts) y j)) →
    start ≡ i128_of (d *ℤ offset) →
    sum ≡ checked_sum start (length sums) (part_at sums lows highs) →
    whole ≡ checked_sum sum (length y) (line_value (lines_of rows cuts) y) →
    whole ≡ multiplier_sum_of p desc y d
unfolding AreReduced
whole_sum p desc columns rows cuts lows highs offset y d costs sums start sum whole r w v m h k a
    b e =
    let reduced = λ (j : ℕ) (l : j < length sums). k j (omega (arith, v))
    ∙ ap (λ (o : Option ℤ). checked_sum o (length y) (taken (lines_of rows cuts) y j))
    (h j (omega (arith, v, w))) in
    let n = length-lines_of rows cuts in
    let many : length y ≡ length (lines_of rows cuts) =
    rw (r.rows_are, r.cuts_are) (length-lines p desc y m) in
    let t = sum_is offset (costs_of columns) lows highs (lines_of rows cuts) y d sums start sum
    whole (v ∙ w ∙ sym (length-costs columns)) many reduced a b e in
    rw (r.columns_are, r.rows_are, r.cuts_are, r.lows_are, r.highs_are, r.offset_is) at t

-- what the lines leave of the costs are the reduced costs
pub reduced : (p : Program) (desc : Desc Cut) (columns : List Column) (rows : List Row)
    (cuts : List Cut) (y : List ℤ) (d : ℤ) (costs sums : List (Option ℤ)) →
    columns ≡ p.columns → rows ≡ p.rows → cuts ≡ desc.cuts →
    length costs ≡ length columns → length sums ≡ length costs → length y ≡ length p.rows
    + length desc.cuts →
    ((j : ℕ) → j < length columns → sum_at costs j ≡ i128_of (d *ℤ at (costs_of columns) j)) →
    ((j : ℕ) → j < length costs → sum_at sums j ≡ checked_sum (sum_at costs j) (length y)
    (taken (lines_of rows cuts) y j)) →
    AreReducedCosts p desc y d sums
reduced p desc columns rows cuts y d costs sums a b c w v m h k =
    let many : length y ≡ length (lines_of rows cuts) = rw (b, c) (length-lines p desc y m) in
    let each : (j : ℕ) → j < length columns → sum_at sums j
    ≡ reduced_cost (d *ℤ at (costs_of columns) j) (lines_of rows cuts) y j =
    λ j l.
    k j (omega (arith, w, l)) ∙ ap
    (λ (o : Option ℤ). checked_sum o (length y) (taken (lines_of rows cuts) y j)) (h j l)
    ∙ ap (λ (n : ℕ). checked_sum (i128_of (d *ℤ at (costs_of columns) j)) n
    (taken (lines_of rows cuts) y j)) many in
    record { width = v ∙ w ∙ ap length a; each = rw (a, b, c) at each }
