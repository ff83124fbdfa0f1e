-- The lines of COLUMNS, read.
use Rattle.std.proofs.Common.{◌≡◌, ◌≢◌, ◌<◌, ◌≤◌, ◌+◌, ◌-◌, ◌∙◌, ℕ, Bool, true, false, List, []}
use Rattle.std.proofs.Common.{◌∷◌, ◌++◌, map, length, ap, sym, refl, arith, suc, codes, Some}
use Rattle.std.proofs.Common.{None, append_assoc, append-nil, All}
use Rattle.std.specs.Prelude.{AllPairs, Ok}
use Rattle.std.proofs.lemmas.Bool.{lt-leb, eq-eqb}
use Rattle.std.proofs.lemmas.List.{length_push}
use Rattle.std.proofs.lemmas.List.Elements.{All-append, All-cons, All-head, All-map, All-nil}
use Rattle.std.proofs.lemmas.List.Elements.{All-tail, All-weaker}
use Rattle.bl_num.specs.Texts.{text_of}
use Rattle.bl_problem.specs.declared.problem.Column.{Column}
use Rattle.bl_problem.specs.Program.{IsName, Program}
use Rattle.bl_cards.specs.declared.kind.Section.TheVariants.{Columns}
use Rattle.bl_cards.specs.Said.{Cell, Grid, RowLine, Said, no_set, place_of, ◌>>=◌}
use Rattle.bl_cards.specs.Lines.{at_column, cell, columns_line, has_cell}
use Rattle.bl_cards.specs.Reading.{after_line}
use Rattle.bl_write.specs.Layout.{Text}
use Rattle.bl_write.specs.Written.{Amount, amounts_of, cells_lines, coefficient_in, cost_of}
use Rattle.bl_write.specs.Written.{nonzero, number_line}
use Rattle.bl_write.proofs.Lines.{AreNames, words_laid}
use Rattle.bl_write.proofs.Names.{Apart, AreNew, IsKnown, known_word, new_column, new_push}
use Rattle.bl_write.proofs.Names.{number_at-known, other_name, pairs_head, pairs_tail}
use Rattle.bl_write.proofs.Names.{place_absent, place_push}
use Rattle.bl_write.proofs.States.{all_whole, cell_said, cells_said, names_of, open_grid}
use Rattle.bl_write.proofs.States.{rows_said, state}
use Rattle.bl_write.proofs.Steps.{Goes, data_read, goes_first, goes_on, goes_same, stays}

-- in COLUMNS, with this said of them
abbrev pub in_columns : Program → Grid → Said
in_columns p g = state p Columns g no_set no_set no_set

-- the words of such a line
number_words : (first : Text) (a : Amount) → IsName first → IsName a.name
    → IsName (text_of a.value a.places)
    → AreNames ((15, a.name) ∷ (25, text_of a.value a.places) ∷ [])
number_words first a f n t = All-cons (λ g. IsName g.1) (15, a.name)
    ((25, text_of a.value a.places) ∷ []) n
    (All-cons (λ g. IsName g.1) (25, text_of a.value a.places) [] t (All-nil (λ g. IsName g.1)))

-- a number of the column that stands last
cell_put : (rows : List RowLine) (names : List Text) (whole : List Bool) (cells : List Cell)
    (j : ℕ) (a : Amount) → length names ≡ j + 1 → IsKnown rows a → has_cell cells j a.name ≡ false
    → cell rows (open_grid names whole cells true) a.name (text_of a.value a.places)
    ≡ Ok (open_grid names whole (cells ++ cell_said j a ∷ []) true)
cell_put rows names whole cells j a long k new =
    let last : length names - 1 ≡ j = omega (arith, long) in
    rw (k.known, number_at-known rows a k) (rw k.counts (rw last (rw new refl)))

-- a column goes on
cell_on : (rows : List RowLine) (names : List Text) (whole : List Bool) (cells : List Cell)
    (j : ℕ) (name : Text) (a : Amount) → length names ≡ j + 1 → place_of names name ≡ Some j
    → IsKnown rows a → has_cell cells j a.name ≡ false
    → columns_line rows (open_grid names whole cells true)
    (name ∷ a.name ∷ text_of a.value a.places ∷ [])
    ≡ Ok (open_grid names whole (cells ++ cell_said j a ∷ []) true)
cell_on rows names whole cells j name a long place k new =
    let here : at_column (open_grid names whole cells true) name
    ≡ Ok (open_grid names whole cells true) =
    rw place (rw (eq-eqb (j + 1) (length names) (sym long)) refl) in
    rw (other_name a.name (codes "'MARKER'") k.name.plain) (rw here (cell_put rows names whole cells j a long k new))

-- a column starts
cell_first : (rows : List RowLine) (names : List Text) (whole : List Bool) (cells : List Cell)
    (is_open : Bool) (j : ℕ) (name : Text) (a : Amount) → length names ≡ j → place_of names name
    ≡ None → j < 1000 → IsKnown rows a → has_cell cells j a.name ≡ false
    → columns_line rows (open_grid names whole cells is_open)
    (name ∷ a.name ∷ text_of a.value a.places ∷ [])
    ≡ Ok (open_grid (names ++ name ∷ []) (whole ++ true ∷ []) (cells ++ cell_said j a ∷ [])
    true)
cell_first rows names whole cells is_open j name a long none few k new =
    let here : at_column (open_grid names whole cells is_open) name
    ≡ Ok (open_grid (names ++ name ∷ []) (whole ++ true ∷ []) cells true) =
    rw none (rw (lt-leb 1000 (length names) (omega (arith, long))) refl) in
    rw (other_name a.name (codes "'MARKER'") k.name.plain) (rw here (cell_put rows (names ++ name ∷ []) (whole ++ true ∷ []) cells j a (omega (arith, length_push names name, long)) k new))

-- a line of COLUMNS
line_read : (p : Program) (g h : Grid) (first : Text) (a : Amount) → IsName first
    → IsKnown (rows_said p) a → columns_line (rows_said p) g
    (first ∷ a.name ∷ text_of a.value a.places ∷ []) ≡ Ok h
    → after_line (in_columns p g) (number_line first a) ≡ Ok (in_columns p h)
line_read p g h first a n k is =
    data_read (in_columns p g) _ first (a.name ∷ text_of a.value a.places ∷ [])
    (words_laid (5, first) ((15, a.name) ∷ (25, text_of a.value a.places) ∷ []) n
    (number_words first a n k.name.name (known_word (rows_said p) a k)))
    ∙ ap (λ x. x >>= λ columns. Ok (in_columns p columns)) is

-- the numbers of the column that stands last
cells_on : (p : Program) (names : List Text) (whole : List Bool) (cells : List Cell) (j : ℕ)
    (name : Text) (amounts : List Amount) → length names ≡ j + 1 → place_of names name ≡ Some j
    → IsName name
    → All (IsKnown (rows_said p)) amounts → AllPairs Apart amounts → AreNew cells j amounts
    → Goes (in_columns p (open_grid names whole cells true)) (map (number_line name) amounts)
    (in_columns p (open_grid names whole (cells ++ map (cell_said j) amounts) true))
cells_on p names whole cells j name [] long place n known apart new =
    goes_same (in_columns p (open_grid names whole cells true))
    (in_columns p (open_grid names whole cells true))
    (in_columns p (open_grid names whole (cells ++ []) true))
    (in_columns p (open_grid names whole cells true)) [] refl
    (ap (λ cs. in_columns p (open_grid names whole cs true)) (sym (append-nil cells)))
    (stays (in_columns p (open_grid names whole cells true)))
cells_on p names whole cells j name (a ∷ amounts) long place n known apart new =
    let k = All-head (IsKnown (rows_said p)) a amounts known in
    let more = cells ++ cell_said j a ∷ [] in
    goes_first (in_columns p (open_grid names whole cells true)) (in_columns p
    (open_grid names whole more true)) (in_columns p
    (open_grid names whole (cells ++ cell_said j a ∷ map (cell_said j) amounts) true))
    (number_line name a) (map (number_line name) amounts)
    refl
    (line_read p (open_grid names whole cells true) (open_grid names whole more true) name a n k
    (cell_on (rows_said p) names whole cells j name a long place k
    (All-head (λ (b : Amount). has_cell cells j b.name ≡ false) a amounts new)))
    (goes_same (in_columns p (open_grid names whole more true))
    (in_columns p (open_grid names whole more true))
    (in_columns p (open_grid names whole (cells ++ cell_said j a ∷ map (cell_said j) amounts)
    true)) (in_columns p (open_grid names whole (more ++ map (cell_said j) amounts) true))
    (map (number_line name) amounts) refl
    (ap (λ cs. in_columns p (open_grid names whole cs true))
    (append_assoc cells (cell_said j a ∷ []) (map (cell_said j) amounts)))
    (cells_on p names whole more j name amounts long place n
    (All-tail (IsKnown (rows_said p)) a amounts known) (pairs_tail Apart a amounts apart)
    (new_push cells j a amounts (All-tail (λ (b : Amount). has_cell cells j b.name ≡ false) a
    amounts new) (pairs_head Apart a amounts apart))))

-- a whole column
column_read : (p : Program) (names : List Text) (whole : List Bool) (cells : List Cell)
    (is_open : Bool) (j : ℕ) (name : Text) (a : Amount) (amounts : List Amount) → length names ≡ j
    → place_of names name ≡ None → j < 1000 → IsName name
    → All (IsKnown (rows_said p)) (a ∷ amounts) → AllPairs Apart (a ∷ amounts)
    → All (λ (c : Cell). c.column < j) cells
    → Goes (in_columns p (open_grid names whole cells is_open))
    (map (number_line name) (a ∷ amounts)) (in_columns p
    (open_grid (names ++ name ∷ []) (whole ++ true ∷ [])
    (cells ++ map (cell_said j) (a ∷ amounts)) true))
column_read p names whole cells is_open j name a amounts long none few n known apart before =
    let k = All-head (IsKnown (rows_said p)) a amounts known in
    let new = new_column cells j (a ∷ amounts) before in
    let more = cells ++ cell_said j a ∷ [] in
    let names1 = names ++ name ∷ [] in
    let whole1 = whole ++ true ∷ [] in
    goes_first (in_columns p (open_grid names whole cells is_open)) (in_columns p
    (open_grid names1 whole1 more true)) (in_columns p
    (open_grid names1 whole1 (cells ++ map (cell_said j) (a ∷ amounts)) true))
    (number_line name a) (map (number_line name) amounts)
    refl
    (line_read p (open_grid names whole cells is_open) (open_grid names1 whole1 more true) name a
    n k
    (cell_first (rows_said p) names whole cells is_open j name a long none few k
    (All-head (λ (b : Amount). has_cell cells j b.name ≡ false) a amounts new)))
    (goes_same (in_columns p (open_grid names1 whole1 more true))
    (in_columns p (open_grid names1 whole1 more true))
    (in_columns p (open_grid names1 whole1 (cells ++ map (cell_said j) (a ∷ amounts)) true))
    (in_columns p (open_grid names1 whole1 (more ++ map (cell_said j) amounts) true))
    (map (number_line name) amounts) refl
    (ap (λ cs. in_columns p (open_grid names1 whole1 cs true))
    (append_assoc cells (cell_said j a ∷ []) (map (cell_said j) amounts)))
    (cells_on p names1 whole1 more j name amounts (omega (arith, length_push names name, long))
    (place_push names name none ∙ ap Some long) n
    (All-tail (IsKnown (rows_said p)) a amounts known) (pairs_tail Apart a amounts apart)
    (new_push cells j a amounts (All-tail (λ (b : Amount). has_cell cells j b.name ≡ false) a
    amounts new) (pairs_head Apart a amounts apart))))

-- ---- all columns

abbrev pub open_after : Bool → List Column → Bool
open_after is_open [] = is_open
open_after is_open (c ∷ columns) = true

open_still : (columns : List Column) → open_after true columns ≡ true
open_still [] = refl
open_still (c ∷ columns) = refl

-- what the numbers of a column meet
pub record AreAmounts (rows : List RowLine) (amounts : List Amount) : Type 0 where
  pub known : All (IsKnown rows) amounts
  pub apart : AllPairs Apart amounts

abbrev pub DifferentNames : Column → Column → Type 0
DifferentNames c d = c.name ≢ d.name

abbrev IsFree : List Text → Column → Type 0
IsFree names c = place_of names c.name ≡ None

pub cells_read : (p : Program) (names : List Text) (whole : List Bool) (cells : List Cell)
    (is_open : Bool) (j : ℕ) (columns : List Column) → length names ≡ j
    → All (IsFree names) columns → AllPairs DifferentNames columns → length names + length columns
    ≤ 1000 → All (λ (c : Column). IsName c.name) columns
    → ((i : ℕ) → All (λ c. AreAmounts (rows_said p) (amounts_of p i c)) columns)
    → All (λ (c : Cell). c.column < j) cells
    → Goes (in_columns p (open_grid names whole cells is_open)) (cells_lines p j columns)
    (in_columns p (open_grid (names ++ names_of columns) (whole ++ all_whole columns)
    (cells ++ cells_said p j columns) (open_after is_open columns)))
cells_read p names whole cells is_open j [] long free differ few n amounts before =
    goes_same (in_columns p (open_grid names whole cells is_open)) (in_columns p
    (open_grid names whole cells is_open)) (in_columns p
    (open_grid (names ++ []) (whole ++ []) (cells ++ []) is_open))
    (in_columns p (open_grid names whole cells is_open)) [] refl
    (rw (append-nil names, append-nil whole, append-nil cells) refl)
    (stays (in_columns p (open_grid names whole cells is_open)))
cells_read p names whole cells is_open j (c ∷ columns) long free differ few n amounts before =
    let here = All-head (λ d. AreAmounts (rows_said p) (amounts_of p j d)) c columns (amounts j) in
    let said = map (cell_said j) (amounts_of p j c) in
    let names1 = names ++ c.name ∷ [] in
    let whole1 = whole ++ true ∷ [] in
    let new : All (λ (d : Cell). d.column < suc j) said =
    All-map (λ (d : Cell). d.column < suc j) (cell_said j) (amounts_of p j c)
    (λ k d lt. omega arith) in
    let old : All (λ (d : Cell). d.column < suc j) cells =
    All-weaker (λ (d : Cell). d.column < j) (λ (d : Cell). d.column < suc j)
    (λ d lt. omega arith) cells before in
    goes_on (in_columns p (open_grid names whole cells is_open))
    (in_columns p (open_grid names1 whole1 (cells ++ said) true))
    (in_columns p (open_grid (names ++ c.name ∷ names_of columns)
    (whole ++ true ∷ all_whole columns) (cells ++ (said ++ cells_said p (suc j) columns)) true))
    (map (number_line c.name) (amounts_of p j c)) (cells_lines p (suc j) columns)
    (column_read p names whole cells is_open j c.name (cost_of p c) (nonzero
    (map (coefficient_in j) p.rows)) long (All-head (IsFree names) c columns free)
    (omega (arith, long)) (All-head (λ (d : Column). IsName d.name) c columns n) here.known
    here.apart before)
    (goes_same (in_columns p (open_grid names1 whole1 (cells ++ said) true))
    (in_columns p (open_grid names1 whole1 (cells ++ said) true))
    (in_columns p (open_grid (names ++ c.name ∷ names_of columns)
    (whole ++ true ∷ all_whole columns) (cells ++ (said ++ cells_said p (suc j) columns)) true))
    (in_columns p (open_grid (names1 ++ names_of columns) (whole1 ++ all_whole columns)
    ((cells ++ said) ++ cells_said p (suc j) columns) (open_after true columns)))
    (cells_lines p (suc j) columns) refl
    (rw (
      append_assoc names (c.name ∷ []) (names_of columns),
      append_assoc whole (true ∷ [])
          (all_whole columns),
      append_assoc cells said (cells_said p (suc j) columns),
      open_still
          columns,
    ) refl)
    (cells_read p names1 whole1 (cells ++ said) true (suc j) columns
    (omega (arith, length_push names c.name, long))
    (λ k d lt. place_absent names _ c.name (All-tail (IsFree names) c columns free k d lt)
    (pairs_head DifferentNames c columns differ k d lt))
    (pairs_tail DifferentNames c columns differ) (omega (arith, length_push names c.name))
    (All-tail (λ (d : Column). IsName d.name) c columns n)
    (λ i. All-tail (λ d. AreAmounts (rows_said p) (amounts_of p i d)) c columns (amounts i))
    (All-append (λ (d : Cell). d.column < suc j) cells said old new)))
