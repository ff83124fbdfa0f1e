-- What the written lines say means the problem.
use Rattle.std.proofs.Common.{◌≡◌, ◌≢◌, ◌≤◌, ◌^◌, ◌∙◌, ◌&&◌, ℕ, ℤ, pos, ◌-ℤ◌, ◌≤ℤ◌, Bool, true}
use Rattle.std.proofs.Common.{false, cond, List, [], ◌∷◌, ◌++◌, map, length, get_or, ap, ap₂, sym}
use Rattle.std.proofs.Common.{refl, arith, suc, codes, Option, Some, None, All, not, nat_abs}
use Rattle.std.specs.Prelude.{AllPairs, Ok, Err, filter, neg_ℤ}
use Rattle.std.specs.List.{list_all}
use Rattle.std.specs.Ordering.{int_eq}
use Rattle.std.proofs.lemmas.Bool.{eq-eqb, le-leb, ne_eqb}
use Rattle.std.proofs.lemmas.Bool.Decides.{Decides-int_eq}
use Rattle.std.proofs.lemmas.Int.{ints}
use Rattle.std.proofs.lemmas.List.{map-append}
use Rattle.std.proofs.lemmas.List.Elements.{All-append, All-cons, All-head, All-map, All-nil}
use Rattle.std.proofs.lemmas.List.Elements.{All-tail, All-weaker, filter-append}
use Rattle.std.proofs.lemmas.List.Kept.{AllPairs-cons}
use Rattle.bl_num.specs.declared.Decimal.{Decimal}
use Rattle.bl_num.specs.Decimals.{in_units}
use Rattle.bl_problem.specs.declared.problem.Column.{Column}
use Rattle.bl_problem.specs.declared.problem.Row.{Row}
use Rattle.bl_problem.specs.declared.problem.Term.{Term}
use Rattle.bl_problem.specs.Points.{in_sense, shown_of}
use Rattle.bl_problem.specs.Program.{IsColumn, IsProgram, IsRow, Program}
use Rattle.bl_problem.specs.Rows.{AreEnds, IsTerm, coefficient_of}
use Rattle.bl_cards.specs.declared.kind.What.TheVariants as what
use Rattle.bl_cards.specs.Said.{Cell, RowLine}
use Rattle.bl_cards.specs.Lines.{given_for, is_limited}
use Rattle.bl_mps.specs.declared.entries.Entry.{Entry}
use Rattle.bl_mps.specs.declared.finish.ScaledObjective.{ScaledObjective}
use Rattle.bl_mps.specs.Meaning.{RowSaid, column_of, columns_from, end_within, ends_set}
use Rattle.bl_mps.specs.Meaning.{entries_of, entry_of, finished, high_end, is_within}
use Rattle.bl_mps.specs.Meaning.{keeps_limits, limited, low_end, objective_in_units, objective_of}
use Rattle.bl_mps.specs.Meaning.{objective_said, or_zero, places_of, program_of, range_in, row_in}
use Rattle.bl_mps.specs.Meaning.{row_of, row_within, rows_of, said_of, sense_for, size, term_of}
use Rattle.bl_mps.specs.Meaning.{term_within, terms_of}
use Rattle.bl_mps.proofs.Units.{places_least}
use Rattle.bl_write.specs.Written.{amounts_of, coefficient_in, constant_of, cost_of, nonzero}
use Rattle.bl_write.specs.Written.{range_of, ranges_of, right_of, right_side, rights_of, width_of}
use Rattle.bl_write.proofs.Ends.{HasEnds, bounded_all, ends_found, whole_all}
use Rattle.bl_write.proofs.Facts.{all_known, amounts_are, coefficient_known, coefficient_small}
use Rattle.bl_write.proofs.Facts.{pairs_map, right_small, sense_size, width_small}
use Rattle.bl_write.proofs.Found.{TellsZero, cells_found, counts, given_found, given_or_none}
use Rattle.bl_write.proofs.Found.{has_value, known_zero}
use Rattle.bl_write.proofs.Names.{Apart, IsKnown, other_name, turned}
use Rattle.bl_write.proofs.Numbers.{ReadsAs, decimal_in, number_reads, whole_reads}
use Rattle.bl_write.proofs.Objective.{cost_entries, cost_found, entry_or_none, objective_read}
use Rattle.bl_write.proofs.Objective.{right_is, right_read, scale_back, sense_back, sense_twice}
use Rattle.bl_write.proofs.Objective.{set_given, value_zero}
use Rattle.bl_write.proofs.RowLines.{limited_row}
use Rattle.bl_write.proofs.States.{cell_said, cells_said, given_said, names_of, role_in, row_said}
use Rattle.bl_write.proofs.States.{rows_said, set_said, whole_said}
use Rattle.bl_write.proofs.Terms.{absent, int_ne, term_or_none, terms_back, terms_from}

unmapped : {X Y : Type 0} (P : Y → Type 0) (f : X → Y) (xs : List X) → All P (map f xs)
    → All (λ x. P (f x)) xs
unmapped P f [] h = All-nil (λ x. P (f x))
unmapped P f (x ∷ xs) h = All-cons (λ y. P (f y)) x xs (All-head P (f x) (map f xs) h)
    (unmapped P f xs (All-tail P (f x) (map f xs) h))

-- ---- costs

-- the terms of the costs, from place j on
abbrev cost_terms : Program → ℕ → List Column → List Term
cost_terms p j [] = []
cost_terms p j (c ∷ columns) = term_or_none j (shown_of p c.cost) ++ cost_terms p (suc j) columns

first_term : (places : ℕ) (t : Bool) (j : ℕ) (d : Decimal) (z : ℤ) → in_units d places ≡ z
    → map (term_of places) (cond t (record { column = j; number = d } ∷ []) [])
    ≡ cond t (record { column = j; coefficient = z } ∷ []) []
first_term places true j d z e = ap (λ c. record { column = j; coefficient = c } ∷ []) e
first_term places false j d z e = refl

cost_units : (p : Program) (c : Column) → IsProgram p → IsColumn c
    → in_units (decimal_in (cost_of p c).value p.scale) p.scale ≡ shown_of p c.cost
cost_units p c h col =
    let k = All-head (IsKnown (rows_said p)) (cost_of p c)
    (nonzero (map (coefficient_in 0) p.rows)) (amounts_are p 0 c h col).known in
    (number_reads (cost_of p c).value p.scale k.small h.scale).units

costs_are : (p : Program) (j : ℕ) (columns : List Column) → IsProgram p → All IsColumn columns
    → terms_of p.scale (cost_entries p j columns) ≡ cost_terms p j columns
costs_are p j [] h cols = refl
costs_are p j (c ∷ columns) h cols =
    map-append (term_of p.scale) (entry_or_none j (cost_of p c)) (cost_entries p (suc j) columns)
    ∙ ap₂ (λ (a b : List Term). a ++ b) (first_term p.scale (has_value (cost_of p c)) j
    (decimal_in (cost_of p c).value p.scale) (shown_of p c.cost)
    (cost_units p c h (All-head IsColumn c columns cols)))
    (costs_are p (suc j) columns h (All-tail IsColumn c columns cols))

-- a coefficient of such terms
abbrev HasCosts : Program → List Term → ℕ → List Column → Type 0
HasCosts p terms j [] = Unit {0}
HasCosts p terms j (c ∷ columns) = (coefficient_of terms j ≡ shown_of p c.cost)
    × HasCosts p terms (suc j) columns

costs_behind : (p : Program) (j : ℕ) (columns : List Column)
    → All (λ (t : Term). j ≤ t.column) (cost_terms p j columns)
costs_behind p j [] = All-nil (λ (t : Term). j ≤ t.column)
costs_behind p j (c ∷ columns) = All-append (λ (t : Term). j ≤ t.column)
    (term_or_none j (shown_of p c.cost)) (cost_terms p (suc j) columns)
    (by (not (int_eq (shown_of p c.cost) (pos 0)))) (All-weaker (λ (t : Term). suc j ≤ t.column)
    (λ (t : Term). j ≤ t.column) (λ t l. omega (arith, l)) (cost_terms p (suc j) columns)
    (costs_behind p (suc j) columns))
  where
    by : (t : Bool) → All (λ (t : Term). j ≤ t.column)
        (cond t (record { column = j; coefficient = shown_of p c.cost } ∷ []) [])
    by true = All-cons (λ (t : Term). j ≤ t.column)
        (record { column = j; coefficient = shown_of p c.cost }) [] (omega arith)
        (All-nil (λ (t : Term). j ≤ t.column))
    by false = All-nil (λ (t : Term). j ≤ t.column)

first_cost : (z : ℤ) (j : ℕ) (rest : List Term) → All (λ (t : Term). suc j ≤ t.column) rest
    → coefficient_of (term_or_none j z ++ rest) j ≡ z
first_cost z j rest after = by (not (int_eq z (pos 0))) refl
  where
    by : (t : Bool) → not (int_eq z (pos 0)) ≡ t
        → coefficient_of (cond t (record { column = j; coefficient = z } ∷ []) [] ++ rest) j ≡ z
    by true e = rw (eq-eqb j j refl) refl
    by false e = absent rest j after ∙ sym (value_zero z e)

later_cost : (z : ℤ) (j i : ℕ) (rest : List Term) → suc j ≤ i
    → coefficient_of (term_or_none j z ++ rest) i ≡ coefficient_of rest i
later_cost z j i rest l = by (not (int_eq z (pos 0)))
  where
    by : (t : Bool) → coefficient_of (cond t (record { column = j; coefficient = z } ∷ []) []
        ++ rest) i ≡ coefficient_of rest i
    by true = rw (ne_eqb j i (λ e. omega (arith, l, e))) refl
    by false = refl

has_costs : (p : Program) (terms : List Term) (j : ℕ) (columns : List Column)
    → ((i : ℕ) → j ≤ i → coefficient_of terms i ≡ coefficient_of (cost_terms p j columns) i)
    → HasCosts p terms j columns
has_costs p terms j [] h = tt
has_costs p terms j (c ∷ columns) h = (
  h j (omega arith) ∙ first_cost (shown_of p c.cost) j (cost_terms p (suc j) columns)
      (costs_behind p (suc j) columns),
  has_costs p terms (suc j) columns (λ i l. h i (omega (arith, l))
      ∙ later_cost (shown_of p c.cost) j i (cost_terms p (suc j) columns) l),
)

-- ---- the objective

sides_apart : (p : Program) → IsProgram p → AllPairs Apart (constant_of p ∷ map right_of p.rows)
sides_apart p h = AllPairs-cons Apart (constant_of p) (map right_of p.rows)
    (All-map (Apart (constant_of p)) right_of p.rows
    (λ k d lt. turned (get_or p.rows k d).name p.objective (h.no_row k d lt)))
    (pairs_map Apart right_of p.rows h.row_names)

objective_is : (p : Program) → IsProgram p → objective_said (whole_said p) ≡ objective_read p
objective_is p h =
    let right : given_for (set_said (codes "RHS") (rights_of p)).given p.objective ≡ given_or_none (constant_of p) =
    ap (λ gs. given_for gs p.objective) (set_given (codes "RHS") (rights_of p))
    ∙ All-head (λ a. given_for (map given_said (rights_of p)) a.name ≡ given_or_none a)
    (constant_of p) (map right_of p.rows)
    (given_found (constant_of p ∷ map right_of p.rows) (sides_apart p h)) in
    ap₂ (λ (es : List Entry) (d : Option Decimal). record {
      entries = es;
      right =
          or_zero d;
      range = None;
    }) (cost_found p 0 p.columns h h.columns) right

abbrev objective_back : Program → ScaledObjective
objective_back p = record {
  name = p.objective;
  costs = cost_terms p 0 p.columns;
  scale =
      p.scale;
  offset = in_sense p.sense p.offset;
}

twice_negated : (z : ℤ) → neg_ℤ (neg_ℤ z) ≡ z
twice_negated z = omega (arith, ints)

objective_means : (p : Program) → IsProgram p → objective_of (whole_said p) ≡ objective_back p
objective_means p h =
    let small : nat_abs (constant_of p).value ≤ 10 ^ 27 = let s = h.offset in let e =
    sense_size p.sense p.offset in omega (arith, ints, s, e) in
    let reads = number_reads (constant_of p).value p.scale small h.scale in
    let scale = scale_back p h reads in
    let offset : neg_ℤ (in_units (right_read p) p.scale) ≡ in_sense p.sense p.offset =
    ap neg_ℤ (right_is p h reads).units ∙ twice_negated (in_sense p.sense p.offset) in
    ap (objective_in_units p.objective) (objective_is p h)
    ∙ ap (λ n. record {
      name = p.objective;
      costs =
          terms_of n (cost_entries p 0 p.columns);
      scale = n;
      offset =
          neg_ℤ (in_units (right_read p) n);
    }) scale
    ∙ ap₂ (λ (ts : List Term) (z : ℤ). record {
      name = p.objective;
      costs = ts;
      scale =
          p.scale;
      offset = z;
    }) (costs_are p 0 p.columns h h.columns) offset

-- ---- columns

column_back : (p : Program) (terms : List Term) (j : ℕ) (c : Column)
    → HasEnds (whole_said p).bounds.given c → coefficient_of terms j ≡ shown_of p c.cost
    → column_of (whole_said p) terms j c.name ≡ c
column_back p terms j c ends cost =
    rw ends (ap (λ z. record { name = c.name; low = c.low; high = c.high; cost = z })
    (ap₂ in_sense (sense_back p.sense) cost ∙ sense_twice p.sense c.cost))

pub columns_back : (p : Program) (terms : List Term) (j : ℕ) (columns : List Column)
    → All (HasEnds (whole_said p).bounds.given) columns → HasCosts p terms j columns
    → columns_from (whole_said p) terms j (names_of columns) ≡ columns
columns_back p terms j [] ends costs = refl
columns_back p terms j (c ∷ columns) ends costs =
    ap₂ (λ (d : Column) (ds : List Column). d ∷ ds)
    (column_back p terms j c (All-head (HasEnds (whole_said p).bounds.given) c columns ends)
    costs.0)
    (columns_back p terms (suc j) columns
    (All-tail (HasEnds (whole_said p).bounds.given) c columns ends) costs.1)

-- ---- terms of rows

-- the entries that are read for a row, from column j on
abbrev row_entries : List Term → ℕ → List Column → List Entry
row_entries terms j [] = []
row_entries terms j (c ∷ columns) = cond (not (int_eq (coefficient_of terms j) (pos 0)))
    (record { column = j; number = decimal_in (coefficient_of terms j) 0 } ∷ []) []
    ++ row_entries terms (suc j) columns

-- what holds of a row among the others
record IsAmong (p : Program) (r : Row) : Type 0 where
  other : r.name ≢ p.objective
  row : IsRow (length p.columns) r
  cells : (j : ℕ)
      → filter (counts r.name) (map (cell_said j) (nonzero (map (coefficient_in j) p.rows)))
      ≡ cond (has_value (coefficient_in j r)) (cell_said j (coefficient_in j r) ∷ []) []
  right : given_for (map given_said (rights_of p)) r.name ≡ given_or_none (right_of r)
  range : given_for (map given_said (ranges_of p)) r.name ≡ given_or_none (range_of r)

row_cells : (p : Program) (r : Row) (j : ℕ) (c : Column) → IsAmong p r
    → filter (counts r.name) (map (cell_said j) (amounts_of p j c))
    ≡ cond (has_value (coefficient_in j r)) (cell_said j (coefficient_in j r) ∷ []) []
row_cells p r j c a = rw (other_name r.name p.objective a.other) (a.cells j)

first_entry : (t : Bool) (c : Cell) → map entry_of (cond t (c ∷ []) [])
    ≡ cond t (entry_of c ∷ []) []
first_entry true c = refl
first_entry false c = refl

entries_found : (p : Program) (r : Row) (j : ℕ) (columns : List Column) → IsAmong p r
    → entries_of (cells_said p j columns) r.name ≡ row_entries r.terms j columns
entries_found p r j [] a = refl
entries_found p r j (c ∷ columns) a =
    ap (map entry_of) (filter-append (counts r.name) (map (cell_said j) (amounts_of p j c))
    (cells_said p (suc j) columns))
    ∙ map-append entry_of (filter (counts r.name) (map (cell_said j) (amounts_of p j c)))
    (filter (counts r.name) (cells_said p (suc j) columns))
    ∙ ap₂ (λ (xs ys : List Entry). xs ++ ys) (ap (map entry_of) (row_cells p r j c a)
    ∙ first_entry (has_value (coefficient_in j r)) (cell_said j (coefficient_in j r)))
    (entries_found p r (suc j) columns a)

coefficient_read : (n j : ℕ) (terms : List Term) → All (IsTerm n) terms
    → ReadsAs (coefficient_of terms j) 0
coefficient_read n j terms each = let s =
    coefficient_small n j terms each in number_reads (coefficient_of terms j) 0 (omega (arith, s))
    (omega arith)

terms_are : (n j : ℕ) (terms : List Term) (columns : List Column) → All (IsTerm n) terms
    → terms_of 0 (row_entries terms j columns) ≡ terms_from terms j columns
terms_are n j terms [] each = refl
terms_are n j terms (c ∷ columns) each =
    map-append (term_of 0) (cond (not (int_eq (coefficient_of terms j) (pos 0)))
    (record { column = j; number = decimal_in (coefficient_of terms j) 0 } ∷ []) [])
    (row_entries terms (suc j) columns)
    ∙ ap₂ (λ (a b : List Term). a ++ b)
    (first_term 0 (not (int_eq (coefficient_of terms j) (pos 0))) j
    (decimal_in (coefficient_of terms j) 0) (coefficient_of terms j)
    (coefficient_read n j terms each).units)
    (terms_are n (suc j) terms columns each)

entries_few : (n j : ℕ) (terms : List Term) (columns : List Column) → All (IsTerm n) terms
    → All (λ (e : Entry). e.number.places ≤ 0) (row_entries terms j columns)
entries_few n j terms [] each = All-nil (λ (e : Entry). e.number.places ≤ 0)
entries_few n j terms (c ∷ columns) each =
    All-append (λ (e : Entry). e.number.places ≤ 0)
    (cond (not (int_eq (coefficient_of terms j) (pos 0)))
    (record { column = j; number = decimal_in (coefficient_of terms j) 0 } ∷ []) [])
    (row_entries terms (suc j) columns)
    (by (not (int_eq (coefficient_of terms j) (pos 0)))) (entries_few n (suc j) terms columns each)
  where
    by : (t : Bool) → All (λ (e : Entry). e.number.places ≤ 0)
        (cond t (record { column = j; number = decimal_in (coefficient_of terms j) 0 } ∷ []) [])
    by true = All-cons (λ (e : Entry). e.number.places ≤ 0)
        (record { column = j; number = decimal_in (coefficient_of terms j) 0 }) []
        (coefficient_read n j terms each).few (All-nil (λ (e : Entry). e.number.places ≤ 0))
    by false = All-nil (λ (e : Entry). e.number.places ≤ 0)

row_terms : (p : Program) (r : Row) → IsRow (length p.columns) r
    → terms_of 0 (row_entries r.terms 0 p.columns) ≡ r.terms
row_terms p r row =
    terms_are (length p.columns) 0 r.terms p.columns row.terms.each
    ∙ terms_back r.terms 0 (length p.columns) p.columns (omega arith) row.terms.each
    (λ k d lt. omega arith) row.terms.rising

-- ---- ends of rows

abbrev whole : ℤ → Decimal
whole z = record { mantissa = z; places = 0 }

right_whole : (r : Row) → nat_abs (right_side r.low r.high) ≤ 10 ^ 27
    → or_zero (given_or_none (right_of r)) ≡ whole (right_side r.low r.high)
right_whole r small = by (has_value (right_of r)) refl
  where
    by : (t : Bool) → has_value (right_of r) ≡ t
        → or_zero (cond t (Some (decimal_in (right_side r.low r.high) 0)) None)
        ≡ whole (right_side r.low r.high)
    by true e = whole_reads (right_side r.low r.high) small
    by false e = ap whole (sym (value_zero (right_side r.low r.high) e))

abbrev range_or_none : ℤ → Option Decimal
range_or_none z = cond (not (int_eq z (pos 0))) (Some (whole z)) None

range_whole : (r : Row) → nat_abs (width_of r.low r.high) ≤ 10 ^ 27 → given_or_none (range_of r)
    ≡ range_or_none (width_of r.low r.high)
range_whole r small = ap (λ d. cond (has_value (range_of r)) (Some d) None)
    (whole_reads (width_of r.low r.high) small)

in_ones : (z : ℤ) → in_units (whole z) 0 ≡ z
in_ones z = omega (arith, ints)

-- the ends that the kind, the right side and the range give
record HasEndsBack (low high : Option ℤ) : Type 0 where
  low_is : low_end (role_in low high) (right_side low high)
      (range_in 0 (range_or_none (width_of low high))) ≡ low
  high_is : high_end (role_in low high) (right_side low high)
      (range_in 0 (range_or_none (width_of low high))) ≡ high

ends_back : (low high : Option ℤ) → AreEnds low high → HasEndsBack low high
ends_back None None ends = absurd ends
ends_back None (Some h) ends = record { low_is = refl; high_is = refl }
ends_back (Some l) None ends = record { low_is = refl; high_is = refl }
ends_back (Some l) (Some h) ends = by (int_eq l h) refl
  where
    by : (t : Bool) → int_eq l h ≡ t → HasEndsBack (Some l) (Some h)
    by true e =
        let same : l ≡ h = (Decides-int_eq l h).0 e in
        let none : int_eq (h -ℤ l) (pos 0) ≡ true =
        (Decides-int_eq (h -ℤ l) (pos 0)).1 (omega (arith, ints, same)) in
        record { low_is = rw (e, none) (ap Some (sym same)); high_is = rw (e, none) refl }
    by false e =
        let apart : h -ℤ l ≢ pos 0 =
        λ z. (let same : l ≡ h = omega (arith, ints, z) in let t : int_eq l h ≡ true =
        (Decides-int_eq l h).1 same in absurd cc) in
        let some : int_eq (h -ℤ l) (pos 0) ≡ false = int_ne (h -ℤ l) apart in
        let le : l ≤ℤ h = ends.2 in
        record {
          low_is =
              rw (e, some) (ap Some (lower (in_units (whole (h -ℤ l)) 0) (in_ones (h -ℤ l)) le));
          high_is = rw e refl;
        }
      where
        lower : (w : ℤ) → w ≡ h -ℤ l → l ≤ℤ h → h -ℤ size w ≡ l
        lower w is le = omega (arith, ints, is, le)

-- ---- rows

places_none : (r : RowSaid) → All (λ (e : Entry). e.number.places ≤ 0) r.entries → r.right.places
    ≤ 0 → (or_zero r.range).places ≤ 0 → places_of r ≡ 0
places_none r a b c = let l = places_least r 0 a b c in omega (arith, l)

range_places : (z : ℤ) → (or_zero (range_or_none z)).places ≤ 0
range_places z = by (not (int_eq z (pos 0)))
  where
    by : (t : Bool) → (or_zero (cond t (Some (whole z)) None)).places ≤ 0
    by true = omega arith
    by false = omega arith

abbrev said_row : Program → Row → RowSaid
said_row p r = record {
  entries = row_entries r.terms 0 p.columns;
  right =
      whole (right_side r.low r.high);
  range = range_or_none (width_of r.low r.high);
}

row_back : (p : Program) (r : Row) → IsAmong p r → row_of (whole_said p) (row_said r) ≡ r
row_back p r a =
    let small = right_small r.low r.high a.row.ends in
    let right : or_zero (given_for (set_said (codes "RHS") (rights_of p)).given r.name) ≡ whole (right_side r.low r.high) =
    ap or_zero (ap (λ gs. given_for gs r.name) (set_given (codes "RHS") (rights_of p)) ∙ a.right) ∙ right_whole r (omega (arith, small)) in
    let range : given_for (set_said (codes "RNG") (ranges_of p)).given r.name ≡ range_or_none (width_of r.low r.high) =
    ap (λ gs. given_for gs r.name) (set_given (codes "RNG") (ranges_of p)) ∙ a.range ∙ range_whole r (width_small r.low r.high a.row.ends) in
    let said : said_of (whole_said p) r.name ≡ said_row p r =
    ap (λ es. record { entries = es; right = or_zero (given_for (set_said (codes "RHS") (rights_of p)).given r.name); range = given_for (set_said (codes "RNG") (ranges_of p)).given r.name }) (entries_found p r 0 p.columns a)
    ∙ ap₂ (λ d o. record { entries = row_entries r.terms 0 p.columns; right = d; range = o })
    right range in
    let places : places_of (said_row p r) ≡ 0 = places_none (said_row p r)
    (entries_few (length p.columns) 0 r.terms p.columns a.row.terms.each) (omega arith)
    (range_places (width_of r.low r.high)) in
    let ends = ends_back r.low r.high a.row.ends in
    ap (λ s. row_in (places_of s) (row_said r) s) said
    ∙ ap (λ n. row_in n (row_said r) (said_row p r)) places
    ∙ ap₂ (λ ts (b : ℤ). record {
      name = r.name;
      terms = ts;
      low =
          low_end (role_in r.low r.high) b (range_in 0 (range_or_none (width_of r.low r.high)));
      high = high_end (role_in r.low r.high) b
          (range_in 0 (range_or_none (width_of r.low r.high)));
    })
    (row_terms p r a.row) (in_ones (right_side r.low r.high))
    ∙ ap₂ (λ l h. record { name = r.name; terms = r.terms; low = l; high = h }) ends.low_is
    ends.high_is

limited_lines : (rs : List Row) → filter (λ (line : RowLine). is_limited line.role)
    (map row_said rs) ≡ map row_said rs
limited_lines [] = refl
limited_lines (r ∷ rs) = rw (limited_row r.low r.high)
    (ap (λ lines. row_said r ∷ lines) (limited_lines rs))

each_back : (f : RowLine → Row) (rs : List Row) → All (λ r. f (row_said r) ≡ r) rs
    → map f (map row_said rs) ≡ rs
each_back f [] h = refl
each_back f (r ∷ rs) h = ap₂ (λ (q : Row) (qs : List Row). q ∷ qs)
    (All-head (λ r. f (row_said r) ≡ r) r rs h)
    (each_back f rs (All-tail (λ r. f (row_said r) ≡ r) r rs h))

rows_among : (p : Program) → IsProgram p → All (IsAmong p) p.rows
rows_among p h k d lt =
    record {
      other = h.no_row k d lt;
      row = h.rows k d lt;
      cells = λ j. unmapped (λ a. filter (counts a.name)
          (map (cell_said j) (nonzero (map (coefficient_in j) p.rows)))
          ≡ cond (has_value a) (cell_said j a ∷ []) []) (coefficient_in j) p.rows
          (cells_found j (map (coefficient_in j) p.rows)
          (pairs_map Apart (coefficient_in j) p.rows h.row_names)
          (All-map TellsZero (coefficient_in j) p.rows (λ i e l. known_zero (rows_said p)
          (coefficient_in j (get_or p.rows i e))
          (coefficient_known p j (get_or p.rows i e) (all_known p h i e l) (h.rows i e l)))))
          k d lt;
      right = unmapped (λ a. given_for (map given_said (rights_of p)) a.name ≡ given_or_none a)
          right_of p.rows
          (All-tail (λ a. given_for (map given_said (rights_of p)) a.name ≡ given_or_none a)
          (constant_of p) (map right_of p.rows)
          (given_found (constant_of p ∷ map right_of p.rows) (sides_apart p h))) k d lt;
      range = unmapped (λ a. given_for (map given_said (ranges_of p)) a.name ≡ given_or_none a)
          range_of p.rows (given_found (map range_of p.rows)
          (pairs_map Apart range_of p.rows h.row_names)) k d lt;
    }

rows_back : (p : Program) → IsProgram p → rows_of (whole_said p) ≡ p.rows
rows_back p h =
    ap (map (row_of (whole_said p))) (limited_lines p.rows)
    ∙ each_back (row_of (whole_said p)) p.rows
    (All-weaker (IsAmong p) (λ r. row_of (whole_said p) (row_said r) ≡ r)
    (λ r a. row_back p r a) p.rows (rows_among p h))

-- ---- the whole

program_back : (p : Program) → IsProgram p → program_of (whole_said p) ≡ p
program_back p h =
    let columns : columns_from (whole_said p) (cost_terms p 0 p.columns) 0 (names_of p.columns)
    ≡ p.columns =
    columns_back p (cost_terms p 0 p.columns) 0 p.columns (ends_found p.columns h.column_names)
    (has_costs p (cost_terms p 0 p.columns) 0 p.columns (λ i l. refl)) in
    ap (λ (o : ScaledObjective). record {
      columns = columns_from (whole_said p) o.costs 0 (names_of p.columns);
      rows = rows_of (whole_said p);
      objective = o.name;
      scale = o.scale;
      offset = in_sense (sense_for (whole_said p)) o.offset;
      sense = sense_for (whole_said p);
    }) (objective_means p h)
    ∙ ap₂ (λ cs rs. record {
      columns = cs;
      rows = rs;
      objective = p.objective;
      scale =
          p.scale;
      offset = in_sense (sense_for (whole_said p)) (in_sense p.sense p.offset);
      sense =
          sense_for (whole_said p);
    }) columns (rows_back p h)
    ∙ ap (λ sense. record {
      columns = p.columns;
      rows = p.rows;
      objective = p.objective;
      scale =
          p.scale;
      offset = in_sense sense (in_sense p.sense p.offset);
      sense = sense;
    })
    (sense_back p.sense)
    ∙ ap (λ z. record {
      columns = p.columns;
      rows = p.rows;
      objective = p.objective;
      scale =
          p.scale;
      offset = z;
      sense = p.sense;
    }) (sense_twice p.sense p.offset)

all_true : {X : Type 0} (test : X → Bool) (xs : List X) → All (λ x. test x ≡ true) xs
    → list_all test xs ≡ true
all_true test [] h = refl
all_true test (x ∷ xs) h = rw (All-head (λ y. test y ≡ true) x xs h)
    (all_true test xs (All-tail (λ y. test y ≡ true) x xs h))

end_keeps : (low high : Option ℤ) → AreEnds low high → (end_within low && end_within high) ≡ true
end_keeps None None ends = refl
end_keeps (Some l) None ends = rw (le-leb (nat_abs l) (10 ^ 24) ends) refl
end_keeps None (Some h) ends = rw (le-leb (nat_abs h) (10 ^ 24) ends) refl
end_keeps (Some l) (Some h) ends =
    rw (le-leb (nat_abs l) (10 ^ 24) ends.0, le-leb (nat_abs h) (10 ^ 24) ends.1) refl

row_keeps : (n : ℕ) (r : Row) → IsRow n r → row_within r ≡ true
row_keeps n r row =
    rw (all_true term_within r.terms (All-weaker (IsTerm n) (λ t. term_within t ≡ true)
    (λ t is. le-leb (nat_abs t.coefficient) (10 ^ 15) is.coefficient) r.terms row.terms.each))
    (end_keeps r.low r.high row.ends)

keeps : (p : Program) → IsProgram p → keeps_limits p ≡ true
keeps p h =
    rw (
      all_true (λ (c : Column). is_within (10 ^ 15) c.cost) p.columns
          (All-weaker IsColumn (λ (c : Column). is_within (10 ^ 15) c.cost ≡ true)
          (λ c is. le-leb (nat_abs c.cost) (10 ^ 15) is.cost) p.columns h.columns),
      le-leb (nat_abs p.offset) (10 ^ 24) h.offset,
    )
    (all_true row_within p.rows (All-weaker (IsRow (length p.columns)) (λ r. row_within r ≡ true)
    (λ r row. row_keeps (length p.columns) r row) p.rows h.rows))

-- what the written lines say means the problem
pub said_means : (p : Program) → IsProgram p → finished (whole_said p) ≡ Ok p
said_means p h =
    rw (
      whole_all (ends_set (whole_said p).bounds.given) p.columns,
      bounded_all
          (ends_set (whole_said p).bounds.given) p.columns (ends_found p.columns h.column_names),
    )
    (ap (limited keeps_limits) (program_back p h)
    ∙ ap (λ (t : Bool). cond t (Ok p) (Err what.TooWide)) (keeps p h))
