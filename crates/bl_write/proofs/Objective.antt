-- The objective: its costs, its constant and its scale.
use Rattle.std.proofs.Common.{◌≡◌, ◌≢◌, ◌<◌, ◌≤◌, ◌+◌, ◌-◌, ◌^◌, ◌∙◌, ℕ, ℤ, pos, ◌*ℤ◌, Bool, true}
use Rattle.std.proofs.Common.{false, cond, List, [], ◌∷◌, ◌++◌, map, ap, ap₂, sym, refl, arith}
use Rattle.std.proofs.Common.{suc, Some, None, All, not, nat_abs, inl, inr}
use Rattle.std.specs.Prelude.{filter}
use Rattle.std.specs.Ordering.{int_eq}
use Rattle.std.proofs.lemmas.Bool.{cases_lt}
use Rattle.std.proofs.lemmas.Bool.Decides.{Decides-int_eq}
use Rattle.std.proofs.lemmas.Int.{ints}
use Rattle.std.proofs.lemmas.List.{map-append}
use Rattle.std.proofs.lemmas.List.Elements.{All-append, All-cons, All-head, All-map, All-nil}
use Rattle.std.proofs.lemmas.List.Elements.{All-tail, filter-append}
use Rattle.bl_num.specs.declared.Decimal.{Decimal}
use Rattle.bl_num.specs.Decimals.{in_units}
use Rattle.bl_num.proofs.Scaled.{scaled, scaled-add}
use Rattle.bl_problem.specs.declared.problem.Column.{Column}
use Rattle.bl_problem.specs.declared.problem.Sense.{Sense}
use Rattle.bl_problem.specs.declared.problem.Sense.TheVariants.{Min, Max}
use Rattle.bl_problem.specs.Points.{in_sense, shown_of}
use Rattle.bl_problem.specs.Program.{HasTen, IsColumn, IsProgram, Program}
use Rattle.bl_cards.specs.Said.{Cell}
use Rattle.bl_cards.specs.Lines.{sense_or_min}
use Rattle.bl_mps.specs.declared.entries.Entry.{Entry}
use Rattle.bl_mps.specs.Meaning.{RowSaid, entries_of, entry_of, or_zero, places_of}
use Rattle.bl_mps.proofs.Units.{places_above, places_least, right_above, ten_negated}
use Rattle.bl_write.specs.Layout.{Text}
use Rattle.bl_write.specs.Written.{Amount, amounts_of, coefficient_in, constant_of, cost_of}
use Rattle.bl_write.specs.Written.{nonzero}
use Rattle.bl_write.proofs.Facts.{amounts_are}
use Rattle.bl_write.proofs.Found.{TellsZero, cell_counts, counts, given_or_none, has_value}
use Rattle.bl_write.proofs.Found.{known_zero, no_cells}
use Rattle.bl_write.proofs.Names.{IsKnown}
use Rattle.bl_write.proofs.Numbers.{ReadsAs, decimal_in, number_reads}
use Rattle.bl_write.proofs.States.{cell_said, cells_said, given_said, rows_said, sense_said}
use Rattle.bl_write.proofs.States.{set_said}

-- ---- senses

pub sense_twice : (sense : Sense) (z : ℤ) → in_sense sense (in_sense sense z) ≡ z
sense_twice Min z = refl
sense_twice Max z = omega (arith, ints)

pub sense_back : (sense : Sense) → sense_or_min (sense_said sense) ≡ sense
sense_back Min = refl
sense_back Max = refl

sense_ten : (sense : Sense) (z : ℤ) → HasTen (in_sense sense z) → HasTen z
sense_ten Min z t = t
sense_ten Max z t = ten_negated z t

zero_ten : (z : ℤ) → z ≡ pos 0 → HasTen z
zero_ten z e = (pos 0, e)

pub sense_zero : (sense : Sense) (z : ℤ) → in_sense sense z ≡ pos 0 → z ≡ pos 0
sense_zero Min z e = e
sense_zero Max z e = omega (arith, ints, e)

pub value_zero : (z : ℤ) → not (int_eq z (pos 0)) ≡ false → z ≡ pos 0
value_zero z e = by (int_eq z (pos 0)) refl e
  where
    by : (t : Bool) → int_eq z (pos 0) ≡ t → not t ≡ false → z ≡ pos 0
    by true f g = (Decides-int_eq z (pos 0)).0 f
    by false f g = absurd cc

-- ---- given numbers

pub set_given : (set : Text) (amounts : List Amount) → (set_said set amounts).given
    ≡ map given_said amounts
set_given set [] = refl
set_given set (a ∷ amounts) = refl

-- ---- costs

abbrev pub entry_or_none : ℕ → Amount → List Entry
entry_or_none j a = cond (has_value a)
    (record { column = j; number = decimal_in a.value a.places } ∷ []) []

-- the costs that are read, from place j on
abbrev pub cost_entries : Program → ℕ → List Column → List Entry
cost_entries p j [] = []
cost_entries p j (c ∷ columns) = entry_or_none j (cost_of p c) ++ cost_entries p (suc j) columns

first_cell : (t : Bool) (c : Cell) → map entry_of (cond t (c ∷ []) []) ≡ cond t (entry_of c ∷ []) []
first_cell true c = refl
first_cell false c = refl

keep_first : (t : Bool) (c : Cell) → cond t (c ∷ []) [] ≡ cond t (c ∷ []) []
keep_first t c = refl

-- of the numbers of a column the cost alone is the objective's
cost_cells : (p : Program) (j : ℕ) (c : Column) → IsProgram p → IsColumn c
    → filter (counts p.objective) (map (cell_said j) (amounts_of p j c))
    ≡ cond (has_value (cost_of p c)) (cell_said j (cost_of p c) ∷ []) []
cost_cells p j c h col =
    let are = amounts_are p j c h col in
    let zero : TellsZero (cost_of p c) = known_zero (rows_said p) (cost_of p c)
    (All-head (IsKnown (rows_said p)) (cost_of p c) (nonzero (map (coefficient_in j) p.rows))
    are.known) in
    let none : filter (counts p.objective)
    (map (cell_said j) (nonzero (map (coefficient_in j) p.rows))) ≡ [] =
    no_cells j (map (coefficient_in j) p.rows) p.objective
    (All-map (λ (a : Amount). a.name ≢ p.objective) (coefficient_in j) p.rows h.no_row) in
    ap₂ (λ (t : Bool) (rest : List Cell). cond t (cell_said j (cost_of p c) ∷ rest) rest)
    (cell_counts j (cost_of p c) zero) none

pub cost_found : (p : Program) (j : ℕ) (columns : List Column) → IsProgram p
    → All IsColumn columns → entries_of (cells_said p j columns) p.objective
    ≡ cost_entries p j columns
cost_found p j [] h cols = refl
cost_found p j (c ∷ columns) h cols =
    ap (map entry_of) (filter-append (counts p.objective) (map (cell_said j) (amounts_of p j c))
    (cells_said p (suc j) columns))
    ∙ map-append entry_of (filter (counts p.objective) (map (cell_said j) (amounts_of p j c)))
    (filter (counts p.objective) (cells_said p (suc j) columns))
    ∙ ap₂ (λ (a b : List Entry). a ++ b) (ap (map entry_of)
    (cost_cells p j c h (All-head IsColumn c columns cols))
    ∙ first_cell (has_value (cost_of p c)) (cell_said j (cost_of p c)))
    (cost_found p (suc j) columns h (All-tail IsColumn c columns cols))

-- ---- the scale

cost_reads : (p : Program) (c : Column) → IsProgram p → IsColumn c
    → ReadsAs (cost_of p c).value p.scale
cost_reads p c h col =
    let k = All-head (IsKnown (rows_said p)) (cost_of p c)
    (nonzero (map (coefficient_in 0) p.rows)) (amounts_are p 0 c h col).known in
    number_reads (cost_of p c).value p.scale k.small h.scale

constant_reads : (p : Program) → IsProgram p → nat_abs (constant_of p).value ≤ 10 ^ 27
    → ReadsAs (constant_of p).value p.scale
constant_reads p h small = number_reads (constant_of p).value p.scale small h.scale

-- the costs have no more places than the scale
costs_few : (p : Program) (j : ℕ) (columns : List Column) → IsProgram p → All IsColumn columns
    → All (λ (e : Entry). e.number.places ≤ p.scale) (cost_entries p j columns)
costs_few p j [] h cols = All-nil (λ (e : Entry). e.number.places ≤ p.scale)
costs_few p j (c ∷ columns) h cols =
    All-append (λ (e : Entry). e.number.places ≤ p.scale) (entry_or_none j (cost_of p c))
    (cost_entries p (suc j) columns)
    (by (has_value (cost_of p c)))
    (costs_few p (suc j) columns h (All-tail IsColumn c columns cols))
  where
    by : (t : Bool) → All (λ (e : Entry). e.number.places ≤ p.scale)
        (cond t (record { column = j; number = decimal_in (cost_of p c).value p.scale } ∷ []) [])
    by true =
        All-cons (λ (e : Entry). e.number.places ≤ p.scale) (record {
          column = j;
          number =
              decimal_in (cost_of p c).value p.scale;
        }) []
        (cost_reads p c h (All-head IsColumn c columns cols)).few
        (All-nil (λ (e : Entry). e.number.places ≤ p.scale))
    by false = All-nil (λ (e : Entry). e.number.places ≤ p.scale)

-- a number that takes fewer places than the scale is a multiple of ten in its units
units_ten : (d : Decimal) (z : ℤ) (scale : ℕ) → d.places < scale → in_units d scale ≡ z → HasTen z
units_ten d z scale fewer is =
    let k : ℕ = scale - d.places - 1 in
    let more : scale - d.places ≡ k + 1 = omega (arith, fewer) in
    (scaled d.mantissa k, sym is ∙ ap (scaled d.mantissa) more ∙ sym (scaled-add d.mantissa k 1))

costs_ten : (p : Program) (j : ℕ) (columns : List Column) → IsProgram p → All IsColumn columns
    → All (λ (e : Entry). e.number.places < p.scale) (cost_entries p j columns)
    → All (λ (c : Column). HasTen c.cost) columns
costs_ten p j [] h cols fewer = All-nil (λ (c : Column). HasTen c.cost)
costs_ten p j (c ∷ columns) h cols fewer =
    by (has_value (cost_of p c)) refl fewer
    (costs_ten p (suc j) columns h (All-tail IsColumn c columns cols))
  where
    all : HasTen c.cost → All (λ (c : Column). HasTen c.cost) columns
        → All (λ (c : Column). HasTen c.cost) (c ∷ columns)
    all t rest = All-cons (λ (d : Column). HasTen d.cost) c columns t rest

    by : (t : Bool) → has_value (cost_of p c) ≡ t → All (λ (e : Entry). e.number.places < p.scale)
        (cond t (record { column = j; number = decimal_in (cost_of p c).value p.scale } ∷ []) []
        ++ cost_entries p (suc j) columns)
        → (All (λ (e : Entry). e.number.places < p.scale) (cost_entries p (suc j) columns)
        → All (λ (c : Column). HasTen c.cost) columns)
        → All (λ (c : Column). HasTen c.cost) (c ∷ columns)
    by true e f ih =
        let entry : Entry = record { column = j; number = decimal_in (cost_of p c).value p.scale }
        in
        let less : (decimal_in (cost_of p c).value p.scale).places < p.scale =
        All-head (λ (e : Entry). e.number.places < p.scale) entry
        (cost_entries p (suc j) columns) f in
        all (sense_ten p.sense c.cost (units_ten (decimal_in (cost_of p c).value p.scale)
        (cost_of p c).value p.scale less
        (cost_reads p c h (All-head IsColumn c columns cols)).units))
        (ih (All-tail (λ (e : Entry). e.number.places < p.scale) entry
        (cost_entries p (suc j) columns) f))
    by false e f ih =
        all (zero_ten c.cost (sense_zero p.sense c.cost (value_zero (cost_of p c).value e))) (ih f)

abbrev pub right_read : Program → Decimal
right_read p = or_zero (given_or_none (constant_of p))

pub record IsRight (p : Program) (d : Decimal) : Type 0 where
  pub few : d.places ≤ p.scale
  pub units : in_units d p.scale ≡ (constant_of p).value
  pub ten : d.places < p.scale → HasTen p.offset

pub right_is : (p : Program) → IsProgram p → ReadsAs (constant_of p).value p.scale
    → IsRight p (right_read p)
right_is p h reads = by (has_value (constant_of p)) refl
  where
    by : (t : Bool) → has_value (constant_of p) ≡ t
        → IsRight p (or_zero (cond t (Some (decimal_in (constant_of p).value p.scale)) None))
    by true e = record {
      few = reads.few;
      units = reads.units;
      ten = λ fewer. sense_ten p.sense p.offset (ten_negated (shown_of p p.offset)
          (units_ten (decimal_in (constant_of p).value p.scale) (constant_of p).value p.scale
          fewer reads.units));
    }
    by false e =
        let none : (constant_of p).value ≡ pos 0 = value_zero (constant_of p).value e in
        let offset : p.offset ≡ pos 0 = sense_zero p.sense p.offset (omega (arith, ints, none)) in
        record {
          few = omega arith;
          units = nothing (10 ^ (p.scale - 0)) ∙ sym none;
          ten =
              λ fewer. zero_ten p.offset offset;
        }
      where
        nothing : (k : ℕ) → pos 0 *ℤ pos k ≡ pos 0
        nothing k = ap pos (omega arith)

abbrev pub objective_read : Program → RowSaid
objective_read p = record {
  entries = cost_entries p 0 p.columns;
  right = right_read p;
  range =
      None;
}

pub scale_back : (p : Program) → IsProgram p → ReadsAs (constant_of p).value p.scale
    → places_of (objective_read p) ≡ p.scale
scale_back p h reads =
    let r = objective_read p in
    let right = right_is p h reads in
    let le : places_of r ≤ p.scale = places_least r p.scale (costs_few p 0 p.columns h h.columns)
    right.few (omega arith) in
    elim (cases_lt (places_of r) p.scale) [
      | inl fewer ↦ absurd (h.least_scale (λ none. omega (arith, fewer, none))
          (costs_ten p 0 p.columns h h.columns (λ k d lt. let a =
          places_above r k d lt in omega (arith, a, fewer)))
          (right.ten (let b = right_above r in omega (arith, b, fewer))))
      | inr past ↦ omega (arith, le, past)
    ]
