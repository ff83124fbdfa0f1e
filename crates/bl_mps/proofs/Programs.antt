-- What a file says is a problem.
use Rattle.std.proofs.Common.{◌≡◌, ◌≢◌, ⊎_elim, inl, inr, ℕ, zero, suc, ◌+◌, ◌<◌, ◌^◌, Bool, true}
use Rattle.std.proofs.Common.{false, cond, not, ◌&&◌, ◌||◌, List, [], ◌∷◌, map, length, get_or}
use Rattle.std.proofs.Common.{fold, Option, Some, None, All, AllPairs, refl, sym, ap, subst, ◌∙◌}
use Rattle.std.proofs.Common.{arith, ℤ, pos}
use Rattle.std.specs.Prelude.{filter, option_map, ◌==◌, int_lt}
use Rattle.std.specs.List.{list_all}
use Rattle.std.proofs.lemmas.Int.{ints}
use Rattle.std.proofs.lemmas.Bool.Decides.{nat_tests}
use Rattle.std.proofs.lemmas.Bool.{and_parts, not-true}
use Rattle.std.proofs.lemmas.List.{length-map, get_or-map}
use Rattle.std.proofs.lemmas.Simd.{map-map}
use Rattle.std.proofs.lemmas.List.Folds.{list_all_at}
use Rattle.std.proofs.lemmas.List.Elements.{All-filter, filter_passes, All-map, All-cons}
use Rattle.std.proofs.lemmas.List.Kept.{AllPairs-filter, AllPairs-cons}
use Rattle.bl_num.specs.declared.Decimal.{Decimal}
use Rattle.bl_num.specs.Decimals.{in_units}
use Rattle.bl_problem.specs.declared.problem.Term.{Term}
use Rattle.bl_problem.specs.declared.problem.Column.{Column}
use Rattle.bl_problem.specs.declared.problem.Row.{Row}
use Rattle.bl_problem.specs.Sums.{IsWithin}
use Rattle.bl_problem.specs.Rows.{AreTerms, IsTerm, coefficient_of}
use Rattle.bl_problem.specs.Program.{IsName, IsRowName, IsColumn, IsRow, HasTen, IsProgram}
use Rattle.bl_problem.specs.declared.problem.Sense.{Sense}
use Rattle.bl_problem.specs.Points.{in_sense}
use Rattle.bl_mps.specs.declared.entries.Entry.{Entry}
use Rattle.bl_mps.specs.declared.ends.Ends.{Ends}
use Rattle.bl_cards.specs.declared.kind.Act.{Act}
use Rattle.bl_cards.specs.declared.kind.Act.TheVariants as act
use Rattle.bl_cards.specs.declared.kind.Role.TheVariants.{Extra}
use Rattle.bl_cards.specs.Said.{same, place_of, Differ, RowLine, Cell, Given, Card, SetOf, Said}
use Rattle.bl_cards.specs.Lines.{is_objective, is_limited, is_extra, has_objective, count_limited}
use Rattle.bl_cards.specs.Lines.{given_for, objective_in}
use Rattle.bl_mps.specs.Meaning.{is_zero, cells_of, entry_of, entries_of, term_of, terms_of}
use Rattle.bl_mps.specs.Meaning.{or_zero, said_of, places_of, range_in, row_of, rows_of}
use Rattle.bl_mps.specs.Meaning.{sense_for, objective_said, objective_of, lowered, set_ends}
use Rattle.bl_mps.specs.Meaning.{acted, unset, carded, ends_or, binary, cards_of, end_or_zero}
use Rattle.bl_mps.specs.Meaning.{column_of, columns_from, program_of, is_within, term_within}
use Rattle.bl_mps.specs.Meaning.{end_within, row_within, keeps_limits, IsRowRead}
use Rattle.bl_cards.specs.Coherence.{IsRead, IsSmall, IsCell, IsBefore, IsCoherent, IsGiven, IsCard}
use Rattle.bl_mps.specs.Views.{row_said}
use Rattle.bl_cards.proofs.Differing.{same_is, same_self}
use Rattle.bl_mps.proofs.Units.{Reached, places_few, places_reached, units_nonzero, units_last}
use Rattle.bl_mps.proofs.Units.{ten_negated}
use Rattle.bl_mps.proofs.Senses.{sense_within, sense_small, sense_ten}
use Rattle.bl_mps.proofs.Limits.{all_true, one_fails, within_is, ends_are}

-- ---- terms

abbrev counts : List ℕ → Cell → Bool
counts row c = same row c.row && not (is_zero c.number)

-- two numbers of one row come in rising columns
rises : (row : List ℕ) (c d : Cell) → counts row c ≡ true → counts row d ≡ true → IsBefore c d
    → c.column < d.column
rises row c d t u (inl l) = l
rises row c d t u (inr p) =
    let e : row ≡ c.row = same_is row c.row
    (and_parts (same row c.row) (not (is_zero c.number)) t).0 in
    let f : row ≡ d.row = same_is row d.row
    (and_parts (same row d.row) (not (is_zero d.number)) u).0 in
    let s : same d.row c.row ≡ true = rw (← f, ← e) (same_self row) in
    let q = p.1 in
    absurd cc

abbrev no_cell : Cell
no_cell = record { column = 0; row = []; number = record { mantissa = pos 0; places = 0 } }

module _ (n : ℕ) (cells : List Cell) (row : List ℕ) (h : All (IsCell n) cells)
    (r : AllPairs IsBefore cells) (places : ℕ) where
  abbrev term : Cell → Term
  term c = term_of places (entry_of c)

  terms_is : terms_of places (entries_of cells row) ≡ map term (cells_of cells row)
  terms_is = map-map (term_of places) entry_of (cells_of cells row)

  pass : All (λ c. counts row c ≡ true) (cells_of cells row)
  pass = filter_passes (counts row) cells

  each : All (IsCell n) (cells_of cells row)
  each = All-filter (counts row) (IsCell n) cells h

  pub rising_are : AllPairs (λ (s t : Term). s.column < t.column)
      (terms_of places (entries_of cells row))
  rising_are = rw terms_is (λ i j d l m.
      let pairs = AllPairs-filter IsBefore (counts row) cells r in
      let wide = length-map (cells_of cells row) term in
      let k : i < length (cells_of cells row) = omega (arith, m, l, wide) in
      let o : j < length (cells_of cells row) = omega (arith, m, wide) in
      let e = get_or-map term (cells_of cells row) i no_cell d k in
      let f = get_or-map term (cells_of cells row) j no_cell d o in
      let q = rises row (get_or (cells_of cells row) i no_cell)
      (get_or (cells_of cells row) j no_cell) (pass i no_cell k) (pass j no_cell o)
      (pairs i j no_cell l o) in
      rw (e, f) q)

  pub inside_are : All (λ (t : Term). t.column < n) (terms_of places (entries_of cells row))
  inside_are = rw terms_is (All-map (λ (t : Term). t.column < n) term (cells_of cells row)
      (λ k d l. (each k d l).within))

  term_is : (c : Cell) → IsCell n c → counts row c ≡ true → term_within (term c) ≡ true
      → IsTerm n (term c)
  term_is c k t w =
      let z = not-true (is_zero c.number)
      (and_parts (same row c.row) (not (is_zero c.number)) t).1 in
      record {
        column = k.within;
        coefficient = within_is (10 ^ 15) (in_units c.number places) w;
        nonzero = units_nonzero c.number places (λ e. let y : is_zero c.number ≡ true =
            rw e refl in absurd cc);
      }

  pub terms_are : list_all term_within (terms_of places (entries_of cells row)) ≡ true
      → AreTerms n (terms_of places (entries_of cells row))
  terms_are w = record {
    each =
        let v = rw terms_is at w in
        let wide = length-map (cells_of cells row) term in
        rw terms_is (All-map (IsTerm n) term (cells_of cells row) (λ k d l.
        let e = get_or-map term (cells_of cells row) k d (term d) l in
        let t = all_true term_within (map term (cells_of cells row)) k (term d) v
        (omega (arith, l, wide)) in
        term_is (get_or (cells_of cells row) k d) (each k d l) (pass k d l)
        (ap term_within (sym e) ∙ t)));
    rising = rising_are;
  }

-- ---- columns

small_in : (m j : ℕ) (ts : List Term) → All (IsTerm m) ts → IsWithin (10 ^ 15) (coefficient_of ts j)
small_in m j [] h = omega (arith, ints)
small_in m j (t ∷ ts) h = by (t.column == j) (h 0 t (omega arith))
    (small_in m j ts (λ k d l. h (suc k) d (omega arith)))
  where
    by : (b : Bool) → IsTerm m t → IsWithin (10 ^ 15) (coefficient_of ts j)
        → IsWithin (10 ^ 15) (cond b t.coefficient (coefficient_of ts j))
    by true x i = x.coefficient
    by false x i = i

pub record SmallEnds (e : Ends) : Type 0 where
  pub low_is : IsSmall (end_or_zero e.low)
  pub high_is : IsSmall (end_or_zero e.high)

zero_small : IsSmall (pos 0)
zero_small = omega (arith, ints)

one_small : IsSmall (pos 1)
one_small = omega (arith, ints)

low_by : (t : Bool) (e : Ends) → IsSmall (end_or_zero e.low)
    → IsSmall (end_or_zero (cond t None e.low))
low_by true e h = zero_small
low_by false e h = h

lowered_small : (e : Ends) (n : ℤ) → SmallEnds e → IsSmall n → SmallEnds (lowered e n)
lowered_small e n h s = record {
  low_is =
      low_by (int_lt n (pos 0) && not e.low_is_said) e h.low_is;
  high_is = s;
}

set_small : (a : Act) (e : Ends) (n : ℤ) → SmallEnds e → IsSmall n → SmallEnds (set_ends a e n)
set_small act.High e n h s = lowered_small e n h s
set_small act.WholeHigh e n h s = let k =
    lowered_small e n h s in record { low_is = k.low_is; high_is = k.high_is }
set_small act.Low e n h s = record { low_is = s; high_is = h.high_is }
set_small act.WholeLow e n h s = record { low_is = s; high_is = h.high_is }
set_small act.Both e n h s = record { low_is = s; high_is = s }
set_small act.Free e n h s = record { low_is = zero_small; high_is = zero_small }
set_small act.NoLow e n h s = record { low_is = zero_small; high_is = h.high_is }
set_small act.NoHigh e n h s = record { low_is = h.low_is; high_is = zero_small }
set_small act.Binary e n h s = record { low_is = zero_small; high_is = one_small }

folded : (cards : List Card) (e : Ends) → All IsCard cards → SmallEnds e
    → SmallEnds (fold acted e cards)
folded [] e h s = s
folded (c ∷ cards) e h s = folded cards (acted e c) (λ k d l. h (suc k) d (omega arith))
    (set_small c.act e c.number s (h 0 c (omega arith)))

carded_small : (cards : List Card) → All IsCard cards → SmallEnds (ends_or binary (carded cards))
carded_small [] h = record { low_is = zero_small; high_is = one_small }
carded_small (c ∷ cards) h =
    folded (c ∷ cards) unset h (record { low_is = zero_small; high_is = zero_small })

column_is : (s : Said) (costs : List Term) (m j : ℕ) (name : List ℕ) → All IsCard s.bounds.given
    → All (IsTerm m) costs → IsName name → IsColumn (column_of s costs j name)
column_is s costs m j name h t n =
    let e = carded_small (cards_of s.bounds.given name)
    (All-filter (λ (c : Card). same name c.column) IsCard s.bounds.given h) in
    record {
      name = n;
      low = e.low_is;
      high = e.high_is;
      cost =
          sense_small (sense_for s) (10 ^ 15) (coefficient_of costs j) (small_in m j costs t);
    }

columns_are : (s : Said) (costs : List Term) (m j : ℕ) (names : List (List ℕ))
    → All IsCard s.bounds.given → All (IsTerm m) costs → All IsName names
    → All IsColumn (columns_from s costs j names)
columns_are s costs m j [] h t n = λ k d l. absurd (omega arith)
columns_are s costs m j (name ∷ names) h t n =
    All-cons IsColumn (column_of s costs j name) (columns_from s costs (suc j) names)
    (column_is s costs m j name h t (n 0 name (omega arith)))
    (columns_are s costs m (suc j) names h t (λ k d l. n (suc k) d (omega arith)))

pub count_columns : (s : Said) (costs : List Term) (j : ℕ) (names : List (List ℕ))
    → length (columns_from s costs j names) ≡ length names
count_columns s costs j [] = refl
count_columns s costs j (name ∷ names) = ap suc (count_columns s costs (suc j) names)

apart : (names : List (List ℕ)) (name : List ℕ) → place_of names name ≡ None
    → All (λ m. name ≢ m) names
apart [] name e = λ k d l. absurd (omega arith)
apart (n ∷ names) name e =
    let p = none_by (same name n) (place_of names name) e in
    All-cons (λ m. name ≢ m) n names (λ q. let t : same name n ≡ true =
    rw q (same_self n) in let f = p.0 in absurd cc) (apart names name p.1)
  where
    none_by : (t : Bool) (o : Option ℕ) → cond t (Some 0) (option_map suc o) ≡ None → (t ≡ false)
        × (o ≡ None)
    none_by true o e = absurd cc
    none_by false None e = (refl, refl)
    none_by false (Some i) e = absurd cc

named_apart : (s : Said) (costs : List Term) (j : ℕ) (c : Column) (names : List (List ℕ))
    → All (λ m. c.name ≢ m) names
    → All (λ (d : Column). c.name ≢ d.name) (columns_from s costs j names)
named_apart s costs j c [] h = λ k d l. absurd (omega arith)
named_apart s costs j c (name ∷ names) h =
    All-cons (λ (d : Column). c.name ≢ d.name) (column_of s costs j name)
    (columns_from s costs (suc j) names) (h 0 name (omega arith))
    (named_apart s costs (suc j) c names (λ k d l. h (suc k) d (omega arith)))

columns_differ : (s : Said) (costs : List Term) (j : ℕ) (names : List (List ℕ)) → Differ names
    → AllPairs (λ (c d : Column). c.name ≢ d.name) (columns_from s costs j names)
columns_differ s costs j [] h = λ i k d l m. absurd (omega arith)
columns_differ s costs j (name ∷ names) h =
    AllPairs-cons (λ (c d : Column). c.name ≢ d.name) (column_of s costs j name)
    (columns_from s costs (suc j) names) (named_apart s costs (suc j)
    (column_of s costs j name) names (apart names name h.0))
    (columns_differ s costs (suc j) names h.1)

-- ---- costs

-- the column of a term has its coefficient
found : (ts : List Term) (k : ℕ) (d : Term) → AllPairs (λ (s t : Term). s.column < t.column) ts
    → k < length ts → coefficient_of ts (get_or ts k d).column ≡ (get_or ts k d).coefficient
found [] k d r l = absurd (omega arith)
found (t ∷ ts) zero d r l = let e : (t.column == t.column) ≡ true =
    grind (arith, nat_tests) in rw e refl
found (t ∷ ts) (suc k) d r l =
    let before : t.column < (get_or ts k d).column = r 0 (suc k) d (omega arith) l in
    let e : (t.column == (get_or ts k d).column) ≡ false = grind (arith, nat_tests) in
    rw e (found ts k d (λ i j x m n. r (suc i) (suc j) x (omega (arith, m)) (omega (arith, n)))
    (omega arith))

pub cost_at : (s : Said) (costs : List Term) (i : ℕ) (names : List (List ℕ)) (j : ℕ) (d : Column)
    → j < length names → (get_or (columns_from s costs i names) j d).cost
    ≡ in_sense (sense_for s) (coefficient_of costs (i + j))
cost_at s costs i [] j d l = absurd (omega arith)
cost_at s costs i (n ∷ names) zero d l =
    ap (λ (k : ℕ). in_sense (sense_for s) (coefficient_of costs k)) (omega arith)
cost_at s costs i (n ∷ names) (suc j) d l = cost_at s costs (suc i) names j d (omega arith)
    ∙ ap (λ (k : ℕ). in_sense (sense_for s) (coefficient_of costs k)) (omega arith)

abbrev cost_within : Column → Bool
cost_within c = is_within (10 ^ 15) c.cost

pub coefficient_within : (ts : List Term) (j : ℕ) → list_all term_within ts ≡ true
    → is_within (10 ^ 15) (coefficient_of ts j) ≡ true
coefficient_within [] j e = refl
coefficient_within (t ∷ ts) j e =
    let b = and_parts (term_within t) (list_all term_within ts) e in
    by (t.column == j) b.0 (coefficient_within ts j b.1)
  where
    by : (c : Bool) → term_within t ≡ true → is_within (10 ^ 15) (coefficient_of ts j) ≡ true
        → is_within (10 ^ 15) (cond c t.coefficient (coefficient_of ts j)) ≡ true
    by true x i = x
    by false x i = i

within_all : (s : Said) (costs : List Term) (i : ℕ) (names : List (List ℕ))
    → list_all term_within costs ≡ true → list_all cost_within (columns_from s costs i names) ≡ true
within_all s costs i [] e = refl
within_all s costs i (n ∷ names) e =
    rw (
      sense_within (sense_for s) (10 ^ 15) (coefficient_of costs i),
      coefficient_within costs i
          e,
      within_all s costs (suc i) names e,
    ) refl

pub no_column : Column
no_column = record { name = []; low = pos 0; high = pos 0; cost = pos 0 }

abbrev no_term : Term
no_term = record { column = 0; coefficient = pos 0 }

-- the costs are within the limit where the objective's terms are
pub costs_within : (s : Said) (costs : List Term) (names : List (List ℕ))
    → AllPairs (λ (t u : Term). t.column < u.column) costs
    → All (λ (t : Term). t.column < length names) costs
    → list_all cost_within (columns_from s costs 0 names) ≡ list_all term_within costs
costs_within s costs names r h = by (list_all term_within costs) refl
  where
    by : (t : Bool) → list_all term_within costs ≡ t
        → list_all cost_within (columns_from s costs 0 names) ≡ t
    by true e = within_all s costs 0 names e
    by false e =
        let f = one_fails term_within costs e in
        let t = get_or costs f.place no_term in
        let l : t.column < length names = h f.place no_term f.within in
        let wide = count_columns s costs 0 names in
        let is : (get_or (columns_from s costs 0 names) t.column no_column).cost
        ≡ in_sense (sense_for s) t.coefficient =
        cost_at s costs 0 names t.column no_column l
        ∙ ap (in_sense (sense_for s)) (ap (coefficient_of costs) (omega arith)
        ∙ found costs f.place no_term r f.within) in
        list_all_at cost_within (columns_from s costs 0 names) t.column no_column
        (omega (arith, l, wide)) (ap (is_within (10 ^ 15)) is
        ∙ sense_within (sense_for s) (10 ^ 15) t.coefficient ∙ f.is no_term)

-- ---- rows

given_read : (given : List Given) (row : List ℕ) → All IsGiven given
    → IsRead (or_zero (given_for given row))
given_read [] row h = record { canonical = inl refl; limits = (omega (arith, ints), omega arith) }
given_read (g ∷ given) row h = by (same row g.row) (h 0 g (omega arith))
    (given_read given row (λ k d l. h (suc k) d (omega arith)))
  where
    by : (b : Bool) → IsGiven g → IsRead (or_zero (given_for given row))
        → IsRead (or_zero (cond b (Some g.number) (given_for given row)))
    by true x i = x
    by false x i = i

entries_read : (n : ℕ) (cells : List Cell) (row : List ℕ) → All (IsCell n) cells
    → All (λ (e : Entry). IsRead e.number) (entries_of cells row)
entries_read n cells row h =
    let each = All-filter (counts row) (IsCell n) cells h in
    All-map (λ (e : Entry). IsRead e.number) entry_of (cells_of cells row)
    (λ k d l. (each k d l).number)

-- the numbers of a row were read
pub row_read : (s : Said) (row : List ℕ) → IsCoherent s → IsRowRead (said_of s row)
row_read s row h =
    record {
      entries = entries_read (length s.columns.names) s.columns.cells row h.grid.each;
      right = given_read s.rhs.given row h.rhs;
      range = given_read s.ranges.given row h.ranges;
    }

pub objective_read : (s : Said) → IsCoherent s → IsRowRead (objective_said s)
objective_read s h = let r = row_read s (objective_in s.rows) h in record {
  entries =
      r.entries;
  right = r.right;
  range =
      record { canonical = inl refl; limits = (omega (arith, ints), omega arith) };
}

-- what is gathered for a row is what was said of it
pub said_is : (s : Said) (name row : List ℕ) (es : List Entry) (right : Decimal)
    (range : Option Decimal) (rhs ranges : SetOf Given) → es ≡ entries_of s.columns.cells name
    → row ≡ name → rhs ≡ s.rhs → ranges ≡ s.ranges
    → right ≡ or_zero (given_for rhs.given row) → range ≡ given_for ranges.given row
    → row_said es right range ≡ said_of s name
said_is s name row es right range rhs ranges a b c d e f = rw (a, e, f, c, d, b) refl

pub objective_said_is : (s : Said) (row : List ℕ) (es : List Entry) (right : Decimal)
    (rhs : SetOf Given) → es ≡ entries_of s.columns.cells (objective_in s.rows) → row
    ≡ objective_in s.rows → rhs ≡ s.rhs
    → right ≡ or_zero (given_for rhs.given row) → row_said es right None ≡ objective_said s
objective_said_is s row es right rhs a b c e = rw (a, e, c, b) refl

row_is : (s : Said) (line : RowLine) → IsCoherent s → IsRowName line.name → is_limited line.role
    ≡ true → row_within (row_of s line) ≡ true → IsRow (length s.columns.names) (row_of s line)
row_is s line h n e w =
    let r = said_of s line.name in
    let b = and_parts (list_all term_within (row_of s line).terms)
    (end_within (row_of s line).low && end_within (row_of s line).high) w in
    record {
      name = n;
      terms = terms_are (length s.columns.names) s.columns.cells line.name h.grid.each
          h.grid.rising (places_of r) b.0;
      ends = ends_are line.role (in_units r.right (places_of r)) (range_in (places_of r) r.range)
          e b.1;
    }

abbrev limited_line : RowLine → Bool
limited_line l = is_limited l.role

apart_lines : (name : List ℕ) (lines : List RowLine)
    → All (λ m. name ≢ m) (map (λ (x : RowLine). x.name) lines)
    → All (λ (x : RowLine). name ≢ x.name) lines
apart_lines name [] h = λ k d l. absurd (omega arith)
apart_lines name (x ∷ lines) h = All-cons (λ (y : RowLine). name ≢ y.name) x lines
    (h 0 x.name (omega arith)) (apart_lines name lines (λ k d m. h (suc k) d (omega arith)))

lines_differ : (lines : List RowLine) → Differ (map (λ (l : RowLine). l.name) lines)
    → AllPairs (λ (r t : RowLine). r.name ≢ t.name) lines
lines_differ [] h = λ i k d l m. absurd (omega arith)
lines_differ (l ∷ lines) h =
    AllPairs-cons (λ (r t : RowLine). r.name ≢ t.name) l lines
    (apart_lines l.name lines (apart (map (λ (x : RowLine). x.name) lines) l.name h.0))
    (lines_differ lines h.1)

no_line : RowLine
no_line = record { name = []; role = Extra }

rows_differ : (s : Said) (lines : List RowLine) → AllPairs (λ (r t : RowLine). r.name ≢ t.name)
    lines → AllPairs (λ (r t : Row). r.name ≢ t.name) (map (row_of s) lines)
rows_differ s lines h = λ i j d l m.
    let wide = length-map lines (row_of s) in
    let k : i < length lines = omega (arith, m, l, wide) in
    let o : j < length lines = omega (arith, m, wide) in
    let e = get_or-map (row_of s) lines i no_line d k in
    let f = get_or-map (row_of s) lines j no_line d o in
    rw (e, f) (h i j no_line l o)

count_rows : (lines : List RowLine) → length (filter limited_line lines) ≡ count_limited lines
count_rows [] = refl
count_rows (l ∷ lines) = by (is_limited l.role) (count_rows lines)
  where
    by : (t : Bool) → length (filter limited_line lines) ≡ count_limited lines
        → length (cond t (l ∷ filter limited_line lines) (filter limited_line lines)) ≡ cond t 1 0
        + count_limited lines
    by true e = omega (arith, e)
    by false e = omega (arith, e)

-- ---- the objective

-- what holds of each row's name holds of the objective's
pub objective_by : (P : List ℕ → Type 0) (lines : List RowLine) → has_objective lines ≡ true
    → All (λ (r : RowLine). P r.name) lines → P (objective_in lines)
objective_by P [] e h = absurd cc
objective_by P (l ∷ lines) e h =
    by (is_objective l.role) e (λ f. objective_by P lines f (λ k d m. h (suc k) d (omega arith)))
  where
    by : (t : Bool) → (t || has_objective lines) ≡ true
        → (has_objective lines ≡ true → P (objective_in lines))
        → P (cond t l.name (objective_in lines))
    by true f i = h 0 l (omega arith)
    by false f i = i f

-- no row with ends is the objective
no_objective : (lines : List RowLine) → AllPairs (λ (r t : RowLine). r.name ≢ t.name) lines
    → has_objective lines ≡ true → All (λ (r : RowLine). r.name ≢ objective_in lines)
    (filter limited_line lines)
no_objective [] h e = absurd cc
no_objective (l ∷ lines) h e =
    by (is_objective l.role) (is_extra l.role) e
    (λ f. no_objective lines (λ i j x m n. h (suc i) (suc j) x (omega (arith, m))
    (omega (arith, n))) f)
  where
    others : All (λ (r : RowLine). l.name ≢ r.name) lines
    others = λ k d m. h 0 (suc k) d (omega arith) (omega (arith, m))

    by : (t u : Bool) → (t || has_objective lines) ≡ true
        → (has_objective lines ≡ true → All (λ (r : RowLine). r.name ≢ objective_in lines)
        (filter limited_line lines))
        → All (λ (r : RowLine). r.name ≢ cond t l.name (objective_in lines))
        (cond (not t && not u) (l ∷ filter limited_line lines) (filter limited_line lines))
    by true u f i = All-filter limited_line (λ (r : RowLine). r.name ≢ l.name) lines
        (λ k d m g. others k d m (sym g))
    by false true f i = i f
    by false false f i = All-cons (λ (r : RowLine). r.name ≢ objective_in lines) l
        (filter limited_line lines) (objective_by (λ m. l.name ≢ m) lines f others) (i f)

-- ---- the problem

module _ (s : Said) (h : IsCoherent s) where
  abbrev costs : List Term
  costs = (objective_of s).costs

  abbrev sense : Sense
  sense = sense_for s

  abbrev spread : ℕ
  spread = places_of (objective_said s)

  pub costs_rise : AllPairs (λ (t u : Term). t.column < u.column) costs
  costs_rise = rising_are (length s.columns.names) s.columns.cells (objective_in s.rows)
      h.grid.each h.grid.rising spread

  pub costs_inside : All (λ (t : Term). t.column < length s.columns.names) costs
  costs_inside = inside_are (length s.columns.names) s.columns.cells (objective_in s.rows)
      h.grid.each h.grid.rising spread

  least_right : (objective_said s).right.places ≡ spread → spread ≢ 0
      → HasTen (in_sense sense (objective_of s).offset) → ⊥
  least_right e n t = units_last (objective_said s).right spread
      (objective_read s h).right.canonical e n
      (ten_negated (in_units (objective_said s).right spread)
      (sense_ten sense (objective_of s).offset t))

  least_entry : Reached (objective_said s).entries spread → spread ≢ 0
      → All (λ (c : Column). HasTen c.cost) (columns_from s costs 0 s.columns.names) → ⊥
  least_entry r n t =
      let es = (objective_said s).entries in
      let d : Entry = record { column = 0; number = record { mantissa = pos 0; places = 0 } } in
      let e = get_or es r.place d in
      let wide = length-map es (term_of spread) in
      let l : r.place < length costs = let m = r.within in omega (arith, m, wide) in
      let u = get_or-map (term_of spread) es r.place d no_term r.within in
      let f = found costs r.place no_term costs_rise l in
      let inside = costs_inside r.place no_term l in
      let many = count_columns s costs 0 s.columns.names in
      let c = cost_at s costs 0 s.columns.names (get_or costs r.place no_term).column no_column
      inside in
      let ten = t (get_or costs r.place no_term).column no_column (omega (arith, inside, many)) in
      let is : (get_or (columns_from s costs 0 s.columns.names)
      (get_or costs r.place no_term).column no_column).cost
      ≡ in_sense sense (in_units e.number spread) =
      c ∙ ap (in_sense sense) (ap (coefficient_of costs) (omega arith) ∙ f
      ∙ ap (λ (x : Term). x.coefficient) u) in
      units_last e.number spread ((objective_read s h).entries r.place d r.within).canonical
      (r.is d) n (sense_ten sense (in_units e.number spread) (subst HasTen is ten))

  least : spread ≢ 0 → All (λ (c : Column). HasTen c.cost)
      (columns_from s costs 0 s.columns.names) → HasTen (in_sense sense (objective_of s).offset) → ⊥
  least n a b = ⊎_elim (λ e. least_right e n b) (⊎_elim (λ e. n (sym e)) (λ r. least_entry r n a))
      (places_reached (objective_said s) n)

  -- what a file says is a problem, where it has an objective and keeps the limits
  pub program_is : has_objective s.rows ≡ true → keeps_limits (program_of s) ≡ true
      → IsProgram (program_of s)
  program_is some keeps =
      let parts = and_parts (list_all cost_within (columns_from s costs 0 s.columns.names)
      && is_within (10 ^ 24) (in_sense sense (objective_of s).offset))
      (list_all row_within (rows_of s)) keeps in
      let first = and_parts (list_all cost_within (columns_from s costs 0 s.columns.names))
      (is_within (10 ^ 24) (in_sense sense (objective_of s).offset)) parts.0 in
      let near = sym (costs_within s costs s.columns.names costs_rise costs_inside) ∙ first.0 in
      let terms = terms_are (length s.columns.names) s.columns.cells (objective_in s.rows)
      h.grid.each h.grid.rising spread near in
      let wide = count_columns s costs 0 s.columns.names in
      let lines = filter limited_line s.rows in
      let differ = lines_differ s.rows h.lines.differ in
      let named = All-filter limited_line (λ (r : RowLine). IsRowName r.name) s.rows h.lines.names
      in
      let pass = filter_passes limited_line s.rows in
      let many = length-map lines (row_of s) in
      record {
        few_columns = let f = h.grid.few in omega (arith, wide, f);
        few_rows = let n = count_rows s.rows in let f = h.lines.few in omega (arith, n, many, f);
        columns = columns_are s costs (length s.columns.names) 0 s.columns.names h.cards
            terms.each h.grid.named;
        column_names = columns_differ s costs 0 s.columns.names h.grid.differ;
        rows = rw wide (All-map (IsRow (length s.columns.names)) (row_of s) lines (λ k d l.
            let e = get_or-map (row_of s) lines k d (row_of s d) l in
            let w = all_true row_within (map (row_of s) lines) k (row_of s d) parts.1
            (omega (arith, l, many)) in
            row_is s (get_or lines k d) h (named k d l) (pass k d l) (ap row_within (sym e) ∙ w)));
        row_names = rows_differ s lines
            (AllPairs-filter (λ (r t : RowLine). r.name ≢ t.name) limited_line s.rows differ);
        objective = objective_by IsRowName s.rows some h.lines.names;
        no_row = All-map (λ (r : Row). r.name ≢ objective_in s.rows) (row_of s) lines
            (no_objective s.rows differ some);
        offset = within_is (10 ^ 24) (in_sense sense (objective_of s).offset) first.1;
        scale = places_few (objective_said s) (objective_read s h);
        least_scale = least;
      }
