-- What holds of the numbers that are written for a problem.
use Rattle.std.proofs.Common.{◌≡◌, ◌≢◌, ◌≤◌, ◌^◌, ◌==◌, ℕ, ℤ, pos, Bool, true, false, cond, List}
use Rattle.std.proofs.Common.{[], ◌∷◌, map, length, get_or, ap, refl, arith, suc, Option, Some}
use Rattle.std.proofs.Common.{None, All, not, nat_abs}
use Rattle.std.specs.Prelude.{AllPairs, neg_ℤ, option_map}
use Rattle.std.specs.Ordering.{int_eq}
use Rattle.std.proofs.lemmas.Int.{ints}
use Rattle.std.proofs.lemmas.List.Elements.{All-cons, All-filter, All-head, All-map, All-nil}
use Rattle.std.proofs.lemmas.List.Elements.{All-tail}
use Rattle.std.proofs.lemmas.List.Kept.{AllPairs-cons, AllPairs-filter}
use Rattle.bl_problem.specs.declared.problem.Column.{Column}
use Rattle.bl_problem.specs.declared.problem.Row.{Row}
use Rattle.bl_problem.specs.declared.problem.Term.{Term}
use Rattle.bl_problem.specs.declared.problem.Sense.{Sense}
use Rattle.bl_problem.specs.declared.problem.Sense.TheVariants.{Min, Max}
use Rattle.bl_problem.specs.Points.{in_sense, shown_of}
use Rattle.bl_problem.specs.Program.{IsColumn, IsProgram, IsRow, IsRowName, Program}
use Rattle.bl_problem.specs.Rows.{AreEnds, IsTerm, coefficient_of}
use Rattle.bl_cards.specs.declared.kind.Role.{Role}
use Rattle.bl_cards.specs.declared.kind.Role.TheVariants.{Objective, AtMost, AtLeast, Equal}
use Rattle.bl_cards.specs.Said.{RowLine, place_of, same}
use Rattle.bl_cards.specs.Lines.{is_extra, is_limited, is_objective, role_of}
use Rattle.bl_cards.proofs.Differing.{same_self}
use Rattle.bl_write.specs.Layout.{Text}
use Rattle.bl_write.specs.Written.{amounts_of, coefficient_in, constant_of, cost_of, nonzero}
use Rattle.bl_write.specs.Written.{range_of, ranges_of, right_of, right_side, rights_of, width_of}
use Rattle.bl_write.proofs.ColumnLines.{AreAmounts}
use Rattle.bl_write.proofs.Names.{Apart, IsKnown, other_name, pairs_head, pairs_tail, turned}
use Rattle.bl_write.proofs.RowLines.{limited_row}
use Rattle.bl_write.proofs.SetLines.{IsCounted, IsKnownColumn}
use Rattle.bl_write.proofs.States.{names_of, role_in, row_said, rows_said}

-- ---- sizes

pub sense_size : (sense : Sense) (z : ℤ) → nat_abs (in_sense sense z) ≡ nat_abs z
sense_size Min z = refl
sense_size Max z = omega (arith, ints)

pub coefficient_small : (n j : ℕ) (terms : List Term) → All (IsTerm n) terms
    → nat_abs (coefficient_of terms j) ≤ 10 ^ 15
coefficient_small n j [] h = omega arith
coefficient_small n j (t ∷ terms) h =
    by (t.column == j) (coefficient_small n j terms (All-tail (IsTerm n) t terms h))
  where
    by : (b : Bool) → nat_abs (coefficient_of terms j) ≤ 10 ^ 15
        → nat_abs (cond b t.coefficient (coefficient_of terms j)) ≤ 10 ^ 15
    by true ih = (All-head (IsTerm n) t terms h).coefficient
    by false ih = ih

pub right_small : (low high : Option ℤ) → AreEnds low high → nat_abs (right_side low high) ≤ 10 ^ 24
right_small None None ends = absurd ends
right_small (Some low) None ends = ends
right_small None (Some high) ends = ends
right_small (Some low) (Some high) ends = ends.1

pub width_small : (low high : Option ℤ) → AreEnds low high → nat_abs (width_of low high) ≤ 10 ^ 27
width_small None high ends = omega arith
width_small (Some low) None ends = omega arith
width_small (Some low) (Some high) ends = let a = ends.0 in let b =
    ends.1 in omega (arith, ints, a, b)

-- ---- pairs

pairs_nil : {X : Type 0} (R : X → X → Type 0) → AllPairs R []
pairs_nil R i j d i_lt j_in = absurd (omega arith)

pub pairs_map : {X Y : Type 0} (R : Y → Y → Type 0) (f : X → Y) (xs : List X)
    → AllPairs (λ x y. R (f x) (f y)) xs → AllPairs R (map f xs)
pairs_map R f [] pairs = pairs_nil R
pairs_map R f (x ∷ xs) pairs =
    AllPairs-cons R (f x) (map f xs) (All-map (R (f x)) f xs
    (pairs_head (λ a b. R (f a) (f b)) x xs pairs))
    (pairs_map R f xs (pairs_tail (λ a b. R (f a) (f b)) x xs pairs))

-- ---- rows

abbrev HasRole : List RowLine → Row → Type 0
HasRole lines r = role_of lines r.name ≡ Some (role_in r.low r.high)

abbrev Differ : Row → Row → Type 0
Differ r q = r.name ≢ q.name

rows_known : (rs : List Row) → AllPairs Differ rs → All (HasRole (map row_said rs)) rs
rows_known [] pairs = All-nil (HasRole [])
rows_known (r ∷ rs) pairs =
    All-cons (HasRole (map row_said (r ∷ rs))) r rs (rw (same_self r.name) refl)
    (λ k d lt. rw (other_name _ r.name (turned r.name _ (pairs_head Differ r rs pairs k d lt)))
    (rows_known rs (pairs_tail Differ r rs pairs) k d lt))

pub all_known : (p : Program) → IsProgram p → All (HasRole (rows_said p)) p.rows
all_known p h k d lt = rw (other_name _ p.objective (h.no_row k d lt))
    (rows_known p.rows h.row_names k d lt)

pub not_extra : (role : Role) → is_limited role ≡ true → is_extra role ≡ false
not_extra Objective e = refl
not_extra AtMost e = refl
not_extra AtLeast e = refl
not_extra Equal e = refl
not_extra _ e = absurd cc

pub not_objective : (role : Role) → is_limited role ≡ true → is_objective role ≡ false
not_objective Objective e = absurd cc
not_objective AtMost e = refl
not_objective AtLeast e = refl
not_objective Equal e = refl
not_objective _ e = refl

row_amount : (p : Program) (r : Row) (z : ℤ) → HasRole (rows_said p) r → IsRowName r.name
    → nat_abs z ≤ 10 ^ 27 → IsKnown (rows_said p) (record { name = r.name; value = z; places = 0 })
row_amount p r z known name small =
    record {
      role = role_in r.low r.high;
      known = known;
      counts =
          not_extra (role_in r.low r.high) (limited_row r.low r.high);
      name = name;
      small =
          small;
      few = omega arith;
    }

objective_amount : (p : Program) (z : ℤ) → IsProgram p → nat_abs z ≤ 10 ^ 27
    → IsKnown (rows_said p) (record { name = p.objective; value = z; places = p.scale })
objective_amount p z h small = record {
  role = Objective;
  known =
      rw (same_self p.objective) refl;
  counts = refl;
  name = h.objective;
  small = small;
  few =
      h.scale;
}

pub coefficient_known : (p : Program) (j : ℕ) (r : Row) → HasRole (rows_said p) r
    → IsRow (length p.columns) r → IsKnown (rows_said p) (coefficient_in j r)
coefficient_known p j r known row = let s = coefficient_small (length p.columns) j r.terms
    row.terms.each in row_amount p r (coefficient_of r.terms j) known row.name (omega (arith, s))

right_counted : (p : Program) (r : Row) → HasRole (rows_said p) r → IsRow (length p.columns) r
    → IsCounted false (rows_said p) (right_of r)
right_counted p r known row = let small = right_small r.low r.high row.ends in (
  row_amount p r (right_side r.low r.high) known row.name (omega (arith, small)),
  refl
      {a = false},
)

range_counted : (p : Program) (r : Row) → HasRole (rows_said p) r → IsRow (length p.columns) r
    → IsCounted true (rows_said p) (range_of r)
unfolding row_amount
range_counted p r known row = (
  row_amount p r (width_of r.low r.high) known row.name (width_small r.low r.high row.ends),
  not_objective (role_in r.low r.high) (limited_row r.low r.high),
)

-- ---- the numbers of a column

cost_known : (p : Program) (c : Column) → IsProgram p → IsColumn c
    → IsKnown (rows_said p) (cost_of p c)
cost_known p c h col = let s = col.cost in let e =
    sense_size p.sense c.cost in objective_amount p (shown_of p c.cost) h (omega (arith, s, e))

pub amounts_are : (p : Program) (j : ℕ) (c : Column) → IsProgram p → IsColumn c
    → AreAmounts (rows_said p) (amounts_of p j c)
amounts_are p j c h col =
    let numbers = map (coefficient_in j) p.rows in
    let known : All (IsKnown (rows_said p)) numbers =
    All-map (IsKnown (rows_said p)) (coefficient_in j) p.rows
    (λ k d lt. coefficient_known p j (get_or p.rows k d) (all_known p h k d lt) (h.rows k d lt)) in
    let others : All (Apart (cost_of p c)) numbers =
    All-map (Apart (cost_of p c)) (coefficient_in j) p.rows
    (λ k d lt. turned _ p.objective (h.no_row k d lt)) in
    record {
      known = All-cons (IsKnown (rows_said p)) (cost_of p c) (nonzero numbers)
          (cost_known p c h col) (All-filter (λ a. not (int_eq a.value (pos 0)))
          (IsKnown (rows_said p)) numbers known);
      apart = AllPairs-cons Apart (cost_of p c) (nonzero numbers)
          (All-filter (λ a. not (int_eq a.value (pos 0))) (Apart (cost_of p c)) numbers others)
          (AllPairs-filter Apart (λ a. not (int_eq a.value (pos 0))) numbers
          (pairs_map Apart (coefficient_in j) p.rows h.row_names));
    }

-- ---- the numbers on the right

pub rights_counted : (p : Program) → IsProgram p → All (IsCounted false (rows_said p)) (rights_of p)
rights_counted p h =
    let s = h.offset in
    let e = sense_size p.sense p.offset in
    let constant : IsCounted false (rows_said p) (constant_of p) = (
      objective_amount p (neg_ℤ (shown_of p p.offset)) h (omega (arith, ints, s, e)),
      refl
          {a = false},
    ) in
    let rows : All (IsCounted false (rows_said p)) (map right_of p.rows) =
    All-map (IsCounted false (rows_said p)) right_of p.rows
    (λ k d lt. right_counted p (get_or p.rows k d) (all_known p h k d lt) (h.rows k d lt)) in
    All-filter (λ a. not (int_eq a.value (pos 0))) (IsCounted false (rows_said p))
    (constant_of p ∷ map right_of p.rows)
    (All-cons (IsCounted false (rows_said p)) (constant_of p) (map right_of p.rows) constant
    rows)

pub rights_apart : (p : Program) → IsProgram p → AllPairs Apart (rights_of p)
rights_apart p h = AllPairs-filter Apart (λ a. not (int_eq a.value (pos 0)))
    (constant_of p ∷ map right_of p.rows)
    (AllPairs-cons Apart (constant_of p) (map right_of p.rows)
    (All-map (Apart (constant_of p)) right_of p.rows
    (λ k d lt. turned _ p.objective (h.no_row k d lt)))
    (pairs_map Apart right_of p.rows h.row_names))

pub ranges_counted : (p : Program) → IsProgram p → All (IsCounted true (rows_said p)) (ranges_of p)
ranges_counted p h =
    let rows : All (IsCounted true (rows_said p)) (map range_of p.rows) =
    All-map (IsCounted true (rows_said p)) range_of p.rows
    (λ k d lt. range_counted p (get_or p.rows k d) (all_known p h k d lt) (h.rows k d lt)) in
    All-filter (λ a. not (int_eq a.value (pos 0))) (IsCounted true (rows_said p))
    (map range_of p.rows) rows

pub ranges_apart : (p : Program) → IsProgram p → AllPairs Apart (ranges_of p)
ranges_apart p h = AllPairs-filter Apart (λ a. not (int_eq a.value (pos 0))) (map range_of p.rows)
    (pairs_map Apart range_of p.rows h.row_names)

-- ---- columns

abbrev IsPlaced : List Text → Column → Type 0
IsPlaced names c = (i : ℕ) × (place_of names c.name ≡ Some i)

placed_by : (t : Bool) (o : Option ℕ) → (i : ℕ) × (o ≡ Some i) → (i : ℕ)
    × (cond t (Some 0) (option_map suc o) ≡ Some i)
placed_by true o h = (0, refl)
placed_by false o h = (suc h.0, ap (option_map suc) h.1)

columns_placed : (columns : List Column) → All (IsPlaced (names_of columns)) columns
columns_placed [] = All-nil (IsPlaced [])
columns_placed (c ∷ columns) =
    All-cons (IsPlaced (names_of (c ∷ columns))) c columns (0, rw (same_self c.name) refl)
    (λ k d lt. placed_by (same _ c.name) (place_of (names_of columns) _)
    (columns_placed columns k d lt))

pub columns_known : (p : Program) → IsProgram p → All (IsKnownColumn (names_of p.columns)) p.columns
columns_known p h k d lt =
    let place = columns_placed p.columns k d lt in
    let column = h.columns k d lt in
    record {
      place = place.0;
      known = place.1;
      name = column.name;
      low = column.low;
      high =
          column.high;
    }
