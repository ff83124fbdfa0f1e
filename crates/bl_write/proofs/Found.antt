-- The numbers that were written, found by the names of their rows.
use Rattle.std.proofs.Common.{◌≡◌, ◌≢◌, ◌-◌, ◌^◌, ◌∙◌, ◌&&◌, ◌==◌, ℕ, ℤ, pos, ◌*ℤ◌, Bool, true}
use Rattle.std.proofs.Common.{false, cond, List, [], ◌∷◌, map, ap, sym, refl, arith, Option, Some}
use Rattle.std.proofs.Common.{None, All, not, nat_abs}
use Rattle.std.specs.Prelude.{AllPairs, filter}
use Rattle.std.specs.Ordering.{int_eq}
use Rattle.std.proofs.lemmas.Bool.{eqb-true}
use Rattle.std.proofs.lemmas.Bool.Decides.{Decides-int_eq}
use Rattle.std.proofs.lemmas.Int.{ints}
use Rattle.std.proofs.lemmas.List.Elements.{All-cons, All-head, All-nil, All-tail}
use Rattle.bl_num.specs.declared.Decimal.{Decimal}
use Rattle.bl_cards.specs.Said.{Cell, RowLine, same}
use Rattle.bl_cards.specs.Lines.{given_for}
use Rattle.bl_cards.proofs.Differing.{same_self}
use Rattle.bl_mps.specs.Meaning.{is_zero}
use Rattle.bl_mps.proofs.Units.{units_nonzero}
use Rattle.bl_write.specs.Layout.{Text}
use Rattle.bl_write.specs.Written.{Amount, nonzero}
use Rattle.bl_write.proofs.Names.{Apart, IsKnown, other_name, pairs_head, pairs_tail, turned}
use Rattle.bl_write.proofs.Numbers.{ReadsAs, decimal_in, number_reads}
use Rattle.bl_write.proofs.States.{cell_said, given_said}

-- ---- zeros

abbrev pub has_value : Amount → Bool
has_value a = not (int_eq a.value (pos 0))

zero_mantissa : (m : ℤ) (k : ℕ) → nat_abs m ≡ 0 → m *ℤ pos k ≡ pos 0
zero_mantissa m k e = let z : m ≡ pos 0 = omega (arith, ints, e) in rw z (ap pos (omega arith))

-- what is read is zero exactly where what was written is
pub zero_is : (z : ℤ) (places : ℕ) → ReadsAs z places → is_zero (decimal_in z places)
    ≡ int_eq z (pos 0)
zero_is z places r = by (nat_abs (decimal_in z places).mantissa == 0) refl (int_eq z (pos 0)) refl
  where
    by : (t : Bool) → (nat_abs (decimal_in z places).mantissa == 0) ≡ t → (u : Bool)
        → int_eq z (pos 0) ≡ u → t ≡ u
    by true e true f = refl
    by false e false f = refl
    by true e false f =
        let none : nat_abs (decimal_in z places).mantissa ≡ 0 =
        eqb-true (nat_abs (decimal_in z places).mantissa) 0 e in
        let is : z ≡ pos 0 = sym r.units ∙ zero_mantissa (decimal_in z places).mantissa
        (10 ^ (places - (decimal_in z places).places)) none in
        absurd (let g : int_eq z (pos 0) ≡ true = (Decides-int_eq z (pos 0)).1 is in cc)
    by false e true f =
        let is : z ≡ pos 0 = (Decides-int_eq z (pos 0)).0 f in
        let some : nat_abs (decimal_in z places).mantissa ≢ 0 =
        λ n. (let g : (nat_abs (decimal_in z places).mantissa == 0) ≡ true =
        rw n refl in absurd cc) in
        absurd (units_nonzero (decimal_in z places) places some (r.units ∙ is))

abbrev pub TellsZero : Amount → Type 0
TellsZero a = is_zero (decimal_in a.value a.places) ≡ int_eq a.value (pos 0)

pub known_zero : (rows : List RowLine) (a : Amount) → IsKnown rows a → TellsZero a
known_zero rows a k = zero_is a.value a.places (number_reads a.value a.places k.small k.few)

-- ---- given numbers

abbrev pub given_or_none : Amount → Option Decimal
given_or_none a = cond (has_value a) (Some (decimal_in a.value a.places)) None

given_step : (t : Bool) (a : Amount) (rest : List Amount) (name : Text) → same name a.name ≡ false
    → given_for (map given_said (cond t (a ∷ rest) rest)) name
    ≡ given_for (map given_said rest) name
given_step true a rest name e = rw e refl
given_step false a rest name e = refl

no_given : (amounts : List Amount) (name : Text) → All (λ a. a.name ≢ name) amounts
    → given_for (map given_said (nonzero amounts)) name ≡ None
no_given [] name others = refl
no_given (a ∷ amounts) name others =
    given_step (has_value a) a (nonzero amounts) name
    (other_name name a.name (turned a.name name
    (All-head (λ b. b.name ≢ name) a amounts others)))
    ∙ no_given amounts name (All-tail (λ b. b.name ≢ name) a amounts others)

given_here : (t : Bool) (a : Amount) (rest : List Amount) → given_for (map given_said rest) a.name
    ≡ None → given_for (map given_said (cond t (a ∷ rest) rest)) a.name
    ≡ cond t (Some (decimal_in a.value a.places)) None
given_here true a rest none = rw (same_self a.name) refl
given_here false a rest none = none

pub given_found : (amounts : List Amount) → AllPairs Apart amounts
    → All (λ a. given_for (map given_said (nonzero amounts)) a.name ≡ given_or_none a) amounts
given_found [] pairs = All-nil (λ a. given_for [] a.name ≡ given_or_none a)
given_found (a ∷ amounts) pairs =
    let apart = pairs_head Apart a amounts pairs in
    All-cons (λ b. given_for (map given_said (nonzero (a ∷ amounts))) b.name ≡ given_or_none b) a
    amounts
    (given_here (has_value a) a (nonzero amounts)
    (no_given amounts a.name (λ k d lt. turned a.name _ (apart k d lt))))
    (λ k d lt. given_step (has_value a) a (nonzero amounts) _
    (other_name _ a.name (turned a.name _ (apart k d lt)))
    ∙ given_found amounts (pairs_tail Apart a amounts pairs) k d lt)

-- ---- cells

abbrev pub counts : Text → Cell → Bool
counts name c = same name c.row && not (is_zero c.number)

abbrev pub cell_or_none : ℕ → Amount → List Cell
cell_or_none j a = cond (has_value a) (cell_said j a ∷ []) []

cell_step : (t : Bool) (j : ℕ) (a : Amount) (rest : List Amount) (name : Text) → same name a.name
    ≡ false → filter (counts name) (map (cell_said j) (cond t (a ∷ rest) rest))
    ≡ filter (counts name) (map (cell_said j) rest)
cell_step true j a rest name e = rw e refl
cell_step false j a rest name e = refl

pub no_cells : (j : ℕ) (amounts : List Amount) (name : Text) → All (λ a. a.name ≢ name) amounts
    → filter (counts name) (map (cell_said j) (nonzero amounts)) ≡ []
no_cells j [] name others = refl
no_cells j (a ∷ amounts) name others =
    cell_step (has_value a) j a (nonzero amounts) name
    (other_name name a.name (turned a.name name
    (All-head (λ b. b.name ≢ name) a amounts others)))
    ∙ no_cells j amounts name (All-tail (λ b. b.name ≢ name) a amounts others)

-- a number that is not zero counts
pub cell_counts : (j : ℕ) (a : Amount) → TellsZero a → counts a.name (cell_said j a) ≡ has_value a
cell_counts j a z = rw (same_self a.name) (ap not z)

cell_here : (t : Bool) (j : ℕ) (a : Amount) (rest : List Amount) → counts a.name (cell_said j a)
    ≡ t → filter (counts a.name) (map (cell_said j) rest) ≡ []
    → filter (counts a.name) (map (cell_said j) (cond t (a ∷ rest) rest))
    ≡ cond t (cell_said j a ∷ []) []
cell_here true j a rest c none = rw (c, none) refl
cell_here false j a rest c none = none

pub cells_found : (j : ℕ) (amounts : List Amount) → AllPairs Apart amounts → All TellsZero amounts
    → All (λ a. filter (counts a.name) (map (cell_said j) (nonzero amounts)) ≡ cell_or_none j a)
    amounts
cells_found j [] pairs zeros = All-nil (λ a. filter (counts a.name) [] ≡ cell_or_none j a)
cells_found j (a ∷ amounts) pairs zeros =
    let apart = pairs_head Apart a amounts pairs in
    All-cons (λ b. filter (counts b.name) (map (cell_said j) (nonzero (a ∷ amounts)))
    ≡ cell_or_none j b) a amounts
    (cell_here (has_value a) j a (nonzero amounts)
    (cell_counts j a (All-head TellsZero a amounts zeros))
    (no_cells j amounts a.name (λ k d lt. turned a.name _ (apart k d lt))))
    (λ k d lt. cell_step (has_value a) j a (nonzero amounts) _
    (other_name _ a.name (turned a.name _ (apart k d lt)))
    ∙ cells_found j amounts (pairs_tail Apart a amounts pairs)
    (All-tail TellsZero a amounts zeros) k d lt)
