-- The first candidate that is broken, found term by term and row by row.
use Rattle.std.proofs.Common.{◌≡◌, ℕ, zero, suc, ◌+◌, ◌<◌, ◌≤◌, ◌^◌, ℤ, pos, negsuc, ◌+ℤ◌, ◌-ℤ◌}
use Rattle.std.proofs.Common.{◌*ℤ◌, ◌≤ℤ◌, ◌<ℤ◌, arith, List, [], ◌∷◌, length, get_or, Option}
use Rattle.std.proofs.Common.{Some, None, Bool, true, false, cond, refl, sym, ◌∙◌, ap, ⊎_elim}
use Rattle.std.specs.Prelude.{int_lt, unsigned_abs, ◌&&◌, Ok, Err, IfOk}
use Rattle.std.specs.declared.result.Result.{Result}
use Rattle.std.proofs.lemmas.Int.{ints, by_lt_z}
use Rattle.std.proofs.lemmas.Bool.{cases_lt}
use Rattle.std.proofs.lemmas.Bool.Decides.{nat_tests}
use Rattle.std.proofs.lemmas.List.{drop_more}
use Rattle.bl_num.specs.Exact.{at, ceil_of}
use Rattle.bl_num.proofs.Quotients.{le-ceil_times, ceil_le}
use Rattle.bl_num.proofs.Ring.{*ℤ-+ℤ, *ℤ_assoc}
use Rattle.bl_fixed.specs.Fixed.{one}
use Rattle.bl_problem.specs.Sums.{IsWithin}
use Rattle.bl_problem.specs.Rows.{AreEnds}
use Rattle.bl_problem.specs.Program.{Program, IsProgram}
use Rattle.bl_problem.specs.Points.{own_lows}
use Rattle.bl_problem.specs.declared.cut.Cut.{Cut}
use Rattle.bl_problem.specs.declared.problem.Row.{Row}
use Rattle.bl_problem.specs.declared.problem.Term.{Term}
use Rattle.bl_bound.proofs.Terms.{total-cons}
use Rattle.bl_cuts.specs.OneRow.{quotient_of, quotients_sum, over_lows, row_right, row_breaks}
use Rattle.bl_cuts.specs.OneRow.{first_by_over, IsSplit}
use Rattle.bl_cuts.specs.Separations.{candidate, or_else, first_size, first_at_end, first_in_row}
use Rattle.bl_cuts.specs.Separations.{first_in_rows, is_broken, row_at}
use Rattle.bl_cuts.specs.declared.one_row.Split.{Split}
use Rattle.bl_cuts.specs.declared.separation.Candidate.{Candidate}
use Rattle.bl_cuts.proofs.OneRow.{row-breaks}

-- ---- two words
-- the sum over the entries is that over the whole numbers of units, and that over the parts
pub quotients_sum-split : (s : Split) (x : List ℤ) (v q : ℤ) (ts : List Term) → IsSplit s x
    → quotients_sum v q ts x ≡ quotients_sum v q ts s.wholes *ℤ one +ℤ quotients_sum v q ts s.parts
quotients_sum-split s x v q [] h = refl
quotients_sum-split s x v q (t ∷ ts) h =
    let f = quotient_of v q t in
    let a = total-cons (λ (t : Term). quotient_of v q t *ℤ at x t.column) t ts in
    let b = total-cons (λ (t : Term). quotient_of v q t *ℤ at s.wholes t.column) t ts in
    let c = total-cons (λ (t : Term). quotient_of v q t *ℤ at s.parts t.column) t ts in
    let i = quotients_sum-split s x v q ts h in
    let e = ap (λ (z : ℤ). f *ℤ z) (h.exact t.column)
    ∙ *ℤ-+ℤ f (at s.wholes t.column *ℤ one) (at s.parts t.column) in
    let m = *ℤ_assoc f (at s.wholes t.column) one in
    omega (arith, ints, a, b, c, i, e, m)

-- the test in two words
test-true : (a b : ℤ) → a <ℤ b → int_lt a b ≡ true
test-true a b l = grind (arith, ints, nat_tests, l)

test-false : (a b : ℤ) → b ≤ℤ a → int_lt a b ≡ false
test-false a b l = grind (arith, ints, nat_tests, l)

pub above_ceil : (r h l : ℤ) → int_lt r (h +ℤ ceil_of l one) ≡ int_lt (r *ℤ one) (h *ℤ one +ℤ l)
above_ceil r h l =
    let c = ceil_of l one in
    let up = le-ceil_times l one (omega (arith, ints)) in
    by_lt_z r (h +ℤ c)
    (λ m.
    let n : (r *ℤ one) <ℤ (h *ℤ one +ℤ l) = by_lt_z (r *ℤ one) (h *ℤ one +ℤ l) (λ k. k)
    (λ k. let w = ceil_le (r -ℤ h) l one (omega (arith, ints)) (omega (arith, ints, k)) in absurd
    (omega (arith, ints, w, m))) in
    test-true r (h +ℤ c) m ∙ sym (test-true (r *ℤ one) (h *ℤ one +ℤ l) n))
    (λ m. test-false r (h +ℤ c) m
    ∙ sym (test-false (r *ℤ one) (h *ℤ one +ℤ l) (omega (arith, ints, m, up))))

pub row_breaks-split : (s : Split) (x : List ℤ) (ts : List Term) (v over q r w p : ℤ)
    → IsSplit s x → r ≡ row_right s.lows ts v over q → w ≡ quotients_sum v q ts s.wholes → p
    ≡ quotients_sum v q ts s.parts
    → int_lt r (w +ℤ ceil_of p one) ≡ row_breaks s.lows x ts v over q
row_breaks-split s x ts v over q r w p h a b c =
    above_ceil r w p ∙ ap (λ (z : ℤ). int_lt (r *ℤ one) z)
    (ap (λ (z : ℤ). z *ℤ one +ℤ p) b ∙ ap
    (λ (z : ℤ). quotients_sum v q ts s.wholes *ℤ one +ℤ z) c
    ∙ sym (quotients_sum-split s x v q ts h))
    ∙ ap (λ (z : ℤ). int_lt (z *ℤ one) (quotients_sum v q ts x)) a

-- ---- term by term
pub size-found : (broken : Candidate → Bool) (i : ℕ) (v : ℤ) (t : Term) (ts : List Term)
    → (int_lt (pos 1) (pos (unsigned_abs t.coefficient))
    && broken (candidate i v (pos (unsigned_abs t.coefficient)))) ≡ true
    → first_size broken i v (t ∷ ts) ≡ Some (candidate i v (pos (unsigned_abs t.coefficient)))
size-found broken i v t ts e =
    ap (λ (b : Bool). cond b (Some (candidate i v (pos (unsigned_abs t.coefficient))))
    (first_size broken i v ts)) e

pub size-passed : (broken : Candidate → Bool) (i : ℕ) (v : ℤ) (t : Term) (ts : List Term)
    → (int_lt (pos 1) (pos (unsigned_abs t.coefficient))
    && broken (candidate i v (pos (unsigned_abs t.coefficient)))) ≡ false
    → first_size broken i v (t ∷ ts) ≡ first_size broken i v ts
size-passed broken i v t ts e =
    ap (λ (b : Bool). cond b (Some (candidate i v (pos (unsigned_abs t.coefficient))))
    (first_size broken i v ts)) e

size-same : (f g : Candidate → Bool) (i : ℕ) (v : ℤ) (ts : List Term)
    → ((q : ℤ) → pos 1 ≤ℤ q → f (candidate i v q) ≡ g (candidate i v q)) → first_size f i v ts
    ≡ first_size g i v ts
size-same f g i v [] h = refl
size-same f g i v (t ∷ ts) h =
    ap (λ (b : Bool). cond b (Some (candidate i v (pos (unsigned_abs t.coefficient))))
    (first_size f i v ts)) (test (unsigned_abs t.coefficient)
    (λ n l. h (pos n) (omega (arith, ints, l))))
    ∙ ap (λ (o : Option Candidate). cond (int_lt (pos 1) (pos (unsigned_abs t.coefficient))
    && g (candidate i v (pos (unsigned_abs t.coefficient))))
    (Some (candidate i v (pos (unsigned_abs t.coefficient)))) o) (size-same f g i v ts h)
  where
    test : (n : ℕ) → ((n : ℕ) → 1 ≤ n → f (candidate i v (pos n)) ≡ g (candidate i v (pos n)))
        → (int_lt (pos 1) (pos n) && f (candidate i v (pos n)))
        ≡ (int_lt (pos 1) (pos n) && g (candidate i v (pos n)))
    test zero k = refl
    test (suc n) k = ap (λ (b : Bool). int_lt (pos 1) (pos (suc n)) && b) (k (suc n) (omega arith))

-- ---- the ends of a row
end-near : (low high : Option ℤ) (e : ℤ) → AreEnds low high → (high ≡ Some e) → IsWithin (10 ^ 24) e
end-near None None u h e = absurd h
end-near (Some l) None u h e = absurd cc
end-near None (Some v) u h e = let z : v ≡ u = cc in rw z at h
end-near (Some l) (Some v) u h e = let z : v ≡ u = cc in rw z at h.1

low-near : (low high : Option ℤ) (e : ℤ) → AreEnds low high → (low ≡ Some e) → IsWithin (10 ^ 24) e
low-near None None u h e = absurd h
low-near None (Some l) u h e = absurd cc
low-near (Some v) None u h e = let z : v ≡ u = cc in rw z at h
low-near (Some v) (Some l) u h e = let z : v ≡ u = cc in rw z at h.0

pub high_first : (p : Program) (cuts : List Cut) (x : List ℤ) (i : ℕ) → IsProgram p → i
    < length p.rows
    → first_by_over (own_lows p) x i (pos 1) (row_at p.rows i).high (row_at p.rows i).terms
    ≡ first_at_end (is_broken p cuts x) i (pos 1) (row_at p.rows i).high (row_at p.rows i).terms
high_first p cuts x i h l = by (row_at p.rows i).high refl
  where
    by : (o : Option ℤ) → (row_at p.rows i).high ≡ o → first_by_over (own_lows p) x i (pos 1) o
        (row_at p.rows i).terms ≡ first_at_end (is_broken p cuts x) i (pos 1) o
        (row_at p.rows i).terms
    by None e = refl
    by (Some u) e =
        let r = h.rows i (record { name = []; terms = []; low = None; high = None }) l in
        size-same (λ (c : Candidate). row_breaks (own_lows p) x (row_at p.rows i).terms (pos 1)
        (over_lows (own_lows p) (row_at p.rows i).terms (pos 1) u) c.q) (is_broken p cuts x) i
        (pos 1) (row_at p.rows i).terms
        (λ q k. row-breaks p cuts x i (pos 1) u q h l (omega arith) e
        (end-near (row_at p.rows i).low (row_at p.rows i).high u r.ends e) k)

pub low_first : (p : Program) (cuts : List Cut) (x : List ℤ) (i : ℕ) → IsProgram p → i
    < length p.rows
    → first_by_over (own_lows p) x i (negsuc 0) (row_at p.rows i).low (row_at p.rows i).terms
    ≡ first_at_end (is_broken p cuts x) i (negsuc 0) (row_at p.rows i).low
    (row_at p.rows i).terms
low_first p cuts x i h l = by (row_at p.rows i).low refl
  where
    by : (o : Option ℤ) → (row_at p.rows i).low ≡ o → first_by_over (own_lows p) x i (negsuc 0) o
        (row_at p.rows i).terms ≡ first_at_end (is_broken p cuts x) i (negsuc 0) o
        (row_at p.rows i).terms
    by None e = refl
    by (Some u) e =
        let r = h.rows i (record { name = []; terms = []; low = None; high = None }) l in
        size-same (λ (c : Candidate). row_breaks (own_lows p) x (row_at p.rows i).terms (negsuc 0)
        (over_lows (own_lows p) (row_at p.rows i).terms (negsuc 0) u) c.q)
        (is_broken p cuts x) i (negsuc 0) (row_at p.rows i).terms
        (λ q k. row-breaks p cuts x i (negsuc 0) u q h l (omega arith) e
        (low-near (row_at p.rows i).low (row_at p.rows i).high u r.ends e) k)

-- ---- row by row
rows-next : (broken : Candidate → Bool) (rows : List Row) (n : ℕ) (o : Option Candidate)
    → first_in_rows broken rows n ≡ None → first_in_row broken n (row_at rows n) ≡ o
    → first_in_rows broken rows (suc n) ≡ o
rows-next broken rows n o e f =
    ap (λ (k : Option Candidate). or_else k (first_in_row broken n (row_at rows n))) e ∙ f

pub rows-found : (broken : Candidate → Bool) (rows : List Row) (k n : ℕ) (c : Candidate)
    → first_in_rows broken rows k ≡ None → first_in_row broken k (row_at rows k) ≡ Some c → k < n
    → first_in_rows broken rows n ≡ Some c
rows-found broken rows k zero c e f l = absurd (omega (arith, l))
rows-found broken rows k (suc n) c e f l = ⊎_elim
    (λ m. ap (λ (o : Option Candidate). or_else o (first_in_row broken n (row_at rows n)))
    (rows-found broken rows k n c e f m))
    (λ m. let z : k ≡ n = omega (arith, l, m) in rw (← z) (rows-next broken rows k (Some c) e f))
    (cases_lt k n)

pub row_is : (rows : List Row) (i : ℕ) (r : Row) → r ≡ get_or rows i r → i < length rows → r
    ≡ row_at rows i
row_is rows i r e l = e ∙ Rattle.std.proofs.lemmas.List.get_or_default rows i r
    (record { name = []; terms = []; low = None; high = None }) l

-- what follows of an answer
pub if_ok : {T E : Type 0} (P Q : T → Type 0) (r : Result T E) → ((x : T) → P x → Q x) → IfOk r P
    → IfOk r Q
if_ok P Q (Ok x) f h = f x h
if_ok P Q (Err e) f h = tt
