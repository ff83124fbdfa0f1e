-- What the gap leaves of the columns.
use Rattle.std.proofs.Common.{◌≡◌, ℕ, zero, suc, ◌<◌, ◌≤◌, ◌^◌, ℤ, pos, negsuc, ◌+ℤ◌, ◌-ℤ◌, ◌≤ℤ◌}
use Rattle.std.proofs.Common.{◌<ℤ◌, arith, List, [], ◌∷◌, ◌++◌, length, All, Option, Some, None}
use Rattle.std.proofs.Common.{IfSome, Bool, true, false, cond, refl, sym, ◌∙◌, ap, int_lt, nat_le}
use Rattle.std.proofs.Common.{unsigned_abs, slice_get}
use Rattle.std.proofs.lemmas.Int.{ints}
use Rattle.std.proofs.lemmas.Bool.Decides.{nat_tests}
use Rattle.std.proofs.lemmas.List.{length-append}
use Rattle.std.proofs.lemmas.List.Elements.{All-push}
use Rattle.bl_num.specs.Exact.{at, floor_of}
use Rattle.bl_num.proofs.Quotients.{floor_range}
use Rattle.bl_problem.specs.Sums.{IsWithin}
use Rattle.bl_problem.specs.Decisions.{MeetsSide, Meets, MeetsAll}
use Rattle.bl_problem.specs.declared.decision.Decision.{Decision}
use Rattle.bl_problem.specs.declared.decision.Side.{Side}
use Rattle.bl_problem.specs.declared.decision.Side.TheVariants.{AtLeast, AtMost}
use Rattle.bl_problem.proofs.Narrowed.{MeetsAll-append}
use Rattle.bl_prop.specs.Limits.{IsDecision, AreDecisions}
use Rattle.bl_fix.specs.Gaps.{decision_of, with_decision, decisions_below}
use Rattle.bl_fix.proofs.Law.{FixedBy}

-- ---- of one column
-- q is the gap over the size of the reduced cost, rounded down
pub at_most : (gap low high : ℤ) (j : ℕ) (cost q : ℤ) → pos 0 <ℤ cost → q
    ≡ floor_of gap (pos (unsigned_abs cost)) → (low +ℤ q) <ℤ high →
    decision_of gap j (Some cost) low high
    ≡ Some (record { column = j; side = AtMost; value = low +ℤ q })
at_most gap low high j (pos zero) q p e l = absurd (omega (arith, ints, p))
at_most gap low high j (negsuc r) q p e l = absurd (omega (arith, ints, p))
at_most gap low high j (pos (suc r)) q p e l =
    by (int_lt (low +ℤ floor_of gap (pos (suc r))) high) refl
  where
    by : (t : Bool) → int_lt (low +ℤ floor_of gap (pos (suc r))) high ≡ t →
        cond {A = Option Decision} t
        (Some (record {
          column = j;
          side = AtMost;
          value =
              low +ℤ floor_of gap (pos (suc r));
        })) None
        ≡ Some (record { column = j; side = AtMost; value = low +ℤ q })
    by true f = rw (sym e) refl
    by false f = absurd (omega (arith, ints, e, l, f))

pub at_least : (gap low high : ℤ) (j : ℕ) (cost q : ℤ) → cost <ℤ pos 0 → q
    ≡ floor_of gap (pos (unsigned_abs cost)) → low <ℤ (high -ℤ q) →
    decision_of gap j (Some cost) low high
    ≡ Some (record { column = j; side = AtLeast; value = high -ℤ q })
at_least gap low high j (pos r) q p e l = absurd (omega (arith, ints, p))
at_least gap low high j (negsuc r) q p e l =
    by (int_lt low (high -ℤ floor_of gap (pos (suc r)))) refl
  where
    by : (t : Bool) → int_lt low (high -ℤ floor_of gap (pos (suc r))) ≡ t →
        cond {A = Option Decision} t
        (Some (record {
          column = j;
          side = AtLeast;
          value =
              high -ℤ floor_of gap (pos (suc r));
        })) None
        ≡ Some (record { column = j; side = AtLeast; value = high -ℤ q })
    by true f = rw (sym e) refl
    by false f = absurd (omega (arith, ints, e, l, f))

-- ---- of all columns
-- the same reduced costs below n give the same decisions
pub decisions-same : (n : ℕ) (gap : ℤ) (f g : ℕ → Option ℤ) (lows highs : List ℤ)
    → ((j : ℕ) → j < n → f j ≡ g j) → decisions_below n gap f lows highs
    ≡ decisions_below n gap g lows highs
decisions-same zero gap f g lows highs h = refl
decisions-same (suc n) gap f g lows highs h =
    let i = decisions-same n gap f g lows highs (λ j l. h j (omega (arith, l))) in
    ap (λ ds. with_decision ds (decision_of gap n (f n) (at lows n) (at highs n))) i
    ∙ ap (λ (r : Option ℤ). with_decision (decisions_below n gap g lows highs)
    (decision_of gap n r (at lows n) (at highs n))) (h n (omega arith))

-- a decision within limits, where there is one
abbrev IsFit : ℕ → Option Decision → Type 0
IsFit m o = IfSome o (IsDecision m)

decision-fit : (gap : ℤ) (j : ℕ) (r : Option ℤ) (low high : ℤ) (m : ℕ) → pos 0 ≤ℤ gap → j < m
    → IsWithin (10 ^ 9) low → IsWithin (10 ^ 9) high → IsFit m (decision_of gap j r low high)
decision-fit gap j None low high m g l a b = tt
decision-fit gap j (Some (pos zero)) low high m g l a b = tt
decision-fit gap j (Some (pos (suc r))) low high m g l a b =
    by (int_lt (low +ℤ floor_of gap (pos (suc r))) high) refl
  where
    by : (t : Bool) → int_lt (low +ℤ floor_of gap (pos (suc r))) high ≡ t
        → IsFit m (cond {A = Option Decision} t
        (Some (record { column = j; side = AtMost; value = low +ℤ floor_of gap (pos (suc r)) }))
        None)
    by true f = let q = floor_range gap (pos (suc r)) (omega (arith, ints)) g in record {
      column =
          l;
      value = omega (arith, ints, q.0, a, b, f);
    }
    by false f = tt
decision-fit gap j (Some (negsuc r)) low high m g l a b =
    by (int_lt low (high -ℤ floor_of gap (pos (suc r)))) refl
  where
    by : (t : Bool) → int_lt low (high -ℤ floor_of gap (pos (suc r))) ≡ t
        → IsFit m (cond {A = Option Decision} t
        (Some (record { column = j; side = AtLeast; value = high -ℤ floor_of gap (pos (suc r)) }))
        None)
    by true f = let q = floor_range gap (pos (suc r)) (omega (arith, ints)) g in record {
      column =
          l;
      value = omega (arith, ints, q.0, a, b, f);
    }
    by false f = tt

with-within : (m : ℕ) (ds : List Decision) (o : Option Decision) → AreDecisions m ds → IsFit m o
    → AreDecisions m (with_decision ds o)
with-within m ds None h k = h
with-within m ds (Some d) h k = by (nat_le 256 (length ds)) refl
  where
    by : (t : Bool) → nat_le 256 (length ds) ≡ t → AreDecisions m (cond t ds (ds ++ d ∷ []))
    by true e = h
    by false e = record {
      few = let n = length-append ds (d ∷ []) in grind (arith, nat_tests);
      each = All-push (IsDecision m) ds d h.each k;
    }

pub decisions-within : (n m : ℕ) (gap : ℤ) (f : ℕ → Option ℤ) (lows highs : List ℤ) → pos 0 ≤ℤ gap
    → n ≤ m → m ≤ length lows → m ≤ length highs →
    All (IsWithin (10 ^ 9)) lows → All (IsWithin (10 ^ 9)) highs
    → AreDecisions m (decisions_below n gap f lows highs)
decisions-within zero m gap f lows highs g l a b near_lows near_highs =
    record { few = omega arith; each = λ k d q. absurd (omega (arith, q)) }
decisions-within (suc n) m gap f lows highs g l a b near_lows near_highs =
    let i = decisions-within n m gap f lows highs g (omega (arith, l)) a b near_lows near_highs in
    with-within m (decisions_below n gap f lows highs)
    (decision_of gap n (f n) (at lows n) (at highs n)) i
    (decision-fit gap n (f n) (at lows n) (at highs n) m g (omega (arith, l))
    (near_lows n (pos 0) (omega (arith, l, a))) (near_highs n (pos 0) (omega (arith, l, b))))

-- ---- what a point meets
meets-at : (s : Side) (x : List ℤ) (j : ℕ) (v : ℤ) → MeetsSide s v (at x j)
    → IfSome (slice_get x j) (MeetsSide s v)
meets-at s [] j v m = tt
meets-at s (e ∷ x) zero v m = m
meets-at s (e ∷ x) (suc j) v m = meets-at s x j v m

decision-met : (gap : ℤ) (j : ℕ) (r : Option ℤ) (low high : ℤ) (x : List ℤ)
    → FixedBy r low high gap (at x j) → IfSome (decision_of gap j r low high) (Meets x)
decision-met gap j None low high x h = tt
decision-met gap j (Some (pos zero)) low high x h = tt
decision-met gap j (Some (pos (suc r))) low high x h =
    by (int_lt (low +ℤ floor_of gap (pos (suc r))) high)
  where
    by : (t : Bool)
        → IfSome (cond {A = Option Decision} t
        (Some (record { column = j; side = AtMost; value = low +ℤ floor_of gap (pos (suc r)) }))
        None) (Meets x)
    by true = meets-at AtMost x j (low +ℤ floor_of gap (pos (suc r))) (h.above r refl)
    by false = tt
decision-met gap j (Some (negsuc r)) low high x h =
    by (int_lt low (high -ℤ floor_of gap (pos (suc r))))
  where
    by : (t : Bool)
        → IfSome (cond {A = Option Decision} t
        (Some (record { column = j; side = AtLeast; value = high -ℤ floor_of gap (pos (suc r)) }))
        None) (Meets x)
    by true = meets-at AtLeast x j (high -ℤ floor_of gap (pos (suc r))) (h.below r refl)
    by false = tt

with-met : (x : List ℤ) (ds : List Decision) (o : Option Decision) → MeetsAll x ds
    → IfSome o (Meets x) → MeetsAll x (with_decision ds o)
with-met x ds None h k = h
with-met x ds (Some d) h k = by (nat_le 256 (length ds))
  where
    by : (t : Bool) → MeetsAll x (cond t ds (ds ++ d ∷ []))
    by true = h
    by false = MeetsAll-append x ds (d ∷ []) h (k, tt)

pub decisions-met : (n : ℕ) (gap : ℤ) (f : ℕ → Option ℤ) (lows highs x : List ℤ)
    → ((j : ℕ) → j < n → FixedBy (f j) (at lows j) (at highs j) gap (at x j))
    → MeetsAll x (decisions_below n gap f lows highs)
decisions-met zero gap f lows highs x h = tt
decisions-met (suc n) gap f lows highs x h =
    let i = decisions-met n gap f lows highs x (λ j l. h j (omega (arith, l))) in
    with-met x (decisions_below n gap f lows highs)
    (decision_of gap n (f n) (at lows n) (at highs n)) i
    (decision-met gap n (f n) (at lows n) (at highs n) x (h n (omega arith)))
