-- No point of the box that meets the lines breaks a decision of the pass.
use Rattle.std.proofs.Common.{◌≡◌, ℕ, zero, suc, ◌<◌, ◌≤◌, ℤ, pos, negsuc, ◌+ℤ◌, ◌-ℤ◌, ◌*ℤ◌}
use Rattle.std.proofs.Common.{neg_ℤ, ◌≤ℤ◌, arith, List, [], ◌∷◌, ◌++◌, length, All, Option, Some}
use Rattle.std.proofs.Common.{None, Bool, true, false, cond, refl, ◌∙◌, ap, slice_set}
use Rattle.std.proofs.Common.{slice_index_or, slice_get, IfSome, int_lt}
use Rattle.std.specs.Int.{int_min}
use Rattle.std.proofs.lemmas.Int.{ints, clamps}
use Rattle.std.proofs.lemmas.List.{length-set}
use Rattle.std.proofs.Math.IntN.{*ℤ_comm}
use Rattle.bl_num.specs.Exact.{at, floor_of}
use Rattle.bl_num.proofs.Ring.{*ℤ-le, *ℤ-+ℤ, neg-*ℤ}
use Rattle.bl_num.proofs.Quotients.{le_floor}
use Rattle.bl_problem.specs.Sums.{total, sum_of_terms}
use Rattle.bl_problem.specs.Points.{InBox}
use Rattle.bl_problem.specs.Rows.{MeetsLow, MeetsHigh}
use Rattle.bl_problem.specs.Decisions.{MeetsSide, MeetsAll}
use Rattle.bl_problem.specs.declared.problem.Term.{Term}
use Rattle.bl_problem.specs.declared.decision.Side.{Side}
use Rattle.bl_problem.specs.declared.decision.Side.TheVariants.{AtLeast, AtMost}
use Rattle.bl_problem.proofs.Boxes.{box-width, box-entry, box-from}
use Rattle.bl_problem.proofs.Narrowed.{MeetsAll-append}
use Rattle.bl_problem.proofs.Trivial.{min_product}
use Rattle.bl_bound.specs.Lines.{Line, line_at, MeetsLine}
use Rattle.bl_bound.proofs.Terms.{total-cons}
use Rattle.bl_prop.specs.declared.pass.Pass.{Pass}
use Rattle.bl_prop.specs.Passes.{turned, least_part, least_of, lowered_high, raised_low, cut_by}
use Rattle.bl_prop.specs.Passes.{is_full, cut_term, cut_terms, is_over, end_step, line_step}
use Rattle.bl_prop.specs.Passes.{walked}
use lib.Signed.{≤ℤ_refl}

-- one term's part of a sum is at most the whole, where no part is negative
part-le : (f g : Term → ℤ) (ts : List Term) → All (λ t. g t ≤ℤ f t) ts
    → (total g ts ≤ℤ total f ts) × All (λ t. (f t +ℤ total g ts) ≤ℤ (g t +ℤ total f ts)) ts
part-le f g [] h = (omega (arith, ints), λ k d l. absurd (omega arith))
part-le f g (t ∷ ts) h =
    let here = h 0 t (omega arith) in
    let i = part-le f g ts (λ k d l. h (suc k) d (omega arith)) in
    let a = total-cons f t ts in
    let b = total-cons g t ts in
    (omega (arith, ints, here, i.0, a, b), at_each t ts here i.0 i.1 a b)
  where
    at_each : (t : Term) (ts : List Term) → g t ≤ℤ f t → total g ts ≤ℤ total f ts
        → All (λ s. (f s +ℤ total g ts) ≤ℤ (g s +ℤ total f ts)) ts → total f (t ∷ ts)
        ≡ f t +ℤ total f ts → total g (t ∷ ts) ≡ g t +ℤ total g ts
        → All (λ s. (f s +ℤ total g (t ∷ ts)) ≤ℤ (g s +ℤ total f (t ∷ ts))) (t ∷ ts)
    at_each t ts here whole rest a b zero d l = omega (arith, ints, here, whole, a, b)
    at_each t ts here whole rest a b (suc k) d l = let r =
        rest k d (omega arith) in omega (arith, ints, here, r, a, b)

-- what holds of each place and of the place that is written holds after the write
at-set : (P : ℕ → ℤ → Type 0) (xs : List ℤ) (j : ℕ) (v : ℤ) → ((k : ℕ) → P k (at xs k)) → P j v
    → (k : ℕ) → P k (at (slice_set xs j v) k)
at-set P [] j v h p k = h k
at-set P (x ∷ xs) zero v h p zero = p
at-set P (x ∷ xs) zero v h p (suc k) = h (suc k)
at-set P (x ∷ xs) (suc j) v h p zero = h zero
at-set P (x ∷ xs) (suc j) v h p (suc k) = at-set (λ m z. P (suc m) z) xs j v (λ m. h (suc m)) p k

-- a decision by the number at its place, 0 past the end
meets-at : (s : Side) (x : List ℤ) (j : ℕ) (v : ℤ) → MeetsSide s v (at x j)
    → IfSome (slice_get x j) (MeetsSide s v)
meets-at s [] j v m = tt
meets-at s (e ∷ x) zero v m = m
meets-at s (e ∷ x) (suc j) v m = meets-at s x j v m

-- the point is still inside, it meets what was decided, and the bounds only moved inward from b0
record Kept (x : List ℤ) (b0 b : Pass) : Type 0 where
  lows : length b.lows ≡ length x
  highs : length b.highs ≡ length x
  low : (k : ℕ) → k < length x → at b.lows k ≤ℤ at x k
  high : (k : ℕ) → k < length x → at x k ≤ℤ at b.highs k
  met : MeetsAll x b.decisions
  lows_in : (k : ℕ) → at b0.lows k ≤ℤ at b.lows k
  highs_in : (k : ℕ) → at b.highs k ≤ℤ at b0.highs k
  stuck : b.stuck ≡ b0.stuck

lowered_high-kept : (x : List ℤ) (b0 b : Pass) (j : ℕ) (v : ℤ) → Kept x b0 b → at x j ≤ℤ v
    → Kept x b0 (lowered_high j v b)
lowered_high-kept x b0 b j v h m = by (int_lt v (at b.highs j)) refl
  where
    by : (t : Bool) → int_lt v (at b.highs j) ≡ t →
        Kept x b0
        (cond t (record {
          lows = b.lows;
          highs = slice_set b.highs j v;
          decisions =
              b.decisions ++ record { column = j; side = AtMost; value = v } ∷ [];
          stuck =
              b.stuck;
        }) b)
    by true e = record {
      lows = h.lows;
      highs = length-set b.highs j v ∙ h.highs;
      low = h.low;
      high = at-set (λ k z. k < length x → at x k ≤ℤ z) b.highs j v h.high (λ l. m);
      met = MeetsAll-append x b.decisions (record { column = j; side = AtMost; value = v } ∷ [])
          h.met (meets-at AtMost x j v m, tt);
      lows_in = h.lows_in;
      highs_in = at-set (λ k z. z ≤ℤ at b0.highs k) b.highs j v h.highs_in
          (let i = h.highs_in j in omega (arith, ints, i, e));
      stuck = h.stuck;
    }
    by false e = h

raised_low-kept : (x : List ℤ) (b0 b : Pass) (j : ℕ) (v : ℤ) → Kept x b0 b → v ≤ℤ at x j
    → Kept x b0 (raised_low j v b)
raised_low-kept x b0 b j v h m = by (int_lt (at b.lows j) v) refl
  where
    by : (t : Bool) → int_lt (at b.lows j) v ≡ t →
        Kept x b0
        (cond t (record {
          lows = slice_set b.lows j v;
          highs = b.highs;
          decisions =
              b.decisions ++ record { column = j; side = AtLeast; value = v } ∷ [];
          stuck =
              b.stuck;
        }) b)
    by true e = record {
      lows = length-set b.lows j v ∙ h.lows;
      highs = h.highs;
      low = at-set (λ k z. k < length x → z ≤ℤ at x k) b.lows j v h.low (λ l. m);
      high = h.high;
      met = MeetsAll-append x b.decisions (record { column = j; side = AtLeast; value = v } ∷ [])
          h.met (meets-at AtLeast x j v m, tt);
      lows_in = at-set (λ k z. at b0.lows k ≤ℤ z) b.lows j v h.lows_in
          (let i = h.lows_in j in omega (arith, ints, i, e));
      highs_in = h.highs_in;
      stuck = h.stuck;
    }
    by false e = h

-- a positive coefficient bounds the entry from above, a negative one from below
above : (slack a low0 low x m : ℤ) → pos 1 ≤ℤ a → low0 ≤ℤ low → (a *ℤ x) ≤ℤ (slack +ℤ m)
    → m ≤ℤ (a *ℤ low0) → x ≤ℤ (low +ℤ floor_of slack a)
above slack a low0 low x m p i r q =
    let k = *ℤ-le a low0 low (omega (arith, ints)) i in
    let d = *ℤ-+ℤ a (x -ℤ low) low in
    let e = *ℤ_comm a (x -ℤ low) in
    let s : x -ℤ low +ℤ low ≡ x = omega (arith, ints) in
    let t = ap (λ (z : ℤ). a *ℤ z) s in
    let f = le_floor (x -ℤ low) slack a p (omega (arith, ints, k, d, e, t, r, q)) in
    omega (arith, ints, f)

below : (slack a high0 high x m : ℤ) → pos 1 ≤ℤ a → high ≤ℤ high0 → (neg_ℤ a *ℤ x) ≤ℤ (slack +ℤ m)
    → m ≤ℤ (neg_ℤ a *ℤ high0) → (high -ℤ floor_of slack a) ≤ℤ x
below slack a high0 high x m p i r q =
    let k = *ℤ-le a high high0 (omega (arith, ints)) i in
    let d = *ℤ-+ℤ a (high -ℤ x) x in
    let e = *ℤ_comm a (high -ℤ x) in
    let s : high -ℤ x +ℤ x ≡ high = omega (arith, ints) in
    let t = ap (λ (z : ℤ). a *ℤ z) s in
    let n = neg-*ℤ a x in
    let o = neg-*ℤ a high0 in
    let f = le_floor (high -ℤ x) slack a p (omega (arith, ints, k, d, e, t, n, o, r, q)) in
    omega (arith, ints, f)

cut_by-kept : (slack : ℤ) (x : List ℤ) (b0 b : Pass) (j : ℕ) (a : ℤ) → Kept x b0 b
    → (a *ℤ at x j) ≤ℤ (slack +ℤ int_min (a *ℤ at b0.lows j) (a *ℤ at b0.highs j))
    → Kept x b0 (cut_by slack j a b)
cut_by-kept slack x b0 b j (pos zero) h r = h
cut_by-kept slack x b0 b j (pos (suc a)) h r =
    lowered_high-kept x b0 b j (at b.lows j +ℤ floor_of slack (pos (suc a))) h
    (above slack (pos (suc a)) (at b0.lows j) (at b.lows j) (at x j)
    (int_min (pos (suc a) *ℤ at b0.lows j) (pos (suc a) *ℤ at b0.highs j))
    (omega (arith, ints)) (h.lows_in j) r (omega (arith, ints, clamps)))
cut_by-kept slack x b0 b j (negsuc a) h r =
    raised_low-kept x b0 b j (at b.highs j -ℤ floor_of slack (pos (suc a))) h
    (below slack (pos (suc a)) (at b0.highs j) (at b.highs j) (at x j)
    (int_min (negsuc a *ℤ at b0.lows j) (negsuc a *ℤ at b0.highs j)) (omega (arith, ints))
    (h.highs_in j) r (omega (arith, ints, clamps)))

-- what a term leaves: its product is at most the slack and its least product
part : Bool → List ℤ → Term → ℤ
part negate x t = turned negate t.coefficient *ℤ at x t.column

Room : Bool → ℤ → Pass → List ℤ → Term → Type 0
Room negate slack b x t = part negate x t ≤ℤ (slack +ℤ least_part negate b.lows b.highs t)

cut_term-kept : (negate : Bool) (slack : ℤ) (x : List ℤ) (b0 b : Pass) (t : Term) → Kept x b0 b
    → Room negate slack b0 x t → Kept x b0 (cut_term negate slack b t)
unfolding Room part
cut_term-kept negate slack x b0 b t h r = by (is_full b)
  where
    by : (c : Bool) → Kept x b0 (cond c b (cut_by slack t.column (turned negate t.coefficient) b))
    by true = h
    by false = cut_by-kept slack x b0 b t.column (turned negate t.coefficient) h r

cut_terms-kept : (negate : Bool) (slack : ℤ) (x : List ℤ) (b0 : Pass) (ts : List Term) (b : Pass)
    → Kept x b0 b → All (Room negate slack b0 x) ts → Kept x b0 (cut_terms negate slack ts b)
cut_terms-kept negate slack x b0 [] b h r = h
cut_terms-kept negate slack x b0 (t ∷ ts) b h r = cut_terms-kept negate slack x b0 ts
    (cut_term negate slack b t) (cut_term-kept negate slack x b0 b t h (r zero t (omega arith)))
    (λ k d l. r (suc k) d (omega arith))

-- the point lies inside the bounds at that place of the pass and meets each decision, and the
-- pass is not stuck
pub record Holds (x : List ℤ) (b : Pass) : Type 0 where
  pub box : InBox b.lows b.highs x
  pub met : MeetsAll x b.decisions
  pub free : b.stuck ≡ None

-- the end of a line, or of the negated line
EndHolds : Bool → List Term → List ℤ → Option ℤ → Type 0
EndHolds negate ts x None = Unit {0}
EndHolds negate ts x (Some end) = total (part negate x) ts ≤ℤ turned negate end

kept-start : (x : List ℤ) (b : Pass) → Holds x b → Kept x b b
kept-start x b h =
    let w = box-width b.lows b.highs x h.box in
    record {
      lows = w.lows;
      highs = w.highs;
      low = λ k l. (box-entry b.lows b.highs x k h.box l).0;
      high = λ k l. (box-entry b.lows b.highs x k h.box l).1;
      met = h.met;
      lows_in = λ k. ≤ℤ_refl (at b.lows k);
      highs_in = λ k. ≤ℤ_refl (at b.highs k);
      stuck = refl;
    }

kept-holds : (x : List ℤ) (b0 b : Pass) → Kept x b0 b → b0.stuck ≡ None → Holds x b
kept-holds x b0 b k e =
    record {
      box = box-from b.lows b.highs x (record { lows = k.lows; highs = k.highs })
          (λ j l. (k.low j l, k.high j l));
      met = k.met;
      free = k.stuck ∙ e;
    }

least-le : (negate : Bool) (x : List ℤ) (b : Pass) (ts : List Term) → Holds x b
    → All (λ t. t.column < length x) ts
    → All (λ t. least_part negate b.lows b.highs t ≤ℤ part negate x t) ts
unfolding part
least-le negate x b ts h c = λ k d l.
    let t = slice_index_or ts k d in
    let e = box-entry b.lows b.highs x t.column h.box (c k d l) in
    min_product (turned negate t.coefficient) (at b.lows t.column) (at b.highs t.column)
    (at x t.column) e.0 e.1

end_step-holds : (x : List ℤ) (i : ℕ) (negate : Bool) (ts : List Term) (end : Option ℤ) (b : Pass)
    → Holds x b → All (λ t. t.column < length x) ts → EndHolds negate ts x end →
    Holds x (end_step i negate ts end b)
unfolding EndHolds Room
end_step-holds x i negate ts None b h c m = h
end_step-holds x i negate ts (Some end) b h c m =
    let slack = turned negate end -ℤ least_of negate ts b.lows b.highs in
    let p = part-le (part negate x) (least_part negate b.lows b.highs) ts
    (least-le negate x b ts h c) in
    let rooms = rooms_of slack (λ k d l. let r = p.1 k d l in omega (arith, ints, r, m)) in
    let kept = cut_terms-kept negate slack x b ts b (kept-start x b h) rooms in
    by_over (is_over b) (int_lt slack (pos 0)) refl (omega (arith, ints, p.0, m))
    (kept-holds x b (cut_terms negate slack ts b) kept h.free)
  where
    rooms_of : (slack : ℤ)
        → All (λ t. part negate x t ≤ℤ (slack +ℤ least_part negate b.lows b.highs t)) ts
        → All (Room negate slack b x) ts
    rooms_of slack r = r

    by_over : (over stuck : Bool) → int_lt (turned negate end -ℤ least_of negate ts b.lows
        b.highs) (pos 0) ≡ stuck
        → pos 0 ≤ℤ (turned negate end -ℤ least_of negate ts b.lows b.highs) →
        Holds x (cut_terms negate (turned negate end -ℤ least_of negate ts b.lows b.highs) ts b) →
        Holds x (cond over b
        (cond stuck (record {
          lows = b.lows;
          highs = b.highs;
          decisions = b.decisions;
          stuck =
              Some i;
        }) (cut_terms negate (turned negate end -ℤ least_of negate ts b.lows b.highs)
        ts b)))
    by_over true stuck e n r = h
    by_over false true e n r = absurd (omega (arith, ints, e, n))
    by_over false false e n r = r

turned-sum : (negate : Bool) (ts : List Term) (x : List ℤ) → total (part negate x) ts
    ≡ turned negate (sum_of_terms ts x)
unfolding part
turned-sum false ts x = refl
turned-sum true [] x = refl
turned-sum true (t ∷ ts) x =
    let a = total-cons (λ (s : Term). s.coefficient *ℤ at x s.column) t ts in
    let b = total-cons (part true x) t ts in
    let i = turned-sum true ts x in
    let n = neg-*ℤ t.coefficient (at x t.column) in
    omega (arith, ints, a, b, i, n)

high-holds : (ts : List Term) (x : List ℤ) (o : Option ℤ) → MeetsHigh o (sum_of_terms ts x)
    → EndHolds false ts x o
unfolding EndHolds
high-holds ts x None m = tt
high-holds ts x (Some u) m = let e = turned-sum false ts x in omega (arith, ints, e, m)

low-holds : (ts : List Term) (x : List ℤ) (o : Option ℤ) → MeetsLow o (sum_of_terms ts x)
    → EndHolds true ts x o
unfolding EndHolds
low-holds ts x None m = tt
low-holds ts x (Some l) m = let e = turned-sum true ts x in omega (arith, ints, e, m)

line_step-holds : (x : List ℤ) (i : ℕ) (line : Line) (b : Pass) → Holds x b
    → All (λ t. t.column < length x) line.terms → MeetsLine x line → Holds x (line_step i line b)
line_step-holds x i line b h c m =
    end_step-holds x i true line.terms line.low (end_step i false line.terms line.high b)
    (end_step-holds x i false line.terms line.high b h c
    (high-holds line.terms x line.high m.high)) c (low-holds line.terms x line.low m.low)

-- the law of the pass: a point of the box that meets the lines lies within what the pass leaves
-- and meets each decision, and then the pass is not stuck
pub walked-holds : (n : ℕ) (lines : List Line) (x : List ℤ) (b : Pass) → n ≤ length lines
    → Holds x b → All (λ line. All (λ t. t.column < length x) line.terms) lines
    → All (MeetsLine x) lines → Holds x (walked n lines b)
unfolding walked
walked-holds zero lines x b l h c m = h
walked-holds (suc n) lines x b l h c m =
    let i = walked-holds n lines x b (omega arith) h c m in
    let d : Line = record { terms = []; low = None; high = None } in
    line_step-holds x n (line_at lines n) (walked n lines b) i (c n d (omega arith))
    (m n d (omega arith))
