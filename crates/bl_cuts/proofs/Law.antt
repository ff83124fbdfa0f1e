-- What a derived cut is, and that each point that meets the rows and the cuts meets it.
use Rattle.std.proofs.Common.{◌≡◌, ℕ, zero, suc, ◌<◌, ◌^◌, ℤ, pos, negsuc, ◌+ℤ◌, ◌-ℤ◌, ◌*ℤ◌, ◌≤ℤ◌}
use Rattle.std.proofs.Common.{arith, List, [], length, All, Option, Some, None, Bool, true, false}
use Rattle.std.proofs.Common.{cond, refl, sym, ◌∙◌, ap}
use Rattle.std.specs.Prelude.{nat_le, unsigned_abs, Ok, Err}
use Rattle.std.proofs.lemmas.Int.{ints}
use Rattle.std.proofs.lemmas.Bool.Decides.{nat_tests}
use Rattle.std.proofs.Math.IntN.{zero-*ℤ}
use Rattle.bl_num.specs.Exact.{sum_below, at, floor_of}
use Rattle.bl_num.specs.Checked.{checked_mul}
use Rattle.bl_num.proofs.Ring.{*ℤ-le, *ℤ-le_turned}
use Rattle.bl_num.proofs.SumLemmas.{sum_below-same, sum_below-le}
use Rattle.bl_num.proofs.CheckedLemmas.{number, checked_sum-some, checked_add-some, i128_of-some}
use Rattle.bl_mods.specs.declared.mods.ItemId.{ItemId}
use Rattle.bl_problem.specs.Sums.{IsWithin, sum_of_terms}
use Rattle.bl_problem.specs.Rows.{AreTerms, coefficient_of, MeetsLow, MeetsHigh}
use Rattle.bl_problem.specs.declared.cut.Cut.{Cut}
use Rattle.bl_bound.specs.Lines.{Line, line_at, MeetsLine}
use Rattle.bl_bound.proofs.Terms.{dense}
use Rattle.bl_cuts.specs.declared.fault.CutFault.TheVariants.{Weights, TooWide}
use Rattle.bl_cuts.specs.Derivations.{given, weighted_sum, pointed_end, points_at_ends, end_value}
use Rattle.bl_cuts.specs.Derivations.{ends_sum, floored, checked_sub, at_lows, right_of, rounded}
use Rattle.bl_cuts.specs.Derivations.{terms_below, are_small}
use Rattle.bl_cuts.specs.Answers.{cut_within, cut_of}
use Rattle.bl_cuts.proofs.RoundingLaw.{exchange, rounded-le}
use Rattle.bl_cuts.proofs.TermLemmas.{sum_of-terms_below}

-- ---- what an answer with a cut says
pub record IsCut (id : ItemId) (n : ℕ) (f : ℕ → ℤ) (right : Option ℤ) (cut : Cut) : Type 0 where
  pub exists : right ≡ Some cut.right
  pub small : are_small n f ≡ true
  pub near : IsWithin (10 ^ 30) cut.right
  pub is : cut ≡ record { id = id; terms = terms_below n f; right = cut.right }

within : (id : ItemId) (n : ℕ) (f : ℕ → ℤ) (r : ℤ) (cut : Cut) (a b : Bool) → are_small n f ≡ a
    → nat_le (unsigned_abs r) (10 ^ 30) ≡ b
    → cond a (cond b (Ok (record { id = id; terms = terms_below n f; right = r })) (Err TooWide))
    (Err TooWide) ≡ Ok cut → IsCut id n f (Some r) cut
within id n f r cut true true e k h =
    let same : record { id = id; terms = terms_below n f; right = r } ≡ cut = cc in
    let right : r ≡ cut.right = ap (λ (c : Cut). c.right) same in
    let near : IsWithin (10 ^ 30) r = grind (arith, nat_tests, k) in
    record {
      exists = ap Some right;
      small = e;
      near = rw (← right) near;
      is =
          sym same ∙ ap (λ (z : ℤ). record { id = id; terms = terms_below n f; right = z }) right;
    }
within id n f r cut true false e k h = absurd cc
within id n f r cut false b e k h = absurd cc

pub is_cut : (id : ItemId) (n : ℕ) (f : ℕ → ℤ) (o : Option ℤ) (cut : Cut) → cut_within id n f o
    ≡ Ok cut → IsCut id n f o cut
is_cut id n f None cut h = absurd cc
is_cut id n f (Some r) cut h =
    within id n f r cut (are_small n f) (nat_le (unsigned_abs r) (10 ^ 30)) refl refl h

pub derived : (id : ItemId) (n : ℕ) (lows : List ℤ) (lines : List Line) (w : List ℤ) (q : ℤ)
    (cut : Cut) → cut_of id n lows lines w q ≡ Ok cut
    → IsCut id n (rounded (weighted_sum lines w) q)
    (right_of n (weighted_sum lines w) (ends_sum lines w) lows q) cut
derived id n lows lines w q cut h = by (points_at_ends (length lines) lines w) h
  where
    by : (b : Bool) → cond b (cut_within id n (rounded (weighted_sum lines w) q)
        (right_of n (weighted_sum lines w) (ends_sum lines w) lows q)) (Err Weights) ≡ Ok cut
        → IsCut id n (rounded (weighted_sum lines w) q)
        (right_of n (weighted_sum lines w) (ends_sum lines w) lows q) cut
    by true e = is_cut id n (rounded (weighted_sum lines w) q)
        (right_of n (weighted_sum lines w) (ends_sum lines w) lows q) cut e
    by false e = absurd cc

-- ---- the numbers of checked sums
pub record MulExists (o : Option ℤ) (b t : ℤ) : Type 0 where
  pub exists : o ≡ Some (number o)
  pub exact : t ≡ number o *ℤ b

mul-some : (o : Option ℤ) (b t : ℤ) → checked_mul o (Some b) ≡ Some t → MulExists o b t
mul-some None b t e = absurd cc
mul-some (Some a) b t e = record { exists = refl; exact = sym (i128_of-some (a *ℤ b) t e) }

pub record LowsExist (n : ℕ) (f : ℕ → Option ℤ) (lows : List ℤ) (v : ℤ) : Type 0 where
  pub each : (j : ℕ) → j < n → f j ≡ Some (number (f j))
  pub exact : v ≡ sum_below n (λ j. number (f j) *ℤ at lows j)

at_lows-some : (n : ℕ) (f : ℕ → Option ℤ) (lows : List ℤ) (v : ℤ) → at_lows n f lows ≡ Some v
    → LowsExist n f lows v
at_lows-some n f lows v e =
    let s = checked_sum-some (Some (pos 0)) n (λ j. checked_mul (f j) (Some (at lows j))) v e in
    let m = λ (j : ℕ) (l : j < n). mul-some (f j) (at lows j)
    (number (checked_mul (f j) (Some (at lows j)))) (s.each j l) in
    let t = sum_below-same n (λ j. number (checked_mul (f j) (Some (at lows j))))
    (λ j. number (f j) *ℤ at lows j) (λ k l. (m k l).exact) in
    let x : v ≡ pos 0 +ℤ sum_below n (λ j. number (checked_mul (f j) (Some (at lows j)))) =
    s.exact in
    record { each = λ j l. (m j l).exists; exact = omega (arith, ints, x, t) }

pub record SubExists (a b : Option ℤ) (v : ℤ) : Type 0 where
  pub left : a ≡ Some (number a)
  pub right : b ≡ Some (number b)
  pub exact : v ≡ number a -ℤ number b

sub-some : (a b : Option ℤ) (v : ℤ) → checked_sub a b ≡ Some v → SubExists a b v
sub-some None b v e = absurd cc
sub-some (Some a) None v e = absurd cc
sub-some (Some a) (Some b) v e =
    record { left = refl; right = refl; exact = sym (i128_of-some (a -ℤ b) v e) }

pub record FloorExists (a : Option ℤ) (q v : ℤ) : Type 0 where
  pub exists : a ≡ Some (number a)
  pub exact : v ≡ floor_of (number a) q

floored-some : (a : Option ℤ) (q v : ℤ) → floored a q ≡ Some v → FloorExists a q v
floored-some None q v e = absurd cc
floored-some (Some a) q v e = record { exists = refl; exact = cc }

-- the number of a floor, and the rounded coefficient, where the sum is there
number-floored : (a : Option ℤ) (q : ℤ) → a ≡ Some (number a) → number (floored a q)
    ≡ floor_of (number a) q
number-floored None q e = absurd cc
number-floored (Some a) q e = refl

rounded-is : (a : ℕ → Option ℤ) (q : ℤ) (j : ℕ) → a j ≡ Some (number (a j)) → rounded a q j
    ≡ floor_of (number (a j)) q
rounded-is a q j e = by (a j) e
  where
    by : (o : Option ℤ) → o ≡ Some (number o) → Rattle.std.specs.Prelude.unwrap_or (floored o q)
        (pos 0) ≡ floor_of (number o) q
    by None e = absurd cc
    by (Some z) e = refl

-- ---- the weighted ends
end_value-le : (v : ℤ) (line : Line) (s t : ℤ) → checked_mul (Some v) (pointed_end v line)
    ≡ Some t → MeetsLow line.low s → MeetsHigh line.high s → (v *ℤ s) ≤ℤ t
end_value-le (pos zero) line s t e l h = let i = i128_of-some (pos 0 *ℤ pos 0) t e in let z =
    zero-*ℤ s in let y = zero-*ℤ (pos 0) in omega (arith, ints, i, z, y)
end_value-le (pos (suc n)) line s t e l h = by line.high e h
  where
    by : (o : Option ℤ) → checked_mul (Some (pos (suc n))) o ≡ Some t → MeetsHigh o s
        → (pos (suc n) *ℤ s) ≤ℤ t
    by None e h = absurd cc
    by (Some u) e h = let i = i128_of-some (pos (suc n) *ℤ u) t e in let k =
        *ℤ-le (pos (suc n)) s u (omega (arith, ints)) h in omega (arith, ints, i, k)
end_value-le (negsuc n) line s t e l h = by line.low e l
  where
    by : (o : Option ℤ) → checked_mul (Some (negsuc n)) o ≡ Some t → MeetsLow o s
        → (negsuc n *ℤ s) ≤ℤ t
    by None e h = absurd cc
    by (Some u) e h = let i = i128_of-some (negsuc n *ℤ u) t e in let k =
        *ℤ-le_turned (negsuc n) u s (omega (arith, ints)) h in omega (arith, ints, i, k)

-- ---- the law
pub cut_of-holds : (n : ℕ) (lows : List ℤ) (lines : List Line) (w x : List ℤ) (q right : ℤ)
    → pos 1 ≤ℤ q →
    ((j : ℕ) → j < n → at lows j ≤ℤ at x j) → All (λ line. AreTerms n line.terms) lines
    → All (MeetsLine x) lines →
    right_of n (weighted_sum lines w) (ends_sum lines w) lows q ≡ Some right →
    sum_of_terms (terms_below n (rounded (weighted_sum lines w) q)) x ≤ℤ right
cut_of-holds n lows lines w x q right h above terms meets e =
    let m = length lines in
    let a = weighted_sum lines w in
    let big = λ (j : ℕ). number (a j) in
    let s = λ (i : ℕ). sum_of_terms (line_at lines i).terms x in
    let c = λ (i : ℕ) (j : ℕ). coefficient_of (line_at lines i).terms j in
    let add = checked_add-some (floored (checked_sub (ends_sum lines w) (at_lows n a lows)) q)
    (at_lows n (λ j. floored (a j) q) lows) right e in
    let fl = floored-some (checked_sub (ends_sum lines w) (at_lows n a lows)) q
    (number (floored (checked_sub (ends_sum lines w) (at_lows n a lows)) q)) add.left in
    let su = sub-some (ends_sum lines w) (at_lows n a lows)
    (number (checked_sub (ends_sum lines w) (at_lows n a lows))) fl.exists in
    let lo = at_lows-some n a lows (number (at_lows n a lows)) su.right in
    let up = at_lows-some n (λ j. floored (a j) q) lows
    (number (at_lows n (λ j. floored (a j) q) lows)) add.right in
    let en = checked_sum-some (Some (pos 0)) m (end_value lines w) (number (ends_sum lines w))
    su.left in
    let ends = sum_below-le m (λ i. at w i *ℤ s i) (λ i. number (end_value lines w i))
    (λ i l. let line = meets i (record { terms = []; low = None; high = None }) l in end_value-le
    (at w i) (line_at lines i) (s i) (number (end_value lines w i)) (en.each i l) line.low
    line.high) in
    let cols =
    λ (j : ℕ) (l : j < n). (checked_sum-some (Some (pos 0)) m (given lines w j) (big j)
    (lo.each j l)).exact in
    let ex = exchange n m (λ i. at w i) (λ j. at x j) s c
    (λ i l. dense n (line_at lines i).terms x
    (terms i (record { terms = []; low = None; high = None }) l)) in
    let sums = sum_below-same n (λ j. big j *ℤ at x j)
    (λ j. sum_below m (λ i. at w i *ℤ c i j) *ℤ at x j)
    (λ j l. let k : big j ≡ pos 0 +ℤ sum_below m (λ i. at w i *ℤ c i j) =
    cols j l in ap (λ (v : ℤ). v *ℤ at x j) (omega (arith, ints, k))) in
    let whole : number (ends_sum lines w)
    ≡ pos 0 +ℤ sum_below m (λ i. number (end_value lines w i)) = en.exact in
    let below : sum_below n (λ j. big j *ℤ at x j) ≤ℤ number (ends_sum lines w) =
    omega (arith, ints, ends, ex, sums, whole) in
    let r = rounded-le n q (number (ends_sum lines w)) big (λ j. at x j) (λ j. at lows j) h above
    below in
    let t = sum_of-terms_below n (rounded a q) x in
    let u = sum_below-same n (λ j. rounded a q j *ℤ at x j) (λ j. floor_of (big j) q *ℤ at x j)
    (λ j l. ap (λ (v : ℤ). v *ℤ at x j) (rounded-is a q j (lo.each j l))) in
    let v = sum_below-same n (λ j. number (floored (a j) q) *ℤ at lows j)
    (λ j. floor_of (big j) q *ℤ at lows j)
    (λ j l. ap (λ (z : ℤ). z *ℤ at lows j) (number-floored (a j) q (lo.each j l))) in
    let same : floor_of (number (checked_sub (ends_sum lines w) (at_lows n a lows))) q
    ≡ floor_of (number (ends_sum lines w) -ℤ sum_below n (λ j. big j *ℤ at lows j)) q =
    ap (λ (z : ℤ). floor_of z q)
    (su.exact ∙ ap (λ (z : ℤ). number (ends_sum lines w) -ℤ z) lo.exact) in
    omega (arith, ints, r, t, u, v, same, add.exact, fl.exact, up.exact)
