-- What `derive` gives for a weight on one row alone.
use Rattle.std.proofs.Common.{◌≡◌, ℕ, zero, suc, ◌+◌, ◌*◌, ◌<◌, ◌≤◌, ◌^◌, ℤ, pos, negsuc, ◌+ℤ◌}
use Rattle.std.proofs.Common.{◌-ℤ◌, ◌*ℤ◌, neg_ℤ, ◌≤ℤ◌, ◌<ℤ◌, arith, List, [], ◌∷◌, length, get_or}
use Rattle.std.proofs.Common.{map, All, Option, Some, None, Ok, Err, Bool, true, false, cond}
use Rattle.std.proofs.Common.{refl, sym, ◌∙◌, ap, subst, FitsSigned, ⊎_elim, ◌⊎◌, inl, inr}
use Rattle.std.specs.Prelude.{nat_le, int_lt, unsigned_abs, is_some, ◌&&◌, slice_set, replicate}
use Rattle.std.specs.Int.{w128}
use Rattle.std.proofs.lemmas.Int.{ints, by_lt_z}
use Rattle.std.proofs.lemmas.Bool.Decides.{nat_tests}
use Rattle.std.proofs.lemmas.List.{get_or-replicate, get_or-set_same, get_or-set_other, length-map}
use Rattle.std.proofs.Math.IntN.{zero-*ℤ, *ℤ_comm}
use native.Mathlib.Decide.{ℕ_discrete}
use Rattle.bl_num.specs.Exact.{sum_below, at, floor_of, ceil_of}
use Rattle.bl_num.specs.Checked.{i128_of, checked_add, checked_mul}
use Rattle.bl_num.proofs.CheckedLemmas.{i128_of_fits}
use Rattle.bl_num.proofs.Quotients.{floor-times, floor-next, le_floor, times_up, times_down}
use Rattle.bl_num.proofs.SumLemmas.{product_within, at-map}
use Rattle.bl_fixed.specs.Fixed.{one}
use Rattle.bl_mods.specs.declared.mods.ItemId.{ItemId}
use Rattle.bl_problem.specs.Sums.{IsWithin}
use Rattle.bl_problem.specs.Rows.{AreTerms, coefficient_of}
use Rattle.bl_problem.specs.Program.{Program, IsProgram, IsColumn}
use Rattle.bl_problem.specs.Points.{lows_of, own_lows}
use Rattle.bl_problem.specs.declared.cut.Cut.{Cut}
use Rattle.bl_problem.specs.declared.problem.Column.{Column}
use Rattle.bl_problem.specs.declared.problem.Term.{Term}
use Rattle.bl_bound.specs.Lines.{Line, line_at, line_of_row, lines_of}
use Rattle.bl_bound.proofs.Terms.{spread, tail_terms}
use Rattle.bl_bound.proofs.LineLemmas.{length-lines_of}
use Rattle.bl_bound.proofs.UnitSums.{sum_fits}
use Rattle.bl_bound.proofs.UnitBounds.{row_line}
use Rattle.bl_cuts.specs.declared.fault.CutFault.TheVariants.{Weights, TooWide}
use Rattle.bl_cuts.specs.Derivations.{weighted_sum, pointed_end, points_at_ends, ends_sum}
use Rattle.bl_cuts.specs.Derivations.{floored, checked_sub, at_lows, right_of, rounded}
use Rattle.bl_cuts.specs.Derivations.{terms_below, are_small}
use Rattle.bl_cuts.specs.Answers.{cut_within, cut_of}
use Rattle.bl_cuts.specs.OneRow.{quotients_sum, over_lows, row_right, row_breaks}
use Rattle.bl_cuts.specs.Separations.{alone, breaks, is_broken, candidate, row_at}
use Rattle.bl_cuts.proofs.OneHot.{weighted-one, ends-one}
use Rattle.bl_cuts.proofs.Same.{cut_within-same}
use Rattle.bl_cuts.proofs.TermLemmas.{sum_of-terms_below}

-- ---- sizes
pub floor_within : (m : ℕ) (a q : ℤ) → pos 1 ≤ℤ q → IsWithin m a → IsWithin m (floor_of a q)
floor_within m a q h w =
    let t = floor-times a q h in
    let d = times_down (neg_ℤ (pos m)) q h (omega (arith, ints)) in
    let k = le_floor (neg_ℤ (pos m)) a q h (omega (arith, ints, w, d)) in
    by_lt_z (floor_of a q) (pos 0)
    (λ l. omega (arith, ints, k, l))
    (λ l. let u = times_up (floor_of a q) q h l in omega (arith, ints, w, t, u, l))

-- ---- a weight alone
pub alone-at : (n i : ℕ) (w : ℤ) → i < n → at (alone n i w) i ≡ w
alone-at n i w l = get_or-set_same (replicate n (pos 0)) i w (pos 0)
    (let e = Rattle.std.proofs.lemmas.List.length-replicate n (pos 0) in omega (arith, e, l))

zero_at : (n k : ℕ) → at (replicate n (pos 0)) k ≡ pos 0
zero_at n k = ⊎_elim (λ l. get_or-replicate n k (pos 0) (pos 0) l)
    (λ l. Rattle.std.proofs.Math.ListN.get_or-eq_default (replicate n (pos 0)) (pos 0)
    (let e = Rattle.std.proofs.lemmas.List.length-replicate n (pos 0) in omega (arith, e, l)))
    (Rattle.std.proofs.lemmas.Bool.cases_lt k n)

pub alone-off : (n i : ℕ) (w : ℤ) (k : ℕ) → ¬ (k ≡ i) → at (alone n i w) k ≡ pos 0
alone-off n i w k d = get_or-set_other (replicate n (pos 0)) i k w (pos 0) d ∙ zero_at n k

points : (m : ℕ) (lines : List Line) (w : List ℤ)
    → ((k : ℕ) → k < m → is_some (pointed_end (at w k) (line_at lines k)) ≡ true)
    → points_at_ends m lines w ≡ true
points zero lines w h = refl
points (suc m) lines w h =
    let i = points m lines w (λ k l. h k (omega (arith, l))) in
    ap (λ (b : Bool). b && is_some (pointed_end (at w m) (line_at lines m))) i ∙ h m (omega arith)

small : (n : ℕ) (f : ℕ → ℤ) → ((j : ℕ) → IsWithin (10 ^ 15) (f j)) → are_small n f ≡ true
small zero f h = refl
small (suc n) f h =
    let w = h n in
    let t : nat_le (unsigned_abs (f n)) (10 ^ 15) ≡ true = grind (arith, nat_tests, w) in
    ap (λ (b : Bool). b && nat_le (unsigned_abs (f n)) (10 ^ 15)) (small n f h) ∙ t

-- ---- the cut of one line
pub record OneLine (n : ℕ) (lows : List ℤ) (lines : List Line) (w : List ℤ) (i : ℕ) (v e : ℤ)
    (ts : List Term) : Type 0 where
  pub few : n ≤ 1000
  pub below : i < length lines
  pub here : at w i ≡ v
  pub others : (k : ℕ) → ¬ (k ≡ i) → at w k ≡ pos 0
  pub terms : (line_at lines i).terms ≡ ts
  pub end : pointed_end v (line_at lines i) ≡ Some e
  pub unit : IsWithin 1 v
  pub are : AreTerms n ts
  pub near_end : IsWithin (10 ^ 24) e
  pub near_lows : (j : ℕ) → IsWithin (10 ^ 9) (at lows j)

coefficient-small : (n : ℕ) (ts : List Term) (j : ℕ) → AreTerms n ts
    → IsWithin (10 ^ 15) (coefficient_of ts j)
coefficient-small n [] j h = omega arith
coefficient-small n (t ∷ ts) j h = by (Rattle.std.proofs.Common.eqb t.column j)
    ((h.each 0 t (omega arith)).coefficient) (coefficient-small n ts j (tail_terms n t ts h))
  where
    by : (b : Bool) → IsWithin (10 ^ 15) t.coefficient → IsWithin (10 ^ 15) (coefficient_of ts j)
        → IsWithin (10 ^ 15) (cond b t.coefficient (coefficient_of ts j))
    by true p q = p
    by false p q = q

weight-small : (n : ℕ) (v : ℤ) (ts : List Term) (j : ℕ) → IsWithin 1 v → AreTerms n ts
    → IsWithin (10 ^ 15) (v *ℤ coefficient_of ts j)
weight-small n v ts j u h = let p =
    product_within v (coefficient_of ts j) 1 (10 ^ 15) u (coefficient-small n ts j h) in omega
    (arith, p)

-- the columns' sums
weighted : (n : ℕ) (lows : List ℤ) (lines : List Line) (w : List ℤ) (i : ℕ) (v e : ℤ)
    (ts : List Term) (j : ℕ) → OneLine n lows lines w i v e ts → weighted_sum lines w j
    ≡ Some (v *ℤ coefficient_of ts j)
weighted n lows lines w i v e ts j o =
    let s = weight-small n v ts j o.unit o.are in
    let same : at w i *ℤ coefficient_of (line_at lines i).terms j ≡ v *ℤ coefficient_of ts j =
    ap (λ (z : ℤ). z *ℤ coefficient_of (line_at lines i).terms j) o.here
    ∙ ap (λ (t : List Term). v *ℤ coefficient_of t j) o.terms in
    let fits : FitsSigned w128 (v *ℤ coefficient_of ts j) = omega (arith, ints, s) in
    let f = i128_of_fits (v *ℤ coefficient_of ts j) fits in
    weighted-one lines w i j o.below o.others (ap i128_of same ∙ f ∙ ap Some (sym same))
    ∙ ap Some same

ends : (n : ℕ) (lows : List ℤ) (lines : List Line) (w : List ℤ) (i : ℕ) (v e : ℤ) (ts : List Term)
    → OneLine n lows lines w i v e ts → ends_sum lines w ≡ Some (v *ℤ e)
ends n lows lines w i v e ts o =
    let p = product_within v e 1 (10 ^ 24) o.unit o.near_end in
    let fits : FitsSigned w128 (v *ℤ e) = omega (arith, ints, p) in
    let f = i128_of_fits (v *ℤ e) fits in
    ends-one lines w i (v *ℤ e) o.below o.others
    (ap (λ (z : ℤ). checked_mul (Some z) (pointed_end z (line_at lines i))) o.here
    ∙ ap (λ (x : Option ℤ). checked_mul (Some v) x) o.end ∙ f) f

pointing : (n : ℕ) (lows : List ℤ) (lines : List Line) (w : List ℤ) (i : ℕ) (v e : ℤ)
    (ts : List Term) → OneLine n lows lines w i v e ts → points_at_ends (length lines) lines w
    ≡ true
pointing n lows lines w i v e ts o =
    points (length lines) lines w (λ k l. elim (ℕ_discrete k i) [
      | yes s ↦ ap (λ (m : ℕ). is_some (pointed_end (at w m) (line_at lines m))) s
          ∙ ap (λ (z : ℤ). is_some (pointed_end z (line_at lines i))) o.here
          ∙ ap (λ (x : Option ℤ). is_some x) o.end
      | no d ↦ ap (λ (z : ℤ). is_some (pointed_end z (line_at lines k))) (o.others k d)
    ])

-- a sum over the columns of numbers times the lows
pub record LowsSum (n : ℕ) (f : ℕ → Option ℤ) (g : ℕ → ℤ) (lows : List ℤ) : Type 0 where
  pub exact : at_lows n f lows ≡ Some (sum_below n (λ j. g j *ℤ at lows j))
  pub near : IsWithin (2 * 10 ^ 27 + 10 ^ 24) (sum_below n (λ j. g j *ℤ at lows j))

lows_sum : (n : ℕ) (f : ℕ → Option ℤ) (g : ℕ → ℤ) (lows : List ℤ) → n ≤ 1000
    → ((j : ℕ) → f j ≡ Some (g j)) → ((j : ℕ) → IsWithin (10 ^ 15) (g j))
    → ((j : ℕ) → IsWithin (10 ^ 9) (at lows j)) → LowsSum n f g lows
lows_sum n f g lows l e s k =
    let p = λ (j : ℕ). product_within (g j) (at lows j) (10 ^ 15) (10 ^ 9) (s j) (k j) in
    let each : (j : ℕ) → checked_mul (f j) (Some (at lows j)) ≡ Some (g j *ℤ at lows j) =
    λ j. ap (λ (x : Option ℤ). checked_mul x (Some (at lows j))) (e j)
    ∙ i128_of_fits (g j *ℤ at lows j) (let q = p j in omega (arith, ints, q)) in
    let r = sum_fits (pos 0) n (λ j. checked_mul (f j) (Some (at lows j))) (λ j. g j *ℤ at lows j)
    (omega arith) l (λ j m. each j) (λ j m. let q = p j in omega (arith, q)) in
    let near = r.near in
    let z : pos 0 +ℤ sum_below n (λ j. g j *ℤ at lows j) ≡ sum_below n (λ j. g j *ℤ at lows j) =
    omega (arith, ints) in
    record { exact = r.exact ∙ ap Some z; near = omega (arith, ints, near, z, l) }

-- the right side, in the columns' sums
abbrev pub dense_right : ℕ → List ℤ → List Term → ℤ → ℤ → ℤ → ℤ
dense_right n lows ts v e q =
    floor_of (v *ℤ e -ℤ sum_below n (λ j. (v *ℤ coefficient_of ts j) *ℤ at lows j)) q +ℤ sum_below
    n (λ j. floor_of (v *ℤ coefficient_of ts j) q *ℤ at lows j)

pub record RightSide (n : ℕ) (lows : List ℤ) (lines : List Line) (w : List ℤ) (v e q : ℤ)
    (ts : List Term) : Type 0 where
  pub exact : right_of n (weighted_sum lines w) (ends_sum lines w) lows q
      ≡ Some (dense_right n lows ts v e q)
  pub near : IsWithin (10 ^ 30) (dense_right n lows ts v e q)

right_side : (n : ℕ) (lows : List ℤ) (lines : List Line) (w : List ℤ) (i : ℕ) (v e q : ℤ)
    (ts : List Term) → OneLine n lows lines w i v e ts → pos 1 ≤ℤ q
    → RightSide n lows lines w v e q ts
right_side n lows lines w i v e q ts o h =
    let a = λ (j : ℕ). v *ℤ coefficient_of ts j in
    let c = λ (j : ℕ). floor_of (v *ℤ coefficient_of ts j) q in
    let s = λ (j : ℕ). weight-small n v ts j o.unit o.are in
    let f = λ (j : ℕ). weighted n lows lines w i v e ts j o in
    let lo = lows_sum n (weighted_sum lines w) a lows o.few f s o.near_lows in
    let up = lows_sum n (λ j. floored (weighted_sum lines w j) q) c lows o.few
    (λ j. ap (λ (x : Option ℤ). floored x q) (f j))
    (λ j. floor_within (10 ^ 15) (a j) q h (s j)) o.near_lows in
    let en = ends n lows lines w i v e ts o in
    let p = product_within v e 1 (10 ^ 24) o.unit o.near_end in
    let lows_near = lo.near in
    let up_near = up.near in
    let left = v *ℤ e -ℤ sum_below n (λ j. a j *ℤ at lows j) in
    let left_near : IsWithin (10 ^ 28) left = omega (arith, ints, p, lows_near) in
    let sub : checked_sub (ends_sum lines w) (at_lows n (weighted_sum lines w) lows) ≡ Some left =
    ap (λ (x : Option ℤ). checked_sub x (at_lows n (weighted_sum lines w) lows)) en
    ∙ ap (λ (x : Option ℤ). checked_sub (Some (v *ℤ e)) x) lo.exact
    ∙ i128_of_fits left (omega (arith, ints, left_near)) in
    let fl = floor_within (10 ^ 28) left q h left_near in
    let near : IsWithin (10 ^ 30) (floor_of left q +ℤ sum_below n (λ j. c j *ℤ at lows j)) =
    omega (arith, ints, fl, up_near) in
    record {
      exact =
          ap (λ (x : Option ℤ). checked_add (floored x q)
          (at_lows n (λ j. floored (weighted_sum lines w j) q) lows)) sub
          ∙ ap (λ (x : Option ℤ). checked_add (Some (floor_of left q)) x) up.exact
          ∙ i128_of_fits (floor_of left q +ℤ sum_below n (λ j. c j *ℤ at lows j))
          (omega (arith, ints, near));
      near = near;
    }

-- the cut itself
one_line : (id : ItemId) (n : ℕ) (lows : List ℤ) (lines : List Line) (w : List ℤ) (i : ℕ)
    (v e q : ℤ) (ts : List Term) → OneLine n lows lines w i v e ts → pos 1 ≤ℤ q
    → cut_of id n lows lines w q
    ≡ Ok (record {
      id = id;
      terms = terms_below n
          (λ j. floor_of (v *ℤ coefficient_of ts j) q);
      right = dense_right n lows ts v e q;
    })
one_line id n lows lines w i v e q ts o h =
    let c = λ (j : ℕ). floor_of (v *ℤ coefficient_of ts j) q in
    let r = right_side n lows lines w i v e q ts o h in
    let near = r.near in
    let t : nat_le (unsigned_abs (dense_right n lows ts v e q)) (10 ^ 30) ≡ true =
    grind (arith, nat_tests, near) in
    let f : (j : ℕ) → j < n → rounded (weighted_sum lines w) q j ≡ c j =
    λ j l. ap (λ (x : Option ℤ). Rattle.std.specs.Prelude.unwrap_or (floored x q) (pos 0))
    (weighted n lows lines w i v e ts j o) in
    let s = small n c (λ j. floor_within (10 ^ 15) (v *ℤ coefficient_of ts j) q h
    (weight-small n v ts j o.unit o.are)) in
    ap (λ (b : Bool). cond b (cut_within id n (rounded (weighted_sum lines w) q)
    (right_of n (weighted_sum lines w) (ends_sum lines w) lows q)) (Err Weights))
    (pointing n lows lines w i v e ts o)
    ∙ ap (cut_within id n (rounded (weighted_sum lines w) q)) r.exact
    ∙ cut_within-same id n (rounded (weighted_sum lines w) q) c
    (Some (dense_right n lows ts v e q)) f
    ∙ ap (λ (b : Bool). cond b
    (cond (nat_le (unsigned_abs (dense_right n lows ts v e q)) (10 ^ 30))
    (Ok (record { id = id; terms = terms_below n c; right = dense_right n lows ts v e q }))
    (Err TooWide)) (Err TooWide)) s
    ∙ ap (λ (b : Bool). cond b
    (Ok (record { id = id; terms = terms_below n c; right = dense_right n lows ts v e q }))
    (Err TooWide)) t

-- ---- the same over the row's terms alone
floor_zero : (q : ℤ) → pos 1 ≤ℤ q → floor_of (pos 0) q ≡ pos 0
floor_zero q h = let r = floor_within 0 (pos 0) q h (omega arith) in omega (arith, ints, r)

pub floor_one : (z : ℤ) → floor_of z (pos 1) ≡ z
floor_one z =
    let t = floor-times z (pos 1) (omega (arith, ints)) in
    let n = floor-next z (pos 1) (omega (arith, ints)) in
    omega (arith, ints, t, n)

quotients_dense : (n : ℕ) (v q : ℤ) (ts : List Term) (x : List ℤ) → pos 1 ≤ℤ q → AreTerms n ts
    → sum_below n (λ j. floor_of (v *ℤ coefficient_of ts j) q *ℤ at x j) ≡ quotients_sum v q ts x
quotients_dense n v q ts x h t =
    spread n ts (λ j a. floor_of (v *ℤ a) q *ℤ at x j) t
    (λ j.
    let z = *ℤ_comm v (pos 0) ∙ zero-*ℤ v in
    ap (λ (y : ℤ). floor_of y q *ℤ at x j) z ∙ ap (λ (y : ℤ). y *ℤ at x j) (floor_zero q h)
    ∙ zero-*ℤ (at x j))

right_same : (n : ℕ) (lows : List ℤ) (ts : List Term) (v e q : ℤ) → pos 1 ≤ℤ q → AreTerms n ts
    → dense_right n lows ts v e q ≡ row_right lows ts v (over_lows lows ts v e) q
right_same n lows ts v e q h t =
    let a = quotients_dense n v q ts lows h t in
    let b = quotients_dense n v (pos 1) ts lows (omega (arith, ints)) t in
    let c = Rattle.bl_num.proofs.SumLemmas.sum_below-same n (λ j. (v *ℤ coefficient_of ts j) *ℤ at
    lows j) (λ j. floor_of (v *ℤ coefficient_of ts j) (pos 1) *ℤ at lows j)
    (λ j l. ap (λ (y : ℤ). y *ℤ at lows j) (sym (floor_one (v *ℤ coefficient_of ts j)))) in
    ap (λ (s : ℤ). floor_of (v *ℤ e -ℤ s) q +ℤ sum_below n
    (λ j. floor_of (v *ℤ coefficient_of ts j) q *ℤ at lows j)) (c ∙ b)
    ∙ ap (λ (s : ℤ). floor_of (over_lows lows ts v e) q +ℤ s) a

pub one_line-breaks : (id : ItemId) (n : ℕ) (lows : List ℤ) (lines : List Line) (w : List ℤ)
    (i : ℕ) (v e q : ℤ) (ts : List Term) (x : List ℤ) → OneLine n lows lines w i v e ts → pos 1 ≤ℤ q
    → breaks x (cut_of id n lows lines w q) ≡ row_breaks lows x ts v (over_lows lows ts v e) q
one_line-breaks id n lows lines w i v e q ts x o h =
    ap (breaks x) (one_line id n lows lines w i v e q ts o h)
    ∙ ap (λ (s : ℤ). int_lt (dense_right n lows ts v e q *ℤ one) s)
    (sum_of-terms_below n (λ j. floor_of (v *ℤ coefficient_of ts j) q) x
    ∙ quotients_dense n v q ts x h o.are)
    ∙ ap (λ (r : ℤ). int_lt (r *ℤ one) (quotients_sum v q ts x))
    (right_same n lows ts v e q h o.are)

-- ---- of a problem's row
lows-near : (columns : List Column) (j : ℕ) → All IsColumn columns
    → IsWithin (10 ^ 9) (at (lows_of columns) j)
lows-near [] j h = omega arith
lows-near (c ∷ columns) zero h = (h 0 c (omega arith)).low
lows-near (c ∷ columns) (suc j) h = lows-near columns j (λ k d l. h (suc k) d (omega (arith, l)))

pub row-breaks : (p : Program) (cuts : List Cut) (x : List ℤ) (i : ℕ) (v e q : ℤ) → IsProgram p
    → i < length p.rows → IsWithin 1 v → pointed_end v (line_of_row (row_at p.rows i)) ≡ Some e
    → IsWithin (10 ^ 24) e → pos 1 ≤ℤ q
    → row_breaks (own_lows p) x (row_at p.rows i).terms v
    (over_lows (own_lows p) (row_at p.rows i).terms v e) q
    ≡ is_broken p cuts x (candidate i v q)
row-breaks p cuts x i v e q h l u d k c =
    let n = length p.rows + length cuts in
    let line = row_line p.rows cuts i (record { name = []; terms = []; low = None; high = None })
    l in
    let m = length-lines_of p.rows cuts in
    sym (one_line-breaks (record { seat = 0; serial = 0 }) (length p.columns) (own_lows p)
    (lines_of p.rows cuts) (alone n i v) i v e q (row_at p.rows i).terms x
    (record {
      few = h.few_columns;
      below = omega (arith, l, m);
      here = alone-at n i v (omega (arith, l));
      others = alone-off n i v;
      terms = ap (λ (y : Line). y.terms) line;
      end = ap (pointed_end v) line ∙ d;
      unit = u;
      are = (h.rows i (record { name = []; terms = []; low = None; high = None }) l).terms;
      near_end = k;
      near_lows = λ j. lows-near p.columns j h.columns;
    }) c)

pub ceil_within : (m : ℕ) (a q : ℤ) → pos 1 ≤ℤ q → IsWithin m a → IsWithin m (ceil_of a q)
ceil_within m a q h w = let f = floor_within m (neg_ℤ a) q h (omega (arith, ints, w)) in omega
    (arith, ints, f)
