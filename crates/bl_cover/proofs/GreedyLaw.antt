-- What a greedy cover is: columns that `cover_cut` accepts.
use Rattle.std.proofs.Common.{◌≡◌, ℕ, zero, suc, ◌+◌, ◌<◌, ◌≤◌, ◌^◌, ℤ, pos, negsuc, ◌-ℤ◌, ◌≤ℤ◌}
use Rattle.std.proofs.Common.{◌<ℤ◌, arith, List, [], ◌∷◌, ◌++◌, length, get_or, map, take, drop}
use Rattle.std.proofs.Common.{refl, sym, ◌∙◌, ap, subst, All, Bool, true, false, cond, eqb}
use Rattle.std.proofs.Common.{Option, Some, None, Ok}
use Rattle.std.specs.Prelude.{int_lt, nat_lt, ◌&&◌, ◌||◌, option_map, unsigned_abs}
use Rattle.std.specs.Ordering.{is_lt, is_eq, ordering_then, int_cmp, nat_cmp}
use Rattle.std.specs.declared.cmp.Ordering.TheVariants.{Less, Equal, Greater}
use Rattle.std.specs.List.{filter, IsDistinct, sum_by}
use Rattle.std.specs.List.Sorted.{IsPermutation, IsStrictlyIncreasing}
use Rattle.std.proofs.lemmas.Int.{ints}
use Rattle.std.proofs.lemmas.Bool.{and_parts}
use Rattle.std.proofs.lemmas.Bool.Decides.{nat_tests, Decides-eqb}
use Rattle.std.proofs.lemmas.List.{get_or-map, length-map, map-append, take-map, get_or-take}
use Rattle.std.proofs.lemmas.List.{length-take, drop_more}
use Rattle.std.proofs.lemmas.List.Elements.{All-map, All-filter, All-take, filter_more}
use Rattle.std.proofs.lemmas.List.Elements.{filter_passes}
use Rattle.std.proofs.lemmas.List.Kept.{AllPairs-filter}
use Rattle.std.proofs.lemmas.List.Sums.{sum_by-cons}
use Rattle.std.proofs.lemmas.List.Sorted.{All-permutation, sum_by-IsPermutation, IsPermutation-map}
use Rattle.std.proofs.lemmas.Map.Keys.{IsDistinct-IsPermutation}
use Rattle.std.proofs.lemmas.Map.Made.{AllPairs-from_IsDistinct, IsDistinct-from_AllPairs}
use Rattle.bl_mods.specs.declared.mods.ItemId.{ItemId}
use Rattle.bl_fixed.specs.declared.Fixed.{Fixed}
use Rattle.bl_problem.specs.Sums.{IsWithin, total}
use Rattle.bl_problem.specs.Rows.{IsTerm, AreTerms, coefficient_of}
use Rattle.bl_problem.specs.Program.{Program, IsProgram}
use Rattle.bl_problem.specs.declared.problem.Column.{Column}
use Rattle.bl_problem.specs.declared.problem.Row.{Row}
use Rattle.bl_problem.specs.declared.problem.Term.{Term}
use Rattle.bl_problem.proofs.Limits.{length-rising}
use Rattle.bl_bound.proofs.Terms.{total-cons}
use Rattle.bl_cover.specs.Covers.{is_binary, listed_at, least_at, fits_at, first_misfit}
use Rattle.bl_cover.specs.Covers.{listed_sum, least_sum, slack_in, slack_below, by_slack}
use Rattle.bl_cover.specs.Covers.{cut_by_slack, all_but_one, cover_of, row_at, by_misfit}
use Rattle.bl_cover.specs.Greedy.{may_cover, candidate_of, raw_at, listed, candidates, column_of}
use Rattle.bl_cover.specs.Greedy.{IsOrderOf, comes_before, cover_size, is_broken, broken_by}
use Rattle.bl_cover.specs.Greedy.{broken_size, room_of, IsGreedyCover, IsCandidate}
use Rattle.bl_cover.specs.declared.greedy.Candidate.{Candidate}
use Rattle.bl_cover.proofs.Places.{coefficient-at, fit, misfit-more}

-- ---- candidates
pub candidates-more : (columns : List Column) (point : List Fixed) (terms : List Term) (i : ℕ)
    (d : Term) → i < length terms
    → candidates columns point (take (i + 1) terms) ≡ candidates columns point (take i terms)
    ++ listed columns point (get_or terms i d)
candidates-more columns point terms i d l =
    ap (map (candidate_of point)) (filter_more (may_cover columns) terms i d l)
    ∙ map-append (candidate_of point) (filter (may_cover columns) (take i terms))
    (cond (may_cover columns (get_or terms i d)) (get_or terms i d ∷ []) [])
    ∙ ap (λ (cs : List Candidate). candidates columns point (take i terms) ++ cs)
    (by (may_cover columns (get_or terms i d)))
  where
    by : (b : Bool) → map (candidate_of point) (cond b (get_or terms i d ∷ []) [])
        ≡ cond b (candidate_of point (get_or terms i d) ∷ []) []
    by true = refl
    by false = refl

positive : (a : ℤ) → int_lt (pos 0) a ≡ true → pos 1 ≤ℤ a
positive (pos zero) e = absurd cc
positive (pos (suc n)) e = omega (arith, ints)
positive (negsuc n) e = absurd cc

length-kept : {X : Type 0} (p : X → Bool) (xs : List X) → length (filter p xs) ≤ length xs
length-kept p [] = omega arith
length-kept {X} p (x ∷ xs) = by (p x) (length-kept p xs)
  where
    by : (b : Bool) → length (filter p xs) ≤ length xs
        → length (cond b (x ∷ filter p xs) (filter p xs)) ≤ length (x ∷ xs)
    by true l = omega (arith, l)
    by false l = omega (arith, l)

pub few-candidates : (columns : List Column) (point : List Fixed) (terms : List Term)
    → AreTerms (length columns) terms → length (candidates columns point terms) ≤ length columns
few-candidates columns point terms h =
    let a = length-map (filter (may_cover columns) terms) (candidate_of point) in
    let b = length-kept (may_cover columns) terms in
    let c = length-rising (length columns) terms h in
    omega (arith, a, b, c)

raw-near : (point : List Fixed) (j : ℕ) → All (λ (x : Fixed). IsWithin (2 ^ 70) x.raw) point → j
    < length point → IsWithin (2 ^ 70) (raw_at point j)
raw-near point j h l = h j (record { raw = pos 0 }) l

pub are-candidates : (columns : List Column) (point : List Fixed) (terms : List Term)
    → AreTerms (length columns) terms → length point ≡ length columns
    → All (λ (x : Fixed). IsWithin (2 ^ 70) x.raw) point
    → All IsCandidate (candidates columns point terms)
are-candidates columns point terms h w n =
    let kept = filter (may_cover columns) terms in
    let each = All-filter (may_cover columns) (IsTerm (length columns)) terms h.each in
    let pass = filter_passes (may_cover columns) terms in
    All-map IsCandidate (candidate_of point) kept
    (λ k d l.
    let t = each k d l in
    let p = and_parts (int_lt (pos 0) (get_or kept k d).coefficient)
    (is_binary columns (get_or kept k d).column) (pass k d l) in
    let c = t.column in
    record {
      positive = positive (get_or kept k d).coefficient p.0;
      small = t.coefficient;
      near =
          raw-near point (get_or kept k d).column n (omega (arith, w, c));
    })

-- a candidate's coefficient is that of its column, which may stand in a cover
pub record IsOfRow (columns : List Column) (terms : List Term) (c : Candidate) : Type 0 where
  pub coefficient : coefficient_of terms c.column ≡ c.coefficient
  pub positive : pos 1 ≤ℤ c.coefficient
  pub binary : is_binary columns c.column ≡ true

of_row : (columns : List Column) (point : List Fixed) (terms : List Term)
    → AreTerms (length columns) terms → All (IsOfRow columns terms) (candidates columns point terms)
of_row columns point terms h =
    let kept = filter (may_cover columns) terms in
    let P : Term → Type 0 = λ t. coefficient_of terms t.column ≡ t.coefficient in
    let each = All-filter (may_cover columns) P terms
    (λ k d l. coefficient-at terms k d h.rising l) in
    let pass = filter_passes (may_cover columns) terms in
    All-map (IsOfRow columns terms) (candidate_of point) kept
    (λ k d l.
    let p = and_parts (int_lt (pos 0) (get_or kept k d).coefficient)
    (is_binary columns (get_or kept k d).column) (pass k d l) in
    record {
      coefficient = each k d l;
      positive =
          positive (get_or kept k d).coefficient p.0;
      binary = p.1;
    })

-- their columns differ
distinct : (columns : List Column) (point : List Fixed) (terms : List Term)
    → AreTerms (length columns) terms
    → IsDistinct eqb (map column_of (candidates columns point terms))
distinct columns point terms h =
    let kept = filter (may_cover columns) terms in
    let rising = AllPairs-filter (λ (s t : Term). s.column < t.column) (may_cover columns) terms
    h.rising in
    let n = length-map kept (candidate_of point) in
    let m = length-map (map (candidate_of point) kept) column_of in
    let e : (i : ℕ) (d : ℕ) → i < length kept → get_or
    (map column_of (map (candidate_of point) kept)) i d
    ≡ (get_or kept i (record { column = 0; coefficient = pos 0 })).column =
    λ i d l. get_or-map column_of (map (candidate_of point) kept) i
    (record { column = 0; coefficient = pos 0; entry = pos 0 }) d (omega (arith, n, l))
    ∙ ap column_of (get_or-map (candidate_of point) kept i
    (record { column = 0; coefficient = pos 0 })
    (record { column = 0; coefficient = pos 0; entry = pos 0 }) l) in
    IsDistinct-from_AllPairs Decides-eqb (map column_of (candidates columns point terms))
    (λ i j d l q same.
    let r = rising i j (record { column = 0; coefficient = pos 0 }) l (omega (arith, n, m, q)) in
    let a = e i d (omega (arith, n, m, q, l)) in
    let b = e j d (omega (arith, n, m, q)) in
    omega (arith, r, a, b, same))

distinct_front : (k : ℕ) (xs : List ℕ) → IsDistinct eqb xs → IsDistinct eqb (take k xs)
distinct_front k xs h =
    let p = AllPairs-from_IsDistinct Decides-eqb xs h in
    IsDistinct-from_AllPairs Decides-eqb (take k xs)
    (λ i j d l q.
    let n = length-take k xs in
    let m : j < k = omega (arith, n, q) in
    λ same. p i j d l (omega (arith, n, q)) (sym (get_or-take k xs i d (omega (arith, l, m)))
    ∙ same ∙ get_or-take k xs j d m))

pub eqb_flips : (x y : ℕ) → eqb x y ≡ eqb y x
eqb_flips x y = grind (arith, nat_tests)

pub distinct-taken : (columns : List Column) (point : List Fixed) (terms : List Term)
    (order : List Candidate) (k : ℕ) → AreTerms (length columns) terms
    → IsOrderOf (candidates columns point terms) order
    → IsDistinct eqb (map column_of (take k order))
distinct-taken columns point terms order k h o =
    let p = IsPermutation-map column_of (candidates columns point terms) order o.same in
    let d = IsDistinct-IsPermutation eqb eqb_flips
    (map column_of (candidates columns point terms)) (map column_of order) p
    (distinct columns point terms h) in
    subst (λ (xs : List ℕ). IsDistinct eqb xs) (take-map column_of k order)
    (distinct_front k (map column_of order) d)

-- ---- sizes
pub size-here : (order : List Candidate) (left : ℤ) → left <ℤ pos 0 → cover_size left order ≡ Some 0
size-here order (pos n) l = absurd (omega (arith, ints, l))
size-here [] (negsuc n) l = refl
size-here (c ∷ order) (negsuc n) l = refl

not_below : (z : ℤ) → pos 0 ≤ℤ z → int_lt z (pos 0) ≡ false
not_below z l = grind (arith, ints, nat_tests, l)

pub size-next : (c : Candidate) (order : List Candidate) (left : ℤ) → pos 0 ≤ℤ left
    → cover_size left (c ∷ order)
    ≡ option_map (λ k. suc k) (cover_size (left -ℤ c.coefficient) order)
size-next c order left l =
    ap (λ (b : Bool). cond b (Some 0)
    (option_map (λ k. suc k) (cover_size (left -ℤ c.coefficient) order))) (not_below left l)

pub size-end : (left : ℤ) → pos 0 ≤ℤ left → cover_size left [] ≡ None
size-end left l = ap (λ (b : Bool). cond b (Some 0) None) (not_below left l)

pub moved-size : (i : ℕ) (o : Option ℕ)
    → option_map (λ (k : ℕ). i + k) (option_map (λ k. suc k) o)
    ≡ option_map (λ (k : ℕ). (i + 1) + k) o
moved-size i None = refl
moved-size i (Some k) = ap Some (omega arith)

-- those taken are above the room
size-over : (order : List Candidate) (room : ℤ) (k : ℕ) → cover_size room order ≡ Some k
    → (room -ℤ total (λ (c : Candidate). c.coefficient) (take k order)) <ℤ pos 0
size-over [] (pos n) k e = let z = sym (size-end (pos n) (omega (arith, ints))) ∙ e in absurd cc
size-over [] (negsuc n) k e = let z : 0 ≡ k = cc in rw (← z) (omega (arith, ints))
size-over (c ∷ order) (negsuc n) k e = let z : 0 ≡ k = cc in rw (← z) (omega (arith, ints))
size-over (c ∷ order) (pos n) k e =
    by (cover_size (pos n -ℤ c.coefficient) order)
    (λ m f. size-over order (pos n -ℤ c.coefficient) m f)
    (sym (size-next c order (pos n) (omega (arith, ints))) ∙ e)
  where
    by : (o : Option ℕ)
        → ((m : ℕ) → o ≡ Some m
        → ((pos n -ℤ c.coefficient) -ℤ total (λ (c : Candidate). c.coefficient) (take m order)) <ℤ
        pos 0) → option_map (λ k. suc k) o ≡ Some k
        → (pos n -ℤ total (λ (c : Candidate). c.coefficient) (take k (c ∷ order))) <ℤ pos 0
    by None f h = absurd cc
    by (Some m) f h =
        let z : suc m ≡ k = cc in
        let i = f m refl in
        let t = total-cons (λ (c : Candidate). c.coefficient) c (take m order) in
        rw (← z) (omega (arith, ints, i, t))

-- ---- what is accepted
all-fit : (columns : List Column) (terms : List Term) (cover : List ℕ) (n : ℕ)
    → ((k : ℕ) → k < n → fits_at columns terms cover k ≡ true)
    → first_misfit columns terms cover n ≡ None
all-fit columns terms cover zero h = refl
all-fit columns terms cover (suc n) h =
    let m = misfit-more columns terms cover n
    (all-fit columns terms cover n (λ k l. h k (omega (arith, l)))) (h n (omega arith)) in
    let s : n + 1 ≡ suc n = omega arith in
    rw s at m

taken_total : (columns : List Column) (terms : List Term) (taken : List Candidate)
    → All (IsOfRow columns terms) taken → total (coefficient_of terms) (map column_of taken)
    ≡ total (λ (c : Candidate). c.coefficient) taken
taken_total columns terms [] h = refl
taken_total columns terms (c ∷ taken) h =
    let a = total-cons (coefficient_of terms) c.column (map column_of taken) in
    let b = total-cons (λ (c : Candidate). c.coefficient) c taken in
    let i = taken_total columns terms taken (λ k d l. h (suc k) d (omega (arith, l))) in
    let e = (h 0 c (omega arith)).coefficient in
    omega (arith, ints, a, b, i, e)

-- a total over positive coefficients does not depend on the order
sum_of_sizes : (terms : List Term) (xs : List ℕ) → All
    (λ (j : ℕ). pos 0 ≤ℤ coefficient_of terms j) xs → total (coefficient_of terms) xs
    ≡ pos (sum_by (λ j. unsigned_abs (coefficient_of terms j)) xs)
sum_of_sizes terms [] h = refl
sum_of_sizes terms (x ∷ xs) h =
    let t = total-cons (coefficient_of terms) x xs in
    let i = sum_of_sizes terms xs (λ k d l. h (suc k) d (omega (arith, l))) in
    let p = h 0 x (omega arith) in
    let u = sum_by-cons (λ j. unsigned_abs (coefficient_of terms j)) x xs in
    omega (arith, ints, t, i, p, u)

total-IsPermutation : (columns : List Column) (terms : List Term) (taken : List Candidate)
    (cover : List ℕ) → All (IsOfRow columns terms) taken → IsPermutation (map column_of taken) cover
    → listed_sum terms cover ≡ total (coefficient_of terms) (map column_of taken)
total-IsPermutation columns terms taken cover h p =
    let Q : ℕ → Type 0 = λ j. pos 0 ≤ℤ coefficient_of terms j in
    let q = All-map Q column_of taken (λ i d m. let c = h i d m in let z =
    c.coefficient in let y = c.positive in omega (arith, ints, z, y)) in
    let a = sum_of_sizes terms (map column_of taken) q in
    let b = sum_of_sizes terms cover (All-permutation Q (map column_of taken) cover p q) in
    b ∙ ap pos (sum_by-IsPermutation (λ j. unsigned_abs (coefficient_of terms j))
    (map column_of taken) cover p) ∙ sym a

-- the size of a cover that the point breaks
pub record IsBrokenSize (room : Option ℤ) (order : List Candidate) (size : ℕ) : Type 0 where
  pub left : ℤ
  pub exists : room ≡ Some left
  pub is : cover_size left order ≡ Some size

pub broken_is : (room : Option ℤ) (order : List Candidate) (size : ℕ) → broken_size room order
    ≡ Some size → IsBrokenSize room order size
broken_is None order size e = absurd cc
broken_is (Some left) order size e = by (cover_size left order) refl e
  where
    by : (o : Option ℕ) → cover_size left order ≡ o → broken_by order o ≡ Some size
        → IsBrokenSize (Some left) order size
    by None f h = absurd cc
    by (Some k) f h = test (is_broken (take k order)) h
      where
        test : (b : Bool) → cond b (Some k) None ≡ Some size → IsBrokenSize (Some left) order size
        test true g = let z : k ≡ size =
            cc in record { left = left; exists = refl; is = f ∙ ap Some z }
        test false g = absurd cc

pub record HasRoom (columns : List Column) (row : Row) (room : ℤ) : Type 0 where
  pub end : ℤ
  pub exists : row.high ≡ Some end
  pub is : room ≡ end -ℤ least_sum columns row.terms

has_room : (columns : List Column) (row : Row) (room : ℤ) → room_of columns row ≡ Some room
    → HasRoom columns row room
has_room columns row room e = by row.high refl e
  where
    by : (o : Option ℤ) → row.high ≡ o → option_map (λ (u : ℤ). u -ℤ least_sum columns row.terms)
        o ≡ Some room → HasRoom columns row room
    by None f h = absurd cc
    by (Some u) f h = record { end = u; exists = f; is = cc }

-- each column of the cover fits
fits : (columns : List Column) (terms : List Term) (taken : List Candidate) (cover : List ℕ)
    → All (IsOfRow columns terms) taken → IsPermutation (map column_of taken) cover
    → IsStrictlyIncreasing cover
    → (k : ℕ) → k < length cover → fits_at columns terms cover k ≡ true
fits columns terms taken cover h p r k l =
    let Q : ℕ → Type 0 = λ j. (pos 1 ≤ℤ coefficient_of terms j) × (is_binary columns j ≡ true) in
    let q = All-permutation Q (map column_of taken) cover p
    (All-map Q column_of taken (λ i d m. let c =
    h i d m in (rw c.coefficient c.positive, c.binary))) k 0 l in
    fit columns terms cover k (above k l) q.0 q.1
  where
    above : (k : ℕ) → k < length cover → least_at cover k ≤ listed_at cover k
    above zero m = omega arith
    above (suc k) m = let s : k + 1 ≡ suc k = omega arith in let t =
        r k (omega (arith, m)) in omega (arith, s, rw s at t)

slack_negative : (id : ItemId) (cover : List ℕ) (slack : ℤ) → slack <ℤ pos 0
    → by_slack id cover slack ≡ Ok (all_but_one id cover)
slack_negative id cover (pos n) l = absurd (omega (arith, ints, l))
slack_negative id cover (negsuc n) l = refl

covers : (columns : List Column) (point : List Fixed) (row : Row) (cover : List ℕ) (id : ItemId)
    → AreTerms (length columns) row.terms → IsGreedyCover columns point row cover
    → cut_by_slack id cover (slack_below columns row.terms row.high cover)
    ≡ Ok (all_but_one id cover)
covers columns point row cover id h g =
    let terms = row.terms in
    let taken = take g.size g.order in
    let b = broken_is (room_of columns row) g.order g.size g.is_size in
    let u = has_room columns row b.left b.exists in
    let all = All-permutation (IsOfRow columns terms) (candidates columns point terms) g.order
    g.is_order.same (of_row columns point terms h) in
    let each = All-take (IsOfRow columns terms) g.size g.order all in
    let fit = fits columns terms taken cover each g.same g.rising in
    let none = all-fit columns terms cover (length cover) fit in
    let over = size-over g.order b.left g.size b.is in
    let sum = taken_total columns terms taken each in
    let perm = total-IsPermutation columns terms taken cover each g.same in
    let slack = slack_in columns terms u.end cover in
    let e : slack_below columns terms row.high cover ≡ Ok slack =
    ap (λ (o : Option ℤ). slack_below columns terms o cover) u.exists
    ∙ ap (λ (o : Option ℕ). by_misfit o slack) none in
    ap (cut_by_slack id cover) e
    ∙ slack_negative id cover slack (omega (arith, ints, over, sum, perm, u.is))

pub accepted : (p : Program) (point : List Fixed) (i : ℕ) (cover : List ℕ) → IsProgram p → i
    < length p.rows → IsGreedyCover p.columns point (row_at p.rows i) cover → (id : ItemId)
    → cover_of p i cover id ≡ Ok (all_but_one id cover)
accepted p point i cover h l g id =
    let r = h.rows i (record { name = []; terms = []; low = None; high = None }) l in
    covers p.columns point (row_at p.rows i) cover id r.terms g

-- a turn of the loop that takes candidates
pub size-step : (order : List Candidate) (room left : ℤ) (i : ℕ) (d : Candidate) → i
    < length order → pos 0 ≤ℤ left → cover_size room order
    ≡ option_map (λ (k : ℕ). i + k) (cover_size left (drop i order))
    → cover_size room order ≡ option_map (λ (k : ℕ). (i + 1) + k)
    (cover_size (left -ℤ (get_or order i d).coefficient) (drop (i + 1) order))
size-step order room left i d l p e =
    e ∙ ap (λ (cs : List Candidate). option_map (λ (k : ℕ). i + k) (cover_size left cs))
    (drop_more order i d l)
    ∙ ap (λ (o : Option ℕ). option_map (λ (k : ℕ). i + k) o)
    (size-next (get_or order i d) (drop (i + 1) order) left p)
    ∙ moved-size i (cover_size (left -ℤ (get_or order i d).coefficient) (drop (i + 1) order))

-- the order by the greater entry and then the lesser column, as a sort by key compares
by_tests : (a b c d : Bool) → is_lt (ordering_then (cond a Less (cond b Greater Equal))
    (cond c Less (cond d Equal Greater))) ≡ (a || (is_eq (cond b Less (cond a Greater Equal)) && c))
by_tests true b c d = refl
by_tests false true c d = refl
by_tests false false true d = refl
by_tests false false false true = refl
by_tests false false false false = refl

pub comes_before-cmp : (a b : Candidate) → comes_before a b
    ≡ is_lt (ordering_then (int_cmp b.entry a.entry) (nat_cmp a.column b.column))
comes_before-cmp a b =
    sym (by_tests (int_lt b.entry a.entry) (int_lt a.entry b.entry) (nat_lt a.column b.column)
    (eqb a.column b.column))
