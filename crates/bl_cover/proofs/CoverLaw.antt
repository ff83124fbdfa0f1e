-- At most all but one of a cover's columns are 1.
use Rattle.std.proofs.Common.{◌≡◌, ℕ, zero, suc, ◌<◌, ◌^◌, ℤ, pos, ◌+ℤ◌, ◌-ℤ◌, ◌*ℤ◌, ◌≤ℤ◌, ◌<ℤ◌}
use Rattle.std.proofs.Common.{arith, List, [], ◌∷◌, length, get_or, map, refl, sym, ◌∙◌, ap}
use Rattle.std.proofs.Common.{Option, Some, None, Ok, subst, ◌⊎◌, ⊎_elim, inl, inr}
use Rattle.std.specs.Int.{int_min}
use Rattle.std.proofs.lemmas.Int.{ints, clamps}
use Rattle.std.proofs.lemmas.Bool.{cases_lt}
use Rattle.std.proofs.lemmas.List.{get_or-map, length-map, get_or_default}
use Rattle.std.proofs.Math.IntN.{zero-*ℤ}
use native.Mathlib.Decide.{ℕ_discrete}
use Rattle.bl_num.specs.Exact.{at}
use Rattle.bl_num.proofs.Ring.{*ℤ_pos1}
use Rattle.bl_num.proofs.SumLemmas.{sum_below-le, sum_below-add}
use Rattle.bl_problem.specs.Sums.{IsWithin, total, sum_of_terms}
use Rattle.bl_problem.specs.Rows.{AreTerms, AreEnds, MeetsHigh, coefficient_of}
use Rattle.bl_problem.specs.Points.{InBox, IsFeasible, lows_of, highs_of}
use Rattle.bl_problem.specs.Program.{Program, IsProgram, IsRow}
use Rattle.bl_problem.specs.declared.problem.Row.{Row}
use Rattle.bl_problem.specs.declared.problem.Column.{Column}
use Rattle.bl_problem.specs.declared.problem.Term.{Term}
use Rattle.bl_problem.proofs.Trivial.{min_product, box-entry_any}
use Rattle.bl_bound.proofs.Terms.{total-cons, spread, dense}
use Rattle.bl_cover.specs.Covers.{least_sum, listed_at, first_misfit, listed_sum, cover_term}
use Rattle.bl_cover.specs.Covers.{slack_in, slack_below, by_misfit, row_at}
use Rattle.bl_cover.proofs.Places.{Fits, fitting, fits-each}

-- ---- the cut's terms
rises : (columns : List Column) (terms : List Term) (listed : List ℕ) (n i j : ℕ)
    → ((k : ℕ) → k < n → Fits columns terms listed k) → i < j → j < n → listed_at listed i
    < listed_at listed j
rises columns terms listed n i zero h l m = absurd (omega arith)
rises columns terms listed n i (suc j) h l m =
    let f = (h (suc j) m).above in
    ⊎_elim (λ q. let r = rises columns terms listed n i j h q (omega arith) in omega
    (arith, f, r)) (λ q. let z : i ≡ j =
    omega (arith, l, q) in omega (arith, f, ap (listed_at listed) z)) (cases_lt i j)

-- a column that has the bounds 0 and 1 is there
pub within : (columns : List Column) (j : ℕ) → at (highs_of columns) j ≡ pos 1 → j < length columns
within [] j e = absurd (omega (arith, ints, e))
within (c ∷ columns) zero e = omega arith
within (c ∷ columns) (suc j) e = let i = within columns j e in omega (arith, i)

pub cover-terms : (columns : List Column) (terms : List Term) (listed : List ℕ)
    → first_misfit columns terms listed (length listed) ≡ None
    → AreTerms (length columns) (map cover_term listed)
cover-terms columns terms listed e =
    let h = λ (k : ℕ) (l : k < length listed). fitting columns terms listed k
    (fits-each columns terms listed (length listed) k e l) in
    let n = length-map listed cover_term in
    record {
      each = λ k d l.
          let m : k < length listed = omega (arith, n, l) in
          rw (get_or-map cover_term listed k 0 d m)
          (record {
            column = within columns (listed_at listed k) (h k m).high;
            coefficient =
                omega arith;
            nonzero = λ z. cc;
          });
      rising = λ i j d p q.
          let m : j < length listed = omega (arith, n, q) in
          rw (
            get_or-map cover_term listed i 0 d (omega (arith, m, p)),
            get_or-map cover_term
                listed j 0 d m,
          ) (rises columns terms listed (length listed) i j h p m);
    }

pub record Covers (listed : List ℕ) (j : ℕ) : Type 0 where
  pub place : ℕ
  pub below : place < length listed
  pub is : listed_at listed place ≡ j
  pub coefficient : coefficient_of (map cover_term listed) j ≡ pos 1

here : (i : ℕ) (ts : List Term) (j : ℕ) → i ≡ j → coefficient_of (cover_term i ∷ ts) j ≡ pos 1
here i ts j e = grind (arith, Rattle.std.proofs.lemmas.Bool.Decides.nat_tests)

there : (i : ℕ) (ts : List Term) (j : ℕ) → ¬ (i ≡ j) → coefficient_of (cover_term i ∷ ts) j
    ≡ coefficient_of ts j
there i ts j n = grind (arith, Rattle.std.proofs.lemmas.Bool.Decides.nat_tests)

-- a column's coefficient in the cut: 0, or 1 where it is listed
covering : (listed : List ℕ) (j : ℕ) → (coefficient_of (map cover_term listed) j ≡ pos 0)
    ⊎ Covers listed j
covering [] j = inl refl
covering (i ∷ listed) j = elim (ℕ_discrete i j) [
  | yes e ↦ inr (record {
    place = 0;
    below = omega arith;
    is = e;
    coefficient =
        here i (map cover_term listed) j e;
  })
  | no d ↦ ⊎_elim
      (λ z. inl (there i (map cover_term listed) j d ∙ z))
      (λ c. inr (record {
        place = suc c.place;
        below = omega (arith, c.below);
        is =
            c.is;
        coefficient = there i (map cover_term listed) j d ∙ c.coefficient;
      }))
      (covering listed j)
]

-- ---- the sums
listed-total : (terms : List Term) (listed : List ℕ)
    → total (λ (t : Term). t.coefficient *ℤ coefficient_of terms t.column) (map cover_term listed)
    ≡ listed_sum terms listed
listed-total terms [] = refl
listed-total terms (j ∷ listed) =
    let f = λ (t : Term). t.coefficient *ℤ coefficient_of terms t.column in
    let a = total-cons f (cover_term j) (map cover_term listed) in
    let b = total-cons (coefficient_of terms) j listed in
    let i = listed-total terms listed in
    let m = *ℤ_pos1 (coefficient_of terms j) in
    omega (arith, ints, a, b, i, m)

-- numbers that are 0 or 1 are all 1, or their sum is less than their number
ones : (x : List ℤ) (listed : List ℕ) → ((k : ℕ) → k < length listed
    → (pos 0 ≤ℤ at x (listed_at listed k)) × (at x (listed_at listed k) ≤ℤ pos 1)) →
    (sum_of_terms (map cover_term listed) x ≤ℤ (pos (length listed) -ℤ pos 1))
    ⊎ ((sum_of_terms (map cover_term listed) x ≤ℤ pos (length listed))
    × ((k : ℕ) → k < length listed → at x (listed_at listed k) ≡ pos 1))
ones x [] h = inr (omega (arith, ints), λ k l. absurd (omega arith))
ones x (j ∷ listed) h =
    let f = λ (t : Term). t.coefficient *ℤ at x t.column in
    let a : sum_of_terms (map cover_term (j ∷ listed)) x
    ≡ pos 1 *ℤ at x j +ℤ sum_of_terms (map cover_term listed) x =
    total-cons f (cover_term j) (map cover_term listed) in
    let m = *ℤ_pos1 (at x j) in
    let b = h 0 (omega arith) in
    ⊎_elim
    (λ s. inl (omega (arith, ints, a, m, b.1, s)))
    (λ s. first j listed a m b s)
    (ones x listed (λ k l. h (suc k) (omega arith)))
  where
    first : (j : ℕ) (listed : List ℕ) → sum_of_terms (map cover_term (j ∷ listed)) x
        ≡ pos 1 *ℤ at x j +ℤ sum_of_terms (map cover_term listed) x → pos 1 *ℤ at x j ≡ at x j
        → (pos 0 ≤ℤ at x j) × (at x j ≤ℤ pos 1)
        → (sum_of_terms (map cover_term listed) x ≤ℤ pos (length listed))
        × ((k : ℕ) → k < length listed → at x (listed_at listed k) ≡ pos 1)
        → (sum_of_terms (map cover_term (j ∷ listed)) x ≤ℤ (pos (length (j ∷ listed)) -ℤ pos 1))
        ⊎ ((sum_of_terms (map cover_term (j ∷ listed)) x ≤ℤ pos (length (j ∷ listed)))
        × ((k : ℕ) → k < length (j ∷ listed) → at x (listed_at (j ∷ listed) k) ≡ pos 1))
    first j listed a m b s = Rattle.std.proofs.lemmas.Int.by_lt_z (at x j) (pos 1)
        (λ l. inl (omega (arith, ints, a, m, s.0, l)))
        (λ l. inr (
          omega (arith, ints, a, m, b.1, s.0),
          λ k q. whole k q (omega (arith, ints, l, b.1)) s.1,
        ))
      where
        whole : (k : ℕ) → k < length (j ∷ listed) → at x j ≡ pos 1
            → ((k : ℕ) → k < length listed → at x (listed_at listed k) ≡ pos 1)
            → at x (listed_at (j ∷ listed) k) ≡ pos 1
        whole zero q e t = e
        whole (suc k) q e t = t k (omega arith)

-- ---- the law
least_at_zero : (l h : ℤ) → int_min (pos 0 *ℤ l) (pos 0 *ℤ h) ≡ pos 0
least_at_zero l h = let a = zero-*ℤ l in let b = zero-*ℤ h in omega (arith, ints, clamps, a, b)

-- a listed column at 1: its coefficient is above its least by the coefficient
full : (a l h c x : ℤ) → pos 1 ≤ℤ a → l ≡ pos 0 → h ≡ pos 1 → c ≡ pos 1 → x ≡ pos 1
    → (int_min (a *ℤ l) (a *ℤ h) +ℤ c *ℤ a) ≤ℤ (a *ℤ x)
full a l h c x p e f g k =
    let m : (int_min (a *ℤ pos 0) (a *ℤ pos 1) +ℤ pos 1 *ℤ a) ≤ℤ (a *ℤ pos 1) =
    omega (arith, ints, clamps, p) in
    rw (e, f, g, k) m

-- any other
other : (a l h c x : ℤ) → l ≤ℤ x → x ≤ℤ h → c ≡ pos 0 → (int_min (a *ℤ l) (a *ℤ h) +ℤ c *ℤ a) ≤ℤ
    (a *ℤ x)
other a l h c x p q e =
    let m = min_product a l h x p q in
    let z = zero-*ℤ a in
    rw e (omega (arith, ints, m, z))

pub cover-holds : (columns : List Column) (terms : List Term) (listed : List ℕ) (high : ℤ)
    (x : List ℤ) → AreTerms (length columns) terms → InBox (lows_of columns) (highs_of columns) x
    → first_misfit columns terms listed (length listed) ≡ None
    → ((high -ℤ least_sum columns terms) -ℤ listed_sum terms listed) <ℤ pos 0
    → sum_of_terms terms x ≤ℤ high
    → sum_of_terms (map cover_term listed) x ≤ℤ (pos (length listed) -ℤ pos 1)
cover-holds columns terms listed high x t b e s r =
    let n = length columns in
    let lo = λ (j : ℕ). at (lows_of columns) j in
    let hi = λ (j : ℕ). at (highs_of columns) j in
    let cs = map cover_term listed in
    let f = λ (k : ℕ) (l : k < length listed). fitting columns terms listed k
    (fits-each columns terms listed (length listed) k e l) in
    let box = λ (j : ℕ). box-entry_any (lows_of columns) (highs_of columns) x j b in
    ⊎_elim (λ o. o)
    (λ o.
    let least = spread n terms (λ j a. int_min (a *ℤ lo j) (a *ℤ hi j)) t
    (λ j. least_at_zero (lo j) (hi j)) in
    let taken = spread n cs (λ j a. a *ℤ coefficient_of terms j)
    (cover-terms columns terms listed e) (λ j. zero-*ℤ (coefficient_of terms j))
    ∙ listed-total terms listed in
    let both =
    sum_below-add n (λ j. int_min (coefficient_of terms j *ℤ lo j)
    (coefficient_of terms j *ℤ hi j)) (λ j. coefficient_of cs j *ℤ coefficient_of terms j) in
    let whole =
    sum_below-le n (λ j. int_min (coefficient_of terms j *ℤ lo j)
    (coefficient_of terms j *ℤ hi j) +ℤ coefficient_of cs j *ℤ coefficient_of terms j)
    (λ j. coefficient_of terms j *ℤ at x j)
    (λ j l. ⊎_elim
    (λ z. other (coefficient_of terms j) (lo j) (hi j) (coefficient_of cs j) (at x j) (box j).0
    (box j).1 z)
    (λ c. let g = f c.place c.below in let i = c.is in
    full (coefficient_of terms j) (lo j) (hi j) (coefficient_of cs j) (at x j)
    (rw i at g.positive) (rw i at g.low) (rw i at g.high) c.coefficient
    (rw i at (o.1 c.place c.below)))
    (covering listed j)) in
    let sum = dense n terms x t in
    absurd (omega (arith, ints, least, taken, both, whole, sum, s, r)))
    (ones x listed (λ k l.
    let g = f k l in let i = box (listed_at listed k) in
    (omega (arith, ints, g.low, i.0), omega (arith, ints, g.high, i.1))))

-- a row with a cover: its slack, which is below 0
pub record HasCover (columns : List Column) (terms : List Term) (high : Option ℤ)
    (listed : List ℕ) (slack : ℤ) : Type 0 where
  pub fits : first_misfit columns terms listed (length listed) ≡ None
  pub end : ℤ
  pub exists : high ≡ Some end
  pub is : slack ≡ slack_in columns terms end listed

pub has_cover : (columns : List Column) (terms : List Term) (high : Option ℤ) (listed : List ℕ)
    (slack : ℤ) → slack_below columns terms high listed ≡ Ok slack
    → HasCover columns terms high listed slack
has_cover columns terms None listed slack e = absurd cc
has_cover columns terms (Some u) listed slack e =
    by (first_misfit columns terms listed (length listed)) refl e
  where
    by : (o : Option ℕ) → first_misfit columns terms listed (length listed) ≡ o
        → by_misfit o (slack_in columns terms u listed) ≡ Ok slack
        → HasCover columns terms (Some u) listed slack
    by (Some k) m h = absurd cc
    by None m h = record { fits = m; end = u; exists = refl; is = cc }

pub cover-valid : (p : Program) (i : ℕ) (listed : List ℕ) (slack : ℤ) (x : List ℤ) → IsProgram p
    → i < length p.rows → slack_below p.columns (row_at p.rows i).terms (row_at p.rows i).high
    listed ≡ Ok slack → slack <ℤ pos 0
    → IsFeasible p x → sum_of_terms (map cover_term listed) x ≤ℤ (pos (length listed) -ℤ pos 1)
cover-valid p i listed slack x g l e s f =
    let d : Row = record { name = []; terms = []; low = None; high = None } in
    let c = has_cover p.columns (row_at p.rows i).terms (row_at p.rows i).high listed slack e in
    let m = f.rows i d l in
    let r : IsRow (length p.columns) (row_at p.rows i) = g.rows i d l in
    let h : MeetsHigh (Some c.end) (sum_of_terms (row_at p.rows i).terms x) =
    subst (λ (o : Option ℤ). MeetsHigh o (sum_of_terms (row_at p.rows i).terms x)) c.exists
    m.high in
    cover-holds p.columns (row_at p.rows i).terms listed c.end x r.terms f.box c.fits
    (rw c.is at s) h

pub high-near : (low high : Option ℤ) (u : ℤ) → AreEnds low high → high ≡ Some u
    → IsWithin (10 ^ 24) u
high-near None None u h e = absurd h
high-near (Some l) None u h e = absurd cc
high-near None (Some v) u h e = let z : v ≡ u = cc in rw z at h
high-near (Some l) (Some v) u h e = let z : v ≡ u = cc in rw z at h.1

pub row_is : (rows : List Row) (i : ℕ) (r : Row) → r ≡ get_or rows i r → i < length rows → r
    ≡ row_at rows i
row_is rows i r e l = e ∙ get_or_default rows i r
    (record { name = []; terms = []; low = None; high = None }) l

pub slack_is : (columns : List Column) (terms : List Term) (high : Option ℤ) (listed : List ℕ)
    (u least sum slack : ℤ) → high ≡ Some u → first_misfit columns terms listed (length listed)
    ≡ None
    → least ≡ least_sum columns terms → sum ≡ listed_sum terms listed → slack
    ≡ (u -ℤ least) -ℤ sum → slack_below columns terms high listed ≡ Ok slack
slack_is columns terms high listed u least sum slack e m f g h =
    ap (λ (o : Option ℤ). slack_below columns terms o listed) e ∙ ap
    (λ (o : Option ℕ). by_misfit o (slack_in columns terms u listed)) m
    ∙ ap Ok (sym (h ∙ ap (λ (z : ℤ). (u -ℤ z) -ℤ sum) f
    ∙ ap (λ (z : ℤ). (u -ℤ least_sum columns terms) -ℤ z) g))
