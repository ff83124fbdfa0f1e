-- A cursor that goes through the terms of a row.
use Rattle.std.proofs.Common.{◌≡◌, ◌≢◌, ◌<◌, ◌≤◌, ◌+◌, ◌∙◌, ◌==◌, ℕ, pos, Bool, true, false, List}
use Rattle.std.proofs.Common.{[], ◌∷◌, ap, sym, refl, arith, All, get_or, set, drop, length}
use Rattle.std.proofs.Common.{subst, inl, inr}
use Rattle.std.specs.Prelude.{AllPairs}
use Rattle.std.proofs.lemmas.Bool.{cases_lt, eq-eqb, eqb-true, ne_eqb}
use Rattle.std.proofs.lemmas.List.{drop_all, drop_more, get_or-set_other, get_or-set_same}
use Rattle.std.proofs.lemmas.List.Elements.{All-cons, All-drop, All-head, All-nil, All-weaker}
use Rattle.bl_problem.specs.declared.problem.Term.{Term}
use Rattle.bl_problem.specs.declared.problem.Row.{Row}
use Rattle.bl_problem.specs.Rows.{AreTerms, IsTerm, coefficient_of}
use Rattle.bl_write.specs.Cursors.{IsAt}
use Rattle.bl_write.proofs.Names.{pairs_head, pairs_tail}
use Rattle.bl_write.proofs.Terms.{absent, behind}

abbrev Rises : Term → Term → Type 0
Rises s t = s.column < t.column

no_term : Term
no_term = record { column = 0; coefficient = pos 0 }

-- a first term of another column stands behind column j, and so do all others
all_behind : (t : Term) (ts : List Term) (j : ℕ) → (t.column == j) ≡ false
    → All (λ u. j ≤ u.column) (t ∷ ts) → AllPairs Rises (t ∷ ts) → All (λ u. j < u.column) (t ∷ ts)
all_behind t ts j e ahead rising =
    let l = All-head (λ (u : Term). j ≤ u.column) t ts ahead in
    let past : j < t.column = let m : t.column ≢ j =
    (λ q. (let g = eq-eqb t.column j q in absurd cc)) in omega (arith, l, m) in
    All-cons (λ (u : Term). j < u.column) t ts past
    (All-weaker (Rises t) (λ (u : Term). j < u.column) (λ u r. omega (arith, r, past)) ts
    (pairs_head Rises t ts rising))

-- what stands from the cursor on
record Rest (terms : List Term) (cursor j : ℕ) (rest : List Term) : Type 0 where
  is : drop cursor terms ≡ rest
  value : coefficient_of terms j ≡ coefficient_of rest j
  left : (i : ℕ) → j ≤ i → coefficient_of terms i ≡ coefficient_of rest i
  ahead : All (λ u. j ≤ u.column) rest
  rising : AllPairs Rises rest

rest_at : (terms : List Term) (cursor j : ℕ) (rest : List Term) → drop cursor terms ≡ rest
    → IsAt terms cursor j → Rest terms cursor j rest
rest_at terms cursor j rest e at =
    record {
      is = e;
      value = at.left j (omega arith) ∙ ap (λ ts. coefficient_of ts j) e;
      left = λ i l. at.left i l ∙ ap (λ ts. coefficient_of ts i) e;
      ahead = subst (All (λ u. j ≤ u.column)) e at.ahead;
      rising = subst (AllPairs Rises) e at.rising;
    }

-- the term at the cursor is of another column
pub other_at : (terms : List Term) (cursor j : ℕ) (t : Term) → IsAt terms cursor j → cursor
    < length terms → t ≡ get_or terms cursor t → t.column ≢ j → pos 0 ≡ coefficient_of terms j
other_at terms cursor j t at lt is other =
    let rest = drop (cursor + 1) terms in
    let e = drop_more terms cursor t lt ∙ ap (λ u. u ∷ rest) (sym is) in
    let r = rest_at terms cursor j (t ∷ rest) e at in
    sym (r.value ∙ absent (t ∷ rest) j
    (all_behind t rest j (not_here t.column j other) r.ahead r.rising))
  where
    not_here : (a b : ℕ) → a ≢ b → (a == b) ≡ false
    not_here a b n = ne_eqb a b n

-- where the coefficient is zero the cursor stays
pub at_stays : (n : ℕ) (terms : List Term) (cursor j : ℕ) → All (IsTerm n) terms
    → IsAt terms cursor j → coefficient_of terms j ≡ pos 0 → IsAt terms cursor (j + 1)
at_stays n terms cursor j each at zero = elim (cases_lt cursor (length terms)) [
  | inl lt ↦ here lt
  | inr past ↦ none past
]
  where
    none : length terms ≤ cursor → IsAt terms cursor (j + 1)
    none past = record {
      few = let f = at.few in omega (arith, f);
      left = λ i l. at.left i (omega (arith, l));
      ahead = subst (All (λ u. j + 1 ≤ u.column)) (sym (drop_all cursor terms past))
          (All-nil (λ u. j + 1 ≤ u.column));
      rising = at.rising;
    }

    here : cursor < length terms → IsAt terms cursor (j + 1)
    here lt =
        let t = get_or terms cursor no_term in
        let rest = drop (cursor + 1) terms in
        let r = rest_at terms cursor j (t ∷ rest) (drop_more terms cursor no_term lt) at in
        by t rest r (t.column == j) refl
      where
        by : (t : Term) (rest : List Term) → Rest terms cursor j (t ∷ rest) → (b : Bool)
            → (t.column == j) ≡ b → IsAt terms cursor (j + 1)
        by t rest r true e =
            let value : coefficient_of (t ∷ rest) j ≡ t.coefficient = rw e refl in
            let some =
            (All-head (IsTerm n) t rest (subst (All (IsTerm n)) r.is
            (All-drop (IsTerm n) cursor terms each))).nonzero in
            absurd (some (sym value ∙ sym r.value ∙ zero))
        by t rest r false e = record {
          few = let f = at.few in omega (arith, f);
          left = λ i l. at.left i (omega (arith, l));
          ahead = subst (All (λ u. j + 1 ≤ u.column)) (sym r.is)
              (All-weaker (λ (u : Term). j < u.column) (λ (u : Term). j + 1 ≤ u.column)
              (λ u l. omega (arith, l)) (t ∷ rest) (all_behind t rest j e r.ahead r.rising));
          rising = at.rising;
        }

-- where it is not zero its term stands at the cursor, which goes on
pub record Moves (terms : List Term) (cursor j : ℕ) : Type 0 where
  pub within : cursor < length terms
  pub next : IsAt terms (cursor + 1) (j + 1)

pub at_moves : (terms : List Term) (cursor j : ℕ) → IsAt terms cursor j
    → coefficient_of terms j ≢ pos 0 → Moves terms cursor j
at_moves terms cursor j at some = elim (cases_lt cursor (length terms)) [
  | inl lt ↦ here lt
  | inr past ↦ absurd (some ((rest_at terms cursor j [] (drop_all cursor terms past) at).value))
]
  where
    here : cursor < length terms → Moves terms cursor j
    here lt =
        let t = get_or terms cursor no_term in
        by t lt (rest_at terms cursor j (t ∷ drop (cursor + 1) terms)
        (drop_more terms cursor no_term lt) at) (t.column == j) refl
      where
        by : (t : Term) → cursor < length terms
            → Rest terms cursor j (t ∷ drop (cursor + 1) terms) → (b : Bool) → (t.column == j) ≡ b
            → Moves terms cursor j
        by t lt r true e =
            let rest = drop (cursor + 1) terms in
            let is : t.column ≡ j = eqb-true t.column j e in
            record {
              within = lt;
              next = record {
                few = let f = at.few in omega (arith, f);
                left = λ i l. r.left i (omega (arith, l)) ∙ behind t rest i (omega (arith, l, is));
                ahead = All-weaker (Rises t) (λ (u : Term). j + 1 ≤ u.column)
                    (λ u l. omega (arith, l, is)) rest (pairs_head Rises t rest r.rising);
                rising = pairs_tail Rises t rest r.rising;
              };
            }
        by t lt r false e =
            absurd (some (r.value ∙ absent (t ∷ drop (cursor + 1) terms) j
            (all_behind t (drop (cursor + 1) terms) j e r.ahead r.rising)))

-- at first
pub at_start : (n : ℕ) (terms : List Term) → AreTerms n terms → IsAt terms 0 0
at_start n terms are = record {
  few = omega arith;
  left = λ i l. refl;
  ahead =
      λ k d lt. omega arith;
  rising = are.rising;
}

-- ---- the cursors of all rows

module _ (rows : List Row) (cursors : List ℕ) (i j next : ℕ)
    (as_many : length cursors ≡ length rows) (within : i < length rows) where
  -- up to row i they have gone on
  pub gone_on : ((r : Row) → IsAt (get_or rows i r).terms next (j + 1))
      → ((k : ℕ) (r : Row) → k < i → k < length rows
      → IsAt (get_or rows k r).terms (get_or cursors k 0) (j + 1))
      → (k : ℕ) (r : Row) → k < i + 1 → k < length rows
      → IsAt (get_or rows k r).terms (get_or (set cursors i next) k 0) (j + 1)
  gone_on here before k r l lt = elim (cases_lt k i) [
    | inl less ↦ subst (λ n. IsAt (get_or rows k r).terms n (j + 1))
        (sym (get_or-set_other cursors i k next 0 (λ e. omega (arith, less, e))))
        (before k r less lt)
    | inr le ↦
        let e : k ≡ i = omega (arith, l, le) in
        subst (λ m. IsAt (get_or rows m r).terms (get_or (set cursors i next) m 0) (j + 1)) (sym e)
        (subst (λ n. IsAt (get_or rows i r).terms n (j + 1))
        (sym (get_or-set_same cursors i next 0 (omega (arith, as_many, within)))) (here r))
  ]

  -- behind row i they stand as before
  pub not_yet : ((k : ℕ) (r : Row) → i ≤ k → k < length rows
      → IsAt (get_or rows k r).terms (get_or cursors k 0) j)
      → (k : ℕ) (r : Row) → i + 1 ≤ k → k < length rows
      → IsAt (get_or rows k r).terms (get_or (set cursors i next) k 0) j
  not_yet after k r l lt =
      subst (λ n. IsAt (get_or rows k r).terms n j)
      (sym (get_or-set_other cursors i k next 0 (λ e. omega (arith, l, e))))
      (after k r (omega (arith, l)) lt)
