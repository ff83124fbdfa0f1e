-- A generated problem is a problem.
use Rattle.std.proofs.Common.{◌≡◌, ◌≢◌, ◌<◌, ◌≤◌, ◌+◌, ◌*◌, ◌/◌, ◌%◌, ◌^◌, ◌∙◌, ◌==◌, ℕ, Bool}
use Rattle.std.proofs.Common.{not, true, false, List, [], ◌∷◌, map, length, ap, sym, refl, arith}
use Rattle.std.proofs.Common.{zero, suc, pos, subst, codes}
use Rattle.std.specs.Prelude.{filter, All, AllPairs, neg_ℤ, unsigned_abs, slice_index_or}
use Rattle.std.specs.List.{range_with_len}
use Rattle.std.proofs.lemmas.List.FromFn.{get_or-map-range_with_len, length-map-range_with_len}
use Rattle.bl_problem.specs.Program.{IsColumn, IsName, IsProgram, IsRow, IsRowName, IsVisible}
use Rattle.bl_problem.specs.declared.problem.Column.{Column}
use Rattle.bl_problem.specs.declared.problem.Row.{Row}
use Rattle.bl_problem.specs.declared.problem.Term.{Term}
use Rattle.bl_problem.specs.declared.problem.Sense.TheVariants.{Min}
use Rattle.bl_problem.specs.Rows.{AreTerms, IsTerm}
use Rattle.std.proofs.lemmas.Bool.{eq-eqb, true≢false}
use Rattle.bl_gen.specs.Made.{coefficient, column, draw, made, term, numbered, row_after, row_sum}
use Rattle.bl_gen.specs.Made.{row_terms, state}
use Rattle.bl_gen.proofs.Steps.{sum_more}

digit_visible : (x : ℕ) → 48 ≤ x → IsVisible x
digit_visible x at = record {
  space = λ e. omega arith;
  tab = λ e. omega arith;
  return =
      λ e. omega arith;
  feed = λ e. omega arith;
}

letters : (a b c d e : ℕ) → 48 ≤ a → 48 ≤ b → 48 ≤ c → 48 ≤ d → 48 ≤ e
    → All IsVisible (a ∷ b ∷ c ∷ d ∷ e ∷ [])
letters a b c d e ha hb hc hd he zero x k_in = digit_visible a ha
letters a b c d e ha hb hc hd he (suc zero) x k_in = digit_visible b hb
letters a b c d e ha hb hc hd he (suc (suc zero)) x k_in = digit_visible c hc
letters a b c d e ha hb hc hd he (suc (suc (suc zero))) x k_in = digit_visible d hd
letters a b c d e ha hb hc hd he (suc (suc (suc (suc zero)))) x k_in = digit_visible e he
letters a b c d e ha hb hc hd he (suc (suc (suc (suc (suc k))))) x k_in = absurd (omega arith)

numbered_name : (letter n : ℕ) → 48 ≤ letter → IsName (numbered letter n)
numbered_name letter n at = record {
  some =
      λ e. cc;
  visible = letters _ _ _ _ _ at (omega arith) (omega arith) (omega arith)
      (omega arith);
}

same_at : (k : ℕ) (xs ys : List ℕ) → xs ≡ ys → slice_index_or xs k 0 ≡ slice_index_or ys k 0
same_at k xs ys e = ap (λ (zs : List ℕ). slice_index_or zs k 0) e

numbered_differ : (letter n m : ℕ) → n < 10000 → m < 10000 → numbered letter n ≡ numbered letter m
    → n ≡ m
numbered_differ letter n m n_in m_in e =
    let thousands : 48 + n / 1000 % 10 ≡ 48 + m / 1000 % 10 = same_at 1 _ _ e in
    let hundreds : 48 + n / 100 % 10 ≡ 48 + m / 100 % 10 = same_at 2 _ _ e in
    let tens : 48 + n / 10 % 10 ≡ 48 + m / 10 % 10 = same_at 3 _ _ e in
    let ones : 48 + n % 10 ≡ 48 + m % 10 = same_at 4 _ _ e in
    omega arith

module _ {X : Type 0} (P : X → Type 0) (f : ℕ → X) (n : ℕ) where
  pub all_made : ((k : ℕ) → k < n → P (f k)) → All P (map f (range_with_len 0 n))
  all_made each k d k_in =
      let inside : k < n = omega (arith, length-map-range_with_len f 0 n) in
      subst P (sym (get_or-map-range_with_len f 0 n k k d inside (omega arith))) (each k inside)

module _ {X : Type 0} (R : X → X → Type 0) (f : ℕ → X) (n : ℕ) where
  pub pairs_made : ((i j : ℕ) → i < j → j < n → R (f i) (f j))
      → AllPairs R (map f (range_with_len 0 n))
  pairs_made each i j d i_lt j_in =
      let inside : j < n = omega (arith, length-map-range_with_len f 0 n) in
      subst (λ x. R x (slice_index_or (map f (range_with_len 0 n)) j d))
      (sym (get_or-map-range_with_len f 0 n i i d (omega arith) (omega arith)))
      (subst (λ x. R (f i) x) (sym (get_or-map-range_with_len f 0 n j j d inside (omega arith)))
      (each i j i_lt inside))

abs_negative : (n : ℕ) → unsigned_abs (neg_ℤ (pos n)) ≡ n
abs_negative zero = refl
abs_negative (suc n) = refl

column_fits : (s j n : ℕ) → j < n → n ≤ 1000 → IsColumn (column s j)
column_fits s j n inside few = record {
  name = numbered_name 67 (j + 1) (omega arith);
  low = omega arith;
  high = omega arith;
  cost = rw (abs_negative (1 + draw s (j + 1) 100)) (omega arith);
}

-- ---- lists

all_none : {X : Type 0} (P : X → Type 0) → All P []
all_none P k d k_in = absurd (omega arith)

all_one_more : {X : Type 0} (P : X → Type 0) (x : X) (xs : List X) → P x → All P xs → All P (x ∷ xs)
all_one_more P x xs here rest zero d k_in = here
all_one_more P x xs here rest (suc k) d k_in = rest k d (omega arith)

pairs_none : {X : Type 0} (R : X → X → Type 0) → AllPairs R []
pairs_none R i j d i_lt j_in = absurd (omega arith)

pairs_one_more : {X : Type 0} (R : X → X → Type 0) (x : X) (xs : List X) → All (R x) xs
    → AllPairs R xs → AllPairs R (x ∷ xs)
pairs_one_more R x xs here rest i zero d i_lt j_in = absurd (omega arith)
pairs_one_more R x xs here rest zero (suc j) d i_lt j_in = here j d (omega arith)
pairs_one_more R x xs here rest (suc i) (suc j) d i_lt j_in = rest i j d (omega arith) (omega arith)

all_like : {X : Type 0} (P Q : X → Type 0) (xs : List X) → All P xs → ((x : X) → P x → Q x)
    → All Q xs
all_like P Q xs all like k d k_in = like _ (all k d k_in)

-- ---- terms

abbrev kept : ℕ → ℕ → ℕ → List Term
kept s a m = map (term s) (filter (λ j. not (coefficient s j == 0)) (range_with_len a m))

abbrev IsKeptTerm : ℕ → ℕ → ℕ → Term → Type 0
IsKeptTerm s a m t = (a ≤ t.column) × (t.column < a + m)
    × (t.coefficient ≡ pos (coefficient s t.column)) × (coefficient s t.column ≢ 0)

kept_step : (s a m : ℕ) (b : Bool) → (coefficient s a == 0) ≡ b
    → All (IsKeptTerm s (a + 1) m) (kept s (a + 1) m)
    → All (IsKeptTerm s a (suc m)) (kept s a (suc m))
kept_step s a m true is later =
    rw is (all_like (IsKeptTerm s (a + 1) m) (IsKeptTerm s a (suc m)) (kept s (a + 1) m) later
    (λ t h. (omega (arith, h.0), omega (arith, h.1), h.2, h.3)))
kept_step s a m false is later = rw is
    (all_one_more (IsKeptTerm s a (suc m)) (term s a) (kept s (a + 1) m)
    (omega arith, omega arith, refl, λ e. true≢false (sym (eq-eqb (coefficient s a) 0 e) ∙ is))
    (all_like (IsKeptTerm s (a + 1) m) (IsKeptTerm s a (suc m)) (kept s (a + 1) m) later
    (λ t h. (omega (arith, h.0), omega (arith, h.1), h.2, h.3))))

kept_terms : (s m a : ℕ) → All (IsKeptTerm s a m) (kept s a m)
kept_terms s zero a = all_none (IsKeptTerm s a 0)
kept_terms s (suc m) a = kept_step s a m (coefficient s a == 0) refl (kept_terms s m (a + 1))

abbrev Rises : Term → Term → Type 0
Rises t u = t.column < u.column

rising_step : (s a m : ℕ) (b : Bool) → (coefficient s a == 0) ≡ b
    → AllPairs Rises (kept s (a + 1) m) → AllPairs Rises (kept s a (suc m))
rising_step s a m true is later = rw is later
rising_step s a m false is later = rw is
    (pairs_one_more Rises (term s a) (kept s (a + 1) m)
    (all_like (IsKeptTerm s (a + 1) m) (Rises (term s a)) (kept s (a + 1) m)
    (kept_terms s m (a + 1)) (λ t h. omega (arith, h.0))) later)

kept_rising : (s m a : ℕ) → AllPairs Rises (kept s a m)
kept_rising s zero a = pairs_none Rises
kept_rising s (suc m) a = rising_step s a m (coefficient s a == 0) refl (kept_rising s m (a + 1))

small_sum : (s m : ℕ) → row_sum s m ≤ 9 * m
small_sum s zero = omega arith
small_sum s (suc m) =
    let before : row_sum s m ≤ 9 * m = small_sum s m in
    let next : suc m ≡ m + 1 = omega arith in
    let more : row_sum s (suc m) ≡ row_sum s m + coefficient s m = ap (row_sum s) next
    ∙ sum_more s m in
    omega arith

positive : (t : Term) (c : ℕ) → t.coefficient ≡ pos c → c ≢ 0 → t.coefficient ≢ pos 0
positive t c is some none = some (ap unsigned_abs (sym is ∙ none))

terms_fit : (s n : ℕ) → AreTerms n (row_terms s n)
terms_fit s n = record {
  each = all_like (IsKeptTerm s 0 n) (IsTerm n) (row_terms s n) (kept_terms s n 0) (λ t h. record {
    column = omega (arith, h.1);
    coefficient = rw h.2 (omega arith);
    nonzero = positive t (coefficient s t.column) h.2 h.3;
  });
  rising = kept_rising s n 0;
}

row_fits : (s n i : ℕ) → n ≤ 1000 → i < 1000 → IsRow n (row_after s n i)
row_fits s n i few few_rows = record {
  name = record {
    name = numbered_name 82 (i + 1) (omega arith);
    plain =
        λ e. letters_differ (same_at 0 _ _ e);
  };
  terms = terms_fit (state s (i * n)) n;
  ends = half_small (row_sum (state s (i * n)) n) (omega (arith, small_sum (state s (i * n)) n));
}
  where
    letters_differ : ◌≡◌ {A = ℕ} 82 39 → ⊥
    letters_differ e = omega arith

    half_small : (sum : ℕ) → sum ≤ 9000 → unsigned_abs (pos (sum / 2)) ≤ 10 ^ 24
    half_small sum small = omega arith

cost_name : IsRowName (codes "COST")
cost_name = record {
  name = record { some = λ e. cc; visible = four };
  plain =
      λ e. differ (same_at 0 _ _ e);
}
  where
    differ : ◌≡◌ {A = ℕ} 67 39 → ⊥
    differ e = omega arith

    four : All IsVisible (codes "COST")
    four zero d k_in = digit_visible 67 (omega arith)
    four (suc zero) d k_in = digit_visible 79 (omega arith)
    four (suc (suc zero)) d k_in = digit_visible 83 (omega arith)
    four (suc (suc (suc zero))) d k_in = digit_visible 84 (omega arith)
    four (suc (suc (suc (suc k)))) d k_in = absurd (omega arith)

row_not_cost : (n : ℕ) → numbered 82 n ≢ codes "COST"
row_not_cost n e = differ (same_at 0 _ _ e)
  where
    differ : ◌≡◌ {A = ℕ} 82 67 → ⊥
    differ f = omega arith

pub made_program : (start columns rows : ℕ) → columns ≤ 1000 → rows ≤ 1000
    → IsProgram (made start columns rows)
made_program start columns rows few few_rows =
    let s : ℕ = state start columns in
    record {
      few_columns = omega (arith, length-map-range_with_len (column start) 0 columns);
      few_rows = omega (arith, length-map-range_with_len (row_after s columns) 0 rows);
      columns = all_made IsColumn (column start) columns
          (λ k inside. column_fits start k columns inside few);
      column_names = pairs_made (λ c d. c.name ≢ d.name) (column start) columns
          (λ i j i_lt inside e. let same : i + 1 ≡ j + 1 =
          numbered_differ 67 (i + 1) (j + 1) (omega arith) (omega arith) e in omega arith);
      rows = all_made (IsRow (length (made start columns rows).columns)) (row_after s columns) rows
          (λ k inside. subst (λ n. IsRow n (row_after s columns k))
          (sym (length-map-range_with_len (column start) 0 columns))
          (row_fits s columns k few (omega arith)));
      row_names = pairs_made (λ r q. r.name ≢ q.name) (row_after s columns) rows
          (λ i j i_lt inside e. let same : i + 1 ≡ j + 1 =
          numbered_differ 82 (i + 1) (j + 1) (omega arith) (omega arith) e in omega arith);
      objective = cost_name;
      no_row = all_made (λ r. r.name ≢ codes "COST") (row_after s columns) rows (λ k inside. row_not_cost (k + 1));
      offset = omega arith;
      scale = omega arith;
      least_scale = λ some all ten. some refl;
    }

-- the same of equal parts
pub made_of : (start columns rows : ℕ) → columns ≤ 1000 → rows ≤ 1000
    → (cs : List Column) (rs : List Row) (objective : List ℕ) → cs
    ≡ (made start columns rows).columns → rs ≡ (made start columns rows).rows
    → objective ≡ codes "COST" → IsProgram (record { columns = cs; rows = rs; objective = objective; scale = 0; offset = pos 0; sense = Min })
made_of start columns rows few few_rows cs rs objective c_is r_is o_is =
    subst (λ (x : List Column). IsProgram
    (record {
      columns = x;
      rows = rs;
      objective = objective;
      scale = 0;
      offset =
          pos 0;
      sense = Min;
    })) (sym c_is)
    (subst (λ (x : List Row). IsProgram
    (record {
      columns = (made start columns rows).columns;
      rows = x;
      objective =
          objective;
      scale = 0;
      offset = pos 0;
      sense = Min;
    })) (sym r_is)
    (subst (λ (x : List ℕ). IsProgram
    (record {
      columns = (made start columns rows).columns;
      rows =
          (made start columns rows).rows;
      objective = x;
      scale = 0;
      offset = pos 0;
      sense = Min;
    }))
    (sym o_is)
    (made_program start columns rows few few_rows)))
