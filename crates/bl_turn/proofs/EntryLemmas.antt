-- The entries of one number, in parts of a list.
use Rattle.std.proofs.Common.{◌≡◌, ◌≢◌, ℕ, ◌≤◌, eqb, Bool, true, false, cond, List, [], ◌∷◌, ◌++◌}
use Rattle.std.proofs.Common.{length, All, refl, sym, ap, ◌∙◌, arith, append-nil, ne_eqb, eq-eqb}
use mathlib.Core.Logic.{dite}
use native.Mathlib.Decide.{ℕ_discrete}
use Rattle.std.proofs.lemmas.List.Elements.{filter-append, All-head, All-tail, All-cons, All-nil}
use Rattle.bl_turn.specs.Entries.{entries_by, NoneBy, FromOneTo}
use Rattle.bl_turn.proofs.Lists.{prefixes, nil_parts}

module _ {E : Type 0} (by : E → ℕ) where
  pub entries_by-append : (n : ℕ) (xs ys : List E) → entries_by by n (xs ++ ys)
      ≡ entries_by by n xs ++ entries_by by n ys
  entries_by-append n xs ys = filter-append (λ e. eqb (by e) n) xs ys

  pub entries_by-none : (n : ℕ) (es : List E) → NoneBy by n es → entries_by by n es ≡ []
  entries_by-none n [] none = refl
  entries_by-none n (e ∷ es) none = let other : eqb (by e) n ≡ false =
      ne_eqb (by e) n (All-head (λ x. by x ≢ n) e es none) in
      rw other (entries_by-none n es (All-tail (λ x. by x ≢ n) e es none))

  pub NoneBy-nil : (n : ℕ) (es : List E) → entries_by by n es ≡ [] → NoneBy by n es
  NoneBy-nil n [] e = All-nil (λ x. by x ≢ n)
  NoneBy-nil n (x ∷ es) e = dite (ℕ_discrete (by x) n)
      (λ own. absurd (let t : eqb (by x) n ≡ true = eq-eqb (by x) n own in let f : x
      ∷ entries_by by n es ≡ [] = ap
      (λ (b : Bool). cond b (x ∷ entries_by by n es) (entries_by by n es)) (sym t) ∙ e in cc))
      (λ other. let f : entries_by by n es ≡ [] =
      ap (λ (b : Bool). cond b (x ∷ entries_by by n es) (entries_by by n es))
      (sym (ne_eqb (by x) n other)) ∙ e in
      All-cons (λ y. by y ≢ n) x es other (NoneBy-nil n es f))

  -- entries of others leave the list of a number as it is
  pub entries_by-same : (n : ℕ) (xs ys own : List E) → entries_by by n xs ≡ own
      → entries_by by n ys ≡ [] → entries_by by n (xs ++ ys) ≡ own
  entries_by-same n xs ys own p q = entries_by-append n xs ys
      ∙ (ap (λ z. entries_by by n xs ++ z) q ∙ (append-nil (entries_by by n xs) ∙ p))

  -- where a beginning has all entries of a number, so has a longer one
  pub entries_by-longer : (n : ℕ) (own a past_a b past_b : List E) → a ++ past_a ≡ b ++ past_b
      → length a ≤ length b → entries_by by n a ≡ own → entries_by by n past_a ≡ []
      → (entries_by by n b ≡ own) × (entries_by by n past_b ≡ [])
  entries_by-longer n own a past_a b past_b same shorter has none = let t =
      prefixes a b past_a past_b same shorter in
      let nils = nil_parts (entries_by by n t.0) (entries_by by n past_b)
      (sym (entries_by-append n t.0 past_b) ∙ (ap (entries_by by n) (sym t.2) ∙ none)) in
      (ap (entries_by by n) t.1 ∙ entries_by-same n a t.0 own has nils.0, nils.1)

  pub FromOneTo-parts : (n : ℕ) (es : List E) → NoneBy by 0 es → All (λ e. by e ≤ n) es
      → FromOneTo by n es
  FromOneTo-parts n es not_first most = λ k d inside. let a = not_first k d inside in let b =
      most k d inside in (omega arith, b)
