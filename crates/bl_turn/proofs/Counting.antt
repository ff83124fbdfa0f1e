-- How many seats were joined, as the accounts change one at a time.
use Rattle.std.proofs.Common.{◌≡◌, ℕ, zero, suc, ◌+◌, ◌≤◌, Bool, true, false, cond, List, [], ◌∷◌}
use Rattle.std.proofs.Common.{◌++◌, length, set, refl, sym, ap, ◌∙◌, arith}
use mathlib.Core.Option.{some, some-injective, some-ne-none}
use lib.ListN.{get_elem?}
use Rattle.bl_turn.specs.declared.view.Account.{Account}
use Rattle.bl_turn.specs.Accounts.{is_spent, count_spent}

at_most_one : (b : Bool) → cond b 1 0 ≤ 1
at_most_one true = omega arith
at_most_one false = omega arith

true_from_one : (b : Bool) → 1 ≤ cond b 1 0 → b ≡ true
true_from_one true h = refl
true_from_one false h = absurd (omega arith)

module _ {E B : Type 0} where
  pub count_spent-set : (accounts : List (Account E B)) (i : ℕ) (u w : Account E B)
      → get_elem? accounts i ≡ some u → is_spent w ≡ is_spent u → count_spent (set accounts i w)
      ≡ count_spent accounts
  count_spent-set [] i u w e same = absurd (some-ne-none u (sym e))
  count_spent-set (a ∷ others) zero u w e same =
      ap (λ (b : Bool). cond b 1 0 + count_spent others)
      (same ∙ ap is_spent (sym (some-injective a u e)))
  count_spent-set (a ∷ others) (suc i) u w e same =
      ap (λ (n : ℕ). cond (is_spent a) 1 0 + n) (count_spent-set others i u w e same)

  pub count_spent-spend : (accounts : List (Account E B)) (i : ℕ) (u w : Account E B)
      → get_elem? accounts i ≡ some u → is_spent u ≡ false → is_spent w ≡ true
      → count_spent (set accounts i w) ≡ count_spent accounts + 1
  count_spent-spend [] i u w e stood over = absurd (some-ne-none u (sym e))
  count_spent-spend (a ∷ others) zero u w e stood over =
      let was : is_spent a ≡ false = ap is_spent (some-injective a u e) ∙ stood in
      let one : cond {A = ℕ} (is_spent w) 1 0 ≡ 1 = ap (λ (b : Bool). cond b 1 0) over in
      let none : cond {A = ℕ} (is_spent a) 1 0 ≡ 0 =
      ap (λ (b : Bool). cond b 1 0) was in omega arith
  count_spent-spend (a ∷ others) (suc i) u w e stood over = let more =
      count_spent-spend others i u w e stood over in omega arith

  pub count_spent-append : (accounts : List (Account E B)) (a : Account E B) → is_spent a ≡ false
      → count_spent (accounts ++ a ∷ []) ≡ count_spent accounts
  count_spent-append [] a stands = ap (λ (b : Bool). cond b 1 0 + 0) stands
  count_spent-append (x ∷ others) a stands =
      ap (λ (n : ℕ). cond (is_spent x) 1 0 + n) (count_spent-append others a stands)

  count_spent-le : (accounts : List (Account E B)) → count_spent accounts ≤ length accounts
  count_spent-le [] = omega arith
  count_spent-le (a ∷ others) = let le = count_spent-le others in let one =
      at_most_one (is_spent a) in omega arith

  all_spent : (accounts : List (Account E B)) (j : ℕ) (a : Account E B) → length accounts
      ≤ count_spent accounts → get_elem? accounts j ≡ some a → is_spent a ≡ true
  all_spent [] j a full e = absurd (some-ne-none a (sym e))
  all_spent (x ∷ others) zero a full e = let le =
      count_spent-le others in ap is_spent (sym (some-injective x a e))
      ∙ true_from_one (is_spent x) (omega arith)
  all_spent (x ∷ others) (suc j) a full e = let one =
      at_most_one (is_spent x) in all_spent others j a (omega arith) e

  -- where the first stands and all but one were joined, each other one was
  pub others_spent : (accounts : List (Account E B)) (a : Account E B) (j : ℕ) (x : Account E B)
      → get_elem? accounts 0 ≡ some a → is_spent a ≡ false → length accounts
      ≤ count_spent accounts + 1
      → get_elem? accounts (suc j) ≡ some x → is_spent x ≡ true
  others_spent [] a j x e stands most there = absurd (some-ne-none a (sym e))
  others_spent (y ∷ others) a j x e stands most there =
      let none : cond {A = ℕ} (is_spent y) 1 0 ≡ 0 =
      ap (λ (b : Bool). cond b 1 0) (ap is_spent (some-injective y a e) ∙ stands) in
      all_spent others j x (omega arith) there
