-- Boxes of two columns.
use Rattle.std.proofs.Common.{◌≡◌, ℕ, zero, suc, ◌<◌, ℤ, ◌≤ℤ◌, List, [], ◌∷◌, length, arith, Bool}
use Rattle.std.proofs.Common.{true, false, IsTrue, int_lt, refl}
use Rattle.std.proofs.lemmas.Int.{ints}
use Rattle.bl_num.specs.Exact.{at}
use Rattle.bl_branch.specs.Rules.{HasTwoPoints}
use Rattle.bl_rows.specs.Points.{has_two}

pub two : (lows highs : List ℤ) → IsTrue (has_two lows highs) → HasTwoPoints lows highs
two [] highs h = absurd cc
two (a ∷ []) highs h = absurd cc
two (a ∷ b ∷ (e ∷ lows)) highs h = absurd cc
two (a ∷ b ∷ []) [] h = absurd cc
two (a ∷ b ∷ []) (c ∷ []) h = absurd cc
two (a ∷ b ∷ []) (c ∷ d ∷ (e ∷ highs)) h = absurd cc
two (a ∷ b ∷ []) (c ∷ d ∷ []) h = by (int_lt a c) refl
  where
    each : (j : ℕ) → j < 2 → at (a ∷ b ∷ []) j ≤ℤ at (c ∷ d ∷ []) j
    each zero l = grind (arith, ints)
    each (suc zero) l = grind (arith, ints)
    each (suc (suc j)) l = absurd (omega (arith, l))

    by : (t : Bool) → int_lt a c ≡ t → HasTwoPoints (a ∷ b ∷ []) (c ∷ d ∷ [])
    by true e = record {
      each = each;
      column = 0;
      column_in = omega arith;
      apart =
          omega (arith, ints, e);
    }
    by false e = record {
      each = each;
      column = 1;
      column_in = omega arith;
      apart =
          grind (arith, ints);
    }

-- two lows and two highs
pub record ArePairs (lows highs : List ℤ) : Type 0 where
  pub low_count : length lows ≡ 2
  pub high_count : length highs ≡ 2

pub pairs_of_two : (lows highs : List ℤ) → IsTrue (has_two lows highs) → ArePairs lows highs
pairs_of_two [] highs h = absurd cc
pairs_of_two (a ∷ []) highs h = absurd cc
pairs_of_two (a ∷ b ∷ (e ∷ lows)) highs h = absurd cc
pairs_of_two (a ∷ b ∷ []) [] h = absurd cc
pairs_of_two (a ∷ b ∷ []) (c ∷ []) h = absurd cc
pairs_of_two (a ∷ b ∷ []) (c ∷ d ∷ (e ∷ highs)) h = absurd cc
pairs_of_two (a ∷ b ∷ []) (c ∷ d ∷ []) h = record { low_count = refl; high_count = refl }
