-- Values inside are those of the file, in its sense.
use Rattle.std.proofs.Common.{◌≡◌, ◌↔◌, ℕ, zero, suc, ◌<◌, List, length, refl, ap, ◌∙◌, arith, ℤ}
use Rattle.std.proofs.Common.{pos, ◌+ℤ◌, ◌*ℤ◌, ◌≤ℤ◌}
use Rattle.std.proofs.lemmas.Int.{ints}
use Rattle.bl_num.specs.Exact.{at, sum_below}
use Rattle.bl_num.proofs.Ring.{neg-*ℤ}
use Rattle.bl_num.proofs.SumLemmas.{sum_below-same, at-map}
use Rattle.bl_problem.specs.declared.problem.Sense.{Sense}
use Rattle.bl_problem.specs.declared.problem.Sense.TheVariants.{Min, Max}
use Rattle.bl_problem.specs.declared.problem.Column.{Column}
use Rattle.bl_problem.specs.declared.problem.Term.{Term}
use Rattle.bl_problem.specs.Rows.{coefficient_of}
use Rattle.bl_problem.specs.Points.{in_sense, costs_of, value_of}
use Rattle.bl_cards.specs.Said.{Said}
use Rattle.bl_mps.specs.Meaning.{columns_from, sense_for, objective_of, program_of}
use Rattle.bl_mps.specs.Laws.{file_value, ShowsFileValues, IsAsGood, LessIsBetter}
use Rattle.bl_mps.proofs.Programs.{count_columns, cost_at, no_column}

-- ---- numbers in a sense

sense_times : (sense : Sense) (a b : ℤ) → in_sense sense a *ℤ b ≡ in_sense sense (a *ℤ b)
sense_times Min a b = refl
sense_times Max a b = neg-*ℤ a b

sense_plus : (sense : Sense) (a b : ℤ) → in_sense sense a +ℤ in_sense sense b
    ≡ in_sense sense (a +ℤ b)
sense_plus Min a b = refl
sense_plus Max a b = omega (arith, ints)

sense_zero : (sense : Sense) → pos 0 ≡ in_sense sense (pos 0)
sense_zero Min = refl
sense_zero Max = refl

sense_twice : (sense : Sense) (a : ℤ) → in_sense sense (in_sense sense a) ≡ a
sense_twice Min a = refl
sense_twice Max a = omega (arith, ints)

sense_sum : (sense : Sense) (n : ℕ) (f : ℕ → ℤ) → sum_below n (λ k. in_sense sense (f k))
    ≡ in_sense sense (sum_below n f)
sense_sum sense zero f = sense_zero sense
sense_sum sense (suc n) f = ap (λ (z : ℤ). z +ℤ in_sense sense (f n)) (sense_sum sense n f)
    ∙ sense_plus sense (sum_below n f) (f n)

sense_order : (sense : Sense) (a b : ℤ) → (in_sense sense a ≤ℤ in_sense sense b)
    ↔ IsAsGood sense a b
sense_order Min a b = (λ h. h, λ h. h)
sense_order Max a b = (λ h. omega (arith, ints, h), λ h. omega (arith, ints, h))

-- ---- values

module _ (s : Said) (x : List ℤ) where
  abbrev sense : Sense
  sense = sense_for s

  abbrev costs : List Term
  costs = (objective_of s).costs

  abbrev columns : List Column
  columns = columns_from s costs 0 s.columns.names

  product : (j : ℕ) → j < length s.columns.names → at (costs_of columns) j *ℤ at x j
      ≡ in_sense sense (coefficient_of costs j *ℤ at x j)
  product j l =
      let wide = count_columns s costs 0 s.columns.names in
      let cost = at-map (λ (c : Column). c.cost) columns j no_column (omega (arith, l, wide))
      ∙ cost_at s costs 0 s.columns.names j no_column l
      ∙ ap (λ (k : ℕ). in_sense sense (coefficient_of costs k)) (omega arith) in
      ap (λ (z : ℤ). z *ℤ at x j) cost ∙ sense_times sense (coefficient_of costs j) (at x j)

  value_is : value_of (program_of s) x ≡ in_sense sense (file_value s x)
  value_is =
      let n = length s.columns.names in
      let total = sum_below-same n (λ j. at (costs_of columns) j *ℤ at x j)
      (λ j. in_sense sense (coefficient_of costs j *ℤ at x j)) product
      ∙ sense_sum sense n (λ j. coefficient_of costs j *ℤ at x j) in
      ap (λ (k : ℕ). in_sense sense (objective_of s).offset +ℤ sum_below k
      (λ j. at (costs_of columns) j *ℤ at x j)) (count_columns s costs 0 s.columns.names)
      ∙ ap (λ (z : ℤ). in_sense sense (objective_of s).offset +ℤ z) total
      ∙ sense_plus sense (objective_of s).offset
      (sum_below n (λ j. coefficient_of costs j *ℤ at x j))

pub shows_file_values : ShowsFileValues
shows_file_values s x = ap (in_sense (sense_for s)) (value_is s x)
    ∙ sense_twice (sense_for s) (file_value s x)

pub less_is_better : LessIsBetter
less_is_better s x y = rw (value_is s x, value_is s y)
    (sense_order (sense_for s) (file_value s x) (file_value s y))
