-- The rounded entries lie in the box.
use Rattle.std.proofs.Common.{◌≡◌, ℕ, zero, suc, ◌<◌, ℤ, pos, ◌≤ℤ◌, List, [], ◌∷◌, length, arith}
use Rattle.std.proofs.Common.{refl, sym, ◌∙◌, ⊎_elim}
use Rattle.std.specs.Int.{int_max, int_min}
use Rattle.std.proofs.lemmas.Int.{ints, clamps}
use Rattle.std.proofs.lemmas.Bool.{cases_lt}
use Rattle.std.proofs.lemmas.List.{length-append, get_or_append_left, get_or_at}
use Rattle.bl_num.specs.Exact.{at}
use Rattle.bl_problem.specs.Points.{InBox}
use Rattle.bl_problem.proofs.Boxes.{box-from}
use Rattle.bl_fixed.specs.declared.Fixed.{Fixed}
use Rattle.bl_heur.specs.Rounded.{rounded_at, rounded_below}

pub length-rounded : (n : ℕ) (lows highs : List ℤ) (point : List Fixed)
    → length (rounded_below n lows highs point) ≡ n
length-rounded zero lows highs point = refl
length-rounded (suc n) lows highs point =
    let i = length-rounded n lows highs point in
    let l = length-append (rounded_below n lows highs point) (rounded_at lows highs point n ∷ []) in
    omega (arith, i, l)

pub rounded-each : (n : ℕ) (lows highs : List ℤ) (point : List Fixed) (j : ℕ) → j < n
    → at (rounded_below n lows highs point) j ≡ rounded_at lows highs point j
rounded-each zero lows highs point j l = absurd (omega (arith, l))
rounded-each (suc n) lows highs point j l = ⊎_elim
    (λ m. get_or_append_left (rounded_below n lows highs point)
    (rounded_at lows highs point n ∷ []) (pos 0) j
    (let w = length-rounded n lows highs point in omega (arith, w, m))
    ∙ rounded-each n lows highs point j m)
    (λ m. let z : j ≡ n = omega (arith, l, m) in let w = length-rounded n lows highs point in
    rw z (get_or_at (rounded_below n lows highs point) (rounded_at lows highs point n) [] (pos 0)
    n w))
    (cases_lt j n)

between : (v low high : ℤ) → low ≤ℤ high → (low ≤ℤ int_max (int_min v high) low)
    × (int_max (int_min v high) low ≤ℤ high)
between v low high h = (omega (arith, ints, clamps), omega (arith, ints, clamps, h))

pub rounded-inside : (lows highs : List ℤ) (point : List Fixed) → length highs ≡ length lows
    → ((j : ℕ) → j < length lows → at lows j ≤ℤ at highs j)
    → InBox lows highs (rounded_below (length lows) lows highs point)
rounded-inside lows highs point same h =
    let x : List ℤ = rounded_below (length lows) lows highs point in
    let w : length x ≡ length lows = length-rounded (length lows) lows highs point in
    box-from lows highs x (record { lows = sym w; highs = same ∙ sym w })
    (λ j l. let k : j < length lows = omega (arith, w, l) in let e =
    rounded-each (length lows) lows highs point j k in
    let b = between _ (at lows j) (at highs j) (h j k) in (rw e b.0, rw e b.1))
