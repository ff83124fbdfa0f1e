-- A point in a box, entry by entry.
use Rattle.std.proofs.Common.{◌≡◌, ℕ, zero, suc, ◌<◌, ◌^◌, ℤ, ◌≤ℤ◌, arith, List, [], ◌∷◌, length}
use Rattle.std.proofs.Common.{All, refl, ap, get_or}
use Rattle.std.proofs.lemmas.Int.{ints}
use Rattle.std.proofs.lemmas.List.Elements.{All-get_or}
use Rattle.std.proofs.lemmas.List.{length-map}
use Rattle.bl_num.specs.Exact.{at}
use Rattle.bl_num.proofs.SumLemmas.{at-map, at-any}
use Rattle.bl_problem.specs.Sums.{IsWithin}
use Rattle.bl_problem.specs.Program.{IsColumn}
use Rattle.bl_problem.specs.Points.{InBox, lows_of, highs_of}
use Rattle.bl_problem.specs.declared.problem.Column.{Column}

-- one entry for each low and each high
pub record HasWidth (ls hs x : List ℤ) : Type 0 where
  pub lows : length ls ≡ length x
  pub highs : length hs ≡ length x

pub box-width : (lows highs x : List ℤ) → InBox lows highs x → HasWidth lows highs x
box-width [] [] [] b = record { lows = refl; highs = refl }
box-width [] [] (v ∷ x) b = absurd b
box-width [] (h ∷ highs) x b = absurd b
box-width (l ∷ lows) [] x b = absurd b
box-width (l ∷ lows) (h ∷ highs) [] b = absurd b
box-width (l ∷ lows) (h ∷ highs) (v ∷ x) b =
    let w = box-width lows highs x b.2 in record { lows = ap suc w.lows; highs = ap suc w.highs }

pub box-entry : (lows highs x : List ℤ) (j : ℕ) → InBox lows highs x → j < length x
    → (at lows j ≤ℤ at x j) × (at x j ≤ℤ at highs j)
box-entry [] [] [] j b l = absurd (omega arith)
box-entry [] [] (v ∷ x) j b l = absurd b
box-entry [] (h ∷ highs) x j b l = absurd b
box-entry (l ∷ lows) [] x j b m = absurd b
box-entry (l ∷ lows) (h ∷ highs) [] j b m = absurd b
box-entry (l ∷ lows) (h ∷ highs) (v ∷ x) zero b m = (b.0, b.1)
box-entry (l ∷ lows) (h ∷ highs) (v ∷ x) (suc j) b m = box-entry lows highs x j b.2 (omega arith)

pub box-from : (lows highs x : List ℤ) → HasWidth lows highs x
    → ((j : ℕ) → j < length x → (at lows j ≤ℤ at x j) × (at x j ≤ℤ at highs j)) → InBox lows highs x
box-from [] [] [] w h = tt
box-from [] [] (v ∷ x) w h = absurd (omega (arith, w.lows))
box-from [] (g ∷ highs) [] w h = absurd (omega (arith, w.highs))
box-from [] (g ∷ highs) (v ∷ x) w h = absurd (omega (arith, w.lows))
box-from (l ∷ lows) [] [] w h = absurd (omega (arith, w.lows))
box-from (l ∷ lows) [] (v ∷ x) w h = absurd (omega (arith, w.highs))
box-from (l ∷ lows) (g ∷ highs) [] w h = absurd (omega (arith, w.lows))
box-from (l ∷ lows) (g ∷ highs) (v ∷ x) w h =
    let e = h 0 (omega arith) in (
      e.0,
      e.1,
      box-from lows highs x (record {
        lows = omega (arith, w.lows);
        highs =
            omega (arith, w.highs);
      }) (λ j m. h (suc j) (omega arith)),
    )

-- the entries of a point in the columns' box are small, since the bounds are
pub box-near : (columns : List Column) (x : List ℤ) → All IsColumn columns
    → InBox (lows_of columns) (highs_of columns) x → All (IsWithin (10 ^ 9)) x
box-near columns x all b = λ k d l.
    let w = box-width (lows_of columns) (highs_of columns) x b in
    let e = box-entry (lows_of columns) (highs_of columns) x k b l in
    near columns x k d all (omega (arith, w.lows, length-map columns (λ (c : Column). c.low))) l
    e.0 e.1
  where
    near : (cs : List Column) (x : List ℤ) (k : ℕ) (d : ℤ) → All IsColumn cs → k < length cs → k
        < length x → at (lows_of cs) k ≤ℤ at x k → at x k ≤ℤ at (highs_of cs) k
        → IsWithin (10 ^ 9) (get_or x k d)
    near [] x k d a h l p q = absurd (omega arith)
    near (c ∷ cs) x k d a h l p q =
        let e = at-map (λ (d : Column). d.low) (c ∷ cs) k c h in
        let f = at-map (λ (d : Column). d.high) (c ∷ cs) k c h in
        let g = All-get_or IsColumn (c ∷ cs) k c h a in
        rw (at-any x k d l) (omega (arith, ints, e, f, g.low, g.high))
