-- The greatest of the unit bounds over all rows.
use Rattle.std.proofs.Common.{◌≡◌, ℕ, zero, suc, ◌<◌, ◌+◌, ℤ, pos, negsuc, ◌≤ℤ◌, arith, List, []}
use Rattle.std.proofs.Common.{◌∷◌, length, fold, Option, Some, None, IfSome, refl, sym, ◌∙◌, ap}
use Rattle.std.proofs.Common.{slice_index_or, take}
use Rattle.std.proofs.lemmas.Int.{ints, clamps, by_lt_z}
use Rattle.std.proofs.lemmas.List.Sums.{fold_more}
use Rattle.std.specs.Int.{int_max}
use Rattle.bl_problem.specs.declared.problem.Row.{Row}
use Rattle.bl_bound.specs.Units.{row_bound, raised, raised_by, greatest_of}

-- one more row
pub greatest-more : (base : ℤ) (costs lows highs : List ℤ) (rows : List Row) (k : ℕ) (d row : Row)
    (best after_up after : ℤ) (up down : Option ℤ) → k < length rows → row
    ≡ slice_index_or rows k d →
    best ≡ greatest_of base costs lows highs (take k rows) → up
    ≡ row_bound base costs lows highs (pos 1) row → after_up ≡ raised best up →
    down ≡ row_bound base costs lows highs (negsuc 0) row → after ≡ raised after_up down → after
    ≡ greatest_of base costs lows highs (take (k + 1) rows)
greatest-more base costs lows highs rows k d row best after_up after up down l r b u a v e =
    let m = fold_more (raised_by base costs lows highs) base rows k d l in
    let s : after ≡ raised_by base costs lows highs best row = e
    ∙ ap (λ (z : ℤ). raised z down) (a ∙ ap (λ (o : Option ℤ). raised best o) u)
    ∙ ap (λ (o : Option ℤ). raised (raised best (row_bound base costs lows highs (pos 1) row))
    o) v in
    s ∙ ap (λ (z : ℤ). raised_by base costs lows highs z row) b
    ∙ ap (λ (w : Row). raised_by base costs lows highs
    (greatest_of base costs lows highs (take k rows)) w) r ∙ sym m

-- ---- what the greatest is
pub raised-up : (best : ℤ) (o : Option ℤ) → best ≤ℤ raised best o
raised-up best None = omega (arith, ints)
raised-up best (Some b) = omega (arith, ints, clamps)

pub raised-over : (best : ℤ) (o : Option ℤ) → IfSome o (λ b. b ≤ℤ raised best o)
raised-over best None = tt
raised-over best (Some b) = omega (arith, ints, clamps)

pub raised-keeps : (Q : ℤ → Type 0) (best : ℤ) (o : Option ℤ) → Q best
    → ((b : ℤ) → o ≡ Some b → Q b) → Q (raised best o)
raised-keeps Q best None q f = q
raised-keeps Q best (Some b) q f = by_lt_z best b
    (λ l. let e : b ≡ int_max best b = omega (arith, ints, clamps) in rw (← e) (f b refl))
    (λ l. let e : best ≡ int_max best b = omega (arith, ints, clamps) in rw (← e) q)

if_some-le : (o : Option ℤ) (a b : ℤ) → IfSome o (λ z. z ≤ℤ a) → a ≤ℤ b → IfSome o (λ z. z ≤ℤ b)
if_some-le None a b h l = tt
if_some-le (Some z) a b h l = omega (arith, ints)

-- the bounds of both multipliers at each row are at most the greatest
pub record IsOver (base : ℤ) (costs lows highs : List ℤ) (rows : List Row) (g : ℤ) : Type 0 where
  pub up : (k : ℕ) (d : Row) → k < length rows
      → IfSome (row_bound base costs lows highs (pos 1) (slice_index_or rows k d)) (λ b. b ≤ℤ g)
  pub down : (k : ℕ) (d : Row) → k < length rows
      → IfSome (row_bound base costs lows highs (negsuc 0) (slice_index_or rows k d)) (λ b. b ≤ℤ g)

fold-up : (base best : ℤ) (costs lows highs : List ℤ) (rows : List Row)
    → best ≤ℤ fold (raised_by base costs lows highs) best rows
fold-up base best costs lows highs [] = omega (arith, ints)
fold-up base best costs lows highs (r ∷ rs) =
    let up = row_bound base costs lows highs (pos 1) r in
    let a = raised-up best up in
    let b = raised-up (raised best up) (row_bound base costs lows highs (negsuc 0) r) in
    let i = fold-up base (raised_by base costs lows highs best r) costs lows highs rs in
    omega (arith, ints, a, b, i)

row-over : (base best g : ℤ) (costs lows highs : List ℤ) (r : Row)
    → raised_by base costs lows highs best r ≤ℤ g → IsOver base costs lows highs (r ∷ []) g
row-over base best g costs lows highs r l =
    let up = row_bound base costs lows highs (pos 1) r in
    let down = row_bound base costs lows highs (negsuc 0) r in
    let m = raised-up (raised best up) down in
    record {
      up = λ k d q. let z : k ≡ 0 = omega (arith, q) in rw z
          (if_some-le up (raised best up) g (raised-over best up) (omega (arith, ints, l, m)));
      down = λ k d q. let z : k ≡ 0 = omega (arith, q) in rw z
          (if_some-le down (raised (raised best up) down) g (raised-over (raised best up) down) l);
    }

over-cons : (base g : ℤ) (costs lows highs : List ℤ) (r : Row) (rs : List Row)
    → IsOver base costs lows highs (r ∷ []) g → IsOver base costs lows highs rs g
    → IsOver base costs lows highs (r ∷ rs) g
over-cons base g costs lows highs r rs h i = record { up = up; down = down }
  where
    up : (k : ℕ) (d : Row) → k < length (r ∷ rs)
        → IfSome (row_bound base costs lows highs (pos 1) (slice_index_or (r ∷ rs) k d))
        (λ b. b ≤ℤ g)
    up zero d l = h.up 0 d (omega arith)
    up (suc k) d l = i.up k d (omega arith)

    down : (k : ℕ) (d : Row) → k < length (r ∷ rs)
        → IfSome (row_bound base costs lows highs (negsuc 0) (slice_index_or (r ∷ rs) k d))
        (λ b. b ≤ℤ g)
    down zero d l = h.down 0 d (omega arith)
    down (suc k) d l = i.down k d (omega arith)

fold-over : (base best : ℤ) (costs lows highs : List ℤ) (rows : List Row)
    → IsOver base costs lows highs rows (fold (raised_by base costs lows highs) best rows)
fold-over base best costs lows highs [] = record {
  up = λ k d l. absurd (omega arith);
  down =
      λ k d l. absurd (omega arith);
}
fold-over base best costs lows highs (r ∷ rs) =
    let next = raised_by base costs lows highs best r in
    over-cons base (fold (raised_by base costs lows highs) next rs) costs lows highs r rs
    (row-over base best (fold (raised_by base costs lows highs) next rs) costs lows highs r
    (fold-up base next costs lows highs rs))
    (fold-over base next costs lows highs rs)

pub greatest-over : (base : ℤ) (costs lows highs : List ℤ) (rows : List Row)
    → IsOver base costs lows highs rows (greatest_of base costs lows highs rows)
greatest-over base costs lows highs rows = fold-over base base costs lows highs rows

pub greatest-up : (base : ℤ) (costs lows highs : List ℤ) (rows : List Row)
    → base ≤ℤ greatest_of base costs lows highs rows
greatest-up base costs lows highs rows = fold-up base base costs lows highs rows

-- what holds of the base and of the bounds of both multipliers at each row holds of the greatest
pub record HoldsAt (Q : ℤ → Type 0) (base : ℤ) (costs lows highs : List ℤ) (rows : List Row) :
    Type 0 where
  pub up : (k : ℕ) (d : Row) (b : ℤ) → k < length rows → row_bound base costs lows highs (pos 1)
      (slice_index_or rows k d) ≡ Some b → Q b
  pub down : (k : ℕ) (d : Row) (b : ℤ) → k < length rows
      → row_bound base costs lows highs (negsuc 0) (slice_index_or rows k d) ≡ Some b → Q b

fold-keeps : (Q : ℤ → Type 0) (base best : ℤ) (costs lows highs : List ℤ) (rows : List Row)
    → Q best → HoldsAt Q base costs lows highs rows
    → Q (fold (raised_by base costs lows highs) best rows)
fold-keeps Q base best costs lows highs [] q h = q
fold-keeps Q base best costs lows highs (r ∷ rs) q h =
    let up = row_bound base costs lows highs (pos 1) r in
    let a = raised-keeps Q best up q (λ b e. h.up 0 r b (omega arith) e) in
    let n = raised-keeps Q (raised best up) (row_bound base costs lows highs (negsuc 0) r) a
    (λ b e. h.down 0 r b (omega arith) e) in
    fold-keeps Q base (raised_by base costs lows highs best r) costs lows highs rs n
    (record {
      up = λ k d b l e. h.up (suc k) d b (omega arith) e;
      down =
          λ k d b l e. h.down (suc k) d b (omega arith) e;
    })

pub greatest-keeps : (Q : ℤ → Type 0) (base : ℤ) (costs lows highs : List ℤ) (rows : List Row)
    → Q base → HoldsAt Q base costs lows highs rows → Q (greatest_of base costs lows highs rows)
greatest-keeps Q base costs lows highs rows q h = fold-keeps Q base base costs lows highs rows q h
