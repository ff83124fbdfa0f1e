-- The bounds that the changes of a chain leave.
use Rattle.std.proofs.Common.{◌≡◌, ℕ, List, [], ◌∷◌, length, refl, ap, sym, ◌∙◌, subst}
use Rattle.std.specs.Prelude.{ℤ}
use Rattle.bl_problem.specs.declared.cut.Cut.{Cut}
use Rattle.bl_mods.specs.Mods.{written}
use Rattle.bl_mods.proofs.Relisting.{length-written}
use Rattle.bl_desc.specs.declared.desc.Desc.{Desc}
use Rattle.bl_desc.specs.declared.change.Change.{Change}
use Rattle.bl_desc.specs.Changes.{changed, AreBelow}
use Rattle.bl_rebuild.specs.Chains.{described, FitInOrder}

abbrev pub lows_after : List (Change Cut) → List ℤ → List ℤ
lows_after [] l = l
lows_after (c ∷ changes) l = lows_after changes (written c.lows l)

abbrev pub highs_after : List (Change Cut) → List ℤ → List ℤ
highs_after [] l = l
highs_after (c ∷ changes) l = highs_after changes (written c.highs l)

-- the places of the bounds that each change sets are in range
abbrev pub BoundsFit : List (Change Cut) → ℕ → ℕ → Type 0
BoundsFit [] lows highs = Unit {0}
BoundsFit (c ∷ changes) lows highs = (AreBelow lows c.lows × AreBelow highs c.highs)
    × BoundsFit changes lows highs

pub lows_described : (changes : List (Change Cut)) (d : Desc Cut) → lows_after changes d.lows
    ≡ (described changes d).lows
lows_described [] d = refl
lows_described (c ∷ changes) d = lows_described changes (changed c d)

pub highs_described : (changes : List (Change Cut)) (d : Desc Cut) → highs_after changes d.highs
    ≡ (described changes d).highs
highs_described [] d = refl
highs_described (c ∷ changes) d = highs_described changes (changed c d)

pub bounds_fit : (changes : List (Change Cut)) (d : Desc Cut) → FitInOrder changes d
    → BoundsFit changes (length d.lows) (length d.highs)
bounds_fit [] d f = tt
bounds_fit (c ∷ changes) d f = (
  (f.0.lows, f.0.highs),
  subst (λ (n : ℕ). BoundsFit changes n (length d.highs)) (length-written c.lows d.lows)
      (subst (λ (n : ℕ). BoundsFit changes (length (written c.lows d.lows)) n)
      (length-written c.highs d.highs) (bounds_fit changes (changed c d) f.1)),
)

pub long_lows : (changes : List (Change Cut)) (l : List ℤ) → length (lows_after changes l)
    ≡ length l
long_lows [] l = refl
long_lows (c ∷ changes) l = long_lows changes (written c.lows l) ∙ length-written c.lows l

pub long_highs : (changes : List (Change Cut)) (l : List ℤ) → length (highs_after changes l)
    ≡ length l
long_highs [] l = refl
long_highs (c ∷ changes) l = long_highs changes (written c.highs l) ∙ length-written c.highs l

-- a description that a change-list leaves has as many bounds
pub described_lows : (changes : List (Change Cut)) (d : Desc Cut)
    → length (described changes d).lows ≡ length d.lows
described_lows changes d = ap length (sym (lows_described changes d)) ∙ long_lows changes d.lows

pub described_highs : (changes : List (Change Cut)) (d : Desc Cut)
    → length (described changes d).highs ≡ length d.highs
described_highs changes d = ap length (sym (highs_described changes d)) ∙ long_highs changes d.highs
