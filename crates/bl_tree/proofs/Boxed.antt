-- The test of a box, from the front.
use Rattle.std.proofs.Common.{◌≡◌, ℕ, ◌≤◌, List, [], ◌∷◌, length, refl, ap, sym, ◌∙◌, Bool, true}
use Rattle.std.proofs.Common.{false}
use Rattle.std.specs.Prelude.{ℤ, drop, ◌&&◌}
use Rattle.std.proofs.lemmas.List.{drop_all}
use Rattle.bl_journal.specs.States.{has_point}

pub has_point-right : (lows highs : List ℤ) (i : ℕ) → length highs ≤ i
    → has_point (drop i lows) (drop i highs) ≡ true
has_point-right lows highs i h = ap (has_point (drop i lows)) (drop_all i highs h)
    ∙ none (drop i lows)
  where
    none : (l : List ℤ) → has_point l [] ≡ true
    none [] = refl
    none (x ∷ l) = refl

pub ordered_end : (a b whole : Bool) → whole ≡ (a && b) → b ≡ true → a ≡ whole
ordered_end true b whole e f = sym (e ∙ f)
ordered_end false b whole e f = sym e
