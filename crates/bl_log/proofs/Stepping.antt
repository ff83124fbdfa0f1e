-- What is left of a list while it is read.
use Rattle.std.proofs.Common.{◌≡◌, ◌<◌, ◌∙◌, ℕ, List, [], ◌∷◌, ◌++◌, length, ap, sym, arith}
use Rattle.std.proofs.Common.{append_assoc, append-nil, Ok, Err, true≢false}
use Rattle.std.specs.Prelude.{All, Result, MatchResult, IsErr, IsErrAnd}
use Rattle.std.proofs.lemmas.List.{length-append}
use Rattle.std.proofs.lemmas.List.Elements.{All-head, All-tail}
use Rattle.bl_log.specs.declared.fault.Miss.{Miss}
use Rattle.bl_log.specs.declared.fault.Miss.TheVariants.{Memory}
use Rattle.bl_log.specs.Spaced.{Text, each}
use Rattle.bl_log.specs.Log.{natural}
use Rattle.bl_log.specs.Fits.{IsU32}

pub err_stays : {X : Type 0} (r : Result X Miss) (e : Miss) (P : X → Type 0) → IsErr r
    × IsErrAnd r (λ x. x ≡ e) → e ≡ Memory → MatchResult r P (λ x. x ≡ Memory)
err_stays (Ok y) e P h m = absurd (true≢false (sym h.0))
err_stays (Err y) e P h m = h.1 ∙ m

-- the words of these elements, and then `rest`, are still to be read
pub record IsLeft {X : Type 0} (words : X → List Text) (fits : X → Type 0) (all read : List X)
    (now rest : List Text) : Type 0 where
  pub left : List X
  pub all_is : all ≡ read ++ left
  pub laid : now ≡ each words left ++ rest
  pub fit : All fits left

pub record IsNext {X : Type 0} (words : X → List Text) (fits : X → Type 0) (all read : List X)
    (now rest : List Text) : Type 0 where
  pub x : X
  pub left : List X
  pub all_is : all ≡ read ++ x ∷ left
  pub laid : now ≡ words x ++ (each words left ++ rest)
  pub fit : fits x
  pub fits_left : All fits left

module _ {X : Type 0} (words : X → List Text) (fits : X → Type 0) (all read : List X)
    (now rest : List Text) where
  split : (left : List X) → all ≡ read ++ left → now ≡ each words left ++ rest → All fits left
      → length read < length all → IsNext words fits all read now rest
  split [] is laid f below = absurd (omega (arith, below, ap length (is ∙ append-nil read)))
  split (x ∷ left) is laid f below = record {
    x = x;
    left = left;
    all_is = is;
    laid = laid ∙ append_assoc (words x) (each words left) rest;
    fit = All-head fits x left f;
    fits_left = All-tail fits x left f;
  }

  pub next_left : IsLeft words fits all read now rest → length read < length all
      → IsNext words fits all read now rest
  next_left h below = split h.left h.all_is h.laid h.fit below

  none : (left : List X) → all ≡ read ++ left → now ≡ each words left ++ rest → length read
      ≡ length all → (read ≡ all) × (now ≡ rest)
  none [] is laid same = (sym (is ∙ append-nil read), laid)
  none (x ∷ left) is laid same =
      absurd (omega (arith, same, ap length is, length-append read (x ∷ left)))

  pub none_left : IsLeft words fits all read now rest → length read ≡ length all → (read ≡ all)
      × (now ≡ rest)
  none_left h same = none h.left h.all_is h.laid same

  pub after : (n : IsNext words fits all read now rest) (y : X) (list : List X) (new : List Text)
      → y ≡ n.x → list ≡ read ++ y ∷ [] → new ≡ each words n.left ++ rest
      → IsLeft words fits all list new rest
  after n y list new same pushed laid = record {
    left = n.left;
    all_is = n.all_is ∙ sym (append_assoc read (n.x ∷ []) n.left)
        ∙ ap (λ (l : List X). l ++ n.left) (ap (λ (z : X). read ++ z ∷ []) (sym same) ∙ sym pushed);
    laid = laid;
    fit = n.fits_left;
  }

-- numbers as far as the end of the line
first_number : (all read left : List ℕ) (w : Text) (ws : List Text) → all ≡ read ++ left → w ∷ ws
    ≡ each natural left ++ [] → All IsU32 left → IsNext natural IsU32 all read (w ∷ ws) []
first_number all read [] w ws is laid f = cc
first_number all read (x ∷ left) w ws is laid f =
    record {
      x = x;
      left = left;
      all_is = is;
      laid = laid;
      fit =
          All-head IsU32 x left f;
      fits_left = All-tail IsU32 x left f;
    }

pub next_number : (all read : List ℕ) (now : List Text) (w : Text) (ws : List Text)
    → IsLeft natural IsU32 all read now [] → now ≡ w ∷ ws
    → IsNext natural IsU32 all read (w ∷ ws) []
next_number all read now w ws h is = first_number all read h.left w ws h.all_is (sym is ∙ h.laid)
    h.fit

no_number : (all read left : List ℕ) → all ≡ read ++ left → [] ≡ each natural left ++ [] → read
    ≡ all
no_number all read [] is laid = sym (is ∙ append-nil read)
no_number all read (x ∷ left) is laid = cc

pub last_number : (all read : List ℕ) (now : List Text) → IsLeft natural IsU32 all read now []
    → now ≡ [] → read ≡ all
last_number all read now h is = no_number all read h.left h.all_is (sym is ∙ h.laid)

pub word_of : (w v : Text) (ws vs : List Text) → w ∷ ws ≡ v ∷ vs → w ≡ v
word_of w v ws vs e = cc

pub words_behind : (w v : Text) (ws vs : List Text) → w ∷ ws ≡ v ∷ vs → ws ≡ vs
words_behind w v ws vs e = cc
