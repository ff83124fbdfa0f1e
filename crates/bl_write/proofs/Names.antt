-- Names in lists, and what the written numbers meet.
use Rattle.std.proofs.Common.{◌≡◌, ◌≢◌, ◌<◌, ◌≤◌, ◌^◌, ◌∙◌, ◌&&◌, ◌||◌, ℕ, Bool, true, false}
use Rattle.std.proofs.Common.{cond, List, [], ◌∷◌, ◌++◌, length, ap, sym, refl, arith, suc}
use Rattle.std.proofs.Common.{Option, Some, None, All, nat_abs}
use Rattle.std.specs.Prelude.{AllPairs, Ok, is_some, option_map, ◌==◌}
use Rattle.std.proofs.lemmas.Bool.{false_from_ne_true}
use Rattle.bl_problem.specs.Program.{IsName, IsRowName}
use Rattle.bl_cards.specs.declared.kind.Role.{Role}
use Rattle.bl_cards.specs.Said.{Cell, RowLine, place_of, same}
use Rattle.bl_cards.specs.Lines.{has_cell, is_extra, number_at, role_of}
use Rattle.bl_cards.proofs.Differing.{same_is, same_self}
use Rattle.bl_cards.proofs.Grids.{has_is, rows_in-none}
use Rattle.bl_num.specs.Texts.{text_of}
use Rattle.bl_write.specs.Layout.{Text}
use Rattle.bl_write.specs.Written.{Amount}
use Rattle.bl_write.proofs.Numbers.{decimal_in, number_name, number_reads}
use Rattle.bl_write.proofs.States.{cell_said}

pub other_name : (a b : Text) → a ≢ b → same a b ≡ false
other_name a b other = false_from_ne_true (same a b) (λ e. other (same_is a b e))

pub turned : (a b : Text) → a ≢ b → b ≢ a
turned a b other = λ e. other (sym e)

-- ---- pairs

pub pairs_head : {X : Type 0} (R : X → X → Type 0) (x : X) (xs : List X) → AllPairs R (x ∷ xs)
    → All (R x) xs
pairs_head R x xs pairs k d k_in = pairs 0 (suc k) d (omega arith) (omega arith)

pub pairs_tail : {X : Type 0} (R : X → X → Type 0) (x : X) (xs : List X) → AllPairs R (x ∷ xs)
    → AllPairs R xs
pairs_tail R x xs pairs i j d i_lt j_in = pairs (suc i) (suc j) d (omega arith) (omega arith)

-- ---- amounts

-- an amount of a row that was said, whose number is within the limits
pub record IsKnown (rows : List RowLine) (a : Amount) : Type 0 where
  pub role : Role
  pub known : role_of rows a.name ≡ Some role
  pub counts : is_extra role ≡ false
  pub name : IsRowName a.name
  pub small : nat_abs a.value ≤ 10 ^ 27
  pub few : a.places ≤ 27

pub number_at-known : (rows : List RowLine) (a : Amount) → IsKnown rows a
    → number_at (text_of a.value a.places) ≡ Ok (decimal_in a.value a.places)
number_at-known rows a k = (number_reads a.value a.places k.small k.few).read

pub known_word : (rows : List RowLine) (a : Amount) → IsKnown rows a
    → IsName (text_of a.value a.places)
known_word rows a k = let s = k.small in number_name a.value a.places (omega (arith, s))

abbrev pub Apart : Amount → Amount → Type 0
Apart a b = a.name ≢ b.name

-- ---- cells

-- the column has no number in the rows of these amounts
abbrev pub AreNew : List Cell → ℕ → List Amount → Type 0
AreNew cells j amounts = All (λ a. has_cell cells j a.name ≡ false) amounts

has_push : (cells : List Cell) (c : Cell) (j : ℕ) (row : Text) → has_cell cells j row ≡ false
    → same row c.row ≡ false → has_cell (cells ++ c ∷ []) j row ≡ false
has_push [] c j row h n = rw n (last (c.column == j))
  where
    last : (t : Bool) → ((t && false) || false) ≡ false
    last true = refl
    last false = refl
has_push (x ∷ cells) c j row h n = by (x.column == j && same row x.row) h (has_push cells c j row)
  where
    by : (t : Bool) → (t || has_cell cells j row) ≡ false
        → (has_cell cells j row ≡ false → same row c.row ≡ false
        → has_cell (cells ++ c ∷ []) j row ≡ false) → (t || has_cell (cells ++ c ∷ []) j row)
        ≡ false
    by true e ih = absurd cc
    by false e ih = ih e n

pub new_push : (cells : List Cell) (j : ℕ) (a : Amount) (amounts : List Amount)
    → AreNew cells j amounts → All (Apart a) amounts
    → AreNew (cells ++ cell_said j a ∷ []) j amounts
new_push cells j a amounts new apart k d k_in =
    has_push cells (cell_said j a) j _ (new k d k_in)
    (other_name _ a.name (turned a.name _ (apart k d k_in)))

-- a column that is new has no number
pub new_column : (cells : List Cell) (j : ℕ) (amounts : List Amount)
    → All (λ (c : Cell). c.column < j) cells → AreNew cells j amounts
new_column cells j amounts before k d k_in = no_number _
  where
    no_number : (row : Text) → has_cell cells j row ≡ false
    no_number row = has_is cells j row ∙ ap (λ (rs : List Text). is_some (place_of rs row))
        (rows_in-none cells j before)

-- ---- places

pub place_push : (names : List Text) (name : Text) → place_of names name ≡ None
    → place_of (names ++ name ∷ []) name ≡ Some (length names)
place_push [] name none = rw (same_self name) refl
place_push (n ∷ names) name none =
    by (same name n) refl (place_of names name) refl none (place_push names name)
  where
    by : (t : Bool) → same name n ≡ t → (o : Option ℕ) → place_of names name ≡ o
        → cond t (Some 0) (option_map suc o) ≡ None → (place_of names name ≡ None
        → place_of (names ++ name ∷ []) name ≡ Some (length names))
        → place_of (n ∷ (names ++ name ∷ [])) name ≡ Some (suc (length names))
    by true e o f g ih = absurd cc
    by false e None f g ih = rw (e, ih f) refl
    by false e (Some i) f g ih = absurd cc

pub place_absent : (names : List Text) (name other : Text) → place_of names name ≡ None
    → other ≢ name → place_of (names ++ other ∷ []) name ≡ None
place_absent [] name other none apart = rw (other_name name other (turned other name apart)) refl
place_absent (n ∷ names) name other none apart =
    by (same name n) refl (place_of names name) refl none
    (λ f. place_absent names name other f apart)
  where
    by : (t : Bool) → same name n ≡ t → (o : Option ℕ) → place_of names name ≡ o
        → cond t (Some 0) (option_map suc o) ≡ None
        → (place_of names name ≡ None → place_of (names ++ other ∷ []) name ≡ None)
        → place_of (n ∷ (names ++ other ∷ [])) name ≡ None
    by true e o f g ih = absurd cc
    by false e None f g ih = rw (e, ih f) refl
    by false e (Some i) f g ih = absurd cc
