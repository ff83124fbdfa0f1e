-- The ends of the columns, by their cards.
use Rattle.std.proofs.Common.{◌≡◌, ◌≢◌, ◌∙◌, ◌&&◌, ℤ, pos, Bool, true, false, cond, List, [], ◌∷◌}
use Rattle.std.proofs.Common.{map, get_or, ap, refl, Option, Some, None, All, not}
use Rattle.std.specs.Prelude.{AllPairs, int_lt}
use Rattle.std.proofs.lemmas.List.Elements.{All-cons, All-head, All-nil, All-tail}
use Rattle.bl_problem.specs.declared.problem.Column.{Column}
use Rattle.bl_cards.specs.Said.{Card}
use Rattle.bl_cards.proofs.Differing.{same_self}
use Rattle.bl_mps.specs.declared.ends.Ends.{Ends}
use Rattle.bl_mps.specs.Meaning.{are_bounded, are_whole, carded, cards_of, ends_set}
use Rattle.bl_write.specs.Layout.{Text}
use Rattle.bl_write.proofs.ColumnLines.{DifferentNames}
use Rattle.bl_write.proofs.Names.{other_name, pairs_head, pairs_tail, turned}
use Rattle.bl_write.proofs.States.{all_whole, bounds_said, cards_said, high_card, low_card}
use Rattle.bl_write.proofs.States.{names_of}

pub given_cards : (columns : List Column) → (bounds_said columns).given ≡ cards_said columns
given_cards [] = refl
given_cards (c ∷ columns) = refl

abbrev pub ends_in : Column → Ends
ends_in c = record { low = Some c.low; high = Some c.high; low_is_said = true; is_whole = false }

low_stays : (t : Bool) (low : ℤ) → cond (t && not true) None (Some low) ≡ Some low
low_stays true low = refl
low_stays false low = refl

both_cards : (c : Column) → carded (low_card c ∷ high_card c ∷ []) ≡ Some (ends_in c)
both_cards c =
    ap (λ low. Some (record {
      low = low;
      high = Some c.high;
      low_is_said = true;
      is_whole =
          false;
    })) (low_stays (int_lt c.high (pos 0)) c.low)

no_cards : (columns : List Column) (name : Text) → All (λ (c : Column). name ≢ c.name) columns
    → cards_of (cards_said columns) name ≡ []
no_cards [] name others = refl
no_cards (c ∷ columns) name others =
    rw (other_name name c.name (All-head (λ (d : Column). name ≢ d.name) c columns others))
    (no_cards columns name (All-tail (λ (d : Column). name ≢ d.name) c columns others))

cards_found : (columns : List Column) → AllPairs DifferentNames columns
    → All (λ c. cards_of (cards_said columns) c.name ≡ low_card c ∷ high_card c ∷ []) columns
cards_found [] differ = All-nil (λ (c : Column). cards_of [] c.name ≡ low_card c ∷ high_card c ∷ [])
cards_found (c ∷ columns) differ =
    let apart = pairs_head DifferentNames c columns differ in
    All-cons (λ d. cards_of (cards_said (c ∷ columns)) d.name ≡ low_card d ∷ high_card d ∷ []) c
    columns
    (rw (same_self c.name) (ap (λ cs. low_card c ∷ high_card c ∷ cs)
    (no_cards columns c.name apart)))
    (λ k d lt. rw (other_name _ c.name (turned c.name _ (apart k d lt)))
    (cards_found columns (pairs_tail DifferentNames c columns differ) k d lt))

abbrev pub HasEnds : List Card → Column → Type 0
HasEnds cards c = ends_set cards c.name ≡ Some (ends_in c)

pub ends_found : (columns : List Column) → AllPairs DifferentNames columns
    → All (HasEnds (bounds_said columns).given) columns
ends_found columns differ k d lt =
    rw (given_cards columns) (ap carded (cards_found columns differ k d lt)
    ∙ both_cards (get_or columns k d))

pub whole_all : (ends : Text → Option Ends) (columns : List Column)
    → are_whole (map ends (names_of columns)) (all_whole columns) ≡ true
whole_all ends [] = refl
whole_all ends (c ∷ columns) = whole_all ends columns

pub bounded_all : (ends : Text → Option Ends) (columns : List Column)
    → All (λ c. ends c.name ≡ Some (ends_in c)) columns
    → are_bounded (map ends (names_of columns)) ≡ true
bounded_all ends [] h = refl
bounded_all ends (c ∷ columns) h =
    rw (All-head (λ (d : Column). ends d.name ≡ Some (ends_in d)) c columns h)
    (bounded_all ends columns
    (All-tail (λ (d : Column). ends d.name ≡ Some (ends_in d)) c columns h))
