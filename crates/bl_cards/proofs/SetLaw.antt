-- The right sides, the ranges and the cards are those that the lines of their sections give.
use Rattle.std.proofs.Common.{◌≡◌, ℕ, Bool, true, false, cond, List, [], ◌∷◌, ◌++◌, Option, Some}
use Rattle.std.proofs.Common.{None, Result, Ok, refl, sym, ap, subst, ◌∙◌, ℤ, pos}
use Rattle.std.specs.Prelude.{filter}
use Rattle.std.specs.List.{flat_map}
use Rattle.std.proofs.lemmas.List.{append-nil, append_assoc}
use Rattle.std.proofs.lemmas.List.Concat.{flat_map-cons}
use Rattle.bl_num.specs.declared.Decimal.{Decimal}
use Rattle.bl_cards.specs.declared.kind.What.{What}
use Rattle.bl_cards.specs.declared.kind.What.TheVariants as what
use Rattle.bl_cards.specs.declared.kind.Role.{Role}
use Rattle.bl_cards.specs.declared.kind.Act.{Act}
use Rattle.bl_cards.specs.declared.kind.Section.TheVariants.{Rhs, Ranges, Bounds}
use Rattle.bl_cards.specs.Said.{place_of, RowLine, Given, Card, SetOf, Said, no_set, refuse}
use Rattle.bl_cards.specs.Said.{there_or}
use Rattle.bl_cards.specs.Lines.{role_of, is_passed, number_at, bound_at, act_of, has_number}
use Rattle.bl_cards.specs.Lines.{is_first_set, with_set, has_given, add_given, given, given_two}
use Rattle.bl_cards.specs.Lines.{given_line, add_card, number_card, plain_card, number_words}
use Rattle.bl_cards.specs.Lines.{plain_words, bounds_line}
use Rattle.bl_cards.specs.Sections.{lines_in, in_turn, IsReadBySections}
use Rattle.bl_cards.specs.Sets.{set_or, first_set, is_of, set_in_pairs, given_on, pairs_on}
use Rattle.bl_cards.specs.Sets.{bound_or_zero, set_behind, card, card_behind, set_by, card_by}
use Rattle.bl_cards.specs.Sets.{set_in_card, cards_on, AreGivenByLines}
use Rattle.bl_cards.proofs.Coherent.{went, there}
use Rattle.bl_cards.proofs.Differing.{same_is, same_self}

-- ---- sets

first_stays : (set_in : List (List ℕ) → Option (List ℕ)) (name : List ℕ)
    (lines : List (List (List ℕ))) → first_set set_in (Some name) lines ≡ Some name
first_stays set_in name [] = refl
first_stays set_in name (words ∷ lines) = first_stays set_in name lines

-- once a line is taken, it is known whether it is of the first set
settled : (set_in : List (List ℕ) → Option (List ℕ)) (now mine : Option (List ℕ))
    (lines : List (List (List ℕ))) → is_of (first_set set_in (set_or now mine) lines) mine
    ≡ is_of (set_or now mine) mine
settled set_in now None lines = refl
settled set_in None (Some name) lines =
    ap (λ (s : Option (List ℕ)). is_of s (Some name)) (first_stays set_in name lines)
settled set_in (Some first) (Some name) lines =
    ap (λ (s : Option (List ℕ)). is_of s (Some name)) (first_stays set_in first lines)

-- what a line of a section does to what its set gave
record Takes {A : Type 0} (s new : SetOf A) (mine : Option (List ℕ)) (gives : List A) : Type 0 where
  set : new.set ≡ set_or s.set mine
  given_is : new.given ≡ s.given ++ cond (is_of (set_or s.set mine) mine) gives []

-- the lines of a section, taken in turn
module _ {A : Type 0} (take : SetOf A → List (List ℕ) → Result (SetOf A) What)
    (set_in : List (List ℕ) → Option (List ℕ)) (gives : List (List ℕ) → List A)
    (takes : (s new : SetOf A) (words : List (List ℕ)) → take s words ≡ Ok new
    → Takes s new (set_in words) (gives words)) where
  more : (t : Bool) (words : List (List ℕ)) (lines : List (List (List ℕ)))
      → cond t (gives words) [] ++ flat_map gives lines
      ≡ flat_map gives (cond t (words ∷ lines) lines)
  more true words lines = sym (flat_map-cons gives words lines)
  more false words lines = refl

  in_turn_gives : (lines : List (List (List ℕ))) (s new : SetOf A) → in_turn take s lines ≡ Ok new
      → new.given ≡ s.given ++ flat_map gives
      (filter (λ words. is_of (first_set set_in s.set lines) (set_in words)) lines)
  in_turn_gives [] s new e = let is : s ≡ new = cc in rw (← is) (sym (append-nil s.given))
  in_turn_gives (words ∷ lines) s new e =
      let a = went (take s words) (λ next. in_turn take next lines) new e in
      let k = takes s a.x words a.is in
      let r = in_turn_gives lines a.x new a.then in
      let first = first_set set_in (set_or s.set (set_in words)) lines in
      let rest = filter (λ ws. is_of first (set_in ws)) lines in
      let same_first : first_set set_in a.x.set lines ≡ first =
      ap (λ (t : Option (List ℕ)). first_set set_in t lines) k.set in
      r
      ∙ ap (λ (f : Option (List ℕ)). a.x.given
      ++ flat_map gives (filter (λ ws. is_of f (set_in ws)) lines)) same_first
      ∙ ap (λ (xs : List A). xs ++ flat_map gives rest) k.given_is
      ∙ append_assoc s.given (cond (is_of (set_or s.set (set_in words)) (set_in words))
      (gives words) []) (flat_map gives rest)
      ∙ ap (λ (t : Bool). s.given ++ (cond t (gives words) [] ++ flat_map gives rest))
      (sym (settled set_in s.set (set_in words) lines))
      ∙ ap (λ (xs : List A). s.given ++ xs) (more (is_of first (set_in words)) words rest)

-- ---- RHS and RANGES

module _ (o : Bool) (rows : List RowLine) where
  record Adds (s new : SetOf Given) (gives : List Given) : Type 0 where
    set : new.set ≡ s.set
    given_is : new.given ≡ s.given ++ gives

  put_by : (t : Bool) (s new : SetOf Given) (row : List ℕ) (d : Decimal)
      → cond t (Ok s) (add_given s row d) ≡ Ok new
      → Adds s new (cond t [] (record { row = row; number = d } ∷ []))
  put_by true s new row d e = let is : s ≡ new =
      cc in rw (← is) (record { set = refl; given_is = sym (append-nil s.given) })
  put_by false s new row d e =
      let a = went (refuse (has_given s.given row) what.Twice) _ new e in
      let is : record s { given = s.given ++ record { row = row; number = d } ∷ [] } ≡ new = cc in
      rw (← is) (record { set = refl; given_is = refl })

  given_is_on : (row word : List ℕ) (role : Role) (d : Decimal) → role_of rows row ≡ Some role
      → number_at word ≡ Ok d → given_on o (role_of rows row) row word
      ≡ cond (is_passed o role) [] (record { row = row; number = d } ∷ [])
  given_is_on row word role d a b = rw (a, b) refl

  one : (s new : SetOf Given) (row word : List ℕ) → given o rows s row word ≡ Ok new
      → Adds s new (given_on o (role_of rows row) row word)
  one s new row word e =
      let a = went (there_or what.UnknownRow (role_of rows row)) _ new e in
      let b = went (number_at word) _ new a.then in
      subst (Adds s new)
      (sym (given_is_on row word a.x b.x (there what.UnknownRow (role_of rows row) a.x a.is)
      b.is)) (put_by (is_passed o a.x) s new row b.x b.then)

  two : (s new : SetOf Given) (row word row2 word2 : List ℕ)
      → given_two o rows s row word row2 word2 ≡ Ok new
      → Adds s new (given_on o (role_of rows row) row word
      ++ given_on o (role_of rows row2) row2 word2)
  two s new row word row2 word2 e =
      let a = went (given o rows s row word) (λ first. given o rows first row2 word2) new e in
      let k = one s a.x row word a.is in
      let m = one a.x new row2 word2 a.then in
      record {
        set = m.set ∙ k.set;
        given_is = m.given_is ∙ ap (λ (xs : List Given). xs ++ given_on o (role_of rows row2) row2
            word2) k.given_is ∙ append_assoc s.given (given_on o (role_of rows row) row word)
            (given_on o (role_of rows row2) row2 word2);
      }

  -- a line that names no set
  unnamed : (s new : SetOf Given) (gives : List Given) → Adds s new gives → Takes s new None gives
  unnamed s new gives k = record { set = k.set ∙ none s.set; given_is = k.given_is }
    where
      none : (t : Option (List ℕ)) → t ≡ set_or t None
      none None = refl
      none (Some x) = refl

-- a line that names a set
of_set : (first : Option (List ℕ)) (name : List ℕ) → is_first_set first name ≡ true
    → (Some name ≡ set_or first (Some name)) × (is_of (set_or first (Some name)) (Some name) ≡ true)
of_set None name e = (refl, same_self name)
of_set (Some first) name e = (ap Some (same_is name first e), e)

not_of_set : (first : Option (List ℕ)) (name : List ℕ) → is_first_set first name ≡ false
    → (first ≡ set_or first (Some name)) × (is_of (set_or first (Some name)) (Some name) ≡ false)
not_of_set None name e = absurd cc
not_of_set (Some first) name e = (refl, e)

named_by : {A : Type 0} (t : Bool) (s new : SetOf A) (name : List ℕ) (r : Result (SetOf A) What)
    (gives : List A) → is_first_set s.set name ≡ t → cond t r (Ok s) ≡ Ok new
    → (r ≡ Ok new → (new.set ≡ Some name) × (new.given ≡ s.given ++ gives))
    → Takes s new (Some name) gives
named_by true s new name r gives f e h =
    let k = h e in
    let m = of_set s.set name f in
    record { set = k.0 ∙ m.0; given_is = rw (m.1) k.1 }
named_by false s new name r gives f e h =
    let is : s ≡ new = cc in
    let m = not_of_set s.set name f in
    rw (← is) (record { set = m.0; given_is = rw (m.1) (sym (append-nil s.given)) })

pairs_take : (o : Bool) (rows : List RowLine) (s new : SetOf Given) (words : List (List ℕ))
    → given_line o rows s words ≡ Ok new → Takes s new (set_in_pairs words) (pairs_on o rows words)
pairs_take o rows s new [] e = absurd cc
pairs_take o rows s new (a ∷ []) e = absurd cc
pairs_take o rows s new (row ∷ word ∷ []) e =
    unnamed o rows s new (given_on o (role_of rows row) row word) (one o rows s new row word e)
pairs_take o rows s new (set ∷ row ∷ word ∷ []) e =
    named_by (is_first_set s.set set) s new set (given o rows (with_set s set) row word)
    (given_on o (role_of rows row) row word) refl e
    (λ f. let k = one o rows (with_set s set) new row word f in (k.set, k.given_is))
pairs_take o rows s new (row ∷ word ∷ row2 ∷ word2 ∷ []) e =
    unnamed o rows s new (given_on o (role_of rows row) row word
    ++ given_on o (role_of rows row2) row2 word2) (two o rows s new row word row2 word2 e)
pairs_take o rows s new (set ∷ row ∷ word ∷ row2 ∷ word2 ∷ []) e =
    named_by (is_first_set s.set set) s new set (given_two o rows (with_set s set) row word row2
    word2) (given_on o (role_of rows row) row word
    ++ given_on o (role_of rows row2) row2 word2) refl e
    (λ f. let k = two o rows (with_set s set) new row word row2 word2 f in (k.set, k.given_is))
pairs_take o rows s new (a ∷ b ∷ c ∷ d ∷ f ∷ g ∷ words) e = absurd cc

-- ---- BOUNDS

number_added : (columns : List (List ℕ)) (a : Act) (s new : SetOf Card) (column word : List ℕ)
    → number_card columns a s column word ≡ Ok new → (new.set ≡ s.set)
    × (new.given ≡ s.given ++ card a column (bound_or_zero (bound_at word)))
number_added columns a s new column word e =
    let x = went (there_or what.UnknownColumn (place_of columns column)) _ new e in
    let y = went (bound_at word) _ new x.then in
    let is : add_card s column a y.x ≡ new = cc in
    let n : bound_or_zero (bound_at word) ≡ y.x = ap bound_or_zero y.is in
    rw (← is) (refl, ap (λ (z : ℤ). s.given ++ card a column z) (sym n))

plain_added : (columns : List (List ℕ)) (a : Act) (s new : SetOf Card) (column : List ℕ)
    → plain_card columns a s column ≡ Ok new → (new.set ≡ s.set)
    × (new.given ≡ s.given ++ card a column (pos 0))
plain_added columns a s new column e =
    let x = went (there_or what.UnknownColumn (place_of columns column)) _ new e in
    let is : add_card s column a (pos 0) ≡ new = cc in
    rw (← is) (refl, refl)

no_name : (s new : SetOf Card) (gives : List Card) → (new.set ≡ s.set)
    × (new.given ≡ s.given ++ gives) → Takes s new None gives
no_name s new gives k = record { set = k.0 ∙ none s.set; given_is = k.1 }
  where
    none : (t : Option (List ℕ)) → t ≡ set_or t None
    none None = refl
    none (Some x) = refl

words_take : (columns : List (List ℕ)) (a : Act) (t : Bool) (s new : SetOf Card)
    (words : List (List ℕ)) → cond t (number_words columns a s words)
    (plain_words columns a s words) ≡ Ok new
    → Takes s new (set_behind t words) (card_behind a t words)
words_take columns a true s new [] e = absurd cc
words_take columns a true s new (x ∷ []) e = absurd cc
words_take columns a true s new (column ∷ word ∷ []) e =
    no_name s new (card a column (bound_or_zero (bound_at word)))
    (number_added columns a s new column word e)
words_take columns a true s new (set ∷ column ∷ word ∷ []) e =
    named_by (is_first_set s.set set) s new set
    (number_card columns a (with_set s set) column word)
    (card a column (bound_or_zero (bound_at word))) refl e
    (λ f. number_added columns a (with_set s set) new column word f)
words_take columns a true s new (x ∷ y ∷ z ∷ u ∷ words) e = absurd cc
words_take columns a false s new [] e = absurd cc
words_take columns a false s new (column ∷ []) e =
    no_name s new (card a column (pos 0)) (plain_added columns a s new column e)
words_take columns a false s new (set ∷ column ∷ []) e =
    named_by (is_first_set s.set set) s new set (plain_card columns a (with_set s set) column)
    (card a column (pos 0)) refl e
    (λ f. plain_added columns a (with_set s set) new column f)
words_take columns a false s new (set ∷ column ∷ unread ∷ []) e =
    named_by (is_first_set s.set set) s new set (plain_card columns a (with_set s set) column)
    (card a column (pos 0)) refl e
    (λ f. plain_added columns a (with_set s set) new column f)
words_take columns a false s new (x ∷ y ∷ z ∷ u ∷ words) e = absurd cc

card_is : (o : Option Act) (a : Act) (s new : SetOf Card) (words : List (List ℕ)) → o ≡ Some a
    → Takes s new (set_behind (has_number a) words) (card_behind a (has_number a) words)
    → Takes s new (set_by o words) (card_by o words)
card_is o a s new words e k = rw e k

cards_take : (columns : List (List ℕ)) (s new : SetOf Card) (words : List (List ℕ))
    → bounds_line columns s words ≡ Ok new → Takes s new (set_in_card words) (cards_on words)
cards_take columns s new [] e = absurd cc
cards_take columns s new (kind ∷ words) e =
    let a = went (there_or what.Words (act_of kind)) _ new e in
    card_is (act_of kind) a.x s new words (there what.Words (act_of kind) a.x a.is)
    (words_take columns a.x (has_number a.x) s new words a.then)

-- ---- the sections

pub given_by_lines : (lines : List (List ℕ)) (s : Said) → IsReadBySections lines s
    → AreGivenByLines lines s
given_by_lines lines s h =
    record {
      rhs = in_turn_gives (given_line false s.rows) set_in_pairs (pairs_on false s.rows)
          (pairs_take false s.rows) (lines_in Rhs lines) no_set s.rhs h.rhs;
      ranges = in_turn_gives (given_line true s.rows) set_in_pairs (pairs_on true s.rows)
          (pairs_take true s.rows) (lines_in Ranges lines) no_set s.ranges h.ranges;
      cards = in_turn_gives (bounds_line s.columns.names) set_in_card cards_on
          (cards_take s.columns.names) (lines_in Bounds lines) no_set s.bounds h.bounds;
    }
