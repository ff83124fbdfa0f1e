-- What is kept for each name, when one more number or card comes.
use Rattle.std.proofs.Common.{◌≡◌, ℕ, Bool, true, false, cond, ◌&&◌, List, [], ◌∷◌, ◌++◌, map}
use Rattle.std.proofs.Common.{length, get_or, set, replicate, Option, Some, None, refl, sym, ap}
use Rattle.std.proofs.Common.{◌∙◌}
use Rattle.std.specs.Prelude.{filter, not}
use Rattle.std.proofs.lemmas.List.{append-nil, map-append}
use Rattle.std.proofs.lemmas.List.Elements.{filter-append}
use Rattle.std.proofs.lemmas.List.Sums.{fold_push}
use Rattle.bl_mps.specs.declared.entries.Entry.{Entry}
use Rattle.bl_mps.specs.declared.ends.Ends.{Ends}
use Rattle.bl_cards.specs.Said.{same, place_of, Differ, Cell, Card}
use Rattle.bl_mps.specs.Meaning.{is_zero, entries_of, entry_of, cells_of, cards_of, carded}
use Rattle.bl_mps.specs.Meaning.{ends_set, acted, unset, ends_or}
use Rattle.bl_cards.proofs.Differing.{same_self, read_at, same_turned}
use Rattle.bl_mps.proofs.PerName.{written_at, map_same}

-- ---- terms

abbrev counts : List ℕ → Cell → Bool
counts row c = same row c.row && not (is_zero c.number)

one_more : (t : Bool) (xs : List Entry) (c : Cell) → xs ++ map entry_of (cond t (c ∷ []) [])
    ≡ cond t (xs ++ entry_of c ∷ []) xs
one_more true xs c = refl
one_more false xs c = append-nil xs

-- a number puts a term behind those of its row, if it counts
pub entries_push : (cells : List Cell) (c : Cell) (row : List ℕ)
    → entries_of (cells ++ c ∷ []) row
    ≡ cond (counts row c) (entries_of cells row ++ entry_of c ∷ []) (entries_of cells row)
entries_push cells c row =
    ap (map entry_of) (filter-append (counts row) cells (c ∷ []))
    ∙ map-append entry_of (cells_of cells row) (filter (counts row) (c ∷ []))
    ∙ one_more (counts row c) (entries_of cells row) c

and_false : (a : Bool) → (a && false) ≡ false
and_false true = refl
and_false false = refl

-- a zero changes nothing
pub entries_zero : (names : List (List ℕ)) (cells : List Cell) (c : Cell) → is_zero c.number
    ≡ true → map (entries_of cells) names ≡ map (entries_of (cells ++ c ∷ [])) names
entries_zero [] cells c z = refl
entries_zero (n ∷ names) cells c z =
    let e : entries_of (cells ++ c ∷ []) n ≡ entries_of cells n = entries_push cells c n
    ∙ rw (z, and_false (same n c.row)) refl in
    rw (e, ← (entries_zero names cells c z)) refl

others : (cells : List Cell) (c : Cell) (m : List ℕ) → same c.row m ≡ false
    → entries_of (cells ++ c ∷ []) m ≡ entries_of cells m
others cells c m e = entries_push cells c m ∙ rw (same_turned c.row m e) refl

-- so does a number of a row that is none of these
pub entries_unknown : (names : List (List ℕ)) (cells : List Cell) (c : Cell)
    → place_of names c.row ≡ None → map (entries_of cells) names
    ≡ map (entries_of (cells ++ c ∷ [])) names
entries_unknown names cells c e =
    map_same names c.row (entries_of cells) (entries_of (cells ++ c ∷ [])) e (others cells c)

-- another number puts its term at its row's place
pub entries_put : (names : List (List ℕ)) (cells : List Cell) (c : Cell) (i : ℕ)
    (lists : List (List Entry)) (now new : List Entry) → Differ names → place_of names c.row
    ≡ Some i → is_zero c.number ≡ false
    → lists ≡ map (entries_of cells) names → now ≡ get_or lists i now → new ≡ now ++ entry_of c
    ∷ [] → set lists i new ≡ map (entries_of (cells ++ c ∷ [])) names
entries_put names cells c i lists now new d e z h n p =
    let here : entries_of (cells ++ c ∷ []) c.row ≡ new =
    entries_push cells c c.row ∙ rw (same_self c.row, z)
    (ap (λ (ts : List Entry). ts ++ entry_of c ∷ [])
    (sym (n ∙ rw h (read_at names c.row i (entries_of cells) now e))) ∙ sym p) in
    rw (h, ← here) (written_at names c.row i (entries_of cells) (entries_of (cells ++ c ∷ [])) d e
    (others cells c))

-- ---- cards

one_card : (t : Bool) (xs : List Card) (c : Card) → xs ++ cond t (c ∷ []) []
    ≡ cond t (xs ++ c ∷ []) xs
one_card true xs c = refl
one_card false xs c = append-nil xs

pub cards_push : (cards : List Card) (c : Card) (column : List ℕ)
    → cards_of (cards ++ c ∷ []) column
    ≡ cond (same column c.column) (cards_of cards column ++ c ∷ []) (cards_of cards column)
cards_push cards c column =
    filter-append (λ (d : Card). same column d.column) cards (c ∷ [])
    ∙ one_card (same column c.column) (cards_of cards column) c

pub carded_push : (cards : List Card) (c : Card) → carded (cards ++ c ∷ [])
    ≡ Some (acted (ends_or unset (carded cards)) c)
carded_push [] c = refl
carded_push (d ∷ cards) c = ap (λ (e : Ends). Some e) (fold_push acted unset (d ∷ cards) c)

other_cards : (cards : List Card) (c : Card) (m : List ℕ) → same c.column m ≡ false
    → ends_set (cards ++ c ∷ []) m ≡ ends_set cards m
other_cards cards c m e = ap carded (cards_push cards c m ∙ rw (same_turned c.column m e) refl)

pub ends_unknown : (names : List (List ℕ)) (cards : List Card) (c : Card)
    → place_of names c.column ≡ None → map (ends_set cards) names
    ≡ map (ends_set (cards ++ c ∷ [])) names
ends_unknown names cards c e = map_same names c.column (ends_set cards)
    (ends_set (cards ++ c ∷ [])) e (other_cards cards c)

-- a card sets the end of its column
pub ends_put : (names : List (List ℕ)) (cards : List Card) (c : Card) (i : ℕ)
    (ends : List (Option Ends)) (d : Option Ends) (new : Ends) → Differ names
    → place_of names c.column ≡ Some i
    → ends ≡ map (ends_set cards) names → new ≡ acted (ends_or unset (get_or ends i d)) c
    → set ends i (Some new) ≡ map (ends_set (cards ++ c ∷ [])) names
ends_put names cards c i ends d new differ e h p =
    let old : get_or ends i d ≡ ends_set cards c.column =
    rw h (read_at names c.column i (ends_set cards) d e) in
    let here : ends_set (cards ++ c ∷ []) c.column ≡ Some new =
    ap carded (cards_push cards c c.column ∙ rw (same_self c.column) refl)
    ∙ carded_push (cards_of cards c.column) c ∙ rw (p, old) refl in
    rw (h, ← here) (written_at names c.column i (ends_set cards) (ends_set (cards ++ c ∷ []))
    differ e (other_cards cards c))

-- ---- the first ones

pub same_each : {A B : Type 0} (a : B) (xs : List A) → map (λ x. a) xs ≡ replicate (length xs) a
same_each a [] = refl
same_each a (x ∷ xs) = ap (λ (ys : List _). a ∷ ys) (same_each a xs)

-- ---- the term of a number

abbrev entry_by : Bool → Entry → Option Entry
entry_by t x = cond t None (Some x)

pub no_entry : (t : Bool) (x : Entry) → entry_by t x ≡ None → t ≡ true
no_entry true x e = refl
no_entry false x e = absurd cc

pub an_entry : (t : Bool) (x y : Entry) → entry_by t x ≡ Some y → (t ≡ false) × (x ≡ y)
an_entry true x y e = absurd cc
an_entry false x y e = (refl, cc)
