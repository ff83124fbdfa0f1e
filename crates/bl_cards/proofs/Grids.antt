-- The rows of the last column, by name.
use Rattle.std.proofs.Common.{Ok, Err, ◌≡◌, ℕ, suc, ◌-◌, ◌<◌, Bool, true, false, cond, ◌&&◌, ◌||◌}
use Rattle.std.proofs.Common.{List, [], ◌∷◌, ◌++◌, map, length, All, refl, sym, ap, ◌∙◌, arith}
use Rattle.std.specs.Prelude.{is_some, filter, ◌==◌}
use Rattle.std.proofs.lemmas.Bool.Decides.{nat_tests}
use Rattle.bl_num.specs.declared.Decimal.{Decimal}
use Rattle.bl_cards.specs.declared.kind.What.TheVariants as what
use Rattle.bl_cards.specs.Said.{same, place_of, Cell, Grid}
use Rattle.bl_cards.specs.Lines.{has_cell, add_cell}
use Rattle.bl_cards.specs.Views.{rows_in}
use Rattle.bl_cards.proofs.Places.{place_more}

more : (t : Bool) (c : Cell) (row : List ℕ) (rows : List (List ℕ)) (h : Bool) → h
    ≡ is_some (place_of rows row) → ((t && same row c.row) || h)
    ≡ is_some (place_of (cond t (c.row ∷ rows) rows) row)
more true c row rows h e = ap (λ (b : Bool). same row c.row || b) e
    ∙ sym (place_more (same row c.row) (place_of rows row))
more false c row rows h e = e

kept : (t : Bool) (c : Cell) (cells : List Cell)
    → map (λ (d : Cell). d.row) (cond t (c ∷ cells) cells)
    ≡ cond t (c.row ∷ map (λ (d : Cell). d.row) cells) (map (λ (d : Cell). d.row) cells)
kept true c cells = refl
kept false c cells = refl

-- a column has a number in the rows that are kept for it
pub has_is : (cells : List Cell) (j : ℕ) (row : List ℕ) → has_cell cells j row
    ≡ is_some (place_of (rows_in cells j) row)
has_is [] j row = refl
has_is (c ∷ cells) j row =
    more (c.column == j) c row (rows_in cells j) (has_cell cells j row) (has_is cells j row)
    ∙ ap (λ (rows : List (List ℕ)). is_some (place_of rows row))
    (sym (kept (c.column == j) c (filter (λ (d : Cell). d.column == j) cells)))

-- a column that is new has none
pub rows_in-none : (cells : List Cell) (n : ℕ) → All (λ (c : Cell). c.column < n) cells
    → rows_in cells n ≡ []
rows_in-none [] n h = refl
rows_in-none (c ∷ cells) n h =
    let other : (c.column == n) ≡ false = let l = h 0 c (omega arith) in grind (arith, nat_tests) in
    rw other (rows_in-none cells n (λ i d l. h (suc i) d (omega arith)))

put_by : (t : Bool) (c d : Cell) (cells : List Cell) (rows : List (List ℕ))
    → map (λ (e : Cell). e.row) cells ≡ rows
    → map (λ (e : Cell). e.row) (cond t (c ∷ cells) cells) ≡ cond t (c.row ∷ rows) rows
put_by true c d cells rows e = ap (λ (rs : List (List ℕ)). c.row ∷ rs) e
put_by false c d cells rows e = e

abbrev pub one_cell : Grid → List ℕ → Decimal → Cell
one_cell g row z = record { column = length g.names - 1; row = row; number = z }

-- a second number of the column in the row is refused
pub put_refused : (g : Grid) (here : List (List ℕ)) (row : List ℕ) (z : Decimal) → here
    ≡ rows_in g.cells (length g.names - 1) → is_some (place_of here row) ≡ true → add_cell g row z
    ≡ Err what.Twice
put_refused g here row z h s =
    let t : has_cell g.cells (length g.names - 1) row ≡ true =
    has_is g.cells (length g.names - 1) row
    ∙ ap (λ (rs : List (List ℕ)). is_some (place_of rs row)) (sym h) ∙ s in
    rw t refl

-- the first one is put
pub put_done : (g : Grid) (here : List (List ℕ)) (row : List ℕ) (z : Decimal) (cells : List Cell)
    → here ≡ rows_in g.cells (length g.names - 1) → is_some (place_of here row) ≡ false → cells
    ≡ g.cells ++ one_cell g row z ∷ []
    → add_cell g row z ≡ Ok (record g { cells = cells })
put_done g here row z cells h s e =
    let t : has_cell g.cells (length g.names - 1) row ≡ false =
    has_is g.cells (length g.names - 1) row
    ∙ ap (λ (rs : List (List ℕ)). is_some (place_of rs row)) (sym h) ∙ s in
    rw (t, e) refl
