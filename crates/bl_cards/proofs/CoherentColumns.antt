-- Every line of COLUMNS keeps what holds of the section.
use Rattle.std.proofs.Common.{Ok, Err, ◌≡◌, ◌≢◌, ℕ, zero, suc, ◌+◌, ◌-◌, ◌<◌, inl, inr, Bool}
use Rattle.std.proofs.Common.{true, false, cond, not, ◌&&◌, List, [], ◌∷◌, ◌++◌, length, get_or}
use Rattle.std.proofs.Common.{Option, Some, None, All, refl, arith}
use Rattle.std.specs.Prelude.{nat_le, ◌==◌, codes}
use Rattle.std.specs.List.{list_any}
use Rattle.std.proofs.lemmas.List.{length-append}
use Rattle.std.proofs.lemmas.List.Elements.{All-push}
use Rattle.std.proofs.lemmas.List.Quantifiers.{all_pairs_push}
use Rattle.std.proofs.lemmas.Bool.Decides.{nat_tests}
use Rattle.std.proofs.lemmas.Bool.{or_parts}
use Rattle.bl_num.specs.declared.Decimal.{Decimal}
use Rattle.bl_problem.specs.Program.{IsName}
use Rattle.bl_cards.specs.declared.kind.What.TheVariants as what
use Rattle.bl_cards.specs.Said.{same, place_of, RowLine, Cell, Grid, ◌>>=◌, refuse, there_or}
use Rattle.bl_cards.specs.Lines.{role_of, number_at, is_extra, started, at_place, at_column}
use Rattle.bl_cards.specs.Lines.{has_cell, add_cell, cell, column_cell, column_line, is_marker}
use Rattle.bl_cards.specs.Lines.{marker_line, columns_line}
use Rattle.bl_cards.specs.Coherence.{IsRead, IsCell, IsBefore, AreColumns}
use Rattle.bl_cards.proofs.Differing.{Differ_push}
use Rattle.bl_cards.proofs.Places.{place_within}
use Rattle.bl_cards.proofs.NumbersRead.{number_read}
use Rattle.bl_cards.proofs.Coherent.{went, passed}

-- a column is open
pub record Open (g : Grid) : Type 0 where
  pub columns : AreColumns g
  pub some : 0 < length g.names

-- a new column leaves the numbers as they are
start_by : (g new : Grid) (name : List ℕ) (o : Option ℕ) → AreColumns g → IsName name
    → place_of g.names name ≡ o → at_place g name o ≡ Ok new → Open new
start_by g new name None h n p e =
    let a = went (refuse (nat_le 1000 (length g.names)) what.TooMany) _ new e in
    let is : started g name ≡ new = cc in
    let few : length g.names < 1000 = let t =
    passed (nat_le 1000 (length g.names)) what.TooMany a.x a.is in grind (arith, nat_tests) in
    let wide = length-append g.names (name ∷ []) in
    rw (← is) (record {
      columns = record {
        named = All-push IsName g.names name h.named n;
        differ = Differ_push g.names name h.differ p;
        few = omega (arith, few, wide);
        each = λ i d l. let c = h.each i d l in record {
          within =
              omega (arith, c.within, wide);
          number = c.number;
        };
        rising = h.rising;
      };
      some = omega (arith, wide);
    })
start_by g new name (Some place) h n p e =
    let a = went (refuse (not (g.is_open && place + 1 == length g.names)) what.Twice) _ new e in
    let is : g ≡ new = cc in
    let l = place_within g.names name place p in
    rw (← is) (record { columns = h; some = omega (arith, l) })

none_any : {A : Type 0} (p : A → Bool) (xs : List A) (k : ℕ) (d : A) → list_any p xs ≡ false → k
    < length xs → p (get_or xs k d) ≡ false
none_any p [] k d e l = absurd (omega arith)
none_any p (x ∷ xs) zero d e l = (or_parts (p x) (list_any p xs) e).0
none_any p (x ∷ xs) (suc k) d e l =
    none_any p xs k d (or_parts (p x) (list_any p xs) e).1 (omega arith)

-- the new number comes behind each other one
behind : (t : Bool) (d c : Cell) (n : ℕ) → (d.column == c.column) ≡ t → d.column < n → c.column
    + 1 ≡ n → (t && same c.row d.row) ≡ false → IsBefore d c
behind true d c n e l m s = inr (grind (arith, nat_tests), s)
behind false d c n e l m s =
    inl (let q : d.column ≢ c.column = grind (arith, nat_tests) in omega arith)

add_kept : (g new : Grid) (row : List ℕ) (z : Decimal) → Open g → IsRead z → add_cell g row z
    ≡ Ok new → Open new
add_kept g new row z h s e =
    let c : Cell = record { column = length g.names - 1; row = row; number = z } in
    let a = went (refuse (has_cell g.cells (length g.names - 1) row) what.Twice) _ new e in
    let free = passed (has_cell g.cells (length g.names - 1) row) what.Twice a.x a.is in
    let is : record g { cells = g.cells ++ c ∷ [] } ≡ new = cc in
    let some = h.some in
    rw (← is) (record {
      columns = record {
        named = h.columns.named;
        differ = h.columns.differ;
        few = h.columns.few;
        each = All-push (IsCell (length g.names)) g.cells c h.columns.each
            (record { within = omega (arith, some); number = s });
        rising = all_pairs_push IsBefore g.cells c h.columns.rising (λ k d l.
            behind ((get_or g.cells k d).column == length g.names - 1) (get_or g.cells k d) c
            (length g.names) refl (h.columns.each k d l).within (omega (arith, some))
            (none_any (λ (x : Cell). x.column == length g.names - 1 && same row x.row) g.cells k d
            free l));
      };
      some = some;
    })

put_by : (t : Bool) (g new : Grid) (row : List ℕ) (z : Decimal) → Open g → IsRead z
    → cond t (Ok g) (add_cell g row z) ≡ Ok new → Open new
put_by true g new row z h s e = let is : g ≡ new = cc in rw (← is) h
put_by false g new row z h s e = add_kept g new row z h s e

cell_kept : (rows : List RowLine) (g new : Grid) (row word : List ℕ) → Open g
    → cell rows g row word ≡ Ok new → Open new
cell_kept rows g new row word h e =
    let a = went (there_or what.UnknownRow (role_of rows row)) _ new e in
    let b = went (number_at word) _ new a.then in
    put_by (is_extra a.x) g new row b.x h (number_read word b.x b.is) b.then

first_kept : (rows : List RowLine) (g new : Grid) (name row word : List ℕ) → AreColumns g
    → IsName name → column_cell rows g name row word ≡ Ok new → Open new
first_kept rows g new name row word h n e =
    let a = went (at_column g name) (λ here. cell rows here row word) new e in
    cell_kept rows a.x new row word (start_by g a.x name (place_of g.names name) h n refl a.is)
    a.then

column_kept : (rows : List RowLine) (g new : Grid) (words : List (List ℕ)) → AreColumns g
    → All IsName words → column_line rows g words ≡ Ok new → AreColumns new
column_kept rows g new [] h w e = absurd cc
column_kept rows g new (a ∷ []) h w e = absurd cc
column_kept rows g new (a ∷ b ∷ []) h w e = absurd cc
column_kept rows g new (name ∷ row ∷ word ∷ []) h w e =
    (first_kept rows g new name row word h (w 0 [] (omega arith)) e).columns
column_kept rows g new (a ∷ b ∷ c ∷ d ∷ []) h w e = absurd cc
column_kept rows g new (name ∷ row ∷ word ∷ row2 ∷ word2 ∷ []) h w e =
    let a = went (column_cell rows g name row word) (λ first. cell rows first row2 word2) new e in
    (cell_kept rows a.x new row2 word2
    (first_kept rows g a.x name row word h (w 0 [] (omega arith)) a.is) a.then).columns
column_kept rows g new (a ∷ b ∷ c ∷ d ∷ f ∷ x ∷ words) h w e = absurd cc

marker_by : (t u : Bool) (g new : Grid) → AreColumns g → cond t (refuse g.in_stretch what.Marker
    >>= λ x. Ok (record g { in_stretch = true; is_open = false }))
    (cond u (refuse (not g.in_stretch) what.Marker
    >>= λ x. Ok (record g { in_stretch = false; is_open = false })) (Err what.Marker)) ≡ Ok new
    → AreColumns new
marker_by true u g new h e =
    let a = went (refuse g.in_stretch what.Marker) _ new e in
    let is : record g { in_stretch = true; is_open = false } ≡ new = cc in
    rw (← is) (record {
      named = h.named;
      differ = h.differ;
      few = h.few;
      each = h.each;
      rising =
          h.rising;
    })
marker_by false true g new h e =
    let a = went (refuse (not g.in_stretch) what.Marker) _ new e in
    let is : record g { in_stretch = false; is_open = false } ≡ new = cc in
    rw (← is) (record {
      named = h.named;
      differ = h.differ;
      few = h.few;
      each = h.each;
      rising =
          h.rising;
    })
marker_by false false g new h e = absurd cc

marker_kept : (g new : Grid) (words : List (List ℕ)) → AreColumns g → marker_line g words ≡ Ok new
    → AreColumns new
marker_kept g new [] h e = absurd cc
marker_kept g new (a ∷ []) h e = absurd cc
marker_kept g new (a ∷ b ∷ []) h e = absurd cc
marker_kept g new (name ∷ mark ∷ word ∷ []) h e = marker_by (same word (codes "'INTORG'")) (same word (codes "'INTEND'")) g new h e
marker_kept g new (a ∷ b ∷ c ∷ d ∷ words) h e = absurd cc

line_by : (t : Bool) (rows : List RowLine) (g new : Grid) (words : List (List ℕ)) → AreColumns g
    → All IsName words → cond t (marker_line g words) (column_line rows g words) ≡ Ok new
    → AreColumns new
line_by true rows g new words h w e = marker_kept g new words h e
line_by false rows g new words h w e = column_kept rows g new words h w e

pub columns_kept : (rows : List RowLine) (g new : Grid) (words : List (List ℕ)) → AreColumns g
    → All IsName words → columns_line rows g words ≡ Ok new → AreColumns new
columns_kept rows g new words h w e = line_by (is_marker words) rows g new words h w e
