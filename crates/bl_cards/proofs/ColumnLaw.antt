-- The columns and their numbers are those that the lines of COLUMNS name.
use Rattle.std.proofs.Common.{◌≡◌, ℕ, suc, ◌+◌, ◌-◌, ◌<◌, Bool, true, false, cond, not, ◌&&◌}
use Rattle.std.proofs.Common.{List, [], ◌∷◌, ◌++◌, map, length, get_or, Option, Some, None, Ok}
use Rattle.std.proofs.Common.{Err, All, refl, sym, ap, subst, ◌∙◌, arith}
use Rattle.std.specs.Prelude.{filter, nat_le, ◌==◌, codes}
use Rattle.std.specs.List.{flat_map}
use Rattle.std.proofs.lemmas.List.{map-append, append-nil, append_assoc, length-append, map-id}
use Rattle.std.proofs.lemmas.List.{get_or_append_left, get_or_push}
use Rattle.std.proofs.lemmas.List.Concat.{flat_map-cons}
use Rattle.std.proofs.lemmas.List.Elements.{All-push}
use Rattle.std.proofs.lemmas.Bool.Decides.{nat_tests}
use Rattle.bl_num.specs.declared.Decimal.{Decimal}
use Rattle.bl_cards.specs.declared.kind.What.TheVariants as what
use Rattle.bl_cards.specs.declared.kind.Role.{Role}
use Rattle.bl_cards.specs.declared.kind.Section.TheVariants.{Columns}
use Rattle.bl_cards.specs.Said.{same, RowLine, Cell, Grid, Said, no_columns, place_of, refuse}
use Rattle.bl_cards.specs.Said.{there_or, ◌>>=◌}
use Rattle.bl_cards.specs.Lines.{role_of, number_at, is_extra, started, at_place, at_column}
use Rattle.bl_cards.specs.Lines.{has_cell, add_cell, cell, column_cell, column_line, is_marker}
use Rattle.bl_cards.specs.Lines.{marker_line, columns_line}
use Rattle.bl_cards.specs.Sections.{lines_in, in_turn, IsReadBySections}
use Rattle.bl_cards.specs.Named.{first_word, added_once, first_mentions, Named, number_on}
use Rattle.bl_cards.specs.Named.{numbers_on, named, IsNamedByLines}
use Rattle.bl_cards.proofs.Coherent.{went, there}
use Rattle.bl_cards.proofs.Differing.{read_at}
use Rattle.bl_cards.proofs.Places.{place_within}
use Rattle.bl_cards.proofs.StretchLaw.{stretched}

abbrev Within : Grid → Type 0
Within g = All (λ (c : Cell). c.column < length g.names) g.cells

-- ---- the column of a line

found : (names : List (List ℕ)) (name : List ℕ) (p : ℕ) → place_of names name ≡ Some p
    → get_or names p [] ≡ name
found names name p e = ap (λ (ns : List (List ℕ)). get_or ns p []) (sym (map-id names))
    ∙ read_at names name p (λ n. n) [] e

-- numbers keep their columns' names when a column is added
kept_names : (names : List (List ℕ)) (name : List ℕ) (cells : List Cell)
    → All (λ (c : Cell). c.column < length names) cells → map (named (names ++ name ∷ [])) cells
    ≡ map (named names) cells
kept_names names name [] h = refl
kept_names names name (c ∷ cells) h =
    let e = get_or_append_left names (name ∷ []) [] c.column (h 0 c (omega arith)) in
    rw (e, kept_names names name cells (λ k d l. h (suc k) d (omega arith))) refl

-- a line's column is the last one
record Here (g new : Grid) (name : List ℕ) : Type 0 where
  names : new.names ≡ added_once g.names (place_of g.names name) name
  cells : new.cells ≡ g.cells
  same_names : map (named new.names) new.cells ≡ map (named g.names) g.cells
  within : Within new
  some : 0 < length new.names
  last : get_or new.names (length new.names - 1) [] ≡ name

here_by : (g new : Grid) (name : List ℕ) (o : Option ℕ) → Within g → place_of g.names name ≡ o
    → at_place g name o ≡ Ok new → Here g new name
here_by g new name None h p e =
    let a = went (refuse (nat_le 1000 (length g.names)) what.TooMany) _ new e in
    let is : started g name ≡ new = cc in
    let wide = length-append g.names (name ∷ []) in
    rw (← is) (record {
      names = rw p refl;
      cells = refl;
      same_names = kept_names g.names name g.cells h;
      within = λ k d l. let c = h k d l in omega (arith, c, wide);
      some = omega (arith, wide);
      last = get_or_push g.names name [] (length (g.names ++ name ∷ []) - 1) (omega (arith, wide));
    })
here_by g new name (Some place) h p e =
    let a = went (refuse (not (g.is_open && place + 1 == length g.names)) what.Twice) _ new e in
    let is : g ≡ new = cc in
    let l = place_within g.names name place p in
    let t = last_by g.is_open (place + 1 == length g.names) a.x a.is in
    let n : length g.names - 1 ≡ place = grind (arith, nat_tests) in
    rw (← is) (record {
      names = rw p refl;
      cells = refl;
      same_names = refl;
      within = h;
      some = omega (arith, l);
      last = rw n (found g.names name place p);
    })
  where
    last_by : (x y : Bool) (u : Unit {0}) → refuse (not (x && y)) what.Twice ≡ Ok u → y ≡ true
    last_by true true u f = refl
    last_by true false u f = absurd cc
    last_by false y u f = absurd cc

-- ---- a number

record Adds (g new : Grid) (numbers : List Named) : Type 0 where
  names : new.names ≡ g.names
  cells : map (named g.names) new.cells ≡ map (named g.names) g.cells ++ numbers
  within : Within new

added : (g new : Grid) (name row : List ℕ) (d : Decimal) → Within g → 0 < length g.names
    → get_or g.names (length g.names - 1) [] ≡ name → add_cell g row d ≡ Ok new
    → Adds g new (record { column = name; row = row; number = d } ∷ [])
added g new name row d h s l e =
    let a = went (refuse (has_cell g.cells (length g.names - 1) row) what.Twice) _ new e in
    let c : Cell = record { column = length g.names - 1; row = row; number = d } in
    let is : record g { cells = g.cells ++ c ∷ [] } ≡ new = cc in
    let one : named g.names c ≡ record { column = name; row = row; number = d } = rw l refl in
    rw (← is) (record {
      names = refl;
      cells = map-append (named g.names) g.cells (c ∷ [])
          ∙ ap (λ (x : Named). map (named g.names) g.cells ++ x ∷ []) one;
      within = All-push (λ (x : Cell). x.column < length g.names) g.cells c h (omega (arith, s));
    })

put_by : (t : Bool) (g new : Grid) (name row : List ℕ) (d : Decimal) → Within g → 0
    < length g.names → get_or g.names (length g.names - 1) [] ≡ name
    → cond t (Ok g) (add_cell g row d) ≡ Ok new
    → Adds g new (cond t [] (record { column = name; row = row; number = d } ∷ []))
put_by true g new name row d h s l e = let is : g ≡ new =
    cc in rw (← is) (record {
      names = refl;
      cells =
          sym (append-nil (map (named g.names) g.cells));
      within = h;
    })
put_by false g new name row d h s l e = added g new name row d h s l e

number_is : (rows : List RowLine) (name row word : List ℕ) (role : Role) (d : Decimal)
    → role_of rows row ≡ Some role → number_at word ≡ Ok d
    → number_on (role_of rows row) name row word
    ≡ cond (is_extra role) [] (record { column = name; row = row; number = d } ∷ [])
number_is rows name row word role d a b = rw (a, b) refl

cell_adds : (rows : List RowLine) (g new : Grid) (name row word : List ℕ) → Within g → 0
    < length g.names → get_or g.names (length g.names - 1) [] ≡ name → cell rows g row word
    ≡ Ok new → Adds g new (number_on (role_of rows row) name row word)
cell_adds rows g new name row word h s l e =
    let a = went (there_or what.UnknownRow (role_of rows row)) _ new e in
    let b = went (number_at word) _ new a.then in
    let role = there what.UnknownRow (role_of rows row) a.x a.is in
    subst (Adds g new) (sym (number_is rows name row word a.x b.x role b.is))
    (put_by (is_extra a.x) g new name row b.x h s l b.then)

-- ---- a line

record Goes (rows : List RowLine) (g new : Grid) (names : List (List ℕ)) (numbers : List Named) :
    Type 0 where
  names_are : new.names ≡ names
  cells : map (named new.names) new.cells ≡ map (named g.names) g.cells ++ numbers
  within : Within new

first : (rows : List RowLine) (g h new : Grid) (name : List ℕ) (numbers : List Named)
    → Here g h name → Adds h new numbers
    → Goes rows g new (added_once g.names (place_of g.names name) name) numbers
first rows g h new name numbers k a =
    let n = a.names in
    record {
      names_are = n ∙ k.names;
      cells = rw n (a.cells ∙ ap (λ (xs : List Named). xs ++ numbers) k.same_names);
      within = a.within;
    }

one_pair : (rows : List RowLine) (g new : Grid) (name row word : List ℕ) → Within g
    → column_cell rows g name row word ≡ Ok new
    → (h : Grid) × Here g h name × Adds h new (number_on (role_of rows row) name row word)
one_pair rows g new name row word w e =
    let a = went (at_column g name) (λ here. cell rows here row word) new e in
    let k = here_by g a.x name (place_of g.names name) w refl a.is in
    (a.x, k, cell_adds rows a.x new name row word k.within k.some k.last a.then)

two_pairs : (h m new : Grid) (numbers more : List Named) → Adds h m numbers → Adds m new more
    → Adds h new (numbers ++ more)
two_pairs h m new numbers more a b =
    let n = a.names in
    let c : map (named h.names) new.cells ≡ map (named h.names) m.cells ++ more = rw n at b.cells in
    record {
      names = b.names ∙ a.names;
      cells = c ∙ ap (λ (xs : List Named). xs ++ more) a.cells
          ∙ append_assoc (map (named h.names) h.cells) numbers more;
      within = b.within;
    }

line_goes : (rows : List RowLine) (g new : Grid) (words : List (List ℕ)) → Within g
    → column_line rows g words ≡ Ok new → Goes rows g new
    (added_once g.names (place_of g.names (first_word words)) (first_word words))
    (numbers_on rows words)
line_goes rows g new [] w e = absurd cc
line_goes rows g new (a ∷ []) w e = absurd cc
line_goes rows g new (a ∷ b ∷ []) w e = absurd cc
line_goes rows g new (name ∷ row ∷ word ∷ []) w e = let p =
    one_pair rows g new name row word w e in first rows g p.0 new name
    (number_on (role_of rows row) name row word) p.1 p.2
line_goes rows g new (a ∷ b ∷ c ∷ d ∷ []) w e = absurd cc
line_goes rows g new (name ∷ row ∷ word ∷ row2 ∷ word2 ∷ []) w e =
    let a = went (column_cell rows g name row word) (λ first. cell rows first row2 word2) new e in
    let p = one_pair rows g a.x name row word w a.is in
    let n = p.2.names in
    let k = p.1 in
    let some : 0 < length a.x.names = rw n k.some in
    let last : get_or a.x.names (length a.x.names - 1) [] ≡ name = rw n k.last in
    let b = cell_adds rows a.x new name row2 word2 p.2.within some last a.then in
    first rows g p.0 new name (numbers_on rows (name ∷ row ∷ word ∷ row2 ∷ word2 ∷ [])) p.1
    (two_pairs p.0 a.x new (number_on (role_of rows row) name row word)
    (number_on (role_of rows row2) name row2 word2) p.2 b)
line_goes rows g new (a ∷ b ∷ c ∷ d ∷ f ∷ x ∷ words) w e = absurd cc

-- a marker line names nothing
stays : (rows : List RowLine) (g new : Grid) → Within g → new.names ≡ g.names → new.cells
    ≡ g.cells → Goes rows g new g.names []
stays rows g new w n c =
    record {
      names_are = n;
      cells = rw (n, c) (sym (append-nil (map (named g.names) g.cells)));
      within = rw (n, c) w;
    }

marker_by : (t u : Bool) (g new : Grid) → cond t (refuse g.in_stretch what.Marker
    >>= λ x. Ok (record g { in_stretch = true; is_open = false }))
    (cond u (refuse (not g.in_stretch) what.Marker
    >>= λ x. Ok (record g { in_stretch = false; is_open = false })) (Err what.Marker)) ≡ Ok new
    → (new.names ≡ g.names) × (new.cells ≡ g.cells)
marker_by true u g new e =
    let a = went (refuse g.in_stretch what.Marker) _ new e in
    let is : record g { in_stretch = true; is_open = false } ≡ new = cc in
    (ap (λ (x : Grid). x.names) (sym is), ap (λ (x : Grid). x.cells) (sym is))
marker_by false true g new e =
    let a = went (refuse (not g.in_stretch) what.Marker) _ new e in
    let is : record g { in_stretch = false; is_open = false } ≡ new = cc in
    (ap (λ (x : Grid). x.names) (sym is), ap (λ (x : Grid). x.cells) (sym is))
marker_by false false g new e = absurd cc

marker_goes : (rows : List RowLine) (g new : Grid) (words : List (List ℕ)) → Within g
    → marker_line g words ≡ Ok new → Goes rows g new g.names []
marker_goes rows g new [] w e = absurd cc
marker_goes rows g new (a ∷ []) w e = absurd cc
marker_goes rows g new (a ∷ b ∷ []) w e = absurd cc
marker_goes rows g new (name ∷ mark ∷ word ∷ []) w e = let m = marker_by (same word (codes "'INTORG'")) (same word (codes "'INTEND'")) g new e in stays rows g new w m.0 m.1
marker_goes rows g new (a ∷ b ∷ c ∷ d ∷ words) w e = absurd cc

-- ---- all lines

record Named_by (rows : List RowLine) (g new : Grid) (lines : List (List (List ℕ))) : Type 0 where
  columns : new.names ≡ first_mentions g.names (map first_word lines)
  numbers : map (named new.names) new.cells ≡ map (named g.names) g.cells
      ++ flat_map (numbers_on rows) lines

abbrev plain : List (List (List ℕ)) → List (List (List ℕ))
plain lines = filter (λ words. not (is_marker words)) lines

step_by : (rows : List RowLine) (g next new : Grid) (words : List (List ℕ))
    (lines : List (List (List ℕ))) (t : Bool) → Within g
    → cond t (marker_line g words) (column_line rows g words) ≡ Ok next
    → (Within next → Named_by rows next new (plain lines))
    → Named_by rows g new (cond (not t) (words ∷ plain lines) (plain lines))
step_by rows g next new words lines true w e ih =
    let k = marker_goes rows g next words w e in
    let r = ih k.within in
    record {
      columns =
          r.columns
          ∙ ap (λ (ns : List (List ℕ)). first_mentions ns (map first_word (plain lines)))
          k.names_are;
      numbers = r.numbers ∙ ap (λ (xs : List Named). xs
          ++ flat_map (numbers_on rows) (plain lines))
          (k.cells ∙ append-nil (map (named g.names) g.cells));
    }
step_by rows g next new words lines false w e ih =
    let k = line_goes rows g next words w e in
    let r = ih k.within in
    record {
      columns =
          r.columns
          ∙ ap (λ (ns : List (List ℕ)). first_mentions ns (map first_word (plain lines)))
          k.names_are;
      numbers = r.numbers ∙ ap (λ (xs : List Named). xs
          ++ flat_map (numbers_on rows) (plain lines)) k.cells
          ∙ append_assoc (map (named g.names) g.cells) (numbers_on rows words)
          (flat_map (numbers_on rows) (plain lines))
          ∙ ap (λ (xs : List Named). map (named g.names) g.cells ++ xs)
          (sym (flat_map-cons (numbers_on rows) words (plain lines)));
    }

lines_go : (rows : List RowLine) (lines : List (List (List ℕ))) (g new : Grid) → Within g
    → in_turn (columns_line rows) g lines ≡ Ok new → Named_by rows g new (plain lines)
lines_go rows [] g new w e = let is : g ≡ new =
    cc in rw (← is) (record {
      columns = refl;
      numbers =
          sym (append-nil (map (named g.names) g.cells));
    })
lines_go rows (words ∷ lines) g new w e =
    let a = went (columns_line rows g words) (λ next. in_turn (columns_line rows) next lines) new
    e in
    step_by rows g a.x new words lines (is_marker words) w a.is
    (λ v. lines_go rows lines a.x new v a.then)

pub named_by_lines : (lines : List (List ℕ)) (s : Said) → IsReadBySections lines s
    → IsNamedByLines lines s
named_by_lines lines s h =
    let r = lines_go s.rows (lines_in Columns lines) no_columns s.columns
    (λ k d l. absurd (omega arith)) h.columns in
    let w = stretched s.rows (lines_in Columns lines) no_columns s.columns h.columns in
    record { columns = r.columns; whole = rw w.names w.whole; numbers = r.numbers }
