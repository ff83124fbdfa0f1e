-- A column stands in a marker stretch exactly where one is open at the column's first line.
use Rattle.std.proofs.Common.{◌≡◌, ℕ, suc, ◌+◌, ◌-◌, Bool, true, false, cond, not, ◌&&◌, List, []}
use Rattle.std.proofs.Common.{◌∷◌, ◌++◌, map, length, Option, Some, None, Ok, Err, refl, sym, ap}
use Rattle.std.proofs.Common.{subst, ◌∙◌}
use Rattle.std.specs.Prelude.{nat_le, ◌==◌, codes}
use Rattle.std.proofs.lemmas.Bool.{false_from_ne_true}
use Rattle.std.proofs.lemmas.List.{append-nil, append_assoc}
use Rattle.bl_num.specs.declared.Decimal.{Decimal}
use Rattle.bl_cards.specs.declared.kind.What.TheVariants as what
use Rattle.bl_cards.specs.Said.{same, RowLine, Grid, place_of, refuse, there_or, ◌>>=◌}
use Rattle.bl_cards.specs.Lines.{role_of, number_at, is_extra, started, at_place, at_column}
use Rattle.bl_cards.specs.Lines.{has_cell, add_cell, put_cell, cell, column_cell, column_line}
use Rattle.bl_cards.specs.Lines.{is_marker, marker_line, columns_line}
use Rattle.bl_cards.specs.Sections.{in_turn}
use Rattle.bl_cards.specs.Named.{first_word, opens, is_stretched}
use Rattle.bl_cards.proofs.Coherent.{went}
use Rattle.bl_cards.proofs.Differing.{none_by, same_is, same_self}

-- ---- names that are new

-- none of these is among the names
abbrev pub Absent : List (List ℕ) → List (List ℕ) → Type 0
Absent names [] = Unit {0}
Absent names (m ∷ rest) = (place_of names m ≡ None) × Absent names rest

maps_on : (names : List (List ℕ)) (f g : List ℕ → Bool) (rest : List (List ℕ)) → Absent names rest
    → ((n : List ℕ) → place_of names n ≡ None → f n ≡ g n) → map f rest ≡ map g rest
maps_on names f g [] a h = refl
maps_on names f g (m ∷ rest) a h = rw (h m a.0, maps_on names f g rest a.1 h) refl

absent_in_front : (names : List (List ℕ)) (n m : List ℕ) → place_of (names ++ n ∷ []) m ≡ None
    → (place_of names m ≡ None) × (same m n ≡ false)
absent_in_front [] n m e = let p = none_by (same m n) None e in (refl, p.0)
absent_in_front (k ∷ names) n m e =
    let p = none_by (same m k) (place_of (names ++ n ∷ []) m) e in
    let r = absent_in_front names n m p.1 in
    (rw (p.0, r.0) refl, r.1)

all_in_front : (names : List (List ℕ)) (n : List ℕ) (rest : List (List ℕ))
    → Absent (names ++ n ∷ []) rest → Absent names rest
all_in_front names n [] a = tt
all_in_front names n (m ∷ rest) a =
    ((absent_in_front names n m a.0).0, all_in_front names n rest a.1)

other : (names : List (List ℕ)) (n m : List ℕ) (p : ℕ) → place_of names n ≡ Some p
    → place_of names m ≡ None → same m n ≡ false
other names n m p e f = false_from_ne_true (same m n) (λ t. let same_place =
    ap (place_of names) (same_is m n t) in absurd cc)

-- ---- a line of a column

record Keeps (g new : Grid) : Type 0 where
  names : new.names ≡ g.names
  whole : new.whole ≡ g.whole
  inside : new.in_stretch ≡ g.in_stretch

put_keeps : (t : Bool) (g new : Grid) (row : List ℕ) (d : Decimal)
    → cond t (Ok g) (add_cell g row d) ≡ Ok new → Keeps g new
put_keeps true g new row d e = let is : g ≡ new =
    cc in rw (← is) (record { names = refl; whole = refl; inside = refl })
put_keeps false g new row d e =
    let a = went (refuse (has_cell g.cells (length g.names - 1) row) what.Twice) _ new e in
    let is : record g {
      cells = g.cells
          ++ record { column = length g.names - 1; row = row; number = d } ∷ [];
    } ≡ new = cc in
    rw (← is) (record { names = refl; whole = refl; inside = refl })

cell_keeps : (rows : List RowLine) (g new : Grid) (row word : List ℕ) → cell rows g row word
    ≡ Ok new → Keeps g new
cell_keeps rows g new row word e =
    let a = went (there_or what.UnknownRow (role_of rows row)) _ new e in
    let b = went (number_at word) _ new a.then in
    put_keeps (is_extra a.x) g new row b.x b.then

keeps_both : (g m new : Grid) → Keeps g m → Keeps m new → Keeps g new
keeps_both g m new a b = record {
  names = b.names ∙ a.names;
  whole = b.whole ∙ a.whole;
  inside =
      b.inside ∙ a.inside;
}

-- the line is one of a column, which goes on or starts
abbrev Stands : Grid → List ℕ → Grid → Type 0
Stands g name new = (h : Grid) × (at_column g name ≡ Ok h) × Keeps h new

line_stands : (rows : List RowLine) (g new : Grid) (words : List (List ℕ))
    → column_line rows g words ≡ Ok new → Stands g (first_word words) new
line_stands rows g new [] e = absurd cc
line_stands rows g new (a ∷ []) e = absurd cc
line_stands rows g new (a ∷ b ∷ []) e = absurd cc
line_stands rows g new (name ∷ row ∷ word ∷ []) e =
    let a = went (at_column g name) (λ here. cell rows here row word) new e in
    (a.x, a.is, cell_keeps rows a.x new row word a.then)
line_stands rows g new (a ∷ b ∷ c ∷ d ∷ []) e = absurd cc
line_stands rows g new (name ∷ row ∷ word ∷ row2 ∷ word2 ∷ []) e =
    let a = went (column_cell rows g name row word) (λ first. cell rows first row2 word2) new e in
    let b = went (at_column g name) (λ here. cell rows here row word) a.x a.is in (
      b.x,
      b.is,
      keeps_both b.x a.x new (cell_keeps rows b.x a.x row word b.then)
          (cell_keeps rows a.x new row2 word2 a.then),
    )
line_stands rows g new (a ∷ b ∷ c ∷ d ∷ f ∷ x ∷ words) e = absurd cc

-- ---- a marker line

record Turns (g new : Grid) (inside : Bool) : Type 0 where
  names : new.names ≡ g.names
  whole : new.whole ≡ g.whole
  inside_is : new.in_stretch ≡ inside

turns_by : (t u : Bool) (g new : Grid) → cond t (refuse g.in_stretch what.Marker
    >>= λ x. Ok (record g { in_stretch = true; is_open = false }))
    (cond u (refuse (not g.in_stretch) what.Marker
    >>= λ x. Ok (record g { in_stretch = false; is_open = false })) (Err what.Marker)) ≡ Ok new
    → Turns g new t
turns_by true u g new e =
    let a = went (refuse g.in_stretch what.Marker) _ new e in
    let is : record g { in_stretch = true; is_open = false } ≡ new = cc in
    rw (← is) (record { names = refl; whole = refl; inside_is = refl })
turns_by false true g new e =
    let a = went (refuse (not g.in_stretch) what.Marker) _ new e in
    let is : record g { in_stretch = false; is_open = false } ≡ new = cc in
    rw (← is) (record { names = refl; whole = refl; inside_is = refl })
turns_by false false g new e = absurd cc

marker_turns : (g new : Grid) (words : List (List ℕ)) → marker_line g words ≡ Ok new
    → Turns g new (opens words)
marker_turns g new [] e = absurd cc
marker_turns g new (a ∷ []) e = absurd cc
marker_turns g new (a ∷ b ∷ []) e = absurd cc
marker_turns g new (name ∷ mark ∷ word ∷ []) e = turns_by (same word (codes "'INTORG'")) (same word (codes "'INTEND'")) g new e
marker_turns g new (a ∷ b ∷ c ∷ d ∷ words) e = absurd cc

-- ---- all lines

-- the lines start these columns, each in a stretch where one is open at its first line
pub record Stretched (g new : Grid) (lines : List (List (List ℕ))) : Type 0 where
  pub rest : List (List ℕ)
  pub names : new.names ≡ g.names ++ rest
  pub whole : new.whole ≡ g.whole ++ map (λ name. is_stretched name g.in_stretch lines) rest
  pub absent : Absent g.names rest

behind_marker : (g next new : Grid) (words : List (List ℕ)) (lines : List (List (List ℕ)))
    → is_marker words ≡ true → Turns g next (opens words) → Stretched next new lines
    → Stretched g new (words ∷ lines)
behind_marker g next new words lines m k s =
    let flags = maps_on next.names (λ n. is_stretched n next.in_stretch lines)
    (λ n. is_stretched n g.in_stretch (words ∷ lines)) s.rest s.absent
    (λ n p. rw (m, k.inside_is) refl) in
    record {
      rest = s.rest;
      names = s.names ∙ ap (λ (ns : List (List ℕ)). ns ++ s.rest) k.names;
      whole = s.whole ∙ ap (λ (ws : List Bool). ws
          ++ map (λ n. is_stretched n next.in_stretch lines) s.rest) k.whole
          ∙ ap (λ (ws : List Bool). g.whole ++ ws) flags;
      absent = subst (λ (ns : List (List ℕ)). Absent ns s.rest) k.names s.absent;
    }

-- the column goes on
behind_more : (g next new : Grid) (words : List (List ℕ)) (lines : List (List (List ℕ))) (p : ℕ)
    → is_marker words ≡ false → place_of g.names (first_word words) ≡ Some p → Keeps g next
    → Stretched next new lines
    → Stretched g new (words ∷ lines)
behind_more g next new words lines p m e k s =
    let absent = subst (λ (ns : List (List ℕ)). Absent ns s.rest) k.names s.absent in
    let flags = maps_on g.names (λ n. is_stretched n next.in_stretch lines)
    (λ n. is_stretched n g.in_stretch (words ∷ lines)) s.rest absent
    (λ n a. rw (m, k.inside, other g.names (first_word words) n p e a) refl) in
    record {
      rest = s.rest;
      names = s.names ∙ ap (λ (ns : List (List ℕ)). ns ++ s.rest) k.names;
      whole = s.whole ∙ ap (λ (ws : List Bool). ws
          ++ map (λ n. is_stretched n next.in_stretch lines) s.rest) k.whole
          ∙ ap (λ (ws : List Bool). g.whole ++ ws) flags;
      absent = absent;
    }

-- a column starts
behind_first : (g next new : Grid) (words : List (List ℕ)) (lines : List (List (List ℕ)))
    → is_marker words ≡ false → place_of g.names (first_word words) ≡ None
    → Keeps (started g (first_word words)) next → Stretched next new lines
    → Stretched g new (words ∷ lines)
behind_first g next new words lines m e k s =
    let name = first_word words in
    let absent = subst (λ (ns : List (List ℕ)). Absent ns s.rest) k.names s.absent in
    let flags = maps_on (g.names ++ name ∷ []) (λ n. is_stretched n next.in_stretch lines)
    (λ n. is_stretched n g.in_stretch (words ∷ lines)) s.rest absent
    (λ n a. rw (m, k.inside, (absent_in_front g.names name n a).1) refl) in
    let own : g.in_stretch ≡ is_stretched name g.in_stretch (words ∷ lines) =
    rw (m, same_self name) refl in
    record {
      rest = name ∷ s.rest;
      names = s.names ∙ ap (λ (ns : List (List ℕ)). ns ++ s.rest) k.names
          ∙ append_assoc g.names (name ∷ []) s.rest;
      whole = s.whole ∙ ap (λ (ws : List Bool). ws
          ++ map (λ n. is_stretched n next.in_stretch lines) s.rest) k.whole
          ∙ append_assoc g.whole (g.in_stretch ∷ [])
          (map (λ n. is_stretched n next.in_stretch lines) s.rest)
          ∙ ap (λ (ws : List Bool). g.whole ++ g.in_stretch ∷ ws) flags
          ∙ ap (λ (w : Bool). g.whole ++ w
          ∷ map (λ n. is_stretched n g.in_stretch (words ∷ lines)) s.rest) own;
      absent = (e, all_in_front g.names name s.rest absent);
    }

behind_line : (g h next new : Grid) (words : List (List ℕ)) (lines : List (List (List ℕ)))
    (o : Option ℕ) → is_marker words ≡ false → place_of g.names (first_word words) ≡ o
    → at_place g (first_word words) o ≡ Ok h → Keeps h next
    → Stretched next new lines → Stretched g new (words ∷ lines)
behind_line g h next new words lines None m e a k s =
    let w = went (refuse (nat_le 1000 (length g.names)) what.TooMany) _ h a in
    let is : started g (first_word words) ≡ h = cc in
    behind_first g next new words lines m e (subst (λ (x : Grid). Keeps x next) (sym is) k) s
behind_line g h next new words lines (Some p) m e a k s =
    let w = went (refuse (not (g.is_open && p + 1 == length g.names)) what.Twice) _ h a in
    let is : g ≡ h = cc in
    behind_more g next new words lines p m e (subst (λ (x : Grid). Keeps x next) (sym is) k) s

behind : (rows : List RowLine) (g next new : Grid) (words : List (List ℕ))
    (lines : List (List (List ℕ))) (t : Bool) → is_marker words ≡ t
    → cond t (marker_line g words) (column_line rows g words) ≡ Ok next → Stretched next new lines
    → Stretched g new (words ∷ lines)
behind rows g next new words lines true m e s =
    behind_marker g next new words lines m (marker_turns g next words e) s
behind rows g next new words lines false m e s =
    let l = line_stands rows g next words e in
    behind_line g l.0 next new words lines (place_of g.names (first_word words)) m refl l.1 l.2 s

pub stretched : (rows : List RowLine) (lines : List (List (List ℕ))) (g new : Grid)
    → in_turn (columns_line rows) g lines ≡ Ok new → Stretched g new lines
stretched rows [] g new e = let is : g ≡ new =
    cc in rw (← is) (record {
      rest = [];
      names = sym (append-nil g.names);
      whole =
          sym (append-nil g.whole);
      absent = tt;
    })
stretched rows (words ∷ lines) g new e =
    let a = went (columns_line rows g words) (λ next. in_turn (columns_line rows) next lines) new
    e in
    behind rows g a.x new words lines (is_marker words) refl a.is
    (stretched rows lines a.x new a.then)
