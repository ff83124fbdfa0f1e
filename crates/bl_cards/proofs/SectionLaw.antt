-- A file is read section by section.
use Rattle.std.proofs.Common.{◌≡◌, ℕ, ◌+◌, ◌<◌, Bool, true, false, cond, not, ◌&&◌, List, [], ◌∷◌}
use Rattle.std.proofs.Common.{◌++◌, map, Option, Some, Result, Ok, refl, sym, ap, ◌∙◌, arith}
use Rattle.std.specs.Prelude.{◌==◌, nat_lt, nat_le, is_none, codes}
use Rattle.std.proofs.lemmas.List.{map-append, append-nil, append_assoc}
use Rattle.std.proofs.lemmas.Bool.Decides.{nat_tests}
use Rattle.std.proofs.lemmas.Bool.{and_parts, not-false}
use Rattle.bl_text.specs.Pieces.{is_blank, words_of, lines_of}
use Rattle.bl_problem.specs.declared.problem.Sense.{Sense}
use Rattle.bl_cards.specs.declared.kind.Section.{Section}
use Rattle.bl_cards.specs.declared.kind.Section.TheVariants.{Start, Name, Objsense, Rows, Columns}
use Rattle.bl_cards.specs.declared.kind.Section.TheVariants.{Rhs, Ranges, Bounds, End}
use Rattle.bl_cards.specs.declared.kind.What.{What}
use Rattle.bl_cards.specs.declared.kind.What.TheVariants as what
use Rattle.bl_cards.specs.Said.{same, Said, RowLine, Grid, nothing_said, refuse, there_or}
use Rattle.bl_cards.specs.Lines.{role_for, role_of, has_objective, is_limited, count_limited}
use Rattle.bl_cards.specs.Lines.{add_row, rows_line, columns_line, given_line, bounds_line}
use Rattle.bl_cards.specs.Lines.{data_line, section_of, rank, may_follow, sense_line, lacks_word}
use Rattle.bl_cards.specs.Lines.{opened_sense, section_line}
use Rattle.bl_cards.specs.declared.reader.Whole.{Whole}
use Rattle.bl_cards.specs.Reading.{spoken, after_line, is_end, said_from, said_in}
use Rattle.bl_cards.specs.Sections.{DataLine, is_data, words_said, named_or, section_behind}
use Rattle.bl_cards.specs.Sections.{data_of, data_lines, lines_in, in_section, in_turn}
use Rattle.bl_cards.specs.Sections.{second_word, IsReadBySections}
use Rattle.bl_cards.proofs.Walks.{whole, said_done, said_open, said_step, taken}
use Rattle.bl_cards.proofs.Coherent.{went, passed, there}

-- from one state to a later one, by data lines
record Goes (s : Said) (ls : List DataLine) (t : Said) : Type 0 where
  rows : in_turn rows_line s.rows (in_section Rows ls) ≡ Ok t.rows
  columns : in_turn (columns_line t.rows) s.columns (in_section Columns ls) ≡ Ok t.columns
  rhs : in_turn (given_line false t.rows) s.rhs (in_section Rhs ls) ≡ Ok t.rhs
  ranges : in_turn (given_line true t.rows) s.ranges (in_section Ranges ls) ≡ Ok t.ranges
  bounds : in_turn (bounds_line t.columns.names) s.bounds (in_section Bounds ls) ≡ Ok t.bounds
  -- what is behind stays
  kept_rows : 3 < rank s.section → s.rows ≡ t.rows
  kept_columns : 4 < rank s.section → s.columns ≡ t.columns

stops : (s : Said) → Goes s [] s
stops s = record {
  rows = refl;
  columns = refl;
  rhs = refl;
  ranges = refl;
  bounds =
      refl;
  kept_rows = λ l. refl;
  kept_columns = λ l. refl;
}

turn : {A : Type 0} (take : A → List (List ℕ) → Result A What) (a b : A) (words : List (List ℕ))
    (more : List (List (List ℕ))) (c : A) → take a words ≡ Ok b → in_turn take b more ≡ Ok c
    → in_turn take a (words ∷ more) ≡ Ok c
turn take a b words more c e h = rw e h

-- a data line of the section that is open
data_goes : (now : Section) (s u t : Said) (words : List (List ℕ)) (ls : List DataLine)
    → s.section ≡ now → data_line now s words ≡ Ok u → ((u.section ≡ now) → Goes u ls t)
    → Goes s (record { section = now; words = words } ∷ ls) t
data_goes Start s u t words ls n e g = absurd cc
data_goes Name s u t words ls n e g = absurd cc
data_goes Objsense s u t words ls n e g =
    let a = went (sense_line s.sense words) _ u e in
    let is : record s { sense = a.x } ≡ u = cc in
    let h : Goes (record s { sense = a.x }) ls t =
    rw is (g (ap (λ (x : Said). x.section) (sym is) ∙ n)) in
    let r = ap rank n in
    record {
      rows = h.rows;
      columns = h.columns;
      rhs = h.rhs;
      ranges = h.ranges;
      bounds = h.bounds;
      kept_rows = λ l. absurd (omega (arith, l, r));
      kept_columns = λ l. absurd (omega (arith, l, r));
    }
data_goes Rows s u t words ls n e g =
    let a = went (rows_line s.rows words) _ u e in
    let is : record s { rows = a.x } ≡ u = cc in
    let h : Goes (record s { rows = a.x }) ls t =
    rw is (g (ap (λ (x : Said). x.section) (sym is) ∙ n)) in
    record {
      rows = turn rows_line s.rows a.x words (in_section Rows ls) t.rows a.is h.rows;
      columns = h.columns;
      rhs = h.rhs;
      ranges = h.ranges;
      bounds = h.bounds;
      kept_rows = λ l. let r = ap rank n in absurd (omega (arith, l, r));
      kept_columns = λ l. let r = ap rank n in absurd (omega (arith, l, r));
    }
data_goes Columns s u t words ls n e g =
    let a = went (columns_line s.rows s.columns words) _ u e in
    let is : record s { columns = a.x } ≡ u = cc in
    let h : Goes (record s { columns = a.x }) ls t =
    rw is (g (ap (λ (x : Said). x.section) (sym is) ∙ n)) in
    let r = ap rank n in
    let same : s.rows ≡ t.rows = h.kept_rows (omega (arith, r)) in
    record {
      rows = h.rows;
      columns = turn (columns_line t.rows) s.columns a.x words (in_section Columns ls) t.columns
          (ap (λ (rs : List RowLine). columns_line rs s.columns words) (sym same) ∙ a.is) h.columns;
      rhs = h.rhs;
      ranges = h.ranges;
      bounds = h.bounds;
      kept_rows = λ l. same;
      kept_columns = λ l. absurd (omega (arith, l, r));
    }
data_goes Rhs s u t words ls n e g =
    let a = went (given_line false s.rows s.rhs words) _ u e in
    let is : record s { rhs = a.x } ≡ u = cc in
    let h : Goes (record s { rhs = a.x }) ls t =
    rw is (g (ap (λ (x : Said). x.section) (sym is) ∙ n)) in
    let r = ap rank n in
    let same : s.rows ≡ t.rows = h.kept_rows (omega (arith, r)) in
    record {
      rows = h.rows;
      columns = h.columns;
      rhs = turn (given_line false t.rows) s.rhs a.x words (in_section Rhs ls) t.rhs
          (ap (λ (rs : List RowLine). given_line false rs s.rhs words) (sym same) ∙ a.is) h.rhs;
      ranges = h.ranges;
      bounds = h.bounds;
      kept_rows = λ l. same;
      kept_columns = λ l. h.kept_columns (omega (arith, r));
    }
data_goes Ranges s u t words ls n e g =
    let a = went (given_line true s.rows s.ranges words) _ u e in
    let is : record s { ranges = a.x } ≡ u = cc in
    let h : Goes (record s { ranges = a.x }) ls t =
    rw is (g (ap (λ (x : Said). x.section) (sym is) ∙ n)) in
    let r = ap rank n in
    let same : s.rows ≡ t.rows = h.kept_rows (omega (arith, r)) in
    record {
      rows = h.rows;
      columns = h.columns;
      rhs = h.rhs;
      ranges = turn (given_line true t.rows) s.ranges a.x words (in_section Ranges ls) t.ranges
          (ap (λ (rs : List RowLine). given_line true rs s.ranges words) (sym same) ∙ a.is)
          h.ranges;
      bounds = h.bounds;
      kept_rows = λ l. same;
      kept_columns = λ l. h.kept_columns (omega (arith, r));
    }
data_goes Bounds s u t words ls n e g =
    let a = went (bounds_line s.columns.names s.bounds words) _ u e in
    let is : record s { bounds = a.x } ≡ u = cc in
    let h : Goes (record s { bounds = a.x }) ls t =
    rw is (g (ap (λ (x : Said). x.section) (sym is) ∙ n)) in
    let r = ap rank n in
    let same : s.columns ≡ t.columns = h.kept_columns (omega (arith, r)) in
    record {
      rows = h.rows;
      columns = h.columns;
      rhs = h.rhs;
      ranges = h.ranges;
      bounds = turn (bounds_line t.columns.names) s.bounds a.x words (in_section Bounds ls)
          t.bounds (ap (λ (g : Grid). bounds_line g.names s.bounds words) (sym same) ∙ a.is)
          h.bounds;
      kept_rows = λ l. h.kept_rows (omega (arith, r));
      kept_columns = λ l. same;
    }
data_goes End s u t words ls n e g = absurd cc

-- a section line opens a later section
pub record Opens (s u : Said) (name : List ℕ) (words : List (List ℕ)) : Type 0 where
  pub next : Section
  pub sense : Option Sense
  pub named : section_of name ≡ Some next
  pub later : rank s.section < rank next
  pub given : lacks_word s.section s.sense ≡ false
  pub opened : opened_sense next s.sense words ≡ Ok sense
  pub is : record s { section = next; sense = sense } ≡ u

pub opens : (s u : Said) (name : List ℕ) (words : List (List ℕ)) → section_line s name words
    ≡ Ok u → Opens s u name words
opens s u name words e =
    let a = went (there_or what.Section (section_of name)) _ u e in
    let b = went (refuse (not (may_follow s.section a.x)) what.Section) _ u a.then in
    let g = went (refuse (lacks_word s.section s.sense) what.Words) _ u b.then in
    let o = went (opened_sense a.x s.sense words) _ u g.then in
    let follows = not-false (may_follow s.section a.x)
    (passed (not (may_follow s.section a.x)) what.Section b.x b.is) in
    record {
      next = a.x;
      sense = o.x;
      named = there what.Section (section_of name) a.x a.is;
      later = let c = and_parts (nat_lt (rank s.section) (rank a.x)) _ follows in let d =
          c.0 in grind (arith, nat_tests);
      given = passed (lacks_word s.section s.sense) what.Words g.x g.is;
      opened = o.is;
      is = cc;
    }

pub behind : (s u : Said) (name : List ℕ) (words : List (List ℕ)) → Opens s u name words
    → u.section ≡ named_or s.section (section_of name)
behind s u name words o = ap (λ (x : Said). x.section) (sym o.is)
    ∙ ap (named_or s.section) (sym o.named)

section_goes : (s u t : Said) (name : List ℕ) (words : List (List ℕ)) (ls : List DataLine)
    → Opens s u name words → Goes u ls t → Goes s ls t
section_goes s u t name words ls o g =
    let is = o.is in
    let later = o.later in
    let h : Goes (record s { section = o.next; sense = o.sense }) ls t = rw is g in
    record {
      rows = h.rows;
      columns = h.columns;
      rhs = h.rhs;
      ranges = h.ranges;
      bounds = h.bounds;
      kept_rows = λ l. h.kept_rows (omega (arith, l, later));
      kept_columns = λ l. h.kept_columns (omega (arith, l, later));
    }

-- a line goes on to what the lines behind it say
spoken_goes : (s u t : Said) (d : Bool) (words : List (List ℕ)) (ls : List DataLine)
    → spoken s d words ≡ Ok u → (u.section ≡ section_behind s.section d words → Goes u ls t)
    → Goes s (data_of s.section d words ++ ls) t
spoken_goes s u t true [] ls e g = let is : s ≡ u =
    cc in rw is (g (ap (λ (x : Said). x.section) (sym is)))
spoken_goes s u t false [] ls e g = let is : s ≡ u =
    cc in rw is (g (ap (λ (x : Said). x.section) (sym is)))
spoken_goes s u t true (word ∷ words) ls e g = data_goes s.section s u t (word ∷ words) ls refl e g
spoken_goes s u t false (name ∷ words) ls e g = let o =
    opens s u name words e in section_goes s u t name words ls o (g (behind s u name words o))

line_goes : (s u t : Said) (line : List ℕ) (ls : List DataLine) → after_line s line ≡ Ok u
    → (u.section ≡ section_behind s.section (is_data line) (words_said line) → Goes u ls t)
    → Goes s (data_of s.section (is_data line) (words_said line) ++ ls) t
unfolding after_line
line_goes s u t [] ls e g = let is : s ≡ u = cc in rw is (g (ap (λ (x : Said). x.section) (sym is)))
line_goes s u t (b ∷ bytes) ls e g = by (b == 42) e g
  where
    by : (c : Bool) → cond c (Ok s) (spoken s (is_blank b) (words_of (b ∷ bytes))) ≡ Ok u
        → (u.section ≡ section_behind s.section (is_blank b) (cond c [] (words_of (b ∷ bytes)))
        → Goes u ls t) → Goes s (data_of s.section (is_blank b) (cond c [] (words_of (b ∷ bytes)))
        ++ ls) t
    by true e g = spoken_goes s u t (is_blank b) [] ls e g
    by false e g = spoken_goes s u t (is_blank b) (words_of (b ∷ bytes)) ls e g

lines_go : (n : ℕ) (s : Said) (w : Whole) (lines : List (List ℕ)) → said_from n s lines ≡ Ok w
    → Goes s (data_lines s.section lines) w.said
lines_go n s w [] e = by (is_end s.section) refl
  where
    by : (b : Bool) → is_end s.section ≡ b → Goes s [] w.said
    by true f = let d = said_done n s [] f in let is : whole s n ≡ w = cc in rw (← is) (stops s)
    by false f = let d = said_open n s f in absurd cc
lines_go n s w (line ∷ lines) e = by (is_end s.section) refl (λ u h. lines_go (n + 1) u w lines h)
  where
    by : (b : Bool) → is_end s.section ≡ b
        → ((u : Said) → said_from (n + 1) u lines ≡ Ok w
        → Goes u (data_lines u.section lines) w.said)
        → Goes s (cond b [] (data_of s.section (is_data line) (words_said line)
        ++ data_lines (section_behind s.section (is_data line) (words_said line)) lines)) w.said
    by true f ih = let d = said_done n s (line ∷ lines) f in let is : whole s n ≡ w =
        cc in rw (← is) (stops s)
    by false f ih =
        let step = said_step n s line lines (after_line s line) f refl in
        let a = taken (n + 1) (after_line s line) (λ u. said_from (n + 1) u lines) w
        (sym step ∙ e) in
        line_goes s a.x w.said line (data_lines
        (section_behind s.section (is_data line) (words_said line)) lines) a.is
        (λ m. rw (← m) (ih a.x a.then))

-- each line of ROWS names its row
named : (rows new : List RowLine) (words : List (List ℕ)) → rows_line rows words ≡ Ok new
    → map (λ (r : RowLine). r.name) new ≡ map (λ (r : RowLine). r.name) rows ++ second_word words
    ∷ []
named rows new [] e = absurd cc
named rows new (kind ∷ []) e = absurd cc
named rows new (kind ∷ name ∷ more ∷ words) e = absurd cc
named rows new (kind ∷ name ∷ []) e =
    let a = went (there_or what.Words (role_for kind (has_objective rows)))
    (λ role. add_row rows name role) new e in
    let b = went (refuse (not (is_none (role_of rows name))) what.Twice) _ new a.then in
    let c = went (refuse (same name (codes "'MARKER'")) what.Marker) _ new b.then in
    let d = went (refuse (is_limited a.x && nat_le 1000 (count_limited rows)) what.TooMany) _ new
    c.then in
    let is : rows ++ record { name = name; role = a.x } ∷ [] ≡ new = cc in
    ap (map (λ (r : RowLine). r.name)) (sym is) ∙ map-append (λ (r : RowLine). r.name) rows
    (record { name = name; role = a.x } ∷ [])

names_go : (lines : List (List (List ℕ))) (rows new : List RowLine) → in_turn rows_line rows lines
    ≡ Ok new → map (λ (r : RowLine). r.name) new ≡ map (λ (r : RowLine). r.name) rows
    ++ map second_word lines
names_go [] rows new e = let is : rows ≡ new = cc in ap (map (λ (r : RowLine). r.name)) (sym is)
    ∙ sym (append-nil (map (λ (r : RowLine). r.name) rows))
names_go (words ∷ lines) rows new e =
    let a = went (rows_line rows words) (λ next. in_turn rows_line next lines) new e in
    names_go lines a.x new a.then ∙ ap (λ (ns : List (List ℕ)). ns ++ map second_word lines)
    (named rows a.x words a.is) ∙ append_assoc (map (λ (r : RowLine). r.name) rows)
    (second_word words ∷ []) (map second_word lines)

-- a file that is read says, section by section, what its data lines say
pub read_by_sections : (bytes : List ℕ) (w : Whole) → said_in bytes ≡ Ok w
    → IsReadBySections (lines_of bytes) w.said
unfolding said_in
read_by_sections bytes w e =
    let g = lines_go 0 nothing_said w (lines_of bytes) e in
    record {
      rows = g.rows;
      names = names_go (lines_in Rows (lines_of bytes)) [] w.said.rows
          g.rows;
      columns = g.columns;
      rhs = g.rhs;
      ranges = g.ranges;
      bounds = g.bounds;
    }
