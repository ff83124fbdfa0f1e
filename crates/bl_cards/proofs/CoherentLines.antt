-- A file's lines keep what holds of everything that it says.
use Rattle.std.proofs.Common.{Ok, ◌≡◌, ◌≢◌, ℕ, suc, ◌+◌, Bool, true, false, cond, not, List, []}
use Rattle.std.proofs.Common.{◌∷◌, ◌++◌, length, get_or, All, refl, sym, ap, ◌∙◌, arith, pos, ℤ}
use Rattle.std.specs.Prelude.{◌==◌}
use Rattle.std.proofs.lemmas.List.Elements.{All-push}
use Rattle.bl_text.specs.Pieces.{is_blank, lines_of, words_of, HasNoLineFeed}
use Rattle.bl_text.proofs.Bytes.{words_of-no_blank, words_of-no_line_feed, words_of-length}
use Rattle.bl_text.proofs.Bytes.{lines_of-no_line_feed}
use Rattle.bl_num.specs.declared.Decimal.{Decimal}
use Rattle.bl_problem.specs.Program.{IsName, IsVisible}
use Rattle.bl_cards.specs.declared.kind.Act.{Act}
use Rattle.bl_cards.specs.declared.kind.What.TheVariants as what
use Rattle.bl_cards.specs.declared.kind.Section.{Section}
use Rattle.bl_cards.specs.declared.kind.Section.TheVariants.{Start, Name, Objsense, Rows, Columns}
use Rattle.bl_cards.specs.declared.kind.Section.TheVariants.{Rhs, Ranges, Bounds, End}
use Rattle.bl_cards.specs.Said.{Given, Card, RowLine, SetOf, Said, nothing_said, place_of, refuse}
use Rattle.bl_cards.specs.Said.{there_or}
use Rattle.bl_cards.specs.Lines.{role_of, number_at, is_passed, is_first_set, with_set, has_given}
use Rattle.bl_cards.specs.Lines.{add_given, given, given_two, given_line, act_of, has_number}
use Rattle.bl_cards.specs.Lines.{bound_at, add_card, number_card, plain_card, number_words}
use Rattle.bl_cards.specs.Lines.{plain_words, bounds_line, rows_line, columns_line, data_line}
use Rattle.bl_cards.specs.Lines.{section_of, may_follow, sense_line, lacks_word, opened_sense}
use Rattle.bl_cards.specs.Lines.{section_line}
use Rattle.bl_cards.specs.declared.reader.Whole.{Whole}
use Rattle.bl_cards.specs.Reading.{spoken, after_line, is_end, said_from}
use Rattle.bl_cards.specs.Coherence.{IsRead, IsSmall, IsGiven, IsCard, IsCoherent}
use Rattle.bl_cards.proofs.NumbersRead.{number_read, bound_small}
use Rattle.bl_cards.proofs.Coherent.{went, rows_kept}
use Rattle.bl_cards.proofs.CoherentColumns.{columns_kept}
use Rattle.bl_cards.proofs.Walks.{whole, said_done, said_open, said_step, taken}

-- ---- RHS and RANGES

add_kept : (s new : SetOf Given) (row : List ℕ) (z : Decimal) → All IsGiven s.given → IsRead z
    → add_given s row z ≡ Ok new → All IsGiven new.given
add_kept s new row z h r e =
    let a = went (refuse (has_given s.given row) what.Twice) _ new e in
    let is : record s { given = s.given ++ record { row = row; number = z } ∷ [] } ≡ new = cc in
    rw (← is) (All-push IsGiven s.given (record { row = row; number = z }) h r)

pass_by : (t : Bool) (s new : SetOf Given) (row : List ℕ) (z : Decimal) → All IsGiven s.given
    → IsRead z → cond t (Ok s) (add_given s row z) ≡ Ok new → All IsGiven new.given
pass_by true s new row z h r e = let is : s ≡ new = cc in rw (← is) h
pass_by false s new row z h r e = add_kept s new row z h r e

given_kept : (o : Bool) (rows : List RowLine) (s new : SetOf Given) (row word : List ℕ)
    → All IsGiven s.given → given o rows s row word ≡ Ok new → All IsGiven new.given
given_kept o rows s new row word h e =
    let a = went (there_or what.UnknownRow (role_of rows row)) _ new e in
    let b = went (number_at word) _ new a.then in
    pass_by (is_passed o a.x) s new row b.x h (number_read word b.x b.is) b.then

two_kept : (o : Bool) (rows : List RowLine) (s new : SetOf Given) (row word row2 word2 : List ℕ)
    → All IsGiven s.given → given_two o rows s row word row2 word2 ≡ Ok new → All IsGiven new.given
two_kept o rows s new row word row2 word2 h e =
    let a = went (given o rows s row word) (λ first. given o rows first row2 word2) new e in
    given_kept o rows a.x new row2 word2 (given_kept o rows s a.x row word h a.is) a.then

-- a line of another set is passed over
one_by : (t : Bool) (o : Bool) (rows : List RowLine) (s new : SetOf Given) (set row word : List ℕ)
    → All IsGiven s.given → cond t (given o rows (with_set s set) row word) (Ok s) ≡ Ok new
    → All IsGiven new.given
one_by true o rows s new set row word h e = given_kept o rows (with_set s set) new row word h e
one_by false o rows s new set row word h e = let is : s ≡ new = cc in rw (← is) h

two_by : (t : Bool) (o : Bool) (rows : List RowLine) (s new : SetOf Given)
    (set row word row2 word2 : List ℕ) → All IsGiven s.given
    → cond t (given_two o rows (with_set s set) row word row2 word2) (Ok s) ≡ Ok new
    → All IsGiven new.given
two_by true o rows s new set row word row2 word2 h e =
    two_kept o rows (with_set s set) new row word row2 word2 h e
two_by false o rows s new set row word row2 word2 h e = let is : s ≡ new = cc in rw (← is) h

line_given : (o : Bool) (rows : List RowLine) (s new : SetOf Given) (words : List (List ℕ))
    → All IsGiven s.given → given_line o rows s words ≡ Ok new → All IsGiven new.given
line_given o rows s new [] h e = absurd cc
line_given o rows s new (a ∷ []) h e = absurd cc
line_given o rows s new (row ∷ word ∷ []) h e = given_kept o rows s new row word h e
line_given o rows s new (set ∷ row ∷ word ∷ []) h e =
    one_by (is_first_set s.set set) o rows s new set row word h e
line_given o rows s new (row ∷ word ∷ row2 ∷ word2 ∷ []) h e =
    two_kept o rows s new row word row2 word2 h e
line_given o rows s new (set ∷ row ∷ word ∷ row2 ∷ word2 ∷ []) h e =
    two_by (is_first_set s.set set) o rows s new set row word row2 word2 h e
line_given o rows s new (a ∷ b ∷ c ∷ d ∷ f ∷ g ∷ words) h e = absurd cc

-- ---- BOUNDS

card_added : (s : SetOf Card) (column : List ℕ) (a : Act) (n : ℤ) → All IsCard s.given → IsSmall n
    → All IsCard (add_card s column a n).given
card_added s column a n h m =
    All-push IsCard s.given (record { column = column; act = a; number = n }) h m

number_kept : (columns : List (List ℕ)) (a : Act) (s new : SetOf Card) (column word : List ℕ)
    → All IsCard s.given → number_card columns a s column word ≡ Ok new → All IsCard new.given
number_kept columns a s new column word h e =
    let x = went (there_or what.UnknownColumn (place_of columns column)) _ new e in
    let y = went (bound_at word) _ new x.then in
    let is : add_card s column a y.x ≡ new = cc in
    rw (← is) (card_added s column a y.x h (bound_small word y.x y.is))

plain_kept : (columns : List (List ℕ)) (a : Act) (s new : SetOf Card) (column : List ℕ)
    → All IsCard s.given → plain_card columns a s column ≡ Ok new → All IsCard new.given
plain_kept columns a s new column h e =
    let x = went (there_or what.UnknownColumn (place_of columns column)) _ new e in
    let is : add_card s column a (pos 0) ≡ new = cc in
    rw (← is) (card_added s column a (pos 0) h (omega arith))

number_set_by : (t : Bool) (columns : List (List ℕ)) (a : Act) (s new : SetOf Card)
    (set column word : List ℕ) → All IsCard s.given
    → cond t (number_card columns a (with_set s set) column word) (Ok s) ≡ Ok new
    → All IsCard new.given
number_set_by true columns a s new set column word h e =
    number_kept columns a (with_set s set) new column word h e
number_set_by false columns a s new set column word h e = let is : s ≡ new = cc in rw (← is) h

plain_set_by : (t : Bool) (columns : List (List ℕ)) (a : Act) (s new : SetOf Card)
    (set column : List ℕ) → All IsCard s.given
    → cond t (plain_card columns a (with_set s set) column) (Ok s) ≡ Ok new → All IsCard new.given
plain_set_by true columns a s new set column h e =
    plain_kept columns a (with_set s set) new column h e
plain_set_by false columns a s new set column h e = let is : s ≡ new = cc in rw (← is) h

numbers_kept : (columns : List (List ℕ)) (a : Act) (s new : SetOf Card) (words : List (List ℕ))
    → All IsCard s.given → number_words columns a s words ≡ Ok new → All IsCard new.given
numbers_kept columns a s new [] h e = absurd cc
numbers_kept columns a s new (x ∷ []) h e = absurd cc
numbers_kept columns a s new (column ∷ word ∷ []) h e = number_kept columns a s new column word h e
numbers_kept columns a s new (set ∷ column ∷ word ∷ []) h e =
    number_set_by (is_first_set s.set set) columns a s new set column word h e
numbers_kept columns a s new (x ∷ y ∷ z ∷ u ∷ words) h e = absurd cc

plains_kept : (columns : List (List ℕ)) (a : Act) (s new : SetOf Card) (words : List (List ℕ))
    → All IsCard s.given → plain_words columns a s words ≡ Ok new → All IsCard new.given
plains_kept columns a s new [] h e = absurd cc
plains_kept columns a s new (column ∷ []) h e = plain_kept columns a s new column h e
plains_kept columns a s new (set ∷ column ∷ []) h e =
    plain_set_by (is_first_set s.set set) columns a s new set column h e
plains_kept columns a s new (set ∷ column ∷ unread ∷ []) h e =
    plain_set_by (is_first_set s.set set) columns a s new set column h e
plains_kept columns a s new (x ∷ y ∷ z ∷ u ∷ words) h e = absurd cc

kind_by : (t : Bool) (columns : List (List ℕ)) (a : Act) (s new : SetOf Card)
    (words : List (List ℕ)) → All IsCard s.given → cond t (number_words columns a s words)
    (plain_words columns a s words) ≡ Ok new → All IsCard new.given
kind_by true columns a s new words h e = numbers_kept columns a s new words h e
kind_by false columns a s new words h e = plains_kept columns a s new words h e

bounds_kept : (columns : List (List ℕ)) (s new : SetOf Card) (words : List (List ℕ))
    → All IsCard s.given → bounds_line columns s words ≡ Ok new → All IsCard new.given
bounds_kept columns s new [] h e = absurd cc
bounds_kept columns s new (kind ∷ words) h e =
    let a = went (there_or what.Words (act_of kind)) _ new e in
    kind_by (has_number a.x) columns a.x s new words h a.then

-- ---- any line

data_kept : (section : Section) (s new : Said) (words : List (List ℕ)) → IsCoherent s
    → All IsName words → data_line section s words ≡ Ok new → IsCoherent new
data_kept Start s new words h w e = absurd cc
data_kept Name s new words h w e = absurd cc
data_kept Objsense s new words h w e =
    let a = went (sense_line s.sense words) _ new e in
    let is : record s { sense = a.x } ≡ new = cc in
    rw (← is) (record {
      lines = h.lines;
      grid = h.grid;
      rhs = h.rhs;
      ranges = h.ranges;
      cards =
          h.cards;
    })
data_kept Rows s new words h w e =
    let a = went (rows_line s.rows words) _ new e in
    let is : record s { rows = a.x } ≡ new = cc in
    rw (← is) (record {
      lines = rows_kept s.rows words a.x h.lines w a.is;
      grid = h.grid;
      rhs =
          h.rhs;
      ranges = h.ranges;
      cards = h.cards;
    })
data_kept Columns s new words h w e =
    let a = went (columns_line s.rows s.columns words) _ new e in
    let is : record s { columns = a.x } ≡ new = cc in
    rw (← is) (record {
      lines = h.lines;
      grid =
          columns_kept s.rows s.columns a.x words h.grid w a.is;
      rhs = h.rhs;
      ranges =
          h.ranges;
      cards = h.cards;
    })
data_kept Rhs s new words h w e =
    let a = went (given_line false s.rows s.rhs words) _ new e in
    let is : record s { rhs = a.x } ≡ new = cc in
    rw (← is) (record {
      lines = h.lines;
      grid = h.grid;
      rhs =
          line_given false s.rows s.rhs a.x words h.rhs a.is;
      ranges = h.ranges;
      cards = h.cards;
    })
data_kept Ranges s new words h w e =
    let a = went (given_line true s.rows s.ranges words) _ new e in
    let is : record s { ranges = a.x } ≡ new = cc in
    rw (← is) (record {
      lines = h.lines;
      grid = h.grid;
      rhs = h.rhs;
      ranges =
          line_given true s.rows s.ranges a.x words h.ranges a.is;
      cards = h.cards;
    })
data_kept Bounds s new words h w e =
    let a = went (bounds_line s.columns.names s.bounds words) _ new e in
    let is : record s { bounds = a.x } ≡ new = cc in
    rw (← is) (record {
      lines = h.lines;
      grid = h.grid;
      rhs = h.rhs;
      ranges = h.ranges;
      cards =
          bounds_kept s.columns.names s.bounds a.x words h.cards a.is;
    })
data_kept End s new words h w e = absurd cc

section_kept : (s new : Said) (name : List ℕ) (words : List (List ℕ)) → IsCoherent s
    → section_line s name words ≡ Ok new → IsCoherent new
section_kept s new name words h e =
    let a = went (there_or what.Section (section_of name)) _ new e in
    let b = went (refuse (not (may_follow s.section a.x)) what.Section) _ new a.then in
    let g = went (refuse (lacks_word s.section s.sense) what.Words) _ new b.then in
    let o = went (opened_sense a.x s.sense words) _ new g.then in
    let is : record s { section = a.x; sense = o.x } ≡ new = cc in
    rw (← is) (record {
      lines = h.lines;
      grid = h.grid;
      rhs = h.rhs;
      ranges = h.ranges;
      cards =
          h.cards;
    })

spoken_kept : (s new : Said) (is_data : Bool) (words : List (List ℕ)) → IsCoherent s
    → All IsName words → spoken s is_data words ≡ Ok new → IsCoherent new
spoken_kept s new is_data [] h w e = let is : s ≡ new = cc in rw (← is) h
spoken_kept s new true (word ∷ words) h w e = data_kept s.section s new (word ∷ words) h w e
spoken_kept s new false (name ∷ words) h w e = section_kept s new name words h e

-- a byte that is neither a blank nor a line feed can be seen
visible : (b : ℕ) → is_blank b ≡ false → b ≢ 10 → IsVisible b
visible b n f = record {
  space = λ e. absurd (blank (rw e at n));
  tab =
      λ e. absurd (blank9 (rw e at n));
  return = λ e. absurd (blank13 (rw e at n));
  feed = f;
}
  where
    blank : is_blank 32 ≡ false → ⊥
    blank e = absurd cc

    blank9 : is_blank 9 ≡ false → ⊥
    blank9 e = absurd cc

    blank13 : is_blank 13 ≡ false → ⊥
    blank13 e = absurd cc

-- the words of a line can be names
names : (line : List ℕ) → HasNoLineFeed line → All IsName (words_of line)
names line f = λ k d l.
    let some = words_of-length line k d l in
    let plain = words_of-no_blank line k d l in
    let feed = words_of-no_line_feed line f k d l in
    record {
      some = λ e. let z = ap length e in omega (arith, some, z);
      visible = λ i b m. visible (get_or (get_or (words_of line) k d) i b) (plain i b m)
          (feed i b m);
    }

line_by : (t : Bool) (s new : Said) (b : ℕ) (bytes : List ℕ) → IsCoherent s
    → HasNoLineFeed (b ∷ bytes) → cond t (Ok s) (spoken s (is_blank b) (words_of (b ∷ bytes)))
    ≡ Ok new → IsCoherent new
line_by true s new b bytes h f e = let is : s ≡ new = cc in rw (← is) h
line_by false s new b bytes h f e =
    spoken_kept s new (is_blank b) (words_of (b ∷ bytes)) h (names (b ∷ bytes) f) e

line_kept : (s new : Said) (line : List ℕ) → IsCoherent s → HasNoLineFeed line → after_line s line
    ≡ Ok new → IsCoherent new
unfolding after_line
line_kept s new [] h f e = let is : s ≡ new = cc in rw (← is) h
line_kept s new (b ∷ bytes) h f e = line_by (b == 42) s new b bytes h f e

lines_kept : (n : ℕ) (s : Said) (w : Whole) (lines : List (List ℕ)) → IsCoherent s
    → All HasNoLineFeed lines → said_from n s lines ≡ Ok w → IsCoherent w.said
lines_kept n s w [] h f e = by (is_end s.section) refl
  where
    by : (t : Bool) → is_end s.section ≡ t → IsCoherent w.said
    by true t = let d = said_done n s [] t in let is : whole s n ≡ w = cc in rw (← is) h
    by false t = let d = said_open n s t in absurd cc
lines_kept n s w (line ∷ lines) h f e =
    by (is_end s.section) refl (λ t c k. lines_kept (n + 1) t w lines c
    (λ i d l. f (suc i) d (omega arith)) k)
  where
    by : (t : Bool) → is_end s.section ≡ t
        → ((u : Said) → IsCoherent u → said_from (n + 1) u lines ≡ Ok w → IsCoherent w.said)
        → IsCoherent w.said
    by true t ih = let d = said_done n s (line ∷ lines) t in let is : whole s n ≡ w =
        cc in rw (← is) h
    by false t ih =
        let step = said_step n s line lines (after_line s line) t refl in
        let a = taken (n + 1) (after_line s line) (λ u. said_from (n + 1) u lines) w
        (sym step ∙ e) in
        ih a.x (line_kept s a.x line h (f 0 line (omega arith)) a.is) a.then

none : {A : Type 0} (P : A → Type 0) → All P []
none P = λ k d l. absurd (omega arith)

pub nothing_coherent : IsCoherent nothing_said
nothing_coherent =
    record {
      lines = record { names = none _; differ = tt; few = omega arith };
      grid = record {
        named = none _;
        differ = tt;
        few = omega arith;
        each = none _;
        rising =
            λ i j d l m. absurd (omega arith);
      };
      rhs = none _;
      ranges = none _;
      cards = none _;
    }

-- what a whole file says is coherent
pub file_coherent : (bytes : List ℕ) (s : Said) (w : Whole) → said_from 0 s (lines_of bytes)
    ≡ Ok w → IsCoherent s → IsCoherent w.said
file_coherent bytes s w e h = lines_kept 0 s w (lines_of bytes) h (lines_of-no_line_feed bytes) e
