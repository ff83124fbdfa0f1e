-- The sense is named by the one word of OBJSENSE.
use Rattle.std.proofs.Common.{◌≡◌, ℕ, ◌+◌, ◌<◌, ◌≤◌, Bool, true, false, cond, ◌&&◌, List, [], ◌∷◌}
use Rattle.std.proofs.Common.{◌++◌, length, Option, Some, None, Result, Ok, refl, sym, ap, subst}
use Rattle.std.proofs.Common.{◌∙◌, arith}
use Rattle.std.specs.Prelude.{◌==◌, is_none, is_some, codes}
use Rattle.std.proofs.lemmas.Bool.Decides.{nat_tests}
use Rattle.bl_text.specs.Pieces.{is_blank, words_of, lines_of}
use Rattle.bl_problem.specs.declared.problem.Sense.{Sense}
use Rattle.bl_cards.specs.declared.kind.Section.{Section}
use Rattle.bl_cards.specs.declared.kind.Section.TheVariants.{Start, Name, Objsense, Rows, Columns}
use Rattle.bl_cards.specs.declared.kind.Section.TheVariants.{Rhs, Ranges, Bounds, End}
use Rattle.bl_cards.specs.declared.kind.What.{What}
use Rattle.bl_cards.specs.declared.kind.What.TheVariants as what
use Rattle.bl_cards.specs.declared.reader.Whole.{Whole}
use Rattle.bl_cards.specs.Said.{same, Said, nothing_said, refuse, there_or}
use Rattle.bl_cards.specs.Lines.{sense_of, sense_word, sense_line, section_of, rank, lacks_word}
use Rattle.bl_cards.specs.Lines.{opened_sense, section_line, data_line, rows_line, columns_line}
use Rattle.bl_cards.specs.Lines.{given_line, bounds_line}
use Rattle.bl_cards.specs.Reading.{spoken, after_line, is_end, said_from, said_in}
use Rattle.bl_cards.specs.Sections.{is_data, words_said, section_behind}
use Rattle.bl_cards.specs.Senses.{second_on, sense_words_on, sense_words, opening_on, openings}
use Rattle.bl_cards.specs.Senses.{AsksFor, IsAskedByLines}
use Rattle.bl_cards.proofs.Walks.{whole, said_done, said_open, said_step, taken}
use Rattle.bl_cards.proofs.Coherent.{went, passed, there}
use Rattle.bl_cards.proofs.Differing.{same_is}
use Rattle.bl_cards.proofs.SectionLaw.{Opens, opens, behind}

-- one where OBJSENSE is open without its word
abbrev owed : Section → Option Sense → ℕ
owed section sense = cond (lacks_word section sense) 1 0

-- a sense that is there came in OBJSENSE
abbrev Fits : Section → Option Sense → Type 0
Fits section None = Unit {0}
Fits section (Some sense) = 2 ≤ rank section

-- what the words of later lines do to the sense: where it is there, no further word comes
abbrev Asks : Option Sense → List (List ℕ) → Option Sense → Type 0
Asks None words later = AsksFor words later
Asks (Some sense) words later = (words ≡ []) × (later ≡ Some sense)

-- from one state to the sense at the end: these words, and so many OBJSENSE lines
record Asked (section : Section) (sense later : Option Sense) (words : List (List ℕ))
    (lines : ℕ) : Type 0 where
  asks : Asks sense words later
  count : length words ≡ lines + owed section sense

-- a line gives these words, and so many OBJSENSE lines
record Step (section : Section) (sense : Option Sense) (next : Section) (now : Option Sense)
    (words : List (List ℕ)) (lines : ℕ) : Type 0 where
  fits : Fits next now
  goes : (later : Option Sense) (rest : List (List ℕ)) (n : ℕ) → Asked next now later rest n
      → Asked section sense later (words ++ rest) (lines + n)

-- ---- the end

stops_by : (sense : Option Sense) → Asks sense [] sense
stops_by None = tt
stops_by (Some sense) = (refl, refl)

not_owed : (section : Section) (sense : Option Sense) → is_end section ≡ true → owed section sense
    ≡ 0
not_owed Start sense e = absurd cc
not_owed Name sense e = absurd cc
not_owed Objsense sense e = absurd cc
not_owed Rows sense e = absurd cc
not_owed Columns sense e = absurd cc
not_owed Rhs sense e = absurd cc
not_owed Ranges sense e = absurd cc
not_owed Bounds sense e = absurd cc
not_owed End sense e = refl

stops : (section : Section) (sense : Option Sense) → is_end section ≡ true
    → Asked section sense sense [] 0
stops section sense e = record {
  asks = stops_by sense;
  count =
      omega (arith, not_owed section sense e);
}

-- ---- data lines

stays : (section : Section) (sense : Option Sense) → Fits section sense
    → Step section sense section sense [] 0
stays section sense f = record {
  fits = f;
  goes =
      λ later rest n g. let c = g.count in record { asks = g.asks; count = omega (arith, c) };
}

-- a word where the sense was missing
took : (section : Section) (sense : Option Sense) (word : List ℕ) (x : Sense)
    (later : Option Sense) (rest : List (List ℕ)) (k n : ℕ) → sense ≡ None → sense_of word
    ≡ Some x → k + n + owed section None ≡ n + 1
    → Asked Objsense (Some x) later rest n → Asked section sense later (word ∷ rest) (k + n)
took section sense word x later rest k n a f c g =
    let r = g.asks.0 in
    let l = g.asks.1 in
    let m = g.count in
    record { asks = rw (a, r, l) f; count = rw a (omega (arith, m, c)) }

missing : (o : Option Sense) → is_some o ≡ false → o ≡ None
missing None e = refl
missing (Some x) e = absurd cc

data_word : (sense now : Option Sense) (words : List (List ℕ)) → sense_line sense words ≡ Ok now
    → Step Objsense sense Objsense now words 0
data_word sense now [] e = absurd cc
data_word sense now (word ∷ more ∷ words) e = absurd cc
data_word sense now (word ∷ []) e =
    let a = went (sense_word word) _ now e in
    let b = went (there_or what.Words (sense_of word)) _ a.x a.is in
    let d = went (refuse (is_some sense) what.Twice) _ now a.then in
    let is : Some b.x ≡ now = cc in
    let none = missing sense (passed (is_some sense) what.Twice d.x d.is) in
    let found = there what.Words (sense_of word) b.x b.is in
    rw (← is) (record {
      fits = omega arith;
      goes =
          λ later rest n g. took Objsense sense word b.x later rest 0 n none found (omega arith) g;
    })

-- a data line of another section gives no word
data_step : (now : Section) (s u : Said) (words : List (List ℕ)) → s.section ≡ now
    → Fits s.section s.sense → data_line now s words ≡ Ok u
    → Step s.section s.sense u.section u.sense (cond (rank now == 2) words []) 0
    × (u.section ≡ s.section)
data_step Start s u words n f e = absurd cc
data_step Name s u words n f e = absurd cc
data_step Objsense s u words n f e =
    let a = went (sense_line s.sense words) _ u e in
    let is : record s { sense = a.x } ≡ u = cc in
    rw (← is) (
      subst (λ (x : Section). Step x s.sense x a.x words 0) (sym n)
          (data_word s.sense a.x words a.is),
      refl,
    )
data_step Rows s u words n f e =
    let a = went (rows_line s.rows words) _ u e in
    let is : record s { rows = a.x } ≡ u = cc in
    rw (← is) (stays s.section s.sense f, refl)
data_step Columns s u words n f e =
    let a = went (columns_line s.rows s.columns words) _ u e in
    let is : record s { columns = a.x } ≡ u = cc in
    rw (← is) (stays s.section s.sense f, refl)
data_step Rhs s u words n f e =
    let a = went (given_line false s.rows s.rhs words) _ u e in
    let is : record s { rhs = a.x } ≡ u = cc in
    rw (← is) (stays s.section s.sense f, refl)
data_step Ranges s u words n f e =
    let a = went (given_line true s.rows s.ranges words) _ u e in
    let is : record s { ranges = a.x } ≡ u = cc in
    rw (← is) (stays s.section s.sense f, refl)
data_step Bounds s u words n f e =
    let a = went (bounds_line s.columns.names s.bounds words) _ u e in
    let is : record s { bounds = a.x } ≡ u = cc in
    rw (← is) (stays s.section s.sense f, refl)
data_step End s u words n f e = absurd cc

-- ---- section lines

-- an OBJSENSE line opens OBJSENSE, and no other line does
objsense_is : (name : List ℕ) (next : Section) → section_of name ≡ Some next → same name (codes "OBJSENSE") ≡ (rank next == 2)
objsense_is name next e =
    first (same name (codes "NAME")) (same name (codes "OBJSENSE")) (same name (codes "ROWS")) (same name (codes "COLUMNS")) (same name (codes "RHS")) (same name (codes "RANGES")) (same name (codes "BOUNDS")) (same name (codes "ENDATA"))
    (λ h. let is : name ≡ codes "NAME" = same_is name (codes "NAME") h in rw is refl) e
  where
    not_there : (x : Section) → (rank x == 2) ≡ false → Some x ≡ Some next → false
        ≡ (rank next == 2)
    not_there x r e = let is : x ≡ next = cc in rw (← is) (sym r)

    rest : (c d f g h i : Bool)
        → cond c (Some Rows)
        (cond d (Some Columns) (cond f (Some Rhs)
        (cond g (Some Ranges) (cond h (Some Bounds) (cond i (Some End) None))))) ≡ Some next
        → false ≡ (rank next == 2)
    rest true d f g h i e = not_there Rows refl e
    rest false true f g h i e = not_there Columns refl e
    rest false false true g h i e = not_there Rhs refl e
    rest false false false true h i e = not_there Ranges refl e
    rest false false false false true i e = not_there Bounds refl e
    rest false false false false false true e = not_there End refl e
    rest false false false false false false e = absurd cc

    first : (a b c d f g h i : Bool) → (a ≡ true → b ≡ false)
        → cond a (Some Name)
        (cond b (Some Objsense)
        (cond c (Some Rows)
        (cond d (Some Columns) (cond f (Some Rhs)
        (cond g (Some Ranges) (cond h (Some Bounds) (cond i (Some End) None))))))) ≡ Some next
        → b ≡ (rank next == 2)
    first true b c d f g h i n e = n refl ∙ not_there Name refl e
    first false true c d f g h i n e = let is : Objsense ≡ next = cc in rw (← is) refl
    first false false c d f g h i n e = rest c d f g h i e

-- the section is not OBJSENSE: the sense is as it was
other_opens : (section next : Section) (sense now : Option Sense) → rank section < rank next
    → (rank next == 2) ≡ false → owed section sense ≡ 0 → Fits section sense → sense ≡ now
    → Step section sense next now [] 0
other_opens section next None now l r o f is =
    rw (← is) (record {
      fits = tt;
      goes =
          λ later rest n g. let c = rw r at g.count in record {
            asks = g.asks;
            count =
                omega (arith, c, o);
          };
    })
other_opens section next (Some x) now l r o f is =
    rw (← is) (record {
      fits = omega (arith, f, l);
      goes =
          λ later rest n g. let c = rw r at g.count in record {
            asks = g.asks;
            count =
                omega (arith, c, o);
          };
    })

-- OBJSENSE, with its word or without
objsense_opens : (section : Section) (sense now : Option Sense) (words : List (List ℕ))
    → rank section < 2 → owed section sense ≡ 0 → Fits section sense
    → opened_sense Objsense sense words ≡ Ok now
    → Step section sense Objsense now (second_on (codes "OBJSENSE" ∷ words)) 1
objsense_opens section (Some x) now words l o f e = absurd (omega (arith, f, l))
objsense_opens section None now [] l o f e =
    let is : None ≡ now = cc in
    rw (← is) (record {
      fits = tt;
      goes =
          λ later rest n g. let c = g.count in record { asks = g.asks; count = omega (arith, c, o) };
    })
objsense_opens section None now (word ∷ words) l o f e =
    let b = went (there_or what.Words (sense_of word)) _ now e in
    let is : Some b.x ≡ now = cc in
    let found = there what.Words (sense_of word) b.x b.is in
    rw (← is) (record {
      fits = omega arith;
      goes =
          λ later rest n g. took section None word b.x later rest 1 n refl found (omega (arith, o))
          g;
    })

section_step : (s u : Said) (name : List ℕ) (words : List (List ℕ)) → Fits s.section s.sense
    → section_line s name words ≡ Ok u → Step s.section s.sense u.section u.sense
    (second_on (name ∷ words)) (opening_on false (name ∷ words))
section_step s u name words f e =
    let o = opens s u name words e in
    let is = o.is in
    rw (← is) (by (same name (codes "OBJSENSE")) refl o.next o.sense (objsense_is name o.next o.named) o.later o.opened (ap (λ (b : Bool). cond b 1 0) o.given))
  where
    two_is : (x : Section) → true ≡ (rank x == 2) → x ≡ Objsense
    two_is Start e = absurd cc
    two_is Name e = absurd cc
    two_is Objsense e = refl
    two_is Rows e = absurd cc
    two_is Columns e = absurd cc
    two_is Rhs e = absurd cc
    two_is Ranges e = absurd cc
    two_is Bounds e = absurd cc
    two_is End e = absurd cc

    no_word : (b : Bool) (words : List (List ℕ)) → same name (codes "OBJSENSE") ≡ false → second_on (name ∷ words) ≡ []
    no_word b [] h = refl
    no_word b (word ∷ words) h = rw h refl

    same_sense : (next : Section) (sense now : Option Sense) (words : List (List ℕ))
        → (rank next == 2) ≡ false → opened_sense next sense words ≡ Ok now → sense ≡ now
    same_sense next sense now [] r h = cc
    same_sense next sense now (word ∷ words) r h = let k = rw r at h in cc

    by : (b : Bool) → same name (codes "OBJSENSE") ≡ b → (next : Section) (now : Option Sense) → same name (codes "OBJSENSE") ≡ (rank next == 2) → rank s.section < rank next → opened_sense next s.sense words ≡ Ok now → owed s.section s.sense ≡ 0
        → Step s.section s.sense next now (second_on (name ∷ words))
        (opening_on false (name ∷ words))
    by true h next now t l w o =
        let n = same_is name (codes "OBJSENSE") h in
        let x = two_is next (sym h ∙ t) in
        let l2 : rank s.section < 2 = rw x at l in
        let w2 : opened_sense Objsense s.sense words ≡ Ok now = rw x at w in
        rw x (subst (λ (m : List ℕ). Step s.section s.sense Objsense now (second_on (m ∷ words))
        (opening_on false (m ∷ words))) (sym n)
        (objsense_opens s.section s.sense now words l2 o f w2))
    by false h next now t l w o =
        let r : (rank next == 2) ≡ false = sym t ∙ h in
        rw (no_word false words h, h) (other_opens s.section next s.sense now l r o f
        (same_sense next s.sense now words r w))

-- ---- any line

none_given : (b : Bool) → cond {A = List (List ℕ)} b [] [] ≡ []
none_given true = refl
none_given false = refl

spoken_step : (s u : Said) (d : Bool) (words : List (List ℕ)) → Fits s.section s.sense
    → spoken s d words ≡ Ok u
    → Step s.section s.sense u.section u.sense (sense_words_on s.section d words)
    (opening_on d words) × (u.section ≡ section_behind s.section d words)
spoken_step s u true [] f e = let is : s ≡ u =
    cc in rw (← is, none_given (rank s.section == 2)) (stays s.section s.sense f, refl)
spoken_step s u false [] f e = let is : s ≡ u = cc in rw (← is) (stays s.section s.sense f, refl)
spoken_step s u true (word ∷ words) f e = data_step s.section s u (word ∷ words) refl f e
spoken_step s u false (name ∷ words) f e =
    (section_step s u name words f e, behind s u name words (opens s u name words e))

line_step : (s u : Said) (line : List ℕ) → Fits s.section s.sense → after_line s line ≡ Ok u
    → Step s.section s.sense u.section u.sense (sense_words_on s.section (is_data line)
    (words_said line)) (opening_on (is_data line) (words_said line))
    × (u.section ≡ section_behind s.section (is_data line) (words_said line))
unfolding after_line
line_step s u [] f e = spoken_step s u true [] f e
line_step s u (b ∷ bytes) f e = by (b == 42) e
  where
    by : (c : Bool) → cond c (Ok s) (spoken s (is_blank b) (words_of (b ∷ bytes))) ≡ Ok u
        → Step s.section s.sense u.section u.sense (sense_words_on s.section (is_blank b)
        (cond c [] (words_of (b ∷ bytes)))) (opening_on (is_blank b)
        (cond c [] (words_of (b ∷ bytes))))
        × (u.section ≡ section_behind s.section (is_blank b) (cond c [] (words_of (b ∷ bytes))))
    by true e = spoken_step s u (is_blank b) [] f e
    by false e = spoken_step s u (is_blank b) (words_of (b ∷ bytes)) f e

lines_ask : (n : ℕ) (s : Said) (w : Whole) (lines : List (List ℕ)) → Fits s.section s.sense
    → said_from n s lines ≡ Ok w → Asked s.section s.sense w.said.sense
    (sense_words s.section lines) (openings s.section lines)
lines_ask n s w [] f e = by (is_end s.section) refl
  where
    by : (b : Bool) → is_end s.section ≡ b → Asked s.section s.sense w.said.sense [] 0
    by true h = let d = said_done n s [] h in let is : whole s n ≡ w =
        cc in rw (← is) (stops s.section s.sense h)
    by false h = let d = said_open n s h in absurd cc
lines_ask n s w (line ∷ lines) f e =
    by (is_end s.section) refl (λ u g h. lines_ask (n + 1) u w lines g h)
  where
    by : (b : Bool) → is_end s.section ≡ b → ((u : Said) → Fits u.section u.sense
        → said_from (n + 1) u lines ≡ Ok w
        → Asked u.section u.sense w.said.sense (sense_words u.section lines)
        (openings u.section lines))
        → Asked s.section s.sense w.said.sense
        (cond b [] (sense_words_on s.section (is_data line) (words_said line) ++ sense_words
        (section_behind s.section (is_data line) (words_said line)) lines))
        (cond b 0 (opening_on (is_data line) (words_said line)
        + openings (section_behind s.section (is_data line) (words_said line)) lines))
    by true h ih = let d = said_done n s (line ∷ lines) h in let is : whole s n ≡ w =
        cc in rw (← is) (stops s.section s.sense h)
    by false h ih =
        let step = said_step n s line lines (after_line s line) h refl in
        let a = taken (n + 1) (after_line s line) (λ u. said_from (n + 1) u lines) w
        (sym step ∙ e) in
        let k = line_step s a.x line f a.is in
        let on = section_behind s.section (is_data line) (words_said line) in
        k.0.goes w.said.sense (sense_words on lines) (openings on lines)
        (subst (λ (x : Section). Asked a.x.section a.x.sense w.said.sense
        (sense_words x lines) (openings x lines)) k.1 (ih a.x k.0.fits a.then))

-- the sense of a file that is read is the one that its lines ask for
pub asked_by_lines : (bytes : List ℕ) (w : Whole) → said_in bytes ≡ Ok w
    → IsAskedByLines (lines_of bytes) w.said
unfolding said_in
asked_by_lines bytes w e =
    let a = lines_ask 0 nothing_said w (lines_of bytes) tt e in
    let c = a.count in
    record { word = a.asks; given = omega (arith, c) }
