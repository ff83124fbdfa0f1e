-- What the reading of lines comes to, in other words.
use Rattle.std.specs.Prelude.{◌≡◌, ◌⊎◌, ◌↔◌, ℕ, ◌+◌, true, false, List, [], ◌∷◌, ◌++◌, length, Ok}
use Rattle.std.specs.Prelude.{Err}
use Rattle.bl_text.specs.Pieces.{lines_of}
use Rattle.bl_cards.specs.declared.kind.What.{What}
use Rattle.bl_cards.specs.declared.kind.What.TheVariants as what
use Rattle.bl_cards.specs.declared.reader.Whole.{Whole}
use Rattle.bl_cards.specs.Said.{Said, nothing_said}
use Rattle.bl_cards.specs.Reading.{Fault, after_line, is_end, said_in}
use Rattle.bl_cards.specs.Sections.{IsReadBySections}
use Rattle.bl_cards.specs.Named.{IsNamedByLines}
use Rattle.bl_cards.specs.Sets.{AreGivenByLines}
use Rattle.bl_cards.specs.Senses.{IsAskedByLines}

-- ---- the first fault

-- no line breaks a rule or comes behind the ENDATA line, and together they said this
abbrev pub AreGood : Said → List (List ℕ) → Said → Type 0
AreGood s [] t = s ≡ t
AreGood s (line ∷ lines) t = (u : Said) × (is_end s.section ≡ false) × (after_line s line ≡ Ok u)
    × AreGood u lines t

-- behind lines without a fault comes one that breaks a rule, and this is the first that it breaks
pub record LineBreaks (start : Said) (lines : List (List ℕ)) (line : ℕ) (w : What) : Type 0 where
  pub before : List (List ℕ)
  pub here : List ℕ
  pub after : List (List ℕ)
  pub said : Said
  pub parts : lines ≡ before ++ here ∷ after
  pub good : AreGood start before said
  pub open_still : is_end said.section ≡ false
  pub broken : after_line said here ≡ Err w
  pub number : line ≡ length before + 1

-- no line breaks a rule, and none is the ENDATA line
pub record EndIsMissing (start : Said) (lines : List (List ℕ)) (line : ℕ) (w : What) : Type 0 where
  pub said : Said
  pub good : AreGood start lines said
  pub open_still : is_end said.section ≡ false
  pub what_is : w ≡ what.NoEnd
  pub number : line ≡ length lines + 1

-- the lines up to the ENDATA line say this, none of them breaks a rule, and nothing behind is read
pub record Ends (start : Said) (lines : List (List ℕ)) (line : ℕ) (said : Said) : Type 0 where
  pub taken : List (List ℕ)
  pub after : List (List ℕ)
  pub parts : lines ≡ taken ++ after
  pub good : AreGood start taken said
  pub is_done : is_end said.section ≡ true
  pub number : line ≡ length taken

-- a fault that a line tells is the first, and a first fault is told
abbrev pub TellsFirstLine : Type 0
TellsFirstLine = (bytes : List ℕ) (f : Fault) →
    (said_in bytes ≡ Err f) ↔ (LineBreaks nothing_said (lines_of bytes) f.line f.what
    ⊎ EndIsMissing nothing_said (lines_of bytes) f.line f.what)

-- ---- what is said

-- what the lines up to the ENDATA line say, in the lines' own words: by sections, columns and
-- numbers by name, the rest by set, and the sense by its word
pub record IsSaidByLines (lines : List (List ℕ)) (line : ℕ) (said : Said) : Type 0 where
  pub ends : Ends nothing_said lines line said
  pub sections : IsReadBySections lines said
  pub named : IsNamedByLines lines said
  pub given : AreGivenByLines lines said
  pub asked : IsAskedByLines lines said

-- what a file says, with no fault, is what its lines up to the ENDATA line say one after another
abbrev pub TellsEnds : Type 0
TellsEnds = (bytes : List ℕ) (w : Whole) → (said_in bytes ≡ Ok w)
    ↔ Ends nothing_said (lines_of bytes) w.last w.said

-- what a file says is what its lines say, and the other way round
abbrev pub TellsLines : Type 0
TellsLines = (bytes : List ℕ) (w : Whole) → (said_in bytes ≡ Ok w)
    ↔ IsSaidByLines (lines_of bytes) w.last w.said
