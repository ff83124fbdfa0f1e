-- What the lines of a file say together, or the first fault of one.
use Rattle.std.specs.Prelude.{ℕ, ◌+◌, Bool, true, false, ◌==◌, if◌then◌else◌, List, [], ◌∷◌}
use Rattle.std.specs.Prelude.{Result, Ok, Err}
use Rattle.bl_text.specs.Pieces.{is_blank, lines_of, words_of}
use Rattle.bl_cards.specs.declared.kind.What.{What}
use Rattle.bl_cards.specs.declared.kind.What.TheVariants as what
use Rattle.bl_cards.specs.declared.kind.Section.{Section}
use Rattle.bl_cards.specs.declared.kind.Section.TheVariants.{Start, Name, Objsense, Rows, Columns}
use Rattle.bl_cards.specs.declared.kind.Section.TheVariants.{Rhs, Ranges, Bounds, End}
use Rattle.bl_cards.specs.declared.reader.Whole.{Whole}
use Rattle.bl_cards.specs.Said.{Said, nothing_said, ◌>>=◌}
use Rattle.bl_cards.specs.Lines.{data_line, section_line}

-- what is wrong, and the number of its line
pub record Fault : Type 0 where
  pub line : ℕ
  pub what : What

-- a line that is neither a comment nor without words; a data line begins with a blank
abbrev pub spoken : Said → Bool → List (List ℕ) → Result Said What
spoken s is_data [] = Ok s
spoken s true (word ∷ words) = data_line s.section s (word ∷ words)
spoken s false (name ∷ words) = section_line s name words

-- what a line adds to what was said
unfoldable pub after_line : Said → List ℕ → Result Said What
after_line s [] = Ok s
after_line s (b ∷ bytes) = if b == 42 then Ok s else spoken s (is_blank b) (words_of (b ∷ bytes))

abbrev pub is_end : Section → Bool
is_end Start = false
is_end Name = false
is_end Objsense = false
is_end Rows = false
is_end Columns = false
is_end Rhs = false
is_end Ranges = false
is_end Bounds = false
is_end End = true

abbrev pub at_line : {A : Type 0} → ℕ → Result A What → Result A Fault
at_line n (Ok x) = Ok x
at_line n (Err w) = Err (record { line = n; what = w })

-- n lines were taken, and these are left: all that was said at the ENDATA line, or the first
-- fault. Nothing after that line is read
unfoldable pub said_from : ℕ → Said → List (List ℕ) → Result Whole Fault
said_from n s [] = if is_end s.section then Ok (record { said = s; last = n })
    else Err (record { line = n + 1; what = what.NoEnd })
said_from n s (line ∷ lines) =
    if is_end s.section then Ok (record { said = s; last = n })
    else at_line (n + 1) (after_line s line) >>= λ t. said_from (n + 1) t lines

-- what the bytes of a whole file say, or the first fault of a line
unfoldable pub said_in : List ℕ → Result Whole Fault
said_in bytes = said_from 0 nothing_said (lines_of bytes)
