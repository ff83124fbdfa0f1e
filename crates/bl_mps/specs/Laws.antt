-- What the reading comes to, in other words.
use Rattle.std.specs.Prelude.{◌≡◌, ◌≢◌, ◌⊎◌, ◌↔◌, ℕ, ◌^◌, ◌≤◌, true, length, List, All, Some, Ok}
use Rattle.std.specs.Prelude.{Err, ℤ, pos, ◌+ℤ◌, ◌*ℤ◌, ◌≤ℤ◌, nat_abs}
use Rattle.bl_num.specs.declared.Decimal.{Decimal}
use Rattle.bl_text.specs.Pieces.{lines_of}
use Rattle.bl_num.specs.Exact.{at, sum_below}
use Rattle.bl_problem.specs.declared.problem.Sense.{Sense}
use Rattle.bl_problem.specs.declared.problem.Sense.TheVariants.{Min, Max}
use Rattle.bl_problem.specs.Program.{Program}
use Rattle.bl_problem.specs.Points.{value_of, shown_of}
use Rattle.bl_problem.specs.Rows.{coefficient_of}
use Rattle.bl_cards.specs.declared.kind.What.{What}
use Rattle.bl_cards.specs.declared.kind.Role.{Role}
use Rattle.bl_cards.specs.declared.kind.Role.TheVariants.{Objective, Extra, AtMost, AtLeast, Equal}
use Rattle.bl_cards.specs.Said.{Said, nothing_said}
use Rattle.bl_cards.specs.Lines.{is_limited}
use Rattle.bl_cards.specs.Reading.{Fault}
use Rattle.bl_cards.specs.Sections.{IsReadBySections}
use Rattle.bl_cards.specs.Named.{IsNamedByLines}
use Rattle.bl_cards.specs.Sets.{AreGivenByLines}
use Rattle.bl_cards.specs.Senses.{IsAskedByLines}
use Rattle.bl_cards.specs.Laws.{LineBreaks, EndIsMissing, Ends}
use Rattle.bl_mps.specs.Meaning.{RowSaid, IsRowRead, or_zero, places_of, low_end, high_end}
use Rattle.bl_mps.specs.Meaning.{sense_for, objective_of, program_of, finished}
use Rattle.bl_mps.specs.Reading.{read_of}

-- ---- the first fault

-- what was said at the ENDATA line breaks a rule, and this is the first that it breaks
pub record WholeBreaks (start : Said) (lines : List (List ℕ)) (line : ℕ) (w : What) : Type 0 where
  pub said : Said
  pub ends : Ends start lines line said
  pub broken : finished said ≡ Err w

-- what was said at the ENDATA line means a problem
pub record Means (start : Said) (lines : List (List ℕ)) (p : Program) : Type 0 where
  pub said : Said
  pub line : ℕ
  pub ends : Ends start lines line said
  pub sections : IsReadBySections lines said
  pub named : IsNamedByLines lines said
  pub given : AreGivenByLines lines said
  pub asked : IsAskedByLines lines said
  pub meaning : finished said ≡ Ok p

-- this is the first fault: of a line, of there being no ENDATA line, or of the whole
abbrev pub IsFirstFault : List (List ℕ) → ℕ → What → Type 0
IsFirstFault lines line w = LineBreaks nothing_said lines line w
    ⊎ EndIsMissing nothing_said lines line w ⊎ WholeBreaks nothing_said lines line w

-- a fault that is told is the first, and a first fault is told
abbrev pub TellsFirstFault : Type 0
TellsFirstFault = (bytes : List ℕ) (f : Fault) → (read_of bytes ≡ Err f)
    ↔ IsFirstFault (lines_of bytes) f.line f.what

-- a problem that is read is what the sections' lines say, with no fault before or at the ENDATA
-- line; and a problem that they say is read
abbrev pub TellsMeaning : Type 0
TellsMeaning = (bytes : List ℕ) (p : Program) → (read_of bytes ≡ Ok p)
    ↔ Means nothing_said (lines_of bytes) p

-- every file has a problem or a fault, and none has both
abbrev pub IsOne : Type 0
IsOne = (bytes : List ℕ) →
    (((p : Program) × (read_of bytes ≡ Ok p)) ⊎ ((f : Fault) × (read_of bytes ≡ Err f)))
    × ((p : Program) (f : Fault) → read_of bytes ≡ Ok p → read_of bytes ≢ Err f)

-- ---- rows

-- the right side is the high end of a row of kind L, the low end of one of kind G, and of one of
-- kind E the low end exactly where the range is not negative
abbrev pub StandsAt : Role → ℤ → ℤ → ℤ → ℤ → Type 0
StandsAt Objective b r low high = ⊥
StandsAt Extra b r low high = ⊥
StandsAt AtMost b r low high = high ≡ b
StandsAt AtLeast b r low high = low ≡ b
StandsAt Equal b r low high = (pos 0 ≤ℤ r → low ≡ b) × (r ≤ℤ pos 0 → high ≡ b)

-- a row with a range has two ends, and they are the size of the range apart
pub record HasRange (role : Role) (b r : ℤ) : Type 0 where
  pub low : ℤ
  pub high : ℤ
  pub low_is : low_end role b (Some r) ≡ Some low
  pub high_is : high_end role b (Some r) ≡ Some high
  pub apart : high ≡ low +ℤ pos (nat_abs r)
  pub stands : StandsAt role b r low high

abbrev pub RangesWiden : Type 0
RangesWiden = (role : Role) (b r : ℤ) → is_limited role ≡ true → HasRange role b r

-- ---- the scale

-- ten to the power n times the number is whole
abbrev pub IsWholeIn : ℕ → Decimal → Type 0
IsWholeIn n d = (z : ℤ) × (z *ℤ pos (10 ^ d.places) ≡ d.mantissa *ℤ pos (10 ^ n))

-- the coefficients of a row, its right side and its range
pub record AreWholeIn (n : ℕ) (r : RowSaid) : Type 0 where
  pub entries : All (λ e. IsWholeIn n e.number) r.entries
  pub right : IsWholeIn n r.right
  pub range : IsWholeIn n (or_zero r.range)

-- the powers of ten that make a row whole are those from its scale on
abbrev pub ScaleIsLeast : Type 0
ScaleIsLeast = (r : RowSaid) (n : ℕ) → IsRowRead r → (AreWholeIn n r ↔ (places_of r ≤ n))

-- ---- values

-- the file's objective at a point: its constant, and the sum of its numbers times the entries
abbrev pub file_value : Said → List ℤ → ℤ
file_value s x = (objective_of s).offset +ℤ sum_below (length s.columns.names)
    (λ j. coefficient_of (objective_of s).costs j *ℤ at x j)

-- a point's value is shown as the file's objective has it
abbrev pub ShowsFileValues : Type 0
ShowsFileValues = (s : Said) (x : List ℤ) → shown_of (program_of s) (value_of (program_of s) x)
    ≡ file_value s x

-- at least as good as another, in the sense of the file
abbrev pub IsAsGood : Sense → ℤ → ℤ → Type 0
IsAsGood Min v w = v ≤ℤ w
IsAsGood Max v w = w ≤ℤ v

-- less value is what the file asks for
abbrev pub LessIsBetter : Type 0
LessIsBetter = (s : Said) (x y : List ℤ)
    → (value_of (program_of s) x ≤ℤ value_of (program_of s) y)
    ↔ IsAsGood (sense_for s) (file_value s x) (file_value s y)
