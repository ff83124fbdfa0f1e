-- The texts that a run writes.
use Rattle.std.specs.Prelude.{ℕ, Bool, true, false, List, [], ◌∷◌, ◌++◌, ℤ, pos, codes, ◌==◌}
use Rattle.std.specs.Prelude.{if◌then◌else◌, Option, Some, None}
use Rattle.std.specs.Fmt.{decimal, signed_decimal}
use Rattle.bl_num.specs.Texts.{text_of}
use Rattle.bl_problem.specs.declared.problem.Column.{Column}
use Rattle.bl_problem.specs.Program.{Program}
use Rattle.bl_problem.specs.Points.{shown_of}
use Rattle.bl_cards.specs.declared.kind.What.{What}
use Rattle.bl_cards.specs.declared.kind.What.TheVariants.{Section, Words, Number, TooWide}
use Rattle.bl_cards.specs.declared.kind.What.TheVariants.{UnknownRow, UnknownColumn, Twice}
use Rattle.bl_cards.specs.declared.kind.What.TheVariants.{NotWhole, Unbounded, FractionBound}
use Rattle.bl_cards.specs.declared.kind.What.TheVariants.{TooMany, NoObjective, Marker, NoEnd}
use Rattle.bl_cards.specs.Reading.{Fault}
use Rattle.bl_journal.specs.States.{Found}
use Rattle.bl_journal.specs.Results.{Verdict, optimal, within, infeasible, bounded}

-- `col NAME v`
abbrev pub column_line : Column → ℤ → List ℕ
column_line c v = codes "col " ++ c.name ++ codes " " ++ signed_decimal v ++ codes "\n"

-- a line for each column, in order
abbrev pub column_lines : List Column → List ℤ → List ℕ
column_lines [] point = []
column_lines (c ∷ columns) [] = []
column_lines (c ∷ columns) (v ∷ point) = column_line c v ++ column_lines columns point

-- the columns' lines, where they are wanted
abbrev pub shown_columns : Bool → List Column → List ℤ → List ℕ
shown_columns true columns point = column_lines columns point
shown_columns false columns point = []

-- a value or a bound in the file's sense, in units of 10^-scale, and a line feed
abbrev pub value_line : Program → ℤ → List ℕ
value_line p v = text_of (shown_of p v) p.scale ++ codes "\n"

-- `objective V`, and the columns' lines
abbrev pub found_lines : Program → Bool → Found → List ℕ
found_lines p with_columns f = codes "objective " ++ value_line p f.value ++ shown_columns with_columns p.columns f.point

abbrev pub best_lines : Program → Bool → Option Found → List ℕ
best_lines p with_columns None = codes "objective none\n"
best_lines p with_columns (Some f) = found_lines p with_columns f

-- the lines of an answer
abbrev pub verdict_text : Program → Bool → Verdict → List ℕ
verdict_text p with_columns (optimal f) = codes "status optimal\n" ++ found_lines p with_columns f ++ codes "end\n"
verdict_text p with_columns (within f bound) = codes "status within\nbound " ++ value_line p bound ++ found_lines p with_columns f ++ codes "end\n"
verdict_text p with_columns infeasible = codes "status infeasible\n" ++ codes "end\n"
verdict_text p with_columns (bounded bound f) = codes "status limit\nbound " ++ value_line p bound ++ best_lines p with_columns f ++ codes "end\n"

-- the name of a broken rule
abbrev pub what_name : What → List ℕ
what_name Section = codes "Section"
what_name Words = codes "Words"
what_name Number = codes "Number"
what_name TooWide = codes "TooWide"
what_name UnknownRow = codes "UnknownRow"
what_name UnknownColumn = codes "UnknownColumn"
what_name Twice = codes "Twice"
what_name NotWhole = codes "NotWhole"
what_name Unbounded = codes "Unbounded"
what_name FractionBound = codes "FractionBound"
what_name TooMany = codes "TooMany"
what_name NoObjective = codes "NoObjective"
what_name Marker = codes "Marker"
what_name NoEnd = codes "NoEnd"

-- the line that tells a file's first fault
abbrev pub model_line : Fault → List ℕ
model_line f = codes "fault model line " ++ signed_decimal (pos f.line) ++ codes " " ++ what_name f.what ++ codes "\n"

-- `held N`: how many entries the stored pieces have
abbrev pub held_line : ℕ → List ℕ
held_line n = codes "held " ++ decimal n ++ codes "\n"

abbrev pub long_line : List ℕ
long_line = codes "fault model long\n"

-- the line of a status that comes with no answer and no file
abbrev pub fault_line : ℕ → List ℕ
fault_line status =
    if status == 2 then codes "fault words\n" else
    if status == 4 then codes "fault read\n" else
    codes "fault memory\n"
