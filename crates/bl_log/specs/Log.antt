-- The text of a journal.
use Rattle.std.specs.Prelude.{ℕ, ℤ, List, [], ◌∷◌, ◌++◌, codes, Option, Some, None}
use Rattle.std.specs.Fmt.{decimal, signed_decimal}
use Rattle.bl_mods.specs.declared.mods.Mod.{Mod}
use Rattle.bl_mods.specs.declared.mods.ListMods.{ListMods}
use Rattle.bl_problem.specs.declared.cut.Cut.{Cut}
use Rattle.bl_problem.specs.declared.problem.Term.{Term}
use Rattle.bl_desc.specs.declared.desc.Status.{Status}
use Rattle.bl_desc.specs.declared.desc.Status.TheVariants.{Basic, AtLow, AtHigh}
use Rattle.bl_desc.specs.declared.desc.Form.{Form}
use Rattle.bl_desc.specs.declared.desc.Form.TheVariants.{Explicit, Relative}
use Rattle.bl_desc.specs.declared.change.Change.{Change}
use Rattle.bl_journal.specs.declared.entry.Entry.{Entry}
use Rattle.bl_journal.specs.declared.entry.Entry.TheVariants.{Take, Put, Back, Encode, Free}
use Rattle.bl_journal.specs.declared.entry.Step.{Step}
use Rattle.bl_journal.specs.declared.entry.Step.TheVariants.{Shut, Split}
use Rattle.bl_log.specs.Spaced.{Text, joined, each, listed}

abbrev pub natural : ℕ → List Text
natural n = decimal n ∷ []

abbrev pub integer : ℤ → List Text
integer z = signed_decimal z ∷ []

abbrev pub form_word : Form → Text
form_word Explicit = codes "explicit"
form_word Relative = codes "relative"

abbrev pub status_word : Status → Text
status_word Basic = codes "B"
status_word AtLow = codes "L"
status_word AtHigh = codes "H"

abbrev pub status : Status → List Text
status s = status_word s ∷ []

-- a place, and the entry that is written there
abbrev pub placed : {T : Type 0} → (T → List Text) → Mod T → List Text
placed words m = decimal m.place ∷ words m.entry

abbrev pub term : Term → List Text
term t = decimal t.column ∷ signed_decimal t.coefficient ∷ []

-- its seat and serial number, its right side, and its terms
abbrev pub cut : Cut → List Text
cut c = decimal c.id.seat ∷ decimal c.id.serial ∷ signed_decimal c.right ∷ listed term c.terms

-- places of dropped cuts, and added cuts
abbrev pub cut_lists : ListMods Cut → List Text
cut_lists m = (codes "drop" ∷ listed natural m.dropped) ++ (codes "add" ∷ listed cut m.added)

abbrev pub bounds_and_cuts : Change Cut → List Text
bounds_and_cuts c = (codes "lows" ∷ listed (placed integer) c.lows) ++ ((codes "highs" ∷ listed (placed integer) c.highs) ++ cut_lists c.cuts)

abbrev pub statuses : Change Cut → List Text
statuses c =
    (codes "cols" ∷ listed (placed status) c.columns)
    ++ ((codes "rows" ∷ listed (placed status) c.rows)
    ++ (codes "cuts" ∷ listed (placed status) c.fresh))

abbrev pub lists_of : Change Cut → List Text
lists_of c = bounds_and_cuts c ++ statuses c

abbrev pub found_point : Option (List ℤ) → List Text
found_point None = codes "none" ∷ []
found_point (Some point) = codes "point" ∷ listed integer point

abbrev pub next_step : Step → List Text
next_step Shut = codes "shut" ∷ []
next_step (Split common column at) = codes "split" ∷ decimal column ∷ signed_decimal at ∷ lists_of common

-- the words of a put as far as the point that was found
abbrev pub put_head : ℕ → ℕ → ℤ → List Text
put_head seat id low = codes "put" ∷ decimal seat ∷ decimal id ∷ codes "low" ∷ signed_decimal low ∷ codes "found" ∷ []

-- the words of an entry's line
abbrev pub words_in : Entry → List Text
words_in (Take seat id) = codes "take" ∷ decimal seat ∷ decimal id ∷ []
words_in (Back seat id) = codes "back" ∷ decimal seat ∷ decimal id ∷ []
words_in (Encode seat id form) = codes "encode" ∷ decimal seat ∷ decimal id ∷ form_word form ∷ []
words_in (Free seat ids) = codes "free" ∷ decimal seat ∷ each natural ids
words_in (Put seat id found low next) = put_head seat id low ++ (found_point found ++ (codes "next" ∷ next_step next))

-- an entry's line: its words, parted by one space
abbrev pub line_of : Entry → Text
line_of e = joined (words_in e)

-- the text of a journal: a line for each entry, in order, each with a line feed behind it
abbrev pub text_of : List Entry → Text
text_of [] = []
text_of (e ∷ es) = line_of e ++ 10 ∷ text_of es
