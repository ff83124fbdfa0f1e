-- Entries whose numbers fit the types of their fields.
use Rattle.std.specs.Prelude.{ℕ, ◌<◌, ◌^◌, ℤ, List, length, All, FitsSigned, Option, Some, None}
use Rattle.std.specs.Int.{w64, w128}
use Rattle.bl_mods.specs.declared.mods.Mod.{Mod}
use Rattle.bl_mods.specs.declared.mods.ListMods.{ListMods}
use Rattle.bl_mods.specs.Rising.{IsRising, AreRising}
use Rattle.bl_problem.specs.declared.cut.Cut.{Cut}
use Rattle.bl_problem.specs.declared.problem.Term.{Term}
use Rattle.bl_desc.specs.declared.desc.Status.{Status}
use Rattle.bl_desc.specs.declared.change.Change.{Change}
use Rattle.bl_journal.specs.declared.entry.Entry.{Entry}
use Rattle.bl_journal.specs.declared.entry.Entry.TheVariants.{Take, Put, Back, Encode, Free}
use Rattle.bl_journal.specs.declared.entry.Step.{Step}
use Rattle.bl_journal.specs.declared.entry.Step.TheVariants.{Shut, Split}

abbrev pub IsU32 : ℕ → Type 0
IsU32 n = n < 2 ^ 32

abbrev pub IsI64 : ℤ → Type 0
IsI64 z = FitsSigned w64 z

abbrev pub IsI128 : ℤ → Type 0
IsI128 z = FitsSigned w128 z

abbrev pub IsStatus : Status → Type 0
IsStatus s = Unit {0}

-- each element fits, and the length is that of a list in memory
pub record ListFits {X : Type 0} (fits : X → Type 0) (xs : List X) : Type 0 where
  pub short : length xs < 2 ^ 64
  pub each : All fits xs

pub record ModFits {T : Type 0} (fits : T → Type 0) (m : Mod T) : Type 0 where
  pub place : IsU32 m.place
  pub entry : fits m.entry

pub record TermFits (t : Term) : Type 0 where
  pub column : IsU32 t.column
  pub coefficient : IsI64 t.coefficient

pub record CutFits (c : Cut) : Type 0 where
  pub seat : IsU32 c.id.seat
  pub serial : IsU32 c.id.serial
  pub right : IsI128 c.right
  pub terms : ListFits TermFits c.terms

-- each entry fits, and the places rise
pub record ModsFit {T : Type 0} (fits : T → Type 0) (mods : List (Mod T)) : Type 0 where
  pub list : ListFits (ModFits fits) mods
  pub rise : AreRising mods

pub record PlacesFit (places : List ℕ) : Type 0 where
  pub list : ListFits IsU32 places
  pub rise : IsRising places

pub record CutListsFit (m : ListMods Cut) : Type 0 where
  pub dropped : PlacesFit m.dropped
  pub added : ListFits CutFits m.added

pub record BoundsAndCutsFit (c : Change Cut) : Type 0 where
  pub lows : ModsFit IsI64 c.lows
  pub highs : ModsFit IsI64 c.highs
  pub cuts : CutListsFit c.cuts

pub record StatusesFit (c : Change Cut) : Type 0 where
  pub columns : ModsFit IsStatus c.columns
  pub rows : ModsFit IsStatus c.rows
  pub fresh : ModsFit IsStatus c.fresh

pub record ChangeFits (c : Change Cut) : Type 0 where
  pub bounds_and_cuts : BoundsAndCutsFit c
  pub statuses : StatusesFit c

abbrev pub FoundFits : Option (List ℤ) → Type 0
FoundFits None = Unit {0}
FoundFits (Some point) = ListFits IsI64 point

abbrev pub StepFits : Step → Type 0
StepFits Shut = Unit {0}
StepFits (Split common column at) = IsU32 column × IsI64 at × ChangeFits common

-- each number fits the type of its field, and the places of one list rise
abbrev pub Fits : Entry → Type 0
Fits (Take seat id) = IsU32 seat × IsU32 id
Fits (Back seat id) = IsU32 seat × IsU32 id
Fits (Encode seat id form) = IsU32 seat × IsU32 id
Fits (Free seat ids) = IsU32 seat × All IsU32 ids
Fits (Put seat id found low next) = IsU32 seat × IsU32 id × IsI128 low × FoundFits found
    × StepFits next
