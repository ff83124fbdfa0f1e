-- What the outcome of work on a node must keep.
use Rattle.std.specs.Prelude.{◌≢◌, ℕ, ◌+◌, ◌≤◌, ◌<◌, ℤ, pos, ◌≤ℤ◌, ◌<ℤ◌, List, [], ◌∷◌, ◌++◌}
use Rattle.std.specs.Prelude.{length, map, All, AllPairs, Option, Some, None, IfSome}
use Rattle.std.specs.Prelude.{slice_index_or}
use Rattle.std.specs.Int.{int_min}
use Rattle.bl_mods.specs.declared.mods.Mod.{Mod}
use Rattle.bl_problem.specs.Program.{Program}
use Rattle.bl_problem.specs.Cuts.{SuitsProblem}
use Rattle.bl_problem.specs.Points.{InBox, IsFeasible, value_of}
use Rattle.bl_problem.specs.Cuts.{IsValidCut}
use Rattle.bl_problem.specs.declared.cut.Cut.{Cut}
use Rattle.bl_desc.specs.declared.desc.Desc.{Desc}
use Rattle.bl_desc.specs.declared.change.Change.{Change}
use Rattle.bl_desc.specs.Changes.{changed, Fits, HasRisingPlaces}
use Rattle.bl_problem.specs.Decisions.{MeetsAll}
use Rattle.bl_problem.specs.declared.decision.Decision.{Decision}
use Rattle.bl_problem.specs.declared.decision.Side.{Side}
use Rattle.bl_problem.specs.declared.decision.Side.TheVariants.{AtLeast, AtMost}
use Rattle.bl_journal.specs.declared.limits.TheConstants.{MOST_BOUNDS, MOST_CUTS, MOST_STATUSES}
use Rattle.bl_journal.specs.declared.entry.Step.{Step}
use Rattle.bl_journal.specs.declared.entry.Step.TheVariants.{Shut, Split}

abbrev pub bounds_of : Side → List (Mod ℤ) → List Decision
bounds_of side mods = map (λ m. record { column = m.place; side = side; value = m.entry }) mods

-- what a change decides of the bounds
abbrev pub decisions_of : {C : Type 0} → Change C → List Decision
decisions_of c = bounds_of AtLeast c.lows ++ bounds_of AtMost c.highs

-- the least of the cutoff and the value of the found point, where these are there
abbrev pub cutoff_with : Program → Option ℤ → Option (List ℤ) → Option ℤ
cutoff_with p None None = None
cutoff_with p None (Some x) = Some (value_of p x)
cutoff_with p (Some c) None = Some c
cutoff_with p (Some c) (Some x) = Some (int_min c (value_of p x))

-- feasible, in the box, and below the cutoff
pub record IsInQuestion (p : Program) (d : Desc Cut) (cutoff : Option ℤ) (x : List ℤ) : Type 0 where
  pub feasible : IsFeasible p x
  pub in_box : InBox d.lows d.highs x
  pub below : IfSome cutoff (λ c. value_of p x <ℤ c)

-- each entry stands in this relation to what it replaces
abbrev pub Tightens : (ℤ → ℤ → Type 0) → List (Mod ℤ) → List ℤ → Type 0
Tightens R [] list = Unit {0}
Tightens R (m ∷ mods) list = R (slice_index_or list m.place (pos 0)) m.entry × Tightens R mods list

-- the common change of a split, at a description
pub record IsCommonFor (d : Desc Cut) (common : Change Cut) : Type 0 where
  pub fits : Fits common d
  pub rising : HasRisingPlaces common
  pub lows_rise : Tightens (λ old new. old <ℤ new) common.lows d.lows
  pub highs_fall : Tightens (λ old new. new <ℤ old) common.highs d.highs
  pub ids_differ : AllPairs (λ a b. a.id ≢ b.id) (d.cuts ++ common.cuts.added)
  pub few_bounds : length common.lows + length common.highs ≤ MOST_BOUNDS
  pub few_statuses : length common.columns + length common.rows + length common.fresh
      ≤ MOST_STATUSES
  pub few_cuts : length (changed common d).cuts ≤ MOST_CUTS

pub record SplitsWell
    (p : Program) (d : Desc Cut) (cutoff : Option ℤ) (common : Change Cut) (column : ℕ) (at : ℤ)
    : Type 0 where
  pub common_fits : IsCommonFor d common
  pub meets : (x : List ℤ) → IsInQuestion p d cutoff x → MeetsAll x (decisions_of common)
  pub cuts_suit : All (SuitsProblem p) common.cuts.added
  pub cuts_valid : All (IsValidCut p) common.cuts.added
  pub column_in : column < length d.lows
  pub low_at_most : slice_index_or (changed common d).lows column (pos 0) ≤ℤ at
  pub below_high : at <ℤ slice_index_or (changed common d).highs column (pos 0)

abbrev pub IsSoundStep : Program → Desc Cut → Option ℤ → Step → Type 0
IsSoundStep p d cutoff Shut = (x : List ℤ) → IsInQuestion p d cutoff x → ⊥
IsSoundStep p d cutoff (Split common column at) = SplitsWell p d cutoff common column at

pub record IsSound
    (p : Program) (d : Desc Cut) (cutoff : Option ℤ) (found : Option (List ℤ)) (low : ℤ)
    (next : Step) : Type 0 where
  pub found_ok : IfSome found (λ x. IsFeasible p x × InBox d.lows d.highs x)
  pub low_ok : (x : List ℤ) → IsInQuestion p d (cutoff_with p cutoff found) x → low ≤ℤ value_of p x
  pub next_ok : IsSoundStep p d (cutoff_with p cutoff found) next
