-- What is known while a node is worked on, of the points of its box that beat the cutoff.
use Rattle.std.specs.Prelude.{◌≡◌, ◌≢◌, ℕ, ◌+◌, ◌<◌, ◌≤◌, ℤ, pos, ◌≤ℤ◌, ◌<ℤ◌, Bool, int_le, List}
use Rattle.std.specs.Prelude.{[], ◌∷◌, ◌++◌, length, All, AllPairs, Option, Some, None, IfSome}
use Rattle.std.specs.Prelude.{false}
use Rattle.std.specs.Ordering.{int_eq}
use Rattle.bl_num.specs.Exact.{at}
use Rattle.bl_mods.specs.declared.mods.ItemId.{ItemId}
use Rattle.bl_mods.specs.Mods.{differences, has_id, IsPartThenFresh}
use Rattle.bl_problem.specs.Program.{Program}
use Rattle.bl_problem.specs.Points.{InBox, IsFeasible, value_of}
use Rattle.bl_problem.specs.Cuts.{SuitsProblem, IsValidCut}
use Rattle.bl_problem.specs.Decisions.{Box, narrowed_all}
use Rattle.bl_problem.specs.declared.cut.Cut.{Cut}
use Rattle.bl_problem.specs.declared.decision.Decision.{Decision}
use Rattle.bl_desc.specs.declared.desc.Desc.{Desc}
use Rattle.bl_desc.specs.Changes.{IsWhole}
use Rattle.bl_journal.specs.Soundness.{IsInQuestion, cutoff_with}
use Rattle.bl_bound.specs.Descriptions.{Describes}
use Rattle.bl_bound.specs.Bounds.{bound_of}
use Rattle.bl_bound.specs.Units.{AreUnit}
use Rattle.bl_journal.specs.declared.limits.TheConstants.{MOST_BOUNDS}
use Rattle.bl_node.specs.declared.working.Working.{Working}
use Rattle.bl_node.specs.declared.working.Pass.{Pass}
use Rattle.bl_node.specs.declared.working.Pass.TheVariants.{Shut, Changed, Same}

-- P holds of each point in question: feasible, in the node's box, and below the cutoff that is
-- reached
abbrev pub OfAllInQuestion : Program → Desc Cut → Working → (List ℤ → Type 0) → Type 0
OfAllInQuestion p f w P = (x : List ℤ) → IsInQuestion p f w.best x → P x

-- at the node f of p, with this cutoff: the found point is one of the node; no point in question
-- is outside the box so far, and none has a value below the low; and the cuts hold for every
-- feasible point
pub record Stands (p : Program) (f : Desc Cut) (cutoff : Option ℤ) (w : Working) : Type 0 where
  pub best_is : w.best ≡ cutoff_with p cutoff w.found
  pub found : IfSome w.found (λ x. IsFeasible p x × InBox f.lows f.highs x)
  pub better : IfSome w.found (λ x. IfSome cutoff (λ c. value_of p x <ℤ c))
  pub inside : OfAllInQuestion p f w (λ x. InBox w.desc.lows w.desc.highs x)
  pub low : OfAllInQuestion p f w (λ x. w.low ≤ℤ value_of p x)
  pub cuts : All (IsValidCut p) w.desc.cuts

-- the box of a description
abbrev pub box_of : Desc Cut → Box
box_of d = record { lows = d.lows; highs = d.highs }

-- the description so far is f with a smaller box, and a part of its cuts with others behind; at
-- most as many of its bounds differ as were decided
pub record Narrows (p : Program) (f : Desc Cut) (w : Working) : Type 0 where
  pub describes : Describes p w.desc
  pub whole : IsWhole w.desc
  pub rows : length w.desc.row_status ≡ length f.row_status
  pub low_width : length f.lows ≡ length w.desc.lows
  pub high_width : length f.highs ≡ length w.desc.highs
  pub point : (j : ℕ) → j < length w.desc.lows → at w.desc.lows j ≤ℤ at w.desc.highs j
  pub lows_rise : (j : ℕ) → at f.lows j ≤ℤ at w.desc.lows j
  pub highs_fall : (j : ℕ) → at w.desc.highs j ≤ℤ at f.highs j
  pub part : IsPartThenFresh (λ c. c.id) f.cuts w.desc.cuts
  pub ids : AllPairs (λ a b. a.id ≢ b.id) w.desc.cuts
  pub few : length (differences int_eq f.lows w.desc.lows)
      + length (differences int_eq f.highs w.desc.highs) ≤ w.decided
  pub decided : w.decided ≤ MOST_BOUNDS

-- the same but for the box, which is narrowed by the decisions
pub record TakesDecisions (old : Working) (ds : List Decision) (new : Working) : Type 0 where
  pub box : box_of new.desc ≡ narrowed_all (box_of old.desc) ds
  pub cuts : new.desc.cuts ≡ old.desc.cuts
  pub column_status : new.desc.column_status ≡ old.desc.column_status
  pub row_status : new.desc.row_status ≡ old.desc.row_status
  pub cut_status : new.desc.cut_status ≡ old.desc.cut_status
  pub found : new.found ≡ old.found
  pub best : new.best ≡ old.best
  pub low : new.low ≡ old.low
  pub decided : new.decided ≡ old.decided + length ds

-- what is known after a pass: at Shut, that no point is in question
abbrev pub Knows : Program → Desc Cut → Option ℤ → Pass → Working → Type 0
Knows p f cutoff Shut w = Stands p f cutoff w × OfAllInQuestion p f w (λ x. ⊥)
Knows p f cutoff Changed w = Stands p f cutoff w
Knows p f cutoff Same w = Stands p f cutoff w

-- the box after a pass that leaves points
abbrev pub Leaves : Program → Desc Cut → Pass → Working → Type 0
Leaves p f Shut w = Unit {0}
Leaves p f Changed w = Narrows p f w
Leaves p f Same w = Narrows p f w

-- the number is at least each unit bound
abbrev pub IsAboveUnits : Program → Desc Cut → ℤ → Type 0
IsAboveUnits p f low = (y : List ℤ) → AreUnit (length p.rows) (length f.cuts) y
    → IfSome (bound_of p f y (pos 1)) (λ b. b ≤ℤ low)

-- the low is at least the cutoff
abbrev pub is_reached : ℤ → Option ℤ → Bool
is_reached low None = false
is_reached low (Some c) = int_le c low

-- the description of a node: whole, within the limits, one status for each row, and cuts with
-- names of their own that hold for every feasible point
pub record IsNode (p : Program) (f : Desc Cut) : Type 0 where
  pub describes : Describes p f
  pub whole : IsWhole f
  pub rows : length f.row_status ≡ length p.rows
  pub few_columns : length f.lows ≤ 1000
  pub few_rows : length f.row_status ≤ 1000
  pub ids : AllPairs (λ a b. a.id ≢ b.id) f.cuts
  pub cuts : All (IsValidCut p) f.cuts

-- the point of this value is found, and nothing else changes
pub record Finds (value : ℤ) (x : List ℤ) (old new : Working) : Type 0 where
  pub found : new.found ≡ Some x
  pub best : new.best ≡ Some value
  pub desc : new.desc ≡ old.desc
  pub low : new.low ≡ old.low
  pub decided : new.decided ≡ old.decided

-- neither the node's description nor the one so far has a cut of this name
pub record IsNewTo (f : Desc Cut) (w : Working) (cut : Cut) : Type 0 where
  pub parent : has_id (λ c. c.id) cut.id f.cuts ≡ false
  pub here : has_id (λ c. c.id) cut.id w.desc.cuts ≡ false

-- the same but for the statuses, of which there are as many
pub record IsRestated (old new : Working) : Type 0 where
  pub lows : new.desc.lows ≡ old.desc.lows
  pub highs : new.desc.highs ≡ old.desc.highs
  pub cuts : new.desc.cuts ≡ old.desc.cuts
  pub columns : length new.desc.column_status ≡ length old.desc.column_status
  pub rows : length new.desc.row_status ≡ length old.desc.row_status
  pub cut_status : length new.desc.cut_status ≡ length old.desc.cut_status
  pub found : new.found ≡ old.found
  pub best : new.best ≡ old.best
  pub low : new.low ≡ old.low
  pub decided : new.decided ≡ old.decided

-- a cut of this name that suits the problem, and that every feasible point meets where it meets
-- those of the description
pub record IsMade (p : Program) (d : Desc Cut) (id : ItemId) (cut : Cut) : Type 0 where
  pub named : cut.id ≡ id
  pub suits : SuitsProblem p cut
  pub holds : All (IsValidCut p) d.cuts → IsValidCut p cut

-- the same but for one more cut, which stands last, and its status
pub record AddsCut (old : Working) (cut : Cut) (new : Working) : Type 0 where
  pub lows : new.desc.lows ≡ old.desc.lows
  pub highs : new.desc.highs ≡ old.desc.highs
  pub cuts : new.desc.cuts ≡ old.desc.cuts ++ cut ∷ []
  pub low : new.low ≡ old.low
