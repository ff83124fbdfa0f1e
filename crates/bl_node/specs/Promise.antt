-- What the work on a node promises.
use Rattle.std.specs.Prelude.{◌≡◌, ◌⊎◌, ℕ, ℤ, pos, ◌≤ℤ◌, ◌<ℤ◌, ◌<◌, ◌≤◌, List, [], length, All}
use Rattle.std.specs.Prelude.{Option, Some, None, IfSome}
use Rattle.bl_num.specs.Exact.{at}
use Rattle.bl_problem.specs.Program.{Program}
use Rattle.bl_problem.specs.Points.{IsFeasible, value_of}
use Rattle.bl_problem.specs.declared.cut.Cut.{Cut}
use Rattle.bl_desc.specs.declared.desc.Desc.{Desc}
use Rattle.bl_desc.specs.declared.desc.Form.{Form}
use Rattle.bl_fixed.specs.declared.Fixed.{Fixed}
use Rattle.bl_bound.specs.Bounds.{bound_of}
use Rattle.bl_bound.specs.Units.{AreUnit}
use Rattle.bl_prop.specs.Answers.{tightened_of}
use Rattle.bl_journal.specs.declared.outcome.Outcome.{Outcome}
use Rattle.bl_journal.specs.declared.outcome.Next.{Next}
use Rattle.bl_journal.specs.declared.outcome.Next.TheVariants.{Shut as ShutNext, Split as SplitNext}
use Rattle.bl_journal.specs.Soundness.{IsSound}
use Rattle.bl_branch.specs.declared.place.Place.{Place}
use Rattle.bl_branch.specs.Calls.{Calls, Answers}
use Rattle.bl_node.specs.declared.working.Working.{Working}
use Rattle.bl_node.specs.Boxes.{BoxMeets, decisions_in, SaysEmpty}
use Rattle.bl_node.specs.Standing.{box_of, IsAboveUnits, Narrows}
use Rattle.bl_node.specs.declared.limits.Limits.{Limits}
use Rattle.bl_cover.specs.declared.separator.Try.{Try}
use Rattle.bl_node.specs.Names.{AreNumbered}
use Rattle.bl_node.specs.Tried.{IsTried}
use Rattle.bl_node.specs.Outcomes.{IsSplitOf, step_of, form_of}

-- the cuts that an outcome adds
abbrev pub added_in : Next → List Cut
added_in ShutNext = []
added_in (SplitNext common column at left right) = common.cuts.added

-- the added cuts are numbered on from the serial number, and no more than may be, and come from
-- tries that are allowed
pub record AddsCuts (allows : Desc Cut → Try → Type 0) (p : Program) (f : Desc Cut)
    (limits : Limits) (next : Next) : Type 0 where
  pub numbered : AreNumbered limits.seat limits.serial (added_in next)
  pub few : length (added_in next) ≤ limits.new_cuts
  pub tried : All (IsTried allows p f) (added_in next)

-- the node is split at a place that the rule answers, after a common change whose box meets each
-- decision of the first pass; its low is at least each unit bound
pub record SplitsAsPromised {F : Type 0} (g : Calls F) (closure : F) (p : Program) (f : Desc Cut)
    (form : Form) (o : Outcome) : Type 0 where
  pub place : Place
  pub work : Working
  pub point : List Fixed
  pub answers : Answers g closure work.desc point place
  pub narrows : Narrows p f work
  pub is : IsSplitOf f work form place o
  pub met : All (BoxMeets (box_of work.desc)) (decisions_in (tightened_of p f))
  pub units : IsAboveUnits p f o.low

-- a unit bound of the node isn't below the cutoff
pub record IsCutOff (p : Program) (f : Desc Cut) (cutoff : Option ℤ) : Type 0 where
  pub y : List ℤ
  pub unit : AreUnit (length p.rows) (length f.cuts) y
  pub bound : ℤ
  pub is : bound_of p f y (pos 1) ≡ Some bound
  pub limit : ℤ
  pub cutoff_is : cutoff ≡ Some limit
  pub reached : limit ≤ℤ bound

-- the box has no two points
abbrev pub HasOnePoint : Desc Cut → Type 0
HasOnePoint f = (j : ℕ) → j < length f.lows → at f.highs j ≤ℤ at f.lows j

abbrev pub IsBelowCutoff : Program → Option ℤ → List ℤ → Type 0
IsBelowCutoff p cutoff x = IfSome cutoff (λ c. value_of p x <ℤ c)

-- the one point of the box was tested: the node is shut, and the point is found exactly where it
-- is feasible and below the cutoff
pub record IsTested (p : Program) (f : Desc Cut) (cutoff : Option ℤ) (o : Outcome) : Type 0 where
  pub shut : o.next ≡ ShutNext
  pub found : ((o.found ≡ Some f.lows) × (IsFeasible p f.lows × IsBelowCutoff p cutoff f.lows))
      ⊎ ((o.found ≡ None) × ((IsFeasible p f.lows × IsBelowCutoff p cutoff f.lows) → ⊥))

pub record IsPromised {F : Type 0} (g : Calls F) (closure : F) (allows : Desc Cut → Try → Type 0)
    (p : Program) (f : Desc Cut) (cutoff : Option ℤ) (limits : Limits) (o : Outcome) : Type 0 where
  pub sound : IsSound p f cutoff o.found o.low (step_of o.next)
  pub empty : SaysEmpty (tightened_of p f) → o.next ≡ ShutNext
  pub cut_off : IsCutOff p f cutoff → o.next ≡ ShutNext
  pub split : (o.next ≡ ShutNext) ⊎ SplitsAsPromised g closure p f (form_of limits) o
  pub adds : AddsCuts allows p f limits o.next
  pub single : HasOnePoint f → IsTested p f cutoff o
