-- The moves of the work on a node, which come one after another.
use Rattle.std.specs.Prelude.{◌≡◌, ℤ, ◌≤ℤ◌, Option, IsTrue, false}
use Rattle.bl_problem.specs.Program.{Program}
use Rattle.bl_problem.specs.declared.cut.Cut.{Cut}
use Rattle.bl_desc.specs.declared.desc.Desc.{Desc}
use Rattle.bl_node.specs.declared.state.State.{State}
use Rattle.bl_node.specs.Boxes.{Shrinks}
use Rattle.bl_cover.specs.declared.separator.Try.{Try}
use Rattle.bl_node.specs.Names.{AreNamed}
use Rattle.bl_node.specs.Tried.{AreTried}
use Rattle.bl_node.specs.Standing.{box_of, OfAllInQuestion, Stands, Narrows}

-- until the node is shut, the description so far is within the node's
abbrev pub IsOpen : Program → Desc Cut → State → Type 0
IsOpen p f s = s.is_shut ≡ false → Narrows p f s.work

-- what is known of the points in question; where the node is shut, that there is none
pub record IsKnown (p : Program) (f : Desc Cut) (cutoff : Option ℤ) (s : State) : Type 0 where
  pub stands : Stands p f cutoff s.work
  pub none : IsTrue s.is_shut → OfAllInQuestion p f s.work (λ x. ⊥)

-- the cuts stay
pub record KeepsCuts (old new : State) : Type 0 where
  pub cuts : new.work.desc.cuts ≡ old.work.desc.cuts
  pub made : new.made ≡ old.made

-- new cuts are numbered on, and come from tries that are allowed
pub record AddsTries (allows : Desc Cut → Try → Type 0) (p : Program) (f : Desc Cut)
    (old new : State) : Type 0 where
  pub named : AreNamed f old → AreNamed f new
  pub tried : AreTried allows p f old → AreTried allows p f new

-- a move keeps what is known for every cutoff; the box only shrinks, the low only rises, and for
-- the cuts R holds
pub record MovesBy (R : State → State → Type 0) (p : Program) (f : Desc Cut) (old new : State) :
    Type 0 where
  pub within : IsOpen p f new
  pub known : (cutoff : Option ℤ) → IsKnown p f cutoff old → IsKnown p f cutoff new
  pub shrinks : Shrinks (box_of old.work.desc) (box_of new.work.desc)
  pub low : old.work.low ≤ℤ new.work.low
  pub limits : new.limits ≡ old.limits
  pub cuts : R old new

abbrev pub Moves : Program → Desc Cut → State → State → Type 0
Moves p f old new = MovesBy KeepsCuts p f old new

abbrev pub CutMoves : (Desc Cut → Try → Type 0) → Program → Desc Cut → State → State → Type 0
CutMoves allows p f old new = MovesBy (AddsTries allows p f) p f old new
