-- The points of a node's box that meet one more decision.
use Rattle.std.specs.Prelude.{◌≡◌, ℤ, pos, ◌+ℤ◌, ◌-ℤ◌, [], ◌∷◌, Option}
use Rattle.bl_problem.specs.Program.{Program}
use Rattle.bl_problem.specs.Decisions.{narrowed_all}
use Rattle.bl_problem.specs.declared.cut.Cut.{Cut}
use Rattle.bl_problem.specs.declared.decision.Decision.{Decision}
use Rattle.bl_problem.specs.declared.decision.Side.{Side as Bound}
use Rattle.bl_problem.specs.declared.decision.Side.TheVariants.{AtLeast, AtMost}
use Rattle.bl_desc.specs.declared.desc.Desc.{Desc}
use Rattle.bl_node.specs.declared.sides.Side.{Side}
use Rattle.bl_node.specs.declared.state.State.{State}
use Rattle.bl_node.specs.Moves.{IsOpen, IsKnown}
use Rattle.bl_node.specs.Standing.{box_of, Stands}

-- the state is that of a node of its own, whose box is that of the state s narrowed by the
-- decision; its cutoff is the best value there
pub record IsSideOf (p : Program) (f : Desc Cut) (s : State) (d : Decision) (side : Side) : Type 0
  where
    pub box : box_of side.desc ≡ narrowed_all (box_of s.work.desc) (d ∷ [])
    pub open_box : IsOpen p side.desc side.state
    pub known : (cutoff : Option ℤ) → Stands p f cutoff s.work
        → IsKnown p side.desc s.work.best side.state

-- what a point meets that doesn't meet the decision
abbrev pub other_side : Bound → ℤ → Decision → Decision
other_side AtLeast v d = record { column = d.column; side = AtMost; value = v -ℤ pos 1 }
other_side AtMost v d = record { column = d.column; side = AtLeast; value = v +ℤ pos 1 }

abbrev pub opposite_of : Decision → Decision
opposite_of d = other_side d.side d.value d
