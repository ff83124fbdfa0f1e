-- What `tighten` answers, and what its answers say of a point.
use Rattle.std.specs.Prelude.{ℕ, List, [], ◌∷◌, length, ℤ, Option, Some, None}
use Rattle.bl_problem.specs.Program.{Program}
use Rattle.bl_problem.specs.Decisions.{MeetsAll}
use Rattle.bl_problem.specs.declared.cut.Cut.{Cut}
use Rattle.bl_problem.specs.declared.decision.Decision.{Decision}
use Rattle.bl_desc.specs.declared.desc.Desc.{Desc}
use Rattle.bl_bound.specs.Lines.{lines_of}
use Rattle.bl_prop.specs.declared.pass.Pass.{Pass}
use Rattle.bl_prop.specs.declared.tightening.Tightened.{Tightened}
use Rattle.bl_prop.specs.declared.tightening.Tightened.TheVariants.{Empty, Changed, Same}
use Rattle.bl_prop.specs.Passes.{walked}
use Rattle.bl_prop.specs.Limits.{AreDecisions}

-- the pass over all rows and cuts, from the description's bounds
abbrev pub pass_of : Program → Desc Cut → Pass
pass_of p desc = walked (length (lines_of p.rows desc.cuts)) (lines_of p.rows desc.cuts)
    (record { lows = desc.lows; highs = desc.highs; decisions = []; stuck = None })

-- the line that no point meets, else the decisions, where there are some
abbrev pub answer_by : Option ℕ → List Decision → Tightened
answer_by (Some i) decisions = Empty i
answer_by None [] = Same
answer_by None (d ∷ ds) = Changed (d ∷ ds)

abbrev pub tightened_of : Program → Desc Cut → Tightened
tightened_of p desc = answer_by (pass_of p desc).stuck (pass_of p desc).decisions

-- the point breaks no decision; at Empty there is no point
abbrev pub Keeps : List ℤ → Tightened → Type 0
Keeps x (Empty i) = ⊥
Keeps x (Changed ds) = MeetsAll x ds
Keeps x Same = Unit {0}

-- the decisions name columns of n and are within the limits
abbrev pub IsTightened : ℕ → Tightened → Type 0
IsTightened n (Empty i) = Unit {0}
IsTightened n (Changed ds) = AreDecisions n ds
IsTightened n Same = Unit {0}
