use Rattle.std.proofs.Common.{◌≡◌, length}
use Rattle.std.specs.Prelude.{All}
use Rattle.bl_problem.specs.Program.{Program}
use Rattle.bl_problem.specs.Cuts.{SuitsProblem}
use Rattle.bl_prop.proofs.tests.cuts.Given as goal

abbrev pub invariant-loop-right : goal.invariant-loop-right
invariant-loop-right l = record {
  count : length l.cuts ≡ l.right-index;
  suit : (p : Program) → length p.columns ≡ 2 → All (SuitsProblem p) l.cuts;
}
