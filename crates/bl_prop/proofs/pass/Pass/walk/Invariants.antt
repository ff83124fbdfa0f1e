use Rattle.std.proofs.Common.{◌≡◌}
use Rattle.bl_bound.specs.Lines.{lines_of}
use Rattle.bl_prop.specs.Passes.{walked}
use Rattle.bl_prop.proofs.pass.Pass.walk.Given as goal

abbrev pub invariant-loop-place : goal.invariant-loop-place
invariant-loop-place l = l.self ≡ walked l.place (lines_of l.rows l.cuts) l.initial.self
