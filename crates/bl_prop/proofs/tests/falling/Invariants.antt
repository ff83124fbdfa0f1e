use Rattle.std.proofs.Common.{◌≡◌, length}
use Rattle.bl_prop.proofs.tests.falling.Given as goal

abbrev pub invariant-loop-k : goal.invariant-loop-k
invariant-loop-k l = length l.rights ≡ 150
