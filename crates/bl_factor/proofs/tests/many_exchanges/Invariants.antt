use Rattle.std.proofs.Common.{◌≡◌}
use Rattle.bl_factor.specs.Factored.{size_of}
use Rattle.bl_factor.proofs.tests.many_exchanges.Given as goal

abbrev pub invariant-loop-turn : goal.invariant-loop-turn
invariant-loop-turn g l = size_of l.factor ≡ 2
