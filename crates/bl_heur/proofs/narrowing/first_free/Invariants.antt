use Rattle.std.proofs.Common.{◌≡◌, None}
use Rattle.bl_heur.specs.Dives.{first_free}
use Rattle.bl_heur.proofs.narrowing.first_free.Given as goal

abbrev pub invariant-loop-j : goal.invariant-loop-j
invariant-loop-j l = first_free l.j l.lows l.highs ≡ None
