use Rattle.std.proofs.Common.{◌≡◌, drop}
use Rattle.bl_mps.specs.Meaning.{are_whole}
use Rattle.bl_mps.proofs.finish.are_whole.Given as goal

abbrev pub invariant-loop-j : goal.invariant-loop-j
invariant-loop-j l = are_whole (drop l.j l.ends) (drop l.j l.whole) ≡ are_whole l.ends l.whole
