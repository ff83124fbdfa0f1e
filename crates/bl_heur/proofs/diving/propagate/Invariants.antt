use Rattle.std.proofs.Common.{◌≡◌, ℕ, ◌+◌}
use Rattle.bl_bound.specs.Descriptions.{Describes}
use Rattle.bl_heur.specs.Dives.{propagated}
use Rattle.bl_heur.proofs.diving.propagate.Given as goal

abbrev pub invariant-loop : goal.invariant-loop
invariant-loop l = record {
  suits : Describes l.problem l.desc;
  rest : (m : ℕ) → m + l.counter ≡ 20 → propagated m l.problem l.desc
      ≡ propagated 20 l.problem l.initial.desc;
}
