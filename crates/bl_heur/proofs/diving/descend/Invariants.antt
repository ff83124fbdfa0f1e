use Rattle.std.proofs.Common.{◌≡◌, ℕ, ◌+◌, length}
use Rattle.bl_bound.specs.Descriptions.{Describes}
use Rattle.bl_heur.specs.Dives.{dived, dive_of}
use Rattle.bl_heur.proofs.diving.descend.Given as goal

abbrev pub invariant-loop : goal.invariant-loop
invariant-loop l = record {
  suits : Describes l.problem l.desc;
  rest : (m : ℕ) → m + l.counter ≡ length l.problem.columns + 1 → dived m l.problem l.desc
      ≡ dive_of l.problem l.initial.desc;
}
