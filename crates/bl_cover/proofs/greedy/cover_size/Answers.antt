use Rattle.std.proofs.Common.{◌≡◌, ◌+◌, ℕ, pos, ◌-ℤ◌, arith, drop, get_or, Option, Some, sym, ◌∙◌}
use Rattle.std.proofs.Common.{ap, to_z, of_z}
use Rattle.std.specs.Prelude.{option_map}
use Rattle.std.specs.Int.{w64, w128}
use Rattle.std.proofs.lemmas.Int.{ints, to_z-of_z}
use Rattle.bl_cover.specs.Greedy.{IsCandidate}
use Rattle.bl_cover.specs.declared.greedy.Candidate.{Candidate}
use Rattle.bl_cover.proofs.GreedyLaw.{size-here, size-step}
use Rattle.bl_cover.proofs.greedy.cover_size.Goals as goal

pub returns-then-left-lt0-clause-exact : goal.returns-then-left-lt0-clause-exact
returns-then-left-lt0-clause-exact c =
    let z = to_z-of_z w128 c.args.room c.ranges.room in
    let inv = rw (z, c.loop-place.left-is) at c.loop-place.invariant.exact in
    let h = size-here (drop c.loop-place.place c.args.order.now) c.loop-place.left
    (omega (arith, ints, c.if-left-lt0.true)) in
    let e = inv ∙ ap (λ (o : Option ℕ). option_map (λ (k : ℕ). c.loop-place.place + k) o) h in
    let m : c.loop-place.place + 0 ≡ c.loop-place.place = omega arith in
    sym (e ∙ ap Some m)

pub loop-place-preserved : goal.loop-place-preserved
loop-place-preserved c =
    let z = to_z-of_z w128 c.args.room c.ranges.room in
    let d : Candidate = record { column = 0; coefficient = pos 0; entry = pos 0 } in
    let x : IsCandidate (get_or c.args.order.now c.loop-place.place d) =
    c.requires.candidates c.loop-place.place d c.loop-place-test.true in
    let small = x.small in
    let inv = rw (z, c.loop-place.left-is) at c.loop-place.invariant.exact in
    let s = size-step c.args.order.now c.args.room c.loop-place.left c.loop-place.place d
    c.loop-place-test.true (omega (arith, ints, c.if-left-lt0.false)) inv in
    record {
      exact =
          let v = (get_or c.args.order.now c.loop-place.place d).coefficient in
          let e : to_z w128
          (of_z w128 (to_z w128 c.loop-place.left-bits -ℤ to_z w128
          (of_z w128 (to_z w64 (of_z w64 v))))) ≡ c.loop-place.left -ℤ v =
          omega (
            arith,
            ints,
            small,
            c.loop-place.invariant.within,
            c.requires.few,
            c.loop-place-test.true,
          ) in
          rw (z, e) s;
      within = omega (
        arith,
        ints,
        small,
        c.loop-place.invariant.within,
        c.requires.few,
        c.loop-place-test.true,
      );
    }
