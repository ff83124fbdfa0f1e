use Rattle.std.proofs.Common.{◌≡◌, ◌+◌, arith, pos, sym, ◌∙◌, ap, get_or, drop, List, FitsSigned}
use Rattle.std.specs.Prelude.{unsigned_abs}
use Rattle.std.specs.Int.{w64, w128}
use Rattle.std.proofs.lemmas.Int.{ints, to_z-of_z}
use Rattle.std.proofs.lemmas.List.{drop_more, drop_all}
use Rattle.bl_problem.specs.declared.problem.Term.{Term}
use Rattle.bl_cuts.specs.OneRow.{row_breaks}
use Rattle.bl_cuts.specs.Separations.{first_size}
use Rattle.bl_cuts.specs.declared.separation.Candidate.{Candidate}
use Rattle.bl_cuts.proofs.Separating.{size-found, size-passed}
use Rattle.bl_cuts.proofs.separation.first_size.Goals as goal

pub returns-then-branch-clause-exact : goal.returns-then-branch-clause-exact
returns-then-branch-clause-exact c = λ x h.
    let d : Term = record { column = 0; coefficient = pos 0 } in
    let t : Term = get_or c.args.terms.now c.loop-term.term-index d in
    let zw = to_z-of_z w64 c.args.weight c.ranges.weight in
    let zo = to_z-of_z w128 c.args.over c.ranges.over in
    let broken = λ (k : Candidate). row_breaks c.args.split.now.lows x c.args.terms.now
    c.args.weight c.args.over k.q in
    let inv : first_size broken c.args.row c.args.weight c.args.terms.now
    ≡ first_size broken c.args.row c.args.weight
    (drop c.loop-term.term-index c.args.terms.now) =
    rw (zw, zo) at (c.loop-term.invariant.first x h) in
    let q : c.size-q.result ≡ pos (unsigned_abs t.coefficient) = c.size-q.ensures.exact in
    let near = c.size-q.ensures.near in
    let f : FitsSigned w64 c.size-q.result = omega (arith, ints, near) in
    let b = rw (zw, zo, to_z-of_z w64 c.size-q.result f, q) at
    (sym c.if-branch.true ∙ c.in_ok-is_broken.ensures.exact x h) in
    let e = size-found broken c.args.row c.args.weight t
    (drop (c.loop-term.term-index + 1) c.args.terms.now) (sym b) in
    let m = ap (λ (ts : List Term). first_size broken c.args.row c.args.weight ts)
    (drop_more c.args.terms.now c.loop-term.term-index d c.loop-term-test.true) in
    rw (zw, to_z-of_z w64 c.size-q.result f, q) (sym (inv ∙ m ∙ e))

pub loop-term-preserved : goal.loop-term-preserved
loop-term-preserved c = record {
  first = λ x h.
      let d : Term = record { column = 0; coefficient = pos 0 } in
      let t : Term = get_or c.args.terms.now c.loop-term.term-index d in
      let zw = to_z-of_z w64 c.args.weight c.ranges.weight in
      let zo = to_z-of_z w128 c.args.over c.ranges.over in
      let broken = λ (k : Candidate). row_breaks c.args.split.now.lows x c.args.terms.now
      c.args.weight c.args.over k.q in
      let inv : first_size broken c.args.row c.args.weight c.args.terms.now
      ≡ first_size broken c.args.row c.args.weight
      (drop c.loop-term.term-index c.args.terms.now) =
      rw (zw, zo) at (c.loop-term.invariant.first x h) in
      let q : c.size-q.result ≡ pos (unsigned_abs t.coefficient) = c.size-q.ensures.exact in
      let near = c.size-q.ensures.near in
      let f : FitsSigned w64 c.size-q.result = omega (arith, ints, near) in
      let b = rw (zw, zo, to_z-of_z w64 c.size-q.result f, q) at
      (sym c.if-branch.false ∙ c.in_ok-is_broken.ensures.exact x h) in
      let e = size-passed broken c.args.row c.args.weight t
      (drop (c.loop-term.term-index + 1) c.args.terms.now) (sym b) in
      let m = ap (λ (ts : List Term). first_size broken c.args.row c.args.weight ts)
      (drop_more c.args.terms.now c.loop-term.term-index d c.loop-term-test.true) in
      rw (zw, zo) (inv ∙ m ∙ e);
  tried = c.in_ok-is_broken.ensures.tried;
}

pub returns-clause-exact : goal.returns-clause-exact
returns-clause-exact c = λ x h.
    let zw = to_z-of_z w64 c.args.weight c.ranges.weight in
    let zo = to_z-of_z w128 c.args.over c.ranges.over in
    let broken = λ (k : Candidate). row_breaks c.args.split.now.lows x c.args.terms.now
    c.args.weight c.args.over k.q in
    let inv : first_size broken c.args.row c.args.weight c.args.terms.now
    ≡ first_size broken c.args.row c.args.weight
    (drop c.loop-term.term-index c.args.terms.now) =
    rw (zw, zo) at (c.loop-term.invariant.first x h) in
    let m = ap (λ (ts : List Term). first_size broken c.args.row c.args.weight ts)
    (drop_all c.loop-term.term-index c.args.terms.now c.loop-term-test.false) in
    sym (inv ∙ m)
