use Rattle.std.proofs.Common.{pos, ◌≤ℤ◌, arith, get_or, rules, FitsSigned}
use Rattle.std.specs.Int.{w64}
use Rattle.std.proofs.lemmas.Int.{ints}
use Rattle.std.proofs.lemmas.List.{take_all}
use Rattle.std.proofs.lemmas.List.Elements.{All-more}
use Rattle.bl_num.specs.Exact.{at}
use Rattle.bl_problem.specs.declared.problem.Term.{Term}
use Rattle.bl_cuts.proofs.one_row.is_above_lows.Goals as goal

pub loop-term-preserved : goal.loop-term-preserved
loop-term-preserved c =
    let d : Term = record { column = 0; coefficient = pos 0 } in
    let t : Term = get_or c.args.terms.now c.loop-term.term-index d in
    let e : FitsSigned w64 (at c.args.split.now.lows t.column) = search rules in
    let f : FitsSigned w64 (at c.args.split.now.wholes t.column) = search rules in
    let w = rw (c.as_slice-wholes.ensures, c.as_slice-lows.ensures) at c.if-wholes-term.false in
    All-more (λ (t : Term). at c.args.split.now.lows t.column ≤ℤ at c.args.split.now.wholes
    t.column) c.args.terms.now c.loop-term.term-index d c.loop-term-test.true
    c.loop-term.invariant
    (omega (arith, ints, e, f, w))

pub returns : goal.returns
returns c = λ t. rw (take_all c.loop-term.term-index c.args.terms.now c.loop-term-test.false) at
    c.loop-term.invariant
