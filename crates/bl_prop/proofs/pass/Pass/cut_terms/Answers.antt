use Rattle.std.proofs.Common.{pos}
use Rattle.std.specs.Int.{w128}
use Rattle.std.proofs.lemmas.Int.{to_z-of_z}
use Rattle.bl_problem.specs.declared.problem.Term.{Term}
use Rattle.bl_prop.proofs.Nearness.{front-near}
use Rattle.bl_prop.proofs.pass.Pass.cut_terms.Goals as goal

pub cut_term-requires-clause-near : goal.cut_term-requires-clause-near
cut_term-requires-clause-near c =
    let inv = rw (to_z-of_z w128 c.args.slack c.ranges.slack) at c.loop-term.invariant in
    (front-near c.args.negate c.args.slack c.args.terms.now c.loop-term.term-index c.args.self.now
    c.loop-term.self c.requires.near c.requires.terms c.requires.slack.low inv).near

pub cut_term-requires-clause-term : goal.cut_term-requires-clause-term
cut_term-requires-clause-term c =
    let inv = rw (to_z-of_z w128 c.args.slack c.ranges.slack) at c.loop-term.invariant in
    let s = front-near c.args.negate c.args.slack c.args.terms.now c.loop-term.term-index
    c.args.self.now c.loop-term.self c.requires.near c.requires.terms c.requires.slack.low inv
    in
    let d : Term = record { column = 0; coefficient = pos 0 } in
    rw s.width (c.requires.terms.each c.loop-term.term-index d c.loop-term-test.true)
