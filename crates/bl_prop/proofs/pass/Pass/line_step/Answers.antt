use Rattle.std.proofs.Common.{false}
use Rattle.bl_prop.proofs.Nearness.{end-near}
use Rattle.bl_prop.proofs.pass.Pass.line_step.Goals as goal

pub end_step-requires-2-clause-near : goal.end_step-requires-2-clause-near
end_step-requires-2-clause-near c =
    (end-near c.args.place false c.args.line.terms.now c.args.line.high c.args.self.now
    c.end_step.new.self c.requires.near c.requires.line.terms c.in_ok-end_step.ensures).near

pub end_step-requires-2-clause-terms : goal.end_step-requires-2-clause-terms
end_step-requires-2-clause-terms c =
    let s = end-near c.args.place false c.args.line.terms.now c.args.line.high c.args.self.now
    c.end_step.new.self c.requires.near c.requires.line.terms c.in_ok-end_step.ensures in
    rw s.width c.requires.line.terms
