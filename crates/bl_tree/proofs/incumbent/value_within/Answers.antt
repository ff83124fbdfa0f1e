use Rattle.std.proofs.Common.{sym, ◌∙◌}
use Rattle.std.proofs.lemmas.List.{length-map}
use Rattle.bl_problem.specs.Points.{own_lows, own_highs}
use Rattle.bl_problem.specs.declared.problem.Column.{Column}
use Rattle.bl_problem.proofs.Boxes.{box-width, box-near}
use Rattle.bl_tree.proofs.incumbent.value_within.Goals as goal

pub value-requires-clause-width : goal.value-requires-clause-width
value-requires-clause-width c =
    sym (box-width (own_lows c.args.problem.now) (own_highs c.args.problem.now) c.args.point.now
    c.requires).lows ∙ length-map c.args.problem.now.columns (λ (d : Column). d.low)

pub value-requires-clause-near : goal.value-requires-clause-near
value-requires-clause-near c = box-near c.args.problem.now.columns c.args.point.now
    c.columns-columns.ensures.program.columns c.requires
