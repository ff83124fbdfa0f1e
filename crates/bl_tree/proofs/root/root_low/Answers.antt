use Rattle.std.proofs.Common.{ap, ◌∙◌}
use Rattle.bl_problem.specs.declared.cut.Cut.{Cut}
use Rattle.bl_desc.specs.declared.desc.Desc.{Desc}
use Rattle.bl_tree.proofs.Roots.{lows_near, highs_near}
use Rattle.bl_tree.proofs.root.root_low.Goals as goal

pub trivial_bound-requires-clause-low_near : goal.trivial_bound-requires-clause-low_near
trivial_bound-requires-clause-low_near c =
    rw (c.as_slice.ensures ∙ ap (λ (d : Desc Cut). d.lows) c.requires)
    (lows_near c.args.problem.now.columns c.columns-columns.ensures.program.columns)

pub trivial_bound-requires-clause-high_near : goal.trivial_bound-requires-clause-high_near
trivial_bound-requires-clause-high_near c =
    rw (c.as_slice-2.ensures ∙ ap (λ (d : Desc Cut). d.highs) c.requires)
    (highs_near c.args.problem.now.columns c.columns-columns.ensures.program.columns)
