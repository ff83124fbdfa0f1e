use Rattle.std.proofs.Common.{refl}
use Rattle.std.proofs.lemmas.List.Elements.{All-more}
use Rattle.std.proofs.lemmas.List.{take_all}
use Rattle.bl_problem.specs.Rows.{MeetsRow}
use Rattle.bl_problem.proofs.point.meets_rows.Goals as goal

pub loop-row-preserved : goal.loop-row-preserved
loop-row-preserved c =
    All-more (MeetsRow c.args.point.now) c.args.rows.now c.loop-row.row-index c.row-item.result
    c.loop-row-test.true c.loop-row.invariant
    (rw (← c.row-item.is) (c.if-not-meets_row.ensures.0 refl))

pub returns : goal.returns
returns c = (
  λ t. rw (take_all c.loop-row.row-index c.args.rows.now c.loop-row-test.false) at
      c.loop-row.invariant,
  λ a. refl,
)
