use Rattle.std.proofs.Common.{arith}
use Rattle.bl_node.proofs.Restating.{few-counted, few-taken}
use Rattle.bl_node.proofs.statuses.settle.Goals as goal

pub returns-in_ok-rows-clause-few : goal.returns-in_ok-rows-clause-few
returns-in_ok-rows-clause-few c =
    let d = c.args.work.now.desc in
    let w = c.requires.narrows.whole.cuts in
    let few = c.requires.narrows.describes.few_cuts in
    few-taken c.args.parent.now (record {
      lows = d.lows;
      highs = d.highs;
      cuts =
          d.cuts;
      column_status = c.in_ok-columns.columns;
      row_status =
          c.in_ok-rows.rows;
      cut_status = d.cut_status;
    }) (omega (arith, w, few))
    c.in_ok-columns.ensures c.in_ok-rows.ensures

pub returns-else-rows-columns-clause-few : goal.returns-else-rows-columns-clause-few
returns-else-rows-columns-clause-few c =
    let w = c.requires.narrows.whole.cuts in
    let few = c.requires.narrows.describes.few_cuts in
    few-counted c.args.parent.now c.args.work.now.desc c.count_unlike-columns.result
    c.count_unlike-rows.result (omega (arith, w, few))
    (rw (c.as_slice.ensures, c.as_slice-2.ensures) at c.count_unlike-columns.ensures)
    (rw (c.as_slice-3.ensures, c.as_slice-4.ensures) at c.count_unlike-rows.ensures)
    (omega (arith, c.if-columns-gt-MOST_OTHERS.false, c.if-rows-columns.false))
