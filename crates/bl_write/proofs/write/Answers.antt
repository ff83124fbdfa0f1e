use Rattle.std.proofs.Common.{◌∷◌, ◌++◌, ◌∙◌, ap, codes}
use Rattle.bl_write.specs.Layout.{ended}
use Rattle.bl_write.specs.Written.{back_lines, columns_lines, front_lines, heading, lines_for}
use Rattle.bl_write.specs.Written.{written}
use Rattle.bl_write.proofs.Texts.{and_then}
use Rattle.bl_write.proofs.write.Goals as goal

pub returns : goal.returns
unfolding written
returns c =
    let p = c.args.problem.now in
    let t0 = c.new-text.result.items in
    let t1 = c.push_front.new.text.items in
    let t2 = c.push_columns.new.text.items in
    let t3 = c.push_back.new.text.items in
    let columns = heading (codes "COLUMNS") ∷ columns_lines p in
    and_then t0 t1 t3 (front_lines p) (columns ++ back_lines p) c.in_ok-push_front.ensures
    (and_then t1 t2 t3 columns (back_lines p) c.in_ok-push_columns.ensures
    c.in_ok-push_back.ensures)
    ∙ ap (λ t. t ++ ended (lines_for p)) c.new-text.ensures.items
