use Rattle.std.proofs.Common.{◌≡◌, ◌∷◌, [], codes, ◌++◌}
use Rattle.bl_write.specs.Layout.{ended}
use Rattle.bl_write.specs.Written.{cells_lines, columns_lines, heading, marker_line}
use Rattle.bl_write.proofs.Texts.{and_then, on_ok}
use Rattle.bl_write.proofs.cells.push_columns.Goals as goal

pub returns : goal.returns
returns c =
    let p = c.args.problem.now in
    let t0 = c.args.text.now.items in
    let t1 = c.push_heading.new.text.items in
    let t2 = c.push_marker.new.text.items in
    let t3 = c.push_cells.new.text.items in
    let t4 = c.push_marker-2.new.text.items in
    let head = heading (codes "COLUMNS") in
    let first = marker_line (codes "'INTORG'") in
    let cells = cells_lines p 0 p.columns in
    let last = marker_line (codes "'INTEND'") ∷ [] in
    on_ok c.push_marker-2.result (t4 ≡ t3 ++ ended last)
    (t4 ≡ t0 ++ ended (head ∷ columns_lines p)) (λ end.
    and_then t0 t1 t4 (head ∷ []) (columns_lines p) c.in_ok-push_heading.ensures
    (and_then t1 t2 t4 (first ∷ []) (cells ++ last) c.in_ok-push_marker.ensures
    (and_then t2 t3 t4 cells last c.in_ok-push_cells.ensures end)))
    c.push_marker-2.ensures
