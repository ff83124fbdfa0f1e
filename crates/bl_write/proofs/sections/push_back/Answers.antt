use Rattle.std.proofs.Common.{◌≡◌, ◌∷◌, [], codes, ◌++◌, ◌∙◌, ap}
use Rattle.bl_write.specs.Layout.{ended}
use Rattle.bl_write.specs.Written.{back_lines, bounds_lines, heading, ranges_of, rights_of}
use Rattle.bl_write.specs.Written.{set_lines}
use Rattle.bl_write.proofs.Texts.{and_then, on_ok}
use Rattle.bl_write.proofs.sections.push_back.Goals as goal

pub returns : goal.returns
returns c =
    let p = c.args.problem.now in
    let t0 = c.args.text.now.items in
    let t1 = c.push_rights.new.text.items in
    let t2 = c.push_ranges.new.text.items in
    let t3 = c.push_bounds.new.text.items in
    let t4 = c.push_heading.new.text.items in
    let rights = set_lines (codes "RHS") (codes "RHS") (rights_of p) in
    let ranges = set_lines (codes "RANGES") (codes "RNG") (ranges_of p) in
    let bounds = bounds_lines p.columns in
    let end = heading (codes "ENDATA") ∷ [] in
    on_ok c.push_heading.result (t4 ≡ t3 ++ ended end) (t4 ≡ t0 ++ ended (back_lines p)) (λ last.
    and_then t0 t1 t4 rights (ranges ++ (bounds ++ end)) c.in_ok-push_rights.ensures
    (and_then t1 t2 t4 ranges (bounds ++ end) c.in_ok-push_ranges.ensures
    (and_then t2 t3 t4 bounds end (c.in_ok-push_bounds.ensures
    ∙ ap (λ cs. t2 ++ ended (bounds_lines cs)) c.columns.ensures.columns) last)))
    c.push_heading.ensures
