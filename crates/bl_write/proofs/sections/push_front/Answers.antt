use Rattle.std.proofs.Common.{◌≡◌, ◌∷◌, [], codes, ◌++◌, ◌∙◌, ap, map}
use Rattle.bl_problem.specs.declared.problem.Row.{Row}
use Rattle.bl_write.specs.Layout.{ended, laid}
use Rattle.bl_write.specs.Written.{front_lines, heading, kind_of, row_line, rows_lines, sense_lines}
use Rattle.bl_write.proofs.Texts.{and_then, on_ok}
use Rattle.bl_write.proofs.sections.push_front.Goals as goal

pub returns : goal.returns
returns c =
    let p = c.args.problem.now in
    let t0 = c.args.text.now.items in
    let t1 = c.push_line.new.text.items in
    let t2 = c.push_sense.new.text.items in
    let t3 = c.push_heading.new.text.items in
    let t4 = c.push_row.new.text.items in
    let t5 = c.push_rows.new.text.items in
    let name = laid (1, codes "NAME") ((15, codes "BLIS") ∷ []) in
    let rows = map (λ (r : Row). row_line (kind_of r.low r.high) r.name) p.rows in
    let row = row_line (codes "N") p.objective in
    on_ok c.push_rows.result (t5 ≡ t4 ++ ended
    (map (λ (r : Row). row_line (kind_of r.low r.high) r.name) c.rows.result.now))
    (t5 ≡ t0 ++ ended (front_lines p)) (λ last.
    and_then t0 t1 t5 (name ∷ []) (sense_lines p.sense ++ heading (codes "ROWS") ∷ rows_lines p) c.in_ok-push_line.ensures
    (and_then t1 t2 t5 (sense_lines p.sense) (heading (codes "ROWS") ∷ rows_lines p) (c.in_ok-push_sense.ensures ∙ ap (λ s. t1 ++ ended (sense_lines s)) c.sense.ensures)
    (and_then t2 t3 t5 (heading (codes "ROWS") ∷ []) (rows_lines p) c.in_ok-push_heading.ensures
    (and_then t3 t4 t5 (row ∷ []) rows (c.in_ok-push_row.ensures ∙ ap (λ n. t3 ++ ended (row_line (codes "N") n ∷ [])) (c.bytes.ensures.bytes ∙ c.objective.ensures))
    (last ∙ ap (λ rs. t4 ++ ended (map (λ (r : Row). row_line (kind_of r.low r.high) r.name) rs))
    c.rows.ensures.rows)))))
    c.push_rows.ensures
