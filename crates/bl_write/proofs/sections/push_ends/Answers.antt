use Rattle.std.proofs.Common.{FitsSigned, rules, w64, ℤ, ◌≡◌, ◌∷◌, [], arith, codes, drop, ap}
use Rattle.std.proofs.Common.{ap₂, sym, ◌∙◌, ◌+◌, ◌++◌}
use Rattle.std.proofs.lemmas.Int.{to_z-of_z}
use Rattle.std.proofs.lemmas.List.{drop_more}
use Rattle.bl_problem.specs.declared.problem.Column.{Column}
use Rattle.bl_write.specs.Layout.{ended}
use Rattle.bl_write.specs.Written.{bound_line, ends_lines}
use Rattle.bl_write.proofs.Texts.{and_then, pushed}
use Rattle.bl_write.proofs.sections.push_ends.Goals as goal

pub loop-column-preserved : goal.loop-column-preserved
loop-column-preserved c =
    let columns = c.args.columns.now in
    let i = c.loop-column.column-index in
    let column = c.column-item.result in
    let items = c.loop-column.text.items in
    let mid = c.push_bound.new.text.items in
    let new = c.push_bound-in-loop-column.new.text.items in
    let low_fits : FitsSigned w64 column.low = search rules in
    let high_fits : FitsSigned w64 column.high = search rules in
    let low = bound_line (codes "LO") column.name column.low in
    let high = bound_line (codes "UP") column.name column.high in
    let rest = ends_lines (drop (i + 1) columns) in
    let next : drop i columns ≡ column ∷ drop (i + 1) columns =
    drop_more columns i column (omega arith) ∙ ap (λ (x : Column). x ∷ drop (i + 1) columns)
    (sym c.column-item.is) in
    pushed c.args.text.now.items items new (ends_lines columns) (ends_lines (drop i columns))
    (low ∷ high ∷ []) rest (ap ends_lines next)
    (and_then items mid new (low ∷ []) (high ∷ [])
    (c.in_ok-push_bound.ensures ∙ ap₂ (λ n (z : ℤ). items ++ ended (bound_line (codes "LO") n z ∷ [])) c.bytes.ensures.bytes (to_z-of_z w64 column.low low_fits))
    (c.in_ok-push_bound-2.ensures ∙ ap₂ (λ n (z : ℤ). mid ++ ended (bound_line (codes "UP") n z ∷ [])) c.bytes-in-loop-column.ensures.bytes (to_z-of_z w64 column.high high_fits)))
    c.loop-column.invariant
