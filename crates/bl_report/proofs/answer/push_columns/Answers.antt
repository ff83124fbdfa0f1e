use Rattle.std.proofs.Common.{◌+◌, ◌++◌, List, ℕ, ℤ, pos, get_or, drop, sym, ◌∙◌, ap, arith}
use Rattle.std.proofs.Common.{append_assoc, FitsSigned, rules}
use Rattle.std.proofs.lemmas.Int.{to_z-of_z}
use Rattle.std.proofs.lemmas.List.{append-nil}
use Rattle.std.specs.Int.{w64}
use Rattle.bl_report.specs.Texts.{column_line, column_lines}
use Rattle.bl_report.proofs.Lines.{lines_step, lines_end}
use Rattle.bl_report.proofs.answer.push_columns.Goals as goal

pub loop-j-preserved : goal.loop-j-preserved
loop-j-preserved c =
    let cs = c.args.columns.now in
    let xs = c.args.point.now in
    let j = c.loop-j.j in
    let items = c.loop-j.text.items in
    let column = c.index-columns-j.result in
    let rest = column_lines (drop (j + 1) cs) (drop (j + 1) xs) in
    let fits : FitsSigned w64 (get_or xs j (pos 0)) = search rules in
    let next = lines_step cs xs j column (omega arith) (omega arith) c.index-columns-j.is in
    ap (λ (l : List ℕ). l ++ rest) (c.in_ok-push_column.ensures
    ∙ ap (λ (z : ℤ). items ++ column_line column z) (to_z-of_z w64 (get_or xs j (pos 0)) fits))
    ∙ append_assoc items (column_line column (get_or xs j (pos 0))) rest
    ∙ sym (ap (λ (l : List ℕ). items ++ l) next)
    ∙ c.loop-j.invariant

pub returns : goal.returns
returns c =
    let end = lines_end c.args.columns.now c.args.point.now c.loop-j.j (omega arith) in
    sym (ap (λ (l : List ℕ). c.loop-j.text.items ++ l) end ∙ append-nil c.loop-j.text.items)
    ∙ c.loop-j.invariant
