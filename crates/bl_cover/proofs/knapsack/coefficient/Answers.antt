use Rattle.std.proofs.Common.{pos, sym, ◌∙◌, FitsSigned, rules, get_or}
use Rattle.std.specs.Int.{w64}
use Rattle.std.proofs.lemmas.Int.{to_z-of_z}
use Rattle.std.proofs.lemmas.List.Sorted.{answers_always}
use Rattle.bl_problem.specs.declared.problem.Term.{Term}
use Rattle.bl_cover.proofs.Places.{coefficient-found, coefficient-missed}
use Rattle.bl_cover.proofs.knapsack.coefficient.Goals as goal

pub returns-in-Ok : goal.returns-in-Ok
returns-in-Ok c =
    let d : Term = record { column = 0; coefficient = pos 0 } in
    let p = c.in-Ok.ensures.position (λ (t : Term). t.column)
    (answers_always _ _ _ (λ f a r g h. search rules)) in
    let f : FitsSigned w64 (get_or c.args.terms.now c.in-Ok.place d).coefficient = search rules in
    to_z-of_z w64 (get_or c.args.terms.now c.in-Ok.place d).coefficient f
    ∙ sym (coefficient-found c.args.terms.now c.in-Ok.place c.args.column d c.requires
    c.in-Ok.ensures.bound (p d))

pub returns-in-Err : goal.returns-in-Err
returns-in-Err c =
    let p = c.in-Err.ensures.position (λ (t : Term). t.column)
    (answers_always _ _ _ (λ f a r g h. search rules)) in
    sym (coefficient-missed c.args.terms.now c.in-Err.field-0 c.args.column c.requires p)
