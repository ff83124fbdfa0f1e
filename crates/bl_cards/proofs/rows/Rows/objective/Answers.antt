use Rattle.std.proofs.Common.{◌<◌, ◌∙◌, sym, ap, arith, length, []}
use Rattle.bl_cards.specs.Said.{RowLine}
use Rattle.bl_cards.specs.declared.kind.Role.TheVariants.{Extra}
use Rattle.bl_cards.specs.Lines.{is_objective}
use Rattle.bl_cards.proofs.RowLines.{objective_at, objective_more}
use Rattle.bl_cards.proofs.rows.Rows.objective.Goals as goal

abbrev no_line : RowLine
no_line = record { name = []; role = Extra }

pub returns-then-is_objective-clause-test : goal.returns-then-is_objective-clause-test
returns-then-is_objective-clause-test c =
    let l : c.loop-place.place < length c.args.self.now =
    omega (arith, c.loop-place-test.true, c.len-place-end.ensures) in
    let role = ap is_objective (sym (c.role_at.ensures no_line)) ∙ sym c.is_objective.ensures
    ∙ c.if-is_objective.true in
    sym (objective_at c.args.self.now c.loop-place.place no_line l c.loop-place.invariant role).1

pub returns-then-is_objective-clause-name : goal.returns-then-is_objective-clause-name
returns-then-is_objective-clause-name c = λ d.
    let l : c.loop-place.place < length c.args.self.now =
    omega (arith, c.loop-place-test.true, c.len-place-end.ensures) in
    let role = ap is_objective (sym (c.role_at.ensures d)) ∙ sym c.is_objective.ensures
    ∙ c.if-is_objective.true in
    (objective_at c.args.self.now c.loop-place.place d l c.loop-place.invariant role).0

pub loop-place-preserved : goal.loop-place-preserved
loop-place-preserved c =
    let l : c.loop-place.place < length c.args.self.now =
    omega (arith, c.loop-place-test.true, c.len-place-end.ensures) in
    let role = ap is_objective (sym (c.role_at.ensures no_line)) ∙ sym c.is_objective.ensures
    ∙ c.if-is_objective.false in
    objective_more c.args.self.now c.loop-place.place no_line l c.loop-place.invariant role
