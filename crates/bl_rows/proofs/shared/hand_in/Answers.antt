use Rattle.std.proofs.Common.{◌≡◌, ◌+◌, ap, sym, ◌∙◌, subst, length, Some}
use Rattle.bl_problem.specs.Program.{Program}
use Rattle.bl_problem.specs.declared.cut.Cut.{Cut}
use Rattle.bl_desc.specs.declared.desc.Desc.{Desc}
use Rattle.bl_desc.specs.declared.desc.Form.{Form}
use Rattle.bl_desc.specs.Changes.{IsWhole}
use Rattle.bl_journal.specs.Births.{node_at}
use Rattle.bl_journal.specs.Descriptions.{full_of}
use Rattle.bl_journal.specs.Pieces.{form_at_birth}
use Rattle.bl_tree.specs.Views.{past_of}
use Rattle.bl_turn.specs.Seats.{view_of, number}
use Rattle.bl_shared.specs.Calls.{tree_seen}
use Rattle.bl_rows.specs.Shared.{IsOutcome}
use Rattle.bl_rows.proofs.Hopeless.{some_is, form_under, put_fits, problem_is, span_is}
use Rattle.bl_rows.proofs.shared.hand_in.Goals as goal

pub halve-requires-clause-whole : goal.halve-requires-clause-whole
halve-requires-clause-whole g c =
    let t = tree_seen (view_of c.args.seat.now) in
    let id = c.args.lease.id in
    let desc = some_is c.in-Ok.desc (full_of t.problem (past_of t) id)
    (ap Some c.in-Ok.ensures ∙ (sym c.chain.ensures.gives ∙ c.requires.leased.chain)) in
    let whole =
    (c.leases_are_workable.ensures t.problem t.settings t.history c.requires.seat.seat.2.legal
    id (number c.args.seat.now) c.requires.leased.is_out).desc.whole in
    subst (λ (d : Desc Cut). IsWhole d) (sym desc) whole

pub halve-requires-clause-columns : goal.halve-requires-clause-columns
halve-requires-clause-columns g c =
    let t = tree_seen (view_of c.args.seat.now) in
    let id = c.args.lease.id in
    let desc = some_is c.in-Ok.desc (full_of t.problem (past_of t) id)
    (ap Some c.in-Ok.ensures ∙ (sym c.chain.ensures.gives ∙ c.requires.leased.chain)) in
    let columns =
    (c.leases_are_workable.ensures t.problem t.settings t.history c.requires.seat.seat.2.legal
    id (number c.args.seat.now) c.requires.leased.is_out).desc.columns in
    ap (λ (d : Desc Cut). length d.lows) desc ∙ (columns
    ∙ ap (λ (p : Program). length p.columns)
    (problem_is (view_of c.args.seat.now) c.args.size.high c.args.size.nodes
    c.requires.seat.base))

pub halve-requires-clause-rows : goal.halve-requires-clause-rows
halve-requires-clause-rows g c =
    let t = tree_seen (view_of c.args.seat.now) in
    let id = c.args.lease.id in
    let desc = some_is c.in-Ok.desc (full_of t.problem (past_of t) id)
    (ap Some c.in-Ok.ensures ∙ (sym c.chain.ensures.gives ∙ c.requires.leased.chain)) in
    let rows =
    (c.leases_are_workable.ensures t.problem t.settings t.history c.requires.seat.seat.2.legal
    id (number c.args.seat.now) c.requires.leased.is_out).desc.rows in
    ap (λ (d : Desc Cut). length d.row_status) desc
    ∙ (rows ∙ ap (λ (p : Program). length p.rows)
    (problem_is (view_of c.args.seat.now) c.args.size.high c.args.size.nodes
    c.requires.seat.base))

pub put-requires-clause-fits : goal.put-requires-clause-fits
put-requires-clause-fits g c =
    let t = tree_seen (view_of c.args.seat.now) in
    let id = c.args.lease.id in
    let d = full_of t.problem (past_of t) id in
    let desc = some_is c.in-Ok.desc (full_of t.problem (past_of t) id)
    (ap Some c.in-Ok.ensures ∙ (sym c.chain.ensures.gives ∙ c.requires.leased.chain)) in
    let depth = c.depth.ensures ∙ c.requires.leased.depth in
    let span = span_is (view_of c.args.seat.now) c.args.size.high c.args.size.nodes
    c.requires.seat.base in
    let form : c.form_below-form.result ≡ form_under t c.args.lease.id =
    c.form_below-form.ensures ∙ (ap (λ n. form_at_birth 8 (n + 1)) depth
    ∙ ap (λ n. form_at_birth n ((node_at t.problem (past_of t) id).depth + 1)) (sym span)) in
    let o = c.in-Ok-halve.outcome in
    let a = subst (λ (x : Desc Cut). IsOutcome x c.form_below-form.result o) desc
    c.in-Ok-halve.ensures in
    put_fits t c.args.size.high (number c.args.seat.now) c.args.lease o
    c.requires.seat.seat.2.legal (problem_is (view_of c.args.seat.now) c.args.size.high
    c.args.size.nodes c.requires.seat.base) c.requires.leased
    (subst (λ (f : Form). IsOutcome d f o) form a)
