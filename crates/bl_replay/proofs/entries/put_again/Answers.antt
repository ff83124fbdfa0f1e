use Rattle.std.proofs.Common.{◌≡◌, sym, subst, ap, ◌∙◌, ℕ, ℤ, Some, rules, FitsSigned}
use Rattle.std.specs.Int.{w128}
use Rattle.std.specs.Option.{option_copied}
use Rattle.std.specs.Ordering.{nat_cmp}
use Rattle.std.specs.BTreeMap.{get}
use Rattle.std.proofs.lemmas.Int.{to_z-of_z}
use Rattle.bl_journal.specs.declared.entry.Entry.TheVariants.{Put}
use Rattle.bl_journal.specs.Legality.{MayPut}
use Rattle.bl_tree.specs.Views.{extended, past_of}
use Rattle.bl_replay.proofs.Keeping.{lease_found, put_same, put_again}
use Rattle.bl_replay.proofs.entries.put_again.Goals as goal

pub outcome_again-requires-clause-allowed : goal.outcome_again-requires-clause-allowed
outcome_again-requires-clause-allowed c =
    let t = c.args.tree.now in
    let held = c.in-Some.held.now in
    let there : get nat_cmp c.args.leases.now c.args.id ≡ Some held = sym c.get.ensures.value
    ∙ ap option_copied c.in-Some.is in
    let own = lease_found t c.args.seat c.args.id _ held there
    (c.requires.held c.args.id c.args.seat c.requires.allowed.is_out) in
    let fits : FitsSigned w128 c.args.low = search rules in
    let back = to_z-of_z w128 c.args.low fits in
    subst (λ (low : ℤ). MayPut t.problem t.settings (past_of t) c.args.seat held.id
    c.args.found.now low c.args.step.now) (sym back)
    (subst (λ (id : ℕ). MayPut t.problem t.settings (past_of t) c.args.seat id c.args.found.now
    c.args.low c.args.step.now) (sym own.0) c.requires.allowed)

pub returns-clause-held : goal.returns-clause-held
returns-clause-held c =
    let t = c.args.tree.now in
    let lease = c.in-Some-remove.lease in
    let outcome = c.in_ok-outcome.outcome in
    let there : get nat_cmp c.args.leases.now c.args.id ≡ Some lease = sym c.remove.ensures.value
    ∙ c.in-Some-remove.is in
    let own = lease_found t c.args.seat c.args.id _ lease there
    (c.requires.held c.args.id c.args.seat c.requires.allowed.is_out) in
    let fits : FitsSigned w128 c.args.low = search rules in
    let entered : c.put.new.self ≡ extended t
    (Put c.args.seat c.args.id c.args.found.now c.args.low c.args.step.now) =
    c.put.ensures.entry
    ∙ ap (extended t) (put_same c.args.seat lease.id c.args.id outcome c.args.found.now c.args.low
    c.args.step.now own.0 c.in_ok-outcome.ensures.found
    (c.in_ok-outcome.ensures.low ∙ to_z-of_z w128 c.args.low fits) c.in_ok-outcome.ensures.step) in
    put_again t c.put.new.self c.args.seat c.args.id c.args.found.now c.args.low c.args.step.now
    c.args.leases.now c.remove.new.self c.journal-journal.ensures.legal c.requires.held
    entered c.remove.ensures.updates
