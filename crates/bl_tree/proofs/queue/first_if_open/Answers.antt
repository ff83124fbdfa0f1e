use Rattle.std.proofs.Common.{◌≡◌, ap, sym, ◌∙◌, rules, ℤ, false}
use Rattle.std.specs.Prelude.{FitsSigned}
use Rattle.std.specs.Int.{w128}
use Rattle.std.proofs.lemmas.Int.{to_z-of_z}
use Rattle.bl_journal.specs.States.{is_below}
use Rattle.bl_tree.proofs.Least.{all_past}
use Rattle.bl_tree.proofs.queue.first_if_open.Goals as goal

pub returns-else-is_below-clause-none : goal.returns-else-is_below-clause-none
returns-else-is_below-clause-none c =
    let fit : FitsSigned w128 c.in_ok-key.key.low = search rules in
    let low : is_below c.in_ok-key.key.low c.args.cutoff ≡ false =
    ap (λ (z : ℤ). is_below z c.args.cutoff) (sym (to_z-of_z w128 _ fit))
    ∙ (sym c.is_below.ensures ∙ c.if-is_below.false) in
    λ none best. all_past c.args.cutoff c.args.pool.now c.in_ok-key.key best
    c.in_ok-key.ensures.some low
