use Rattle.std.proofs.Common.{◌≡◌, ◌∙◌, ◌++◌, ◌∷◌, [], ap, subst, length, take, ℕ, false, inl, inr}
use Rattle.std.proofs.lemmas.List.{length-set}
use Rattle.std.proofs.lemmas.List.Edits.{length-swap}
use Rattle.std.proofs.lemmas.List.Elements.{All-push, All-same}
use Rattle.bl_factor.specs.Etas.{IsEta}
use Rattle.bl_factor.proofs.SupportLemmas.{rising-below}
use Rattle.bl_factor.proofs.anew.Reduction.close_open.Goals as goal

pub pivot_row-requires-clause-rows : goal.pivot_row-requires-clause-rows
pivot_row-requires-clause-rows c =
    rising-below 0 (length c.drop_noise.new.column)
    (take c.support_of-counts.result.flagged c.support_of-counts.new.flagged)
    c.support_of-counts.ensures.flagged

pub returns : goal.returns
returns c =
    let n = length c.args.columns.now in
    let r = c.args.self.now in
    let place = c.args.place in
    let row = c.in-Some.row in
    let lower = c.in_ok-lower.lower in
    let upper = c.in_ok-upper.upper in
    let size : length c.swap.new.self ≡ n =
    ap length c.swap.ensures.after ∙ length-swap c.drop_noise.new.column place row
    ∙ c.drop_noise.auto.column ∙ c.leave_image.auto.image ∙ c.requires.long in
    let lower_in = subst (λ (j : ℕ). IsEta j lower) size c.in_ok-lower.ensures in
    let upper_in = subst (λ (j : ℕ). IsEta j upper) size c.in_ok-upper.ensures in
    record {
      flagged = length-set r.is_open.items place false ∙ c.requires.reduces.flagged;
      ranked = ap length c.swap-2.ensures.items ∙ length-swap r.order.ranks.items place row
          ∙ c.requires.reduces.ranked;
      lower = All-same (IsEta n) c.push.new.self.items (r.lower.items ++ lower ∷ [])
          c.in_ok-push.ensures.items
          (All-push (IsEta n) r.lower.items lower c.requires.reduces.lower lower_in);
      upper = elim c.in_ok-push_unless_unit.ensures [
        | inl e ↦ All-same (IsEta n) c.push_unless_unit.new.etas.items
            (r.upper.items ++ upper ∷ []) e
            (All-push (IsEta n) r.upper.items upper c.requires.reduces.upper upper_in)
        | inr e ↦ All-same (IsEta n) c.push_unless_unit.new.etas.items r.upper.items e
            c.requires.reduces.upper
      ];
    }
