use Rattle.std.proofs.Common.{◌≡◌, ◌≤◌, ◌-◌, ◌++◌, ℕ, List, length, take, drop, ap, sym, ◌∙◌}
use Rattle.std.proofs.Common.{subst, arith}
use Rattle.std.proofs.lemmas.List.{take_all, length-drop}
use Rattle.bl_mods.specs.Mods.{kept_from}
use Rattle.bl_mods.specs.Rising.{IsRising}
use Rattle.bl_mods.proofs.InTurn.{most_places, split_below, rising_below, relisted_parts}
use Rattle.bl_mods.proofs.in_turn.relist_in_turn.Goals as goal

pub overflow_sub-kept : goal.overflow_sub-kept
overflow_sub-kept g c =
    let same = ap length c.as_slice-dropped.ensures.places in
    let most = most_places 0 c.args.count c.args.first.now.dropped
    c.as_slice-dropped.ensures.rising c.requires.within (omega arith) in
    omega (arith, same, most)

pub drop_in_turn-requires-clause-later : goal.drop_in_turn-requires-clause-later
drop_in_turn-requires-clause-later g c =
    let later = c.as_slice-later_dropped.result.now in
    let kept : ℕ = c.args.count - length c.as_slice-dropped.result.now in
    let rises : IsRising c.as_slice-later_dropped.result.now =
    subst (λ (l : List ℕ). IsRising l) (sym c.as_slice-later_dropped.ensures.places)
    c.as_slice-later_dropped.ensures.rising in
    subst (λ (l : List ℕ). IsRising l) (split_below kept c.count_below-split.result later
    c.count_below-split.ensures.below c.count_below-split.ensures.behind)
    (rising_below kept 0 later rises)

pub returns-clause-exact : goal.returns-clause-exact
returns-clause-exact g c =
    let kept : ℕ = c.args.count - length c.as_slice-dropped.result.now in
    let split = c.count_below-split.result in
    let long : length (drop split c.as_slice-later_dropped.result.now)
    ≤ length c.as_slice-later_dropped.result.now - split =
    (let e = length-drop split c.as_slice-later_dropped.result.now in omega (arith, e)) in
    let rest : take (length c.as_slice-later_dropped.result.now - split)
    (drop split c.as_slice-later_dropped.result.now)
    ≡ drop split c.as_slice-later_dropped.result.now =
    take_all (length c.as_slice-later_dropped.result.now - split)
    (drop split c.as_slice-later_dropped.result.now) long in
    let adds : c.extend.new.self ≡ kept_from kept (drop split c.as_slice-later_dropped.result.now)
    c.args.first.now.added ++ c.args.later.now.added =
    c.in_ok-extend.ensures
    ∙ (ap (λ (l : List g.row.C.Denot). c.in_ok-added.added ++ l) c.as_slice-2.ensures
    ∙ ap (λ (l : List g.row.C.Denot). l ++ c.args.later.now.added)
    (c.in_ok-added.ensures
    ∙ (ap (λ (ps : List ℕ). kept_from kept ps c.as_slice.result.now) rest
    ∙ ap (kept_from kept (drop split c.as_slice-later_dropped.result.now))
    c.as_slice.ensures))) in
    relisted_parts c.args.count split c.args.first.now c.args.later.now
    c.as_slice-dropped.result.now c.as_slice-later_dropped.result.now
    c.in_ok-drop_in_turn.field-0 c.extend.new.self
    c.as_slice-dropped.ensures.places c.as_slice-later_dropped.ensures.places
    c.count_below-split.ensures.below c.count_below-split.ensures.behind
    c.in_ok-drop_in_turn.ensures adds
