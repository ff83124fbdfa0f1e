use Rattle.std.proofs.Common.{◌≡◌, ◌<◌, ◌≤◌, ◌+◌, ℕ, List, ◌∷◌, length, drop, refl, ap, sym}
use Rattle.std.proofs.Common.{subst, ◌∙◌, arith}
use Rattle.std.proofs.lemmas.List.{drop_all}
use Rattle.bl_problem.specs.declared.cut.Cut.{Cut}
use Rattle.bl_mods.specs.Mods.{written}
use Rattle.bl_mods.proofs.Relisting.{length-written}
use Rattle.bl_desc.specs.declared.desc.Desc.{Desc}
use Rattle.bl_desc.specs.declared.change.Change.{Change}
use Rattle.bl_desc.specs.Changes.{AreBelow}
use Rattle.bl_rebuild.specs.Chains.{present}
use Rattle.bl_rebuild.proofs.Chaining.{present_more}
use Rattle.bl_tree.proofs.Boxes.{lows_after, highs_after, BoundsFit, lows_described}
use Rattle.bl_tree.proofs.Boxes.{highs_described, bounds_fit}
use Rattle.bl_tree.proofs.bounds.write_bounds.Goals as goal

pub loop-piece-init : goal.loop-piece-init
loop-piece-init c =
    let lows = c.overwrite.ensures
    ∙ (c.as_slice.ensures ∙ ap (λ (d : Desc Cut). d.lows) c.get-top.ensures) in
    let highs = c.overwrite-2.ensures
    ∙ (c.as_slice-2.ensures ∙ ap (λ (d : Desc Cut). d.highs) c.get-top.ensures) in
    record {
      lows = refl;
      highs = refl;
      fit = rw (c.as_slice-piece-items.ensures, lows, highs)
          (bounds_fit c.args.chain.now.changes c.args.chain.now.top c.requires.chain.fits);
    }

pub apply_to-requires : goal.apply_to-requires
apply_to-requires c =
    let h : c.loop-piece.piece-index < length c.as_slice-piece-items.result.now = omega arith in
    let step = present_more c.as_slice-piece-items.result.now c.loop-piece.piece-index
    c.in-Some.change c.piece-item.result h c.piece-item.is c.in-Some.is in
    let fit = subst (λ (l : List (Change Cut)). BoundsFit l (length c.loop-piece.lows)
    (length c.loop-piece.highs)) step c.loop-piece.invariant.fit in (
      omega arith,
      subst (λ (x : Change Cut). AreBelow (length c.loop-piece.lows) x.lows)
          (sym c.get.ensures) fit.0.0,
    )

pub apply_to-requires-in-loop-piece : goal.apply_to-requires-in-loop-piece
apply_to-requires-in-loop-piece c =
    let h : c.loop-piece.piece-index < length c.as_slice-piece-items.result.now = omega arith in
    let step = present_more c.as_slice-piece-items.result.now c.loop-piece.piece-index
    c.in-Some.change c.piece-item.result h c.piece-item.is c.in-Some.is in
    let fit = subst (λ (l : List (Change Cut)). BoundsFit l (length c.loop-piece.lows)
    (length c.loop-piece.highs)) step c.loop-piece.invariant.fit in (
      omega arith,
      subst (λ (x : Change Cut). AreBelow (length c.loop-piece.highs) x.highs)
          (sym c.get-in-loop-piece.ensures) fit.0.1,
    )

pub loop-piece-preserved : goal.loop-piece-preserved
loop-piece-preserved c =
    let h : c.loop-piece.piece-index < length c.as_slice-piece-items.result.now = omega arith in
    let rest : List (Change Cut) =
    present (drop (c.loop-piece.piece-index + 1) c.as_slice-piece-items.result.now) in
    let step : present (drop c.loop-piece.piece-index c.as_slice-piece-items.result.now)
    ≡ c.in-Some.change ∷ present
    (drop (c.loop-piece.piece-index + 1) c.as_slice-piece-items.result.now) =
    present_more c.as_slice-piece-items.result.now c.loop-piece.piece-index c.in-Some.change
    c.piece-item.result h c.piece-item.is c.in-Some.is in
    let fit = subst (λ (l : List (Change Cut)). BoundsFit l (length c.loop-piece.lows)
    (length c.loop-piece.highs)) step c.loop-piece.invariant.fit in
    let lows : c.apply_to.new.list ≡ written c.in-Some.change.lows c.loop-piece.lows =
    c.apply_to.ensures ∙ ap (λ (x : Change Cut). written x.lows c.loop-piece.lows) c.get.ensures in
    let highs : c.apply_to-in-loop-piece.new.list
    ≡ written c.in-Some.change.highs c.loop-piece.highs =
    c.apply_to-in-loop-piece.ensures ∙ ap (λ (x : Change Cut). written x.highs c.loop-piece.highs)
    c.get-in-loop-piece.ensures in
    let long = ap length lows ∙ length-written c.in-Some.change.lows c.loop-piece.lows in
    let long' = ap length highs ∙ length-written c.in-Some.change.highs c.loop-piece.highs in
    record {
      lows = ap (lows_after rest) lows
          ∙ (sym (ap (λ (l : List (Change Cut)). lows_after l c.loop-piece.lows) step)
          ∙ c.loop-piece.invariant.lows);
      highs = ap (highs_after rest) highs
          ∙ (sym (ap (λ (l : List (Change Cut)). highs_after l c.loop-piece.highs) step)
          ∙ c.loop-piece.invariant.highs);
      fit = subst (λ (n : ℕ). BoundsFit rest n (length c.apply_to-in-loop-piece.new.list))
          (sym long) (subst (λ (n : ℕ). BoundsFit rest (length c.loop-piece.lows) n) (sym long')
          fit.1);
    }

pub returns-clause-lows : goal.returns-clause-lows
returns-clause-lows c =
    let h : length c.as_slice-piece-items.result.now ≤ c.loop-piece.piece-index = omega arith in
    let lows = c.overwrite.ensures
    ∙ (c.as_slice.ensures ∙ ap (λ (d : Desc Cut). d.lows) c.get-top.ensures) in
    sym (ap (λ l. lows_after (present l) c.loop-piece.lows)
    (drop_all c.loop-piece.piece-index c.as_slice-piece-items.result.now h))
    ∙ (c.loop-piece.invariant.lows
    ∙ (ap (λ (l : List (Change Cut)). lows_after l c.overwrite.new.list)
    c.as_slice-piece-items.ensures
    ∙ (ap (lows_after c.args.chain.now.changes) lows ∙ lows_described c.args.chain.now.changes
    c.args.chain.now.top)))

pub returns-clause-highs : goal.returns-clause-highs
returns-clause-highs c =
    let h : length c.as_slice-piece-items.result.now ≤ c.loop-piece.piece-index = omega arith in
    let highs = c.overwrite-2.ensures
    ∙ (c.as_slice-2.ensures ∙ ap (λ (d : Desc Cut). d.highs) c.get-top.ensures) in
    sym (ap (λ l. highs_after (present l) c.loop-piece.highs)
    (drop_all c.loop-piece.piece-index c.as_slice-piece-items.result.now h))
    ∙ (c.loop-piece.invariant.highs
    ∙ (ap (λ (l : List (Change Cut)). highs_after l c.overwrite-2.new.list)
    c.as_slice-piece-items.ensures
    ∙ (ap (highs_after c.args.chain.now.changes) highs ∙ highs_described c.args.chain.now.changes
    c.args.chain.now.top)))
