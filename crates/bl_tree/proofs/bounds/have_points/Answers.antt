use Rattle.std.proofs.Common.{◌≡◌, ◌≤◌, ◌*◌, ℕ, List, length, arith, rules, ap, ◌∙◌, length-set}
use Rattle.std.specs.Prelude.{slice_set, slice_index_or, pos, ℤ, ◌+ℤ◌, FitsSigned}
use Rattle.std.specs.Int.{w64}
use Rattle.std.proofs.lemmas.Int.{to_z-of_z}
use Rattle.std.proofs.lemmas.List.{set-set, set-get_or}
use mir.Val.{to_z, of_z}
use Rattle.bl_mods.specs.Mods.{written}
use Rattle.bl_journal.specs.States.{has_point}
use Rattle.bl_mods.proofs.Relisting.{length-written}
use Rattle.bl_tree.proofs.bounds.have_points.Goals as goal

pub bounds-as_slice-column : goal.bounds-as_slice-column
bounds-as_slice-column c =
    let a = ap length c.apply_to-2.ensures
    ∙ length-written c.args.common.now.highs c.args.highs.now in
    let b = ap length c.as_slice.ensures in
    let h = c.requires.high in
    omega (arith, a, b, h)

pub set-requires : goal.set-requires
set-requires c =
    let a = ap length c.apply_to-2.ensures
    ∙ length-written c.args.common.now.highs c.args.highs.now in
    let h = c.requires.high in
    omega (arith, a, h)

pub set-requires-2 : goal.set-requires-2
set-requires-2 c =
    let a = ap length c.apply_to-2.ensures
    ∙ length-written c.args.common.now.highs c.args.highs.now in
    let b = ap length c.set.ensures ∙ length-set c.apply_to-2.new.list c.args.column _ in
    let h = c.requires.high in
    omega (arith, a, b, h)

pub set-requires-3 : goal.set-requires-3
set-requires-3 c =
    let a = ap length c.apply_to.ensures ∙ length-written c.args.common.now.lows c.args.lows.now in
    let h = c.requires.low in
    omega (arith, a, h)

pub returns-clause-right : goal.returns-clause-right
returns-clause-right c =
    let fit : FitsSigned w64 c.args.at = search rules in
    let same : to_z w64 (of_z w64 c.args.at) ≡ c.args.at = to_z-of_z w64 _ fit in
    let fit_high : FitsSigned w64 (slice_index_or c.as_slice.result.now c.args.column (pos 0)) =
    search rules in
    let fit_next : FitsSigned w64 (c.args.at +ℤ pos 1) = search rules in
    let lows = c.as_slice-4.ensures ∙ (c.set-3.ensures
    ∙ (ap (λ (z : ℤ). slice_set c.apply_to.new.list c.args.column
    (to_z w64 (of_z w64 (z +ℤ pos 1)))) same
    ∙ (ap (λ (z : ℤ). slice_set c.apply_to.new.list c.args.column z) (to_z-of_z w64 _ fit_next)
    ∙ ap (λ (l : List ℤ). slice_set l c.args.column (c.args.at +ℤ pos 1)) c.apply_to.ensures))) in
    let highs = c.as_slice-5.ensures ∙ (c.set-2.ensures
    ∙ (ap (λ (z : ℤ). slice_set c.set.new.self c.args.column z) (to_z-of_z w64 _ fit_high)
    ∙ (ap (λ (l : List ℤ). slice_set c.set.new.self c.args.column
    (slice_index_or l c.args.column (pos 0))) c.as_slice.ensures
    ∙ (ap (λ (l : List ℤ). slice_set l c.args.column
    (slice_index_or c.apply_to-2.new.list c.args.column (pos 0))) c.set.ensures
    ∙ (restored c.apply_to-2.new.list c.args.column (to_z w64 (of_z w64 c.args.at))
    ∙ c.apply_to-2.ensures))))) in
    c.has_point-right.ensures ∙ (ap (λ (l : List ℤ). has_point l c.as_slice-5.result.now) lows
    ∙ ap (has_point (slice_set (written c.args.common.now.lows c.args.lows.now) c.args.column
    (c.args.at +ℤ pos 1))) highs)
  where
    restored : (list : List ℤ) (i : ℕ) (z : ℤ)
        → slice_set (slice_set list i z) i (slice_index_or list i (pos 0)) ≡ list
    restored list i z = set-set list i z (slice_index_or list i (pos 0)) ∙ set-get_or list i (pos 0)

pub returns-clause-lows : goal.returns-clause-lows
returns-clause-lows c =
    ap length c.set-3.ensures ∙ (length-set c.apply_to.new.list c.args.column _
    ∙ (ap length c.apply_to.ensures ∙ length-written c.args.common.now.lows c.args.lows.now))

pub returns-clause-highs : goal.returns-clause-highs
returns-clause-highs c =
    ap length c.set-2.ensures
    ∙ (length-set c.set.new.self c.args.column _ ∙ (ap length c.set.ensures
    ∙ (length-set c.apply_to-2.new.list c.args.column _
    ∙ (ap length c.apply_to-2.ensures
    ∙ length-written c.args.common.now.highs c.args.highs.now))))

pub offset_bounds-as_slice-column : goal.offset_bounds-as_slice-column
offset_bounds-as_slice-column c =
    let few : length c.as_slice.result.now * 8 ≤ 9223372036854775807 = search rules in
    let a = ap length c.apply_to-2.ensures
    ∙ length-written c.args.common.now.highs c.args.highs.now in
    let b = ap length c.as_slice.ensures in
    let h = c.requires.high in
    omega (arith, few, a, b, h)
