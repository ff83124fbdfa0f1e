use Rattle.std.proofs.Common.{◌≡◌, length, arith, ap, sym, ◌∙◌}
use Rattle.bl_desc.proofs.Canonical.{length-cut_status_after}
use Rattle.bl_desc.proofs.change.differing.Goals as goal

pub status_diff-requires-3-clause-same_length : goal.status_diff-requires-3-clause-same_length
status_diff-requires-3-clause-same_length g c =
    ap length c.in_ok-left.ensures
    ∙ (length-cut_status_after c.in_ok-cuts.cuts c.as_slice.result.now
    c.args.parent.now.cut_status (c.requires.parent.cuts ∙ sym (ap length c.as_slice.ensures))
    ∙ (ap length c.in_ok-cuts.ensures.applied
    ∙ (ap length c.as_slice-2.ensures ∙ sym c.requires.child.cuts)))

pub status_diff-requires-3-clause-short : goal.status_diff-requires-3-clause-short
status_diff-requires-3-clause-short g c =
    let len : length c.in_ok-left.left ≡ length c.args.child.now.cut_status =
    ap length c.in_ok-left.ensures
    ∙ (length-cut_status_after c.in_ok-cuts.cuts c.as_slice.result.now
    c.args.parent.now.cut_status (c.requires.parent.cuts ∙ sym (ap length c.as_slice.ensures))
    ∙ (ap length c.in_ok-cuts.ensures.applied
    ∙ (ap length c.as_slice-2.ensures ∙ sym c.requires.child.cuts))) in
    omega (arith, len, c.requires.child.cuts, c.requires.short_child)
