use Rattle.std.proofs.Common.{◌≡◌, ◌<◌, ◌+◌, List, ◌∷◌, length, drop, ap, sym, subst, ◌∙◌, arith}
use Rattle.bl_desc.specs.declared.desc.Desc.{Desc}
use Rattle.bl_desc.specs.declared.change.Change.{Change}
use Rattle.bl_desc.specs.Changes.{IsWhole, changed}
use Rattle.bl_rebuild.specs.Chains.{present, described, FitInOrder}
use Rattle.bl_rebuild.proofs.Chaining.{present_more, IsWhole-changed}
use Rattle.bl_rebuild.proofs.chain.rebuild.Goals as goal

pub loop-piece-preserved : goal.loop-piece-preserved
loop-piece-preserved g c =
    let h : c.loop-piece.piece-index < length c.as_slice-piece-items.result.now = omega arith in
    let step : present (drop c.loop-piece.piece-index c.as_slice-piece-items.result.now)
    ≡ c.in-Some.change ∷ present
    (drop (c.loop-piece.piece-index + 1) c.as_slice-piece-items.result.now) =
    present_more c.as_slice-piece-items.result.now c.loop-piece.piece-index c.in-Some.change
    c.piece-item.result h c.piece-item.is c.in-Some.is in
    let new : c.apply.new.desc ≡ changed c.in-Some.change c.loop-piece.desc =
    c.in_ok-apply.ensures.ok ∙ ap (λ (m : Change g.row.C.Denot). changed m c.loop-piece.desc)
    c.get-in-loop-piece.ensures in
    record {
      rest = ap
          (described
          (present (drop (c.loop-piece.piece-index + 1) c.as_slice-piece-items.result.now))) new
          ∙ (sym (ap (λ (l : List (Change g.row.C.Denot)). described l c.loop-piece.desc) step)
          ∙ c.loop-piece.invariant.rest);
      fits = subst (λ (d : Desc g.row.C.Denot). FitInOrder
          (present (drop (c.loop-piece.piece-index + 1) c.as_slice-piece-items.result.now)) d)
          (sym new)
          (subst (λ (l : List (Change g.row.C.Denot)). FitInOrder l c.loop-piece.desc) step
          c.loop-piece.invariant.fits).1;
      whole = subst (λ (d : Desc g.row.C.Denot). IsWhole d) (sym new)
          (IsWhole-changed c.in-Some.change c.loop-piece.desc c.loop-piece.invariant.whole);
    }
