use Rattle.std.proofs.Common.{◌≡◌, ◌<◌, ◌+◌, List, ◌++◌, length, ap, sym, ◌∙◌, arith, true, false}
use Rattle.bl_mods.specs.declared.mods.Mod.{Mod}
use Rattle.bl_mods.proofs.Diffing.{pushed_rest, all_push, all_weaker, diff_pushes, diff_passes}
use Rattle.bl_mods.proofs.mods.FieldMods.differing.Goals as goal

pub loop-at-preserved : goal.loop-at-preserved
loop-at-preserved g c =
    let h : c.loop-at.at < length c.args.old.now = omega arith in
    let k : c.loop-at.at < length c.args.new.now = omega arith in
    let no : g.T.PartialEq.eq c.index-old-at.result c.index-new-at.result ≡ false =
    sym c.eq.ensures ∙ c.if-eq.false in
    record {
      rest = pushed_rest _ _ _ _ _ _ c.in_ok-push.ensures.ok (diff_pushes g.T.PartialEq.eq
          c.loop-at.at c.args.old.now c.args.new.now c.index-old-at.result c.index-new-at.result h
          k c.index-old-at.is c.index-new-at.is no) c.loop-at.invariant.rest;
      below = all_push (λ (m : Mod g.row.T.Denot). m.place < c.loop-at.at + 1) c.loop-at.mods
          c.push.new.self _ c.in_ok-push.ensures.ok
          (all_weaker (λ (m : Mod g.row.T.Denot). m.place < c.loop-at.at)
          (λ (m : Mod g.row.T.Denot). m.place < c.loop-at.at + 1) c.loop-at.mods
          (λ m b. omega (arith, b)) c.loop-at.invariant.below) (omega arith);
    }

pub loop-at-preserved-then-eq : goal.loop-at-preserved-then-eq
loop-at-preserved-then-eq g c =
    let h : c.loop-at.at < length c.args.old.now = omega arith in
    let k : c.loop-at.at < length c.args.new.now = omega arith in
    let yes : g.T.PartialEq.eq c.index-old-at.result c.index-new-at.result ≡ true =
    sym c.eq.ensures ∙ c.if-eq.true in
    record {
      rest = ap (λ (l : List (Mod g.row.T.Denot)). c.loop-at.mods ++ l)
          (sym (diff_passes g.T.PartialEq.eq c.loop-at.at c.args.old.now c.args.new.now
          c.index-old-at.result c.index-new-at.result h k c.index-old-at.is c.index-new-at.is
          yes)) ∙ c.loop-at.invariant.rest;
      below = all_weaker (λ (m : Mod g.row.T.Denot). m.place < c.loop-at.at)
          (λ (m : Mod g.row.T.Denot). m.place < c.loop-at.at + 1) c.loop-at.mods
          (λ m b. omega (arith, b)) c.loop-at.invariant.below;
    }
