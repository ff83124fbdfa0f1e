use Rattle.std.proofs.Common.{◌<◌, ◌+◌, length, drop, ap, ◌∙◌, arith}
use Rattle.bl_mods.specs.Mods.{written}
use Rattle.bl_mods.proofs.Writing.{written_more, below_set}
use Rattle.bl_mods.proofs.mods.FieldMods.apply_to.Goals as goal

pub loop-m-preserved : goal.loop-m-preserved
loop-m-preserved g c =
    let items = c.as_slice-m-items.result.now in
    let h : c.loop-m.m-index < length c.as_slice-m-items.result.now = omega arith in
    record {
      rest = ap (written (drop (c.loop-m.m-index + 1) c.as_slice-m-items.result.now)) c.set.ensures
          ∙ (written_more c.as_slice-m-items.result.now c.loop-m.m-index c.m-item.result
          c.loop-m.list h c.m-item.is ∙ c.loop-m.invariant.rest);
      fits = below_set c.as_slice-m-items.result.now c.loop-m.list c.set.new.self
          c.m-item.result.place c.m-item.result.entry c.set.ensures c.loop-m.invariant.fits;
    }
