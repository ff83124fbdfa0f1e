use Rattle.std.proofs.Common.{◌<◌, length, refl, ◌∙◌, arith}
use Rattle.bl_mods.proofs.Writing.{written_more, below_set}
use Rattle.bl_mods.proofs.mods.FieldMods.apply.Goals as goal

pub loop-m-preserved : goal.loop-m-preserved
loop-m-preserved g c =
    let h : c.loop-m.m-index < length c.as_slice-m-items.result.now = omega arith in
    record {
      rest = written_more c.as_slice-m-items.result.now c.loop-m.m-index c.m-item.result
          c.loop-m.list h c.m-item.is ∙ c.loop-m.invariant.rest;
      fits = below_set c.as_slice-m-items.result.now c.loop-m.list _ c.m-item.result.place
          c.m-item.result.entry refl c.loop-m.invariant.fits;
    }
