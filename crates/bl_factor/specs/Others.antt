-- The entries beside a pivot as they are kept, some as numbers of 64 bits.
use Rattle.std.specs.Prelude.{ℤ, List, map}
use Rattle.bl_fixed.specs.declared.Fixed.{Fixed}
use Rattle.bl_factor.specs.declared.sparse.Entry.{Entry}
use Rattle.bl_factor.specs.declared.others.NarrowEntry.{NarrowEntry}
use Rattle.bl_factor.specs.declared.others.Others.{Others}
use Rattle.bl_factor.specs.declared.others.Others.TheVariants.{Narrow, Wide}

abbrev pub narrow_number : ℤ → Fixed
narrow_number raw = record { raw = raw }

abbrev pub widened : NarrowEntry → Entry
widened e = record { place = e.place; value = narrow_number e.raw }

abbrev pub listed : Others → List Entry
listed (Narrow es) = map widened es.items
listed (Wide es) = es.items
