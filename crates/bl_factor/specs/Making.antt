-- The state of a product in the making.
use Rattle.std.specs.Prelude.{◌≡◌, List, length, Option}
use Rattle.std.specs.Global.{Vec}
use Rattle.bl_factor.specs.declared.sparse.Entry.{Entry}
use Rattle.bl_factor.specs.declared.anew.Reduction.{Reduction}
use Rattle.bl_factor.specs.Etas.{AreEtas}

pub record Reduces (columns : List (Option (Vec Entry))) (r : Reduction) : Type 0 where
  pub flagged : length r.is_open.items ≡ length columns
  pub ranked : length r.order.ranks.items ≡ length columns
  pub lower : AreEtas (length columns) r.lower.items
  pub upper : AreEtas (length columns) r.upper.items
