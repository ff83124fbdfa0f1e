-- What contracts see of a pool.
use Rattle.std.specs.Prelude.{◌≡◌, ℕ, false, List, Option, Some, None, slice_index_or}
use Rattle.bl_pool.specs.declared.key.Key.{Key}
use Rattle.bl_pool.specs.declared.key.Order.{Order}
use Rattle.bl_pool.specs.Orders.{before}

pub record PoolView : Type 0 where
  pub order : Order
  -- by id, the keys that are held; the ids below its length fit
  pub keys : List (Option Key)
  -- how many more keys fit
  pub room : ℕ

-- the key of an id that is held
abbrev pub key_in : PoolView → ℕ → Option Key
key_in p id = slice_index_or p.keys id None

-- k is held, and no key that is held comes before it
pub record IsFirst (p : PoolView) (k : Key) : Type 0 where
  pub held : key_in p k.id ≡ Some k
  pub least : (id : ℕ) (other : Key) → key_in p id ≡ Some other → before p.order other k ≡ false
