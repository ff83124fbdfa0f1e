-- The order of keys is total.
use Rattle.std.proofs.Common.{◌≡◌, true, false, arith}
use Rattle.std.proofs.lemmas.Bool.Decides.{nat_tests}
use Rattle.std.proofs.lemmas.Int.{ints}
use Rattle.bl_pool.specs.declared.key.Key.{Key}
use Rattle.bl_pool.specs.declared.key.Order.{Order}
use Rattle.bl_pool.specs.declared.key.Order.TheVariants.{Best, Depth}
use Rattle.bl_pool.specs.Orders.{before, low_before}

low_trans : (a b c : Key) → low_before b a ≡ false → low_before c b ≡ false → low_before c a ≡ false
low_trans a b c h k = grind (arith, ints, nat_tests, h, k)

low_back : (a b : Key) → low_before a b ≡ true → low_before b a ≡ false
low_back a b h = grind (arith, ints, nat_tests, h)

low_self : (a : Key) → low_before a a ≡ false
low_self a = grind (arith, ints, nat_tests)

pub trans : (o : Order) (a b c : Key) → before o b a ≡ false → before o c b ≡ false → before o c a
    ≡ false
trans Best a b c h k = low_trans a b c h k
trans Depth a b c h k = depth_trans a b c h k
  where
    depth_trans : (a b c : Key) → before Depth b a ≡ false → before Depth c b ≡ false
        → before Depth c a ≡ false
    depth_trans a b c h k = grind (arith, ints, nat_tests, h, k, low_trans a b c)

pub back : (o : Order) (a b : Key) → before o a b ≡ true → before o b a ≡ false
back Best a b h = low_back a b h
back Depth a b h = grind (arith, ints, nat_tests, h, low_back a b)

pub self : (o : Order) (a : Key) → before o a a ≡ false
self Best a = low_self a
self Depth a = grind (arith, ints, nat_tests, low_self a)

low_total : (a b : Key) → low_before a b ≡ false → (a.id ≡ b.id → ⊥) → low_before b a ≡ true
low_total a b h ne = grind (arith, ints, nat_tests, h, ne)

-- one of two different nodes comes before the other
pub total : (o : Order) (a b : Key) → before o a b ≡ false → (a.id ≡ b.id → ⊥) → before o b a ≡ true
total Best a b h ne = low_total a b h ne
total Depth a b h ne = grind (arith, ints, nat_tests, h, low_total a b, ne)
