-- The quotients rounded down and up are what the order singles out.
use Rattle.std.proofs.Common.{ℤ, pos, ◌*ℤ◌, ◌≤ℤ◌, arith}
use Rattle.std.proofs.lemmas.Int.{ints}
use Rattle.std.proofs.Math.IntN.{*ℤ_comm}
use Rattle.bl_num.specs.Exact.{floor_of, ceil_of}
use Rattle.bl_num.specs.Laws.{FloorIsGreatest, CeilingIsLeast}
use Rattle.bl_num.proofs.Ring.{*ℤ-le}
use Rattle.bl_num.proofs.Quotients.{floor-times, le_floor, le-ceil_times, ceil_le}

-- a factor that is at least 1 keeps an order
times-le : (p q b : ℤ) → pos 1 ≤ℤ b → p ≤ℤ q → (p *ℤ b) ≤ℤ (q *ℤ b)
times-le p q b h l = let m = *ℤ-le b p q (omega (arith, ints)) l in let e = *ℤ_comm b p in let f =
    *ℤ_comm b q in omega (arith, ints)

pub floor_is_greatest : FloorIsGreatest
floor_is_greatest a b q h = (
  le_floor q a b h,
  λ l. let m =
      times-le q (floor_of a b) b h l in let t = floor-times a b h in omega (arith, ints),
)

pub ceiling_is_least : CeilingIsLeast
ceiling_is_least a b q h = (
  ceil_le q a b h,
  λ l. let m =
      times-le (ceil_of a b) q b h l in let t = le-ceil_times a b h in omega (arith, ints),
)
