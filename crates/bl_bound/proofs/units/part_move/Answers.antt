use Rattle.std.proofs.Common.{◌≡◌, ◌^◌, ◌*◌, ◌-ℤ◌, arith, FitsSigned}
use Rattle.std.proofs.lemmas.Int.{ints, to_z-of_z}
use Rattle.std.specs.Int.{w64}
use Rattle.bl_problem.specs.Sums.{IsWithin}
use Rattle.bl_bound.specs.Units.{least_of}
use Rattle.bl_bound.proofs.UnitSums.{least_is}
use Rattle.bl_bound.proofs.units.part_move.Goals as goal
use Rattle.bl_bound.proofs.units.part_move.Goals.{After-least-2}

-- both parts: they are exact, and small
after : (c : After-least-2) → (c.least.result ≡ least_of (c.args.cost -ℤ c.args.step) c.args.low
    c.args.high) × (IsWithin (2 * 10 ^ 24) c.least.result
    × ((c.least-2.result ≡ least_of c.args.cost c.args.low c.args.high)
    × IsWithin (10 ^ 24) c.least-2.result))
after c =
    let f : FitsSigned w64 c.args.cost = c.ranges.cost in
    let g : FitsSigned w64 c.args.step = c.ranges.step in
    let h : FitsSigned w64 (c.args.cost -ℤ c.args.step) = omega (arith, ints) in
    let e = simp to_z-of_z at c.least.ensures in
    let k = least_is c.least.result (c.args.cost -ℤ c.args.step) c.args.low c.args.high
    (2 * 10 ^ 15) (simp to_z-of_z e) (omega arith) (omega (arith, ints)) c.requires.low
    c.requires.high in
    let l = least_is c.least-2.result c.args.cost c.args.low c.args.high (10 ^ 15)
    c.least-2.ensures (omega arith) c.requires.cost c.requires.low c.requires.high in
    (k.0, (k.1, (l.0, l.1)))

pub overflow_sub-result : goal.overflow_sub-result
overflow_sub-result c = let p = after c in omega (arith, ints, p.1.0, p.1.1.1)

pub returns-clause-exact : goal.returns-clause-exact
returns-clause-exact c = let p = after c in omega (arith, ints, p.0, p.1.0, p.1.1.0, p.1.1.1)

pub returns-clause-near : goal.returns-clause-near
returns-clause-near c = let p = after c in omega (arith, ints, p.1.0, p.1.1.1)
