-- What a feasible point of a box is.
use Rattle.std.proofs.Common.{◌^◌, ℤ, pos, List, All, arith, sym, ◌∙◌}
use Rattle.std.proofs.lemmas.Int.{ints}
use Rattle.bl_num.proofs.SumLemmas.{at-any}
use Rattle.bl_problem.specs.Sums.{IsWithin}
use Rattle.bl_problem.specs.Program.{Program}
use Rattle.bl_problem.specs.Points.{InBox, IsFeasible}
use Rattle.bl_problem.specs.declared.cut.Cut.{Cut}
use Rattle.bl_problem.proofs.Boxes.{box-width, box-entry}
use Rattle.bl_desc.specs.declared.desc.Desc.{Desc}
use Rattle.bl_bound.specs.Descriptions.{Describes}
use Rattle.bl_heur.specs.Found.{IsFound}

-- the entries of a point in a box within the limits are within them
pub near-in : (lows highs x : List ℤ) → All (IsWithin (10 ^ 9)) lows
    → All (IsWithin (10 ^ 9)) highs → InBox lows highs x → All (IsWithin (10 ^ 9)) x
near-in lows highs x p q b = λ k d l.
    let w = box-width lows highs x b in
    let e = box-entry lows highs x k b l in
    let m = p k (pos 0) (rw w.lows l) in
    let n = q k (pos 0) (rw w.highs l) in
    rw (at-any x k d l) (omega (arith, ints, e.0, e.1, m, n))

pub found : (p : Program) (d : Desc Cut) (x : List ℤ) → Describes p d → IsFeasible p x
    → InBox d.lows d.highs x → IsFound p d x
found p d x s f b = record {
  feasible = f;
  box = b;
  width = sym (box-width d.lows d.highs x b).lows ∙ s.lows;
  near = near-in d.lows d.highs x s.near_lows s.near_highs b;
}
