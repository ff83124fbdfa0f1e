use Rattle.std.proofs.Common.{arith, refl, sym}
use Rattle.std.proofs.lemmas.Int.{ints}
use Rattle.std.proofs.lemmas.Bool.{false≢true}
use Rattle.bl_problem.specs.Points.{InBox}
use Rattle.bl_problem.proofs.Boxes.{box-entry, box-from}
use Rattle.bl_heur.proofs.narrowing.is_inside.Goals as goal
use Rattle.bl_heur.proofs.narrowing.is_inside.Goals.{then-point-j-via-then-point-j}
use Rattle.bl_heur.proofs.narrowing.is_inside.Goals.{then-point-j-via-else-point-j+then-highs-j}

pub returns-then-point-j : goal.returns-then-point-j
returns-then-point-j c = (λ f. absurd (false≢true f), λ b. absurd (outside b))
  where
    outside : InBox c.args.lows.now c.args.highs.now c.args.point.now → ⊥
    outside b =
        let j = c.loop-j.j in
        let e = box-entry c.args.lows.now c.args.highs.now c.args.point.now j b
        (omega (arith, c.requires.width, c.loop-j-test.true)) in
        elim c.then-point-j.branch [
          | then-point-j-via-then-point-j w ↦ omega (arith, ints, e.0, w.if-point-j.true)
          | then-point-j-via-else-point-j+then-highs-j w ↦ omega
              (arith, ints, e.1, w.if-highs-j.true)
        ]

pub returns : goal.returns
returns c = (λ t. inside, λ b. refl)
  where
    inside : InBox c.args.lows.now c.args.highs.now c.args.point.now
    inside = box-from c.args.lows.now c.args.highs.now c.args.point.now
        (record {
          lows = sym c.requires.width;
          highs =
              omega (arith, c.requires.width, c.requires.highs);
        })
        (λ k l. c.loop-j.invariant k (omega (arith, l, c.requires.width, c.loop-j-test.false)))
