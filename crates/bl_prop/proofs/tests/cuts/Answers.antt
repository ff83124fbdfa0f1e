use Rattle.std.proofs.Common.{[], ◌∷◌, arith}
use Rattle.std.proofs.lemmas.List.{length-append}
use Rattle.std.proofs.lemmas.List.Elements.{All-push}
use Rattle.bl_problem.specs.Cuts.{SuitsProblem}
use Rattle.bl_prop.proofs.tests.cuts.Goals as goal

pub loop-right-preserved : goal.loop-right-preserved
loop-right-preserved c =
    let e = c.in_ok-push.ensures.ok in
    let n = length-append c.loop-right.cuts (c.in_ok-cut.field-0 ∷ []) in
    let i = c.loop-right.invariant in
    record {
      count = rw e (omega (arith, n, i.count));
      suit = λ p w. rw e (All-push (SuitsProblem p) c.loop-right.cuts c.in_ok-cut.field-0
          (i.suit p w) (c.in_ok-cut.ensures p w));
    }
