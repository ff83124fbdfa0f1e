use Rattle.std.proofs.Common.{All, List, arith, length, length-append, subst, sym, []}
use Rattle.std.proofs.Common.{◌++◌, ◌<◌, ◌∷◌, ◌≤◌}
use Rattle.std.proofs.lemmas.List.Elements.{All-append, All-cons, All-nil}
use Rattle.bl_problem.specs.Cuts.{SuitsProblem}
use Rattle.bl_problem.specs.declared.cut.Cut.{Cut}
use Rattle.bl_rows.proofs.cuts.add_halved.Goals as goal

few : (cuts : List Cut) (cut : Cut) → length cuts < 200 → length (cuts ++ cut ∷ []) ≤ 200
few cuts cut below = omega (arith, below, length-append cuts (cut ∷ []))

pub returns-clause-suits : goal.returns-clause-suits
returns-clause-suits c =
    let is = c.in_ok-push.ensures.ok in
    let now = c.args.desc.now.cuts in
    let suits = subst (SuitsProblem c.args.problem.now) (sym c.in_ok-new.ensures)
    c.in_ok-cut.ensures.suits in
    record {
      lows = c.requires.suits.lows;
      highs = c.requires.suits.highs;
      near_lows = c.requires.suits.near_lows;
      near_highs = c.requires.suits.near_highs;
      few_cuts = subst (λ (cuts : List Cut). length cuts ≤ 200) (sym is)
          (few now c.in_ok-new.field-0 c.requires.few);
      cuts = subst (All (SuitsProblem c.args.problem.now)) (sym is)
          (All-append (SuitsProblem c.args.problem.now) now (c.in_ok-new.field-0 ∷ [])
          c.requires.suits.cuts (All-cons (SuitsProblem c.args.problem.now) _ [] suits
          (All-nil (SuitsProblem c.args.problem.now))));
    }
