use Rattle.std.proofs.Common.{◌≡◌, refl, sym, ap, ◌∙◌, subst, Some, inl, inr}
use Rattle.std.proofs.lemmas.Bool.{false≢true}
use Rattle.bl_problem.specs.Points.{IsFeasible}
use Rattle.bl_heur.specs.Rounded.{rounded_of}
use Rattle.bl_heur.proofs.Inside.{rounded-inside}
use Rattle.bl_heur.proofs.Feasible.{found}
use Rattle.bl_heur.proofs.rounding.round_point.Goals as goal

pub returns-then-is_feasible : goal.returns-then-is_feasible
returns-then-is_feasible c =
    let e : c.in_ok-entries.entries ≡ rounded_of c.args.desc.now c.args.point.now =
    rw (c.as_slice.ensures, c.as_slice-2.ensures) at c.in_ok-entries.ensures in
    let f = rw c.as_slice-3.ensures at (c.if-is_feasible.ensures.0 refl) in
    record {
      exact = inl (ap Some e, subst (IsFeasible c.args.problem.now) e f);
      found = found c.args.problem.now c.args.desc.now c.in_ok-entries.entries c.requires.suits f
          (rw e (rounded-inside c.args.desc.now.lows c.args.desc.now.highs c.args.point.now
          (c.requires.suits.highs ∙ sym c.requires.suits.lows) c.requires.some));
    }

pub returns-else-is_feasible : goal.returns-else-is_feasible
returns-else-is_feasible c =
    let e : c.in_ok-entries.entries ≡ rounded_of c.args.desc.now c.args.point.now =
    rw (c.as_slice.ensures, c.as_slice-2.ensures) at c.in_ok-entries.ensures in
    record {
      exact = inr (
        refl,
        λ g. false≢true (c.if-is_feasible.ensures.1
            (rw c.as_slice-3.ensures (subst (IsFeasible c.args.problem.now) (sym e) g))),
      );
      found = tt;
    }
