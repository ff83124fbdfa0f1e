use Rattle.std.proofs.Common.{◌≡◌, ℤ, ◌+ℤ◌, ◌*ℤ◌, List, length, rules, FitsSigned, ap, ◌∙◌}
use Rattle.std.specs.Int.{w128, int_min}
use Rattle.std.proofs.lemmas.Int.{to_z-of_z}
use Rattle.bl_num.specs.Exact.{at, sum_below}
use Rattle.bl_problem.specs.Program.{Program}
use Rattle.bl_problem.specs.Points.{trivial_bound_of, costs_of}
use Rattle.bl_problem.specs.declared.problem.Column.{Column}
use Rattle.bl_problem.proofs.Trivial.{trivial_bound-below}
use Rattle.bl_problem.proofs.problem.Problem.trivial_bound.Goals as goal

pub returns-clause-below : goal.returns-clause-below
returns-clause-below c = λ x b.
    let t = trivial_bound-below c.args.self.now c.args.lows.now c.args.highs.now x b in
    let f : FitsSigned w128 c.least_sum.result = search rules in
    let g : FitsSigned w128 c.self.inside.offset = search rules in
    let e0 = simp (to_z-of_z) at c.least_sum.ensures in
    let sum : List Column → ℤ =
    λ cs. sum_below (length cs) (λ j. int_min (at (costs_of cs) j *ℤ at c.args.lows.now j)
    (at (costs_of cs) j *ℤ at c.args.highs.now j)) in
    let e : c.least_sum.result ≡ trivial_bound_of c.args.self.now c.args.lows.now c.args.highs.now =
    e0 ∙ (ap (λ (cs : List Column). c.self.inside.offset +ℤ sum cs) c.columns.ensures.columns
    ∙ ap (λ (p : Program). p.offset +ℤ sum c.args.self.now.columns) c.self.view_is) in
    rw (to_z-of_z w128 c.least_sum.result f, e) t
