use Rattle.std.proofs.Common.{◌≡◌, ◌<◌, ℕ, ℤ, pos, List, length, All, Option, sym, ◌∙◌, ap, arith}
use Rattle.std.proofs.Common.{rules, true}
use Rattle.std.specs.Int.{w64}
use Rattle.std.proofs.lemmas.Int.{to_z-of_z}
use Rattle.std.proofs.lemmas.Grind.{common_steps}
use Rattle.std.proofs.lemmas.List.{length-map}
use Rattle.bl_num.specs.Checked.{checked_sum}
use Rattle.bl_problem.specs.Program.{Program}
use Rattle.bl_problem.specs.Points.{IsFeasible, lows_of, highs_of, own_lows}
use Rattle.bl_problem.specs.Cuts.{SuitsProblem, MeetsCut}
use Rattle.bl_problem.specs.declared.cut.Cut.{Cut}
use Rattle.bl_problem.specs.declared.problem.Column.{Column}
use Rattle.bl_problem.proofs.Boxes.{box-entry, box-width}
use Rattle.bl_bound.specs.Lines.{Line, lines_of}
use Rattle.bl_bound.specs.Bounds.{sum_at}
use Rattle.bl_bound.proofs.LineLemmas.{length-lines_of}
use Rattle.bl_bound.proofs.Columns.{some-settled}
use Rattle.bl_cuts.specs.Derivations.{given, points_at_ends, right_of, rounded, weighted_sum}
use Rattle.bl_cuts.specs.Answers.{derived_of, cut_within}
use Rattle.bl_cuts.proofs.Law.{derived, cut_of-holds}
use Rattle.bl_cuts.proofs.Same.{stated, moved, if_answered, lines_terms, lines_meet}
use Rattle.bl_cuts.proofs.TermLemmas.{are_terms-below}
use Rattle.bl_cuts.proofs.derivation.derive.Goals as goal

pub add_lines-requires-clause-terms : goal.add_lines-requires-clause-terms
add_lines-requires-clause-terms c =
    let n : length c.put_zeros.new.sums ≡ length c.args.problem.now.columns = search rules in
    rw (n, c.rows-rows.ensures.rows) (lines_terms c.args.problem.now c.args.cuts.now
    c.columns-columns.ensures.program c.requires.suits)

pub add_lines-requires-clause-settled : goal.add_lines-requires-clause-settled
add_lines-requires-clause-settled c =
    λ j l. some-settled (sum_at c.put_zeros.new.sums j) (pos 0)
    (c.put_zeros.ensures.zeros j (search rules))

pub returns-clause-exact : goal.returns-clause-exact
returns-clause-exact c =
    let p : Program = c.args.problem.now in
    let lines : List Line = lines_of p.rows c.args.cuts.now in
    let w : List ℤ = c.args.weights.now in
    let z = to_z-of_z w64 c.args.q c.ranges.q in
    let n : length c.add_lines.new.sums ≡ length p.columns = c.add_lines.ensures.length
    ∙ search rules in
    let many : length w ≡ length lines = c.requires.weights
    ∙ sym (length-lines_of p.rows c.args.cuts.now) in
    let yes : c.points_at_ends.result ≡ true =
    first_of (search rules, grind (arith, common_steps)) in
    let points : points_at_ends (length w) lines w ≡ true =
    sym (rw c.rows-rows.ensures.rows at c.points_at_ends.ensures) ∙ yes in
    let ends = rw c.rows-rows.ensures.rows at c.ends_sum.ensures in
    let right = rw (z, c.columns-columns.ensures.columns) at c.right_side-right.ensures in
    let fin = rw z at c.finish.ensures in
    let sums = rw c.rows-rows.ensures.rows at c.add_lines.ensures.sums in
    let zero = λ (j : ℕ) (l : j < length p.columns). c.put_zeros.ensures.zeros j (search rules) in
    let e = stated c.args.id (length p.columns) (own_lows p) lines w c.args.q c.add_lines.new.sums
    c.right_side-right.result many points
    (λ j l. sums j (search rules)
    ∙ ap (λ (o : Option ℤ). checked_sum o (length w) (given lines w j)) (zero j l))
    (right ∙ ap (λ (o : Option ℤ). right_of (length p.columns) (sum_at c.add_lines.new.sums) o
    (own_lows p) c.args.q) ends) in
    moved c.finish.result (cut_within c.args.id (length c.add_lines.new.sums)
    (rounded (sum_at c.add_lines.new.sums) c.args.q) c.right_side-right.result)
    (derived_of p c.args.cuts.now w c.args.q c.args.id) fin
    (e ∙ ap (λ (k : ℕ). cut_within c.args.id k (rounded (sum_at c.add_lines.new.sums) c.args.q)
    c.right_side-right.result) (sym n))

pub returns-clause-suits : goal.returns-clause-suits
returns-clause-suits c =
    if_answered (SuitsProblem c.args.problem.now) c.finish.result
    (derived_of c.args.problem.now c.args.cuts.now c.args.weights.now c.args.q c.args.id)
    (returns-clause-exact c)
    (λ cut e.
    let d = derived c.args.id (length c.args.problem.now.columns) (own_lows c.args.problem.now)
    (lines_of c.args.problem.now.rows c.args.cuts.now) c.args.weights.now c.args.q cut e in
    record {
      terms = rw (ap (λ (x : Cut). x.terms) d.is) (are_terms-below
          (length c.args.problem.now.columns) (rounded
          (weighted_sum (lines_of c.args.problem.now.rows c.args.cuts.now) c.args.weights.now)
          c.args.q) d.small);
      right = d.near;
    })

pub returns-clause-holds : goal.returns-clause-holds
returns-clause-holds c =
    if_answered (λ (cut : Cut). (x : List ℤ) → IsFeasible c.args.problem.now x
    → All (MeetsCut x) c.args.cuts.now → MeetsCut x cut) c.finish.result
    (derived_of c.args.problem.now c.args.cuts.now c.args.weights.now c.args.q c.args.id)
    (returns-clause-exact c)
    (λ cut e x f m.
    let p : Program = c.args.problem.now in
    let lines : List Line = lines_of p.rows c.args.cuts.now in
    let d = derived c.args.id (length p.columns) (own_lows p) lines c.args.weights.now c.args.q
    cut e in
    let w = box-width (lows_of p.columns) (highs_of p.columns) x f.box in
    let n = length-map p.columns (λ (k : Column). k.low) in
    rw (ap (λ (k : Cut). k.terms) d.is) (cut_of-holds (length p.columns) (own_lows p) lines
    c.args.weights.now x c.args.q cut.right c.requires.counted
    (λ j l. (box-entry (lows_of p.columns) (highs_of p.columns) x j f.box
    (omega (arith, l, w.lows, n))).0)
    (lines_terms p c.args.cuts.now c.columns-columns.ensures.program c.requires.suits)
    (lines_meet p c.args.cuts.now x f m) d.exists))
