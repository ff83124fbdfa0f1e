use Rattle.std.proofs.Common.{◌≡◌, ◌+◌, ℤ, Some, sym, ◌∙◌, ap, length, List, FitsSigned, rules}
use Rattle.std.proofs.Common.{to_z, of_z}
use Rattle.std.specs.Prelude.{option_map}
use Rattle.std.specs.Int.{w64}
use Rattle.std.proofs.lemmas.Int.{to_z-of_z}
use Rattle.bl_cuts.specs.Separations.{is_broken, raws_of, pick_of, alone}
use Rattle.bl_cuts.proofs.FirstCandidate.{is_candidate, candidate-width, candidate-counted}
use Rattle.bl_cuts.proofs.Separating.{rows-found}
use Rattle.bl_cuts.proofs.separation.separate.Goals as goal

pub returns-in-Some : goal.returns-in-Some
returns-in-Some c =
    let p = c.args.problem.now in
    let cuts = c.args.desc.now.cuts in
    let broken = is_broken p cuts (raws_of c.args.point.now) in
    let found =
    rw c.in-Some.is at (c.in_ok-candidate.ensures.exact cuts (raws_of c.args.point.now)
    c.in_ok-split.ensures.split) in
    let l = rw c.rows-row-end.ensures.rows at c.loop-row-test.true in
    let f = rows-found broken p.rows c.loop-row.row (length p.rows) c.in-Some.candidate
    c.loop-row.invariant (sym found) l in
    let n = length p.rows + length cuts in
    let w : c.in_ok-weights.weights ≡ alone n c.in-Some.candidate.row c.in-Some.candidate.weight =
    rw (c.rows.ensures.rows, c.len.ensures) at c.in_ok-weights.ensures in
    let s : FitsSigned w64 c.in-Some.candidate.q = search rules in
    let e : Some (record {
      weights = c.in_ok-weights.weights;
      q =
          to_z w64 (of_z w64 c.in-Some.candidate.q);
    }) ≡ Some (pick_of n c.in-Some.candidate) =
    sym (ap (λ (x : List ℤ). Some (record { weights = x; q = c.in-Some.candidate.q })) (sym w)
    ∙ ap (λ (q : ℤ). Some (record { weights = c.in_ok-weights.weights; q = q }))
    (sym (to_z-of_z w64 c.in-Some.candidate.q s))) in
    let k : record {
      weights = c.in_ok-weights.weights;
      q =
          to_z w64 (of_z w64 c.in-Some.candidate.q);
    } ≡ pick_of n c.in-Some.candidate = cc (e) in
    let is = is_candidate p cuts broken c.in-Some.candidate
    (record {
      weights = c.in_ok-weights.weights;
      q =
          to_z w64 (of_z w64 c.in-Some.candidate.q);
    }) f k in
    record {
      exact = e ∙ sym (ap (option_map (pick_of n)) f);
      candidate = is;
      width = candidate-width p cuts (record {
        weights = c.in_ok-weights.weights;
        q =
            to_z w64 (of_z w64 c.in-Some.candidate.q);
      }) is;
      counted = candidate-counted p cuts
          (record {
            weights = c.in_ok-weights.weights;
            q =
                to_z w64 (of_z w64 c.in-Some.candidate.q);
          }) is;
    }
