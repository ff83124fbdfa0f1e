use Rattle.std.proofs.Common.{◌≡◌, ◌+◌, ◌+ℤ◌, ◌≤ℤ◌, ℤ, ℕ, pos, suc, arith, false, length, sym, ◌∙◌}
use Rattle.std.proofs.lemmas.Int.{ints}
use Rattle.std.proofs.lemmas.List.Sums.{fold_more}
use Rattle.bl_problem.specs.Rows.{coefficient_of}
use Rattle.bl_cover.specs.Covers.{fits_at, listed_at}
use Rattle.bl_cover.proofs.Places.{coefficient-small, fit, fitting, unfit-low, unfit-coefficient}
use Rattle.bl_cover.proofs.Places.{unfit-bounds, misfit-more, misfit-found}
use Rattle.bl_cover.proofs.CoverLaw.{within}
use Rattle.bl_cover.proofs.knapsack.listed_sum.Goals as goal
use Rattle.bl_cover.proofs.knapsack.listed_sum.Goals.{then-column-above-via-then-column-above}
use Rattle.bl_cover.proofs.knapsack.listed_sum.Goals.{then-column-above-via-else-column-above+then-coefficient-le0}
use Rattle.bl_cover.proofs.knapsack.listed_sum.Goals.{then-column-above-via-else-column-above+else-coefficient-le0+then-not-is_binary}

unfit : (c : goal.Joined-then-column-above) → fits_at c.args.columns.now c.args.terms.now
    c.args.listed.now c.loop-place.place ≡ false
unfit c = elim c.then-column-above.branch [
  | then-column-above-via-then-column-above w ↦ unfit-low c.args.columns.now c.args.terms.now
      c.args.listed.now c.loop-place.place
      (omega (arith, c.loop-place.invariant.above, w.if-column-above.true))
  | then-column-above-via-else-column-above+then-coefficient-le0 w ↦ unfit-coefficient
      c.args.columns.now c.args.terms.now c.args.listed.now c.loop-place.place
      (omega (
        arith,
        ints,
        c.coefficient-coefficient.ensures,
        c.coefficient-coefficient.type_inv,
        w.if-coefficient-le0.true,
      ))
  | then-column-above-via-else-column-above+else-coefficient-le0+then-not-is_binary w ↦
      unfit-bounds c.args.columns.now c.args.terms.now c.args.listed.now c.loop-place.place
      (sym w.is_binary.ensures ∙ w.if-not-is_binary.true)
]

pub returns-then-column-above-clause-misfit : goal.returns-then-column-above-clause-misfit
returns-then-column-above-clause-misfit c =
    misfit-found c.args.columns.now c.args.terms.now c.args.listed.now c.loop-place.place
    (length c.args.listed.now) c.loop-place.invariant.fits (unfit c) c.loop-place-test.true

pub loop-place-preserved : goal.loop-place-preserved
loop-place-preserved c =
    let j : ℕ = listed_at c.args.listed.now c.loop-place.place in
    let small = coefficient-small (length c.args.columns.now) c.args.terms.now j c.requires.terms in
    let positive : pos 1 ≤ℤ coefficient_of c.args.terms.now j =
    omega (
      arith,
      ints,
      c.coefficient-coefficient.ensures,
      c.coefficient-coefficient.type_inv,
      c.if-coefficient-le0.false,
    ) in
    let e = fit c.args.columns.now c.args.terms.now c.args.listed.now c.loop-place.place
    (omega (arith, c.loop-place.invariant.above, c.if-column-above.false)) positive
    (sym c.is_binary.ensures ∙ c.if-not-is_binary.false) in
    let g = fitting c.args.columns.now c.args.terms.now c.args.listed.now c.loop-place.place e in
    let b = within c.args.columns.now j g.high in
    let m = fold_more (λ (s : ℤ) (k : ℕ). s +ℤ coefficient_of c.args.terms.now k) (pos 0)
    c.args.listed.now c.loop-place.place 0 c.loop-place-test.true in
    record {
      fits = misfit-more c.args.columns.now c.args.terms.now c.args.listed.now c.loop-place.place
          c.loop-place.invariant.fits e;
      above = let s : c.loop-place.place + 1 ≡ suc c.loop-place.place =
          omega arith in rw s (omega arith);
      exact = omega (
        arith,
        ints,
        m,
        small,
        c.coefficient-coefficient.ensures,
        c.loop-place.invariant.exact,
        c.loop-place.invariant.within,
        c.loop-place.invariant.place,
        c.loop-place.invariant.below,
      );
      within = omega (
        arith,
        ints,
        small,
        c.coefficient-coefficient.ensures,
        c.loop-place.invariant.within,
        c.loop-place.invariant.place,
        c.loop-place.invariant.below,
      );
      place = omega (arith, c.loop-place.invariant.place, c.if-column-above.false);
      below = omega (arith, b, c.requires.few);
    }
