use Rattle.std.proofs.Common.{◌≡◌, ◌∙◌, ℕ, get_or, ap, sym, subst, arith, rules, FitsSigned}
use Rattle.std.proofs.Common.{unsigned_abs}
use Rattle.std.specs.Int.{w128}
use Rattle.std.proofs.lemmas.Int.{to_z-of_z}
use Rattle.bl_factor.specs.Vectors.{at}
use Rattle.bl_factor.specs.Support.{IsPivotRow}
use Rattle.bl_factor.proofs.anew.pivot_row.Goals as goal
use Rattle.bl_factor.proofs.anew.pivot_row.Goals.{then-ranks-row+then-least-unsigned_abs}
use Rattle.bl_factor.proofs.anew.pivot_row.Goals.{else-ranks-row}

pub loop-listed-preserved : goal.loop-listed-preserved
loop-listed-preserved c =
    let image = c.args.image.now in
    let rows = c.args.rows.now in
    let k = c.loop-listed.listed-index in
    let h = c.loop-listed-test.true in
    let row = get_or rows k 0 in
    let P = λ (row : ℕ). IsPivotRow image row in
    elim c.if-ranks-row.branch [
      | then-ranks-row+then-least-unsigned_abs w ↦
          let f : FitsSigned w128 (at image row).raw = search rules in
          let size : w.unsigned_abs-then-ranks-row.result ≡ unsigned_abs (at image row).raw =
          w.unsigned_abs-then-ranks-row.ensures.value
          ∙ ap unsigned_abs (to_z-of_z w128 (at image row).raw f) in
          subst P (sym w.best-is) (record {
            row_in = c.requires.rows k 0 h;
            pivot = omega (arith, size, w.if-least-unsigned_abs.true, c.max-least.ensures);
          })
      | else-ranks-row w ↦ subst P (sym w.best-is) c.loop-listed.invariant
    ]
