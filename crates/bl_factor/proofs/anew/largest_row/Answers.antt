use Rattle.std.proofs.Common.{◌≡◌, ◌-◌, ◌^◌, ℕ, get_or, sym, ap, subst, ◌∙◌, arith, rules}
use Rattle.std.proofs.Common.{FitsSigned, unsigned_abs}
use Rattle.std.specs.Int.{w128}
use Rattle.std.proofs.lemmas.Int.{to_z-of_z}
use Rattle.std.specs.Prelude.{MatchOption, Option}
use Rattle.bl_factor.specs.Vectors.{at}
use Rattle.bl_factor.specs.Support.{IsPivotRow}
use Rattle.bl_factor.proofs.anew.largest_row.Goals as goal
use Rattle.bl_factor.proofs.anew.largest_row.Goals.{then-most-size, else-most-size}

pub loop-listed-preserved : goal.loop-listed-preserved
loop-listed-preserved c =
    let image = c.args.image.now in
    let rows = c.args.rows.now in
    let k = c.loop-listed.listed-index in
    let row = get_or rows k 0 in
    let h = c.loop-listed-test.true in
    let v = c.loop-listed.invariant in
    let f : FitsSigned w128 (at image row).raw = search rules in
    let size : c.unsigned_abs-size.result ≡ unsigned_abs (at image row).raw =
    c.unsigned_abs-size.ensures.value ∙ ap unsigned_abs (to_z-of_z w128 (at image row).raw f) in
    let P = λ (o : Option ℕ) (most : ℕ). MatchOption o (most ≡ 2 ^ 20 - 1) (IsPivotRow image) in
    elim c.if-most-size.branch [
      | then-most-size w ↦
          record {
            pivot = subst (λ (o : Option ℕ). P o c.if-most-size.most) (sym w.largest-is)
                (record {
                  row_in = c.requires.rows k 0 h;
                  pivot =
                      omega (arith, v.least, w.if-most-size.true, size);
                });
            least = omega (arith, v.least, w.if-most-size.true, w.most-is);
          }
      | else-most-size w ↦
          record {
            pivot = subst (λ (o : Option ℕ). P o c.if-most-size.most) (sym w.largest-is)
                (subst (λ (m : ℕ). P c.loop-listed.largest m) (sym w.most-is) v.pivot);
            least = omega (arith, v.least, w.most-is);
          }
    ]
