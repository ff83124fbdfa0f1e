use Rattle.std.proofs.Common.{◌∙◌, ◌^◌, ap, length, arith, rules, FitsSigned}
use Rattle.std.specs.Int.{w64}
use Rattle.std.proofs.lemmas.Int.{to_z-of_z}
use Rattle.std.proofs.lemmas.List.{length-append}
use Rattle.bl_problem.specs.Sums.{IsWithin}
use Rattle.bl_mods.proofs.Diffing.{all_push}
use Rattle.bl_simplex.proofs.answer.rounded_all.Goals as goal

pub loop-row-preserved : goal.loop-row-preserved
loop-row-preserved c =
    let v = c.loop-row.invariant in
    let e = c.in_ok-push.ensures.items in
    let f : FitsSigned w64 c.multiplier_of.result = search rules in
    record {
      long = ap length e ∙ length-append c.loop-row.y.items _ ∙ omega (arith, v.long);
      near = all_push (IsWithin (2 ^ 40)) c.loop-row.y.items _ _ e v.near
          (rw (to_z-of_z w64 c.multiplier_of.result f) c.multiplier_of.ensures);
    }
