use Rattle.std.proofs.Common.{arith}
use Rattle.std.proofs.lemmas.Nat.{mod_below}
use Rattle.bl_num.proofs.Padded.{step-written, end-written}
use Rattle.bl_num.proofs.Powers.{ten_pow-positive}
use Rattle.bl_num.proofs.text.push_digits.Goals as goal

pub loop-rest-preserved : goal.loop-rest-preserved
loop-rest-preserved c = record {
  few = omega arith;
  below_one = rw c.power_of_ten-unit.ensures.value (mod_below _ _ (ten_pow-positive _));
  written = step-written _ _ _ _ _ _ c.loop-rest.invariant.below_one (omega arith)
      c.power_of_ten-unit.ensures.value c.in_ok-push.ensures.items c.loop-rest.invariant.written;
}

pub returns : goal.returns
returns c = end-written _ _ c.loop-rest.left c.loop-rest.rest (omega arith)
    c.loop-rest.invariant.written
