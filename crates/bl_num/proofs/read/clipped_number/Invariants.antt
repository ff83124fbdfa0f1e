use Rattle.std.proofs.Common.{◌≡◌, min, take}
use Rattle.bl_num.specs.Decimals.{whole_number}
use Rattle.bl_num.proofs.read.clipped_number.Given as goal

abbrev pub invariant-loop-digit : goal.invariant-loop-digit
invariant-loop-digit l = l.size ≡ min (whole_number (take l.digit-index l.digits)) 28
