use Rattle.std.proofs.Common.{◌≡◌, pos, Some}
use Rattle.bl_num.specs.Exact.{product_at}
use Rattle.bl_num.specs.Checked.{checked_sum}
use Rattle.bl_num.proofs.arithmetic.dot.Given as goal

abbrev pub invariant-loop-i : goal.invariant-loop-i
invariant-loop-i l = checked_sum (Some (pos 0)) l.i (λ k. Some (product_at l.a l.b k)) ≡ l.sum
