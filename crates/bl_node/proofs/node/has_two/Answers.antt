use Rattle.std.proofs.Common.{arith}
use Rattle.std.proofs.lemmas.Int.{ints}
use Rattle.bl_node.proofs.node.has_two.Goals as goal

pub returns-then-lows-j-clause-two : goal.returns-then-lows-j-clause-two
returns-then-lows-j-clause-two c = λ e. record {
  each = c.requires.point;
  column = c.loop-j.j;
  column_in = c.loop-j-test.true;
  apart = omega (arith, ints);
}
