use Rattle.std.proofs.Common.{[], refl}
use Rattle.bl_num.proofs.read.read_digits.Goals as goal

pub returns-clause-kept : goal.returns-clause-kept
returns-clause-kept c = c.keep-2.ensures.kept c.args.whole.now (c.keep.ensures.kept [] refl)
