use Rattle.std.proofs.Common.{rules}
use Rattle.bl_rows.proofs.Hopeless.{split_outcome}
use Rattle.bl_rows.proofs.shared.split.Goals as goal

pub returns : goal.returns
returns c =
    split_outcome c.args.desc.now _ _ c.args.form _ c.args.column _ _ _ c.requires.no_cuts
    (search rules) (search rules) (search rules) (search rules)
    (search rules) (search rules) c.in_ok-piece_of.ensures c.in_ok-piece_of-2.ensures
