use Rattle.std.proofs.Common.{◌<◌, length, arith}
use Rattle.bl_mods.proofs.InTurn.{step_first}
use Rattle.bl_mods.proofs.in_turn.next_drop.Goals as goal

pub returns-then-first-at-clause-entry : goal.returns-then-first-at-clause-entry
returns-then-first-at-clause-entry c =
    let h : c.args.at < length c.args.first.now = omega arith in
    let k : c.args.next < length c.args.later.now = omega arith in
    step_first c.args.at c.args.next c.args.first.now c.args.later.now h k c.requires.later
    (omega arith)
