use Rattle.bl_write.proofs.Texts.{blank_pushed, blanks_pushed}
use Rattle.std.proofs.Common.{arith, replicate}
use Rattle.bl_write.proofs.line.push_blanks.Goals as goal

pub loop-preserved : goal.loop-preserved
loop-preserved c = blank_pushed c.args.text.now.items c.loop.text.items c.push.new.self.items
    (replicate c.args.count 32) c.args.count c.loop.counter (omega arith)
    c.in_ok-push.ensures.items c.loop.invariant

pub returns : goal.returns
returns c = blanks_pushed c.args.text.now.items c.loop.text.items (replicate c.args.count 32)
    c.args.count c.loop.counter (omega arith) c.loop.invariant
