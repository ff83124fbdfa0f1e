use Rattle.std.proofs.Common.{◌≡◌, ◌-◌, ◌++◌, replicate}
use Rattle.bl_write.proofs.line.push_blanks.Given as goal

abbrev pub invariant-loop : goal.invariant-loop
invariant-loop l = l.text.items ++ replicate (l.count - l.counter) 32 ≡ l.initial.text.items
    ++ replicate l.count 32
