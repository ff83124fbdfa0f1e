use Rattle.std.proofs.Common.{◌≡◌, ◌+◌, drop}
use Rattle.bl_text.specs.Pieces.{leading, is_blank}
use Rattle.bl_text.proofs.word.blanks.Given as goal

abbrev pub invariant-loop-b : goal.invariant-loop-b
invariant-loop-b l = (l.n ≡ l.b-index)
    × (l.n + leading (is_blank) (drop l.n l.bytes) ≡ leading (is_blank) l.bytes)
