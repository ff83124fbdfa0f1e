use Rattle.std.proofs.Common.{◌≡◌, ◌+◌, drop, not}
use Rattle.bl_text.specs.Pieces.{leading, is_blank}
use Rattle.bl_text.proofs.word.to_blank.Given as goal

abbrev pub invariant-loop-b : goal.invariant-loop-b
invariant-loop-b l = (l.n ≡ l.b-index)
    × (l.n + leading (λ b. not (is_blank b)) (drop l.n l.bytes)
    ≡ leading (λ b. not (is_blank b)) l.bytes)
