use Rattle.std.proofs.Common.{◌≡◌, ◌+◌, drop, not}
use Rattle.bl_text.specs.Pieces.{leading, is_line_feed}
use Rattle.bl_text.proofs.line.to_line_feed.Given as goal

abbrev pub invariant-loop-b : goal.invariant-loop-b
invariant-loop-b l = (l.n ≡ l.b-index)
    × (l.n + leading (λ b. not (is_line_feed b)) (drop l.n l.bytes)
    ≡ leading (λ b. not (is_line_feed b)) l.bytes)
