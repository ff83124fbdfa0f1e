use Rattle.std.proofs.Common.{◌≡◌, drop, length}
use Rattle.bl_rebuild.specs.Chains.{present}
use Rattle.bl_tree.proofs.Boxes.{lows_after, highs_after, BoundsFit}
use Rattle.bl_tree.proofs.bounds.write_bounds.Given as goal

abbrev pub invariant-loop-piece : goal.invariant-loop-piece
invariant-loop-piece l = record {
  lows : lows_after (present (drop l.piece-index l.piece-items)) l.lows
      ≡ lows_after (present l.piece-items) l.initial.lows;
  highs : highs_after (present (drop l.piece-index l.piece-items)) l.highs
      ≡ highs_after (present l.piece-items) l.initial.highs;
  fit : BoundsFit (present (drop l.piece-index l.piece-items)) (length l.lows) (length l.highs);
}
