use Rattle.std.proofs.Common.{◌≡◌, drop}
use Rattle.bl_desc.specs.Changes.{IsWhole}
use Rattle.bl_rebuild.specs.Chains.{present, described, FitInOrder}
use Rattle.bl_rebuild.proofs.chain.rebuild.Given as goal

abbrev pub invariant-loop-piece : goal.invariant-loop-piece
invariant-loop-piece g l = record {
  rest : described (present (drop l.piece-index l.piece-items)) l.desc
      ≡ described (present l.piece-items) l.initial.desc;
  fits : FitInOrder (present (drop l.piece-index l.piece-items)) l.desc;
  whole : IsWhole l.desc;
}
