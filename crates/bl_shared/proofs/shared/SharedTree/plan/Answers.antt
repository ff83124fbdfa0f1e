use Rattle.std.proofs.Common.{rules}
use Rattle.bl_turn.specs.Seats.{view_of}
use Rattle.bl_shared.proofs.Turning.{born_found}
use Rattle.bl_shared.proofs.shared.SharedTree.plan.Goals as goal

pub plan-requires : goal.plan-requires
plan-requires g c =
    born_found (view_of c.args.seat.now) _ c.value.result.now.tree c.args.id
    c.enter-held.ensures.history (search rules) (search rules) c.requires.born
