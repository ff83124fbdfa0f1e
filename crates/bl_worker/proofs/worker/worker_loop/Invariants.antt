use Rattle.bl_turn.specs.Seats.{view_of}
use Rattle.bl_search.specs.Places.{MayAnswer}
use Rattle.bl_shared.specs.Calls.{IsSeatOf}
use Rattle.bl_worker.specs.Loops.{IsBetween, Grows, AreOwnSerialsBelow}
use Rattle.bl_worker.specs.Splits.{SplitsOwnAt}
use Rattle.bl_worker.proofs.worker.worker_loop.Given as goal

abbrev pub invariant-loop : goal.invariant-loop
invariant-loop g l =
    IsSeatOf l.tree l.seat × IsBetween (view_of l.seat) l.splits
    × AreOwnSerialsBelow l.serial (view_of l.seat)
    × Grows (view_of l.initial.seat) (view_of l.seat)
    × SplitsOwnAt (MayAnswer g.F.Fn l.rule.closure) (view_of l.seat)
