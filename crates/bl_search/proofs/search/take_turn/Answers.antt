use Rattle.bl_search.proofs.Turns.{not_idle, has_worked}
use Rattle.bl_search.specs.Places.{MayAnswer}
use Rattle.bl_search.proofs.Places.{kept_places}
use Rattle.bl_search.proofs.Serials.{below_kept}
use Rattle.bl_search.proofs.search.take_turn.Goals as goal

pub returns-in-Idle : goal.returns-in-Idle
returns-in-Idle g c =
    let k = rw c.in-Idle.is at c.in_ok-lease.ensures.taken in
    absurd (not_idle c.args.tree.now c.requires.between k.0)

pub returns-in_ok-splits-in-Node : goal.returns-in_ok-splits-in-Node
returns-in_ok-splits-in-Node g c = record {
  turn =
      let k = rw c.in-Node.is at c.in_ok-lease.ensures.taken in (
        has_worked c.args.tree.now c.take.new.self c.finish.new.tree c.tidy.new.tree
            c.in-Node.lease _ c.args.splits c.in_ok-splits-in-Node.splits
            c.requires.between c.requires.splits k.entry c.in_ok-born-in-Node.ensures.put
            c.in_ok-splits-in-Node.ensures.count c.in_ok-splits-in-Node.ensures.tidied,
        below_kept _ c.finish.new.tree c.tidy.new.tree
            c.in_ok-splits-in-Node.ensures.tidied.kept_up c.in_ok-born-in-Node.ensures.serials,
      );
  places =
      kept_places (MayAnswer g.F.Fn c.args.rule.now.closure) c.args.problem.now c.finish.new.tree
      c.tidy.new.tree c.in_ok-splits-in-Node.ensures.tidied.kept_up
      c.in_ok-born-in-Node.ensures.places;
}
