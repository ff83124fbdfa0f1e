use Rattle.std.proofs.Common.{◌≢◌, sym, subst, All}
use Rattle.bl_tree.specs.Views.{TreeView, past_of}
use Rattle.bl_turn.specs.Seats.{view_of}
use Rattle.bl_search.specs.Places.{MayAnswer, SplitsAt}
use Rattle.bl_shared.specs.Calls.{Knows, tree_seen}
use Rattle.bl_worker.specs.declared.worker.WorkerEnd.TheVariants.{Memory}
use Rattle.bl_worker.specs.Ends.{HaveEnded}
use Rattle.bl_worker.specs.Searches.{IsWorkedThrough}
use Rattle.bl_worker.proofs.Splitting.{splits_map}
use Rattle.bl_worker.proofs.Searching.{worked_through, placed_through}
use Rattle.bl_worker.proofs.search.work_through.Goals as goal

pub returns-clause-worked : goal.returns-clause-worked
returns-clause-worked g c =
    let w = view_of c.run_workers-ended.new.seat in
    let ended = subst (λ (v : Knows). HaveEnded c.args.workers v c.in_ok-ends.ends.items w)
    c.in-Ok.ensures.view c.in_ok-ends.ensures.ended in
    let none = subst (All (λ end. end ≢ Memory)) c.as_slice.ensures.value
    (c.any_failed.ensures c.if-any_failed.false) in
    subst (IsWorkedThrough c.args.workers c.args.tree) (sym c.close-tree.ensures.tree)
    (worked_through c.args.tree w c.args.workers c.in_ok-ends.ends.items c.requires.fresh
    ended none)

pub returns-clause-places : goal.returns-clause-places
returns-clause-places g c =
    let w = view_of c.run_workers-ended.new.seat in
    let ended = subst (λ (v : Knows). HaveEnded c.args.workers v c.in_ok-ends.ends.items w)
    c.in-Ok.ensures.view c.in_ok-ends.ensures.ended in
    let own = c.in_ok-ends.ensures.places in
    subst (λ (t : TreeView). SplitsAt (MayAnswer g.F.Fn c.args.rule.now.closure) t.problem
    (past_of t)) (sym c.close-tree.ensures.tree)
    (placed_through c.args.tree w c.args.workers c.in_ok-ends.ends.items c.requires.fresh ended
    (MayAnswer g.F.Fn c.args.rule.now.closure)
    (λ seat one few. splits_map
    (MayAnswer (record {
      pre = λ f a. g.F.Fn.pre f a;
      post = g.F.Fn.post;
      steps =
          g.F.Fn.steps;
    }) c.args.rule.now.closure) (MayAnswer g.F.Fn c.args.rule.now.closure) seat
    (tree_seen w).problem (past_of (tree_seen w))
    (own seat one few)
    (λ d place k. (
      k.0,
      record {
        desc = k.1.desc;
        point = k.1.point;
        shows_desc =
            k.1.shows_desc;
        shows_point = k.1.shows_point;
        says = k.1.says;
      },
    ))))
