use Rattle.std.proofs.Common.{◌≡◌, ap, sym, ◌∙◌, subst, Ok, Err}
use Rattle.std.specs.Prelude.{IfOk}
use Rattle.std.specs.declared.result.Result.{Result}
use Rattle.bl_problem.specs.Program.{Program}
use Rattle.bl_tree.specs.Views.{TreeView, past_of}
use Rattle.bl_search.specs.Places.{MayAnswer, SplitsAt}
use Rattle.bl_search.proofs.Places.{kept_places}
use Rattle.bl_worker.proofs.Splitting.{all_map}
use Rattle.bl_worker.proofs.Searching.{wound_up}
use Rattle.bl_worker.proofs.search.search_shared.Goals as goal

if_ok : {T E : Type 0} (A B : T → Type 0) (r : Result T E) → ((x : T) → A x → B x) → IfOk r A
    → IfOk r B
if_ok A B (Ok x) f a = f x a
if_ok A B (Err e) f a = tt

pub end-requires : goal.end-requires
end-requires g c =
    wound_up c.args.workers c.in_ok-tree.tree c.in_ok-tree-2.tree c.free_all.new.tree
    c.in_ok-tree-2.ensures.worked c.journal-journal.ensures.legal c.in_ok-free_all.ensures

pub returns-clause-places : goal.returns-clause-places
returns-clause-places g c =
    let old = c.in_ok-tree-2.tree in
    let new = c.free_all.new.tree in
    let there =
    all_map (MayAnswer (record {
      pre = λ f a. g.F.Fn.pre f a;
      post = g.F.Fn.post;
      steps =
          g.F.Fn.steps;
    }) c.args.rule.now.closure) (MayAnswer g.F.Fn c.args.rule.now.closure)
    old.problem (past_of old)
    c.in_ok-tree-2.ensures.places
    (λ d place k. (
      k.0,
      record {
        desc = k.1.desc;
        point = k.1.point;
        shows_desc =
            k.1.shows_desc;
        shows_point = k.1.shows_point;
        says = k.1.says;
      },
    )) in
    let kept = kept_places (MayAnswer g.F.Fn c.args.rule.now.closure) old.problem old new
    c.in_ok-free_all.ensures.kept_up there in
    let same = c.in_ok-tree-2.ensures.worked.problem
    ∙ ap (λ (t : TreeView). t.problem) c.in_ok-tree.ensures in
    let here = subst (λ (p : Program). SplitsAt (MayAnswer g.F.Fn c.args.rule.now.closure) p
    (past_of new)) same kept in
    if_ok (λ search. search.tree ≡ new) (λ search. SplitsAt
    (MayAnswer g.F.Fn c.args.rule.now.closure) c.args.problem.now.value (past_of search.tree))
    c.end.result
    (λ search is. subst (λ (t : TreeView). SplitsAt (MayAnswer g.F.Fn c.args.rule.now.closure)
    c.args.problem.now.value (past_of t)) (sym is)
    (subst (λ (p : Program). SplitsAt (MayAnswer g.F.Fn c.args.rule.now.closure) p
    (past_of new)) c.in_ok-try_clone.ensures here)) c.end.ensures.tree
