use Rattle.std.proofs.Common.{arith, [], ◌≡◌, ◌≤◌, refl, ap, sym, subst}
use Rattle.bl_journal.specs.declared.settings.Settings.{Settings}
use Rattle.bl_journal.specs.States.{used_of}
use Rattle.bl_tree.specs.Views.{TreeView, past_of}
use Rattle.bl_search.specs.Searches.{IsFreed}
use Rattle.bl_search.specs.Places.{MayAnswer}
use Rattle.bl_search.proofs.Places.{kept_places}
use Rattle.bl_search.proofs.Serials.{below_kept}
use Rattle.bl_search.proofs.Turns.{starts}
use Rattle.bl_search.proofs.search.search_tree.Goals as goal

pub end-requires-2-clause-reply : goal.end-requires-2-clause-reply
end-requires-2-clause-reply g c =
    let t = c.loop-turn.tree in
    let few : used_of (past_of t) ≤ t.settings.nodes =
    (c.budget_holds.ensures t.problem t.settings t.history
    c.journal-journal.ensures.legal).few in
    let nodes : t.settings.nodes ≡ c.args.settings.nodes =
    ap (λ (s : Settings). s.nodes) c.loop-turn.invariant.settings in
    let used : used_of (past_of t) ≡ c.loop-turn.turn = c.loop-turn.invariant.used in
    absurd (omega (arith, few, nodes, used))

pub loop-turn-init : goal.loop-turn-init
loop-turn-init g c =
    let fresh = subst (λ (t : TreeView). IsFreed t c.free_all.new.tree) c.in_ok-tree.ensures
    c.in_ok-free_all.ensures in
    let start = starts c.in_ok-try_clone.field-0.value (c.args.settings) c.free_all.new.tree fresh
    in
    record {
      between = start.between;
      problem = refl;
      settings = start.settings;
      used = start.used;
      splits = sym start.splits;
      serials =
          below_kept 0 (record {
            problem = c.in_ok-try_clone.field-0.value;
            settings =
                c.args.settings;
            history = [];
          }) c.free_all.new.tree fresh.kept_up
          (λ i d l. absurd (omega (arith, l)));
      places = kept_places (MayAnswer g.F.Fn c.args.rule.now.closure) c.free_all.new.tree.problem
          (record {
            problem = c.in_ok-try_clone.field-0.value;
            settings =
                c.args.settings;
            history = [];
          }) c.free_all.new.tree fresh.kept_up tt;
      few = omega arith;
    }
