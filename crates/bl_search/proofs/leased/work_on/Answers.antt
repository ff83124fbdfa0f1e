use Rattle.std.proofs.Common.{ℕ, ◌<◌, ◌+◌, ◌≤◌, ◌≤ℤ◌, arith, sym, ◌∙◌, subst, length, Option, ℤ}
use Rattle.bl_num.specs.Exact.{at}
use Rattle.bl_problem.specs.Program.{Program, IsProgram}
use Rattle.bl_problem.specs.declared.cut.Cut.{Cut}
use Rattle.bl_desc.specs.declared.desc.Desc.{Desc}
use Rattle.bl_journal.specs.Descriptions.{full_of}
use Rattle.bl_tree.specs.Views.{TreeView, past_of, put_entry}
use Rattle.bl_node.specs.Outcomes.{form_of}
use Rattle.bl_node.specs.Names.{AreNamedBelow}
use Rattle.bl_node.specs.Standing.{IsNode}
use Rattle.bl_cover.specs.declared.separator.Try.{Try}
use Rattle.bl_node.specs.Promise.{IsPromised}
use Rattle.bl_search.specs.Places.{MayAnswer, PutsAt}
use Rattle.bl_search.specs.Searches.{AreLimitsAt}
use Rattle.bl_search.proofs.Putting.{put_fits, is-node, names-below, each_point, form_is, some_is}
use Rattle.bl_search.proofs.Places.{IsShutOrSplit, put_places}
use Rattle.bl_search.proofs.Serials.{below_put}
use Rattle.bl_search.proofs.leased.work_on.Goals as goal

pub work_hinted-requires-clause-node : goal.work_hinted-requires-clause-node
work_hinted-requires-clause-node g c = λ κs lives.
    let (t, w) = c.requires.leased in
    let d = c.in_ok-desc.ensures ∙ some_is _ (full_of t.problem (past_of t) c.args.lease.now.id)
    (sym c.chain.ensures.gives ∙ w.leased.chain) in
    let program = subst IsProgram (sym w.problem) c.columns-columns.ensures.program in
    let n = is-node c.leases_are_workable.ensures t c.args.seat c.args.lease.now.id w.legal
    program w.leased.is_out in
    subst (λ (p : Program). IsNode p c.in_ok-desc.desc) w.problem
    (subst (IsNode t.problem) (sym d) n)

pub work_hinted-requires-clause-point : goal.work_hinted-requires-clause-point
work_hinted-requires-clause-point g c = λ κs lives.
    let (t, w) = c.requires.leased in
    let f = full_of t.problem (past_of t) c.args.lease.now.id in
    let d = c.in_ok-desc.ensures ∙ some_is _ f (sym c.chain.ensures.gives ∙ w.leased.chain) in
    let work = c.leases_are_workable.ensures t.problem t.settings t.history w.legal
    c.args.lease.now.id c.args.seat w.leased.is_out in
    subst (λ (x : Desc Cut). (j : ℕ) → j < length x.lows → at x.lows j ≤ℤ at x.highs j) (sym d)
    (each_point f.lows f.highs work.desc.whole.highs work.point)

pub work_hinted-requires-clause-names : goal.work_hinted-requires-clause-names
work_hinted-requires-clause-names g c = λ κs lives.
    let (t, w) = c.requires.leased in
    let f = full_of t.problem (past_of t) c.args.lease.now.id in
    let d = c.in_ok-desc.ensures ∙ some_is _ f (sym c.chain.ensures.gives ∙ w.leased.chain) in
    let limits = c.limits_at-limits.ensures in
    let below = names-below c.cuts_were_added.ensures t c.args.seat c.args.lease.now.id
    c.args.serial w.legal w.leased.is_out w.serials in
    rw (limits.seat_is, limits.serial_is)
    (subst (λ (x : Desc Cut). AreNamedBelow c.args.seat c.args.serial x.cuts) (sym d) below)

pub returns : goal.returns
returns g c = λ t w.
    let lease = c.args.lease.now in
    let f = full_of t.problem (past_of t) lease.id in
    let o = c.in_ok-outcome.outcome in
    let limits = c.limits_at-limits.result in
    let at_depth = subst (λ (n : ℕ). AreLimitsAt c.args.span n c.args.seat c.args.serial limits)
    c.depth.ensures c.limits_at-limits.ensures in
    let closure = c.args.rule.now.closure in
    let d = c.in_ok-desc.ensures ∙ some_is _ f (sym c.chain.ensures.gives ∙ w.leased.chain) in
    let program = subst IsProgram (sym w.problem) c.columns-columns.ensures.program in
    let node = is-node c.leases_are_workable.ensures t c.args.seat lease.id w.legal program
    w.leased.is_out in
    let cutoff = c.cutoff.ensures ∙ w.leased.cutoff in
    let form = form_is t lease c.args.span c.args.seat c.args.serial limits w.span_is
    w.leased.depth at_depth in
    let allows : Desc Cut → Try → Type 0 =
    g.S.Separate.allows c.args.separator.now c.args.problem.now in
    let a = subst (λ (p : Program). IsPromised g.F.Fn closure allows p c.in_ok-desc.desc
    c.cutoff.result limits o) (sym w.problem) c.in_ok-outcome.ensures in
    let b = subst (λ (x : Desc Cut). IsPromised g.F.Fn closure allows t.problem x c.cutoff.result
    limits o) d a in
    let k = subst (λ (x : Option ℤ). IsPromised g.F.Fn closure allows t.problem f x limits o)
    cutoff b in
    record {
      fits = put_fits g.F.Fn closure allows c.children_follow.ensures
          c.newborns_are_stored.ensures t lease limits c.args.span c.args.seat c.args.serial o
          w.legal w.leased node w.serials at_depth form k;
      serials = below_put c.args.seat c.args.serial (c.args.serial + limits.new_cuts) lease.id
          limits t o at_depth.seat_is at_depth.serial_is k.adds.numbered k.adds.few (omega arith)
          w.serials;
      places = subst (λ (p : Program). PutsAt (MayAnswer g.F.Fn closure) p (past_of t)
          (put_entry c.args.seat lease.id o)) w.problem
          (put_places g.F.Fn closure t c.args.seat lease.id (form_of limits) o node k.split);
    }
