use Rattle.std.proofs.Common.{subst, sym, ap, ◌∙◌}
use Rattle.bl_problem.specs.Program.{IsProgram}
use Rattle.bl_tree.specs.Views.{TreeView}
use Rattle.bl_replay.proofs.Histories.{with_own, done_more, done_all, next_allowed}
use Rattle.bl_replay.proofs.Keeping.{none_needed}
use Rattle.bl_replay.proofs.trees.enter_all.Goals as goal

pub loop-entry-init : goal.loop-entry-init
loop-entry-init c = record {
  done = with_own c.args.tree.now _ c.requires.new;
  held = none_needed c.args.tree.now c.args.leases.now c.requires.new;
}

pub enter-requires-clause-program : goal.enter-requires-clause-program
enter-requires-clause-program c =
    subst (λ (u : TreeView). IsProgram u.problem) (sym c.loop-entry.invariant.done)
    c.requires.program

pub enter-requires-clause-span : goal.enter-requires-clause-span
enter-requires-clause-span c = ap (λ (u : TreeView). u.settings.span) c.loop-entry.invariant.done
    ∙ c.requires.span

pub enter-requires-clause-allowed : goal.enter-requires-clause-allowed
enter-requires-clause-allowed c =
    next_allowed c.args.tree.now c.loop-entry.tree c.args.entries.now c.loop-entry.entry-index
    c.entry-item.result c.requires.legal c.loop-entry.invariant.done c.loop-entry-test.true
    c.entry-item.is

pub loop-entry-preserved : goal.loop-entry-preserved
loop-entry-preserved c = record {
  done = done_more c.args.tree.now c.loop-entry.tree c.enter.new.tree c.args.entries.now
      c.loop-entry.entry-index c.entry-item.result c.loop-entry.invariant.done
      c.in_ok-enter.ensures.entry c.loop-entry-test.true c.entry-item.is;
  held = c.in_ok-enter.ensures.held;
}

pub returns : goal.returns
returns c = done_all c.args.tree.now c.loop-entry.tree c.args.entries.now c.loop-entry.entry-index
    c.loop-entry.invariant.done c.loop-entry-test.false
