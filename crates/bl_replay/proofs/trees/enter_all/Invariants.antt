use Rattle.std.proofs.Common.{◌≡◌, take}
use Rattle.bl_replay.specs.Leases.{HasLeases}
use Rattle.bl_replay.proofs.trees.enter_all.Given as goal

abbrev pub invariant-loop-entry : goal.invariant-loop-entry
invariant-loop-entry l = record {
  done : l.tree ≡ record {
    problem = l.initial.tree.problem;
    settings =
        l.initial.tree.settings;
    history = take l.entry-index l.entries;
  };
  held : HasLeases l.tree l.leases;
}
