use Rattle.std.proofs.Common.{◌≡◌, take}
use Rattle.bl_mps.specs.Meaning.{columns_from}
use Rattle.bl_mps.proofs.finish.make_columns.Given as goal

abbrev pub invariant-loop-j : goal.invariant-loop-j
invariant-loop-j l = l.columns.items
    ≡ columns_from l.reader l.objective 0 (take l.j l.reader.columns.names)
