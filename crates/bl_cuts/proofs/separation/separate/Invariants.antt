use Rattle.std.proofs.Common.{◌≡◌, None}
use Rattle.bl_cuts.specs.Separations.{first_in_rows, is_broken, raws_of}
use Rattle.bl_cuts.proofs.separation.separate.Given as goal

abbrev pub invariant-loop-row : goal.invariant-loop-row
invariant-loop-row l = first_in_rows (is_broken l.problem l.desc.cuts (raws_of l.point))
    l.problem.rows l.row ≡ None
