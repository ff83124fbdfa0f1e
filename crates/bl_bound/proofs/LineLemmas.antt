-- The rows and the cuts as one list of lines.
use Rattle.std.proofs.Common.{◌≡◌, ◌+◌, List, length}
use Rattle.std.proofs.lemmas.List.{length-map, length-append}
use Rattle.bl_problem.specs.declared.problem.Row.{Row}
use Rattle.bl_problem.specs.declared.cut.Cut.{Cut}
use Rattle.bl_bound.specs.Lines.{lines_of}

pub length-lines_of : (rows : List Row) (cuts : List Cut) → length (lines_of rows cuts)
    ≡ length rows + length cuts
length-lines_of rows cuts = simp (length-append, length-map)
