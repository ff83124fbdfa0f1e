-- What is written reads back.
use Rattle.std.specs.Prelude.{◌≡◌, Ok}
use Rattle.bl_problem.specs.Program.{IsProgram, Program}
use Rattle.bl_mps.specs.Reading.{read_of}
use Rattle.bl_write.specs.Written.{written}

-- the text of a problem means the problem
abbrev pub ReadsBack : Type 0
ReadsBack = (p : Program) → IsProgram p → read_of (written p) ≡ Ok p
