-- A fault in a line is the file's.
use Rattle.std.proofs.Common.{ℕ, List, Err, refl}
use Rattle.bl_text.specs.Pieces.{lines_of}
use Rattle.bl_problem.specs.Program.{Program}
use Rattle.bl_cards.specs.declared.fault.ModelFault.{ModelFault}
use Rattle.bl_cards.specs.declared.fault.ModelFault.TheVariants.{Memory, At}
use Rattle.bl_cards.specs.declared.reader.Whole.{Whole}
use Rattle.bl_cards.specs.Said.{nothing_said}
use Rattle.bl_cards.specs.Reading.{said_from, said_in}
use Rattle.bl_cards.specs.Views.{Reads}
use Rattle.bl_mps.specs.Reading.{read_of}

pub line_fault : (fault : ModelFault) (bytes : List ℕ)
    → Reads {A = Whole} (Err fault) (said_from 0 nothing_said (lines_of bytes))
    → Reads {A = Program} (Err fault) (read_of bytes)
unfolding said_in read_of
line_fault Memory bytes e = tt
line_fault (At line what) bytes e = rw e refl
