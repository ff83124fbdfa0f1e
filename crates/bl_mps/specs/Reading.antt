-- What bytes read as: a problem, or the first fault.
use Rattle.std.specs.Prelude.{ℕ, List, Result}
use Rattle.bl_problem.specs.Program.{Program}
use Rattle.bl_cards.specs.Said.{◌>>=◌}
use Rattle.bl_cards.specs.Reading.{Fault, at_line, said_in}
use Rattle.bl_mps.specs.Meaning.{finished}

-- the problem that the bytes mean, or the first fault
unfoldable pub read_of : List ℕ → Result Program Fault
read_of bytes = said_in bytes >>= λ w. at_line w.last (finished w.said)
