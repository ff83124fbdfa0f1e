-- Where a seat splits its nodes.
use Rattle.std.specs.Prelude.{◌≡◌, ℕ, List, [], ◌∷◌}
use Rattle.bl_problem.specs.Program.{Program}
use Rattle.bl_problem.specs.declared.cut.Cut.{Cut}
use Rattle.bl_desc.specs.declared.desc.Desc.{Desc}
use Rattle.bl_journal.specs.declared.entry.Entry.{Entry}
use Rattle.bl_journal.specs.Legality.{seat_of}
use Rattle.bl_branch.specs.declared.place.Place.{Place}
use Rattle.bl_tree.specs.Views.{past_of}
use Rattle.bl_shared.specs.Calls.{Knows, tree_seen}
use Rattle.bl_search.specs.Places.{PutsAt}

-- each split of the seat is at a place that P allows for its node's description after the common
-- change. The last entry stands first
abbrev pub SplitsBy : ℕ → (Desc Cut → Place → Type 0) → Program → List Entry → Type 0
SplitsBy seat P p [] = Unit {0}
SplitsBy seat P p (e ∷ past) = (seat_of e ≡ seat → PutsAt P p past e) × SplitsBy seat P p past

-- the same of the seat that knows this
abbrev pub SplitsOwnAt : (Desc Cut → Place → Type 0) → Knows → Type 0
SplitsOwnAt P v = SplitsBy v.number P (tree_seen v).problem (past_of (tree_seen v))
