-- Where a history splits its nodes.
use Rattle.std.specs.Prelude.{List, [], ◌∷◌}
use Rattle.bl_problem.specs.Program.{Program}
use Rattle.bl_problem.specs.declared.cut.Cut.{Cut}
use Rattle.bl_desc.specs.declared.desc.Desc.{Desc}
use Rattle.bl_desc.specs.Changes.{changed}
use Rattle.bl_fixed.specs.declared.Fixed.{Fixed}
use Rattle.bl_journal.specs.declared.entry.Entry.{Entry}
use Rattle.bl_journal.specs.declared.entry.Entry.TheVariants.{Take, Put, Back, Encode, Free}
use Rattle.bl_journal.specs.declared.entry.Step.{Step}
use Rattle.bl_journal.specs.declared.entry.Step.TheVariants.{Shut, Split}
use Rattle.bl_journal.specs.Descriptions.{full_of}
use Rattle.bl_branch.specs.declared.place.Place.{Place}
use Rattle.bl_branch.specs.Calls.{Calls, Answers}

-- a node of description d is split, if at all, at a place that P allows for the description
-- after the common change
abbrev pub IsPlaced : (Desc Cut → Place → Type 0) → Desc Cut → Step → Type 0
IsPlaced P d Shut = Unit {0}
IsPlaced P d (Split common column at) = P (changed common d) (record { column = column; at = at })

-- the same of the node that an entry puts back
abbrev pub PutsAt : (Desc Cut → Place → Type 0) → Program → List Entry → Entry → Type 0
PutsAt P p past (Put seat id found low next) = IsPlaced P (full_of p past id) next
PutsAt P p past (Take seat id) = Unit {0}
PutsAt P p past (Back seat id) = Unit {0}
PutsAt P p past (Encode seat id form) = Unit {0}
PutsAt P p past (Free seat ids) = Unit {0}

-- each split is at a place that P allows for its node's description after the common change. The
-- last entry stands first
abbrev pub SplitsAt : (Desc Cut → Place → Type 0) → Program → List Entry → Type 0
SplitsAt P p [] = Unit {0}
SplitsAt P p (e ∷ past) = PutsAt P p past e × SplitsAt P p past

-- the rule may answer this place for the description, at some point
abbrev pub MayAnswer : {F : Type 0} → Calls F → F → Desc Cut → Place → Type 0
MayAnswer g closure d place = (point : List Fixed) × Answers g closure d point place
