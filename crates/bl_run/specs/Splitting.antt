-- Where the splits of a search stand.
use Rattle.std.specs.Prelude.{Bool, true, false, List}
use Rattle.bl_problem.specs.declared.cut.Cut.{Cut}
use Rattle.bl_desc.specs.declared.desc.Desc.{Desc}
use Rattle.bl_fixed.specs.declared.Fixed.{Fixed}
use Rattle.bl_branch.specs.declared.place.Place.{Place}
use Rattle.bl_branch.specs.Fractions.{IsMostFractional}
use Rattle.bl_branch.specs.Widest.{IsHalf}

-- in the middle of the first widest column; or else at the entry of some point whose fraction is
-- nearest to one half
abbrev pub IsSplitBy : Bool → Desc Cut → Place → Type 0
IsSplitBy true d place = IsHalf d place
IsSplitBy false d place = (point : List Fixed) × IsMostFractional d point place
