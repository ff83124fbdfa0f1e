-- What may be tried, and what the kinds of cuts try.
use Rattle.std.specs.Prelude.{◌≡◌, ◌<◌, ◌+◌, ◌⊎◌, List, length, pos, ◌≤ℤ◌, Ok, Option, Some, None}
use Rattle.std.specs.Prelude.{option_map}
use Rattle.bl_fixed.specs.declared.Fixed.{Fixed}
use Rattle.bl_mods.specs.declared.mods.ItemId.{ItemId}
use Rattle.bl_problem.specs.Program.{Program}
use Rattle.bl_problem.specs.declared.cut.Cut.{Cut}
use Rattle.bl_desc.specs.declared.desc.Desc.{Desc}
use Rattle.bl_cuts.specs.declared.pick.Pick.{Pick}
use Rattle.bl_cuts.specs.Separations.{IsCandidate, first_broken}
use Rattle.bl_cover.specs.Covers.{all_but_one, cover_of}
use Rattle.bl_cover.specs.Greedy.{IsFirstCover}
use Rattle.bl_cover.specs.declared.separator.CutKinds.{CutKinds}
use Rattle.bl_cover.specs.declared.separator.CutKinds.TheVariants.{Rows, Covers, Both}
use Rattle.bl_cover.specs.declared.separator.Try.{Try}
use Rattle.bl_cover.specs.declared.separator.Try.TheVariants.{Weights, Cover}

-- one weight per row and cut and a divisor of at least 1, or a row of the problem
abbrev pub HasShape : Program → Desc Cut → Try → Type 0
HasShape p desc (Weights pick) = (length pick.weights ≡ length p.rows + length desc.cuts)
    × (pos 1 ≤ℤ pick.q)
HasShape p desc (Cover i columns) = i < length p.rows

-- a cover that `cover_cut` refuses for no cause but want of memory
abbrev pub IsAccepted : Program → Try → Type 0
IsAccepted p (Weights pick) = ⊥
IsAccepted p (Cover i columns) = (i < length p.rows)
    × ((id : ItemId) → cover_of p i columns id ≡ Ok (all_but_one id columns))

-- a candidate over one row
abbrev pub IsRowTry : Program → Desc Cut → Try → Type 0
IsRowTry p desc (Weights pick) = IsCandidate p desc.cuts pick
IsRowTry p desc (Cover i columns) = ⊥

-- a candidate over one row for the kinds with rows, an accepted cover for the kinds with covers
abbrev pub AllowedBy : CutKinds → Program → Desc Cut → Try → Type 0
AllowedBy Rows p desc t = IsRowTry p desc t
AllowedBy Covers p desc t = IsAccepted p t
AllowedBy Both p desc t = IsRowTry p desc t ⊎ IsAccepted p t

abbrev pub weights_of : Option Pick → Option Try
weights_of o = option_map (λ pick. Weights pick) o

-- what `separate` gives, and where that is None what holds of the answer
abbrev pub IsRowsElse : (Option Try → Type 0) → Option Try → Option Try → Type 0
IsRowsElse covers (Some t) answer = answer ≡ Some t
IsRowsElse covers None answer = covers answer

abbrev pub AnswersAs : CutKinds → Program → Desc Cut → List Fixed → Option Try → Type 0
AnswersAs Rows p desc point answer = answer ≡ weights_of (first_broken p desc.cuts point)
AnswersAs Covers p desc point answer = IsFirstCover p point answer
AnswersAs Both p desc point answer =
    IsRowsElse (IsFirstCover p point) (weights_of (first_broken p desc.cuts point)) answer
