-- Chains of changes, and the descriptions that they stand for.
use Rattle.std.specs.Prelude.{◌≡◌, ◌≤◌, List, [], ◌∷◌, length, Option, Some, None}
use Rattle.smallvec.specs.SmallVec.{SmallVec}
use Rattle.bl_desc.specs.declared.desc.Desc.{Desc}
use Rattle.bl_desc.specs.declared.change.Change.{Change}
use Rattle.bl_desc.specs.Changes.{changed, Fits}

-- what each of the Somes holds, in order
abbrev pub present : {X : Type 0} → List (Option X) → List X
present [] = []
present (Some x ∷ xs) = x ∷ present xs
present (None ∷ xs) = present xs

-- each place is taken, and 63 places lie in the value
abbrev pub IsInline : {X : Type 0} → SmallVec (Option X) → Type 0
IsInline v = (length (present v.items) ≡ length v.items) × (63 ≤ v.capacity)

-- each change is applied to what those before it leave
abbrev pub described : {C : Type 0} → List (Change C) → Desc C → Desc C
described [] d = d
described (c ∷ changes) d = described changes (changed c d)

-- the places of each change fit what those before it leave
abbrev pub FitInOrder : {C : Type 0} → List (Change C) → Desc C → Type 0
FitInOrder [] d = Unit {0}
FitInOrder (c ∷ changes) d = Fits c d × FitInOrder changes (changed c d)
