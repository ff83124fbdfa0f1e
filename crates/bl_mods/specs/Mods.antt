-- What modification lists do to lists.
use Rattle.std.specs.Prelude.{◌≡◌, ℕ, ◌+◌, ◌<◌, Bool, false, ◌&&◌, List, [], ◌∷◌, ◌++◌, length}
use Rattle.std.specs.Prelude.{slice_set, slice_index_or, if◌then◌else◌, ◌==◌}
use Rattle.std.specs.List.{list_any, filter}
use Rattle.bl_mods.specs.declared.mods.Mod.{Mod}
use Rattle.bl_mods.specs.declared.mods.ListMods.{ListMods}
use Rattle.bl_mods.specs.declared.mods.ItemId.{ItemId}

-- each entry is written at its place
abbrev pub written : {T : Type 0} → List (Mod T) → List T → List T
written [] list = list
written (m ∷ mods) list = written mods (slice_set list m.place m.entry)

-- the places, counted from `at`, where two lists differ, each with the new entry
abbrev pub differences_from : {T : Type 0} → (T → T → Bool) → ℕ → List T → List T → List (Mod T)
differences_from same at [] new = []
differences_from same at (x ∷ old) [] = []
differences_from same at (x ∷ old) (y ∷ new) =
    if same x y
    then differences_from same (at + 1) old new
    else (record { place = at; entry = y }) ∷ differences_from same (at + 1) old new

abbrev pub differences : {T : Type 0} → (T → T → Bool) → List T → List T → List (Mod T)
differences same old new = differences_from same 0 old new

-- the list has an entry at the place, which is another one
abbrev pub DiffersAt : {T : Type 0} → (T → T → Bool) → List T → ℕ → T → Type 0
DiffersAt {T} same list place entry = (place < length list)
    × ((d : T) → same (slice_index_or list place d) entry ≡ false)

abbrev pub is_among : ℕ → List ℕ → Bool
is_among p ps = list_any (λ q. q == p) ps

-- what is left of a list, whose places are counted from `at`, without the dropped places
abbrev pub kept_from : {T : Type 0} → ℕ → List ℕ → List T → List T
kept_from at dropped [] = []
kept_from at dropped (x ∷ list) =
    if is_among at dropped then kept_from (at + 1) dropped list else x
    ∷ kept_from (at + 1) dropped list

-- what is left of a list without the dropped places
abbrev pub kept : {T : Type 0} → List ℕ → List T → List T
kept dropped list = kept_from 0 dropped list

-- the dropped places are taken away, and the added items stand at the end
abbrev pub relisted : {C : Type 0} → ListMods C → List C → List C
relisted mods list = kept_from 0 mods.dropped list ++ mods.added

abbrev pub same_id : ItemId → ItemId → Bool
same_id a b = a.seat == b.seat && a.serial == b.serial

abbrev pub has_id : {C : Type 0} → (C → ItemId) → ItemId → List C → Bool
has_id id_of id list = list_any (λ c. same_id (id_of c) id) list

-- the places, counted from `at`, of the items that the new list doesn't have
abbrev pub gone_from : {C : Type 0} → (C → ItemId) → ℕ → List C → List C → List ℕ
gone_from id_of at [] new = []
gone_from id_of at (x ∷ old) new =
    if has_id id_of (id_of x) new then gone_from id_of (at + 1) old new else at
    ∷ gone_from id_of (at + 1) old new

-- the items of the new list that the old one doesn't have
abbrev pub fresh_in : {C : Type 0} → (C → ItemId) → List C → List C → List C
fresh_in id_of old [] = []
fresh_in id_of old (y ∷ new) = if has_id id_of (id_of y) old then fresh_in id_of old new else y
    ∷ fresh_in id_of old new

abbrev pub list_differences : {C : Type 0} → (C → ItemId) → List C → List C → ListMods C
list_differences id_of old new =
    record { dropped = gone_from id_of 0 old new; added = fresh_in id_of old new }

-- the new list is a part of the old one in its order, and then items with other ids
abbrev pub IsPartThenFresh : {C : Type 0} → (C → ItemId) → List C → List C → Type 0
IsPartThenFresh id_of old new = new ≡ filter (λ x. has_id id_of (id_of x) new) old
    ++ fresh_in id_of old new

-- the item at a place has this id
abbrev pub IsItemAt : {C : Type 0} → (C → ItemId) → List C → ℕ → ItemId → Type 0
IsItemAt {C} id_of list at id = (at < length list)
    × ((d : C) → id_of (slice_index_or list at d) ≡ id)
