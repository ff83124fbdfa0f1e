-- What two modification lists do one after the other, as one list.
use Rattle.std.specs.Prelude.{◌≡◌, ℕ, ◌+◌, ◌-◌, ◌<◌, nat_lt, nat_le, List, [], ◌∷◌, ◌++◌, map}
use Rattle.std.specs.Prelude.{length, All}
use Rattle.std.specs.List.{filter}
use Rattle.bl_mods.specs.declared.mods.Mod.{Mod}
use Rattle.bl_mods.specs.declared.mods.ListMods.{ListMods}
use Rattle.bl_mods.specs.Mods.{kept_from, relisted}

-- the entries whose places are below a place
abbrev pub entries_below : {T : Type 0} → ℕ → List (Mod T) → List (Mod T)
entries_below p mods = filter (λ m. nat_lt m.place p) mods

-- the entries whose places are above a place
abbrev pub entries_above : {T : Type 0} → ℕ → List (Mod T) → List (Mod T)
entries_above p mods = filter (λ m. nat_lt p m.place) mods

-- the later entries, and those of the first ones at whose places no later one stands, in the
-- order of their places
abbrev pub overlaid : {T : Type 0} → List (Mod T) → List (Mod T) → List (Mod T)
overlaid first [] = first
overlaid first (m ∷ later) = entries_below m.place first ++ m
    ∷ overlaid (entries_above m.place first) later

abbrev pub places_below : ℕ → List ℕ → List ℕ
places_below bound ps = filter (λ p. nat_lt p bound) ps

-- the places of a list that are dropped at first, and those that are dropped from what is then
-- left, in order. Each of the latter stands as much further on in the list as places before it
-- were dropped: at first `passed`.
abbrev pub dropped_in_turn : ℕ → List ℕ → List ℕ → List ℕ
dropped_in_turn passed [] later = map (λ q. q + passed) later
dropped_in_turn passed (p ∷ first) later =
    map (λ q. q + passed) (filter (λ q. nat_lt (q + passed) p) later) ++ p
    ∷ dropped_in_turn (passed + 1) first (filter (λ q. nat_le p (q + passed)) later)

-- how many items a list of n items has after the modifications
abbrev pub length_after : {C : Type 0} → ℕ → ListMods C → ℕ
length_after n mods = n - length mods.dropped + length mods.added

-- only places of a list of n items are dropped
abbrev pub DropsWithin : {C : Type 0} → ℕ → ListMods C → Type 0
DropsWithin n mods = All (λ p. p < n) mods.dropped

-- for a list of n items: the places that the first or the later drops, the items that the first
-- adds and the later doesn't drop, and then those that the later adds
abbrev pub relisted_in_turn : {C : Type 0} → ℕ → ListMods C → ListMods C → ListMods C
relisted_in_turn n first later =
    record {
      dropped = dropped_in_turn 0 first.dropped
          (places_below (n - length first.dropped) later.dropped);
      added = kept_from (n - length first.dropped) later.dropped first.added ++ later.added;
    }

-- to each list of n items, these modifications do what the first and then the later ones do
abbrev pub DoesBoth : {C : Type 0} → ℕ → ListMods C → ListMods C → ListMods C → Type 0
DoesBoth {C} n first later both = (list : List C) → length list ≡ n → relisted both list
    ≡ relisted later (relisted first list)
