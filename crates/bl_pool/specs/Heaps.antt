-- A binary heap of keys beside a table of their places by id.
use Rattle.std.specs.Prelude.{◌≡◌, ◌<◌, ◌-◌, ◌/◌, ℕ, zero, suc, false, pos, List, length, map}
use Rattle.std.specs.Prelude.{Option, Some, None, option_map, slice_index_or}
use Rattle.bl_pool.specs.declared.key.Key.{Key}
use Rattle.bl_pool.specs.declared.key.Order.{Order}
use Rattle.bl_pool.specs.Orders.{before}

abbrev pub no_key : Key
no_key = record { id = 0; low = pos 0; depth = 0 }

abbrev pub key_of : List Key → ℕ → Key
key_of keys i = slice_index_or keys i no_key

-- the table has a place as the number after it, and 0 where there is none
abbrev pub place_before : ℕ → Option ℕ
place_before zero = None
place_before (suc i) = Some i

-- the place of an id in the heap
abbrev pub place_of : List ℕ → ℕ → Option ℕ
place_of places id = place_before (slice_index_or places id 0)

abbrev pub key_at : List Key → List ℕ → ℕ → Option Key
key_at keys places id = option_map (key_of keys) (place_of places id)

-- the table has the place of each key, and no other place
pub record Tied (keys : List Key) (places : List ℕ) : Type 0 where
  pub placed : (i : ℕ) → i < length keys → place_of places (key_of keys i).id ≡ Some i
  pub held : (id i : ℕ) → place_of places id ≡ Some i → (i < length keys)
      × ((key_of keys i).id ≡ id)

abbrev pub parent : ℕ → ℕ
parent i = (i - 1) / 2

abbrev pub Ordered : Order → (ℕ → Key) → ℕ → ℕ → Type 0
Ordered order f i j = before order (f j) (f i) ≡ false

-- the keys by id
abbrev pub table_of : List Key → List ℕ → List (Option Key)
table_of keys places = map (λ n. option_map (key_of keys) (place_before n)) places

-- no key comes before its parent
pub record Heap (order : Order) (f : ℕ → Key) (n : ℕ) : Type 0 where
  pub ordered : (i : ℕ) → 0 < i → i < n → Ordered order f (parent i) i

-- a heap but for the key at one place, which may come before its parent
pub record Up (order : Order) (f : ℕ → Key) (n hole : ℕ) : Type 0 where
  pub others : (i : ℕ) → 0 < i → i < n → (i ≡ hole → ⊥) → Ordered order f (parent i) i
  pub across : (i : ℕ) → 0 < i → i < n → 0 < hole → parent i ≡ hole
      → Ordered order f (parent hole) i

-- a heap but for the key at one place, before which its children may come
pub record Down (order : Order) (f : ℕ → Key) (n hole : ℕ) : Type 0 where
  pub others : (i : ℕ) → 0 < i → i < n → (parent i ≡ hole → ⊥) → Ordered order f (parent i) i
  pub across : (i : ℕ) → 0 < i → i < n → 0 < hole → parent i ≡ hole
      → Ordered order f (parent hole) i

-- both
pub record Loose (order : Order) (f : ℕ → Key) (n hole : ℕ) : Type 0 where
  pub others : (i : ℕ) → 0 < i → i < n → (i ≡ hole → ⊥) → (parent i ≡ hole → ⊥)
      → Ordered order f (parent i) i
  pub across : (i : ℕ) → 0 < i → i < n → 0 < hole → parent i ≡ hole
      → Ordered order f (parent hole) i
