-- When a seat has stored its nodes anew in time.
use Rattle.std.specs.Prelude.{◌≡◌, ◌⊎◌, ℕ, ◌+◌, ◌%◌, Bool, true, false, List, [], ◌∷◌, ◌++◌, length}
use Rattle.std.specs.Prelude.{All, if◌then◌else◌, ◌==◌}
use Rattle.bl_problem.specs.Program.{Program}
use Rattle.bl_desc.specs.declared.desc.Form.TheVariants.{Explicit}
use Rattle.bl_journal.specs.declared.entry.Entry.{Entry}
use Rattle.bl_journal.specs.declared.entry.Entry.TheVariants.{Take, Put, Back, Encode, Free}
use Rattle.bl_journal.specs.declared.entry.Step.{Step}
use Rattle.bl_journal.specs.declared.entry.Step.TheVariants.{Shut, Split}
use Rattle.bl_journal.specs.declared.settings.Settings.{Settings}
use Rattle.bl_journal.specs.Births.{nodes_of}
use Rattle.bl_journal.specs.States.{state_of, form_of}
use Rattle.bl_journal.specs.declared.state.State.TheVariants.{Freed as freed}

abbrev pub is_split : Step → Bool
is_split Shut = false
is_split (Split common column at) = true

-- the entry is a put of the seat that splits
abbrev pub splits : ℕ → Entry → Bool
splits seat (Put other id found low next) = if other == seat then is_split next else false
splits seat (Take other id) = false
splits seat (Back other id) = false
splits seat (Encode other id form) = false
splits seat (Free other ids) = false

abbrev pub takes : ℕ → Entry → Bool
takes seat (Take other id) = other == seat
takes seat (Put other id found low next) = false
takes seat (Back other id) = false
takes seat (Encode other id form) = false
takes seat (Free other ids) = false

-- how many puts of the seat split
abbrev pub splits_of : ℕ → List Entry → ℕ
splits_of seat [] = 0
splits_of seat (e ∷ past) = if splits seat e then splits_of seat past + 1 else splits_of seat past

-- after each fourth split the seat stores both children anew
pub record IsDue (seat : ℕ) (e : Entry) (past : List Entry) : Type 0 where
  pub split : splits seat e ≡ true
  pub fourth : (splits_of seat past + 1) % 4 ≡ 0

-- the node is explicit, or freed
abbrev pub IsSettled : Program → Settings → List Entry → ℕ → Type 0
IsSettled p s past id = (form_of p s past id ≡ Explicit) ⊎ (state_of past id ≡ freed)

-- at some time after the entries `past`, and before the seat's next take in the entries `later`,
-- the node was explicit or freed
pub record WasSettled
    (p : Program) (s : Settings) (seat : ℕ) (later past : List Entry) (id : ℕ) : Type 0 where
  pub rest : List Entry
  pub soon : List Entry
  pub parts : later ≡ rest ++ soon
  pub no_take : All (λ e. takes seat e ≡ false) soon
  pub settled : IsSettled p s (soon ++ past) id

-- after each fourth of its splits the seat saw to it that both children are explicit or freed,
-- before it took again
abbrev pub IsTidied : Program → Settings → ℕ → List Entry → Type 0
IsTidied p s seat past =
    (later earlier : List Entry) (e : Entry) → past ≡ later ++ e ∷ earlier → IsDue seat e earlier
    → WasSettled p s seat later (e ∷ earlier) (length (nodes_of p earlier))
    × WasSettled p s seat later (e ∷ earlier) (length (nodes_of p earlier) + 1)

-- the seat stores a node in another form, or frees nodes
abbrev pub IsUpkeepBy : ℕ → Entry → Type 0
IsUpkeepBy seat (Encode other id form) = other ≡ seat
IsUpkeepBy seat (Free other ids) = other ≡ seat
IsUpkeepBy seat (Take other id) = ⊥
IsUpkeepBy seat (Put other id found low next) = ⊥
IsUpkeepBy seat (Back other id) = ⊥
