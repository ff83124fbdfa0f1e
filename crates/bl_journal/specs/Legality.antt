-- Which histories are legal.
use Rattle.std.specs.Prelude.{◌≡◌, ◌≢◌, ℕ, ◌≤◌, ◌<◌, ℤ, false, List, [], ◌∷◌, ◌++◌, length, map}
use Rattle.std.specs.Prelude.{reverse, All, Contains, Option, Some, None, nat_le, if◌then◌else◌}
use Rattle.std.specs.Prelude.{◌==◌}
use Rattle.bl_mods.specs.declared.mods.ItemId.{ItemId}
use Rattle.bl_problem.specs.Program.{Program}
use Rattle.bl_problem.specs.declared.cut.Cut.{Cut}
use Rattle.bl_desc.specs.declared.change.Change.{Change}
use Rattle.bl_desc.specs.declared.desc.Form.{Form}
use Rattle.bl_desc.specs.declared.desc.Form.TheVariants.{Explicit, Relative}
use Rattle.bl_journal.specs.declared.entry.Entry.{Entry}
use Rattle.bl_journal.specs.declared.entry.Entry.TheVariants.{Take, Put, Back, Encode, Free}
use Rattle.bl_journal.specs.declared.entry.Step.{Step}
use Rattle.bl_journal.specs.declared.entry.Step.TheVariants.{Shut, Split}
use Rattle.bl_journal.specs.declared.outcome.Next.{Next}
use Rattle.bl_journal.specs.declared.outcome.Next.TheVariants.{Shut as ShutNext, Split as SplitNext}
use Rattle.bl_journal.specs.declared.settings.Settings.{Settings}
use Rattle.bl_journal.specs.Births.{nodes_of, node_at}
use Rattle.bl_journal.specs.Descriptions.{full_of}
use Rattle.bl_journal.specs.States.{state_of, form_of, cutoff_of, is_spanned}
use Rattle.bl_journal.specs.declared.state.State.TheVariants.{Out as out, Freed as freed}
use Rattle.bl_journal.specs.Replies.{take_reply, gives}
use Rattle.bl_journal.specs.Freeing.{IsFreeChain}
use Rattle.bl_journal.specs.Soundness.{IsSound}

-- the seat that made the entry
abbrev pub seat_of : Entry → ℕ
seat_of (Take seat id) = seat
seat_of (Put seat id found low next) = seat
seat_of (Back seat id) = seat
seat_of (Encode seat id form) = seat
seat_of (Free seat ids) = seat

-- what the journal keeps of what comes next
abbrev pub step_of : Next → Step
step_of ShutNext = Shut
step_of (SplitNext common column at left right) = Split common column at

abbrev pub added_by_step : Step → List Cut
added_by_step Shut = []
added_by_step (Split common column at) = common.cuts.added

abbrev pub added_by : Entry → List Cut
added_by (Put seat id found low next) = added_by_step next
added_by (Take seat id) = []
added_by (Back seat id) = []
added_by (Encode seat id form) = []
added_by (Free seat ids) = []

-- the ids of all cuts that were added so far
abbrev pub ids_added : List Entry → List ItemId
ids_added [] = []
ids_added (e ∷ past) = map (λ c. c.id) (added_by e) ++ ids_added past

abbrev pub most_new_cuts : ℕ → ℕ
most_new_cuts depth = if depth == 0 then 20 else if nat_le depth 8 then 2 else 0

abbrev pub IsNewId : List Entry → ℕ → ItemId → Type 0
IsNewId past seat id = (id.seat ≡ seat) × (Contains (ids_added past) id → ⊥)

pub record MayPut
    (p : Program) (s : Settings) (past : List Entry) (seat id : ℕ) (found : Option (List ℤ))
    (low : ℤ) (next : Step) : Type 0 where
  pub is_out : state_of past id ≡ out seat
  pub sound : IsSound p (full_of p past id) (cutoff_of p s past id) found low next
  pub few_cuts : length (added_by_step next) ≤ most_new_cuts (node_at p past id).depth
  pub new_ids : All (λ c. IsNewId past seat c.id) (added_by_step next)

-- a split that may be put
pub record SplitPut (p : Program) (s : Settings) (past : List Entry) : Type 0 where
  pub seat : ℕ
  pub id : ℕ
  pub found : Option (List ℤ)
  pub low : ℤ
  pub common : Change Cut
  pub column : ℕ
  pub at : ℤ
  pub may : MayPut p s past seat id found low (Split common column at)

abbrev pub split_entry :
    {p : Program} {s : Settings} {past : List Entry} → SplitPut p s past → Entry
split_entry {p} {s} {past} put =
    Put put.seat put.id put.found put.low (Split put.common put.column put.at)

-- the history after the split
abbrev pub with_split :
    {p : Program} {s : Settings} {past : List Entry} → SplitPut p s past → List Entry
with_split {p} {s} {past} put = split_entry put ∷ past

abbrev pub HasUnfreedParent : List Entry → Option ℕ → Type 0
HasUnfreedParent past None = ⊥
HasUnfreedParent past (Some parent) = state_of past parent ≢ freed

abbrev pub MayRelate : Program → Settings → List Entry → ℕ → Form → Type 0
MayRelate p s past id Explicit = Unit {0}
MayRelate p s past id Relative =
    (is_spanned p s past id ≡ false) × HasUnfreedParent past (node_at p past id).parent

pub record MayEncode (p : Program) (s : Settings) (past : List Entry) (id : ℕ) (form : Form)
    : Type 0 where
  pub born : id < length (nodes_of p past)
  pub not_freed : state_of past id ≢ freed
  pub other : form_of p s past id ≢ form
  pub related : MayRelate p s past id form

-- the entry may come next
abbrev pub IsAllowed : Program → Settings → List Entry → Entry → Type 0
IsAllowed p s past (Take seat id) = take_reply p s past ≡ gives id
IsAllowed p s past (Back seat id) = state_of past id ≡ out seat
IsAllowed p s past (Put seat id found low next) = MayPut p s past seat id found low next
IsAllowed p s past (Encode seat id form) = MayEncode p s past id form
IsAllowed p s past (Free seat ids) = IsFreeChain p s past ids

-- each entry was allowed when it came. The last entry stands first
abbrev pub IsLegalPast : Program → Settings → List Entry → Type 0
IsLegalPast p s [] = Unit {0}
IsLegalPast p s (e ∷ past) = IsAllowed p s past e × IsLegalPast p s past

-- the same of a history from its beginning
pub record IsLegal (p : Program) (s : Settings) (history : List Entry) : Type 0 where
  pub steps : IsLegalPast p s (reverse history)
