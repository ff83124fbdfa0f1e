-- What a history says of a node, of the best point and of the budget. The last entry comes first.
use Rattle.std.specs.Prelude.{ℕ, ◌+◌, ◌-◌, ◌%◌, ℤ, ◌-ℤ◌, int_lt, int_le, Bool, true, false, ◌&&◌}
use Rattle.std.specs.Prelude.{List, [], ◌∷◌, Option, Some, None, if◌then◌else◌, ◌==◌}
use Rattle.bl_mods.specs.Mods.{is_among}
use Rattle.bl_problem.specs.Program.{Program}
use Rattle.bl_problem.specs.Points.{value_of}
use Rattle.bl_desc.specs.declared.desc.Form.{Form}
use Rattle.bl_desc.specs.declared.desc.Form.TheVariants.{Explicit, Relative}
use Rattle.bl_journal.specs.declared.entry.Entry.{Entry}
use Rattle.bl_journal.specs.declared.entry.Entry.TheVariants.{Take, Put, Back, Encode, Free}
use Rattle.bl_journal.specs.declared.entry.Step.{Step}
use Rattle.bl_journal.specs.declared.entry.Step.TheVariants.{Shut, Split}
use Rattle.bl_journal.specs.declared.settings.Settings.{Settings}
use Rattle.bl_journal.specs.declared.state.State.{State}
use Rattle.bl_journal.specs.declared.state.State.TheVariants.{Waiting as waiting, Out as out}
use Rattle.bl_journal.specs.declared.state.State.TheVariants.{Split as split, Shut as shut}
use Rattle.bl_journal.specs.declared.state.State.TheVariants.{Freed as freed}
use Rattle.bl_journal.specs.Births.{node_at}
use Rattle.bl_journal.specs.Descriptions.{full_of}

abbrev pub put_state : Step → State
put_state Shut = shut
put_state (Split common column at) = split

abbrev pub state_after : ℕ → State → Entry → State
state_after id s (Take seat i) = if i == id then out seat else s
state_after id s (Put seat i found low next) = if i == id then put_state next else s
state_after id s (Back seat i) = if i == id then waiting else s
state_after id s (Encode seat i form) = s
state_after id s (Free seat ids) = if is_among id ids then freed else s

-- what the node's last entry says; waiting where there is none
abbrev pub state_of : List Entry → ℕ → State
state_of [] id = waiting
state_of (e ∷ past) id = state_after id (state_of past id) e

-- a point that was found, with its value
pub record Found : Type 0 where
  pub value : ℤ
  pub point : List ℤ

abbrev pub better : Option Found → Found → Option Found
better None f = Some f
better (Some b) f = if int_lt f.value b.value then Some f else Some b

abbrev pub best_with : Program → Option Found → Option (List ℤ) → Option Found
best_with p best None = best
best_with p best (Some x) = better best (record { value = value_of p x; point = x })

abbrev pub best_after : Program → Option Found → Entry → Option Found
best_after p best (Put seat id found low next) = best_with p best found
best_after p best (Take seat id) = best
best_after p best (Back seat id) = best
best_after p best (Encode seat id form) = best
best_after p best (Free seat ids) = best

-- the first found point of least value
abbrev pub best_of : Program → List Entry → Option Found
best_of p [] = None
best_of p (e ∷ past) = best_after p (best_of p past) e

abbrev pub value_if : Option Found → Option ℤ
value_if None = None
value_if (Some f) = Some f.value

abbrev pub value_less : ℤ → Option Found → Option ℤ
value_less gap None = None
value_less gap (Some f) = Some (f.value -ℤ gap)

-- the best value less the gap; none where no point was found
abbrev pub cutoff_for : Program → Settings → List Entry → Option ℤ
cutoff_for p s past = value_less s.gap (best_of p past)

abbrev pub cutoff_after : Program → Settings → List Entry → ℕ → Option ℤ → Entry → Option ℤ
cutoff_after p s past id c (Take seat i) = if i == id then cutoff_for p s past else c
cutoff_after p s past id c (Put seat i found low next) = c
cutoff_after p s past id c (Back seat i) = c
cutoff_after p s past id c (Encode seat i form) = c
cutoff_after p s past id c (Free seat ids) = c

-- the best value less the gap, at the node's last take
abbrev pub cutoff_of : Program → Settings → List Entry → ℕ → Option ℤ
cutoff_of p s [] id = None
cutoff_of p s (e ∷ past) id = cutoff_after p s past id (cutoff_of p s past id) e

abbrev pub used_after : ℕ → Entry → ℕ
used_after n (Take seat id) = n + 1
used_after n (Put seat id found low next) = n
used_after n (Back seat id) = n - 1
used_after n (Encode seat id form) = n
used_after n (Free seat ids) = n

-- the takes less the backs
abbrev pub used_of : List Entry → ℕ
used_of [] = 0
used_of (e ∷ past) = used_after (used_of past) e

abbrev pub is_spanned : Program → Settings → List Entry → ℕ → Bool
is_spanned p s past id = (node_at p past id).depth % s.span == 0

abbrev pub form_after : ℕ → Form → Entry → Form
form_after id f (Encode seat i form) = if i == id then form else f
form_after id f (Take seat i) = f
form_after id f (Put seat i found low next) = f
form_after id f (Back seat i) = f
form_after id f (Free seat ids) = f

-- the form of the node's last encoding, else Relative
abbrev pub encoded_form : List Entry → ℕ → Form
encoded_form [] id = Relative
encoded_form (e ∷ past) id = form_after id (encoded_form past id) e

-- explicit where the span divides the depth
abbrev pub form_of : Program → Settings → List Entry → ℕ → Form
form_of p s past id = if is_spanned p s past id then Explicit else encoded_form past id

-- the box of the bounds has a point
abbrev pub has_point : List ℤ → List ℤ → Bool
has_point [] highs = true
has_point (l ∷ lows) [] = true
has_point (l ∷ lows) (h ∷ highs) = int_le l h && has_point lows highs

-- the number is below the cutoff, or there is none
abbrev pub is_below : ℤ → Option ℤ → Bool
is_below n None = true
is_below n (Some c) = int_lt n c

abbrev pub is_live_in : State → Bool → Bool
is_live_in waiting open_node = open_node
is_live_in (out seat) open_node = true
is_live_in split open_node = false
is_live_in shut open_node = false
is_live_in freed open_node = false

-- the box has a point and the low number is below the best value less the gap
abbrev pub is_open : Program → Settings → List Entry → ℕ → Bool
is_open p s past id =
    has_point (full_of p past id).lows (full_of p past id).highs
    && is_below (node_at p past id).low (cutoff_for p s past)

abbrev pub is_live : Program → Settings → List Entry → ℕ → Bool
is_live p s past id = is_live_in (state_of past id) (is_open p s past id)
