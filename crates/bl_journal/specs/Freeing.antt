-- Which nodes may be freed, and in which order.
use Rattle.std.specs.Prelude.{◌≡◌, ◌<◌, ℕ, Bool, true, false, not, ◌&&◌, ◌||◌, List, [], ◌∷◌}
use Rattle.std.specs.Prelude.{length, filter, find, Option, Some, None, ◌==◌}
use Rattle.std.specs.List.{list_all}
use Rattle.bl_problem.specs.Program.{Program}
use Rattle.bl_desc.specs.declared.desc.Form.{Form}
use Rattle.bl_desc.specs.declared.desc.Form.TheVariants.{Explicit, Relative}
use Rattle.bl_journal.specs.declared.entry.Entry.{Entry}
use Rattle.bl_journal.specs.declared.entry.Entry.TheVariants.{Free}
use Rattle.bl_journal.specs.declared.settings.Settings.{Settings}
use Rattle.bl_journal.specs.Births.{nodes_of, node_at}
use Rattle.bl_journal.specs.States.{state_of, form_of, is_open}
use Rattle.bl_journal.specs.declared.state.State.{State}
use Rattle.bl_journal.specs.declared.state.State.TheVariants.{Waiting as waiting, Out as out}
use Rattle.bl_journal.specs.declared.state.State.TheVariants.{Split as split, Shut as shut}
use Rattle.bl_journal.specs.declared.state.State.TheVariants.{Freed as freed}
use Rattle.bl_journal.specs.Replies.{ids_of}
use Rattle.bl_journal.specs.Pieces.{is_freed}

abbrev pub is_explicit : Form → Bool
is_explicit Explicit = true
is_explicit Relative = false

abbrev pub is_parent : Option ℕ → ℕ → Bool
is_parent None id = false
is_parent (Some parent) id = parent == id

-- a child that is not freed is explicit
abbrev pub lets_go : Program → Settings → List Entry → ℕ → ℕ → Bool
lets_go p s past id q =
    not (is_parent (node_at p past q).parent id)
    || is_freed (state_of past q)
    || is_explicit (form_of p s past q)

-- split, shut, or waiting and not live
abbrev pub is_over : State → Bool → Bool
is_over split open_node = true
is_over shut open_node = true
is_over waiting open_node = not open_node
is_over (out seat) open_node = false
is_over freed open_node = false

abbrev pub is_freeable : Program → Settings → List Entry → ℕ → Bool
is_freeable p s past id =
    is_over (state_of past id) (is_open p s past id)
    && list_all (lets_go p s past id) (ids_of p past)

abbrev pub first_freeable : Program → Settings → List Entry → Option ℕ
first_freeable p s past = find (is_freeable p s past) (ids_of p past)

abbrev pub is_freeable_if : Program → Settings → List Entry → Option ℕ → Bool
is_freeable_if p s past None = false
is_freeable_if p s past (Some id) = is_freeable p s past id

-- the nodes `ids` come after `id`, once it and those before it are freed: each parent in turn, as
-- long as it is freeable
abbrev pub Climbs : Program → Settings → List Entry → ℕ → List ℕ → Type 0
Climbs p s past id [] = is_freeable_if p s past (node_at p past id).parent ≡ false
Climbs p s past id (q ∷ ids) =
    ((node_at p past id).parent ≡ Some q)
    × (is_freeable p s past q ≡ true)
    × Climbs p s (Free 0 (q ∷ []) ∷ past) q ids

-- the least freeable node, then each parent in turn
abbrev pub IsFreeChain : Program → Settings → List Entry → List ℕ → Type 0
IsFreeChain p s past [] = ⊥
IsFreeChain p s past (id ∷ ids) =
    (first_freeable p s past ≡ Some id) × Climbs p s (Free 0 (id ∷ []) ∷ past) id ids

-- no node may be freed
abbrev pub HasNothingToFree : Program → Settings → List Entry → Type 0
HasNothingToFree p s past =
    (id : ℕ) → id < length (nodes_of p past) → is_freeable p s past id ≡ false

-- how many nodes are not freed
abbrev pub standing_of : Program → List Entry → ℕ
standing_of p past = length (filter (λ id. not (is_freed (state_of past id))) (ids_of p past))
