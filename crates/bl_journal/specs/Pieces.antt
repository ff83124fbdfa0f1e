-- How nodes are stored_of.
use Rattle.std.specs.Prelude.{ℕ, ◌%◌, Bool, true, false, List, [], ◌∷◌, ◌++◌, sum_by, filter, not}
use Rattle.std.specs.Prelude.{Option, Some, None, if◌then◌else◌, ◌==◌}
use Rattle.bl_problem.specs.Program.{Program}
use Rattle.bl_problem.specs.declared.cut.Cut.{Cut}
use Rattle.bl_desc.specs.declared.desc.Desc.{Desc}
use Rattle.bl_desc.specs.declared.desc.Form.{Form}
use Rattle.bl_desc.specs.declared.desc.Form.TheVariants.{Explicit as ExplicitForm}
use Rattle.bl_desc.specs.declared.desc.Form.TheVariants.{Relative as RelativeForm}
use Rattle.bl_desc.specs.declared.desc.Piece.{Piece}
use Rattle.bl_desc.specs.declared.desc.Piece.TheVariants.{Explicit, Relative}
use Rattle.bl_desc.specs.Changes.{changed, difference}
use Rattle.bl_desc.specs.Weights.{weight_of}
use Rattle.bl_journal.specs.declared.entry.Entry.{Entry}
use Rattle.bl_journal.specs.declared.settings.Settings.{Settings}
use Rattle.bl_journal.specs.Births.{node_at}
use Rattle.bl_journal.specs.Descriptions.{full_of}
use Rattle.bl_journal.specs.States.{state_of, form_of}
use Rattle.bl_journal.specs.declared.state.State.{State}
use Rattle.bl_journal.specs.declared.state.State.TheVariants.{Waiting as waiting, Out as out}
use Rattle.bl_journal.specs.declared.state.State.TheVariants.{Split as split, Shut as shut}
use Rattle.bl_journal.specs.declared.state.State.TheVariants.{Freed as freed}
use Rattle.bl_journal.specs.Replies.{ids_of}

-- the canonical difference from the parent's description; the root has none
abbrev pub difference_from : Program → List Entry → Option ℕ → Desc Cut → Piece Cut
difference_from p past None d = Explicit d
difference_from p past (Some parent) d = Relative (difference (λ c. c.id) (full_of p past parent) d)

abbrev pub piece_in : Program → List Entry → ℕ → Form → Piece Cut
piece_in p past id ExplicitForm = Explicit (full_of p past id)
piece_in p past id RelativeForm =
    difference_from p past (node_at p past id).parent (full_of p past id)

abbrev pub stored_of : Program → Settings → List Entry → ℕ → Piece Cut
stored_of p s past id = piece_in p past id (form_of p s past id)

-- the form of a node when it is born: explicit where the span divides its depth
abbrev pub form_at_birth : (span depth : ℕ) → Form
form_at_birth span depth = if depth % span == 0 then ExplicitForm else RelativeForm

-- a child in a form: its description, or the canonical difference from its parent's
abbrev pub piece_below : Desc Cut → Form → Desc Cut → Piece Cut
piece_below parent ExplicitForm d = Explicit d
piece_below parent RelativeForm d = Relative (difference (λ c. c.id) parent d)

abbrev pub chained : List (Piece Cut) → Piece Cut → List (Piece Cut)
chained chain (Explicit d) = Explicit d ∷ []
chained chain (Relative c) = chain ++ Relative c ∷ []

abbrev pub chain_along :
    Program → Settings → List Entry → List (Piece Cut) → List ℕ → List (Piece Cut)
chain_along p s past chain [] = chain
chain_along p s past chain (id ∷ ids) =
    chain_along p s past (chained chain (stored_of p s past id)) ids

-- the pieces from the nearest explicit one down to the node
abbrev pub chain_of : Program → Settings → List Entry → ℕ → List (Piece Cut)
chain_of p s past id = chain_along p s past [] ((node_at p past id).ancestors ++ id ∷ [])

abbrev pub is_freed : State → Bool
is_freed freed = true
is_freed waiting = false
is_freed (out seat) = false
is_freed split = false
is_freed shut = false

unfoldable pub held_of : Program → Settings → List Entry → ℕ
held_of p s past =
    sum_by (λ id. weight_of (stored_of p s past id))
    (filter (λ id. not (is_freed (state_of past id))) (ids_of p past))

-- the description that a chain stands for, if it begins with an explicit piece
abbrev pub rebuilt_onto : Desc Cut → List (Piece Cut) → Desc Cut
rebuilt_onto d [] = d
rebuilt_onto d (Explicit e ∷ chain) = rebuilt_onto e chain
rebuilt_onto d (Relative c ∷ chain) = rebuilt_onto (changed c d) chain

abbrev pub rebuilt : List (Piece Cut) → Option (Desc Cut)
rebuilt [] = None
rebuilt (Explicit e ∷ chain) = Some (rebuilt_onto e chain)
rebuilt (Relative c ∷ chain) = None
