-- The full_of description of a node, from the root down.
use Rattle.std.specs.Prelude.{ℕ, ℤ, List, [], ◌∷◌, ◌++◌, length, replicate, pos, ◌+ℤ◌, slice_set}
use Rattle.bl_problem.specs.Program.{Program}
use Rattle.bl_problem.specs.Points.{own_lows, own_highs, InBox}
use Rattle.bl_problem.specs.declared.cut.Cut.{Cut}
use Rattle.bl_desc.specs.declared.desc.Desc.{Desc}
use Rattle.bl_problem.specs.declared.decision.Decision.{Decision}
use Rattle.bl_desc.specs.declared.desc.Status.TheVariants.{AtLow}
use Rattle.bl_desc.specs.Changes.{changed}
use Rattle.bl_problem.specs.Decisions.{Box, narrowed_all, MeetsAll}
use Rattle.bl_journal.specs.Soundness.{decisions_of}
use Rattle.bl_journal.specs.declared.entry.Entry.{Entry}
use Rattle.bl_journal.specs.Births.{Branch, node_at}

abbrev pub root_desc : Program → Desc Cut
root_desc p =
    record {
      lows = own_lows p;
      highs = own_highs p;
      cuts = [];
      column_status = replicate (length p.columns) AtLow;
      row_status = replicate (length p.rows) AtLow;
      cut_status = [];
    }

-- the bound decisions on the way, each common change before its split
abbrev pub decisions_along : List Branch → List Decision
decisions_along [] = []
decisions_along (branch ∷ branches) =
    (decisions_of branch.common ++ branch.decision ∷ []) ++ decisions_along branches

-- each low is the greatest of its own low and the AtLeast numbers on the way, each high the least
abbrev pub box_along : Program → List Branch → Box
box_along p branches =
    narrowed_all (record { lows = own_lows p; highs = own_highs p }) (decisions_along branches)

-- the changes on the way, one after another
abbrev pub changed_along : Desc Cut → List Branch → Desc Cut
changed_along d [] = d
changed_along d (branch ∷ branches) = changed_along (changed branch.common d) branches

-- cuts and statuses are those that the changes leave
abbrev pub full_along : Program → List Branch → Desc Cut
full_along p branches =
    record (changed_along (root_desc p) branches) {
      lows = (box_along p branches).lows;
      highs = (box_along p branches).highs;
    }

abbrev pub full_of : Program → List Entry → ℕ → Desc Cut
full_of p past id = full_along p (node_at p past id).path

-- the point lies within the problem's bounds and meets each decision on the way
abbrev pub IsInNode : Program → List Entry → ℕ → List ℤ → Type 0
IsInNode p past id x =
    InBox (own_lows p) (own_highs p) x × MeetsAll x (decisions_along (node_at p past id).path)

-- the children of a split, from the description after the common change
abbrev pub left_child : Desc Cut → ℕ → ℤ → Desc Cut
left_child d column at = record d { highs = slice_set d.highs column at }

abbrev pub right_child : Desc Cut → ℕ → ℤ → Desc Cut
right_child d column at = record d { lows = slice_set d.lows column (at +ℤ pos 1) }
