-- The nodes that a history makes. A history is read backward here: its last entry comes first.
use Rattle.std.specs.Prelude.{ℕ, ◌+◌, ◌<◌, length, ℤ, pos, ◌+ℤ◌, List, [], ◌∷◌, ◌++◌, Option, Some}
use Rattle.std.specs.Prelude.{None, slice_index_or}
use Rattle.std.specs.Int.{int_max}
use Rattle.bl_problem.specs.Program.{Program}
use Rattle.bl_problem.specs.Points.{own_lows, own_highs, trivial_bound_of}
use Rattle.bl_problem.specs.declared.cut.Cut.{Cut}
use Rattle.bl_desc.specs.declared.change.Change.{Change}
use Rattle.bl_problem.specs.declared.decision.Decision.{Decision}
use Rattle.bl_problem.specs.declared.decision.Side.TheVariants.{AtLeast, AtMost}
use Rattle.bl_journal.specs.declared.entry.Entry.{Entry}
use Rattle.bl_journal.specs.declared.entry.Entry.TheVariants.{Take, Put, Back, Encode, Free}
use Rattle.bl_journal.specs.declared.entry.Step.{Step}
use Rattle.bl_journal.specs.declared.entry.Step.TheVariants.{Shut, Split}

-- a step down from a node to its child: the change that both children share, then the split's
-- decision
pub record Branch : Type 0 where
  pub common : Change Cut
  pub decision : Decision

-- a node: its strict ancestors and the steps from the root down to it, and its low number
pub record Node : Type 0 where
  pub parent : Option ℕ
  pub ancestors : List ℕ
  pub depth : ℕ
  pub low : ℤ
  pub path : List Branch

abbrev pub root_node : Program → Node
root_node p =
    record {
      parent = None;
      ancestors = [];
      depth = 0;
      low = trivial_bound_of p (own_lows p) (own_highs p);
      path = [];
    }

abbrev pub node_in : Program → List Node → ℕ → Node
node_in p nodes id = slice_index_or nodes id (root_node p)

abbrev pub child : Node → ℕ → ℤ → Branch → Node
child node id low branch =
    record {
      parent = Some id;
      ancestors = node.ancestors ++ id ∷ [];
      depth = node.depth + 1;
      low = int_max node.low low;
      path = node.path ++ branch ∷ [];
    }

abbrev pub left_branch : Change Cut → ℕ → ℤ → Branch
left_branch common column at =
    record { common = common; decision = record { column = column; side = AtMost; value = at } }

abbrev pub right_branch : Change Cut → ℕ → ℤ → Branch
right_branch common column at =
    record {
      common = common;
      decision = record { column = column; side = AtLeast; value = at +ℤ pos 1 };
    }

-- the nodes after a put on the node `id`, the left child first
abbrev pub with_children : List Node → Node → ℕ → ℤ → Step → List Node
with_children nodes node id low Shut = nodes
with_children nodes node id low (Split common column at) =
    nodes
    ++ child node id low (left_branch common column at)
    ∷ child node id low (right_branch common column at) ∷ []

abbrev pub grown : Program → List Node → Entry → List Node
grown p nodes (Put seat id found low next) = with_children nodes (node_in p nodes id) id low next
grown p nodes (Take seat id) = nodes
grown p nodes (Back seat id) = nodes
grown p nodes (Encode seat id form) = nodes
grown p nodes (Free seat ids) = nodes

-- the nodes in the order of their numbers: the root, then two for each put that splits
abbrev pub nodes_of : Program → List Entry → List Node
nodes_of p [] = root_node p ∷ []
nodes_of p (e ∷ past) = grown p (nodes_of p past) e

abbrev pub node_at : Program → List Entry → ℕ → Node
node_at p past id = node_in p (nodes_of p past) id

-- the history has made the node
abbrev pub IsBorn : Program → List Entry → ℕ → Type 0
IsBorn p past id = id < length (nodes_of p past)
