-- What a split gives its children.
use Rattle.std.proofs.Common.{◌≡◌, ℕ, ◌+◌, ◌≤◌, List, [], ◌∷◌, length, length-append, refl, ap}
use Rattle.std.proofs.Common.{◌∙◌, arith}
use Rattle.std.specs.Prelude.{pos, ◌+ℤ◌, ◌≤ℤ◌, slice_index_or}
use Rattle.std.proofs.lemmas.Int.{ints}
use Rattle.std.proofs.lemmas.List.{get_or_at, get_or-append-add}
use Rattle.bl_problem.specs.Program.{Program}
use Rattle.bl_problem.specs.declared.decision.Decision.{Decision}
use Rattle.bl_problem.specs.declared.decision.Side.TheVariants.{AtLeast, AtMost}
use Rattle.bl_desc.specs.Changes.{changed}
use Rattle.bl_journal.specs.declared.entry.Entry.{Entry}
use Rattle.bl_journal.specs.declared.settings.Settings.{Settings}
use Rattle.bl_journal.specs.Births.{Node, nodes_of, node_at, root_node, IsBorn}
use Rattle.bl_journal.specs.Descriptions.{full_of, full_along}
use Rattle.bl_journal.specs.Legality.{SplitPut, with_split}
use Rattle.bl_journal.specs.Laws.{ChildrenAre}
use Rattle.bl_journal.proofs.Induction.{branch_by, child_by}
use Rattle.bl_journal.proofs.Children.{bound_set, Cuts, full_along-push}

abbrev pub left_decision : {p : Program} {s : Settings} {past : List Entry} → SplitPut p s past
    → Decision
left_decision {p} {s} {past} put = record { column = put.column; side = AtMost; value = put.at }

abbrev pub right_decision : {p : Program} {s : Settings} {past : List Entry} → SplitPut p s past
    → Decision
right_decision {p} {s} {past} put =
    record { column = put.column; side = AtLeast; value = put.at +ℤ pos 1 }

-- the split makes the node k by the decision, which lies strictly inside the box
pub record IsMade (p : Program) (s : Settings) (past : List Entry) (put : SplitPut p s past)
    (k : ℕ) (d : Decision) : Type 0 where
  pub new : length (nodes_of p past) ≤ k
  pub born : IsBorn p (with_split put) k
  pub is : node_at p (with_split put) k ≡ child_by put d
  pub inside : Cuts d.side (changed put.common (full_of p past put.id)) d.column d.value

pub left_made : (p : Program) (s : Settings) (past : List Entry) (put : SplitPut p s past)
    → IsMade p s past put (length (nodes_of p past)) (left_decision put)
left_made p s past put =
    let two : List Node = child_by put (left_decision put) ∷ child_by put (right_decision put)
    ∷ [] in
    record {
      new = omega arith;
      born = let len = length-append (nodes_of p past) two in omega (arith, len);
      is = get_or_at (nodes_of p past) (child_by put (left_decision put))
          (child_by put (right_decision put) ∷ []) (root_node p) (length (nodes_of p past)) refl;
      inside = put.may.sound.next_ok.below_high;
    }

pub right_made : (p : Program) (s : Settings) (past : List Entry) (put : SplitPut p s past)
    → IsMade p s past put (length (nodes_of p past) + 1) (right_decision put)
right_made p s past put =
    let two : List Node = child_by put (left_decision put) ∷ child_by put (right_decision put)
    ∷ [] in
    let least : slice_index_or (changed put.common (full_of p past put.id)).lows put.column
    (pos 0) ≤ℤ put.at = put.may.sound.next_ok.low_at_most in
    record {
      new = omega arith;
      born = let len = length-append (nodes_of p past) two in omega (arith, len);
      is = get_or-append-add (nodes_of p past) two 1 (root_node p);
      inside = omega (arith, ints, least);
    }

-- a child has the node's description after the common change, with the one bound set
pub child_follows : (p : Program) (s : Settings) (past : List Entry) (put : SplitPut p s past)
    (k : ℕ) (d : Decision) → IsMade p s past put k d
    → full_of p (with_split put) k ≡ bound_set d.side (changed put.common (full_of p past put.id))
    d.column d.value
child_follows p s past put k d made =
    ap (λ (n : Node). full_along p n.path) made.is
    ∙ full_along-push p (node_at p past put.id).path (branch_by put d)
    put.may.sound.next_ok.common_fits made.inside

pub children_follow : (p : Program) (s : Settings) (past : List Entry) (put : SplitPut p s past)
    → ChildrenAre p s past put
children_follow p s past put =
    record {
      left = child_follows p s past put (length (nodes_of p past)) (left_decision put)
          (left_made p s past put);
      right = child_follows p s past put (length (nodes_of p past) + 1) (right_decision put)
          (right_made p s past put);
    }
