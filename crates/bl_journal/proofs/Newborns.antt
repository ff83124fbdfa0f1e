-- How the children of a split are stored.
use Rattle.std.proofs.Common.{◌≡◌, ℕ, ◌+◌, ◌%◌, ◌<◌, ◌≤◌, List, ◌∷◌, length, refl, ap, ◌∙◌, arith}
use Rattle.std.proofs.Common.{Bool, true, false, cond}
use Rattle.std.specs.Prelude.{◌==◌}
use Rattle.std.proofs.lemmas.Bool.{ne_eqb, cond-false}
use Rattle.bl_problem.specs.Program.{Program}
use Rattle.bl_problem.specs.declared.cut.Cut.{Cut}
use Rattle.bl_problem.specs.declared.decision.Decision.{Decision}
use Rattle.bl_desc.specs.declared.desc.Desc.{Desc}
use Rattle.bl_desc.specs.declared.desc.Form.{Form}
use Rattle.bl_desc.specs.declared.desc.Form.TheVariants.{Explicit as ExplicitForm}
use Rattle.bl_desc.specs.declared.desc.Form.TheVariants.{Relative as RelativeForm}
use Rattle.bl_desc.specs.declared.desc.Piece.TheVariants.{Relative}
use Rattle.bl_desc.specs.Changes.{difference}
use Rattle.bl_journal.specs.declared.entry.Entry.{Entry}
use Rattle.bl_journal.specs.declared.entry.Entry.TheVariants.{Take, Put, Back, Encode, Free}
use Rattle.bl_journal.specs.declared.settings.Settings.{Settings}
use Rattle.bl_journal.specs.Births.{Node, nodes_of, node_at, grown, root_node}
use Rattle.bl_journal.specs.Descriptions.{full_of, full_along}
use Rattle.bl_journal.specs.States.{encoded_form}
use Rattle.bl_journal.specs.Pieces.{stored_of, piece_in, difference_from, piece_below}
use Rattle.bl_journal.specs.Legality.{IsAllowed, IsLegalPast, SplitPut, split_entry, with_split}
use Rattle.bl_journal.specs.Laws.{ChildrenStored, newborn_piece}
use Rattle.bl_journal.proofs.Growth.{length-grown, get_or-grown}
use Rattle.bl_journal.proofs.Living.{each_past}
use Rattle.bl_journal.proofs.Leaves.{shape, out_born}
use Rattle.bl_journal.proofs.Births.{IsMade, left_decision, right_decision, left_made, right_made}

-- a node that is not born was never encoded
pub unborn_relative : (p : Program) (s : Settings) (past : List Entry) → IsLegalPast p s past
    → (id : ℕ) → length (nodes_of p past) ≤ id → encoded_form past id ≡ RelativeForm
unborn_relative p s = each_past p s (λ past. (id : ℕ) → length (nodes_of p past) ≤ id
    → encoded_form past id ≡ RelativeForm) (λ id h. refl) step
  where
    step : (past : List Entry) (e : Entry) → IsLegalPast p s past → IsAllowed p s past e
        → ((id : ℕ) → length (nodes_of p past) ≤ id → encoded_form past id ≡ RelativeForm)
        → (id : ℕ) → length (nodes_of p (e ∷ past)) ≤ id → encoded_form (e ∷ past) id ≡ RelativeForm
    step past (Take seat i) l a ih id h = ih id h
    step past (Back seat i) l a ih id h = ih id h
    step past (Free seat ids) l a ih id h = ih id h
    step past (Encode seat i form) l a ih id h =
        let b : i < length (nodes_of p past) = a.born in
        cond-false (i == id) form (encoded_form past id)
        (ne_eqb i id (λ e. omega (arith, e, b, h))) ∙ ih id h
    step past (Put seat i found low next) l a ih id h =
        let g : length (nodes_of p past) ≤ length
        (grown p (nodes_of p past) (Put seat i found low next)) =
        length-grown p (nodes_of p past) (Put seat i found low next) in
        ih id (omega (arith, g, h))

-- a child is stored as the span and its description say
pub child_stored : (p : Program) (s : Settings) (past : List Entry) (put : SplitPut p s past)
    (k : ℕ) (d : Decision) → IsLegalPast p s past → IsMade p s past put k d
    → stored_of p s (with_split put) k ≡ newborn_piece put k
child_stored p s past put k d legal made =
    ap (piece_in p (with_split put) k)
    (ap (λ (f : Form). cond ((node_at p (with_split put) k).depth % s.span == 0) ExplicitForm
    f) (unborn_relative p s past legal k made.new)
    ∙ ap (λ (n : Node). cond (n.depth % s.span == 0) ExplicitForm RelativeForm) made.is)
    ∙ by_test (((node_at p past put.id).depth + 1) % s.span == 0)
  where
    same : full_of p (with_split put) put.id ≡ full_of p past put.id
    same = ap (λ (m : Node). full_along p m.path) (get_or-grown p (nodes_of p past)
        (split_entry put) (root_node p) put.id
        (out_born p past put.id put.seat (shape p s past legal) put.may.is_out))

    by_test : (b : Bool) → piece_in p (with_split put) k (cond b ExplicitForm RelativeForm)
        ≡ piece_below (full_of p past put.id) (cond b ExplicitForm RelativeForm)
        (full_of p (with_split put) k)
    by_test true = refl
    by_test false =
        ap (λ (n : Node). difference_from p (with_split put) n.parent
        (full_of p (with_split put) k)) made.is
        ∙ ap (λ (d : Desc Cut). Relative
        (difference (λ (c : Cut). c.id) d (full_of p (with_split put) k))) same

pub children_stored : (p : Program) (s : Settings) (past : List Entry) (put : SplitPut p s past)
    → IsLegalPast p s past → ChildrenStored p s past put
children_stored p s past put legal =
    record {
      left = child_stored p s past put (length (nodes_of p past)) (left_decision put) legal
          (left_made p s past put);
      right = child_stored p s past put (length (nodes_of p past) + 1) (right_decision put) legal
          (right_made p s past put);
    }
