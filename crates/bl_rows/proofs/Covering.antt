-- A tree of the covering problem whose root was taken: what its split's outcome and the lease are.
use Rattle.std.proofs.Common.{◌≡◌, ℕ, Option, Some, None, [], refl, ap, sym, ◌∙◌, subst}
use Rattle.bl_journal.specs.declared.entry.Entry.TheVariants.{Take}
use Rattle.bl_journal.specs.declared.entry.Step.TheVariants.{Split}
use Rattle.bl_desc.specs.Changes.{nothing}
use Rattle.std.specs.Prelude.{pos, ℤ, IfSome}
use Rattle.bl_journal.specs.Covering.{covering, with_gap, point_if, low_if, IsRange, split_root}
use Rattle.bl_journal.specs.Replies.{Reply, take_reply, gives, idle, done, spent}
use Rattle.bl_journal.specs.Legality.{MayPut}
use Rattle.bl_journal.proofs.Rows.{root_taken, first_take, split_may}
use Rattle.bl_tree.specs.Views.{TreeView, LeaseView, IsLeaseOf, IsPutFor, PiecesStored, extended}
use Rattle.bl_tree.specs.Views.{put_entry, past_of}
use Rattle.bl_tree.specs.Calls.{IsTaken}

abbrev pub open_tree : ℤ → TreeView
open_tree gap = record { problem = covering; settings = with_gap gap; history = [] }

abbrev pub taken_tree : ℤ → TreeView
taken_tree gap = record { problem = covering; settings = with_gap gap; history = root_taken }

abbrev given : Reply → ℕ
given (gives id) = id
given idle = 0
given done = 0
given spent = 0

-- the first take gives the root
pub root_given : (gap : ℤ) (old new : TreeView) (lease : LeaseView) → old ≡ open_tree gap
    → IsTaken old 0 lease new → lease.id ≡ 0
root_given gap old new lease is taken =
    ap given (sym (subst (λ (t : TreeView). take_reply t.problem t.settings (past_of t)
    ≡ gives lease.id) is taken.reply) ∙ first_take gap)

pub taken_is : (gap : ℤ) (old new : TreeView) (lease : LeaseView) → old ≡ open_tree gap
    → IsTaken old 0 lease new → new ≡ taken_tree gap
taken_is gap old new lease is taken =
    taken.entry ∙ (ap (λ (t : TreeView). extended t (Take 0 lease.id)) is
    ∙ ap (λ (id : ℕ). extended (open_tree gap) (Take 0 id))
    (root_given gap old new lease is taken))

pieces_stored : (gap : ℤ) (found : Option ℤ)
    → PiecesStored (extended (taken_tree gap) (put_entry 0 0 (split_root found)))
    (split_root found).next
pieces_stored gap (Some y) = (refl, refl)
pieces_stored gap None = (refl, refl)

-- the root may be split with a point or without one
pub split_fits : (gap : ℤ) (lease : LeaseView) (found : Option ℤ) → IfSome found IsRange
    → IsLeaseOf (taken_tree gap) 0 lease → lease.id ≡ 0
    → IsPutFor (taken_tree gap) 0 lease (split_root found)
split_fits gap lease found range leased root =
    record {
      leased = leased;
      allowed = subst (λ (id : ℕ). MayPut covering (with_gap gap) root_taken 0 id (point_if found)
          (low_if found) (Split nothing 0 (pos 4))) (sym root)
          (split_may (with_gap gap) found range);
      pieces = subst
          (λ (id : ℕ). PiecesStored (extended (taken_tree gap)
          (put_entry 0 id (split_root found))) (split_root found).next) (sym root)
          (pieces_stored gap found);
    }
