-- What a seat knows of a shared tree, and what a call does: the call of the tree, at its place
-- in the one history.
use Rattle.std.specs.Prelude.{◌≡◌, ℕ, pos, List, [], ◌∷◌, ◌++◌, Option, Some, None}
use Rattle.bl_pool.specs.declared.key.Order.TheVariants.{Best}
use Rattle.bl_problem.specs.declared.problem.Sense.TheVariants.{Min}
use Rattle.bl_desc.specs.declared.desc.Form.{Form}
use Rattle.bl_journal.specs.declared.entry.Entry.{Entry}
use Rattle.bl_journal.specs.declared.entry.Entry.TheVariants.{Take, Back, Encode, Free}
use Rattle.bl_journal.specs.declared.outcome.Outcome.{Outcome}
use Rattle.bl_journal.specs.Legality.{seat_of}
use Rattle.bl_tree.specs.declared.lease.Taken.{Taken}
use Rattle.bl_tree.specs.declared.lease.Taken.TheVariants.{Node, Idle, Done, Spent}
use Rattle.bl_tree.specs.declared.answer.Born.{Born}
use Rattle.bl_tree.specs.declared.answer.Glance.{Glance}
use Rattle.bl_tree.specs.declared.answer.Freed.{Freed}
use Rattle.bl_tree.specs.declared.answer.Freed.TheVariants.{Chain, Nothing}
use Rattle.bl_tree.specs.declared.plan.Planned.{Planned}
use Rattle.bl_tree.specs.declared.plan.Installed.{Installed}
use Rattle.bl_tree.specs.declared.plan.Installed.TheVariants.{Made, Same, Gone}
use Rattle.bl_tree.specs.Views.{TreeView, LeaseView, IsLegalTree, IsLeaseOf, IsPutFor, extended}
use Rattle.bl_tree.specs.Views.{put_entry}
use Rattle.bl_tree.specs.Answers.{born_for, glance_for}
use Rattle.bl_tree.specs.Calls.{Takes, Plans, Installs, Frees}
use Rattle.bl_tree.specs.Jobs.{JobView}
use Rattle.bl_turn.specs.declared.view.View.{View}
use Rattle.bl_turn.specs.declared.seat.Seat.{Seat}
use Rattle.bl_turn.specs.declared.told.Told.{Ghosts}
use Rattle.bl_turn.specs.Entries.{entries_by, NoneBy, FromOneTo}
use Rattle.bl_turn.specs.Views.{first_view}
use Rattle.bl_turn.specs.Seats.{view_of, IsOf, IsAway}
use Rattle.bl_shared.specs.declared.locked.TreeBase.{TreeBase}
use Rattle.bl_shared.specs.declared.locked.LockedTree.{LockedTree}
use Rattle.bl_shared.specs.declared.shared.SharedTree.{SharedTree}

-- what a seat knows
abbrev pub Knows : Type 0
Knows = View Entry TreeBase

abbrev pub base_of_tree : TreeView → TreeBase
base_of_tree t = record { problem = t.problem; settings = t.settings }

-- what seat 0 knows where the tree is shared
abbrev pub first_seat : TreeView → Knows
first_seat t = first_view seat_of t.history (base_of_tree t)

-- stands where a seat has no base; each seat of a tree has one
abbrev pub no_base : TreeBase
no_base =
    record {
      problem = record {
        columns = [];
        rows = [];
        objective = [];
        scale = 0;
        offset =
            pos 0;
        sense = Min;
      };
      settings = record { nodes = 0; span = 1; order = Best; gap = pos 0 };
    }

abbrev pub base_in : Option TreeBase → TreeBase
base_in None = no_base
base_in (Some b) = b

-- the tree at a history
abbrev pub tree_at : Knows → List Entry → TreeView
tree_at v history =
    record {
      problem = (base_in v.base).problem;
      settings = (base_in v.base).settings;
      history = history;
    }

-- the tree at the history that the seat has seen
abbrev pub tree_seen : Knows → TreeView
tree_seen v = tree_at v v.seen

-- what the seat has seen is legal, and its own entries in it are `mine`
pub record HasSeen (v : Knows) : Type 0 where
  pub legal : IsLegalTree (tree_seen v)
  pub own : entries_by seat_of v.number v.seen ≡ v.mine

-- it is a seat of this tree, and no call of it goes on
abbrev pub IsSeatOf : {g : Ghosts LockedTree Entry TreeBase}
    → SharedTree → Seat LockedTree Entry TreeBase g → Type 0
IsSeatOf t p = IsOf t.turn p × IsAway p × HasSeen (view_of p)

-- what the seat knows after others added entries, and then it did
abbrev pub turned : Knows → List Entry → List Entry → Knows
turned v others added = record v { seen = (v.seen ++ others) ++ added; mine = v.mine ++ added }

-- One turn. The history had gone on from what the seat had seen, by entries of others, which to
-- seat 0 are seats that it gave, and it was legal. There the tree's call was made, which added
-- these entries. The seat has then seen the whole history
pub record IsCall (v : Knows) (added : List Entry) (call : TreeView → TreeView → Type 0)
    (w : Knows) : Type 0 where
  pub others : List Entry
  pub none_own : NoneBy seat_of v.number others
  pub from_given : v.number ≡ 0 → FromOneTo seat_of v.given others
  pub is : w ≡ turned v others added
  pub called : call (tree_at v (v.seen ++ others)) (tree_seen w)
  pub legal : IsLegalTree (tree_at v (v.seen ++ others))

-- a call that only reads, or that found no memory
abbrev pub LooksIn : Knows → Knows → Type 0
LooksIn v w = IsCall v [] (λ old new. new ≡ old) w

abbrev pub entries_of_take : ℕ → Taken → List Entry
entries_of_take seat (Node lease) = Take seat lease.id ∷ []
entries_of_take seat Idle = []
entries_of_take seat Done = []
entries_of_take seat Spent = []

abbrev pub TakesIn : Knows → Taken → Knows → Type 0
TakesIn v taken w =
    IsCall v (entries_of_take v.number taken) (λ old new. Takes old v.number taken new) w

-- the outcome may still be put, and it is
abbrev pub PutsIn : Knows → LeaseView → Outcome → Option Born → Knows → Type 0
PutsIn v lease outcome born w =
    IsCall v (put_entry v.number lease.id outcome ∷ [])
    (λ old new. IsPutFor old v.number lease outcome
    × (new ≡ extended old (put_entry v.number lease.id outcome))
    × (born ≡ born_for old outcome.next)) w

-- the lease is still the seat's, and its node is given back
abbrev pub BacksIn : Knows → LeaseView → Knows → Type 0
BacksIn v lease w =
    IsCall v (Back v.number lease.id ∷ [])
    (λ old new. IsLeaseOf old v.number lease × (new ≡ extended old (Back v.number lease.id))) w

-- a plan only reads
abbrev pub PlansIn : Knows → ℕ → Form → Planned → Knows → Type 0
PlansIn v id form planned w = IsCall v [] (λ old new. (new ≡ old) × Plans old id form planned) w

abbrev pub entries_of_install : ℕ → JobView → Installed → List Entry
entries_of_install seat job Made = Encode seat job.id job.form ∷ []
entries_of_install seat job Same = []
entries_of_install seat job Gone = []

abbrev pub InstallsIn : Knows → JobView → Installed → Knows → Type 0
InstallsIn v job answer w =
    IsCall v (entries_of_install v.number job answer)
    (λ old new. Installs old v.number job answer new) w

abbrev pub entries_of_free : ℕ → Freed → List Entry
entries_of_free seat (Chain ids) = Free seat ids ∷ []
entries_of_free seat Nothing = []

abbrev pub FreesIn : Knows → Freed → Knows → Type 0
FreesIn v answer w =
    IsCall v (entries_of_free v.number answer) (λ old new. Frees old v.number answer new) w

abbrev pub GlancesIn : Knows → Glance → Knows → Type 0
GlancesIn v glance w = IsCall v [] (λ old new. (new ≡ old) × (glance ≡ glance_for new)) w
