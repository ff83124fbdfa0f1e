-- Induction over the nodes of legal histories, whose last entry comes first.
use Rattle.std.proofs.Common.{◌≡◌, ℕ, zero, suc, ◌<◌, List, [], ◌∷◌, sym, subst, arith, inl, inr}
use Rattle.bl_problem.specs.Program.{Program}
use Rattle.bl_problem.specs.declared.decision.Decision.{Decision}
use Rattle.bl_journal.specs.declared.entry.Entry.{Entry}
use Rattle.bl_journal.specs.declared.entry.Entry.TheVariants.{Take, Put, Back, Encode, Free}
use Rattle.bl_journal.specs.declared.entry.Step.TheVariants.{Shut, Split}
use Rattle.bl_journal.specs.declared.settings.Settings.{Settings}
use Rattle.bl_journal.specs.Births.{Node, Branch, node_at, nodes_of, root_node, child}
use Rattle.bl_journal.specs.Births.{left_branch, right_branch, IsBorn}
use Rattle.bl_journal.specs.States.{state_of}
use Rattle.bl_journal.specs.declared.state.State.TheVariants.{Out as out}
use Rattle.bl_journal.specs.Legality.{IsAllowed, IsLegalPast, SplitPut, with_split}
use Rattle.bl_journal.proofs.Living.{Given, take_gives, each_past}
use Rattle.bl_journal.proofs.Leaves.{shape, out_born, out_before, left_of, right_of, after_split}

-- the step of a split down to the child by this decision, and that child
abbrev pub branch_by : {p : Program} {s : Settings} {past : List Entry} → SplitPut p s past
    → Decision → Branch
branch_by {p} {s} {past} put d = record { common = put.common; decision = d }

abbrev pub child_by : {p : Program} {s : Settings} {past : List Entry} → SplitPut p s past
    → Decision → Node
child_by {p} {s} {past} put d = child (node_at p past put.id) put.id put.low (branch_by put d)

-- the root has it, a node keeps it under an allowed entry, and a child of a split gets it from
-- its parent
pub record IsInherited (p : Program) (s : Settings) (Q : List Entry → ℕ → Node → Type 0) : Type 0
  where
    pub root : Q [] 0 (root_node p)
    pub kept : (past : List Entry) (e : Entry) → IsLegalPast p s past → IsAllowed p s past e
        → (id : ℕ) → IsBorn p past id → Q past id (node_at p past id)
        → Q (e ∷ past) id (node_at p past id)
    pub handed : (past : List Entry) (put : SplitPut p s past) → IsBorn p past put.id
        → Q past put.id (node_at p past put.id)
        → (d : Decision) (id : ℕ) → put.id < id → Q (with_split put) id (child_by put d)

-- each node that is born has what is inherited
pub each_node : (p : Program) (s : Settings) (Q : List Entry → ℕ → Node → Type 0)
    → IsInherited p s Q
    → (past : List Entry) → IsLegalPast p s past → (id : ℕ) → IsBorn p past id
    → Q past id (node_at p past id)
each_node p s Q h = each_past p s (λ past. (id : ℕ) → IsBorn p past id
    → Q past id (node_at p past id)) first step
  where
    first : (id : ℕ) → IsBorn p [] id → Q [] id (node_at p [] id)
    first zero born = h.root
    first (suc id) born = absurd (omega (arith, born))

    step : (past : List Entry) (e : Entry) → IsLegalPast p s past → IsAllowed p s past e
        → ((id : ℕ) → IsBorn p past id → Q past id (node_at p past id))
        → (id : ℕ) → IsBorn p (e ∷ past) id → Q (e ∷ past) id (node_at p (e ∷ past) id)
    step past (Take seat i) l a ih id born = h.kept past (Take seat i) l a id born (ih id born)
    step past (Back seat i) l a ih id born = h.kept past (Back seat i) l a id born (ih id born)
    step past (Encode seat i form) l a ih id born =
        h.kept past (Encode seat i form) l a id born (ih id born)
    step past (Free seat ids) l a ih id born = h.kept past (Free seat ids) l a id born (ih id born)
    step past (Put seat i found low Shut) l a ih id born =
        h.kept past (Put seat i found low Shut) l a id born (ih id born)
    step past (Put seat i found low (Split common column at)) l a ih id born =
        let put : SplitPut p s past = record {
          seat = seat;
          id = i;
          found = found;
          low =
              low;
          common = common;
          column = column;
          at = at;
          may = a;
        } in
        let parent : IsBorn p past i = out_born p past i seat (shape p s past l) a.is_out in
        after_split (nodes_of p past) (left_of (node_at p past i) i low common column at)
        (right_of (node_at p past i) i low common column at) (root_node p) id
        (λ n. Q (with_split put) id n)
        (λ k. h.kept past (Put seat i found low (Split common column at)) l a id k (ih id k))
        (λ e. h.handed past put parent (ih i parent) (left_branch common column at).decision id
        (omega (arith, e, parent)))
        (λ e. h.handed past put parent (ih i parent) (right_branch common column at).decision id
        (omega (arith, e, parent)))
        born

-- what a node gets when it is taken, and keeps under each entry while it is out, it has while it
-- is out
pub each_out : (p : Program) (s : Settings) (Q : List Entry → ℕ → Type 0)
    → ((past : List Entry) (seat id : ℕ) → Given p s past id → Q (Take seat id ∷ past) id)
    → ((past : List Entry) (e : Entry) (id : ℕ) → IsBorn p past id → Q past id → Q (e ∷ past) id)
    → (past : List Entry) → IsLegalPast p s past → (id seat : ℕ) → state_of past id ≡ out seat
    → Q past id
each_out p s Q taken kept = each_past p s (λ past. (id seat : ℕ) → state_of past id ≡ out seat
    → Q past id) (λ id seat o. cc) step
  where
    step : (past : List Entry) (e : Entry) → IsLegalPast p s past → IsAllowed p s past e
        → ((id seat : ℕ) → state_of past id ≡ out seat → Q past id)
        → (id seat : ℕ) → state_of (e ∷ past) id ≡ out seat → Q (e ∷ past) id
    step past e l a ih id seat o =
        elim (out_before past e id seat o) [
          | inl is ↦ subst (λ (x : Entry). Q (x ∷ past) id) (sym is)
              (taken past seat id (take_gives p s past id (subst (IsAllowed p s past) is a)))
          | inr before ↦ kept past e id (out_born p past id seat (shape p s past l) before)
              (ih id seat before)
        ]
