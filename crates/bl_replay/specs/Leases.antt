-- The leases that are kept while a journal is gone through.
use Rattle.std.specs.Prelude.{◌≡◌, ℕ, Option, Some, None}
use Rattle.std.specs.Ordering.{nat_cmp}
use Rattle.std.specs.BTreeMap.{BTreeMap, get}
use Rattle.bl_journal.specs.States.{state_of}
use Rattle.bl_journal.specs.declared.state.State.TheVariants.{Out as out}
use Rattle.bl_tree.specs.Views.{TreeView, past_of, LeaseView, IsLeaseOf}

-- there is a lease, and it is the seat's lease of the node
abbrev pub IsLeaseAt : TreeView → ℕ → ℕ → Option LeaseView → Type 0
IsLeaseAt t seat id None = ⊥
IsLeaseAt t seat id (Some lease) = (lease.id ≡ id) × IsLeaseOf t seat lease

-- each node that is out has its lease here
abbrev pub HasLeases : TreeView → BTreeMap ℕ LeaseView → Type 0
HasLeases t leases = (id seat : ℕ) → state_of (past_of t) id ≡ out seat
    → IsLeaseAt t seat id (get nat_cmp leases id)
