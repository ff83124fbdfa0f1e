-- The names of the cuts that a seat adds.
use Rattle.std.proofs.Common.{◌≡◌, ℕ, ◌+◌, ◌<◌, ◌≤◌, List, [], ◌∷◌, length, map, refl, ap, sym}
use Rattle.std.proofs.Common.{subst, arith, All}
use Rattle.std.specs.Prelude.{Contains}
use Rattle.std.proofs.lemmas.List.Elements.{All-contains}
use Rattle.bl_mods.specs.declared.mods.ItemId.{ItemId}
use Rattle.bl_problem.specs.declared.cut.Cut.{Cut}
use Rattle.bl_journal.specs.declared.entry.Entry.{Entry}
use Rattle.bl_journal.specs.declared.entry.Entry.TheVariants.{Take}
use Rattle.bl_journal.specs.declared.outcome.Outcome.{Outcome}
use Rattle.bl_journal.specs.declared.outcome.Next.{Next}
use Rattle.bl_journal.specs.declared.outcome.Next.TheVariants.{Shut, Split}
use Rattle.bl_journal.specs.Legality.{ids_added, added_by_step, step_of, IsNewId}
use Rattle.bl_journal.proofs.Growth.{reverse-push}
use Rattle.bl_journal.proofs.Living.{Each, Each-append, Each-weaken}
use Rattle.bl_journal.proofs.Workable.{Each-from_all, All-from_each}
use Rattle.bl_journal.proofs.Upkeep.{untouched}
use Rattle.bl_tree.specs.Views.{TreeView, past_of, extended, put_entry}
use Rattle.bl_node.specs.declared.limits.Limits.{Limits}
use Rattle.bl_node.specs.Names.{AreNumbered, AreNamedBelow}
use Rattle.bl_node.specs.Promise.{added_in}
use Rattle.bl_search.specs.Searches.{AreSerialsBelow, IsKeptUp}
use Rattle.bl_search.proofs.Tidying.{each_upkeep, at_new}

-- an id of the seat has a serial number below this one
abbrev pub IsBelow : ℕ → ℕ → ItemId → Type 0
IsBelow seat serial id = id.seat ≡ seat → id.serial < serial

pub below_more : (seat a b : ℕ) (past : List Entry) → a ≤ b → AreSerialsBelow seat a past
    → AreSerialsBelow seat b past
below_more seat a b past l h = λ i d m s. let k = h i d m s in omega (arith, k, l)

-- the cuts of a description whose ids were added
pub named_below : (seat serial : ℕ) (past : List Entry) (cuts : List Cut)
    → AreSerialsBelow seat serial past → All (λ (c : Cut). Contains (ids_added past) c.id) cuts
    → AreNamedBelow seat serial cuts
named_below seat serial past cuts h a =
    λ i d l s. All-contains (IsBelow seat serial) (ids_added past) _ h (a i d l) s

-- ids that are numbered on
numbered_below : (seat serial n : ℕ) (cuts : List Cut) → AreNumbered seat serial cuts → serial
    + length cuts ≤ n → Each (IsBelow seat n) (map (λ (c : Cut). c.id) cuts)
numbered_below seat serial n [] a l = tt
numbered_below seat serial n (c ∷ cuts) a l = (
  (λ s. let e : c.id.serial ≡ serial = ap (λ (k : ItemId). k.serial) a.0 in omega
      (arith, e, l)),
  numbered_below seat (serial + 1) n cuts a.1 (omega (arith, l)),
)

-- they are new where all others are below
pub numbered_new : (seat serial : ℕ) (past : List Entry) (cuts : List Cut) (from : ℕ)
    → AreNumbered seat from cuts → serial ≤ from → AreSerialsBelow seat serial past
    → All (λ (c : Cut). IsNewId past seat c.id) cuts
numbered_new seat serial past cuts from a l h =
    All-from_each (λ (c : Cut). IsNewId past seat c.id) cuts (each cuts from a l)
  where
    each : (cuts : List Cut) (from : ℕ) → AreNumbered seat from cuts → serial ≤ from
        → Each (λ (c : Cut). IsNewId past seat c.id) cuts
    each [] from a l = tt
    each (c ∷ cuts) from a l =
        let own : c.id.seat ≡ seat = ap (λ (k : ItemId). k.seat) a.0 in
        let number : c.id.serial ≡ from = ap (λ (k : ItemId). k.serial) a.0 in (
          (
            own,
            λ held. let k = All-contains (IsBelow seat serial) (ids_added past) c.id h held own
                in omega (arith, k, number, l),
          ),
          each cuts (from + 1) a.1 (omega (arith, l)),
        )

-- the step of the journal adds the cuts of the outcome
pub added_step : (next : Next) → added_by_step (step_of next) ≡ added_in next
added_step Shut = refl
added_step (Split common column at left right) = refl

-- after the put of an outcome
pub below_put : (seat serial n id : ℕ) (limits : Limits) (t : TreeView) (o : Outcome)
    → limits.seat ≡ seat → limits.serial ≡ serial
    → AreNumbered limits.seat limits.serial (added_in o.next) → length (added_in o.next)
    ≤ limits.new_cuts
    → serial + limits.new_cuts ≤ n → AreSerialsBelow seat serial (past_of t)
    → AreSerialsBelow seat n (past_of (extended t (put_entry seat id o)))
below_put seat serial n id limits t o own e a few l h =
    let old = Each-weaken (IsBelow seat serial) (IsBelow seat n) (λ k b s. let m =
    b s in omega (arith, m, l)) (ids_added (past_of t))
    (Each-from_all (IsBelow seat serial) (ids_added (past_of t)) h) in
    let numbered = subst (λ (k : ℕ). AreNumbered k limits.serial (added_in o.next)) own a in
    let new = numbered_below seat limits.serial n (added_in o.next) numbered
    (omega (arith, e, l, few)) in
    let new2 = subst (λ (cuts : List Cut). Each (IsBelow seat n) (map (λ (c : Cut). c.id) cuts))
    (sym (added_step o.next)) new in
    subst (AreSerialsBelow seat n) (sym (reverse-push t.history (put_entry seat id o)))
    (All-from_each (IsBelow seat n) _ (Each-append (IsBelow seat n)
    (map (λ (c : Cut). c.id) (added_by_step (step_of o.next))) (ids_added (past_of t)) new2
    old))

-- after a take
pub below_take : (serial id : ℕ) (t : TreeView) → AreSerialsBelow 0 serial (past_of t)
    → AreSerialsBelow 0 serial (past_of (extended t (Take 0 id)))
below_take serial id t h =
    subst (AreSerialsBelow 0 serial) (sym (reverse-push t.history (Take 0 id))) h

-- after encodings and freeings
pub below_kept : (serial : ℕ) (old new : TreeView) → IsKeptUp old new
    → AreSerialsBelow 0 serial (past_of old) → AreSerialsBelow 0 serial (past_of new)
below_kept serial old new k h =
    at_new (λ p s past. AreSerialsBelow 0 serial past) old new k
    (subst (λ (ids : List ItemId). All (IsBelow 0 serial) ids)
    (sym (untouched old.problem 0 (past_of old) k.entries (each_upkeep old new k)).ids) h)
