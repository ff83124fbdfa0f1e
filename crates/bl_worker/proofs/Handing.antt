-- The outcome of the work on a lease is handed in, or the lease is given back.
use Rattle.std.proofs.Common.{◌≡◌, ℕ, ◌++◌, ap, sym, subst}
use Rattle.std.specs.Prelude.{Option}
use Rattle.bl_problem.specs.Program.{Program}
use Rattle.bl_problem.specs.declared.cut.Cut.{Cut}
use Rattle.bl_desc.specs.declared.desc.Desc.{Desc}
use Rattle.bl_journal.specs.declared.entry.Entry.TheVariants.{Back}
use Rattle.bl_journal.specs.declared.outcome.Outcome.{Outcome}
use Rattle.bl_branch.specs.declared.place.Place.{Place}
use Rattle.bl_tree.specs.declared.answer.Born.{Born}
use Rattle.bl_tree.specs.Views.{TreeView, LeaseView, past_of, put_entry, IsLeaseOf, IsPutFor}
use Rattle.bl_shared.specs.Calls.{Knows, HasSeen, tree_at, tree_seen, PutsIn, BacksIn}
use Rattle.bl_search.specs.Places.{PutsAt}
use Rattle.bl_search.specs.Searches.{AreSerialsBelow, MayBeWorkedOn, IsWorkedOut}
use Rattle.bl_worker.specs.Splits.{SplitsOwnAt}
use Rattle.bl_worker.specs.Loops.{AreOwnSerialsBelow}
use Rattle.bl_worker.proofs.Serials.{found_serials}
use Rattle.bl_worker.proofs.Splitting.{call_places, puts_map}

-- a lease may be worked on at what the seat has seen
pub workable_now : (p : Program) (span n serial : ℕ) (v : Knows) (lease : LeaseView) → n
    ≡ v.number → HasSeen v → (tree_seen v).problem ≡ p → (tree_seen v).settings.span ≡ span
    → IsLeaseOf (tree_seen v) v.number lease → AreOwnSerialsBelow serial v
    → MayBeWorkedOn p span n serial lease (tree_seen v)
workable_now p span n serial v lease number h problem same leased serials =
    subst (λ (k : ℕ). MayBeWorkedOn p span k serial lease (tree_seen v)) (sym number)
    (record {
      legal = h.legal;
      problem = problem;
      span_is = same;
      leased = leased;
      serials =
          serials;
    })

-- the work was done by the seat's number
module _ (P : Desc Cut → Place → Type 0) (p : Program) (span n serial next : ℕ) (v : Knows)
    (lease : LeaseView) (o : Outcome) (number : n ≡ v.number)
    (problem : (tree_seen v).problem ≡ p) (same : (tree_seen v).settings.span ≡ span)
    (serials : AreOwnSerialsBelow serial v)
    (out : (t : TreeView) → MayBeWorkedOn p span n serial lease t
    → IsWorkedOut P p n next lease o t) where
  out_by : (t : TreeView) → MayBeWorkedOn p span v.number serial lease t
      → IsWorkedOut P p v.number next lease o t
  out_by = subst (λ (k : ℕ). (t : TreeView) → MayBeWorkedOn p span k serial lease t
      → IsWorkedOut P p k next lease o t) number out

  pub handed_fits : HasSeen v → IsLeaseOf (tree_seen v) v.number lease
      → IsPutFor (tree_seen v) v.number lease o
  handed_fits h leased =
      (out_by (tree_seen v) (record {
        legal = h.legal;
        problem = problem;
        span_is = same;
        leased =
            leased;
        serials = serials;
      })).fits

  module _ (w : Knows) (born : Option Born) (put : PutsIn v lease o born w) where
    -- where it is put in
    worked_out : IsWorkedOut P p v.number next lease o (tree_at v (v.seen ++ put.others))
    worked_out =
        out_by (tree_at v (v.seen ++ put.others)) (record {
          legal = put.legal;
          problem = problem;
          span_is = same;
          leased = put.called.0.leased;
          serials = found_serials v put.others serial put.none_own put.legal serials;
        })

    pub handed_serials : AreOwnSerialsBelow next w
    handed_serials =
        subst (λ (k : ℕ). AreSerialsBelow k next (past_of (tree_seen w)))
        (sym (ap (λ (u : Knows). u.number) put.is))
        (subst (λ (t : TreeView). AreSerialsBelow v.number next (past_of t)) (sym put.called.1)
        worked_out.serials)

    pub handed_places : (Q : Desc Cut → Place → Type 0)
        → ((d : Desc Cut) (place : Place) → P d place → Q d place) → SplitsOwnAt Q v
        → SplitsOwnAt Q w
    handed_places Q f =
        call_places Q v w (put_entry v.number lease.id o) _ put
        (puts_map P Q (tree_seen v).problem (past_of (tree_at v (v.seen ++ put.others)))
        (put_entry v.number lease.id o) f
        (subst (λ (q : Program). PutsAt P q (past_of (tree_at v (v.seen ++ put.others)))
        (put_entry v.number lease.id o)) (sym problem) worked_out.places))

pub back_places : (P : Desc Cut → Place → Type 0) (v w : Knows) (lease : LeaseView)
    → BacksIn v lease w → SplitsOwnAt P v → SplitsOwnAt P w
back_places P v w lease b = call_places P v w (Back v.number lease.id) _ b tt
