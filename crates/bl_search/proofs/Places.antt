-- Each split of the history is at a place that the rule answers.
use Rattle.std.proofs.Common.{◌≡◌, ℕ, List, [], ◌∷◌, ◌++◌, sym, subst, inl, inr, ◌⊎◌}
use Rattle.bl_problem.specs.Program.{Program}
use Rattle.bl_problem.specs.declared.cut.Cut.{Cut}
use Rattle.bl_desc.specs.declared.desc.Desc.{Desc}
use Rattle.bl_desc.specs.declared.desc.Form.{Form}
use Rattle.bl_desc.specs.Changes.{changed}
use Rattle.bl_desc.proofs.Canonical.{changed-difference}
use Rattle.bl_journal.specs.declared.entry.Entry.{Entry}
use Rattle.bl_journal.specs.declared.entry.Entry.TheVariants.{Take, Put, Back, Encode, Free}
use Rattle.bl_journal.specs.declared.outcome.Outcome.{Outcome}
use Rattle.bl_journal.specs.declared.outcome.Next.{Next}
use Rattle.bl_journal.specs.declared.outcome.Next.TheVariants.{Shut}
use Rattle.bl_journal.specs.Descriptions.{full_of}
use Rattle.bl_journal.specs.Legality.{step_of}
use Rattle.bl_journal.specs.Tidying.{IsUpkeepBy}
use Rattle.bl_journal.proofs.Growth.{reverse-push}
use Rattle.bl_journal.proofs.Living.{Each}
use Rattle.bl_tree.specs.Views.{TreeView, past_of, extended, put_entry}
use Rattle.bl_branch.specs.declared.place.Place.{Place}
use Rattle.bl_branch.specs.Calls.{Calls}
use Rattle.bl_node.specs.Standing.{IsNode}
use Rattle.bl_node.specs.Outcomes.{common_of}
use Rattle.bl_node.specs.Promise.{SplitsAsPromised}
use Rattle.bl_search.specs.Places.{IsPlaced, MayAnswer, PutsAt, SplitsAt}
use Rattle.bl_search.specs.Searches.{IsKeptUp}
use Rattle.bl_search.proofs.Tidying.{each_upkeep}

-- encodings and freeings split nothing
pub kept_places : (P : Desc Cut → Place → Type 0) (p : Program) (old new : TreeView)
    → IsKeptUp old new → SplitsAt P p (past_of old) → SplitsAt P p (past_of new)
kept_places P p old new k h =
    subst (SplitsAt P p) (sym k.past) (more k.entries (each_upkeep old new k))
  where
    at_once : (past : List Entry) (e : Entry) → IsUpkeepBy 0 e → PutsAt P p past e
    at_once past (Encode seat id form) u = tt
    at_once past (Free seat ids) u = tt
    at_once past (Take seat id) u = absurd u
    at_once past (Put seat id found low next) u = absurd u
    at_once past (Back seat id) u = absurd u

    more : (entries : List Entry) → Each (IsUpkeepBy 0) entries
        → SplitsAt P p (entries ++ past_of old)
    more [] u = h
    more (e ∷ entries) u = (at_once (entries ++ past_of old) e u.0, more entries u.1)

-- nor does a take
pub taken_places : (P : Desc Cut → Place → Type 0) (p : Program) (t : TreeView) (seat id : ℕ)
    → SplitsAt P p (past_of t) → SplitsAt P p (past_of (extended t (Take seat id)))
taken_places P p t seat id h = subst (SplitsAt P p) (sym (reverse-push t.history (Take seat id)))
    (tt, h)

-- the node is shut, or split at a place that the rule answers
abbrev pub IsShutOrSplit : {F : Type 0} → Calls F → F → Program → Desc Cut → Form → Outcome → Type 0
IsShutOrSplit g closure p f form o = (o.next ≡ Shut) ⊎ SplitsAsPromised g closure p f form o

-- so the place is one for the description after the common change
promised_place : {F : Type 0} (g : Calls F) (closure : F) (p : Program) (f : Desc Cut)
    (form : Form) (o : Outcome) → IsNode p f → IsShutOrSplit g closure p f form o
    → IsPlaced (MayAnswer g closure) f (step_of o.next)
promised_place g closure p f form o node (inl e) =
    subst (λ (n : Next). IsPlaced (MayAnswer g closure) f (step_of n)) (sym e) tt
promised_place g closure p f form o node (inr k) =
    let d : Desc Cut = k.work.desc in
    let after : changed (common_of f d) f ≡ d =
    changed-difference (λ (c : Cut). c.id) f d node.whole k.narrows.whole k.narrows.low_width
    (sym k.narrows.rows) k.narrows.part in
    subst (λ (n : Next). IsPlaced (MayAnswer g closure) f (step_of n)) (sym k.is.next)
    (subst (λ (x : Desc Cut). MayAnswer g closure x
    (record { column = k.place.column; at = k.place.at })) (sym after) (k.point, k.answers))

pub put_places : {F : Type 0} (g : Calls F) (closure : F) (t : TreeView) (seat id : ℕ)
    (form : Form) (o : Outcome) → IsNode t.problem (full_of t.problem (past_of t) id)
    → IsShutOrSplit g closure t.problem (full_of t.problem (past_of t) id) form o
    → PutsAt (MayAnswer g closure) t.problem (past_of t) (put_entry seat id o)
put_places g closure t seat id form o node k =
    promised_place g closure t.problem (full_of t.problem (past_of t) id) form o node k

-- one more put
pub places_on : (P : Desc Cut → Place → Type 0) (p : Program) (t : TreeView) (e : Entry)
    → PutsAt P p (past_of t) e → SplitsAt P p (past_of t) → SplitsAt P p (past_of (extended t e))
places_on P p t e placed before =
    subst (SplitsAt P p) (sym (reverse-push t.history e)) (placed, before)
