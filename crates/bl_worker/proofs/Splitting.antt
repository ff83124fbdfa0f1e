-- Each split of a seat is at a place that is allowed.
use Rattle.std.proofs.Common.{◌≡◌, ◌≢◌, ℕ, List, [], ◌∷◌, ◌++◌, sym, ◌∙◌, subst, append-nil}
use Rattle.std.specs.Prelude.{reverse}
use Rattle.std.proofs.lemmas.List.{reverse-append}
use Rattle.bl_problem.specs.Program.{Program}
use Rattle.bl_problem.specs.declared.cut.Cut.{Cut}
use Rattle.bl_desc.specs.declared.desc.Desc.{Desc}
use Rattle.bl_journal.specs.declared.entry.Entry.{Entry}
use Rattle.bl_journal.specs.declared.entry.Entry.TheVariants.{Take, Put, Back, Encode, Free}
use Rattle.bl_journal.specs.declared.entry.Step.TheVariants.{Shut, Split}
use Rattle.bl_journal.specs.Legality.{seat_of}
use Rattle.bl_journal.specs.Tidying.{IsUpkeepBy}
use Rattle.bl_journal.proofs.Growth.{reverse-push}
use Rattle.bl_journal.proofs.Living.{Each, Each-weaken}
use Rattle.bl_tree.specs.Views.{TreeView, past_of}
use Rattle.bl_branch.specs.declared.place.Place.{Place}
use Rattle.bl_turn.proofs.EntryLemmas.{NoneBy-nil}
use Rattle.bl_shared.specs.Calls.{Knows, HasSeen, tree_at, tree_seen, IsCall}
use Rattle.bl_journal.proofs.Others.{others_back}
use Rattle.bl_search.specs.Places.{PutsAt, SplitsAt}
use Rattle.bl_worker.specs.Splits.{SplitsBy, SplitsOwnAt}
use Rattle.bl_worker.specs.Loops.{IsQuiet, IsKeptUp}
use Rattle.bl_worker.proofs.Steps.{quiet_back}

-- upkeep splits nothing
upkeep_places : (P : Desc Cut → Place → Type 0) (p : Program) (seat : ℕ) (past : List Entry)
    (e : Entry) → IsUpkeepBy seat e → PutsAt P p past e
upkeep_places P p seat past (Encode t id form) u = tt
upkeep_places P p seat past (Free t ids) u = tt
upkeep_places P p seat past (Take t id) u = absurd u
upkeep_places P p seat past (Put t id found low next) u = absurd u
upkeep_places P p seat past (Back t id) u = absurd u

pub quiet_places : (P : Desc Cut → Place → Type 0) (p : Program) (seat : ℕ)
    (more past : List Entry) → Each (IsQuiet seat) more → SplitsBy seat P p past
    → SplitsBy seat P p (more ++ past)
quiet_places P p seat [] past q h = h
quiet_places P p seat (e ∷ more) past q h = (
  (λ same. upkeep_places P p seat (more ++ past) e (q.0 same)),
  quiet_places P p seat more past
      q.1 h,
)

pub others_places : (P : Desc Cut → Place → Type 0) (p : Program) (seat : ℕ)
    (more past : List Entry) → Each (λ e. seat_of e ≢ seat) more → SplitsBy seat P p past
    → SplitsBy seat P p (more ++ past)
others_places P p seat more past o h = quiet_places P p seat more past
    (Each-weaken (λ e. seat_of e ≢ seat) (IsQuiet seat) (λ e other same. absurd (other same)) more
    o) h

pub kept_places : (P : Desc Cut → Place → Type 0) (v w : Knows) → IsKeptUp v w → SplitsOwnAt P v
    → SplitsOwnAt P w
kept_places P v w k h =
    subst (SplitsOwnAt P) (sym k.goes)
    (subst (SplitsBy v.number P (tree_seen v).problem) (sym (reverse-append v.seen k.entries))
    (quiet_places P (tree_seen v).problem v.number (reverse k.entries) (past_of (tree_seen v))
    (quiet_back v w k) h))

-- a call that makes one entry
pub call_places : (P : Desc Cut → Place → Type 0) (v w : Knows) (e : Entry)
    (call : TreeView → TreeView → Type 0) → (c : IsCall v (e ∷ []) call w)
    → PutsAt P (tree_seen v).problem (past_of (tree_at v (v.seen ++ c.others))) e
    → SplitsOwnAt P v → SplitsOwnAt P w
call_places P v w e call c here h =
    let p : Program = (tree_seen v).problem in
    let before : SplitsBy v.number P p (past_of (tree_at v (v.seen ++ c.others))) =
    subst (SplitsBy v.number P p) (sym (reverse-append v.seen c.others))
    (others_places P p v.number (reverse c.others) (past_of (tree_seen v))
    (others_back v.number c.others c.none_own) h) in
    subst (SplitsOwnAt P) (sym c.is) (subst (SplitsBy v.number P p)
    (sym (reverse-push (v.seen ++ c.others) e)) ((λ same. here), before))

-- a seat with no entry has split nothing
pub no_splits : (P : Desc Cut → Place → Type 0) (v : Knows) → HasSeen v → v.mine ≡ []
    → SplitsOwnAt P v
no_splits P v h none =
    let all : Each (λ e. seat_of e ≢ v.number) (past_of (tree_seen v)) =
    others_back v.number v.seen (NoneBy-nil seat_of v.number v.seen (h.own ∙ none)) in
    subst (SplitsBy v.number P (tree_seen v).problem) (append-nil (past_of (tree_seen v)))
    (others_places P (tree_seen v).problem v.number (past_of (tree_seen v)) [] all tt)

-- what is allowed by P is allowed by Q
pub puts_map : (P Q : Desc Cut → Place → Type 0) (p : Program) (past : List Entry) (e : Entry)
    → ((d : Desc Cut) (place : Place) → P d place → Q d place) → PutsAt P p past e
    → PutsAt Q p past e
puts_map P Q p past (Put seat id found low Shut) f h = tt
puts_map P Q p past (Put seat id found low (Split common column at)) f h = f _ _ h
puts_map P Q p past (Take seat id) f h = tt
puts_map P Q p past (Back seat id) f h = tt
puts_map P Q p past (Encode seat id form) f h = tt
puts_map P Q p past (Free seat ids) f h = tt

pub splits_map : (P Q : Desc Cut → Place → Type 0) (seat : ℕ) (p : Program) (past : List Entry)
    → SplitsBy seat P p past → ((d : Desc Cut) (place : Place) → P d place → Q d place)
    → SplitsBy seat Q p past
splits_map P Q seat p [] h f = tt
splits_map P Q seat p (e ∷ past) h f =
    ((λ same. puts_map P Q p past e f (h.0 same)), splits_map P Q seat p past h.1 f)

pub all_map : (P Q : Desc Cut → Place → Type 0) (p : Program) (past : List Entry)
    → SplitsAt P p past → ((d : Desc Cut) (place : Place) → P d place → Q d place)
    → SplitsAt Q p past
all_map P Q p [] h f = tt
all_map P Q p (e ∷ past) h f = (puts_map P Q p past e f h.0, all_map P Q p past h.1 f)
