-- Encodings and freeings: what they leave as it was, and how a history stays tidied.
use Rattle.std.proofs.Common.{◌≡◌, ℕ, ◌+◌, List, [], ◌∷◌, ◌++◌, length, refl, ap, sym, ◌∙◌, subst}
use Rattle.std.proofs.Common.{true, false, append-nil, append_assoc, ◌≢◌}
use Rattle.std.proofs.lemmas.Bool.{true≢false, ne_eqb, cond-false}
use Rattle.bl_mods.specs.Mods.{is_among}
use Rattle.bl_problem.specs.Program.{Program}
use Rattle.bl_journal.specs.declared.entry.Entry.{Entry}
use Rattle.bl_journal.specs.declared.entry.Entry.TheVariants.{Take, Put, Back, Encode, Free}
use Rattle.bl_journal.specs.declared.settings.Settings.{Settings}
use Rattle.bl_journal.specs.Births.{nodes_of}
use Rattle.bl_journal.specs.States.{state_of, used_of}
use Rattle.bl_journal.specs.declared.state.State.{State}
use Rattle.bl_journal.specs.declared.state.State.TheVariants.{Freed as freed}
use Rattle.bl_journal.specs.Replies.{is_out}
use Rattle.bl_journal.specs.Legality.{seat_of, ids_added}
use Rattle.bl_journal.specs.Tidying.{splits, takes, splits_of, IsDue, IsSettled, WasSettled}
use Rattle.bl_journal.specs.Tidying.{IsTidied, IsUpkeepBy, is_split}
use Rattle.bl_journal.proofs.Leaves.{by_test}
use Rattle.bl_journal.proofs.Living.{Each}
use Rattle.bl_journal.proofs.Workable.{All-from_each}
use Rattle.std.specs.Prelude.{◌==◌}
use Rattle.bl_journal.proofs.Others.{Others}

pub upkeep_splits : (seat : ℕ) (e : Entry) → IsUpkeepBy seat e → splits seat e ≡ false
upkeep_splits seat (Encode other id form) u = refl
upkeep_splits seat (Free other ids) u = refl
upkeep_splits seat (Take other id) u = absurd u
upkeep_splits seat (Put other id found low next) u = absurd u
upkeep_splits seat (Back other id) u = absurd u

upkeep_takes : (seat : ℕ) (e : Entry) → IsUpkeepBy seat e → takes seat e ≡ false
upkeep_takes seat (Encode other id form) u = refl
upkeep_takes seat (Free other ids) u = refl
upkeep_takes seat (Take other id) u = absurd u
upkeep_takes seat (Put other id found low next) u = absurd u
upkeep_takes seat (Back other id) u = absurd u

pub upkeep_seat : (seat : ℕ) (e : Entry) → IsUpkeepBy seat e → seat_of e ≡ seat
upkeep_seat seat (Encode other id form) u = u
upkeep_seat seat (Free other ids) u = u
upkeep_seat seat (Take other id) u = absurd u
upkeep_seat seat (Put other id found low next) u = absurd u
upkeep_seat seat (Back other id) u = absurd u

-- the nodes and the numbers are the same, and no more nodes are out
pub record IsUntouched (p : Program) (seat : ℕ) (past later : List Entry) : Type 0 where
  pub nodes : nodes_of p later ≡ nodes_of p past
  pub used : used_of later ≡ used_of past
  pub splits : splits_of seat later ≡ splits_of seat past
  pub ids : ids_added later ≡ ids_added past
  pub none_out : (id : ℕ) → is_out (state_of past id) ≡ false → is_out (state_of later id) ≡ false

untouched_once : (p : Program) (seat : ℕ) (past : List Entry) (e : Entry) → IsUpkeepBy seat e
    → IsUntouched p seat past (e ∷ past)
untouched_once p seat past (Encode other id form) u =
    record { nodes = refl; used = refl; splits = refl; ids = refl; none_out = λ k o. o }
untouched_once p seat past (Free other ids) u =
    record {
      nodes = refl;
      used = refl;
      splits = refl;
      ids = refl;
      none_out = λ k o. by_test (λ (t : State). is_out t ≡ false) (is_among k ids) freed
          (state_of past k) (λ _. refl) (λ _. o);
    }
untouched_once p seat past (Take other id) u = absurd u
untouched_once p seat past (Put other id found low next) u = absurd u
untouched_once p seat past (Back other id) u = absurd u

pub untouched : (p : Program) (seat : ℕ) (past entries : List Entry)
    → Each (IsUpkeepBy seat) entries → IsUntouched p seat past (entries ++ past)
untouched p seat past [] u = record {
  nodes = refl;
  used = refl;
  splits = refl;
  ids =
      refl;
  none_out = λ k o. o;
}
untouched p seat past (e ∷ entries) u =
    let before = untouched p seat past entries u.1 in
    let once = untouched_once p seat (entries ++ past) e u.0 in
    record {
      nodes = once.nodes ∙ before.nodes;
      used = once.used ∙ before.used;
      splits = once.splits ∙ before.splits;
      ids = once.ids ∙ before.ids;
      none_out = λ k o. once.none_out k (before.none_out k o);
    }

no_takes : (seat : ℕ) (entries : List Entry) → Each (IsUpkeepBy seat) entries
    → Each (λ e. takes seat e ≡ false) entries
no_takes seat [] u = tt
no_takes seat (e ∷ entries) u = (upkeep_takes seat e u.0, no_takes seat entries u.1)

-- what was settled stays so under more entries
pub settled_before : (p : Program) (s : Settings) (seat : ℕ) (more later past : List Entry)
    (id : ℕ) → WasSettled p s seat later past id → WasSettled p s seat (more ++ later) past id
settled_before p s seat more later past id w =
    record {
      rest = more ++ w.rest;
      soon = w.soon;
      parts = ap (λ (l : List Entry). more ++ l) w.parts ∙ sym (append_assoc more w.rest w.soon);
      no_take = w.no_take;
      settled = w.settled;
    }

-- what is settled after some upkeep was settled in time
pub settled_by : (p : Program) (s : Settings) (seat : ℕ) (soon past : List Entry) (id : ℕ)
    → Each (IsUpkeepBy seat) soon → IsSettled p s (soon ++ past) id
    → WasSettled p s seat soon past id
settled_by p s seat soon past id u is =
    record {
      rest = [];
      soon = soon;
      parts = refl;
      no_take = All-from_each (λ e. takes seat e ≡ false) soon (no_takes seat soon u);
      settled = is;
    }

abbrev pub BothSettled : Program → Settings → ℕ → List Entry → Entry → List Entry → Type 0
BothSettled p s seat later e earlier =
    WasSettled p s seat later (e ∷ earlier) (length (nodes_of p earlier))
    × WasSettled p s seat later (e ∷ earlier) (length (nodes_of p earlier) + 1)

-- a history with no entry is tidied
pub tidied_none : (p : Program) (s : Settings) (seat : ℕ) → IsTidied p s seat []
tidied_none p s seat [] earlier e is due = cc
tidied_none p s seat (x ∷ later) earlier e is due = cc

-- after an entry that is not due it is as tidied as before
pub tidied_on : (p : Program) (s : Settings) (seat : ℕ) (past : List Entry) (e : Entry)
    → IsTidied p s seat past → (IsDue seat e past → ⊥) → IsTidied p s seat (e ∷ past)
tidied_on p s seat past e t not_due [] earlier x is due =
    let same : x ≡ e = cc in
    let before : earlier ≡ past = cc in
    absurd (not_due (subst (λ (y : Entry). IsDue seat y past) same
    (subst (λ (h : List Entry). IsDue seat x h) before due)))
tidied_on p s seat past e t not_due (y ∷ later) earlier x is due =
    let before : past ≡ later ++ x ∷ earlier = cc in
    let w = t later earlier x before due in (
      settled_before p s seat (y ∷ []) later (x ∷ earlier) (length (nodes_of p earlier)) w.0,
      settled_before p s seat (y ∷ []) later (x ∷ earlier) (length (nodes_of p earlier) + 1) w.1,
    )

pub tidied_upkeep : (p : Program) (s : Settings) (seat : ℕ) (past entries : List Entry)
    → IsTidied p s seat past → Each (IsUpkeepBy seat) entries → IsTidied p s seat (entries ++ past)
tidied_upkeep p s seat past [] t u = t
tidied_upkeep p s seat past (e ∷ entries) t u =
    tidied_on p s seat (entries ++ past) e (tidied_upkeep p s seat past entries t u.1)
    (λ due. true≢false (sym due.split ∙ upkeep_splits seat e u.0))

-- an entry that splits is none of the upkeep
record StandsBelow (entries tail later : List Entry) (e : Entry) (earlier : List Entry) : Type 0
  where
    between : List Entry
    above : later ≡ entries ++ between
    below : tail ≡ between ++ e ∷ earlier

stands_below : (seat : ℕ) (entries tail later : List Entry) (e : Entry) (earlier : List Entry)
    → Each (IsUpkeepBy seat) entries → entries ++ tail ≡ later ++ e ∷ earlier → splits seat e ≡ true
    → StandsBelow entries tail later e earlier
stands_below seat [] tail later e earlier u is split =
    record { between = later; above = refl; below = is }
stands_below seat (x ∷ entries) tail [] e earlier u is split =
    let same : x ≡ e = cc in
    absurd (true≢false (sym split ∙ (sym (ap (splits seat) same) ∙ upkeep_splits seat x u.0)))
stands_below seat (x ∷ entries) tail (y ∷ later) e earlier u is split =
    let same : x ≡ y = cc in
    let rest : entries ++ tail ≡ later ++ e ∷ earlier = cc in
    let w = stands_below seat entries tail later e earlier u.1 rest split in
    record {
      between = w.between;
      above = ap (λ (z : Entry). z ∷ later) (sym same) ∙ ap (λ (l : List Entry). x ∷ l) w.above;
      below = w.below;
    }

-- after an entry and the upkeep that follows it, it is tidied if both children are settled where
-- the entry is due
pub tidied_round : (p : Program) (s : Settings) (seat : ℕ) (past : List Entry) (e : Entry)
    (entries : List Entry) → IsTidied p s seat past → Each (IsUpkeepBy seat) entries
    → (IsDue seat e past → BothSettled p s seat entries e past)
    → IsTidied p s seat (entries ++ e ∷ past)
tidied_round p s seat past e entries t u both later earlier x is due =
    by_between w.between w.above w.below
  where
    w : StandsBelow entries (e ∷ past) later x earlier
    w = stands_below seat entries (e ∷ past) later x earlier u is due.split

    by_between : (between : List Entry) → later ≡ entries ++ between → e ∷ past ≡ between ++ x
        ∷ earlier → BothSettled p s seat later x earlier
    by_between [] above below =
        let same : e ≡ x = cc in
        let before : past ≡ earlier = cc in
        let whole : entries ≡ later = sym (above ∙ append-nil entries) in
        subst (λ (y : Entry). IsDue seat y earlier → BothSettled p s seat later y earlier) same
        (subst (λ (h : List Entry). IsDue seat e h → BothSettled p s seat later e h) before
        (subst (λ (l : List Entry). IsDue seat e past → BothSettled p s seat l e past) whole
        both)) due
    by_between (y ∷ between) above below =
        let before : past ≡ between ++ x ∷ earlier = cc in
        let old = t between earlier x before due in
        let whole : (entries ++ y ∷ []) ++ between ≡ later = append_assoc entries (y ∷ []) between
        ∙ sym above in
        subst (λ (l : List Entry). BothSettled p s seat l x earlier) whole (
          settled_before p s seat (entries ++ y ∷ []) between (x ∷ earlier)
              (length (nodes_of p earlier)) old.0,
          settled_before p s seat (entries ++ y ∷ []) between (x ∷ earlier)
              (length (nodes_of p earlier) + 1) old.1,
        )

pub others_split : (seat : ℕ) (e : Entry) → seat_of e ≢ seat → splits seat e ≡ false
others_split seat (Put t i found low next) other =
    cond-false (t == seat) (is_split next) false (ne_eqb t seat other)
others_split seat (Take t i) other = refl
others_split seat (Back t i) other = refl
others_split seat (Encode t i form) other = refl
others_split seat (Free t ids) other = refl

pub others_take : (seat : ℕ) (e : Entry) → seat_of e ≢ seat → takes seat e ≡ false
others_take seat (Take t i) other = ne_eqb t seat other
others_take seat (Put t i found low next) other = refl
others_take seat (Back t i) other = refl
others_take seat (Encode t i form) other = refl
others_take seat (Free t ids) other = refl

-- the seat stays tidy under entries of others
pub tidied_others : (p : Program) (s : Settings) (seat : ℕ) (more past : List Entry)
    → IsTidied p s seat past → Others seat more → IsTidied p s seat (more ++ past)
tidied_others p s seat [] past t o = t
tidied_others p s seat (e ∷ more) past t o =
    tidied_on p s seat (more ++ past) e (tidied_others p s seat more past t o.1)
    (λ due. true≢false (sym due.split ∙ others_split seat e o.0))
