-- What the rule says of each seat stays true while another seat steps.
use Rattle.std.proofs.Common.{◌≡◌, ◌≢◌, ◌⊎◌, ℕ, ◌+◌, false, List, [], ◌++◌, length, get_or, set}
use Rattle.std.proofs.Common.{All, Any, refl, sym, ap, ◌∙◌, subst, ⊎_elim, inl, inr, append_assoc}
use Rattle.std.proofs.Common.{length-set, true≢false}
use mathlib.Core.Option.{some}
use mathlib.Core.Logic.{dite}
use native.Mathlib.Decide.{ℕ_discrete}
use lib.ListN.{get_elem?}
use Rattle.std.proofs.lemmas.List.Elements.{All-weaker}
use Rattle.atomic_table.proofs.Lists.{at_set, set_here, set_else}
use Rattle.bl_turn.specs.declared.view.Stage.{Stage}
use Rattle.bl_turn.specs.declared.view.Stage.TheVariants.{Away, In, Shown, Spent}
use Rattle.bl_turn.specs.declared.view.Account.{Account}
use Rattle.bl_turn.specs.Entries.{entries_by}
use Rattle.bl_turn.specs.Accounts.{is_over, HasTurn, is_spent, spent_account}
use Rattle.bl_turn.specs.Rule.{AtStage, Leads, Stands}
use Rattle.bl_turn.proofs.Lists.{place_inside, one_at}
use Rattle.bl_turn.proofs.EntryLemmas.{entries_by-none, entries_by-same}
use Rattle.bl_turn.proofs.Counting.{count_spent-set}

pub stands_with_turn : (st : Stage) → HasTurn st → is_over st ≡ false
stands_with_turn Away has = refl
stands_with_turn In has = refl
stands_with_turn Shown has = refl
stands_with_turn Spent has = absurd has

module _ {E : Type 0} (busy holder : ℕ) (history found seen : List E) (j : ℕ) where
  pub holds_turn : (st : Stage) → AtStage busy holder history found seen j st → HasTurn st
      → (busy ≡ 1) × (j ≡ holder)
  holds_turn Away at has = absurd has
  holds_turn In at has = (at.0, at.1)
  holds_turn Shown at has = (at.0, at.1)
  holds_turn Spent at has = absurd has

  pub idle_at : (st : Stage) → ¬ HasTurn st → AtStage busy holder history found seen j st
  idle_at Away none = tt
  idle_at In none = absurd (none tt)
  idle_at Shown none = absurd (none tt)
  idle_at Spent none = tt

-- a fact of each account, where the one at i was set
pub each_beside : {A : Type 0} (K : ℕ → A → Type 0) (accounts : List A) (i : ℕ) (w : A) → K i w
    → ((j : ℕ) (a : A) → j ≢ i → get_elem? accounts j ≡ some a → K j a)
    → (j : ℕ) (a : A) → get_elem? (set accounts i w) j ≡ some a → K j a
each_beside K accounts i w here others j a there =
    elim (at_set accounts i j w a there) [
      | inl same ↦ subst (λ (n : ℕ). K n a) (sym same.0) (subst (K i) same.1 here)
      | inr apart ↦ others j a apart.0 apart.1
    ]

module _ {E B : Type 0} (by : E → ℕ) where
  -- no seat that stands is among those that ended
  pub not_ended : (accounts : List (Account E B)) (i : ℕ) (u : Account E B) (rest : List E)
      (a : Account E B) → get_elem? accounts i ≡ some u → is_spent u ≡ false
      → Leads by accounts rest a
      → All (λ (p : ℕ × List E). p.0 ≢ i) a.view.ended
  not_ended accounts i u rest a at stands l = λ k x inside e. true≢false
      (ap is_spent
      (sym (one_at accounts i u spent_account at
      (subst (λ z. get_elem? accounts z ≡ some spent_account) e (l.ended_spent k x inside))))
      ∙ stands)

  -- what seat 0 knows of the others, after a step of a seat that stands
  pub Leads-set : (accounts : List (Account E B)) (i : ℕ) (u w : Account E B)
      (rest rest' : List E) (a a' : Account E B) → get_elem? accounts i ≡ some u → is_spent u
      ≡ false → is_spent w ≡ false
      → a'.view.given ≡ a.view.given → a'.view.ended ≡ a.view.ended
      → All (λ (p : ℕ × List E). entries_by by p.0 a'.view.seen ≡ p.1) a.view.ended
      → All (λ (p : ℕ × List E). entries_by by p.0 rest' ≡ []) a.view.ended
      → Leads by accounts rest a → Leads by (set accounts i w) rest' a'
  Leads-set accounts i u w rest rest' a a' at stood stands same_given same_ended seen_now past_now
      l = let apart = not_ended accounts i u rest a at stood l in record {
        counted = length-set accounts i w ∙ (l.counted ∙ ap (λ (n : ℕ). n + 1) (sym same_given));
        ended_seen = subst (All (λ (p : ℕ × List E). entries_by by p.0 a'.view.seen ≡ p.1))
            (sym same_ended) seen_now;
        ended_past = subst (All (λ (p : ℕ × List E). entries_by by p.0 rest' ≡ [])) (sym same_ended)
            past_now;
        ended_spent =
            subst (All (λ (p : ℕ × List E). get_elem? (set accounts i w) p.0 ≡ some spent_account))
            (sym same_ended)
            (λ k x inside. set_else accounts i (get_or a.view.ended k x).0 w (apart k x inside)
            ∙ l.ended_spent k x inside);
        spent_ended = λ j b there over. subst (Any (λ (p : ℕ × List E). p.0 ≡ j)) (sym same_ended)
            (elim (at_set accounts i j w b there) [
              | inl same ↦ absurd (true≢false (sym over ∙ (ap is_spent (sym same.1) ∙ stands)))
              | inr other ↦ l.spent_ended j b other.1 over
            ]);
        all_ended = count_spent-set accounts i u w at (stands ∙ sym stood)
            ∙ (l.all_ended ∙ ap length (sym same_ended));
      }

-- the longest list, after a step of a seat whose list stays or becomes the history
pub longest_set : {E B : Type 0} (accounts : List (Account E B)) (history history' : List E)
    (i : ℕ) (u w : Account E B) → get_elem? accounts i ≡ some u → is_spent w ≡ false
    → (u.view.seen ≡ history → w.view.seen ≡ history') → (w.view.seen ≡ history')
    ⊎ (history ≡ history')
    → (j : ℕ) × (a : Account E B) × (get_elem? accounts j ≡ some a) × (is_spent a ≡ false)
    × (a.view.seen ≡ history)
    → (j : ℕ) × (a : Account E B) × (get_elem? (set accounts i w) j ≡ some a)
    × (is_spent a ≡ false) × (a.view.seen ≡ history')
longest_set {E = E} {B = B} accounts history history' i u w at stands follows either l =
    let here = set_here accounts i w (place_inside accounts i u at) in dite (ℕ_discrete l.0 i)
    (λ is. let same : l.1 ≡ u = one_at accounts i l.1 u
    (subst (λ z. get_elem? accounts z ≡ some l.1) is l.2) at in
    (i, w, here, stands, follows (ap (λ (a : Account E B). a.view.seen) (sym same) ∙ l.4)))
    (λ other. ⊎_elim (λ now. (i, w, here, stands, now))
    (λ same. (l.0, l.1, set_else accounts i l.0 w other ∙ l.2, l.3, l.4 ∙ same)) either)

module _ {V E B : Type 0} (by : E → ℕ) (told : V → List E) (base : V → B) (value : V) where
  -- a seat that stands, after another's step, which adds entries of that other
  pub Stands-beside : (accounts : List (Account E B)) (history history' es : List E) (i : ℕ)
      (u w : Account E B) (j : ℕ) (a : Account E B) → get_elem? accounts i ≡ some u → is_spent u
      ≡ false
      → is_spent w ≡ false → j ≢ i → history' ≡ history ++ es → All (λ e. by e ≡ i) es
      → Stands by told base value accounts history j a
      → Stands by told base value (set accounts i w) history' j a
  Stands-beside accounts history history' es i u w j a at stood stands apart grown own r = record {
    based = r.based;
    met_based = r.met_based;
    begun = r.begun;
    reaches = r.reaches;
    since = r.since;
    with_met = r.with_met;
    numbered = r.numbered;
    rest = r.rest ++ es;
    whole = grown ∙ (ap (λ l. l ++ es) r.whole ∙ append_assoc a.view.seen r.rest es);
    own = r.own;
    own_past = entries_by-same by j r.rest es [] r.own_past
        (entries_by-none by j es (All-weaker (λ e. by e ≡ i) (λ e. by e ≢ j)
        (λ x p q. apart (sym q ∙ p)) es own));
    leads = λ first. let l = r.leads first in let off =
        not_ended by accounts i u r.rest a at stood l in
        Leads-set by accounts i u w r.rest (r.rest ++ es) a a at stood stands refl refl l.ended_seen
        (λ k x inside. let p = get_or a.view.ended k x in entries_by-same by p.0 r.rest es []
        (l.ended_past k x inside)
        (entries_by-none by p.0 es (All-weaker (λ e. by e ≡ i) (λ e. by e ≢ p.0)
        (λ y q n. off k x inside (sym n ∙ q)) es own))) l;
  }

  -- a seat that stands, after a step of its own that changes its stage and what it found alone
  pub Stands-stage : (accounts : List (Account E B)) (history : List E) (i : ℕ) (u : Account E B)
      (st : Stage) (found : List E) → get_elem? accounts i ≡ some u → is_spent u ≡ false
      → is_over st ≡ false
      → Stands by told base value accounts history i u
      → Stands by told base value (set accounts i (record u { stage = st; found = found }))
      history i (record u { stage = st; found = found })
  Stands-stage accounts history i u st found at stood stands r = let w : Account E B =
      record u { stage = st; found = found } in record {
        based = r.based;
        met_based = r.met_based;
        begun = r.begun;
        reaches = r.reaches;
        since = r.since;
        with_met = r.with_met;
        numbered = r.numbered;
        rest = r.rest;
        whole = r.whole;
        own = r.own;
        own_past = r.own_past;
        leads = λ first. let l = r.leads first in Leads-set by accounts i u w r.rest r.rest u w at
            stood stands refl refl l.ended_seen l.ended_past l;
      }
