-- A split and a join keep the rule.
use Rattle.std.proofs.Common.{◌≡◌, ◌≢◌, ◌⊎◌, ℕ, ◌+◌, ◌<◌, ◌≤◌, true, false, List, [], ◌∷◌, ◌++◌}
use Rattle.std.proofs.Common.{length, get_or, set, drop, All, Any, refl, sym, ap, ◌∙◌, subst}
use Rattle.std.proofs.Common.{⊎_elim, inl, inr, arith, append-nil, length-append, length-set}
use Rattle.std.proofs.Common.{true≢false}
use mathlib.Core.Option.{some}
use mathlib.Core.Logic.{dite}
use native.Mathlib.Decide.{dec_lt, ℕ_discrete}
use lib.ListN.{get_elem?}
use Rattle.std.proofs.lemmas.List.{drop-append-le, append_cancel_left}
use Rattle.std.proofs.lemmas.List.Elements.{All-weaker, All-push}
use Rattle.std.proofs.lemmas.List.Quantifiers.{Any-push}
use Rattle.atomic_table.specs.Table.{State, Splits, Joins}
use Rattle.atomic_table.proofs.Lists.{at_set, set_here, set_else, at_last, at_longer}
use Rattle.bl_turn.specs.declared.view.Stage.TheVariants.{Away}
use Rattle.bl_turn.specs.declared.view.Account.{Account}
use Rattle.bl_turn.specs.declared.view.Slot.{Slot}
use Rattle.bl_turn.specs.Entries.{entries_by, longer_of, FromOneTo}
use Rattle.bl_turn.specs.Accounts.{is_over, HasTurn, is_spent, spent_account, after_split}
use Rattle.bl_turn.specs.Accounts.{new_account, after_join}
use Rattle.bl_turn.specs.Rule.{Leads, Stands, Fits, Kept}
use Rattle.bl_turn.specs.Plays.{Settled}
use Rattle.bl_turn.proofs.Lists.{prefixes, nil_rest, longer_either, All-append_right}
use Rattle.bl_turn.proofs.Lists.{Any-append_left, place_inside, inside_place, one_at}
use Rattle.bl_turn.proofs.EntryLemmas.{entries_by-append, entries_by-none, entries_by-longer}
use Rattle.bl_turn.proofs.EntryLemmas.{NoneBy-nil, FromOneTo-parts}
use Rattle.bl_turn.proofs.Counting.{count_spent-set, count_spent-spend, count_spent-append}
use Rattle.bl_turn.proofs.Standing.{idle_at, each_beside, not_ended, longest_set}
use Rattle.bl_turn.proofs.Steps.{made_past}

-- what stands at a place of a list with one element more
at_push : {A : Type 0} (xs : List A) (a b : A) (j : ℕ) → get_elem? (xs ++ a ∷ []) j ≡ some b
    → ((j < length xs) × (get_elem? xs j ≡ some b)) ⊎ ((j ≡ length xs) × (a ≡ b))
at_push xs a b j e = dite (dec_lt j (length xs))
    (λ less. let t = inside_place xs j less in inl
    (less, t.1 ∙ ap some (one_at (xs ++ a ∷ []) j t.0 b (at_longer xs (a ∷ []) j t.0 t.1) e)))
    (λ not_less. let inside = place_inside (xs ++ a ∷ []) j b e in let last : j ≡ length xs =
    omega (arith, length-append xs (a ∷ [])) in
    inr (last, one_at (xs ++ a ∷ []) j a b (at_last xs a j (sym last)) e))

-- a seat without the turn is not the holder
not_holder : {E B : Type 0} (accounts : List (Account E B)) (i holder : ℕ) (a h : Account E B)
    → get_elem? accounts i ≡ some a → a.stage ≡ Away → get_elem? accounts holder ≡ some h
    → HasTurn h.stage → holder ≢ i
not_holder {E = E} {B = B} accounts i holder a h at away there has = λ same.
    subst HasTurn (ap (λ (y : Account E B). y.stage)
    (one_at accounts i h a (subst (λ k. get_elem? accounts k ≡ some h) same there) at) ∙ away)
    has

module _ {V E B : Type 0} (by : E → ℕ) (told : V → List E) (base : V → B) (value : V) where
  abbrev A : Type 0
  A = Account E B

  abbrev Keeps : State (Slot V) A → Type 0
  Keeps = Kept by told base value

  abbrev StandsIn : List A → List E → ℕ → A → Type 0
  StandsIn = Stands by told base value

  abbrev FitsIn : List A → ℕ → ℕ → List E → ℕ → A → Type 0
  FitsIn = Fits by told base value

  -- a seat other than seat 0 stands as before, whatever the accounts of the others are
  stands_other : (accounts accounts' : List A) (history : List E) (j : ℕ) (a : A) → j ≢ 0
      → StandsIn accounts history j a → StandsIn accounts' history j a
  stands_other accounts accounts' history j a other r = record {
    based = r.based;
    met_based = r.met_based;
    begun = r.begun;
    reaches = r.reaches;
    since = r.since;
    with_met = r.with_met;
    numbered = r.numbered;
    rest = r.rest;
    whole = r.whole;
    own = r.own;
    own_past = r.own_past;
    leads = λ first. absurd (other first);
  }

  -- a split

  pub splits : (i : ℕ) (a : A) → a.view.number ≡ 0 → a.stage ≡ Away
      → Splits Keeps i a (after_split a) (new_account by a)
  splits i a first away s r at = let kept : A = after_split a in let new : A =
      new_account by a in let stood : is_spent a ≡ false = ap is_over away in let t =
      (r.each_seat i a at).stands stood in
      let first_is : i ≡ 0 = sym t.numbered ∙ first in let led = t.leads first_is in let counted =
      led.counted in let before : List A = set s.views i kept in let all : List A =
      before ++ new ∷ [] in
      let inside = place_inside s.views i a at in let len : length before ≡ length s.views =
      length-set s.views i kept in
      let len' : length all ≡ length s.views + 1 = length-append before (new ∷ [])
      ∙ ap (λ (n : ℕ). n + 1) len in
      let off = not_ended by s.views i a t.rest a at stood led in let busy : ℕ =
      get_or s.words 0 0 in
      let past : All (λ e. by e < length s.views) t.rest =
      All-append_right (λ e. by e < length s.views) (drop a.first a.view.seen) t.rest
      (made_past by told base value s r i a t) in
      let none_new : (j : ℕ) (b : A) → get_elem? all j ≡ some b → is_spent b ≡ true
      → Any (λ (p : ℕ × List E). p.0 ≡ j) a.view.ended =
      λ (j : ℕ) (b : A) there over. ⊎_elim
      (λ (p : (j < length before) × (get_elem? before j ≡ some b)). ⊎_elim
      (λ (q : (j ≡ i) × (kept ≡ b)). absurd
      (true≢false (sym over ∙ (ap is_spent (sym q.1) ∙ stood))))
      (λ (q : (j ≢ i) × (get_elem? s.views j ≡ some b)). led.spent_ended j b q.1 over)
      (at_set s.views i j kept b p.1))
      (λ (p : (j ≡ length before) × (new ≡ b)). absurd
      (true≢false (sym over ∙ ap is_spent (sym p.1)))) (at_push before new b j there) in
      let kept_stands : StandsIn all r.history i kept = record {
        based = t.based;
        met_based = t.met_based;
        begun = t.begun;
        reaches = t.reaches;
        since = t.since;
        with_met = t.with_met;
        numbered = t.numbered;
        rest = t.rest;
        whole = t.whole;
        own = t.own;
        own_past = t.own_past;
        leads = λ _. record {
          counted = omega arith;
          ended_seen = led.ended_seen;
          ended_past = led.ended_past;
          ended_spent = λ k x h. let n : ℕ = (get_or a.view.ended k x).0 in at_longer before
              (new ∷ []) n spent_account (set_else s.views i n kept (off k x h)
              ∙ led.ended_spent k x h);
          spent_ended = none_new;
          all_ended = count_spent-append before new refl
              ∙ (count_spent-set s.views i a kept at refl ∙ led.all_ended);
        };
      } in
      let new_stands : StandsIn all r.history (length before) new = record {
        based = t.based;
        met_based = t.based;
        begun = t.begun;
        reaches = t.reaches;
        since = (a.view.seen, refl);
        with_met = (a.view.seen, refl);
        numbered = omega arith;
        rest = t.rest;
        whole = t.whole;
        own = let n : length before ≡ a.view.given + 1 =
            omega arith in ap (λ (n : ℕ). entries_by by n a.view.seen) n;
        own_past = entries_by-none by (length before) t.rest
            (All-weaker (λ e. by e < length s.views) (λ e. by e ≢ length before)
            (λ e less same. omega arith) t.rest past);
        leads = λ z. absurd (omega arith);
      } in
      let old_fits : (j : ℕ) (b : A) → get_elem? before j ≡ some b
      → FitsIn all busy r.holder r.history j b =
      each_beside (FitsIn all busy r.holder r.history) s.views i kept
      (record { at = (r.each_seat i a at).at; stands = λ _. kept_stands })
      (λ j b apart there. let k = r.each_seat j b there in record {
        at = k.at;
        stands =
            λ stands. stands_other s.views all r.history j b (λ z. apart (z ∙ sym first_is))
            (k.stands stands);
      }) in
      let far = longest_set s.views r.history r.history i a kept at stood (λ e. e) (inr refl)
      r.longest in record {
        history = r.history;
        added = r.added;
        holder = r.holder;
        wide = r.wide;
        deep = r.deep;
        long = r.long;
        counted = r.counted;
        busy = r.busy;
        free = r.free;
        taken = λ z. let h =
            r.taken z in (
              h.0,
              at_longer before (new ∷ []) r.holder h.0
                  (set_else s.views i r.holder kept
                  (not_holder s.views i r.holder a h.0 at away h.1 h.2) ∙ h.1),
              h.2,
            );
        made = All-weaker (λ e. by e < length s.views) (λ e. by e < length all)
            (λ e less. omega arith) (drop (length (told value)) r.history) r.made;
        longest = (far.0, far.1, at_longer before (new ∷ []) far.0 far.1 far.2, far.3, far.4);
        each_seat =
            λ j b there. ⊎_elim (λ (p : (j < length before) × (get_elem? before j ≡ some b)).
            old_fits j b p.1)
            (λ (p : (j ≡ length before) × (new ≡ b)). subst (λ (y : ℕ × A). FitsIn all busy
            r.holder r.history y.0 y.1) (λ k. (sym p.0 k, p.1 k))
            (record { at = tt; stands = λ _. new_stands })) (at_push before new b j there);
      }

  -- a join

  -- the longer of two beginnings of the history is a beginning of it, and begins with both
  record Reached (history xs ys : List E) : Type 0 where
    rest : List E
    whole : history ≡ longer_of xs ys ++ rest
    left : length xs ≤ length (longer_of xs ys)
    right : length ys ≤ length (longer_of xs ys)

  reached : (history xs ys past_x past_y : List E) → history ≡ xs ++ past_x → history ≡ ys
      ++ past_y → Reached history xs ys
  reached history xs ys past_x past_y p q = ⊎_elim
      (λ (t : (longer_of xs ys ≡ ys) × (length xs ≤ length ys)). let l = ap length t.0 in let h =
      t.1 in record {
        rest = past_y;
        whole = q ∙ ap (λ z. z ++ past_y) (sym t.0);
        left =
            omega arith;
        right = omega arith;
      })
      (λ (t : (longer_of xs ys ≡ xs) × (length ys ≤ length xs)). let l = ap length t.0 in let h =
      t.1 in record {
        rest = past_x;
        whole = p ∙ ap (λ z. z ++ past_x) (sym t.0);
        left =
            omega arith;
        right = omega arith;
      })
      (longer_either xs ys)

  -- what seat 0 knows of the others after a join
  joined_leads : (accounts : List A) (history : List E) (i j : ℕ) (a b : A)
      (t : StandsIn accounts history i a) (o : StandsIn accounts history j b)
      (led : Leads by accounts t.rest a) (far : Reached history a.view.seen b.view.seen)
      → get_elem? accounts i ≡ some a → get_elem? accounts j ≡ some b → j ≢ i → is_spent a ≡ false
      → is_spent b ≡ false → Leads by (set (set accounts i (after_join a b)) j spent_account)
      far.rest (after_join a b)
  joined_leads accounts history i j a b t o led far at there apart stood stood' = let J : A =
      after_join a b in let before : List A = set accounts i J in let all : List A =
      set before j spent_account in
      let list : List E = longer_of a.view.seen b.view.seen in let e : ℕ × List E =
      (b.view.number, b.view.mine) in let num : b.view.number ≡ j = o.numbered in
      let there' : get_elem? before j ≡ some b = set_else accounts i j J apart ∙ there in
      let from_left : (n : ℕ) (l : List E) → entries_by by n a.view.seen ≡ l
      → entries_by by n t.rest ≡ [] → (entries_by by n list ≡ l)
      × (entries_by by n far.rest ≡ []) =
      λ (n : ℕ) (l : List E) p q. entries_by-longer by n l a.view.seen t.rest list far.rest
      (sym t.whole ∙ far.whole) far.left p q in
      let theirs = entries_by-longer by j b.view.mine b.view.seen o.rest list far.rest
      (sym o.whole ∙ far.whole) far.right o.own o.own_past in
      let off = not_ended by accounts i a t.rest a at stood led in let off' =
      not_ended by accounts j b t.rest a there stood' led in record {
        counted = length-set before j spent_account ∙ (length-set accounts i J ∙ led.counted);
        ended_seen = All-push (λ (p : ℕ × List E). entries_by by p.0 list ≡ p.1) a.view.ended e
            (λ k x h. let p = get_or a.view.ended k x in
            (from_left p.0 p.1 (led.ended_seen k x h) (led.ended_past k x h)).0)
            (ap (λ n. entries_by by n list) num ∙ theirs.0);
        ended_past = All-push (λ (p : ℕ × List E). entries_by by p.0 far.rest ≡ []) a.view.ended e
            (λ k x h. let p = get_or a.view.ended k x in
            (from_left p.0 p.1 (led.ended_seen k x h) (led.ended_past k x h)).1)
            (ap (λ n. entries_by by n far.rest) num ∙ theirs.1);
        ended_spent = All-push (λ (p : ℕ × List E). get_elem? all p.0 ≡ some spent_account)
            a.view.ended e
            (λ k x h. let n : ℕ = (get_or a.view.ended k x).0 in set_else before j n spent_account
            (off' k x h) ∙ (set_else accounts i n J (off k x h) ∙ led.ended_spent k x h))
            (ap (λ n. get_elem? all n) num
            ∙ set_here before j spent_account (place_inside before j b there'));
        spent_ended = λ n x at_n over. ⊎_elim
            (λ (q : (n ≡ j) × (spent_account ≡ x)). Any-push (λ (p : ℕ × List E). p.0 ≡ n)
            a.view.ended e (num ∙ sym q.0))
            (λ (q : (n ≢ j) × (get_elem? before n ≡ some x)). ⊎_elim
            (λ (w : (n ≡ i) × (J ≡ x)). absurd
            (true≢false (sym over ∙ (ap is_spent (sym w.1) ∙ stood))))
            (λ (w : (n ≢ i) × (get_elem? accounts n ≡ some x)). Any-append_left
            (λ (p : ℕ × List E). p.0 ≡ n) a.view.ended (e ∷ [])
            (led.spent_ended n x w.1 over)) (at_set accounts i n J x q.1))
            (at_set before j n spent_account x at_n);
        all_ended = count_spent-spend before j b spent_account there' stood' refl
            ∙ (ap (λ (n : ℕ). n + 1) (count_spent-set accounts i a J at refl ∙ led.all_ended)
            ∙ sym (length-append a.view.ended (e ∷ [])));
      }

  joined_stands : (accounts : List A) (history : List E) (i j : ℕ) (a b : A)
      (t : StandsIn accounts history i a) (o : StandsIn accounts history j b)
      (led : Leads by accounts t.rest a) (far : Reached history a.view.seen b.view.seen)
      → get_elem? accounts i ≡ some a → get_elem? accounts j ≡ some b → j ≢ i → is_spent a ≡ false
      → is_spent b ≡ false → StandsIn (set (set accounts i (after_join a b)) j spent_account)
      history i (after_join a b)
  joined_stands accounts history i j a b t o led far at there apart stood stood' =
      let list : List E = longer_of a.view.seen b.view.seen in
      let on_left = prefixes a.view.seen list t.rest far.rest (sym t.whole ∙ far.whole) far.left
      in let on_right = prefixes b.view.seen list o.rest far.rest (sym o.whole ∙ far.whole)
      far.right in
      let own = entries_by-longer by i a.view.mine a.view.seen t.rest list far.rest
      (sym t.whole ∙ far.whole) far.left t.own t.own_past in let reaches =
      t.reaches in let wider = far.left in record {
        based = t.based;
        met_based = o.based;
        begun = t.begun;
        reaches = omega arith;
        since = (on_left.0, on_left.1);
        with_met = (on_right.0, on_right.1);
        numbered = t.numbered;
        rest = far.rest;
        whole = far.whole;
        own = own.0;
        own_past = own.1;
        leads = λ _. joined_leads accounts history i j a b t o led far at there apart stood stood';
      }

  pub joins : (i : ℕ) (a : A) (j : ℕ) (b : A) → a.view.number ≡ 0 → a.stage ≡ Away → b.stage
      ≡ Away → Joins Keeps i a j b (after_join a b) spent_account
  joins i a j b first away away' s r at apart there = let J : A =
      after_join a b in let before : List A = set s.views i J in let all : List A =
      set before j spent_account in
      let there' : get_elem? s.views j ≡ some b = sym (set_else s.views i j J apart) ∙ there in
      let stood : is_spent a ≡ false = ap is_over away in let stood' : is_spent b ≡ false =
      ap is_over away' in let t = (r.each_seat i a at).stands stood in let o =
      (r.each_seat j b there').stands stood' in
      let first_is : i ≡ 0 = sym t.numbered ∙ first in let led =
      t.leads first_is in let busy : ℕ = get_or s.words 0 0 in
      let far = reached r.history a.view.seen b.view.seen t.rest o.rest t.whole o.whole in
      let list : List E = longer_of a.view.seen b.view.seen in
      let len : length all ≡ length s.views = length-set before j spent_account
      ∙ length-set s.views i J in
      let reaches : (xs : List E) → xs ≡ r.history → length xs ≤ length list → list ≡ r.history =
      λ (xs : List E) e h. let l : length r.history ≤ length list =
      subst (λ (z : List E). length z ≤ length list) e h in
      sym (far.whole ∙ (ap (λ z. list ++ z) (nil_rest r.history list far.rest far.whole l)
      ∙ append-nil list)) in record {
        history = r.history;
        added = r.added;
        holder = r.holder;
        wide = r.wide;
        deep = r.deep;
        long = r.long;
        counted = r.counted;
        busy = r.busy;
        free = r.free;
        taken = λ z. let h =
            r.taken z in (
              h.0,
              set_else before j r.holder spent_account
                  (not_holder s.views j r.holder b h.0 there' away' h.1 h.2)
                  ∙ (set_else s.views i r.holder J (not_holder s.views i r.holder a h.0 at away h.1 h.2)
                  ∙ h.1),
              h.2,
            );
        made = subst (λ n. All (λ e. by e < n) (drop (length (told value)) r.history)) (sym len)
            r.made;
        longest = let l = r.longest in let here : get_elem? all i ≡ some J =
            set_else before j i spent_account (λ e. apart (sym e))
            ∙ set_here s.views i J (place_inside s.views i a at) in dite (ℕ_discrete l.0 i)
            (λ e. let same : l.1 ≡ a =
            one_at s.views i l.1 a (subst (λ k. get_elem? s.views k ≡ some l.1) e l.2) at in (
              i,
              J,
              here,
              stood,
              reaches a.view.seen (ap (λ (y : A). y.view.seen) (sym same)
                  ∙ l.4) far.left,
            ))
            (λ n. dite (ℕ_discrete l.0 j)
            (λ e. let same : l.1 ≡ b =
            one_at s.views j l.1 b (subst (λ k. get_elem? s.views k ≡ some l.1) e l.2) there'
            in (
              i,
              J,
              here,
              stood,
              reaches b.view.seen (ap (λ (y : A). y.view.seen) (sym same)
                  ∙ l.4) far.right,
            ))
            (λ n'. (
              l.0,
              l.1,
              set_else before j l.0 spent_account n'
                  ∙ (set_else s.views i l.0 J n ∙ l.2),
              l.3,
              l.4,
            )));
        each_seat = each_beside (FitsIn all busy r.holder r.history) before j spent_account
            (record { at = tt; stands = λ stands. absurd (true≢false stands) })
            (λ k x nk atk. each_beside (λ n y. n ≢ j → FitsIn all busy r.holder r.history n y)
            s.views i J
            (λ _. record {
              at = idle_at busy r.holder r.history a.found list i a.stage
                  (λ has. subst HasTurn away has);
              stands =
                  λ _. joined_stands s.views r.history i j a b t o led far at there' apart stood
                  stood';
            })
            (λ n y ni atn _. let f = r.each_seat n y atn in record {
              at = f.at;
              stands =
                  λ stands. stands_other s.views all r.history n y (λ z. ni (z ∙ sym first_is))
                  (f.stands stands);
            }) k x atk nk);
      }

  -- what a join tells, from what a load before and one after it told
  pub others_joined : (a b : A) → Settled by a → Settled by (after_join a b) → a.view.number ≡ 0
      → (es : List E) × (longer_of a.view.seen b.view.seen ≡ a.view.seen ++ es)
      × FromOneTo by a.view.given es
  others_joined a b before after first = let es = after.since.0 in let e = after.since.1 in
      let own : entries_by by 0 a.view.seen ≡ a.view.mine =
      ap (λ n. entries_by by n a.view.seen) (sym first) ∙ before.own in
      let own' : entries_by by 0 (a.view.seen ++ es) ≡ a.view.mine = ap (entries_by by 0) (sym e)
      ∙ (ap (λ n. entries_by by n (longer_of a.view.seen b.view.seen)) (sym first)
      ∙ after.own) in
      let none : entries_by by 0 es ≡ [] = append_cancel_left a.view.mine (entries_by by 0 es) []
      (ap (λ l. l ++ entries_by by 0 es) (sym own)
      ∙ (sym (entries_by-append by 0 a.view.seen es) ∙ (own' ∙ sym (append-nil a.view.mine))))
      in (
        es,
        e,
        FromOneTo-parts by a.view.given es (NoneBy-nil by 0 es none)
            (All-append_right (λ e. by e ≤ a.view.given) (drop a.first a.view.seen) es
            (subst (All (λ e. by e ≤ a.view.given))
            (ap (drop a.first) e ∙ drop-append-le a.first a.view.seen es before.reaches)
            (after.made first))),
      )
