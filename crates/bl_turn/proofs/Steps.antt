-- Each step on a word keeps the rule, and tells what its play says.
use Rattle.std.proofs.Common.{◌≡◌, ◌≢◌, ◌⊎◌, ℕ, zero, suc, ◌+◌, ◌-◌, ◌%◌, ◌^◌, ◌<◌, ◌≤◌, eqb}
use Rattle.std.proofs.Common.{true, false, List, [], ◌∷◌, ◌++◌, length, get_or, set, drop, All}
use Rattle.std.proofs.Common.{Any, Some, refl, sym, ap, ◌∙◌, subst, ⊎_elim, inl, inr, arith}
use Rattle.std.proofs.Common.{append-nil, append_assoc, length-append, length-set}
use Rattle.std.proofs.Common.{get_or-set_other, get_or-set_same, true≢false, le_refl, eq-eqb}
use Rattle.std.proofs.Common.{ne_eqb}
use mathlib.Core.Option.{some, none, some-injective, some-ne-none}
use mathlib.Core.Option as maybe
use mathlib.Core.Logic.{dite}
use native.Mathlib.Decide.{ℕ_discrete}
use lib.ListN.{get_elem?}
use lib.Seq.{set-get_or}
use prog.Atomic.{either}
use Rattle.std.proofs.Math.Nat.{add-mod, mod-mod}
use Rattle.std.proofs.lemmas.List.{drop-append-le, drop_all}
use Rattle.std.proofs.lemmas.List.Elements.{All-append, All-nil, All-weaker}
use Rattle.std.specs.declared.snapshot.Snapshot.{Snapshot}
use Rattle.atomic_table.specs.Table.{State, Me, step, rest, keeps, takes, gives, stepped}
use Rattle.atomic_table.specs.Table.{homes_after, Allows, opening}
use Rattle.atomic_table.proofs.Lists.{set_here, set_again}
use Rattle.bl_turn.specs.declared.view.Stage.{Stage}
use Rattle.bl_turn.specs.declared.view.Stage.TheVariants.{Away, In, Shown}
use Rattle.bl_turn.specs.declared.view.Account.{Account}
use Rattle.bl_turn.specs.declared.view.Slot.{Slot}
use Rattle.bl_turn.specs.declared.view.Slot.TheVariants.{Home, Out, Noted}
use Rattle.bl_turn.specs.Entries.{entries_by, BeginsWith}
use Rattle.bl_turn.specs.Views.{GoesOn}
use Rattle.bl_turn.specs.Accounts.{is_over, HasTurn, is_spent, spent_account, first_account}
use Rattle.bl_turn.specs.Accounts.{after_enter, after_show, after_leave}
use Rattle.bl_turn.specs.Rule.{AtStage, Leads, Stands, Fits, Kept}
use Rattle.bl_turn.specs.Plays.{Settled, Enters, Shows, Looks, Leaves}
use Rattle.bl_turn.proofs.Lists.{place_inside, All-append_left, All-append_right}
use Rattle.bl_turn.proofs.EntryLemmas.{entries_by-none, entries_by-same, NoneBy-nil}
use Rattle.bl_turn.proofs.EntryLemmas.{FromOneTo-parts}
use Rattle.bl_turn.proofs.Standing.{holds_turn, idle_at, each_beside, not_ended, Leads-set}
use Rattle.bl_turn.proofs.Standing.{longest_set, Stands-beside, Stands-stage}

-- the low 32 bits of a number modulo 2^64
pub low_of_low : (count n : ℕ) → count ≡ n % 2 ^ 64 → count % 2 ^ 32 ≡ n % 2 ^ 32
low_of_low count n is = omega arith

mod-add-mod : (a k m : ℕ) → ((a % m) + k) % m ≡ (a + k) % m
mod-add-mod a k m = add-mod (a % m) k m
    ∙ (ap (λ z. (z + k % m) % m) (mod-mod a m) ∙ sym (add-mod a k m))

Some-injective : {B : Type 0} (a b : B) → Some a ≡ Some b → a ≡ b
Some-injective a b e = cc

-- a seat with one slot may exchange what is in it, and has then that one slot
pub can_exchange : {S : Type 0} (carried : List (ℕ × S)) (x : S) → carried ≡ (0, x) ∷ [] → (y : S)
    × (carried ≡ (0, y) ∷ rest carried)
can_exchange {S = S} carried x is = (x, is ∙ ap (λ (cs : List (ℕ × S)). (0, x) ∷ rest cs) (sym is))

pub after_exchange : {S A : Type 0} (m m' : Me S A) (x y : S) → m.1 ≡ (0, x) ∷ [] → m'
    ≡ (m.0, (0, y) ∷ rest m.1) → m' ≡ (m.0, (0, y) ∷ [])
after_exchange {S = S} m m' x y is now =
    now ∙ ap (λ (cs : List (ℕ × S)). (m.0, (0, y) ∷ rest cs)) is

module _ {V E B : Type 0} (by : E → ℕ) (told : V → List E) (base : V → B) (value : V) where
  abbrev A : Type 0
  A = Account E B

  abbrev Held : Type 0
  Held = Me (Slot V) A

  abbrev Keeps : State (Slot V) A → Type 0
  Keeps = Kept by told base value

  abbrev StandsIn : List A → List E → ℕ → A → Type 0
  StandsIn = Stands by told base value

  abbrev FitsIn : List A → ℕ → ℕ → List E → ℕ → A → Type 0
  FitsIn = Fits by told base value

  abbrev at_start : A
  at_start = first_account by (told value) (base value)

  -- the lock as it is made

  start_fits : FitsIn (at_start ∷ []) 0 0 (told value) 0 at_start
  start_fits = record {
    at = tt;
    stands = λ _. record {
      based = refl;
      met_based = refl;
      begun = refl;
      reaches = le_refl (length (told value));
      since = (told value, refl);
      with_met = (told value, refl);
      numbered = refl;
      rest = [];
      whole = sym (append-nil (told value));
      own = refl;
      own_past = refl;
      leads = λ _. record {
        counted = refl;
        ended_seen = All-nil (λ (p : ℕ × List E). entries_by by p.0 (told value) ≡ p.1);
        ended_past = All-nil (λ (p : ℕ × List E). entries_by by p.0 [] ≡ []);
        ended_spent = All-nil (λ (p : ℕ × List E). get_elem? (at_start ∷ []) p.0
            ≡ some spent_account);
        spent_ended = only_stands;
        all_ended = refl;
      };
    };
  } where
    only_stands : (j : ℕ) (a : A) → get_elem? (at_start ∷ []) j ≡ some a → is_spent a ≡ true
        → Any (λ (p : ℕ × List E). p.0 ≡ j) []
    only_stands zero a e over =
        absurd (true≢false (sym over ∙ ap is_spent (sym (some-injective at_start a e))))
    only_stands (suc j) a e over = absurd (some-ne-none a (sym e))

  start_each : (j : ℕ) (a : A) → get_elem? (at_start ∷ []) j ≡ some a
      → FitsIn (at_start ∷ []) 0 0 (told value) j a
  start_each zero a e = subst (λ x. FitsIn (at_start ∷ []) 0 0 (told value) 0 x)
      (some-injective at_start a e) start_fits
  start_each (suc j) a e = absurd (some-ne-none a (sym e))

  pub starts : Keeps (opening (0 ∷ 0 ∷ []) (Home value ∷ []) at_start)
  starts = record {
    history = told value;
    added = 0;
    holder = 0;
    wide = refl;
    deep = refl;
    long = omega arith;
    counted = refl;
    busy = inl refl;
    free = λ _. (value, refl, refl, refl);
    taken = λ e. absurd (omega arith);
    made = subst (All (λ e. by e < 1))
        (sym (drop_all (length (told value)) (told value) (le_refl (length (told value)))))
        (All-nil (λ e. by e < 1));
    longest = (0, at_start, refl, refl, refl);
    each_seat = start_each;
  }

  -- what the rule says of a seat that stands

  pub made_past : (s : State (Slot V) A) (r : Keeps s) (j : ℕ) (a : A)
      (t : StandsIn s.views r.history j a)
      → All (λ e. by e < length s.views) (drop a.first a.view.seen ++ t.rest)
  made_past s r j a t = subst (All (λ e. by e < length s.views))
      (ap (λ n. drop n r.history) (sym t.begun)
      ∙ (ap (drop a.first) t.whole ∙ drop-append-le a.first a.view.seen t.rest t.reaches))
      r.made

  most_given : (s : State (Slot V) A) (a : A) (rest es : List E) → Leads by s.views rest a
      → All (λ e. by e < length s.views) es → All (λ e. by e ≤ a.view.given) es
  most_given s a rest es l made = let counted =
      l.counted in All-weaker (λ e. by e < length s.views) (λ e. by e ≤ a.view.given)
      (λ e less. omega arith) es made

  pub goes_on : (s : State (Slot V) A) (r : Keeps s) (j : ℕ) (a : A) (h : List E) → h ≡ r.history
      → StandsIn s.views r.history j a → GoesOn by a.view h
  goes_on s r j a h is t = let n : ℕ = a.view.number in let own : entries_by by n a.view.seen
      ≡ a.view.mine = ap (λ k. entries_by by k a.view.seen) t.numbered ∙ t.own in
      let past : entries_by by n t.rest ≡ [] = ap (λ k. entries_by by k t.rest) t.numbered
      ∙ t.own_past in record {
        others = t.rest;
        list = is ∙ t.whole;
        own_seen = own;
        own = ap (entries_by by n) (is ∙ t.whole) ∙ entries_by-same by n a.view.seen t.rest
            a.view.mine own past;
        none_own = NoneBy-nil by n t.rest past;
        given = λ first. FromOneTo-parts by a.view.given t.rest
            (NoneBy-nil by 0 t.rest (ap (λ k. entries_by by k t.rest) (sym first) ∙ past))
            (most_given s a t.rest t.rest (t.leads (sym t.numbered ∙ first))
            (All-append_right (λ e. by e < length s.views) (drop a.first a.view.seen) t.rest
            (made_past s r j a t)));
      }

  settled : (s : State (Slot V) A) (r : Keeps s) (j : ℕ) (a : A) → StandsIn s.views r.history j a
      → Settled by a
  settled s r j a t = record {
    own = ap (λ n. entries_by by n a.view.seen) t.numbered ∙ t.own;
    same_base = t.met_based ∙ sym t.based;
    reaches = t.reaches;
    since = t.since;
    with_met = t.with_met;
    made = λ first. most_given s a t.rest (drop a.first a.view.seen)
        (t.leads (sym t.numbered ∙ first))
        (All-append_left (λ e. by e < length s.views) (drop a.first a.view.seen) t.rest
        (made_past s r j a t));
    ended = λ first. (t.leads (sym t.numbered ∙ first)).ended_seen;
  }

  -- a step that changes nothing

  unchanged : (s : State (Slot V) A) (i : ℕ) (u : A) → get_elem? s.views i ≡ some u → Keeps s
      → Keeps record {
        words = set s.words 0 (get_or s.words 0 0);
        homes = s.homes;
        views =
            set s.views i u;
      }
  unchanged s i u at r =
      subst (λ (z : List ℕ × List A). Keeps record { words = z.0; homes = s.homes; views = z.1 })
      (λ k. (sym (set-get_or s.words 0 0) k, sym (set_again s.views i u at) k)) r

  pub looks : (slots i : ℕ) (m : Held) → m.0.stage ≡ Away
      → Allows Keeps slots i m 0 (λ n. n) (Looks by told base (step slots 0 0 0 none) m)
  looks slots i m away s r _ at _ = (
    m.0,
    keeps,
    tt,
    unchanged s i m.0 at r,
    (refl, settled s r i m.0 ((r.each_seat i m.0 at).stands (ap is_over away))),
  )

  -- a seat takes the turn, or gives it back

  made_set : (accounts : List A) (i : ℕ) (w : A) (es : List E)
      → All (λ e. by e < length accounts) es → All (λ e. by e < length (set accounts i w)) es
  made_set accounts i w es a = subst (λ n. All (λ e. by e < n) es) (sym (length-set accounts i w)) a

  turns : (s : State (Slot V) A) (r : Keeps s) (i : ℕ) (u : A) (st : Stage) (found : List E)
      (b : ℕ) (homes' : List (maybe.Option (Slot V))) → get_elem? s.views i ≡ some u → is_spent u
      ≡ false → is_over st ≡ false
      → (b ≡ 0) ⊎ (b ≡ 1) → length homes' ≡ 1 → (b ≡ 0 → (x : V)
      × (get_elem? homes' 0 ≡ some (some (Home x))) × (told x ≡ r.history)
      × (base x ≡ base value)) → (b ≡ 1 → HasTurn st)
      → AtStage b i r.history found u.view.seen i st
      → ((j : ℕ) (a : A) → j ≢ i → get_elem? s.views j ≡ some a → ¬ HasTurn a.stage)
      → Keeps record {
        words = set s.words 0 b;
        homes = homes';
        views =
            set s.views i (record u { stage = st; found = found });
      }
  turns s r i u st found b homes' at stood stands bit deep free has mine idle = let w : A =
      record u { stage = st; found = found } in let wide = r.wide in
      let here : get_or (set s.words 0 b) 0 0 ≡ b =
      get_or-set_same s.words 0 b 0 (omega arith) in record {
        history = r.history;
        added = r.added;
        holder = i;
        wide = length-set s.words 0 b ∙ wide;
        deep = deep;
        long = r.long;
        counted = get_or-set_other s.words 0 1 b 0 (λ e. omega arith) ∙ r.counted;
        busy = ⊎_elim (λ z. inl (here ∙ z)) (λ z. inr (here ∙ z)) bit;
        free = λ z. free (sym here ∙ z);
        taken = λ z. (w, set_here s.views i w (place_inside s.views i u at), has (sym here ∙ z));
        made = made_set s.views i w (drop (length (told value)) r.history) r.made;
        longest = longest_set s.views r.history r.history i u w at stands (λ e. e) (inr refl)
            r.longest;
        each_seat = each_beside (FitsIn (set s.views i w) (get_or (set s.words 0 b) 0 0) i
            r.history) s.views i w
            (record {
              at = subst (λ n. AtStage n i r.history found u.view.seen i st) (sym here)
                  mine;
              stands = λ _. Stands-stage by told base value s.views r.history i u st found
                  at stood stands ((r.each_seat i u at).stands stood);
            })
            (λ j a apart there. record {
              at = idle_at (get_or (set s.words 0 b) 0 0) i r.history a.found a.view.seen j
                  a.stage (idle j a apart there);
              stands = λ k. Stands-beside by told base value s.views r.history r.history [] i u w
                  j a at stood stands apart (sym (append-nil r.history)) (All-nil (λ e. by e ≡ i))
                  ((r.each_seat j a there).stands k);
            });
      }

  pub enters : (slots i : ℕ) (m : Held) → m.0.stage ≡ Away
      → Allows Keeps slots i m 0 (λ n. either (eqb n 0) 1 n)
      (Enters by told base (step slots 0 0 1 none) m)
  enters slots i m away s r _ at _ = let n : ℕ = get_or s.words 0 0 in let stood : is_spent m.0
      ≡ false = ap is_over away in dite (ℕ_discrete n 0)
      (λ hit. let home = r.free hit in let w : A = after_enter m.0 (told home.0) in let k =
      r.each_seat i m.0 at in (
        w,
        takes 0 (Home home.0),
        home.1,
        subst (λ b. Keeps (stepped s 0 (either b 1 n) i m.1 w (takes 0 (Home home.0))))
            (sym (eq-eqb n 0 hit))
            (turns s r i m.0 In (told home.0) 1 (set s.homes 0 none) at stood refl (inr refl)
            (length-set s.homes 0 none ∙ r.deep) (λ z. absurd (omega arith)) (λ _. tt)
            (refl, refl, home.2)
            (λ j a _ there has. let q =
            (holds_turn n r.holder r.history a.found a.view.seen j a.stage
            (r.each_seat j a there).at has).0 in absurd (omega arith))),
        (
          (λ _. (
            home.0,
            refl,
            (k.stands stood).based ∙ ap Some (sym home.3),
            goes_on s r i m.0
                (told home.0) home.2 (k.stands stood),
          )),
          λ no. absurd (no hit),
        ),
      ))
      (λ miss. (
        m.0,
        keeps,
        tt,
        subst (λ b. Keeps (stepped s 0 (either b 1 n) i m.1 m.0 keeps)) (sym (ne_eqb n 0 miss))
            (unchanged s i m.0 at r),
        ((λ hit. absurd (miss hit)), λ _. refl),
      ))

  pub leaves : (slots i : ℕ) (m : Held) (a : A) (x : V) → m ≡ (a, (0, Home x) ∷ []) → a.stage
      ≡ Shown → told x ≡ a.view.seen → a.view.base ≡ Some (base x)
      → Allows Keeps slots i m 0 (λ _. 0) (λ _. Leaves (step slots 0 0 0 none) m 0)
  leaves slots i m a x now is list based s r _ at _ = let carries =
      ap (λ (z : Held). z.1) now in let same = ap (λ (z : Held). z.0) now in
      let stage : m.0.stage ≡ Shown = ap (λ (b : A). b.stage) same
      ∙ is in let stood : is_spent m.0 ≡ false = ap is_over stage in let w : A =
      after_leave m.0 in let k = r.each_seat i m.0 at in
      let mine = subst (AtStage (get_or s.words 0 0) r.holder r.history m.0.found m.0.view.seen i)
      stage k.at in let deep = r.deep in let homes' = set s.homes 0 (some (Home x)) in
      let whole : told x ≡ r.history = list ∙ (ap (λ (b : A). b.view.seen) (sym same) ∙ mine.2) in
      let based' : base x ≡ base value = Some-injective (base x) (base value)
      (sym based ∙ (ap (λ (b : A). b.view.base) (sym same) ∙ (k.stands stood).based)) in (
        w,
        gives,
        tt,
        subst (λ c. Keeps record {
          words = set s.words 0 0;
          homes =
              homes_after s.homes c gives;
          views = set s.views i w;
        }) (sym carries)
            (turns s r i m.0 Away m.0.found 0 homes' at stood refl (inl refl)
            (length-set s.homes 0 (some (Home x)) ∙ deep)
            (λ _. (x, set_here s.homes 0 (some (Home x)) (omega arith), whole, based'))
            (λ z. absurd (omega arith)) tt
            (λ j b apart there has. let q =
            (holds_turn (get_or s.words 0 0) r.holder r.history b.found b.view.seen j b.stage
            (r.each_seat j b there).at has).1 in apart (q ∙ sym mine.1))),
        ap (λ (c : List (ℕ × Slot V)). (w, rest c)) carries,
      )

  -- the seat that has the turn shows what the value stands for: the history, and entries of its own

  shows_own : (s : State (Slot V) A) (r : Keeps s) (i : ℕ) (u : A) (es list : List E)
      → get_elem? s.views i ≡ some u → u.stage ≡ In → list ≡ u.found ++ es
      → All (λ e. by e ≡ u.view.number) es
      → (t : StandsIn s.views r.history i u) → list ≡ r.history ++ es → All (λ e. by e ≡ i) es
      → StandsIn (set s.views i (after_show by u list)) (r.history ++ es) i (after_show by u list)
  shows_own s r i u es list at is goes own t now own' = let w : A =
      after_show by u list in let stood : is_spent u ≡ false = ap is_over is in let begun =
      t.begun in let reaches = t.reaches in
      let size : length (r.history ++ es) ≡ length r.history + length es =
      length-append r.history es in let size' = ap length now in let size'' =
      ap length t.whole ∙ length-append u.view.seen t.rest in
      let all_seen : (n : ℕ) (c : List E) → entries_by by n u.view.seen ≡ c
      → entries_by by n t.rest ≡ [] → entries_by by n es ≡ [] → entries_by by n list ≡ c =
      λ (n : ℕ) (c : List E) p q z. ap (entries_by by n) now
      ∙ entries_by-same by n r.history es c
      (ap (entries_by by n) t.whole ∙ entries_by-same by n u.view.seen t.rest c p q) z in
      let further : (beginning : List E) → BeginsWith u.view.seen beginning
      → BeginsWith list beginning =
      λ (beginning : List E) (b : BeginsWith u.view.seen beginning). (
        b.0 ++ (t.rest ++ es),
        now
            ∙ (ap (λ l. l ++ es) (t.whole ∙ ap (λ l. l ++ t.rest) b.1)
            ∙ (ap (λ l. l ++ es) (append_assoc beginning b.0 t.rest)
            ∙ (append_assoc beginning (b.0 ++ t.rest) es
            ∙ ap (λ l. beginning ++ l) (append_assoc b.0 t.rest es)))),
      ) in record {
        based = t.based;
        met_based = t.met_based;
        begun = t.begun;
        reaches = omega arith;
        since = further u.before t.since;
        with_met = further u.met t.with_met;
        numbered = t.numbered;
        rest = [];
        whole = sym now ∙ sym (append-nil list);
        own = ap (λ n. entries_by by n list) (sym t.numbered);
        own_past = refl;
        leads = λ first. let led = t.leads first in let off =
            not_ended by s.views i u t.rest u at stood led in Leads-set by s.views i u w t.rest []
            u w at stood refl refl refl
            (λ k y inside. let p = get_or u.view.ended k y in all_seen p.0 p.1
            (led.ended_seen k y inside) (led.ended_past k y inside)
            (entries_by-none by p.0 es (All-weaker (λ e. by e ≡ i) (λ e. by e ≢ p.0)
            (λ e q n. off k y inside (sym n ∙ q)) es own')))
            (λ k y inside. refl) led;
      }

  adds : (s : State (Slot V) A) (r : Keeps s) (i k : ℕ) (u : A) (es list : List E)
      → get_elem? s.views i ≡ some u → u.stage ≡ In → list ≡ u.found ++ es
      → All (λ e. by e ≡ u.view.number) es → length es ≡ k
      → Keeps record {
        words = set s.words 1 ((get_or s.words 1 0 + k) % 2 ^ 64);
        homes =
            s.homes;
        views = set s.views i (after_show by u list);
      }
  adds s r i k u es list at is goes own count = let w : A =
      after_show by u list in let stood : is_spent u ≡ false = ap is_over is in let known =
      r.each_seat i u at in let t = known.stands stood in
      let mine = subst (AtStage (get_or s.words 0 0) r.holder r.history u.found u.view.seen i) is
      known.at in let now : list ≡ r.history ++ es = goes ∙ ap (λ l. l ++ es) mine.2 in
      let own' : All (λ e. by e ≡ i) es =
      All-weaker (λ e. by e ≡ u.view.number) (λ e. by e ≡ i) (λ e q. q ∙ t.numbered) es own in
      let n' : ℕ = (get_or s.words 1 0 + k) % 2 ^ 64 in let wide = r.wide in let long =
      r.long in let there = set_here s.views i w (place_inside s.views i u at) in let inside =
      place_inside s.views i u at in
      let still : get_or (set s.words 1 n') 0 0 ≡ get_or s.words 0 0 =
      get_or-set_other s.words 1 0 n' 0 (λ e. omega arith) in
      let size : length (r.history ++ es) ≡ length r.history + length es =
      length-append r.history es in record {
        history = r.history ++ es;
        added = r.added + k;
        holder = r.holder;
        wide = length-set s.words 1 n' ∙ wide;
        deep = r.deep;
        long = omega arith;
        counted = get_or-set_same s.words 1 n' 0 (omega arith)
            ∙ (ap (λ (n : ℕ). (n + k) % 2 ^ 64) r.counted ∙ mod-add-mod r.added k (2 ^ 64));
        busy = ⊎_elim (λ z. inl (still ∙ z)) (λ z. inr (still ∙ z)) r.busy;
        free = λ z. let held = mine.0 in absurd (omega arith);
        taken = λ z. (w, subst (λ j. get_elem? (set s.views i w) j ≡ some w) mine.1 there, tt);
        made = made_set s.views i w (drop (length (told value)) (r.history ++ es))
            (subst (All (λ e. by e < length s.views))
            (sym (drop-append-le (length (told value)) r.history es (omega arith)))
            (All-append (λ e. by e < length s.views) (drop (length (told value)) r.history) es
            r.made (All-weaker (λ e. by e ≡ i) (λ e. by e < length s.views)
            (λ e q. subst (λ j. j < length s.views) (sym q) inside) es own')));
        longest = longest_set s.views r.history (r.history ++ es) i u w at refl (λ _. now)
            (inl now) r.longest;
        each_seat = each_beside (FitsIn (set s.views i w) (get_or (set s.words 1 n') 0 0) r.holder
            (r.history ++ es)) s.views i w
            (record {
              at = (still ∙ mine.0, mine.1, now);
              stands =
                  λ _. shows_own s r i u es list at is goes own t now own';
            })
            (λ j a apart there'. record {
              at = idle_at (get_or (set s.words 1 n') 0 0) r.holder (r.history ++ es) a.found
                  a.view.seen j a.stage
                  (λ has. apart
                  ((holds_turn (get_or s.words 0 0) r.holder r.history a.found a.view.seen j
                  a.stage (r.each_seat j a there').at has).1 ∙ sym mine.1));
              stands = λ z. Stands-beside by told base value s.views r.history (r.history ++ es)
                  es i u w j a at stood refl apart refl own' ((r.each_seat j a there').stands z);
            });
      }

  -- count is the number of entries since the lock was made
  counts : (s : State (Slot V) A) (r : Keeps s) (i : ℕ) (u : A) → u.found ≡ r.history
      → StandsIn s.views r.history i u → get_or s.words 1 0 ≡ (length u.found - u.first) % 2 ^ 64
  counts s r i u whole t = let begun = t.begun in let long = r.long in let size : length u.found
      ≡ length r.history = ap length whole in
      let since : r.added ≡ length u.found - u.first = omega arith in r.counted
      ∙ ap (λ (n : ℕ). n % 2 ^ 64) since

  abbrev noted_or : Snapshot V → List (ℕ × Slot V) → Snapshot V
  noted_or d [] = d
  noted_or d ((k, Noted x) ∷ cs) = x
  noted_or d ((k, Home x) ∷ cs) = d
  noted_or d ((k, Out) ∷ cs) = d

  pub shows : (slots k i : ℕ) (m : Held) (a : A) (es : List E) (x : Snapshot V) → m
      ≡ (a, (0, Noted x) ∷ []) → a.stage ≡ In → told x.value ≡ a.found ++ es
      → All (λ e. by e ≡ a.view.number) es → length es ≡ k
      → Allows Keeps slots i m 1 (λ n. (n + k) % 2 ^ 64)
      (Shows by told base (step slots 1 k 0 none) m)
  shows slots k i m a es x now is goes own count s r _ at _ = let carries =
      ap (λ (z : Held). z.1) now in let same = ap (λ (z : Held). z.0) now in
      let stage : m.0.stage ≡ In = ap (λ (b : A). b.stage) same ∙ is in let stood : is_spent m.0
      ≡ false = ap is_over stage in let known = r.each_seat i m.0 at in
      let mine = subst (AtStage (get_or s.words 0 0) r.holder r.history m.0.found m.0.view.seen i)
      stage known.at in (
        after_show by m.0 (told x.value),
        keeps,
        tt,
        adds s r i k m.0 es (told x.value) at stage
            (goes ∙ ap (λ (b : A). b.found ++ es) (sym same))
            (subst (λ (b : A). All (λ e. by e ≡ b.view.number) es) (sym same) own) count,
        λ y noted. (
          ap (λ (z : Snapshot V). (after_show by m.0 (told z.value), m.1))
              (ap (noted_or x) (sym carries ∙ noted)),
          goes_on s r i m.0 m.0.found mine.2
              (known.stands stood),
          counts s r i m.0 mine.2 (known.stands stood),
        ),
      )

  -- what the seat is after such a step
  pub shown : (m m' : Held) (a : A) (x : Snapshot V) (v : V) (count : ℕ) → m
      ≡ (a, (0, Noted x) ∷ []) → x.value ≡ v → Shows by told base (step 0 0 0 0 none) m count m'
      → (m'.0 ≡ after_show by a (told v)) × ((n : Snapshot V) × (m'.1 ≡ (0, Noted n) ∷ []))
      × GoesOn by a.view a.found × (count ≡ (length a.found - a.first) % 2 ^ 64)
  shown m m' a x v count now note did = let told_now = did x (ap (λ (z : Held). z.1) now) in (
    ap (λ (z : Held). z.0) told_now.0 ∙ (λ i. after_show by ((now i).0) (told (note i))),
    (x, ap (λ (z : Held). z.1) told_now.0 ∙ ap (λ (z : Held). z.1) now),
    subst (λ (z : Held). GoesOn by z.0.view z.0.found) now told_now.1,
    subst (λ (z : Held). count ≡ (length z.0.found - z.0.first) % 2 ^ 64) now told_now.2,
  )
