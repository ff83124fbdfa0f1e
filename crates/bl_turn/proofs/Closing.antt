-- What is in the slot once seat 0 alone stands.
use Rattle.std.proofs.Common.{◌≡◌, ℕ, zero, suc, ◌+◌, ◌≤◌, true, false, List, length, get_or, All}
use Rattle.std.proofs.Common.{Any, Contains, Some, sym, ap, ◌∙◌, subst, ⊎_elim, arith, true≢false}
use mathlib.Core.Option.{some}
use lib.ListN.{get_elem?}
use Rattle.std.proofs.lemmas.List.{get_or_default}
use Rattle.atomic_table.specs.Table.{State, Seen, Final}
use Rattle.bl_turn.specs.declared.view.Stage.TheVariants.{Away}
use Rattle.bl_turn.specs.declared.view.Account.{Account}
use Rattle.bl_turn.specs.declared.view.Slot.{Slot}
use Rattle.bl_turn.specs.declared.view.Slot.TheVariants.{Home, Out, Noted}
use Rattle.bl_turn.specs.Entries.{entries_by}
use Rattle.bl_turn.specs.Accounts.{is_over, HasTurn, is_spent, count_spent}
use Rattle.bl_turn.specs.Rule.{Kept}
use Rattle.bl_turn.proofs.Lists.{inside_place, one_at}
use Rattle.bl_turn.proofs.Counting.{others_spent}
use Rattle.bl_turn.proofs.Standing.{stands_with_turn}

-- where all others were joined, what stands is the first
first_alone : {E B : Type 0} (accounts : List (Account E B)) (a : Account E B)
    → get_elem? accounts 0 ≡ some a → is_spent a ≡ false → length accounts ≤ count_spent accounts
    + 1
    → (j : ℕ) (x : Account E B) → get_elem? accounts j ≡ some x → is_spent x ≡ false → x ≡ a
first_alone accounts a at stands most zero x there stands' = one_at accounts 0 x a there at
first_alone accounts a at stands most (suc j) x there stands' =
    absurd (true≢false (sym (others_spent accounts a j x at stands most there) ∙ stands'))

others_over : {E B : Type 0} (accounts : List (Account E B)) (a : Account E B)
    → get_elem? accounts 0 ≡ some a → is_spent a ≡ false → length accounts ≤ count_spent accounts
    + 1
    → (j : ℕ) (x : Account E B) → get_elem? accounts j ≡ some x → 1 ≤ j → is_spent x ≡ true
others_over accounts a at stands most zero x there least = absurd (omega arith)
others_over accounts a at stands most (suc j) x there least =
    others_spent accounts a j x at stands most there

-- a pair at a number, where each pair is a number and the entries of that number
kept_at : {E : Type 0} (by : E → ℕ) (ended : List (ℕ × List E)) (list : List E) (n : ℕ)
    → All (λ (p : ℕ × List E). entries_by by p.0 list ≡ p.1) ended
    → Any (λ (p : ℕ × List E). p.0 ≡ n) ended
    → Contains ended (n, entries_by by n list)
kept_at {E = E} by ended list n each (k, p, inside, there, is) = let d : ℕ × List E =
    (n, entries_by by n list) in
    let here : get_or ended k d ≡ p = get_or_default ended k d p inside
    ∙ there in let number : (get_or ended k d).0 ≡ n = ap (λ (q : ℕ × List E). q.0) here ∙ is in
    let entries : (get_or ended k d).1 ≡ entries_by by n list = sym (each k d inside)
    ∙ ap (λ m. entries_by by m list) number in
    (k, inside, λ i. (number i, entries i))

module _ {V E B : Type 0} (by : E → ℕ) (told : V → List E) (base : V → B) (value : V) where
  abbrev A : Type 0
  A = Account E B

  abbrev Keeps : State (Slot V) A → Type 0
  Keeps = Kept by told base value

  -- the value x, where the seat with the account a is the last
  pub record Closes (a : A) (x : V) : Type 0 where
    pub based : a.view.base ≡ Some (base x)
    pub list : told x ≡ a.view.seen
    pub own : entries_by by 0 (told x) ≡ a.view.mine
    pub ended : All (λ (p : ℕ × List E). entries_by by p.0 (told x) ≡ p.1) a.view.ended
    pub every : (n : ℕ) → 1 ≤ n → n ≤ a.view.given
        → Contains a.view.ended (n, entries_by by n (told x))

  closes : (s : State (Slot V) A) (i : ℕ) (a : A) → Keeps s → get_elem? s.views i ≡ some a
      → a.view.number ≡ 0 → a.stage ≡ Away → length a.view.ended ≡ a.view.given
      → (x : V) × (get_elem? s.homes 0 ≡ some (some (Home x))) × Closes a x
  closes s i a r at first away all = let stands : is_spent a ≡ false = ap is_over away in let t =
      (r.each_seat i a at).stands stands in let first_is : i ≡ 0 =
      sym t.numbered ∙ first in let led = t.leads first_is in
      let at0 : get_elem? s.views 0 ≡ some a =
      subst (λ k. get_elem? s.views k ≡ some a) first_is at in let counted =
      led.counted in let total = led.all_ended in
      let alone : (j : ℕ) (b : A) → get_elem? s.views j ≡ some b → is_spent b ≡ false → b ≡ a =
      first_alone s.views a at0 stands (omega arith) in
      let idle : get_or s.words 0 0 ≡ 0 = ⊎_elim (λ z. z)
      (λ z. let h =
      r.taken z in absurd
      (subst HasTurn (ap (λ (y : A). y.stage)
      (alone r.holder h.0 h.1 (stands_with_turn h.0.stage h.2)) ∙ away) h.2)) r.busy in
      let home = r.free idle in let l = r.longest in let whole : r.history ≡ a.view.seen =
      sym l.4 ∙ ap (λ (y : A). y.view.seen) (alone l.0 l.1 l.2 l.3) in
      let list : told home.0 ≡ a.view.seen = home.2 ∙ whole in
      let kept : All (λ (p : ℕ × List E). entries_by by p.0 (told home.0) ≡ p.1) a.view.ended =
      λ k x inside. ap (entries_by by (get_or a.view.ended k x).0) list
      ∙ led.ended_seen k x inside in
      let over : (n : ℕ) (b : A) → get_elem? s.views n ≡ some b → 1 ≤ n → is_spent b ≡ true =
      others_over s.views a at0 stands (omega arith) in (
        home.0,
        home.1,
        record {
          based = t.based ∙ ap Some (sym home.3);
          list = list;
          own = ap (entries_by by 0) list
              ∙ (ap (λ n. entries_by by n a.view.seen) (sym first_is) ∙ t.own);
          ended = kept;
          every = λ n least most. let there = inside_place s.views n (omega arith) in
              kept_at by a.view.ended (told home.0) n kept
              (led.spent_ended n there.0 there.1 (over n there.0 there.1 least));
        },
      )

  pub closed_with : (i : ℕ) (a : A) (ws : List ℕ) (xs : List (Slot V)) (y : Slot V)
      → Final (Seen Keeps i a) ws xs → a.view.number ≡ 0 → a.stage ≡ Away → length a.view.ended
      ≡ a.view.given → get_elem? xs 0 ≡ some y
      → (x : V) × (y ≡ Home x) × Closes a x
  closed_with i a ws xs y t first away all at = let h =
      closes t.0 i a t.1.0 t.1.1 first away all in
      (h.0, one_at xs 0 y (Home h.0) at (t.4 0 (Home h.0) h.1), h.2)

  abbrev home_or : V → Slot V → V
  home_or d (Home x) = x
  home_or d Out = d
  home_or d (Noted n) = d

  pub closed_as : (i : ℕ) (a : A) (ws : List ℕ) (xs : List (Slot V)) (y : Slot V) (z : V)
      → Final (Seen Keeps i a) ws xs → a.view.number ≡ 0 → a.stage ≡ Away → length a.view.ended
      ≡ a.view.given → get_elem? xs 0 ≡ some y
      → y ≡ Home z → Closes a z
  closed_as i a ws xs y z t first away all at is = let h =
      closed_with i a ws xs y t first away all at in subst (Closes a)
      (ap (home_or z) (sym h.1 ∙ is)) h.2
