-- Which node may be freed, by the records and by the history.
use Rattle.std.proofs.Common.{◌≡◌, ℕ, zero, suc, ◌+◌, ◌<◌, List, [], ◌∷◌, ◌++◌, length, refl, ap}
use Rattle.std.proofs.Common.{sym, ◌∙◌, subst, arith, Bool, true, false, cond, not, Some, None}
use Rattle.std.proofs.Common.{Option, inl, inr}
use Rattle.std.specs.Prelude.{slice_get, ◌==◌, ◌||◌, ◌&&◌, IfSome, ℤ, find}
use Rattle.std.specs.List.{list_all}
use Rattle.std.proofs.lemmas.Bool.{cases_lt, eq-eqb, eqb-true, cond-true, cond-false, true≢false}
use Rattle.std.proofs.lemmas.Bool.{and_parts, not-true, or_cases, or_left, or_parts, or_right}
use Rattle.std.proofs.lemmas.List.Folds.{list_all-append}
use Rattle.bl_problem.specs.Program.{Program}
use Rattle.bl_desc.specs.declared.desc.Form.{Form}
use Rattle.bl_desc.specs.declared.desc.Form.TheVariants.{Explicit as ExplicitForm}
use Rattle.bl_desc.specs.declared.desc.Form.TheVariants.{Relative as RelativeForm}
use Rattle.bl_journal.specs.declared.entry.Entry.{Entry}
use Rattle.bl_journal.specs.declared.settings.Settings.{Settings}
use Rattle.bl_journal.specs.Births.{nodes_of, node_at}
use Rattle.bl_journal.specs.Descriptions.{full_of}
use Rattle.bl_journal.specs.States.{state_of, form_of, is_open, is_below, has_point, cutoff_for}
use Rattle.bl_journal.specs.declared.state.State.{State}
use Rattle.bl_journal.specs.declared.state.State.TheVariants.{Waiting as waiting, Out as out}
use Rattle.bl_journal.specs.declared.state.State.TheVariants.{Split as split, Shut as shut}
use Rattle.bl_journal.specs.declared.state.State.TheVariants.{Freed as freed}
use Rattle.bl_journal.specs.Replies.{ids_of, ids_below}
use Rattle.bl_journal.specs.Pieces.{is_freed, stored_of, piece_in, difference_from}
use Rattle.bl_journal.specs.Freeing.{is_parent, is_explicit, lets_go, is_over, is_freeable}
use Rattle.bl_tree.specs.declared.record.Record.{Record}
use Rattle.bl_tree.specs.Records.{is_child_in, is_relative, holds_if, is_held, may_go_at}
use Rattle.bl_tree.specs.Records.{may_go_if, IsRecordOf, IsStoredOf, AreRecords, AreStored}
use Rattle.bl_journal.proofs.Meaning.{Has}
use Rattle.bl_tree.proofs.Kept.{has_record}

pub all_ids : (f : ℕ → Bool) (n : ℕ) → ((q : ℕ) → q < n → f q ≡ true) → list_all f (ids_below n)
    ≡ true
all_ids f zero h = refl
all_ids f (suc n) h =
    list_all-append f (ids_below n) (n ∷ [])
    ∙ (ap (λ (t : Bool). t && list_all f (n ∷ [])) (all_ids f n (λ q b. h q (omega (arith, b))))
    ∙ ap (λ (t : Bool). t && true) (h n (omega arith)))

pub ids_all : (f : ℕ → Bool) (n : ℕ) → list_all f (ids_below n) ≡ true → (q : ℕ) → q < n → f q
    ≡ true
ids_all f zero a q b = absurd (omega (arith, b))
ids_all f (suc n) a q b =
    let parts = and_parts (list_all f (ids_below n)) (list_all f (n ∷ []))
    (sym (list_all-append f (ids_below n) (n ∷ [])) ∙ a) in
    elim (cases_lt q n) [
      | inl l ↦ ids_all f n parts.0 q l
      | inr l ↦ let e : q ≡ n = omega (arith, l, b) in ap f e ∙ (and_parts (f n) true parts.1).0
    ]

pub bool_same : (a b : Bool) → (a ≡ true → b ≡ true) → (b ≡ true → a ≡ true) → a ≡ b
bool_same true b f g = sym (f refl)
bool_same false true f g = g refl
bool_same false false f g = refl

or_assoc : (a b c : Bool) → ((a || b) || c) ≡ (a || (b || c))
or_assoc true b c = refl
or_assoc false b c = refl

-- a child is relative where it neither is freed nor explicit
child_holds : (p : Program) (s : Settings) (past : List Entry) (id q : ℕ) (r : Record)
    → IsStoredOf p s past q r → is_parent (node_at p past q).parent id ≡ true
    → is_relative r.piece ≡ not (is_freed (state_of past q) || is_explicit (form_of p s past q))
child_holds p s past id q r f parent = ap is_relative f.piece
    ∙ by_state (is_freed (state_of past q))
  where
    by_parent : (o : Option ℕ) → is_parent o id ≡ true
        → is_relative (Some (difference_from p past o (full_of p past q))) ≡ true
    by_parent None e = absurd (true≢false (sym e))
    by_parent (Some i) e = refl

    by_form : (f : Form) → is_relative (Some (piece_in p past q f)) ≡ not (is_explicit f)
    by_form ExplicitForm = refl
    by_form RelativeForm = by_parent (node_at p past q).parent parent

    by_state : (b : Bool) → is_relative (cond b None (Some (stored_of p s past q)))
        ≡ not (b || is_explicit (form_of p s past q))
    by_state true = refl
    by_state false = by_form (form_of p s past q)

-- the children hold their node where the records say so
pub held_same : (p : Program) (s : Settings) (past : List Entry) (kept : List Record) (id : ℕ)
    (r : Record) → AreRecords p past kept → AreStored p s past kept → slice_get kept id ≡ Some r
    → not (is_held kept r.children) ≡ list_all (lets_go p s past id) (ids_of p past)
held_same p s past kept id r rs st e = bool_same _ _
    (λ h. all_ids (lets_go p s past id) (length (nodes_of p past)) (goes h))
    (λ h. holds_not r.children refl h)
  where
    n : ℕ
    n = length (nodes_of p past)

    record_of : (q : ℕ) → q < length (nodes_of p past) → (x : Record) × (slice_get kept q ≡ Some x)
    record_of q b = let c : length kept ≡ length (nodes_of p past) =
        rs.count in has_record p past kept q rs (omega (arith, b, c))

    turned : (b : Bool) → not b ≡ false → b ≡ true
    turned true h = refl
    turned false h = sym h

    one_goes : (q : ℕ) → q < length (nodes_of p past) → is_parent (node_at p past q).parent id
        ≡ true → holds_if (slice_get kept q) ≡ false → lets_go p s past id q ≡ true
    one_goes q b parent h =
        let x = record_of q b in
        let holds : is_relative x.0.piece ≡ false = ap holds_if (sym x.1) ∙ h in
        let same = child_holds p s past id q x.0 (st q x.0 x.1) parent in
        or_assoc (not (is_parent (node_at p past q).parent id)) (is_freed (state_of past q))
        (is_explicit (form_of p s past q))
        ∙ or_right (not (is_parent (node_at p past q).parent id))
        (is_freed (state_of past q) || is_explicit (form_of p s past q))
        (turned (is_freed (state_of past q) || is_explicit (form_of p s past q)) (sym same ∙ holds))

    child_free : (o : Option ℕ) (q : ℕ) → is_child_in o q ≡ true → is_held kept o ≡ false
        → holds_if (slice_get kept q) ≡ false
    child_free None q c h = absurd (true≢false (sym c))
    child_free (Some i) q c h =
        let free = or_parts (holds_if (slice_get kept i)) (holds_if (slice_get kept (i + 1))) h in
        elim (or_cases (q == i) (q == i + 1) c) [
          | inl t ↦ ap (λ m. holds_if (slice_get kept m)) (eqb-true q i t) ∙ free.0
          | inr t ↦ ap (λ m. holds_if (slice_get kept m)) (eqb-true q (i + 1) t) ∙ free.1
        ]

    by_parent : (q : ℕ) (b : Bool) → is_parent (node_at p past q).parent id ≡ b → q
        < length (nodes_of p past) → not (is_held kept r.children) ≡ true → lets_go p s past id q
        ≡ true
    by_parent q true parent b h =
        one_goes q b parent (child_free r.children q (sym ((st id r e).children q b) ∙ parent)
        (not-true (is_held kept r.children) h))
    by_parent q false parent b h =
        or_assoc (not (is_parent (node_at p past q).parent id)) (is_freed (state_of past q))
        (is_explicit (form_of p s past q))
        ∙ or_left (not (is_parent (node_at p past q).parent id))
        (is_freed (state_of past q) || is_explicit (form_of p s past q)) (ap not parent)

    goes : not (is_held kept r.children) ≡ true → (q : ℕ) → q < length (nodes_of p past)
        → lets_go p s past id q ≡ true
    goes h q b = by_parent q (is_parent (node_at p past q).parent id) refl b h

    one_free : (q : ℕ) → q < length (nodes_of p past) → is_child_in r.children q ≡ true
        → lets_go p s past id q ≡ true → holds_if (slice_get kept q) ≡ false
    one_free q b c g =
        let parent : is_parent (node_at p past q).parent id ≡ true = (st id r e).children q b ∙ c in
        let x = record_of q b in
        let same = child_holds p s past id q x.0 (st q x.0 x.1) parent in
        let free : (is_freed (state_of past q) || is_explicit (form_of p s past q)) ≡ true =
        ap (λ (t : Bool). not t || (is_freed (state_of past q)
        || is_explicit (form_of p s past q))) (sym parent)
        ∙ (sym (or_assoc (not (is_parent (node_at p past q).parent id))
        (is_freed (state_of past q)) (is_explicit (form_of p s past q))) ∙ g) in
        ap holds_if x.1 ∙ (same ∙ ap not free)

    holds_not : (o : Option ℕ) → r.children ≡ o → list_all (lets_go p s past id) (ids_of p past)
        ≡ true → not (is_held kept r.children) ≡ true
    holds_not None c h = ap (λ (o : Option ℕ). not (is_held kept o)) c
    holds_not (Some i) c h =
        let within : i + 1 < length (nodes_of p past) =
        subst (λ (o : Option ℕ). IfSome o (λ i. i + 1 < length (nodes_of p past))) c
        (st id r e).within in
        let every = ids_all (lets_go p s past id) (length (nodes_of p past)) h in
        let at : (q : ℕ) → is_child_in (Some i) q ≡ true → q < length (nodes_of p past)
        → holds_if (slice_get kept q) ≡ false =
        λ q t b. one_free q b (ap (λ (o : Option ℕ). is_child_in o q) c ∙ t) (every q b) in
        let first : holds_if (slice_get kept i) ≡ false =
        at i (or_left (i == i) (i == i + 1) (eq-eqb i i refl)) (omega (arith, within)) in
        let second : holds_if (slice_get kept (i + 1)) ≡ false =
        at (i + 1) (or_right (i + 1 == i) (i + 1 == i + 1) (eq-eqb (i + 1) (i + 1) refl))
        within in
        ap (λ (o : Option ℕ). not (is_held kept o)) c
        ∙ (ap (λ (t : Bool). not (t || holds_if (slice_get kept (i + 1)))) first
        ∙ ap not second)

-- a record says whether its node is open
pub open_same : (p : Program) (s : Settings) (past : List Entry) (id : ℕ) (r : Record)
    (cutoff : Option ℤ) → cutoff ≡ cutoff_for p s past → IsRecordOf p past id r
    → (r.has_point && is_below r.low cutoff) ≡ is_open p s past id
open_same p s past id r cutoff b f =
    ap (λ (t : Bool). t && is_below r.low cutoff) f.has_point
    ∙ (ap (λ (z : ℤ). has_point (full_of p past id).lows (full_of p past id).highs
    && is_below z cutoff) f.low
    ∙ ap (λ (o : Option ℤ). has_point (full_of p past id).lows (full_of p past id).highs
    && is_below (node_at p past id).low o) b)

-- a node may be freed where its record says so
pub may_go_same : (p : Program) (s : Settings) (past : List Entry) (kept : List Record)
    (cutoff : Option ℤ) (id : ℕ) → AreRecords p past kept → AreStored p s past kept → cutoff
    ≡ cutoff_for p s past → id < length (nodes_of p past)
    → may_go_at cutoff kept id ≡ is_freeable p s past id
may_go_same p s past kept cutoff id rs st b born =
    let c : length kept ≡ length (nodes_of p past) = rs.count in
    let x = has_record p past kept id rs (omega (arith, born, c)) in
    let r : Record = x.0 in
    let f = rs.each id r x.1 in
    ap (may_go_if cutoff kept) x.1
    ∙ (ap (λ (t : Bool). is_over r.stage t && not (is_held kept r.children))
    (open_same p s past id r cutoff b f)
    ∙ (ap (λ (t : Bool). t && not (is_held kept r.children))
    (ap (λ (u : State). is_over u (is_open p s past id)) f.stage)
    ∙ ap (λ (t : Bool). is_over (state_of past id) (is_open p s past id) && t)
    (held_same p s past kept id r rs st x.1)))

cond_some : (t : Bool) (x i : ℕ) (o o' : Option ℕ) → cond t (Some x) o ≡ Some i
    → (o ≡ Some i → o' ≡ Some i) → cond t (Some x) o' ≡ Some i
cond_some true x i o o' e f = e
cond_some false x i o o' e f = f e

cond_none : (t : Bool) (x : ℕ) (o o' : Option ℕ) (z : Option ℕ) → cond t (Some x) o ≡ None
    → (o ≡ None → o' ≡ z) → cond t (Some x) o' ≡ z
cond_none true x o o' z e f = cc
cond_none false x o o' z e f = f e

find_front : (f : ℕ → Bool) (xs ys : List ℕ) (i : ℕ) → find f xs ≡ Some i → find f (xs ++ ys)
    ≡ Some i
find_front f [] ys i e = cc
find_front f (x ∷ xs) ys i e =
    cond_some (f x) x i (find f xs) (find f (xs ++ ys)) e (λ h. find_front f xs ys i h)

find_last : (f : ℕ → Bool) (xs ys : List ℕ) → find f xs ≡ None → find f (xs ++ ys) ≡ find f ys
find_last f [] ys e = refl
find_last f (x ∷ xs) ys e = cond_none (f x) x (find f xs) (find f (xs ++ ys)) (find f ys) e
    (λ h. find_last f xs ys h)

pub find_none : (f : ℕ → Bool) (n : ℕ) → ((q : ℕ) → q < n → f q ≡ false) → find f (ids_below n)
    ≡ None
find_none f zero l = refl
find_none f (suc n) l =
    find_last f (ids_below n) (n ∷ []) (find_none f n (λ q b. l q (omega (arith, b))))
    ∙ cond-false (f n) (Some n) None (l n (omega arith))

-- the first number below n that passes
pub find_least : (f : ℕ → Bool) (n i : ℕ) → i < n → f i ≡ true → ((q : ℕ) → q < i → f q ≡ false)
    → find f (ids_below n) ≡ Some i
find_least f zero i b h l = absurd (omega (arith, b))
find_least f (suc n) i b h l =
    elim (cases_lt i n) [
      | inl c ↦ find_front f (ids_below n) (n ∷ []) i (find_least f n i c h l)
      | inr c ↦
          let e : i ≡ n = omega (arith, b, c) in
          find_last f (ids_below n) (n ∷ []) (find_none f n (λ q d. l q (omega (arith, d, e))))
          ∙ (cond-true (f n) (Some n) None (ap f (sym e) ∙ h) ∙ ap Some (sym e))
    ]

none_after : (t : Bool) (x : ℕ) (o : Option ℕ) → cond t (Some x) o ≡ None → o ≡ None
none_after true x o e = cc
none_after false x o e = e

-- a number that passes is found, or an earlier one
pub find_some : (f : ℕ → Bool) (xs : List ℕ) (i : ℕ) → Has i xs → f i ≡ true → find f xs ≡ None → ⊥
find_some f [] i h t e = h
find_some f (x ∷ xs) i h t e =
    elim h [
      | inl same ↦ let g : Some x ≡ None =
          sym (cond-true (f x) (Some x) (find f xs) (ap f same ∙ t)) ∙ e in cc
      | inr later ↦ find_some f xs i later t (none_after (f x) x (find f xs) e)
    ]
