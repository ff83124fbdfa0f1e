-- The leaves of a legal history: the nodes that are waiting or out.
use Rattle.std.proofs.Common.{◌≡◌, ℕ, zero, suc, ◌+◌, ◌<◌, ◌≤◌, List, [], ◌∷◌, ◌++◌, length}
use Rattle.std.proofs.Common.{get_or, refl, ap, sym, ◌∙◌, subst, arith, Bool, true, false, cond}
use Rattle.std.proofs.Common.{◌⊎◌, inl, inr}
use Rattle.std.specs.Prelude.{IfSome, ◌==◌, ℤ}
use Rattle.std.specs.List.{list_all}
use Rattle.std.proofs.lemmas.Bool.{and_parts, ne_eqb, eqb-true, true≢false, cond-false, cases_lt}
use Rattle.std.proofs.lemmas.Bool.{or_cases}
use Rattle.bl_mods.specs.Mods.{is_among}
use Rattle.bl_problem.specs.Program.{Program}
use Rattle.bl_problem.specs.declared.cut.Cut.{Cut}
use Rattle.bl_desc.specs.declared.change.Change.{Change}
use Rattle.bl_journal.specs.declared.entry.Entry.{Entry}
use Rattle.bl_journal.specs.declared.entry.Entry.TheVariants.{Take, Put, Back, Encode, Free}
use Rattle.bl_journal.specs.declared.entry.Step.{Step}
use Rattle.bl_journal.specs.declared.entry.Step.TheVariants.{Shut, Split}
use Rattle.bl_journal.specs.declared.settings.Settings.{Settings}
use Rattle.bl_journal.specs.Births.{Node, nodes_of, node_at, grown, root_node, child, left_branch}
use Rattle.bl_journal.specs.Births.{right_branch}
use Rattle.bl_journal.specs.States.{state_of, state_after, put_state, is_open}
use Rattle.bl_journal.specs.declared.state.State.{State}
use Rattle.bl_journal.specs.declared.state.State.TheVariants.{Waiting as waiting, Out as out}
use Rattle.bl_journal.specs.declared.state.State.TheVariants.{Split as split, Shut as shut}
use Rattle.bl_journal.specs.declared.state.State.TheVariants.{Freed as freed}
use Rattle.bl_journal.specs.Replies.{ids_of, is_waiting}
use Rattle.bl_journal.specs.Freeing.{is_freeable, is_over, Climbs, IsFreeChain, lets_go}
use Rattle.bl_journal.specs.Legality.{IsAllowed, IsLegalPast}
use Rattle.bl_journal.proofs.Growth.{length-grown}
use Rattle.bl_journal.proofs.Living.{Each-ids, each_past, take_gives, find_holds}

-- a choice that is one of two
pub by_test : {X : Type 0} (P : X → Type 0) (b : Bool) (x y : X) → (b ≡ true → P x)
    → (b ≡ false → P y) → P (cond b x y)
by_test P true x y f g = f refl
by_test P false x y f g = g refl

pub is_waiting-is : (s : State) → is_waiting s ≡ true → s ≡ waiting
is_waiting-is waiting e = refl
is_waiting-is (out seat) e = cc
is_waiting-is split e = cc
is_waiting-is shut e = cc
is_waiting-is freed e = cc

-- how an allowed entry may move a node from one state to another
pub record Turns (P : State → State → Type 0) : Type 0 where
  pub stays : (t : State) → P t t
  pub taken : (seat : ℕ) → P waiting (out seat)
  pub back : (seat : ℕ) → P (out seat) waiting
  pub put : (seat : ℕ) (next : Step) → P (out seat) (put_state next)
  pub freed : (t : State) → P t freed

pub turned : (P : State → State → Type 0) → Turns P
    → (p : Program) (s : Settings) (past : List Entry) (e : Entry) → IsAllowed p s past e
    → (id : ℕ) → P (state_of past id) (state_of (e ∷ past) id)
turned P t p s past (Encode seat i form) a id = t.stays (state_of past id)
turned P t p s past (Free seat ids) a id = by_test (P (state_of past id)) (is_among id ids) freed
    (state_of past id) (λ _. t.freed (state_of past id)) (λ _. t.stays (state_of past id))
turned P t p s past (Take seat i) a id =
    by_test (P (state_of past id)) (i == id) (out seat) (state_of past id)
    (λ e. subst (λ u. P u (out seat))
    (sym (is_waiting-is (state_of past i) (take_gives p s past i a).waits)
    ∙ ap (state_of past) (eqb-true i id e)) (t.taken seat))
    (λ _. t.stays (state_of past id))
turned P t p s past (Back seat i) a id =
    by_test (P (state_of past id)) (i == id) waiting (state_of past id)
    (λ e. subst (λ u. P u waiting) (sym a ∙ ap (state_of past) (eqb-true i id e)) (t.back seat))
    (λ _. t.stays (state_of past id))
turned P t p s past (Put seat i found low next) a id =
    by_test (P (state_of past id)) (i == id) (put_state next) (state_of past id)
    (λ e. subst (λ u. P u (put_state next)) (sym a.is_out ∙ ap (state_of past) (eqb-true i id e))
    (t.put seat next)) (λ _. t.stays (state_of past id))

-- a node that is freed was born, and it or its state was over
pub record WasOver (p : Program) (s : Settings) (past : List Entry) (id : ℕ) : Type 0 where
  pub born : id < length (nodes_of p past)
  pub over : is_over (state_of past id) (is_open p s past id) ≡ true

-- parents are born before their children
abbrev pub ParentBorn : Program → List Entry → ℕ → Type 0
ParentBorn p past id = IfSome (node_at p past id).parent (λ q. q < id)

pub over_before : (id seat : ℕ) (ids : List ℕ) (s : State) (b : Bool)
    → is_over (state_after id s (Free seat ids)) b ≡ true → is_over s b ≡ true
over_before id seat ids s b e =
    let P : State → Type 0 = λ t. is_over t b ≡ true → is_over s b ≡ true in
    by_test P (is_among id ids) freed s (λ _ h. let f : true ≡ false =
    sym h in absurd (true≢false f)) (λ _ h. h) e

-- each is born, and freeable once those before it are freed
abbrev pub FreesEach : Program → Settings → List Entry → List ℕ → Type 0
FreesEach p s past [] = Unit {0}
FreesEach p s past (q ∷ ids) = (q < length (nodes_of p past)) × (is_freeable p s past q ≡ true)
    × FreesEach p s (Free 0 (q ∷ []) ∷ past) ids

climbs_free : (p : Program) (s : Settings) (past : List Entry)
    → ((k : ℕ) → k < length (nodes_of p past) → ParentBorn p past k)
    → (id : ℕ) (ids : List ℕ) → id < length (nodes_of p past) → Climbs p s past id ids
    → FreesEach p s past ids
climbs_free p s past parents id [] born c = tt
climbs_free p s past parents id (q ∷ ids) born c =
    let below : q < id = let h = parents id born in rw c.0 at h in
    let here : q < length (nodes_of p past) = omega arith in
    (here, c.1, climbs_free p s (Free 0 (q ∷ []) ∷ past) parents q ids here c.2)

pub chain_frees : (p : Program) (s : Settings) (past : List Entry)
    → ((k : ℕ) → k < length (nodes_of p past) → ParentBorn p past k)
    → (ids : List ℕ) → IsFreeChain p s past ids → FreesEach p s past ids
chain_frees p s past parents [] c = absurd c
chain_frees p s past parents (id ∷ ids) c =
    let n : ℕ = length (nodes_of p past) in
    let P : ℕ → Type 0 = λ k. k < n in
    let f : (id < n) × (is_freeable p s past id ≡ true) =
    find_holds (is_freeable p s past) P (ids_of p past) (Each-ids n) id c.0 in
    (f.0, f.1, climbs_free p s (Free 0 (id ∷ []) ∷ past) parents id ids f.0 c.1)

-- each of them was over
pub freed_over : (p : Program) (s : Settings) (past : List Entry) (ids : List ℕ) (id : ℕ)
    → FreesEach p s past ids → is_among id ids ≡ true → WasOver p s past id
freed_over p s past [] id f m = absurd (true≢false (sym m))
freed_over p s past (q ∷ ids) id f m =
    elim (or_cases (q == id) (is_among id ids) m) [
      | inl e ↦
          let over =
          (and_parts (is_over (state_of past q) (is_open p s past q))
          (list_all (lets_go p s past q) (ids_of p past)) f.1).0 in
          subst (WasOver p s past) (eqb-true q id e) (record { born = f.0; over = over })
      | inr e ↦
          let w = freed_over p s (Free 0 (q ∷ []) ∷ past) ids id f.2 e in
          record {
            born = w.born;
            over =
                over_before id 0 (q ∷ []) (state_of past id) (is_open p s past id) w.over;
          }
    ]

-- a node that is not born is waiting, and parents are born
pub record Shape (p : Program) (past : List Entry) : Type 0 where
  pub unborn : (id : ℕ) → length (nodes_of p past) ≤ id → state_of past id ≡ waiting
  pub parents : (id : ℕ) → id < length (nodes_of p past) → ParentBorn p past id

pub out_born : (p : Program) (past : List Entry) (id seat : ℕ) → Shape p past → state_of past id
    ≡ out seat → id < length (nodes_of p past)
out_born p past id seat sh o =
    elim (cases_lt id (length (nodes_of p past))) [
      | inl h ↦ h
      | inr h ↦ let w : waiting ≡ out seat = sym (sh.unborn id h) ∙ o in cc
    ]

pub put_not_out : (next : Step) (seat : ℕ) → put_state next ≡ out seat → ⊥
put_not_out Shut seat k = cc
put_not_out (Split common column at) seat k = cc

-- a node that is out was so before the entry, or the entry took it
pub out_before : (past : List Entry) (e : Entry) (id seat : ℕ) → state_of (e ∷ past) id ≡ out seat
    → (e ≡ Take seat id) ⊎ (state_of past id ≡ out seat)
out_before past (Take t i) id seat o =
    by_test (λ (st : State). st ≡ out seat → (Take t i ≡ Take seat id)
    ⊎ (state_of past id ≡ out seat)) (i == id) (out t) (state_of past id)
    (λ same k. inl (taken (eqb-true i id same) k)) (λ _ k. inr k) o
  where
    taken : i ≡ id → out t ≡ out seat → Take t i ≡ Take seat id
    taken same k = let s : t ≡ seat = cc in ap (λ (n : ℕ). Take n i) s ∙ ap (Take seat) same
out_before past (Put t i found low next) id seat o =
    by_test (λ (st : State). st ≡ out seat → (Put t i found low next ≡ Take seat id)
    ⊎ (state_of past id ≡ out seat)) (i == id) (put_state next) (state_of past id)
    (λ _ k. absurd (put_not_out next seat k)) (λ _ k. inr k) o
out_before past (Back t i) id seat o =
    by_test (λ (st : State). st ≡ out seat → (Back t i ≡ Take seat id)
    ⊎ (state_of past id ≡ out seat)) (i == id) waiting (state_of past id) (λ _ k. cc)
    (λ _ k. inr k) o
out_before past (Encode t i form) id seat o = inr o
out_before past (Free t ids) id seat o =
    by_test (λ (st : State). st ≡ out seat → (Free t ids ≡ Take seat id)
    ⊎ (state_of past id ≡ out seat)) (is_among id ids) freed (state_of past id) (λ _ k. cc)
    (λ _ k. inr k) o

-- the state of another node stays
pub state_kept : (id i : ℕ) (s t : State) → (i ≡ id → ⊥) → cond (i == id) t s ≡ s
state_kept id i s t ne = cond-false (i == id) t s (ne_eqb i id ne)

abbrev pub left_of : Node → ℕ → ℤ → Change Cut → ℕ → ℤ → Node
left_of node id low common column at = child node id low (left_branch common column at)

abbrev pub right_of : Node → ℕ → ℤ → Change Cut → ℕ → ℤ → Node
right_of node id low common column at = child node id low (right_branch common column at)

-- a node after a split: an old one, or one of the two children
pub after_split : (nodes : List Node) (l r d : Node) (id : ℕ) (P : Node → Type 0)
    → (id < length nodes → P (get_or nodes id d)) → (id ≡ length nodes → P l)
    → (id ≡ length nodes + 1 → P r)
    → id < length (nodes ++ l ∷ r ∷ []) → P (get_or (nodes ++ l ∷ r ∷ []) id d)
after_split [] l r d zero P old left right h = left refl
after_split [] l r d (suc zero) P old left right h = right (omega arith)
after_split [] l r d (suc (suc id)) P old left right h = absurd (omega arith)
after_split (x ∷ nodes) l r d zero P old left right h = old (omega arith)
after_split (x ∷ nodes) l r d (suc id) P old left right h =
    after_split nodes l r d id P (λ k. old (omega (arith, k))) (λ e. left (ap suc e))
    (λ e. right (omega (arith, e))) (omega arith)

shape_parents : (p : Program) (s : Settings) (past : List Entry) (e : Entry) → Shape p past
    → IsAllowed p s past e
    → (id : ℕ) → id < length (nodes_of p (e ∷ past)) → ParentBorn p (e ∷ past) id
shape_parents p s past (Take seat i) sh a id h = sh.parents id h
shape_parents p s past (Back seat i) sh a id h = sh.parents id h
shape_parents p s past (Encode seat i form) sh a id h = sh.parents id h
shape_parents p s past (Free seat ids) sh a id h = sh.parents id h
shape_parents p s past (Put seat i found low Shut) sh a id h = sh.parents id h
shape_parents p s past (Put seat i found low (Split common column at)) sh a id h =
    let born : i < length (nodes_of p past) = out_born p past i seat sh a.is_out in
    let P : Node → Type 0 = λ n. IfSome n.parent (λ q. q < id) in
    after_split (nodes_of p past) (left_of (node_at p past i) i low common column at)
    (right_of (node_at p past i) i low common column at) (root_node p) id P
    (λ k. sh.parents id k)
    (λ e. omega (arith, e, born))
    (λ e. omega (arith, e, born))
    h

shape_unborn : (p : Program) (s : Settings) (past : List Entry) (e : Entry) → Shape p past
    → IsAllowed p s past e
    → (id : ℕ) → length (nodes_of p (e ∷ past)) ≤ id → state_of (e ∷ past) id ≡ waiting
shape_unborn p s past (Take seat i) sh a id h =
    let g = take_gives p s past i a in
    let b : i < length (nodes_of p past) = g.born in
    state_kept id i (state_of past id) (out seat) (λ e. omega (arith, e, b, h)) ∙ sh.unborn id h
shape_unborn p s past (Back seat i) sh a id h =
    let b : i < length (nodes_of p past) = out_born p past i seat sh a in
    state_kept id i (state_of past id) waiting (λ e. omega (arith, e, b, h)) ∙ sh.unborn id h
shape_unborn p s past (Encode seat i form) sh a id h = sh.unborn id h
shape_unborn p s past (Free seat ids) sh a id h =
    let P : State → Type 0 = λ t. t ≡ waiting in
    by_test P (is_among id ids) freed (state_of past id)
    (λ m. let b : id < length (nodes_of p past) =
    (freed_over p s past ids id (chain_frees p s past sh.parents ids a) m).born in absurd
    (omega (arith, b, h)))
    (λ _. sh.unborn id h)
shape_unborn p s past (Put seat i found low next) sh a id h =
    let b : i < length (nodes_of p past) = out_born p past i seat sh a.is_out in
    let g : length (nodes_of p past) ≤ length
    (grown p (nodes_of p past) (Put seat i found low next)) =
    length-grown p (nodes_of p past) (Put seat i found low next) in
    state_kept id i (state_of past id) (put_state next) (λ e. omega (arith, e, b, g, h))
    ∙ sh.unborn id (omega (arith, g, h))

pub shape : (p : Program) (s : Settings) (past : List Entry) → IsLegalPast p s past → Shape p past
shape p s =
    each_past p s (Shape p) (record { unborn = λ id h. refl; parents = root_only })
    (λ past e l a sh. record {
      unborn = shape_unborn p s past e sh a;
      parents =
          shape_parents p s past e sh a;
    })
  where
    root_only : (id : ℕ) → id < 1 → ParentBorn p [] id
    root_only zero h = tt
    root_only (suc id) h = absurd (omega arith)
