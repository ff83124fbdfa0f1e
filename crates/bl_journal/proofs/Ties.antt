-- An unfreed relative node has an unfreed parent.
use Rattle.std.proofs.Common.{◌≡◌, ◌≢◌, ℕ, ◌%◌, ◌<◌, List, [], ◌∷◌, length, refl, ap, sym, ◌∙◌}
use Rattle.std.proofs.Common.{subst, Bool, true, false, cond, not, Some, None, Option, ◌⊎◌, inl}
use Rattle.std.proofs.Common.{inr}
use Rattle.std.specs.Prelude.{◌==◌, ◌||◌}
use Rattle.std.specs.List.{list_all}
use Rattle.std.proofs.lemmas.Bool.{and_parts, or_cases, or_left, or_right, eqb-true, eq-eqb}
use Rattle.std.proofs.lemmas.Bool.{cond-false, true≢false}
use Rattle.std.proofs.Math.Nat.{zero-mod}
use Rattle.bl_mods.specs.Mods.{is_among}
use Rattle.bl_problem.specs.Program.{Program}
use Rattle.bl_desc.specs.declared.desc.Form.{Form}
use Rattle.bl_desc.specs.declared.desc.Form.TheVariants.{Explicit, Relative}
use Rattle.bl_journal.specs.declared.entry.Entry.{Entry}
use Rattle.bl_journal.specs.declared.entry.Entry.TheVariants.{Take, Put, Back, Encode, Free}
use Rattle.bl_journal.specs.declared.entry.Step.{Step}
use Rattle.bl_journal.specs.declared.entry.Step.TheVariants.{Shut, Split}
use Rattle.bl_journal.specs.declared.settings.Settings.{Settings}
use Rattle.bl_journal.specs.Births.{Node, nodes_of, node_at, IsBorn}
use Rattle.bl_journal.specs.States.{state_of, put_state, is_open, form_of, encoded_form, is_spanned}
use Rattle.bl_journal.specs.declared.state.State.{State}
use Rattle.bl_journal.specs.declared.state.State.TheVariants.{Waiting as waiting, Out as out}
use Rattle.bl_journal.specs.declared.state.State.TheVariants.{Split as split, Shut as shut}
use Rattle.bl_journal.specs.declared.state.State.TheVariants.{Freed as freed}
use Rattle.bl_journal.specs.Replies.{ids_of}
use Rattle.bl_journal.specs.Pieces.{is_freed}
use Rattle.bl_journal.specs.Freeing.{is_freeable, is_over, lets_go, is_parent, is_explicit}
use Rattle.bl_journal.specs.Legality.{IsAllowed, IsLegalPast, MayEncode, MayRelate}
use Rattle.bl_journal.specs.Legality.{HasUnfreedParent}
use Rattle.bl_journal.proofs.Leaves.{by_test, turned, shape, FreesEach, chain_frees}
use Rattle.bl_journal.proofs.Induction.{each_node}
use Rattle.bl_journal.proofs.Meaning.{Has, Has-ids}

put_unfreed : (next : Step) → put_state next ≢ freed
put_unfreed Shut e = cc
put_unfreed (Split common column at) e = cc

-- a node that is unfreed after an entry was so before
pub unfreed_before : (p : Program) (s : Settings) (past : List Entry) (e : Entry)
    → IsAllowed p s past e → (id : ℕ) → state_of (e ∷ past) id ≢ freed → state_of past id ≢ freed
unfreed_before p s past e a id =
    turned (λ t u. u ≢ freed → t ≢ freed) (record {
      stays = λ t k. k;
      taken = λ seat k f. cc;
      back = λ seat k f. cc;
      put = λ seat next k f. cc;
      freed = λ t k. absurd (k refl);
    }) p s past e a id

HasUnfreedParent-later : (past past' : List Entry) (o : Option ℕ)
    → ((q : ℕ) → state_of past q ≢ freed → state_of past' q ≢ freed) → HasUnfreedParent past o
    → HasUnfreedParent past' o
HasUnfreedParent-later past past' None f h = h
HasUnfreedParent-later past past' (Some q) f h = f q h

-- the node n with this number, unfreed and relative, has an unfreed parent
abbrev pub TiedAt : Settings → List Entry → ℕ → Node → Type 0
TiedAt s past id n = state_of past id ≢ freed
    → cond (n.depth % s.span == 0) Explicit (encoded_form past id) ≡ Relative
    → HasUnfreedParent past n.parent

abbrev pub Tied : Program → Settings → List Entry → ℕ → Type 0
Tied p s past id = TiedAt s past id (node_at p past id)

relative_form : (sp : Bool) (f : Form) → cond sp Explicit f ≡ Relative → (sp ≡ false)
    × (f ≡ Relative)
relative_form true f e = cc
relative_form false f e = (refl, e)

pub not_spanned : (p : Program) (s : Settings) (past : List Entry) (id : ℕ) → form_of p s past id
    ≡ Relative → is_spanned p s past id ≡ false
not_spanned p s past id e = (relative_form (is_spanned p s past id) (encoded_form past id) e).0

tied_encode : (p : Program) (s : Settings) (past : List Entry) (seat i : ℕ) (form : Form) (id : ℕ)
    → MayEncode p s past i form → Tied p s past id → Tied p s (Encode seat i form ∷ past) id
tied_encode p s past seat i form id a ih u f =
    HasUnfreedParent-later past (Encode seat i form ∷ past) (node_at p past id).parent (λ q h. h)
    (before (relative_form (is_spanned p s past id) _ f))
  where
    relates : (g : Form) → g ≡ Relative → MayRelate p s past i g
        → HasUnfreedParent past (node_at p past i).parent
    relates Explicit e r = cc
    relates Relative e r = r.1

    before : (is_spanned p s past id ≡ false)
        × (cond (i == id) form (encoded_form past id) ≡ Relative)
        → HasUnfreedParent past (node_at p past id).parent
    before h =
        by_test (λ (g : Form). g ≡ Relative → HasUnfreedParent past (node_at p past id).parent)
        (i == id) form (encoded_form past id)
        (λ e r. subst (λ (k : ℕ). HasUnfreedParent past (node_at p past k).parent)
        (eqb-true i id e) (relates form r a.related))
        (λ _ r. ih u (cond-false (is_spanned p s past id) Explicit (encoded_form past id) h.0 ∙ r))
        h.1

lets : (a b c : Bool) → (not a || b || c) ≡ true → a ≡ true → c ≡ false → b ≡ true
lets true true c h e f = refl
lets true false true h e f = sym f
lets true false false h e f = h
lets false b c h e f = absurd (true≢false (sym e))

list_all-has : (test : ℕ → Bool) (xs : List ℕ) (c : ℕ) → list_all test xs ≡ true → Has c xs
    → test c ≡ true
list_all-has test [] c a h = absurd h
list_all-has test (x ∷ xs) c a h =
    let parts = and_parts (test x) (list_all test xs) a in
    elim h [
      | inl e ↦ ap test (sym e) ∙ parts.0
      | inr r ↦ list_all-has test xs c parts.1 r
    ]

-- a freeable node's relative children are freed
freeable_children : (p : Program) (s : Settings) (past : List Entry) (q c : ℕ)
    → is_freeable p s past q ≡ true → c < length (nodes_of p past) → (node_at p past c).parent
    ≡ Some q
    → form_of p s past c ≡ Relative → is_freed (state_of past c) ≡ true
freeable_children p s past q c f born parent rel =
    let parts = and_parts (is_over (state_of past q) (is_open p s past q))
    (list_all (lets_go p s past q) (ids_of p past)) f in
    let go : lets_go p s past q c ≡ true =
    list_all-has (lets_go p s past q) (ids_of p past) c parts.1
    (Has-ids (length (nodes_of p past)) c born) in
    let is : is_parent (node_at p past c).parent q ≡ true = ap (λ o. is_parent o q) parent
    ∙ eq-eqb q q refl in
    let ex : is_explicit (form_of p s past c) ≡ false = ap is_explicit rel in
    lets (is_parent (node_at p past c).parent q) (is_freed (state_of past c))
    (is_explicit (form_of p s past c)) go is ex

-- a relative child of a node that a chain frees is freed before, or by the chain
children_freed : (p : Program) (s : Settings) (past : List Entry) (ids : List ℕ)
    → FreesEach p s past ids → (c q : ℕ) → c < length (nodes_of p past)
    → form_of p s past c ≡ Relative → (node_at p past c).parent ≡ Some q → is_among q ids ≡ true
    → (is_freed (state_of past c) ≡ true) ⊎ (is_among c ids ≡ true)
children_freed p s past [] f c q born rel parent m = absurd (true≢false (sym m))
children_freed p s past (q0 ∷ ids) f c q born rel parent m =
    elim (or_cases (q0 == q) (is_among q ids) m) [
      | inl e ↦ inl (freeable_children p s past q c
          (subst (λ (k : ℕ). is_freeable p s past k ≡ true) (eqb-true q0 q e) f.1) born parent rel)
      | inr r ↦ elim (children_freed p s (Free 0 (q0 ∷ []) ∷ past) ids f.2 c q born rel parent r) [
        | inl h ↦ by_test (λ (t : State). is_freed t ≡ true → (is_freed (state_of past c) ≡ true)
            ⊎ (is_among c (q0 ∷ ids) ≡ true)) (is_among c (q0 ∷ [])) freed (state_of past c)
            (λ one _. inr (or_left (q0 == c) (is_among c ids) (only (q0 == c) one)))
            (λ _ k. inl k) h
        | inr h ↦ inr (or_right (q0 == c) (is_among c ids) h)
      ]
    ]
  where
    only : (b : Bool) → (b || false) ≡ true → b ≡ true
    only true e = refl
    only false e = e

pub is_freed-is : (t : State) → is_freed t ≡ true → t ≡ freed
is_freed-is waiting e = cc
is_freed-is (out seat) e = cc
is_freed-is split e = cc
is_freed-is shut e = cc
is_freed-is freed e = refl

tied_free : (p : Program) (s : Settings) (past : List Entry) (seat : ℕ) (ids : List ℕ) (id : ℕ)
    → FreesEach p s past ids → id < length (nodes_of p past)
    → Tied p s past id → Tied p s (Free seat ids ∷ past) id
tied_free p s past seat ids id ch born ih u f =
    let u' : (is_among id ids ≡ false) × (state_of past id ≢ freed) =
    by_test (λ (t : State). t ≢ freed → (is_among id ids ≡ false) × (state_of past id ≢ freed))
    (is_among id ids) freed (state_of past id)
    (λ _ k. absurd (k refl)) (λ m k. (m, k)) u in
    at (node_at p past id).parent refl u' (ih u'.1 f)
  where
    at : (o : Option ℕ) → (node_at p past id).parent ≡ o → (is_among id ids ≡ false)
        × (state_of past id ≢ freed) → HasUnfreedParent past o
        → HasUnfreedParent (Free seat ids ∷ past) o
    at None e w h = h
    at (Some q) e w h =
        by_test (λ (t : State). t ≢ freed) (is_among q ids) freed (state_of past q)
        (λ m. elim (children_freed p s past ids ch id q born f e m) [
          | inl x ↦ absurd (w.1 (is_freed-is (state_of past id) x))
          | inr x ↦ absurd (true≢false (sym x ∙ w.0))
        ])
        (λ _. h)

tied_kept : (p : Program) (s : Settings) (past : List Entry) (e : Entry) → IsLegalPast p s past
    → IsAllowed p s past e → (id : ℕ) → IsBorn p past id
    → TiedAt s past id (node_at p past id) → TiedAt s (e ∷ past) id (node_at p past id)
tied_kept p s past (Take seat i) l a id born ih u f =
    HasUnfreedParent-later past (Take seat i ∷ past) (node_at p past id).parent
    (λ q k. by_test (λ (t : State). t ≢ freed) (i == q) (out seat) (state_of past q) (λ _ e. cc)
    (λ _. k)) (ih (unfreed_before p s past (Take seat i) a id u) f)
tied_kept p s past (Back seat i) l a id born ih u f =
    HasUnfreedParent-later past (Back seat i ∷ past) (node_at p past id).parent
    (λ q k. by_test (λ (t : State). t ≢ freed) (i == q) waiting (state_of past q) (λ _ e. cc)
    (λ _. k)) (ih (unfreed_before p s past (Back seat i) a id u) f)
tied_kept p s past (Put seat i found low next) l a id born ih u f =
    HasUnfreedParent-later past (Put seat i found low next ∷ past) (node_at p past id).parent
    (λ q k. by_test (λ (t : State). t ≢ freed) (i == q) (put_state next) (state_of past q)
    (λ _. put_unfreed next) (λ _. k))
    (ih (unfreed_before p s past (Put seat i found low next) a id u) f)
tied_kept p s past (Encode seat i form) l a id born ih u f =
    tied_encode p s past seat i form id a ih u f
tied_kept p s past (Free seat ids) l a id born ih u f =
    tied_free p s past seat ids id (chain_frees p s past (shape p s past l).parents ids a) born ih
    u f

pub tied : (p : Program) (s : Settings) (past : List Entry) → IsLegalPast p s past → (id : ℕ)
    → IsBorn p past id → Tied p s past id
tied p s past l id born =
    each_node p s (TiedAt s) (record {
      root = λ u f. absurd (true≢false (sym (eq-eqb (0 % s.span) 0 (zero-mod s.span))
          ∙ (relative_form (0 % s.span == 0) Relative f).0));
      kept = tied_kept p s;
      handed = λ h put b ih d k under u f.
          by_test (λ (t : State). t ≢ freed) (put.id == put.id) split (state_of h put.id)
          (λ _ e. cc) (λ e. absurd (true≢false (sym (eq-eqb put.id put.id refl) ∙ e)));
    }) past l id born
