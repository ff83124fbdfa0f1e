-- In a legal history the chain of an unfreed node is short and stands for its description.
use Rattle.std.proofs.Common.{◌≡◌, ◌≢◌, ℕ, zero, suc, ◌+◌, ◌%◌, ◌<◌, ◌≤◌, List, [], ◌∷◌, ◌++◌}
use Rattle.std.proofs.Common.{length, refl, ap, sym, ◌∙◌, arith, length-append, Some, None}
use Rattle.std.proofs.Common.{Option, inl, inr}
use Rattle.std.specs.Prelude.{IfSome}
use Rattle.std.proofs.lemmas.Bool.{cases_lt, eq-eqb, true≢false}
use Rattle.std.proofs.Math.Nat.{mod-lt, mod-eq_of_lt, mod_self, mod-add-mod}
use Rattle.bl_problem.specs.Program.{Program}
use Rattle.bl_problem.specs.declared.cut.Cut.{Cut}
use Rattle.bl_desc.specs.declared.desc.Desc.{Desc}
use Rattle.bl_desc.specs.declared.change.Change.{Change}
use Rattle.bl_desc.specs.declared.desc.Form.{Form}
use Rattle.bl_desc.specs.declared.desc.Form.TheVariants.{Explicit as ExplicitForm}
use Rattle.bl_desc.specs.declared.desc.Form.TheVariants.{Relative as RelativeForm}
use Rattle.bl_desc.specs.declared.desc.Piece.{Piece}
use Rattle.bl_desc.specs.declared.desc.Piece.TheVariants.{Explicit, Relative}
use Rattle.bl_desc.specs.Changes.{changed, difference}
use Rattle.bl_desc.proofs.Canonical.{changed-difference}
use Rattle.bl_journal.specs.declared.entry.Entry.{Entry}
use Rattle.bl_journal.specs.declared.settings.Settings.{Settings}
use Rattle.bl_journal.specs.Births.{nodes_of, node_at}
use Rattle.bl_journal.specs.Descriptions.{full_of}
use Rattle.bl_journal.specs.States.{state_of, form_of}
use Rattle.bl_journal.specs.declared.state.State.TheVariants.{Freed as freed}
use Rattle.bl_journal.specs.Pieces.{stored_of, piece_in, difference_from, chained, chain_along}
use Rattle.bl_journal.specs.Pieces.{chain_of}
use Rattle.bl_journal.specs.Pieces.{rebuilt, rebuilt_onto}
use Rattle.bl_journal.specs.Legality.{IsLegalPast, HasUnfreedParent}
use Rattle.bl_journal.proofs.Lines.{IsChildOf, lines, full_whole, full_columns, full_rows}
use Rattle.bl_journal.proofs.Ties.{tied, not_spanned}

chain_along-append : (p : Program) (s : Settings) (past : List Entry) (chain : List (Piece Cut))
    (xs ys : List ℕ)
    → chain_along p s past chain (xs ++ ys) ≡ chain_along p s past (chain_along p s past chain xs)
    ys
chain_along-append p s past chain [] ys = refl
chain_along-append p s past chain (x ∷ xs) ys =
    chain_along-append p s past (chained chain (stored_of p s past x)) xs ys

-- a node's chain ends with the node's own piece
pub chain_of-last : (p : Program) (s : Settings) (past : List Entry) (id : ℕ)
    → chain_of p s past id ≡ chained (chain_along p s past [] (node_at p past id).ancestors)
    (stored_of p s past id)
chain_of-last p s past id = chain_along-append p s past [] (node_at p past id).ancestors (id ∷ [])

rebuilt_onto-push : (d : Desc Cut) (chain : List (Piece Cut)) (c : Change Cut)
    → rebuilt_onto d (chain ++ Relative c ∷ []) ≡ changed c (rebuilt_onto d chain)
rebuilt_onto-push d [] c = refl
rebuilt_onto-push d (Explicit e ∷ chain) c = rebuilt_onto-push e chain c
rebuilt_onto-push d (Relative b ∷ chain) c = rebuilt_onto-push (changed b d) chain c

pub rebuilt-push : (chain : List (Piece Cut)) (d : Desc Cut) (c : Change Cut) → rebuilt chain
    ≡ Some d → rebuilt (chain ++ Relative c ∷ []) ≡ Some (changed c d)
rebuilt-push [] d c e = cc
rebuilt-push (Explicit b ∷ chain) d c e = ap Some (rebuilt_onto-push b chain c)
    ∙ option_apply (rebuilt_onto b chain) e
  where
    option_apply : (x : Desc Cut) → Some x ≡ Some d → Some (changed c x) ≡ Some (changed c d)
    option_apply x h = let f : x ≡ d = cc in ap (λ y. Some (changed c y)) f
rebuilt-push (Relative b ∷ chain) d c e = cc

-- the next remainder, where it is not 0
pub mod_next : (n k : ℕ) → 0 < k → ((n + 1) % k ≡ 0 → ⊥) → (n + 1) % k ≡ n % k + 1
mod_next n k some ne =
    let r : n % k < k = mod-lt n some in
    let e : (n % k + 1) % k ≡ (n + 1) % k = mod-add-mod n k 1 in
    elim (cases_lt (n % k + 1) k) [
      | inl b ↦ sym e ∙ mod-eq_of_lt b
      | inr b ↦
          let f : n % k + 1 ≡ k = omega (arith, r, b) in
          absurd (ne (sym e ∙ (ap (λ m. m % k) f ∙ mod_self k)))
    ]

-- the chain stands for the description, and has no more pieces than the depth's remainder allows
pub record ChainIs (p : Program) (s : Settings) (past : List Entry) (id : ℕ) : Type 0 where
  pub rebuilds : rebuilt (chain_of p s past id) ≡ Some (full_of p past id)
  pub short : length (chain_of p s past id) ≤ (node_at p past id).depth % s.span + 1

chain_explicit : (p : Program) (s : Settings) (past : List Entry) (id : ℕ) → form_of p s past id
    ≡ ExplicitForm → ChainIs p s past id
chain_explicit p s past id e =
    let st : stored_of p s past id ≡ Explicit (full_of p past id) = ap (piece_in p past id) e in
    let c : chain_of p s past id ≡ Explicit (full_of p past id) ∷ [] = chain_of-last p s past id
    ∙ ap (chained (chain_along p s past [] (node_at p past id).ancestors)) st in
    record {
      rebuilds = ap rebuilt c;
      short = let len : length (chain_of p s past id) ≡ 1 = ap length c in omega (arith, len);
    }

chain_relative : (p : Program) (s : Settings) (past : List Entry) (id q : ℕ) → 0 < s.span
    → form_of p s past id ≡ RelativeForm → (node_at p past id).parent ≡ Some q
    → IsChildOf p (node_at p past q) q id (node_at p past id) → ChainIs p s past q
    → ChainIs p s past id
chain_relative p s past id q some e parent line ih =
    record {
      rebuilds = ap rebuilt c ∙ (rebuilt-push (chain_of p s past q) (full_of p past q) change
          ih.rebuilds ∙ ap Some applied);
      short =
          let len : length (chain_of p s past id) ≡ length (chain_of p s past q) + 1 =
          ap length c ∙ length-append (chain_of p s past q) (Relative change ∷ []) in
          let before : length (chain_of p s past q) ≤ (node_at p past q).depth % s.span + 1 =
          ih.short in
          let next : ((node_at p past q).depth + 1) % s.span ≡ (node_at p past q).depth % s.span
          + 1 =
          mod_next (node_at p past q).depth s.span some
          (λ z. not_zero (ap (λ d. d % s.span) line.depth ∙ z)) in
          let here : (node_at p past id).depth % s.span
          ≡ ((node_at p past q).depth + 1) % s.span = ap (λ d. d % s.span) line.depth in
          omega (arith, len, before, next, here);
    }
  where
    change : Change Cut
    change = difference (λ (c : Cut). c.id) (full_of p past q) (full_of p past id)

    st : stored_of p s past id ≡ Relative
        (difference (λ (c : Cut). c.id) (full_of p past q) (full_of p past id))
    st = ap (piece_in p past id) e ∙ ap (λ o. difference_from p past o (full_of p past id)) parent

    above : chain_along p s past [] (node_at p past id).ancestors ≡ chain_of p s past q
    above = ap (chain_along p s past []) line.ancestors

    c : chain_of p s past id ≡ chain_of p s past q
        ++ Relative (difference (λ (c : Cut). c.id) (full_of p past q) (full_of p past id)) ∷ []
    c = chain_of-last p s past id
        ∙ (ap (chained (chain_along p s past [] (node_at p past id).ancestors)) st
        ∙ ap (λ l. l ++ Relative (difference (λ (c : Cut). c.id) (full_of p past q)
        (full_of p past id)) ∷ []) above)

    applied : changed (difference (λ (c : Cut). c.id) (full_of p past q) (full_of p past id))
        (full_of p past q) ≡ full_of p past id
    applied =
        changed-difference (λ (c : Cut). c.id) (full_of p past q) (full_of p past id)
        (full_whole p past q) (full_whole p past id)
        (full_columns p past q ∙ sym (full_columns p past id))
        (full_rows p past q ∙ sym (full_rows p past id)) line.part

    not_zero : (node_at p past id).depth % s.span ≡ 0 → ⊥
    not_zero z = true≢false (sym (eq-eqb ((node_at p past id).depth % s.span) 0 z)
        ∙ not_spanned p s past id e)

chain_is : (p : Program) (s : Settings) (past : List Entry) → IsLegalPast p s past → 0 < s.span
    → (n id : ℕ) → id < n → id < length (nodes_of p past) → state_of past id ≢ freed
    → ChainIs p s past id
chain_is p s past l some zero id below born u = absurd (omega (arith, below))
chain_is p s past l some (suc n) id below born u =
    by_form (form_of p s past id) refl
    (λ q line k. let under : q < id = line.below in chain_is p s past l some n q
    (omega (arith, under, below)) (omega (arith, under, born)) k)
  where
    by_parent : (o : Option ℕ) → (node_at p past id).parent ≡ o → form_of p s past id
        ≡ RelativeForm → HasUnfreedParent past o
        → IfSome o (λ q. IsChildOf p (node_at p past q) q id (node_at p past id))
        → ((q : ℕ) → IsChildOf p (node_at p past q) q id (node_at p past id)
        → state_of past q ≢ freed → ChainIs p s past q) → ChainIs p s past id
    by_parent None e f h line ih = absurd h
    by_parent (Some q) e f h line ih = chain_relative p s past id q some f e line (ih q line h)

    by_form : (f : Form) → form_of p s past id ≡ f → ((q : ℕ)
        → IsChildOf p (node_at p past q) q id (node_at p past id) → state_of past q ≢ freed
        → ChainIs p s past q) → ChainIs p s past id
    by_form ExplicitForm e ih = chain_explicit p s past id e
    by_form RelativeForm e ih = by_parent (node_at p past id).parent refl e
        (tied p s past l id born u e) (lines p s past l id born) ih

pub chain_rebuilds : (p : Program) (s : Settings) (past : List Entry) → IsLegalPast p s past → 0
    < s.span → (id : ℕ) → id < length (nodes_of p past) → state_of past id ≢ freed
    → rebuilt (chain_of p s past id) ≡ Some (full_of p past id)
chain_rebuilds p s past l some id born u =
    (chain_is p s past l some (id + 1) id (omega arith) born u).rebuilds

pub chain_short : (p : Program) (s : Settings) (past : List Entry) → IsLegalPast p s past → 0
    < s.span → (id : ℕ) → id < length (nodes_of p past) → state_of past id ≢ freed
    → length (chain_of p s past id) ≤ s.span
chain_short p s past l some id born u =
    let h : length (chain_of p s past id) ≤ (node_at p past id).depth % s.span + 1 =
    (chain_is p s past l some (id + 1) id (omega arith) born u).short in
    let r : (node_at p past id).depth % s.span < s.span = mod-lt (node_at p past id).depth some in
    omega (arith, h, r)
