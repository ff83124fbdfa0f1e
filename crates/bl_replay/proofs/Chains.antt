-- Which nodes a free frees is told by the history.
use Rattle.std.proofs.Common.{◌≡◌, ℕ, ◌<◌, List, [], ◌∷◌, length, refl, ap, sym, ◌∙◌, subst}
use Rattle.std.proofs.Common.{Option, Some, true, false}
use Rattle.std.proofs.lemmas.Bool.{true≢false}
use Rattle.bl_problem.specs.Program.{Program}
use Rattle.bl_journal.specs.declared.entry.Entry.{Entry}
use Rattle.bl_journal.specs.declared.entry.Entry.TheVariants.{Free}
use Rattle.bl_journal.specs.declared.settings.Settings.{Settings}
use Rattle.bl_journal.specs.Births.{nodes_of, node_at}
use Rattle.bl_journal.specs.Replies.{ids_of}
use Rattle.bl_journal.specs.Freeing.{is_freeable, is_freeable_if, Climbs, IsFreeChain}
use Rattle.bl_journal.specs.Freeing.{HasNothingToFree}
use Rattle.bl_journal.proofs.Living.{Each-ids, find_holds}
use Rattle.bl_tree.specs.declared.answer.Freed.{Freed}
use Rattle.bl_tree.specs.declared.answer.Freed.TheVariants.{Chain, Nothing}
use Rattle.bl_tree.specs.Calls.{Frees}
use Rattle.bl_tree.specs.Views.{TreeView, past_of, extended}

same_number : (a b : ℕ) → Some a ≡ Some b → a ≡ b
same_number a b e = cc

-- a parent that may be freed comes next
goes_on : (p : Program) (s : Settings) (past : List Entry) (o : Option ℕ) (q : ℕ) → o ≡ Some q
    → is_freeable p s past q ≡ true → is_freeable_if p s past o ≡ false → ⊥
goes_on p s past o q e free stops =
    true≢false (sym free ∙ (sym (ap (is_freeable_if p s past) e) ∙ stops))

climbs_same : (p : Program) (s : Settings) (past : List Entry) (id : ℕ) (xs ys : List ℕ)
    → Climbs p s past id xs → Climbs p s past id ys → xs ≡ ys
climbs_same p s past id [] [] a b = refl
climbs_same p s past id [] (q ∷ ys) a b =
    absurd (goes_on p s past (node_at p past id).parent q b.0 b.1 a)
climbs_same p s past id (q ∷ xs) [] a b =
    absurd (goes_on p s past (node_at p past id).parent q a.0 a.1 b)
climbs_same p s past id (q ∷ xs) (r ∷ ys) a b =
    let e : r ≡ q = same_number r q (sym b.0 ∙ a.0) in
    let rest : Climbs p s (Free 0 (q ∷ []) ∷ past) q ys =
    subst (λ (k : ℕ). Climbs p s (Free 0 (k ∷ []) ∷ past) k ys) e b.2 in
    ap (λ (l : List ℕ). q ∷ l) (climbs_same p s (Free 0 (q ∷ []) ∷ past) q xs ys a.2 rest)
    ∙ ap (λ (k : ℕ). k ∷ ys) (sym e)

-- there is one chain at most
pub chain_same : (p : Program) (s : Settings) (past : List Entry) (xs ys : List ℕ)
    → IsFreeChain p s past xs → IsFreeChain p s past ys → xs ≡ ys
chain_same p s past [] ys a b = absurd a
chain_same p s past (x ∷ xs) [] a b = absurd b
chain_same p s past (x ∷ xs) (y ∷ ys) a b =
    let e : y ≡ x = same_number y x (sym b.0 ∙ a.0) in
    let rest : Climbs p s (Free 0 (x ∷ []) ∷ past) x ys =
    subst (λ (k : ℕ). Climbs p s (Free 0 (k ∷ []) ∷ past) k ys) e b.1 in
    ap (λ (l : List ℕ). x ∷ l) (climbs_same p s (Free 0 (x ∷ []) ∷ past) x xs ys a.1 rest)
    ∙ ap (λ (k : ℕ). k ∷ ys) (sym e)

-- where there is a chain, a node may be freed
pub chain_some : (p : Program) (s : Settings) (past : List Entry) (ids : List ℕ)
    → IsFreeChain p s past ids → HasNothingToFree p s past → ⊥
chain_some p s past [] a none = a
chain_some p s past (id ∷ ids) a none =
    let n : ℕ = length (nodes_of p past) in
    let P : ℕ → Type 0 = λ k. k < n in
    let f : (id < n) × (is_freeable p s past id ≡ true) =
    find_holds (is_freeable p s past) P (ids_of p past) (Each-ids n) id a.0 in
    true≢false (sym f.1 ∙ none id f.0)

-- a free where a chain may be freed frees that chain
pub freed_again : (t new : TreeView) (seat : ℕ) (ids : List ℕ) (answer : Freed)
    → IsFreeChain t.problem t.settings (past_of t) ids → Frees t seat answer new → new
    ≡ extended t (Free seat ids)
freed_again t new seat ids (Chain own) may f =
    f.1 ∙ ap (λ (l : List ℕ). extended t (Free seat l))
    (chain_same t.problem t.settings (past_of t) own ids f.0 may)
freed_again t new seat ids Nothing may f =
    absurd (chain_some t.problem t.settings (past_of t) ids may f.0)
