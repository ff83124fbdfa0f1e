-- What a legal history says of its beginnings.
use Rattle.std.proofs.Common.{◌≡◌, ℕ, ◌+◌, ◌<◌, ◌≤◌, List, [], ◌∷◌, ◌++◌, length, get_or, take}
use Rattle.std.proofs.Common.{drop, ap, sym, ◌∙◌, subst}
use Rattle.std.specs.Prelude.{reverse}
use Rattle.std.proofs.lemmas.List.{reverse-append, take-append-drop, take_more, take_all}
use Rattle.bl_problem.specs.Program.{Program}
use Rattle.bl_journal.specs.declared.entry.Entry.{Entry}
use Rattle.bl_journal.specs.declared.settings.Settings.{Settings}
use Rattle.bl_journal.specs.Legality.{IsAllowed, IsLegal, IsLegalPast}
use Rattle.bl_journal.proofs.Growth.{reverse-push}
use Rattle.bl_journal.proofs.Others.{legal_past}
use Rattle.bl_tree.specs.Views.{TreeView, past_of, extended}

-- an entry of a legal history was allowed when it came
pub allowed_at : (p : Program) (s : Settings) (done rest : List Entry) (e : Entry)
    → IsLegalPast p s (reverse ((done ++ e ∷ []) ++ rest)) → IsAllowed p s (reverse done) e
allowed_at p s done rest e l =
    let turned : reverse ((done ++ e ∷ []) ++ rest) ≡ reverse rest ++ e ∷ reverse done =
    reverse-append (done ++ e ∷ []) rest ∙ ap (λ (past : List Entry). reverse rest ++ past)
    (reverse-push done e) in
    (legal_past p s (reverse rest) (e ∷ reverse done) (subst (IsLegalPast p s) turned l)).0

-- the entry after the first ones
pub allowed_next : (p : Program) (s : Settings) (entries : List Entry) (i : ℕ) (e : Entry)
    → IsLegal p s entries → i < length entries → e ≡ get_or entries i e
    → IsAllowed p s (reverse (take i entries)) e
allowed_next p s entries i e legal short is =
    let more : take (i + 1) entries ≡ take i entries ++ e ∷ [] = take_more entries i e short
    ∙ ap (λ (x : Entry). take i entries ++ x ∷ []) (sym is) in
    let parts : entries ≡ (take i entries ++ e ∷ []) ++ drop (i + 1) entries =
    sym (take-append-drop (i + 1) entries) ∙ ap (λ (xs : List Entry). xs ++ drop (i + 1) entries)
    more in
    allowed_at p s (take i entries) (drop (i + 1) entries) e
    (subst (λ (xs : List Entry). IsLegalPast p s (reverse xs)) parts legal.steps)

-- the tree of the same problem and settings with this history
abbrev pub with_history : TreeView → List Entry → TreeView
with_history t history = record { problem = t.problem; settings = t.settings; history = history }

pub with_own : (t : TreeView) (history : List Entry) → t.history ≡ history → t
    ≡ with_history t history
with_own t history e = ap (with_history t) e

-- one more entry is done
pub done_more : (old t new : TreeView) (entries : List Entry) (i : ℕ) (e : Entry) → t
    ≡ with_history old (take i entries) → new ≡ extended t e → i < length entries → e
    ≡ get_or entries i e
    → new ≡ with_history old (take (i + 1) entries)
done_more old t new entries i e done entered short is =
    let more : take i entries ++ e ∷ [] ≡ take (i + 1) entries =
    sym (take_more entries i e short ∙ ap (λ (x : Entry). take i entries ++ x ∷ []) (sym is)) in
    entered ∙ (ap (λ (u : TreeView). extended u e) done ∙ ap (with_history old) more)

-- all are done
pub done_all : (old t : TreeView) (entries : List Entry) (i : ℕ) → t
    ≡ with_history old (take i entries) → length entries ≤ i → t ≡ with_history old entries
done_all old t entries i done end = done ∙ ap (with_history old) (take_all i entries end)

-- the entry that comes next is allowed
pub next_allowed : (old t : TreeView) (entries : List Entry) (i : ℕ) (e : Entry)
    → IsLegal old.problem old.settings entries → t ≡ with_history old (take i entries) → i
    < length entries → e ≡ get_or entries i e
    → IsAllowed t.problem t.settings (past_of t) e
next_allowed old t entries i e legal done short is =
    subst (λ (u : TreeView). IsAllowed u.problem u.settings (past_of u) e) (sym done)
    (allowed_next old.problem old.settings entries i e legal short is)
