-- Each node that may be freed is a candidate.
use Rattle.std.proofs.Common.{◌≡◌, ℕ, ◌+◌, ◌<◌, ◌≤◌, List, length, refl, ap, sym, ◌∙◌, subst}
use Rattle.std.proofs.Common.{arith, Bool, true, false, Some, None, Option, inl, inr}
use Rattle.std.specs.Prelude.{slice_get, ◌&&◌, IfSome, ℤ}
use Rattle.std.proofs.lemmas.Bool.{true≢false, and_parts, or_cases}
use Rattle.bl_problem.specs.Program.{Program}
use Rattle.bl_journal.specs.declared.entry.Entry.{Entry}
use Rattle.bl_journal.specs.declared.settings.Settings.{Settings}
use Rattle.bl_journal.specs.Births.{nodes_of, node_at}
use Rattle.bl_journal.specs.States.{state_of, cutoff_for}
use Rattle.bl_journal.specs.Replies.{is_waiting}
use Rattle.bl_journal.specs.Freeing.{is_freeable, first_freeable}
use Rattle.bl_journal.specs.Legality.{IsLegalPast}
use Rattle.bl_journal.proofs.Lines.{IsChildOf, lines}
use Rattle.bl_tree.specs.declared.record.Record.{Record}
use Rattle.std.proofs.lemmas.Option.{slice_get_within}
use Rattle.bl_tree.specs.Records.{may_go_if, may_go_at, parent_if, depth_if, IsLinked, AreLinked}
use Rattle.bl_tree.specs.Records.{AreRecords, AreStored}
use Rattle.bl_tree.proofs.Kept.{has_record}
use Rattle.bl_tree.proofs.Covers.{IsCovered}
use Rattle.bl_tree.proofs.Goes.{find_least, find_none, may_go_same}

-- the number is there and at most this one
abbrev pub IsAtMost : Option ℕ → ℕ → Type 0
IsAtMost o i = (k : ℕ) × (o ≡ Some k) × (k ≤ i)

-- the least that may be freed, where each that may be freed is at least it
pub first_is : (p : Program) (s : Settings) (past : List Entry) (kept : List Record)
    (cutoff : Option ℤ) (o : Option ℕ) → AreRecords p past kept → AreStored p s past kept → cutoff
    ≡ cutoff_for p s past
    → IfSome o (λ k. may_go_at cutoff kept k ≡ true)
    → ((k : ℕ) → may_go_at cutoff kept k ≡ true → k < length kept)
    → ((i : ℕ) → i < length (nodes_of p past) → is_freeable p s past i ≡ true → IsAtMost o i) → o
    ≡ first_freeable p s past
first_is p s past kept cutoff None are st b goes within least =
    sym (find_none (is_freeable p s past) (length (nodes_of p past))
    (λ q h. by_test q h (is_freeable p s past q) refl))
  where
    by_test : (q : ℕ) → q < length (nodes_of p past) → (t : Bool) → is_freeable p s past q ≡ t
        → is_freeable p s past q ≡ false
    by_test q h true e = let f = least q h e in let g : None ≡ Some f.0 = f.1 in cc
    by_test q h false e = e
first_is p s past kept cutoff (Some k) are st b goes within least =
    let len : length kept ≡ length (nodes_of p past) = are.count in
    let w : k < length kept = within k goes in
    let born : k < length (nodes_of p past) = omega (arith, w, len) in
    sym (find_least (is_freeable p s past) (length (nodes_of p past)) k born
    (sym (may_go_same p s past kept cutoff k are st b born) ∙ goes)
    (λ q h. by_test q h (omega (arith, h, born)) (is_freeable p s past q) refl))
  where
    by_test : (q : ℕ) → q < k → q < length (nodes_of p past) → (t : Bool) → is_freeable p s past q
        ≡ t → is_freeable p s past q ≡ false
    by_test q below h true e =
        let f = least q h e in
        let same : k ≡ f.0 = (let g : Some k ≡ Some f.0 = f.1 in cc) in
        let le : f.0 ≤ q = f.2 in
        absurd (omega (arith, same, le, below))
    by_test q below h false e = e

-- the records say who is linked to whom
pub linked : (p : Program) (s : Settings) (past : List Entry) (kept : List Record)
    → IsLegalPast p s past → AreRecords p past kept → AreStored p s past kept → AreLinked kept
linked p s past kept legal are st id within =
    let len : length kept ≡ length (nodes_of p past) = are.count in
    let x = has_record p past kept id are within in
    subst (λ (o : Option Record). IsLinked kept id (parent_if o) (depth_if o)) (sym x.1)
    (subst (λ (o : Option ℕ). IsLinked kept id o x.0.depth) (sym (st id x.0 x.1).parent)
    (subst (λ (n : ℕ). IsLinked kept id (node_at p past id).parent n)
    (sym (are.each id x.0 x.1).depth)
    (at (node_at p past id).parent (lines p s past legal id (omega (arith, within, len))))))
  where
    at : (o : Option ℕ) → IfSome o (λ q. IsChildOf p (node_at p past q) q id (node_at p past id))
        → IsLinked kept id o (node_at p past id).depth
    at None line = tt
    at (Some q) line =
        let below : q < id = line.below in
        let y = has_record p past kept q are (omega (arith, below, within)) in
        let deep : depth_if (slice_get kept q) ≡ (node_at p past q).depth =
        ap depth_if y.1 ∙ (are.each q y.0 y.1).depth in
        let more : (node_at p past id).depth ≡ (node_at p past q).depth + 1 = line.depth in
        (below, omega (arith, deep, more))

-- the least candidate that may be freed is the first node that may be
pub found_first : (p : Program) (s : Settings) (past : List Entry) (kept : List Record)
    (cutoff : Option ℤ) (cs : ℕ → Bool) (o : Option ℕ) → AreRecords p past kept
    → AreStored p s past kept → cutoff ≡ cutoff_for p s past
    → ((id : ℕ) → id < length (nodes_of p past) → is_freeable p s past id ≡ true → cs id ≡ true)
    → IfSome o (λ k. may_go_at cutoff kept k ≡ true)
    → IfSome o (λ k. (q : ℕ) → cs q ≡ true → k ≤ q) → (o ≡ None → (q : ℕ) → cs q ≡ false) → o
    ≡ first_freeable p s past
found_first p s past kept cutoff cs o are st b covered goes least none =
    first_is p s past kept cutoff o are st b goes there
    (λ i h g. at_most o least none i (covered i h g))
  where
    there : (k : ℕ) → may_go_at cutoff kept k ≡ true → k < length kept
    there k g = by_option (slice_get kept k) refl g
      where
        by_option : (x : Option Record) → slice_get kept k ≡ x → may_go_if cutoff kept x ≡ true
            → k < length kept
        by_option None h g = cc
        by_option (Some r) h g = slice_get_within kept k r h

    at_most : (o : Option ℕ) → IfSome o (λ k. (q : ℕ) → cs q ≡ true → k ≤ q)
        → (o ≡ None → (q : ℕ) → cs q ≡ false) → (i : ℕ) → cs i ≡ true → IsAtMost o i
    at_most None least none i c = absurd (true≢false (sym c ∙ none refl i))
    at_most (Some k) least none i c = (k, refl, least i c)

-- the candidates that may be freed stay, and where the best value fell all nodes were looked at
pub still_covered : (p : Program) (s : Settings) (past : List Entry) (kept : List Record)
    (cutoff : Option ℤ) (cs mid cs' : ℕ → Bool) (fell : Bool) → AreRecords p past kept
    → AreStored p s past kept → cutoff ≡ cutoff_for p s past
    → IsCovered p s past cs fell → ((q : ℕ) → cs q ≡ true → mid q ≡ true)
    → (fell ≡ true → (q : ℕ) → q < length kept → may_go_at cutoff kept q ≡ true → mid q ≡ true)
    → ((q : ℕ) → mid q ≡ true → may_go_at cutoff kept q ≡ true → cs' q ≡ true)
    → (id : ℕ) → id < length (nodes_of p past) → is_freeable p s past id ≡ true → cs' id ≡ true
still_covered p s past kept cutoff cs mid cs' fell are st b covered more all stay id h g =
    let len : length kept ≡ length (nodes_of p past) = are.count in
    let goes : may_go_at cutoff kept id ≡ true = may_go_same p s past kept cutoff id are st b h
    ∙ g in
    elim (or_cases (cs id) (fell && is_waiting (state_of past id)) (covered id h g)) [
      | inl a ↦ stay id (more id a) goes
      | inr a ↦ stay id (all (and_parts fell (is_waiting (state_of past id)) a).0 id
          (omega (arith, h, len)) goes) goes
    ]
