-- The number of nodes that are out.
use Rattle.std.proofs.Common.{◌≡◌, ℕ, zero, suc, ◌+◌, ◌<◌, ◌≤◌, List, [], ◌∷◌, length, get_or}
use Rattle.std.proofs.Common.{refl, ap, sym, ◌∙◌, subst, arith, Option}
use Rattle.std.specs.Prelude.{count_by, sum_by, filter, take, reverse, ℤ}
use Rattle.std.proofs.lemmas.List.{take_all}
use Rattle.std.proofs.lemmas.List.Sums.{sum_by_more, length-filter}
use Rattle.std.proofs.lemmas.Option.{get_or_from_slice_get}
use Rattle.bl_problem.specs.Program.{Program}
use Rattle.bl_journal.specs.declared.entry.Entry.{Entry}
use Rattle.bl_tree.specs.declared.record.Record.{Record}
use Rattle.bl_journal.specs.Births.{nodes_of}
use Rattle.bl_journal.specs.States.{state_of, used_of}
use Rattle.bl_journal.specs.Replies.{ids_of, ids_below, is_out}
use Rattle.bl_journal.specs.declared.settings.Settings.{Settings}
use Rattle.bl_tree.specs.declared.answer.Glance.{Glance}
use Rattle.bl_tree.specs.Answers.{glance_for}
use Rattle.bl_tree.specs.Views.{TreeView}
use Rattle.bl_tree.specs.Records.{AreRecords, IsKept}
use Rattle.bl_journal.proofs.Sums.{one_if}
use Rattle.bl_tree.proofs.Kept.{has_record}
use Rattle.bl_journal.proofs.Budget.{out_one}
use Rattle.bl_journal.proofs.Sums.{total, sum_ids}

outs_below : (p : Program) (past : List Entry) (kept : List Record) (d : Record)
    → AreRecords p past kept → (n : ℕ) → n ≤ length kept
    → sum_by (λ (r : Record). one_if (is_out r.stage)) (take n kept) ≡ total (out_one past) n
outs_below p past kept d rs zero h = refl
outs_below p past kept d rs (suc n) h =
    let f : Record → ℕ = λ r. one_if (is_out r.stage) in
    let within : n < length kept = omega (arith, h) in
    let ih : sum_by f (take n kept) ≡ total (out_one past) n =
    outs_below p past kept d rs n (omega (arith, h)) in
    let more : sum_by f (take (n + 1) kept) ≡ sum_by f (take n kept) + f (get_or kept n d) =
    sum_by_more f kept n d within in
    let x = has_record p past kept n rs within in
    let is : get_or kept n d ≡ x.0 = get_or_from_slice_get kept n x.0 d x.1 in
    let here : f (get_or kept n d) ≡ out_one past n =
    ap f is ∙ ap one_if (ap is_out (rs.each n x.0 x.1).stage) in
    let next : n + 1 ≡ suc n = omega arith in
    let all : sum_by f (take (n + 1) kept) ≡ total (out_one past) n + out_one past n =
    omega (arith, more, ih, here) in
    subst (λ (m : ℕ). sum_by f (take m kept) ≡ total (out_one past) n + out_one past n) next all

pub outs_counted : (p : Program) (past : List Entry) (kept : List Record) → AreRecords p past kept
    → count_by (λ (r : Record). is_out r.stage) kept
    ≡ length (filter (λ id. is_out (state_of past id)) (ids_of p past))
outs_counted p past [] rs =
    let n : length (nodes_of p past) ≡ 0 = sym rs.count in
    ap (λ m. length (filter (λ id. is_out (state_of past id)) (ids_below m))) (sym n)
outs_counted p past (d ∷ kept) rs =
    let f : Record → ℕ = λ r. one_if (is_out r.stage) in
    let n : ℕ = length (d ∷ kept) in
    let whole : take n (d ∷ kept) ≡ d ∷ kept = take_all n (d ∷ kept) (omega arith) in
    let a : sum_by f (d ∷ kept) ≡ total (out_one past) n = ap (sum_by f) (sym whole)
    ∙ outs_below p past (d ∷ kept) d rs n (omega arith) in
    let b : total (out_one past) n ≡ total (out_one past) (length (nodes_of p past)) =
    ap (total (out_one past)) rs.count in
    let c : sum_by (out_one past) (ids_of p past)
    ≡ total (out_one past) (length (nodes_of p past)) =
    sum_ids (out_one past) (length (nodes_of p past)) in
    a ∙ (b ∙ (sym c ∙ sym (length-filter (λ id. is_out (state_of past id)) (ids_of p past))))

pub glance_is : (p : Program) (s : Settings) (history : List Entry) (t : TreeView)
    (room capacity : ℕ) (kept xs : List Record) (taken : ℕ) (best : Option ℤ) (n outs : ℕ)
    → IsKept p s (reverse history) room capacity kept taken best
    → (record { problem = p; settings = s; history = history }) ≡ t → n ≡ length kept → xs ≡ kept
    → outs ≡ count_by (λ (r : Record). is_out r.stage) xs
    → (record { nodes = n; used = taken; out = outs; best = best }) ≡ glance_for t
glance_is p s history t room capacity kept xs taken best n outs k view e same f =
    let mk : ℕ → ℕ → ℕ → Option ℤ → Glance =
    λ a b c d. record { nodes = a; used = b; out = c; best = d } in
    let count : n ≡ length (nodes_of p (reverse history)) = e ∙ k.records.count in
    let all : outs ≡ length (filter (λ id. is_out (state_of (reverse history) id))
    (ids_of p (reverse history))) =
    f ∙ (ap (count_by (λ (r : Record). is_out r.stage)) same
    ∙ outs_counted p (reverse history) kept k.records) in
    let nodes : ℕ = length (nodes_of p (reverse history)) in
    let out_count : ℕ =
    length (filter (λ id. is_out (state_of (reverse history) id))
    (ids_of p (reverse history))) in
    let base : mk n taken outs best
    ≡ glance_for (record { problem = p; settings = s; history = history }) =
    ap (λ a. mk a taken outs best) count
    ∙ (ap (λ b. mk nodes b outs best) k.used
    ∙ (ap (λ c. mk nodes (used_of (reverse history)) c best) all
    ∙ ap (mk nodes (used_of (reverse history)) out_count) k.best_is)) in
    base ∙ ap glance_for view
