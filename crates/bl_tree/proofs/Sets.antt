-- One record of a list changes.
use Rattle.std.proofs.Common.{◌≡◌, ℕ, zero, suc, ◌+◌, List, [], ◌∷◌, ◌++◌, length, refl, ap, sym}
use Rattle.std.proofs.Common.{◌∙◌, subst, arith, Bool, cond, Some, inl, inr, length-set}
use Rattle.std.specs.Prelude.{slice_get, slice_set, count_by}
use Rattle.std.proofs.lemmas.Bool.{cases_eq}
use Rattle.std.proofs.lemmas.Option.{slice_get_within, get_or_from_slice_get}
use Rattle.std.proofs.lemmas.List.Sums.{sum_by-set}
use Rattle.bl_problem.specs.Program.{Program}
use Rattle.bl_journal.specs.declared.entry.Entry.{Entry}
use Rattle.bl_tree.specs.declared.record.Record.{Record}
use Rattle.bl_journal.specs.Births.{nodes_of, node_at}
use Rattle.bl_journal.specs.Descriptions.{full_along}
use Rattle.bl_journal.specs.States.{state_of, has_point}
use Rattle.bl_journal.specs.declared.state.State.{State}
use Rattle.bl_tree.specs.Records.{IsRecordOf, AreRecords}
use Rattle.bl_journal.proofs.Sums.{one_if}

pub slice_get-set : {X : Type 0} (xs : List X) (i k : ℕ) (y q : X)
    → slice_get (slice_set xs i y) k ≡ Some q → (k ≡ i → y ≡ q)
    × ((k ≡ i → ⊥) → slice_get xs k ≡ Some q)
slice_get-set [] i k y q e = (λ _. cc, λ _. cc)
slice_get-set (x ∷ xs) zero zero y q e = (λ _. cc, λ ne. absurd (ne refl))
slice_get-set (x ∷ xs) zero (suc k) y q e = (λ h. absurd (omega (arith, h)), λ _. e)
slice_get-set (x ∷ xs) (suc i) zero y q e = (λ h. absurd (omega (arith, h)), λ _. e)
slice_get-set (x ∷ xs) (suc i) (suc k) y q e =
    let r = slice_get-set xs i k y q e in
    (λ h. r.0 (omega (arith, h)), λ ne. r.1 (λ h. ne (ap suc h)))

-- an element of a list with two more: one of the list, or the first or the second of the two
pub slice_get-two : {X : Type 0} (P : X → Type 0) (xs : List X) (l r q : X) (k : ℕ)
    → slice_get (xs ++ l ∷ r ∷ []) k ≡ Some q
    → (slice_get xs k ≡ Some q → P q) → (k ≡ length xs → P l) → (k ≡ length xs + 1 → P r) → P q
slice_get-two P [] l r q zero e old left right = let f : l ≡ q = cc in subst P f (left refl)
slice_get-two P [] l r q (suc zero) e old left right = let f : r ≡ q =
    cc in subst P f (right (omega arith))
slice_get-two P [] l r q (suc (suc k)) e old left right = cc
slice_get-two P (x ∷ xs) l r q zero e old left right = old e
slice_get-two P (x ∷ xs) l r q (suc k) e old left right =
    slice_get-two P xs l r q k e old (λ h. left (ap suc h)) (λ h. right (omega (arith, h)))

pub count_by-set : {X : Type 0} (test : X → Bool) (xs : List X) (i : ℕ) (y r : X) → slice_get xs i
    ≡ Some r
    → count_by test (slice_set xs i y) + one_if (test r) ≡ count_by test xs + one_if (test y)
count_by-set {X} test xs i y r e =
    let f : X → ℕ = λ x. cond (test x) 1 0 in
    let h = sum_by-set f xs i y r (slice_get_within xs i r e) in
    subst (λ (z : X). count_by test (slice_set xs i y) + one_if (test z) ≡ count_by test xs
    + one_if (test y)) (get_or_from_slice_get xs i r r e) h

-- one record changes, and says the same of its node's box
pub record SameBox (r y : Record) : Type 0 where
  pub depth : y.depth ≡ r.depth
  pub low : y.low ≡ r.low
  pub has_point : y.has_point ≡ r.has_point

pub records_set : (p : Program) (past past' : List Entry) (kept : List Record) (id : ℕ)
    (r y : Record)
    → SameBox r y → nodes_of p past' ≡ nodes_of p past → y.stage ≡ state_of past' id
    → ((k : ℕ) → (k ≡ id → ⊥) → state_of past' k ≡ state_of past k)
    → AreRecords p past kept → slice_get kept id ≡ Some r → AreRecords p past' (slice_set kept id y)
records_set p past past' kept id r y box nodes now others rs e =
    record {
      count = length-set kept id y ∙ (rs.count ∙ ap length (sym nodes));
      each = λ k q h. at k q (slice_get-set kept id k y q h);
    }
  where
    same_node : (k : ℕ) → node_at p past k ≡ node_at p past' k
    same_node k = rw nodes refl

    at : (k : ℕ) (q : Record) → (k ≡ id → y ≡ q) × ((k ≡ id → ⊥) → slice_get kept k ≡ Some q)
        → IsRecordOf p past' k q
    at k q s =
        elim (cases_eq k id) [
          | inl same ↦
              let old = rs.each id r e in
              let new : IsRecordOf p past' id y =
              record {
                depth = box.depth ∙ (old.depth ∙ ap (λ n. n.depth) (same_node id));
                low = box.low ∙ (old.low ∙ ap (λ n. n.low) (same_node id));
                stage = now;
                has_point = box.has_point ∙ (old.has_point
                    ∙ ap (λ n. has_point (full_along p n.path).lows (full_along p n.path).highs)
                    (same_node id));
              } in
              subst (λ (m : ℕ). IsRecordOf p past' m q) (sym same)
              (subst (λ (z : Record). IsRecordOf p past' id z) (s.0 same) new)
          | inr other ↦
              let old = rs.each k q (s.1 other) in
              record {
                depth = old.depth ∙ ap (λ n. n.depth) (same_node k);
                low = old.low ∙ ap (λ n. n.low) (same_node k);
                stage = old.stage ∙ sym (others k other);
                has_point = old.has_point ∙ ap
                    (λ n. has_point (full_along p n.path).lows (full_along p n.path).highs)
                    (same_node k);
              }
        ]

pub same_box : (r : Record) (st : State) → SameBox r (record r { stage = st })
same_box r st = record { depth = refl; low = refl; has_point = refl }
