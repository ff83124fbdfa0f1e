-- The records after a put that splits.
use Rattle.std.proofs.Common.{◌≡◌, ℕ, ◌+◌, ◌<◌, ◌≤◌, List, [], ◌∷◌, ◌++◌, length, ap, sym, ◌∙◌}
use Rattle.std.proofs.Common.{subst, arith, Bool, Some, Option, inl, inr, length-set}
use Rattle.std.proofs.Common.{length-append}
use Rattle.std.specs.Prelude.{slice_get, slice_set, ℤ, ◌==◌}
use Rattle.std.specs.Int.{int_max}
use Rattle.std.proofs.lemmas.List.{get_or_at, get_or-append-add}
use Rattle.std.proofs.lemmas.Bool.{cases_eq, eq-eqb, cond-true}
use Rattle.std.proofs.lemmas.Option.{slice_get_within}
use Rattle.bl_problem.specs.Program.{Program}
use Rattle.bl_problem.specs.declared.cut.Cut.{Cut}
use Rattle.bl_desc.specs.declared.desc.Piece.{Piece}
use Rattle.bl_desc.specs.declared.change.Change.{Change}
use Rattle.bl_journal.specs.declared.entry.Entry.{Entry}
use Rattle.bl_journal.specs.declared.entry.Entry.TheVariants.{Put}
use Rattle.bl_journal.specs.declared.entry.Step.TheVariants.{Split}
use Rattle.bl_tree.specs.declared.record.Record.{Record}
use Rattle.bl_journal.specs.declared.settings.Settings.{Settings}
use Rattle.bl_journal.specs.Births.{nodes_of, node_at, root_node}
use Rattle.bl_journal.specs.Descriptions.{full_of, full_along}
use Rattle.bl_journal.specs.States.{state_of, has_point}
use Rattle.bl_journal.specs.declared.state.State.TheVariants.{Waiting as waiting, Split as split}
use Rattle.bl_journal.specs.Legality.{MayPut}
use Rattle.bl_tree.specs.Records.{fresh_record, box_has_point, IsRecordOf, AreRecords}
use Rattle.bl_journal.proofs.Growth.{get_or-grown}
use Rattle.bl_journal.proofs.Leaves.{Shape, out_born, state_kept, left_of, right_of}
use Rattle.bl_tree.proofs.Sets.{slice_get-set, slice_get-two}

-- the records of a node that is split, and of a child
abbrev pub parted : ℕ → Record → Record
parted n r = record r { stage = split; children = Some n }

abbrev pub child_record : ℕ → Record → ℤ → Bool → Piece Cut → Record
child_record id r low open_box piece = fresh_record id (r.depth + 1) (int_max r.low low) open_box
    piece

pub records_split : (p : Program) (s : Settings) (past : List Entry) (kept : List Record)
    (seat id : ℕ) (found : Option (List ℤ)) (low : ℤ) (common : Change Cut) (column : ℕ) (at : ℤ)
    (r : Record) (lo ro : Bool) (left right : Piece Cut)
    → Shape p past → MayPut p s past seat id found low (Split common column at)
    → AreRecords p past kept → slice_get kept id ≡ Some r
    → lo ≡ box_has_point (full_of p (Put seat id found low (Split common column at) ∷ past)
    (length (nodes_of p past)))
    → ro ≡ box_has_point (full_of p (Put seat id found low (Split common column at) ∷ past)
    (length (nodes_of p past) + 1))
    → AreRecords p (Put seat id found low (Split common column at) ∷ past)
    (slice_set kept id (parted (length (nodes_of p past)) r) ++ child_record id r low lo left
    ∷ child_record id r low ro right ∷ [])
records_split p s past kept seat id found low common column at r lo ro left right sh may rs e el
    er =
    record {
      count =
          let a = length-append (slice_set kept id y) (r1 ∷ r2 ∷ []) in
          let b = length-append (nodes_of p past)
          (left_of (node_at p past id) id low common column at
          ∷ right_of (node_at p past id) id low common column at ∷ []) in
          let c = length-set kept id y in
          let d : length kept ≡ length (nodes_of p past) = rs.count in
          omega (arith, a, b, c, d);
      each = λ k q h. slice_get-two (λ (x : Record). IsRecordOf p
          (Put seat id found low (Split common column at) ∷ past) k x)
          (slice_set kept id y) r1 r2 q k h
          (λ g. old k q (slice_get_within _ k q g) (slice_get-set kept id k y q g))
          (λ i. first k i) (λ i. second k i);
    }
  where
    y : Record
    y = parted (length (nodes_of p past)) r

    r1 : Record
    r1 = child_record id r low lo left

    r2 : Record
    r2 = child_record id r low ro right

    same_length : length (slice_set kept id (parted (length (nodes_of p past)) r))
        ≡ length (nodes_of p past)
    same_length = length-set kept id (parted (length (nodes_of p past)) r) ∙ rs.count

    born : id < length (nodes_of p past)
    born = out_born p past id seat sh may.is_out

    parent : IsRecordOf p past id r
    parent = rs.each id r e

    new_state : (k : ℕ) → length (nodes_of p past) ≤ k → waiting
        ≡ state_of (Put seat id found low (Split common column at) ∷ past) k
    new_state k h =
        let b : id < length (nodes_of p past) = born in
        sym (state_kept k id (state_of past k) split (λ g. omega (arith, g, b, h)) ∙ sh.unborn k h)

    old : (k : ℕ) (q : Record) → k
        < length (slice_set kept id (parted (length (nodes_of p past)) r))
        → (k ≡ id → (parted (length (nodes_of p past)) r) ≡ q)
        × ((k ≡ id → ⊥) → slice_get kept k ≡ Some q)
        → IsRecordOf p (Put seat id found low (Split common column at) ∷ past) k q
    old k q within s =
        let len : length (slice_set kept id (parted (length (nodes_of p past)) r))
        ≡ length (nodes_of p past) = same_length in
        let kb : k < length (nodes_of p past) = omega (arith, within, len) in
        let node : node_at p (Put seat id found low (Split common column at) ∷ past) k
        ≡ node_at p past k = get_or-grown p (nodes_of p past)
        (Put seat id found low (Split common column at)) (root_node p) k kb in
        elim (cases_eq k id) [
          | inl same ↦
              let f : IsRecordOf p past k r =
              subst (λ (m : ℕ). IsRecordOf p past m r) (sym same) parent in
              subst (λ (x : Record). IsRecordOf p (Put seat id found low (Split common column at)
              ∷ past) k x) (s.0 same)
              (record {
                depth = f.depth ∙ ap (λ m. m.depth) (sym node);
                low = f.low ∙ ap (λ m. m.low) (sym node);
                stage = sym (cond-true (id == k) split (state_of past k) (eq-eqb id k (sym same)));
                has_point = f.has_point ∙ ap
                    (λ m. has_point (full_along p m.path).lows (full_along p m.path).highs)
                    (sym node);
              })
          | inr other ↦
              let f : IsRecordOf p past k q = rs.each k q (s.1 other) in
              record {
                depth = f.depth ∙ ap (λ m. m.depth) (sym node);
                low = f.low ∙ ap (λ m. m.low) (sym node);
                stage = f.stage
                    ∙ sym (state_kept k id (state_of past k) split (λ g. other (sym g)));
                has_point = f.has_point ∙ ap
                    (λ m. has_point (full_along p m.path).lows (full_along p m.path).highs)
                    (sym node);
              }
        ]

    first : (k : ℕ) → k ≡ length (slice_set kept id (parted (length (nodes_of p past)) r))
        → IsRecordOf p (Put seat id found low (Split common column at) ∷ past) k
        (child_record id r low lo left)
    first k i =
        let here : k ≡ length (nodes_of p past) = i ∙ same_length in
        let node : node_at p (Put seat id found low (Split common column at) ∷ past) k
        ≡ left_of (node_at p past id) id low common column at =
        get_or_at (nodes_of p past) (left_of (node_at p past id) id low common column at)
        (right_of (node_at p past id) id low common column at ∷ []) (root_node p) k (sym here)
        in
        record {
          depth = ap (λ d. d + 1) parent.depth ∙ ap (λ m. m.depth) (sym node);
          low = ap (λ z. int_max z low) parent.low ∙ ap (λ m. m.low) (sym node);
          stage = new_state k (omega (arith, here));
          has_point =
              el ∙ ap (λ m. box_has_point (full_of p
              (Put seat id found low (Split common column at) ∷ past) m)) (sym here);
        }

    second : (k : ℕ) → k ≡ length (slice_set kept id (parted (length (nodes_of p past)) r)) + 1
        → IsRecordOf p (Put seat id found low (Split common column at) ∷ past) k
        (child_record id r low ro right)
    second k i =
        let here : k ≡ length (nodes_of p past) + 1 = i ∙ ap (λ m. m + 1) same_length in
        let node : node_at p (Put seat id found low (Split common column at) ∷ past)
        (length (nodes_of p past) + 1) ≡ right_of (node_at p past id) id low common column at =
        get_or-append-add (nodes_of p past) (left_of (node_at p past id) id low common column at
        ∷ right_of (node_at p past id) id low common column at ∷ []) 1 (root_node p) in
        let there : node_at p (Put seat id found low (Split common column at) ∷ past) k
        ≡ right_of (node_at p past id) id low common column at =
        ap (node_at p (Put seat id found low (Split common column at) ∷ past)) here ∙ node in
        record {
          depth = ap (λ d. d + 1) parent.depth ∙ ap (λ m. m.depth) (sym there);
          low = ap (λ z. int_max z low) parent.low ∙ ap (λ m. m.low) (sym there);
          stage = new_state k (omega (arith, here));
          has_point =
              er ∙ ap (λ m. box_has_point (full_of p
              (Put seat id found low (Split common column at) ∷ past) m)) (sym here);
        }
