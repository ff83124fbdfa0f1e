-- The low numbers of the live nodes, and the weights of the pieces.
use Rattle.std.proofs.Common.{◌≡◌, ℕ, zero, suc, ◌+◌, ◌<◌, ◌≤◌, List, [], ◌∷◌, ◌++◌, length}
use Rattle.std.proofs.Common.{get_or, refl, ap, sym, ◌∙◌, subst, arith, Bool, true, false, cond}
use Rattle.std.proofs.Common.{not, Some, None, Option, All}
use Rattle.std.specs.Prelude.{IfSome, slice_get, take, map, filter, sum_by, reverse, nat_lt, ℤ}
use Rattle.std.specs.Prelude.{◌||◌, ◌&&◌}
use Rattle.std.proofs.lemmas.List.{take_all, map-append}
use Rattle.std.proofs.lemmas.Bool.{lt-ltb, le-ltb, cond-true, cond-false}
use Rattle.bl_problem.specs.declared.cut.Cut.{Cut}
use Rattle.bl_desc.specs.declared.desc.Piece.{Piece}
use Rattle.bl_desc.specs.declared.desc.Form.{Form}
use Rattle.bl_desc.specs.declared.desc.Form.TheVariants.{Explicit as ExplicitForm}
use Rattle.bl_desc.specs.declared.desc.Form.TheVariants.{Relative as RelativeForm}
use Rattle.bl_desc.proofs.Ranges.{difference_is_short}
use Rattle.std.proofs.lemmas.List.Elements.{filter-append, filter_more}
use Rattle.std.proofs.lemmas.List.Sums.{sum_by_more, sum_by-append}
use Rattle.std.proofs.lemmas.Option.{get_or_from_slice_get, slice_get_within}
use Rattle.bl_problem.specs.Program.{Program, IsProgram}
use Rattle.bl_desc.specs.Weights.{weight_of, HasShortLists, DescHasShortLists}
use Rattle.bl_journal.specs.declared.entry.Entry.{Entry}
use Rattle.bl_journal.specs.declared.settings.Settings.{Settings}
use Rattle.bl_journal.specs.Births.{nodes_of, node_at}
use Rattle.bl_journal.specs.Descriptions.{full_of}
use Rattle.bl_journal.specs.States.{form_of, state_of, is_live, is_live_in, is_open, cutoff_for}
use Rattle.bl_journal.specs.States.{best_of, Found}
use Rattle.bl_journal.specs.declared.state.State.{State}
use Rattle.bl_journal.specs.declared.state.State.TheVariants.{Waiting as waiting, Out as out}
use Rattle.bl_journal.specs.declared.state.State.TheVariants.{Split as split, Shut as shut}
use Rattle.bl_journal.specs.declared.state.State.TheVariants.{Freed as freed}
use Rattle.bl_journal.specs.Replies.{ids_below, is_waiting, is_out}
use Rattle.bl_journal.specs.Pieces.{stored_of, piece_in, difference_from, held_of, is_freed}
use Rattle.bl_journal.specs.Results.{live_ids, lows_of, answer_of, answer_for}
use Rattle.bl_tree.specs.declared.record.Record.{Record}
use Rattle.bl_tree.specs.Records.{waits, lives, live_lows, least_if, weight_if, piece_if}
use Rattle.bl_tree.specs.Records.{AreRecords, AreStored, IsRecordOf}
use Rattle.bl_journal.specs.Legality.{IsLegalPast}
use Rattle.bl_journal.proofs.Sums.{total}
use Rattle.bl_journal.proofs.Lines.{IsChildOf, lines, full_whole, full_columns, full_rows}
use Rattle.bl_journal.proofs.Workable.{cuts_fine}
use Rattle.bl_tree.specs.Answers.{stored_for, verdict_from}
use Rattle.bl_tree.proofs.Kept.{has_record, waits_same}

-- a record lives where its node does
pub lives_same : (p : Program) (s : Settings) (past : List Entry) (i : ℕ) (r : Record)
    (cutoff : Option ℤ) → cutoff ≡ cutoff_for p s past → IsRecordOf p past i r → lives cutoff r
    ≡ is_live p s past i
lives_same p s past i r cutoff b f =
    let w : waits cutoff r ≡ (is_waiting (state_of past i) && is_open p s past i) =
    waits_same p s past i r cutoff b f in
    let o : is_out r.stage ≡ is_out (state_of past i) = ap is_out f.stage in
    ap (λ (t : Bool). t || waits cutoff r) o
    ∙ (ap (λ (t : Bool). is_out (state_of past i) || t) w ∙ by_state (state_of past i))
  where
    by_state : (t : State) → (is_out t || (is_waiting t && is_open p s past i))
        ≡ is_live_in t (is_open p s past i)
    by_state waiting = refl
    by_state (out seat) = refl
    by_state split = refl
    by_state shut = refl
    by_state freed = refl

lows_below : (p : Program) (s : Settings) (past : List Entry) (kept : List Record)
    (cutoff : Option ℤ) → cutoff ≡ cutoff_for p s past → AreRecords p past kept → (n : ℕ) → n
    ≤ length kept
    → live_lows cutoff (take n kept) ≡ lows_of p past (filter (is_live p s past) (ids_below n))
lows_below p s past kept cutoff b rs zero h = refl
lows_below p s past kept cutoff b rs (suc n) h =
    let within : n < length kept = omega (arith, h) in
    let x = has_record p past kept n rs within in
    let r : Record = x.0 in
    let is : get_or kept n r ≡ r = get_or_from_slice_get kept n r r x.1 in
    let f : IsRecordOf p past n r = rs.each n r x.1 in
    let ih : live_lows cutoff (take n kept) ≡ lows_of p past
    (filter (is_live p s past) (ids_below n)) =
    lows_below p s past kept cutoff b rs n (omega (arith, h)) in
    let low : Record → ℤ = λ q. q.low in
    let next : n + 1 ≡ suc n = omega arith in
    let a : filter (lives cutoff) (take (n + 1) kept) ≡ filter (lives cutoff) (take n kept)
    ++ cond (lives cutoff (get_or kept n r)) (get_or kept n r ∷ []) [] =
    filter_more (lives cutoff) kept n r within in
    let a' : filter (lives cutoff) (take (n + 1) kept) ≡ filter (lives cutoff) (take n kept)
    ++ cond (is_live p s past n) (r ∷ []) [] =
    a ∙ (ap (λ (q : Record). filter (lives cutoff) (take n kept)
    ++ cond (lives cutoff q) (q ∷ []) []) is
    ∙ ap (λ (t : Bool). filter (lives cutoff) (take n kept) ++ cond t (r ∷ []) [])
    (lives_same p s past n r cutoff b f)) in
    let c : filter (is_live p s past) (ids_below (suc n))
    ≡ filter (is_live p s past) (ids_below n) ++ cond (is_live p s past n) (n ∷ []) [] =
    filter-append (is_live p s past) (ids_below n) (n ∷ []) in
    let d : live_lows cutoff (take (n + 1) kept) ≡ live_lows cutoff (take n kept)
    ++ map low (cond (is_live p s past n) (r ∷ []) []) =
    ap (map low) a' ∙ map-append low (filter (lives cutoff) (take n kept))
    (cond (is_live p s past n) (r ∷ []) []) in
    let e : lows_of p past (filter (is_live p s past) (ids_below (suc n)))
    ≡ lows_of p past (filter (is_live p s past) (ids_below n))
    ++ lows_of p past (cond (is_live p s past n) (n ∷ []) []) =
    ap (lows_of p past) c ∙ map-append (λ (id : ℕ). (node_at p past id).low)
    (filter (is_live p s past) (ids_below n)) (cond (is_live p s past n) (n ∷ []) []) in
    let g : map low (cond (is_live p s past n) (r ∷ []) [])
    ≡ lows_of p past (cond (is_live p s past n) (n ∷ []) []) =
    by_test r f.low (is_live p s past n) in
    subst (λ (m : ℕ). live_lows cutoff (take m kept)
    ≡ lows_of p past (filter (is_live p s past) (ids_below (suc n)))) next
    (d ∙ (ap (λ (l : List ℤ). l ++ map low (cond (is_live p s past n) (r ∷ []) [])) ih
    ∙ (ap (λ (l : List ℤ). lows_of p past (filter (is_live p s past) (ids_below n)) ++ l) g
    ∙ sym e)))
  where
    by_test : (r : Record) → r.low ≡ (node_at p past n).low → (t : Bool)
        → map (λ (q : Record). q.low) (cond t (r ∷ []) []) ≡ lows_of p past (cond t (n ∷ []) [])
    by_test r same true = ap (λ (z : ℤ). z ∷ []) same
    by_test r same false = refl

-- the live nodes' low numbers are those of the records
pub lows_same : (p : Program) (s : Settings) (past : List Entry) (kept : List Record)
    (cutoff : Option ℤ) → cutoff ≡ cutoff_for p s past → AreRecords p past kept
    → live_lows cutoff kept ≡ lows_of p past (live_ids p s past)
lows_same p s past kept cutoff b rs =
    let whole : take (length kept) kept ≡ kept = take_all (length kept) kept (omega arith) in
    ap (live_lows cutoff) (sym whole) ∙ (lows_below p s past kept cutoff b rs (length kept)
    (omega arith) ∙ ap (λ (n : ℕ). lows_of p past (filter (is_live p s past) (ids_below n)))
    rs.count)

-- the weight of the node's piece, 0 where it is freed
share : Program → Settings → List Entry → ℕ → ℕ
share p s past id = cond (not (is_freed (state_of past id))) (weight_of (stored_of p s past id)) 0

sum_filtered : (p : Program) (s : Settings) (past : List Entry) (n : ℕ)
    → sum_by (λ (id : ℕ). weight_of (stored_of p s past id))
    (filter (λ (id : ℕ). not (is_freed (state_of past id))) (ids_below n))
    ≡ total (share p s past) n
unfolding share
sum_filtered p s past zero = refl
sum_filtered p s past (suc n) =
    let f : ℕ → ℕ = λ id. weight_of (stored_of p s past id) in
    let t : ℕ → Bool = λ id. not (is_freed (state_of past id)) in
    ap (sum_by f) (filter-append t (ids_below n) (n ∷ []))
    ∙ (sum_by-append f (filter t (ids_below n)) (cond (t n) (n ∷ []) [])
    ∙ (ap (λ (m : ℕ). m + sum_by f (cond (t n) (n ∷ []) [])) (sum_filtered p s past n)
    ∙ ap (λ (m : ℕ). total (share p s past) n + m) (by_test (t n))))
  where
    by_test : (b : Bool) → sum_by (λ (id : ℕ). weight_of (stored_of p s past id))
        (cond b (n ∷ []) []) ≡ cond b (weight_of (stored_of p s past n)) 0
    by_test true = omega arith
    by_test false = refl

weights_below : (p : Program) (s : Settings) (past : List Entry) (kept : List Record)
    → AreRecords p past kept → AreStored p s past kept → (n : ℕ) → n ≤ length kept
    → sum_by (λ (r : Record). weight_if r.piece) (take n kept) ≡ total (share p s past) n
unfolding share
weights_below p s past kept rs st zero h = refl
weights_below p s past kept rs st (suc n) h =
    let f : Record → ℕ = λ r. weight_if r.piece in
    let within : n < length kept = omega (arith, h) in
    let x = has_record p past kept n rs within in
    let is : get_or kept n x.0 ≡ x.0 = get_or_from_slice_get kept n x.0 x.0 x.1 in
    let ih : sum_by f (take n kept) ≡ total (share p s past) n =
    weights_below p s past kept rs st n (omega (arith, h)) in
    let more : sum_by f (take (n + 1) kept) ≡ sum_by f (take n kept) + f (get_or kept n x.0) =
    sum_by_more f kept n x.0 within in
    let here : f x.0 ≡ cond (not (is_freed (state_of past n))) (weight_of (stored_of p s past n))
    0 =
    ap weight_if (st n x.0 x.1).piece
    ∙ by_test (is_freed (state_of past n)) (stored_of p s past n) in
    let at : f (get_or kept n x.0) ≡ cond (not (is_freed (state_of past n)))
    (weight_of (stored_of p s past n)) 0 = ap f is ∙ here in
    let next : n + 1 ≡ suc n = omega arith in
    subst (λ (m : ℕ). sum_by (λ (r : Record). weight_if r.piece) (take m kept)
    ≡ total (share p s past) (suc n)) next
    (more ∙ (ap (λ (m : ℕ). m + f (get_or kept n x.0)) ih
    ∙ ap (λ (m : ℕ). total (share p s past) n + m) at))
  where
    by_test : (b : Bool) (q : Piece Cut) → weight_if (cond b None (Some q))
        ≡ cond (not b) (weight_of q) 0
    by_test true q = refl
    by_test false q = refl

-- the weight of the records' pieces is that of the history
pub weights_same : (p : Program) (s : Settings) (past : List Entry) (kept : List Record)
    → AreRecords p past kept → AreStored p s past kept
    → sum_by (λ (r : Record). weight_if r.piece) kept ≡ held_of p s past
unfolding held_of
weights_same p s past kept rs st =
    let whole : take (length kept) kept ≡ kept = take_all (length kept) kept (omega arith) in
    ap (sum_by (λ (r : Record). weight_if r.piece)) (sym whole)
    ∙ (weights_below p s past kept rs st (length kept) (omega arith)
    ∙ (ap (total (share p s past)) rs.count
    ∙ sym (sum_filtered p s past (length (nodes_of p past)))))

slice_get_none : {X : Type 0} (xs : List X) (i : ℕ) → slice_get xs i ≡ None → length xs ≤ i
slice_get_none [] i e = omega arith
slice_get_none (x ∷ xs) zero e = cc
slice_get_none (x ∷ xs) (suc i) e = let h : length xs ≤ i =
    slice_get_none xs i e in omega (arith, h)

-- what is stored of a node is its record's piece
pub stored_same : (p : Program) (s : Settings) (history : List Entry) (kept : List Record)
    (id : ℕ) → AreRecords p (reverse history) kept → AreStored p s (reverse history) kept
    → piece_if (slice_get kept id)
    ≡ stored_for (record { problem = p; settings = s; history = history }) id
stored_same p s history kept id rs st = by_option (slice_get kept id) refl
  where
    by_option : (o : Option Record) → slice_get kept id ≡ o → piece_if o
        ≡ stored_for (record { problem = p; settings = s; history = history }) id
    by_option None e =
        let out_of : length kept ≤ id = slice_get_none kept id e in
        let c : length kept ≡ length (nodes_of p (reverse history)) = rs.count in
        let t : nat_lt id (length (nodes_of p (reverse history))) ≡ false =
        le-ltb id (length (nodes_of p (reverse history))) (omega (arith, out_of, c)) in
        sym (cond-false _ _ _ t)
    by_option (Some r) e =
        let h : id < length kept = slice_get_within kept id r e in
        let c : length kept ≡ length (nodes_of p (reverse history)) = rs.count in
        let t : nat_lt id (length (nodes_of p (reverse history))) ≡ true =
        lt-ltb id (length (nodes_of p (reverse history))) (omega (arith, h, c)) in
        (st id r e).piece ∙ sym (cond-true _ _ _ t)

-- the answer is that of the history
pub answer_same : (p : Program) (s : Settings) (past : List Entry) (best : Option Found)
    (least : Option ℤ) → best ≡ best_of p past → least
    ≡ least_if (lows_of p past (live_ids p s past))
    → verdict_from s.gap best least ≡ answer_of p s past
unfolding answer_of
answer_same p s past best least b e =
    ap (λ (x : Option ℤ). verdict_from s.gap best x) e
    ∙ (ap (λ (f : Option Found). verdict_from s.gap f
    (least_if (lows_of p past (live_ids p s past)))) b
    ∙ by_list (best_of p past) (lows_of p past (live_ids p s past)))
  where
    by_list : (f : Option Found) (lows : List ℤ) → verdict_from s.gap f (least_if lows)
        ≡ answer_for s.gap f lows
    by_list f [] = refl
    by_list f (low ∷ lows) = refl

-- the lists of each description are short
descs_short : (p : Program) (s : Settings) (past : List Entry) → IsLegalPast p s past
    → IsProgram p → (k : ℕ) → k < length (nodes_of p past) → DescHasShortLists (full_of p past k)
descs_short p s past l w k h =
    let whole = full_whole p past k in
    let columns = full_columns p past k in
    let rows = full_rows p past k in
    let few = (cuts_fine p s past l k h).few in
    let wide = w.few_columns in
    let long = w.few_rows in
    record {
      lows = omega (arith, columns, wide);
      highs = omega (arith, whole.highs, columns, wide);
      cuts = omega (arith, few);
      columns = omega (arith, whole.columns, columns, wide);
      rows = omega (arith, rows, long);
      cut_status = omega (arith, whole.cuts, few);
    }

-- the lists of what is stored are short
stored_short : (p : Program) (s : Settings) (past : List Entry) → IsLegalPast p s past
    → IsProgram p → (k : ℕ) → k < length (nodes_of p past) → HasShortLists (stored_of p s past k)
stored_short p s past l w k h = by_form (form_of p s past k)
  where
    by_parent : (o : Option ℕ) → IfSome o (λ q. IsChildOf p (node_at p past q) q k
        (node_at p past k)) → HasShortLists (difference_from p past o (full_of p past k))
    by_parent None line = descs_short p s past l w k h
    by_parent (Some q) line =
        let below : q < k = line.below in
        let columns = full_columns p past q in
        let rows = full_rows p past q in
        let wide = w.few_columns in
        let long = w.few_rows in
        let parent = (cuts_fine p s past l q (omega (arith, below, h))).few in
        let child = (cuts_fine p s past l k h).few in
        difference_is_short (λ (c : Cut). c.id) (full_of p past q) (full_of p past k)
        (full_whole p past q) line.part
        (omega (arith, columns, wide)) (omega (arith, rows, long)) (omega (arith, parent))
        (omega (arith, child))

    by_form : (f : Form) → HasShortLists (piece_in p past k f)
    by_form ExplicitForm = descs_short p s past l w k h
    by_form RelativeForm = by_parent (node_at p past k).parent (lines p s past l k h)

-- the lists of each record's piece are short
pub pieces_short : (p : Program) (s : Settings) (past : List Entry) (kept : List Record)
    → IsLegalPast p s past → IsProgram p → AreRecords p past kept → AreStored p s past kept
    → All (λ (r : Record). IfSome r.piece HasShortLists) kept
pieces_short p s past kept l w rs st = λ k d h.
    let x = has_record p past kept k rs h in
    let is : get_or kept k d ≡ x.0 = get_or_from_slice_get kept k x.0 d x.1 in
    let c : length kept ≡ length (nodes_of p past) = rs.count in
    subst (λ (q : Record). IfSome q.piece HasShortLists) (sym is)
    (subst (λ (o : Option (Piece Cut)). IfSome o HasShortLists) (sym (st k x.0 x.1).piece)
    (by_test (is_freed (state_of past k)) (stored_of p s past k)
    (stored_short p s past l w k (omega (arith, h, c)))))
  where
    by_test : (b : Bool) (q : Piece Cut) → HasShortLists q
        → IfSome (cond b None (Some q)) HasShortLists
    by_test true q f = tt
    by_test false q f = f
