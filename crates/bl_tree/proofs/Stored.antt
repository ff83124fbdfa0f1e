-- How the records say where their nodes are stored, and how that follows the history.
use Rattle.std.proofs.Common.{◌≡◌, ℕ, zero, suc, ◌+◌, ◌<◌, ◌≤◌, List, [], ◌∷◌, ◌++◌, length, refl}
use Rattle.std.proofs.Common.{ap, sym, ◌∙◌, subst, arith, Bool, true, false, cond, Some, None}
use Rattle.std.proofs.Common.{Option, inl, inr, length-set, length-append}
use Rattle.std.specs.Prelude.{slice_get, slice_set, ◌==◌, ◌||◌, IfSome, ℤ, ◌%◌}
use Rattle.std.proofs.lemmas.Bool.{cases_eq, cases_lt, eq-eqb, ne_eqb, cond-true, cond-false}
use Rattle.std.proofs.lemmas.Bool.{true≢false}
use Rattle.std.proofs.Math.Nat.{zero-mod}
use Rattle.std.proofs.lemmas.List.{get_or_at, get_or-append-add}
use Rattle.std.proofs.lemmas.Option.{slice_get_within}
use Rattle.bl_mods.specs.Mods.{is_among}
use Rattle.bl_problem.specs.Program.{Program}
use Rattle.bl_problem.specs.declared.cut.Cut.{Cut}
use Rattle.bl_desc.specs.declared.desc.Desc.{Desc}
use Rattle.bl_desc.specs.declared.change.Change.{Change}
use Rattle.bl_desc.specs.declared.desc.Form.{Form}
use Rattle.bl_desc.specs.declared.desc.Form.TheVariants.{Explicit as ExplicitForm}
use Rattle.bl_desc.specs.declared.desc.Form.TheVariants.{Relative as RelativeForm}
use Rattle.bl_desc.specs.declared.desc.Piece.{Piece}
use Rattle.bl_desc.specs.declared.desc.Piece.TheVariants.{Explicit, Relative}
use Rattle.bl_desc.specs.Changes.{difference}
use Rattle.bl_journal.specs.declared.entry.Entry.{Entry}
use Rattle.bl_journal.specs.declared.entry.Entry.TheVariants.{Put, Encode, Free}
use Rattle.bl_journal.specs.declared.entry.Step.TheVariants.{Split}
use Rattle.bl_journal.specs.declared.settings.Settings.{Settings}
use Rattle.bl_journal.specs.Births.{Node, nodes_of, node_at, root_node}
use Rattle.bl_journal.specs.Descriptions.{root_desc, full_of, full_along}
use Rattle.bl_journal.specs.States.{state_of, form_of, encoded_form, is_spanned}
use Rattle.bl_journal.specs.declared.state.State.{State}
use Rattle.bl_journal.specs.declared.state.State.TheVariants.{Waiting as waiting, Split as split}
use Rattle.bl_journal.specs.declared.state.State.TheVariants.{Freed as freed}
use Rattle.bl_journal.specs.Pieces.{is_freed, stored_of, piece_in, difference_from}
use Rattle.bl_journal.specs.Freeing.{is_parent}
use Rattle.bl_journal.specs.Legality.{IsLegalPast, MayPut}
use Rattle.bl_journal.proofs.Growth.{get_or-grown}
use Rattle.bl_journal.proofs.Leaves.{shape, out_born, state_kept, left_of, right_of, after_split}
use Rattle.bl_journal.proofs.Lines.{IsChildOf, IfSome-map, lines}
use Rattle.bl_tree.specs.declared.record.Record.{Record}
use Rattle.bl_tree.specs.Records.{root_record, gone_record, is_child_in, has_children, was_parted}
use Rattle.bl_tree.specs.Records.{piece_at, IsStoredOf, AreStored}
use Rattle.bl_tree.proofs.Sets.{slice_get-set, slice_get-two}

-- the piece of a node that is freed exactly where it was, and stored as it was
pub piece_same : (p : Program) (s : Settings) (past past' : List Entry) (k : ℕ)
    → stored_of p s past' k ≡ stored_of p s past k → is_freed (state_of past' k)
    ≡ is_freed (state_of past k)
    → piece_at p s past' k ≡ piece_at p s past k
piece_same p s past past' k same as_before =
    ap (λ (b : Bool). cond b None (Some (stored_of p s past' k))) as_before
    ∙ ap (λ (q : Piece Cut). cond (is_freed (state_of past k)) None (Some q)) same

-- one record changes, and the nodes stay
pub stored_set : (p : Program) (s : Settings) (past past' : List Entry) (kept : List Record)
    (id : ℕ) (r y : Record)
    → nodes_of p past' ≡ nodes_of p past → y.parent ≡ r.parent → y.children ≡ r.children
    → (has_children r.children ≡ true → was_parted y.stage ≡ true) → y.piece ≡ piece_at p s past' id
    → ((k : ℕ) → (k ≡ id → ⊥) → piece_at p s past' k ≡ piece_at p s past k)
    → AreStored p s past kept → slice_get kept id ≡ Some r
    → AreStored p s past' (slice_set kept id y)
stored_set p s past past' kept id r y nodes parent children parted piece others rs e k q h =
    at (slice_get-set kept id k y q h)
  where
    same_node : (j : ℕ) → node_at p past j ≡ node_at p past' j
    same_node j = rw nodes refl

    moved : (j : ℕ) (z : Record) → IsStoredOf p s past j z → (o : Option ℕ) → o ≡ z.children
        → (x : Record) → x.parent ≡ z.parent → x.children ≡ o
        → (has_children o ≡ true → was_parted x.stage ≡ true)
        → x.piece ≡ piece_at p s past' j → IsStoredOf p s past' j x
    moved j z f o oc x xp xc xt xq =
        record {
          parent = xp ∙ (f.parent ∙ ap (λ (n : Node). n.parent) (same_node j));
          children = λ i b. let len : length (nodes_of p past') ≡ length (nodes_of p past) =
              ap length nodes in
              ap (λ (n : Node). is_parent n.parent j) (sym (same_node i))
              ∙ (f.children i (omega (arith, b, len))
              ∙ ap (λ c. is_child_in c i) (sym (xc ∙ oc)));
          within = subst (λ (l : List Node). IfSome x.children (λ c. c + 1 < length l))
              (sym nodes)
              (subst (λ (c : Option ℕ). IfSome c (λ c. c + 1 < length (nodes_of p past)))
              (sym (xc ∙ oc)) f.within);
          parted = λ t. xt (ap has_children (sym xc) ∙ t);
          piece = xq;
        }

    at : (k ≡ id → y ≡ q) × ((k ≡ id → ⊥) → slice_get kept k ≡ Some q) → IsStoredOf p s past' k q
    at z =
        elim (cases_eq k id) [
          | inl same ↦
              subst (λ (m : ℕ). IsStoredOf p s past' m q) (sym same)
              (subst (λ (x : Record). IsStoredOf p s past' id x) (z.0 same)
              (moved id r (rs id r e) r.children refl y parent children parted piece))
          | inr other ↦
              let f = rs k q (z.1 other) in
              moved k q f q.children refl q refl refl f.parted (f.piece ∙ sym (others k other))
        ]

-- one record gets another stage, and is freed neither before nor after
pub stored_stage : (p : Program) (s : Settings) (past past' : List Entry) (kept : List Record)
    (id : ℕ) (r : Record) (st : State)
    → nodes_of p past' ≡ nodes_of p past → ((k : ℕ) → stored_of p s past' k
    ≡ stored_of p s past k) → ((k : ℕ) → (k ≡ id → ⊥) → state_of past' k ≡ state_of past k)
    → is_freed (state_of past' id) ≡ false → is_freed (state_of past id) ≡ false
    → was_parted r.stage ≡ false
    → AreStored p s past kept → slice_get kept id ≡ Some r
    → AreStored p s past' (slice_set kept id (record r { stage = st }))
stored_stage p s past past' kept id r st nodes stored others now before whole rs e =
    stored_set p s past past' kept id r (record r { stage = st }) nodes refl refl
    (λ t. absurd (true≢false (sym ((rs id r e).parted t) ∙ whole)))
    ((rs id r e).piece ∙ sym (piece_same p s past past' id (stored id) (now ∙ sym before)))
    (λ k ne. piece_same p s past past' k (stored k) (ap is_freed (others k ne))) rs e

-- a node is freed
pub stored_gone : (p : Program) (s : Settings) (past : List Entry) (kept : List Record)
    (id seat : ℕ) (r : Record)
    → AreStored p s past kept → slice_get kept id ≡ Some r
    → AreStored p s (Free seat (id ∷ []) ∷ past) (slice_set kept id (gone_record r))
stored_gone p s past kept id seat r rs e =
    stored_set p s past (Free seat (id ∷ []) ∷ past) kept id r (gone_record r) refl refl refl
    (λ t. refl)
    (sym (cond-true (is_freed (state_of (Free seat (id ∷ []) ∷ past) id)) None
    (Some (stored_of p s past id)) (ap is_freed here)))
    (λ k ne. piece_same p s past (Free seat (id ∷ []) ∷ past) k refl (ap is_freed (there k ne)))
    rs e
  where
    here : state_of (Free seat (id ∷ []) ∷ past) id ≡ freed
    here = cond-true (is_among id (id ∷ [])) freed (state_of past id)
        (ap (λ (b : Bool). b || false) (eq-eqb id id refl))

    there : (k : ℕ) → (k ≡ id → ⊥) → state_of (Free seat (id ∷ []) ∷ past) k ≡ state_of past k
    there k ne = cond-false (is_among k (id ∷ [])) freed (state_of past k)
        (ap (λ (b : Bool). b || false) (ne_eqb id k (λ h. ne (sym h))))

-- a node is stored in another form
pub stored_encoded : (p : Program) (s : Settings) (past : List Entry) (kept : List Record)
    (id seat : ℕ) (form : Form) (r : Record) (piece : Piece Cut)
    → is_freed (state_of past id) ≡ false → form_of p s (Encode seat id form ∷ past) id ≡ form
    → piece ≡ piece_in p past id form
    → AreStored p s past kept → slice_get kept id ≡ Some r
    → AreStored p s (Encode seat id form ∷ past)
    (slice_set kept id (record r { piece = Some piece }))
stored_encoded p s past kept id seat form r piece before is made rs e =
    stored_set p s past (Encode seat id form ∷ past) kept id r (record r { piece = Some piece })
    refl refl refl (rs id r e).parted
    (ap Some made ∙ (ap (λ (f : Form). Some (piece_in p past id f)) (sym is)
    ∙ sym (cond-false (is_freed (state_of past id)) None
    (Some (stored_of p s (Encode seat id form ∷ past) id)) before)))
    (λ k ne. piece_same p s past (Encode seat id form ∷ past) k (other k ne) refl) rs e
  where
    other : (k : ℕ) → (k ≡ id → ⊥) → stored_of p s (Encode seat id form ∷ past) k
        ≡ stored_of p s past k
    other k ne =
        let f : encoded_form (Encode seat id form ∷ past) k ≡ encoded_form past k =
        cond-false (id == k) form (encoded_form past k) (ne_eqb id k (λ h. ne (sym h))) in
        ap (λ (g : Form). piece_in p past k (cond (is_spanned p s past k) ExplicitForm g)) f

-- what is stored of a born node stays at a put
pub stored_kept : (p : Program) (s : Settings) (past : List Entry) (seat i : ℕ)
    (found : Option (List ℤ)) (low : ℤ) (common : Change Cut) (column : ℕ) (at : ℤ) (k : ℕ)
    → IsLegalPast p s past → k < length (nodes_of p past)
    → stored_of p s (Put seat i found low (Split common column at) ∷ past) k ≡ stored_of p s past k
stored_kept p s past seat i found low common column at k legal born =
    ap (piece_in p (Put seat i found low (Split common column at) ∷ past) k) form
    ∙ by_form (form_of p s past k)
  where
    same : (j : ℕ) → j < length (nodes_of p past)
        → node_at p (Put seat i found low (Split common column at) ∷ past) j ≡ node_at p past j
    same j b = get_or-grown p (nodes_of p past) (Put seat i found low (Split common column at))
        (root_node p) j b

    form : form_of p s (Put seat i found low (Split common column at) ∷ past) k ≡ form_of p s past k
    form = ap (λ (n : Node). cond (n.depth % s.span == 0) ExplicitForm (encoded_form past k))
        (same k born)

    full : (j : ℕ) → j < length (nodes_of p past)
        → full_of p (Put seat i found low (Split common column at) ∷ past) j ≡ full_of p past j
    full j b = ap (λ (n : Node). full_along p n.path) (same j b)

    by_parent : (o o' : Option ℕ) → o' ≡ o
        → IfSome o (λ q. IsChildOf p (node_at p past q) q k (node_at p past k))
        → difference_from p (Put seat i found low (Split common column at) ∷ past) o'
        (full_of p (Put seat i found low (Split common column at) ∷ past) k)
        ≡ difference_from p past o (full_of p past k)
    by_parent None o' e h =
        ap (λ (o : Option ℕ). difference_from p (Put seat i found low (Split common column at)
        ∷ past) o (full_of p (Put seat i found low (Split common column at) ∷ past) k)) e
        ∙ ap (λ (d : Desc Cut). Explicit d) (full k born)
    by_parent (Some q) o' e h =
        let below : q < k = h.below in
        ap (λ (o : Option ℕ). difference_from p (Put seat i found low (Split common column at)
        ∷ past) o (full_of p (Put seat i found low (Split common column at) ∷ past) k)) e
        ∙ (ap (λ (d : Desc Cut). Relative (difference (λ (c : Cut). c.id)
        (full_of p (Put seat i found low (Split common column at) ∷ past) q) d)) (full k born)
        ∙ ap (λ (d : Desc Cut). Relative (difference (λ (c : Cut). c.id) d (full_of p past k)))
        (full q (omega (arith, below, born))))

    by_form : (f : Form) → piece_in p (Put seat i found low (Split common column at) ∷ past) k f
        ≡ piece_in p past k f
    by_form ExplicitForm = ap (λ (d : Desc Cut). Explicit d) (full k born)
    by_form RelativeForm = by_parent (node_at p past k).parent
        (node_at p (Put seat i found low (Split common column at) ∷ past) k).parent
        (ap (λ (n : Node). n.parent) (same k born)) (lines p s past legal k born)

-- no child is out of a node that is not parted
no_children : (r : Record) → was_parted r.stage ≡ false
    → (has_children r.children ≡ true → was_parted r.stage ≡ true) → r.children ≡ None
no_children r whole parted = by_option r.children refl
  where
    by_option : (o : Option ℕ) → r.children ≡ o → r.children ≡ None
    by_option None e = e
    by_option (Some c) e = absurd (true≢false (sym (parted (ap has_children e)) ∙ whole))

later_no_child : (o : Option ℕ) (n i : ℕ) → IfSome o (λ c. c + 1 < n) → n ≤ i → is_child_in o i
    ≡ false
later_no_child None n i h l = refl
later_no_child (Some c) n i h l =
    ap (λ (b : Bool). b || i == c + 1) (ne_eqb i c (λ e. omega (arith, e, h, l)))
    ∙ ne_eqb i (c + 1) (λ e. omega (arith, e, h, l))

new_child : (n i : ℕ) → n ≤ i → i < n + 2 → is_child_in (Some n) i ≡ true
new_child n i l h =
    elim (cases_eq i n) [
      | inl e ↦ ap (λ (b : Bool). b || i == n + 1) (eq-eqb i n e)
      | inr ne ↦ ap (λ (b : Bool). b || i == n + 1) (ne_eqb i n ne) ∙ eq-eqb i (n + 1) (last ne)
    ]
  where
    last : (i ≡ n → ⊥) → i ≡ n + 1
    last ne = elim (cases_lt n i)
        [ inl b ↦ omega (arith, b, h) | inr b ↦ absurd (ne (omega (arith, b, l))) ]

earlier_no_child : (n i : ℕ) → i < n → is_child_in (Some n) i ≡ false
earlier_no_child n i l = ap (λ (b : Bool). b || i == n + 1)
    (ne_eqb i n (λ e. omega (arith, e, l))) ∙ ne_eqb i (n + 1) (λ e. omega (arith, e, l))

no_parent : (o : Option ℕ) (i j : ℕ) → IfSome o (λ q. q < i) → i ≤ j → is_parent o j ≡ false
no_parent None i j h l = refl
no_parent (Some q) i j h l = ne_eqb q j (λ e. omega (arith, e, h, l))

-- a node that is split, and its two children
pub stored_split : (p : Program) (s : Settings) (past : List Entry) (kept : List Record)
    (seat id : ℕ) (found : Option (List ℤ)) (low : ℤ) (common : Change Cut) (column : ℕ) (at : ℤ)
    (r r1 r2 : Record) (left right : Piece Cut)
    → IsLegalPast p s past → MayPut p s past seat id found low (Split common column at)
    → AreStored p s past kept → length kept ≡ length (nodes_of p past) → slice_get kept id
    ≡ Some r → was_parted r.stage ≡ false
    → r1.parent ≡ Some id → r1.children ≡ None → r1.piece ≡ Some left → r2.parent ≡ Some id
    → r2.children ≡ None → r2.piece ≡ Some right
    → left ≡ stored_of p s (Put seat id found low (Split common column at) ∷ past)
    (length (nodes_of p past))
    → right ≡ stored_of p s (Put seat id found low (Split common column at) ∷ past)
    (length (nodes_of p past) + 1)
    → AreStored p s (Put seat id found low (Split common column at) ∷ past)
    (slice_set kept id (record r {
      stage = split;
      children =
          Some (length (nodes_of p past));
    }) ++ r1 ∷ r2 ∷ [])
stored_split p s past kept seat id found low common column at r r1 r2 left right legal may rs
    count e whole p1 c1 q1 p2 c2 q2 el er k q h =
    slice_get-two (λ (x : Record). IsStoredOf p s (Put seat id found low (Split common column at)
    ∷ past) k x)
    (slice_set kept id y) r1 r2 q k h
    (λ g. old k q (slice_get_within _ k q g) (slice_get-set kept id k y q g))
    (λ i. first k (i ∙ same_length)) (λ i. second k (i ∙ ap (λ m. m + 1) same_length))
  where
    y : Record
    y = record r { stage = split; children = Some (length (nodes_of p past)) }

    born : id < length (nodes_of p past)
    born = out_born p past id seat (shape p s past legal) may.is_out

    same_length : length (slice_set kept id
        (record r { stage = split; children = Some (length (nodes_of p past)) }))
        ≡ length (nodes_of p past)
    same_length = length-set kept id
        (record r { stage = split; children = Some (length (nodes_of p past)) }) ∙ count

    longer : length (nodes_of p (Put seat id found low (Split common column at) ∷ past))
        ≡ length (nodes_of p past) + 2
    longer = length-append (nodes_of p past) (left_of (node_at p past id) id low common column at
        ∷ right_of (node_at p past id) id low common column at ∷ [])

    same : (j : ℕ) → j < length (nodes_of p past)
        → node_at p (Put seat id found low (Split common column at) ∷ past) j ≡ node_at p past j
    same j b = get_or-grown p (nodes_of p past) (Put seat id found low (Split common column at))
        (root_node p) j b

    -- whose child a node is now
    child_of : (j : ℕ) (o : Option ℕ) → ((i : ℕ) → i < length (nodes_of p past)
        → is_parent (node_at p past i).parent j ≡ is_child_in o i)
        → ((i : ℕ) → length (nodes_of p past) ≤ i → i < length (nodes_of p past) + 2 → (id == j)
        ≡ is_child_in o i)
        → (i : ℕ) → i
        < length (nodes_of p (Put seat id found low (Split common column at) ∷ past))
        → is_parent (node_at p (Put seat id found low (Split common column at) ∷ past)
        i).parent j ≡ is_child_in o i
    child_of j o before after i b =
        after_split (nodes_of p past) (left_of (node_at p past id) id low common column at)
        (right_of (node_at p past id) id low common column at) (root_node p) i
        (λ (n : Node). is_parent n.parent j ≡ is_child_in o i)
        (λ t. before i t)
        (λ t. after i (omega (arith, t)) (omega (arith, t)))
        (λ t. after i (omega (arith, t)) (omega (arith, t)))
        b

    none : r.children ≡ None
    none = no_children r whole (rs id r e).parted

    split_one : IsStoredOf p s (Put seat id found low (Split common column at) ∷ past) id
        (record r { stage = split; children = Some (length (nodes_of p past)) })
    split_one =
        let f = rs id r e in
        let more : length (nodes_of p (Put seat id found low (Split common column at) ∷ past))
        ≡ length (nodes_of p past) + 2 = longer in
        record {
          parent = f.parent ∙ ap (λ (n : Node). n.parent) (sym (same id born));
          children = child_of id (Some (length (nodes_of p past)))
              (λ i b. f.children i b ∙ (ap (λ o. is_child_in o i) none
              ∙ sym (earlier_no_child (length (nodes_of p past)) i b)))
              (λ i l u. eq-eqb id id refl ∙ sym (new_child (length (nodes_of p past)) i l u));
          within = omega (arith, more);
          parted = λ t. refl;
          piece = f.piece
              ∙ sym (piece_same p s past (Put seat id found low (Split common column at) ∷ past)
              id (stored_kept p s past seat id found low common column at id legal born)
              (ap is_freed (cond-true (id == id) split (state_of past id) (eq-eqb id id refl))
              ∙ sym (ap is_freed may.is_out)));
        }

    other_one : (j : ℕ) (z : Record) → j < length (nodes_of p past) → (j ≡ id → ⊥)
        → IsStoredOf p s past j z → IsStoredOf p s (Put seat id found low (Split common column at)
        ∷ past) j z
    other_one j z jb other f =
        let more : length (nodes_of p (Put seat id found low (Split common column at) ∷ past))
        ≡ length (nodes_of p past) + 2 = longer in
        record {
          parent = f.parent ∙ ap (λ (n : Node). n.parent) (sym (same j jb));
          children = child_of j z.children (λ i b. f.children i b)
              (λ i l u. ne_eqb id j (λ h. other (sym h))
              ∙ sym (later_no_child z.children (length (nodes_of p past)) i f.within l));
          within = IfSome-map (λ c. c + 1 < length (nodes_of p past))
              (λ c. c + 1
              < length (nodes_of p (Put seat id found low (Split common column at) ∷ past)))
              z.children (λ c l. omega (arith, l, more)) f.within;
          parted = f.parted;
          piece = f.piece
              ∙ sym (piece_same p s past (Put seat id found low (Split common column at) ∷ past) j
              (stored_kept p s past seat id found low common column at j legal jb)
              (ap is_freed (state_kept j id (state_of past j) split (λ h. other (sym h)))));
        }

    child_one : (j : ℕ) (x : Record) (piece : Piece Cut) → length (nodes_of p past) ≤ j
        → (node_at p (Put seat id found low (Split common column at) ∷ past) j).parent ≡ Some id
        → x.parent ≡ Some id → x.children ≡ None → x.piece ≡ Some piece → piece
        ≡ stored_of p s (Put seat id found low (Split common column at) ∷ past) j
        → IsStoredOf p s (Put seat id found low (Split common column at) ∷ past) j x
    child_one j x piece l node xp xc xq is =
        let ib : id < length (nodes_of p past) = born in
        let now : state_of (Put seat id found low (Split common column at) ∷ past) j ≡ waiting =
        state_kept j id (state_of past j) split (λ g. omega (arith, g, ib, l))
        ∙ (shape p s past legal).unborn j l in
        record {
          parent = xp ∙ sym node;
          children =
              λ i b. child_of j None (λ i b. no_parent (node_at p past i).parent i j
              ((shape p s past legal).parents i b) (omega (arith, b, l)))
              (λ i lo hi. ne_eqb id j (λ h. omega (arith, h, ib, l))) i b
              ∙ ap (λ o. is_child_in o i) (sym xc);
          within = subst (λ (o : Option ℕ). IfSome o
              (λ c. c + 1
              < length (nodes_of p (Put seat id found low (Split common column at) ∷ past))))
              (sym xc) tt;
          parted = λ t. absurd (true≢false (sym t ∙ ap has_children xc));
          piece = xq
              ∙ (ap Some is
              ∙ sym (cond-false
              (is_freed (state_of (Put seat id found low (Split common column at) ∷ past) j)) None
              (Some (stored_of p s (Put seat id found low (Split common column at) ∷ past) j))
              (ap is_freed now)));
        }

    old : (j : ℕ) (z : Record) → j < length
        (slice_set kept id (record r { stage = split; children = Some (length (nodes_of p past)) }))
        → (j ≡ id → (record r { stage = split; children = Some (length (nodes_of p past)) }) ≡ z)
        × ((j ≡ id → ⊥) → slice_get kept j ≡ Some z)
        → IsStoredOf p s (Put seat id found low (Split common column at) ∷ past) j z
    old j z b t =
        let len : length (slice_set kept id y) ≡ length (nodes_of p past) = same_length in
        let jb : j < length (nodes_of p past) = omega (arith, b, len) in
        elim (cases_eq j id) [
          | inl here ↦ subst
              (λ (m : ℕ). IsStoredOf p s (Put seat id found low (Split common column at) ∷ past) m
              z) (sym here)
              (subst (λ (x : Record). IsStoredOf p s
              (Put seat id found low (Split common column at) ∷ past) id x) (t.0 here) split_one)
          | inr other ↦ other_one j z jb other (rs j z (t.1 other))
        ]

    first : (j : ℕ) → j ≡ length (nodes_of p past)
        → IsStoredOf p s (Put seat id found low (Split common column at) ∷ past) j r1
    first j here =
        child_one j r1 left (omega (arith, here))
        (ap (λ (n : Node). n.parent) (get_or_at (nodes_of p past)
        (left_of (node_at p past id) id low common column at)
        (right_of (node_at p past id) id low common column at ∷ []) (root_node p) j (sym here)))
        p1 c1 q1 (el ∙ ap (stored_of p s (Put seat id found low (Split common column at) ∷ past))
        (sym here))

    second : (j : ℕ) → j ≡ length (nodes_of p past) + 1
        → IsStoredOf p s (Put seat id found low (Split common column at) ∷ past) j r2
    second j here =
        child_one j r2 right (omega (arith, here))
        (ap (λ m. (node_at p (Put seat id found low (Split common column at) ∷ past) m).parent) here
        ∙ ap (λ (n : Node). n.parent) (get_or-append-add (nodes_of p past)
        (left_of (node_at p past id) id low common column at
        ∷ right_of (node_at p past id) id low common column at ∷ []) 1 (root_node p)))
        p2 c2 q2 (er ∙ ap (stored_of p s (Put seat id found low (Split common column at) ∷ past))
        (sym here))

-- the root is stored whole
pub stored_root : (p : Program) (s : Settings) (r : Record) (low : ℤ) → r
    ≡ root_record low (root_desc p) → AreStored p s [] (r ∷ [])
stored_root p s r low e zero q h =
    let same : r ≡ q = cc in
    subst (λ (x : Record). IsStoredOf p s [] zero x) (sym e ∙ same)
    (record {
      parent = refl;
      children = λ i b. root_only i b;
      within = tt;
      parted = λ t. absurd (true≢false (sym t));
      piece = ap Some
          (sym (ap (piece_in p [] zero) (cond-true (0 % s.span == 0) ExplicitForm RelativeForm
          (eq-eqb (0 % s.span) 0 (zero-mod s.span)))));
    })
  where
    root_only : (i : ℕ) → i < 1 → is_parent (node_at p [] i).parent zero ≡ false
    root_only zero b = refl
    root_only (suc i) b = absurd (omega arith)
stored_root p s r low e (suc k) q h = cc
