-- What the history says after a node and those above it are freed.
use Rattle.std.proofs.Common.{◌≡◌, ℕ, zero, suc, ◌+◌, ◌<◌, ◌%◌, List, [], ◌∷◌, length, refl, ap}
use Rattle.std.proofs.Common.{sym, ◌∙◌, subst, arith, Bool, true, false, cond, not, Some, None}
use Rattle.std.proofs.Common.{Option, inl, inr}
use Rattle.std.specs.Prelude.{slice_get, slice_set, count_by, ◌==◌, ◌||◌, ◌&&◌, IfSome, ℤ}
use Rattle.std.proofs.lemmas.Bool.{cases_eq, eq-eqb, ne_eqb, eqb-true, cond-true, cond-false}
use Rattle.std.proofs.lemmas.Bool.{true≢false, and_parts}
use Rattle.std.proofs.lemmas.Option.{slice_get_within}
use Rattle.bl_mods.specs.Mods.{is_among}
use Rattle.bl_problem.specs.Program.{Program}
use Rattle.bl_problem.specs.declared.cut.Cut.{Cut}
use Rattle.bl_desc.specs.declared.desc.Form.{Form}
use Rattle.bl_desc.specs.declared.desc.Form.TheVariants.{Explicit as ExplicitForm}
use Rattle.bl_desc.specs.declared.desc.Form.TheVariants.{Relative as RelativeForm}
use Rattle.bl_desc.specs.declared.desc.Piece.TheVariants.{Explicit, Relative}
use Rattle.bl_desc.specs.Changes.{difference}
use Rattle.bl_journal.specs.declared.entry.Entry.{Entry}
use Rattle.bl_journal.specs.declared.entry.Entry.TheVariants.{Free}
use Rattle.bl_journal.specs.declared.settings.Settings.{Settings}
use Rattle.bl_journal.specs.Births.{Node, nodes_of, node_at}
use Rattle.bl_journal.specs.Descriptions.{full_of, full_along}
use Rattle.bl_journal.specs.States.{state_of, form_of, encoded_form, cutoff_for, is_below}
use Rattle.bl_journal.specs.States.{has_point}
use Rattle.bl_journal.specs.declared.state.State.{State}
use Rattle.bl_journal.specs.declared.state.State.TheVariants.{Waiting as waiting, Out as out}
use Rattle.bl_journal.specs.declared.state.State.TheVariants.{Split as split, Shut as shut}
use Rattle.bl_journal.specs.declared.state.State.TheVariants.{Freed as freed}
use Rattle.bl_journal.specs.Pieces.{is_freed, stored_of, piece_in, difference_from}
use Rattle.bl_journal.specs.Freeing.{is_parent, is_freeable, is_freeable_if, Climbs, is_over}
use Rattle.bl_journal.specs.Replies.{is_out, is_waiting}
use Rattle.bl_tree.specs.declared.record.Record.{Record}
use Rattle.bl_tree.specs.Records.{was_parted, has_children, is_child_in, is_held, holds_if}
use Rattle.bl_tree.specs.Records.{may_go_at, may_go_if, gone_record, gone_if, gone_at, parent_if}
use Rattle.bl_tree.specs.Records.{if_may_go, next_up, IsFreedTo, AreRecords, AreStored}
use Rattle.bl_journal.proofs.Sums.{one_if}
use Rattle.bl_tree.proofs.Sets.{records_set, count_by-set}
use Rattle.bl_tree.proofs.Stored.{piece_same, stored_gone}
use Rattle.bl_tree.proofs.Kept.{has_record}
use Rattle.bl_tree.proofs.Goes.{may_go_same}
use Rattle.bl_tree.proofs.Freeings.{length-gone, gone_keeps, parent-gone, up_is}

-- the entry that frees one node
abbrev pub free_one : ℕ → Entry
free_one id = Free 0 (id ∷ [])

-- the nodes are freed one after another
abbrev pub freed_in_turn : List Entry → List ℕ → List Entry
freed_in_turn past [] = past
freed_in_turn past (id ∷ ids) = freed_in_turn (free_one id ∷ past) ids

pub gone_at-is : (rs : List Record) (id : ℕ) (r : Record) → slice_get rs id ≡ Some r
    → gone_at rs id ≡ slice_set rs id (gone_record r)
gone_at-is rs id r e = ap (gone_if rs id) e

records_gone : (p : Program) (past : List Entry) (rs : List Record) (id : ℕ)
    → AreRecords p past rs → id < length rs → AreRecords p (free_one id ∷ past) (gone_at rs id)
records_gone p past rs id are within =
    let x = has_record p past rs id are within in
    subst (λ (l : List Record). AreRecords p (free_one id ∷ past) l)
    (sym (gone_at-is rs id x.0 x.1))
    (records_set p past (free_one id ∷ past) rs id x.0 (gone_record x.0)
    (record { depth = refl; low = refl; has_point = refl }) refl
    (sym (cond-true (is_among id (id ∷ [])) freed (state_of past id)
    (ap (λ (b : Bool). b || false) (eq-eqb id id refl))))
    (λ k ne. cond-false (is_among k (id ∷ [])) freed (state_of past k)
    (ap (λ (b : Bool). b || false) (ne_eqb id k (λ h. ne (sym h)))))
    are x.1)

storage_gone : (p : Program) (s : Settings) (past : List Entry) (rs : List Record) (id : ℕ)
    → AreRecords p past rs → AreStored p s past rs → id < length rs
    → AreStored p s (free_one id ∷ past) (gone_at rs id)
storage_gone p s past rs id are st within =
    let x = has_record p past rs id are within in
    subst (λ (l : List Record). AreStored p s (free_one id ∷ past) l)
    (sym (gone_at-is rs id x.0 x.1)) (stored_gone p s past rs id 0 x.0 st x.1)

-- what is known after the nodes are freed in turn
pub record FreedFacts (p : Program) (s : Settings) (past : List Entry) (id : ℕ) (ids : List ℕ)
    (after : List Record) : Type 0 where
  pub climbs : Climbs p s (free_one id ∷ past) id ids
  pub records : AreRecords p (freed_in_turn past (id ∷ ids)) after
  pub storage : AreStored p s (freed_in_turn past (id ∷ ids)) after

parent_known : (p : Program) (s : Settings) (past : List Entry) (rs : List Record) (id : ℕ)
    → AreRecords p past rs → AreStored p s past rs → id < length rs → parent_if (slice_get rs id)
    ≡ (node_at p past id).parent
parent_known p s past rs id are st within =
    let x = has_record p past rs id are within in
    ap parent_if x.1 ∙ (st id x.0 x.1).parent

pub freed_facts : (p : Program) (s : Settings) (cutoff : Option ℤ) (ids : List ℕ)
    (past : List Entry) (rs : List Record) (id last : ℕ) (after : List Record)
    → AreRecords p past rs → AreStored p s past rs → cutoff ≡ cutoff_for p s past → id < length rs
    → ((k q : ℕ) → (node_at p past k).parent ≡ Some q → k < length (nodes_of p past) → q
    < length (nodes_of p past))
    → IsFreedTo cutoff rs id ids last after → next_up cutoff after last ≡ None
    → FreedFacts p s past id ids after
freed_facts p s cutoff [] past rs id last after are st b within parents f top =
    let e : after ≡ gone_at rs id = f.1 in
    let are1 = records_gone p past rs id are within in
    let st1 = storage_gone p s past rs id are st within in
    let len = length-gone rs id in
    let born : id < length (nodes_of p past) =
    (let c : length rs ≡ length (nodes_of p past) = are.count in omega (arith, within, c)) in
    let known : parent_if (slice_get (gone_at rs id) id) ≡ (node_at p past id).parent =
    parent_known p s (free_one id ∷ past) (gone_at rs id) id are1 st1
    (omega (arith, within, len)) in
    let none : if_may_go cutoff (gone_at rs id) (node_at p past id).parent ≡ None =
    ap (if_may_go cutoff (gone_at rs id)) (sym known)
    ∙ (ap (λ (l : List Record). next_up cutoff l id) (sym e)
    ∙ (ap (next_up cutoff after) f.0 ∙ top)) in
    record {
      climbs = by_parent (node_at p past id).parent (λ q g. parents id q g born) none are1 st1;
      records = subst (λ (l : List Record). AreRecords p (free_one id ∷ past) l) (sym e) are1;
      storage = subst (λ (l : List Record). AreStored p s (free_one id ∷ past) l) (sym e) st1;
    }
  where
    no_test : (q : ℕ) (t : Bool) → cond t (Some q) None ≡ None → t ≡ false
    no_test q true g = cc
    no_test q false g = refl

    by_parent : (o : Option ℕ) → ((q : ℕ) → o ≡ Some q → q < length (nodes_of p past))
        → if_may_go cutoff (gone_at rs id) o ≡ None
        → AreRecords p (free_one id ∷ past) (gone_at rs id)
        → AreStored p s (free_one id ∷ past) (gone_at rs id)
        → is_freeable_if p s (free_one id ∷ past) o ≡ false
    by_parent None born g are1 st1 = refl
    by_parent (Some q) born g are1 st1 =
        sym (may_go_same p s (free_one id ∷ past) (gone_at rs id) cutoff q are1 st1 b
        (born q refl)) ∙ no_test q (may_go_at cutoff (gone_at rs id) q) g
freed_facts p s cutoff (q ∷ ids) past rs id last after are st b within parents f top =
    let are1 = records_gone p past rs id are within in
    let st1 = storage_gone p s past rs id are st within in
    let len = length-gone rs id in
    let up = up_is cutoff (gone_at rs id) id q f.0 in
    let known : parent_if (slice_get (gone_at rs id) id) ≡ (node_at p past id).parent =
    parent_known p s (free_one id ∷ past) (gone_at rs id) id are1 st1
    (omega (arith, within, len)) in
    let there : q < length (gone_at rs id) = up.there in
    let born : q < length (nodes_of p past) =
    (let c : length (gone_at rs id) ≡ length (nodes_of p past) =
    are1.count in omega (arith, there, c)) in
    let goes : is_freeable p s (free_one id ∷ past) q ≡ true =
    sym (may_go_same p s (free_one id ∷ past) (gone_at rs id) cutoff q are1 st1 b born)
    ∙ up.goes in
    let rest = freed_facts p s cutoff ids (free_one id ∷ past) (gone_at rs id) q last after are1
    st1 b there parents f.1 top in
    record {
      climbs = (sym known ∙ up.parent, goes, rest.climbs);
      records = rest.records;
      storage = rest.storage;
    }

nodes-in_turn : (p : Program) (ids : List ℕ) (past : List Entry)
    → nodes_of p (freed_in_turn past ids) ≡ nodes_of p past
nodes-in_turn p [] past = refl
nodes-in_turn p (id ∷ ids) past = nodes-in_turn p ids (free_one id ∷ past)

encoded-in_turn : (ids : List ℕ) (past : List Entry) (k : ℕ)
    → encoded_form (freed_in_turn past ids) k ≡ encoded_form past k
encoded-in_turn [] past k = refl
encoded-in_turn (id ∷ ids) past k = encoded-in_turn ids (free_one id ∷ past) k

cond_or : (a b : Bool) (x y : State) → cond b x (cond (a || false) x y) ≡ cond (a || b) x y
cond_or true true x y = refl
cond_or true false x y = refl
cond_or false true x y = refl
cond_or false false x y = refl

state-in_turn : (ids : List ℕ) (past : List Entry) (k : ℕ) → state_of (freed_in_turn past ids) k
    ≡ cond (is_among k ids) freed (state_of past k)
state-in_turn [] past k = refl
state-in_turn (id ∷ ids) past k = state-in_turn ids (free_one id ∷ past) k
    ∙ cond_or (id == k) (is_among k ids) freed (state_of past k)

pub records_moved : (p : Program) (past past' : List Entry) (rs : List Record) → nodes_of p past'
    ≡ nodes_of p past → ((k : ℕ) → state_of past' k ≡ state_of past k) → AreRecords p past rs
    → AreRecords p past' rs
records_moved p past past' rs nodes states are =
    record {
      count = are.count ∙ ap length (sym nodes);
      each = λ k r e. let f = are.each k r e in record {
        depth = f.depth ∙ ap (λ n. n.depth) (same k);
        low = f.low ∙ ap (λ n. n.low) (same k);
        stage = f.stage ∙ sym (states k);
        has_point = f.has_point ∙ ap
            (λ n. has_point (full_along p n.path).lows (full_along p n.path).highs) (same k);
      };
    }
  where
    same : (k : ℕ) → node_at p past k ≡ node_at p past' k
    same k = rw nodes refl

pub stored_moved : (p : Program) (s : Settings) (past past' : List Entry) (k : ℕ)
    → nodes_of p past' ≡ nodes_of p past → encoded_form past' k ≡ encoded_form past k
    → stored_of p s past' k ≡ stored_of p s past k
stored_moved p s past past' k nodes encoded =
    ap (piece_in p past' k) form ∙ by_form (form_of p s past k)
  where
    same : (j : ℕ) → node_at p past' j ≡ node_at p past j
    same j = rw nodes refl

    full : (j : ℕ) → full_of p past' j ≡ full_of p past j
    full j = ap (λ n. full_along p n.path) (same j)

    form : form_of p s past' k ≡ form_of p s past k
    form =
        ap (λ n. cond (n.depth % s.span == 0) ExplicitForm (encoded_form past' k)) (same k)
        ∙ ap (λ (f : Form). cond ((node_at p past k).depth % s.span == 0) ExplicitForm f) encoded

    by_parent : (o : Option ℕ) → difference_from p past' o (full_of p past' k)
        ≡ difference_from p past o (full_of p past k)
    by_parent None = ap (λ d. Explicit d) (full k)
    by_parent (Some q) =
        ap (λ d. Relative (difference (λ (c : Cut). c.id) (full_of p past' q) d)) (full k)
        ∙ ap (λ d. Relative (difference (λ (c : Cut). c.id) d (full_of p past k))) (full q)

    by_form : (f : Form) → piece_in p past' k f ≡ piece_in p past k f
    by_form ExplicitForm = ap (λ d. Explicit d) (full k)
    by_form RelativeForm = ap (λ n. difference_from p past' n.parent (full_of p past' k)) (same k)
        ∙ by_parent (node_at p past k).parent

pub storage_moved : (p : Program) (s : Settings) (past past' : List Entry) (rs : List Record)
    → nodes_of p past' ≡ nodes_of p past → ((k : ℕ) → encoded_form past' k ≡ encoded_form past k)
    → ((k : ℕ) → state_of past' k ≡ state_of past k) → AreStored p s past rs
    → AreStored p s past' rs
storage_moved p s past past' rs nodes encoded states st k r e =
    let f = st k r e in
    record {
      parent = f.parent ∙ ap (λ n. n.parent) (same k);
      children = λ q b. let len : length (nodes_of p past') ≡ length (nodes_of p past) =
          ap length nodes in
          ap (λ n. is_parent n.parent k) (sym (same q)) ∙ f.children q (omega (arith, b, len));
      within = subst (λ (l : List Node). IfSome r.children (λ c. c + 1 < length l)) (sym nodes)
          f.within;
      parted = f.parted;
      piece = f.piece
          ∙ sym (piece_same p s past past' k (stored_moved p s past past' k nodes (encoded k))
          (ap is_freed (states k)));
    }
  where
    same : (j : ℕ) → node_at p past j ≡ node_at p past' j
    same j = rw nodes refl

-- the same after one entry that frees them all
pub freed_at_once : (p : Program) (s : Settings) (past : List Entry) (seat : ℕ) (ids : List ℕ)
    (after : List Record) → AreRecords p (freed_in_turn past ids) after
    → AreStored p s (freed_in_turn past ids) after
    → AreRecords p (Free seat ids ∷ past) after × AreStored p s (Free seat ids ∷ past) after
freed_at_once p s past seat ids after are st = (
  records_moved p (freed_in_turn past ids) (Free seat ids ∷ past) after
      (sym (nodes-in_turn p ids past)) (λ k. sym (state-in_turn ids past k)) are,
  storage_moved p s (freed_in_turn past ids) (Free seat ids ∷ past) after
      (sym (nodes-in_turn p ids past)) (λ k. sym (encoded-in_turn ids past k))
      (λ k. sym (state-in_turn ids past k)) st,
)

-- a node that may go has a record, which is over
pub record Goes (rs : List Record) (id : ℕ) : Type 0 where
  pub r : Record
  pub is : slice_get rs id ≡ Some r
  pub not_out : is_out r.stage ≡ false
  pub stays : is_freed r.stage ≡ false

pub goes_is : (cutoff : Option ℤ) (rs : List Record) (id : ℕ) → may_go_at cutoff rs id ≡ true
    → Goes rs id
goes_is cutoff rs id g = by_option (slice_get rs id) refl g
  where
    stage_is : (t : State) (b : Bool) → is_over t b ≡ true → (is_out t ≡ false)
        × (is_freed t ≡ false)
    stage_is waiting b h = (refl, refl)
    stage_is (out seat) b h = absurd (true≢false (sym h))
    stage_is split b h = (refl, refl)
    stage_is shut b h = (refl, refl)
    stage_is freed b h = absurd (true≢false (sym h))

    by_option : (o : Option Record) → slice_get rs id ≡ o → may_go_if cutoff rs o ≡ true
        → Goes rs id
    by_option None e h = cc
    by_option (Some r) e h = let f =
        stage_is r.stage _ (and_parts _ _ h).0 in record {
          r = r;
          is = e;
          not_out = f.0;
          stays =
              f.1;
        }

-- the numbers of the nodes that are out stay
pub outs_gone : (cutoff : Option ℤ) (rs : List Record) (id : ℕ) → may_go_at cutoff rs id ≡ true
    → count_by (λ (r : Record). is_out r.stage) (gone_at rs id)
    ≡ count_by (λ (r : Record). is_out r.stage) rs
outs_gone cutoff rs id g =
    let f = goes_is cutoff rs id g in
    let c = count_by-set (λ (q : Record). is_out q.stage) rs id (gone_record f.r) f.r f.is in
    let none : one_if (is_out f.r.stage) ≡ 0 = ap one_if f.not_out in
    ap (λ (l : List Record). count_by (λ (r : Record). is_out r.stage) l)
    (gone_at-is rs id f.r f.is) ∙ omega (arith, c, none)

abbrev children_if : Option Record → Option ℕ
children_if None = None
children_if (Some r) = r.children

abbrev parted_if : Option Record → Bool
parted_if None = false
parted_if (Some r) = was_parted r.stage

-- what lasts while nodes are freed: a child knows its parent, a parent its child, and a node
-- with children was split
pub record KnowsParents (rs : List Record) : Type 0 where
  pub parent : (j c : ℕ) → is_child_in (children_if (slice_get rs j)) c ≡ true → c < length rs
      → parent_if (slice_get rs c) ≡ Some j
  pub child : (j c : ℕ) → parent_if (slice_get rs c) ≡ Some j → j < length rs
      → is_child_in (children_if (slice_get rs j)) c ≡ true
  pub parted : (j : ℕ) → has_children (children_if (slice_get rs j)) ≡ true
      → parted_if (slice_get rs j) ≡ true

pub knows : (p : Program) (s : Settings) (past : List Entry) (rs : List Record)
    → AreRecords p past rs → AreStored p s past rs → KnowsParents rs
knows p s past rs are st =
    record {
      parent = λ j c h b. parent_of j c (slice_get rs j) refl h b;
      child = λ j c h b. child_of j c h b (slice_get rs c) refl;
      parted = λ j h. parted_of j (slice_get rs j) refl h;
    }
  where
    is_some : (o : Option ℕ) (j : ℕ) → is_parent o j ≡ true → o ≡ Some j
    is_some None j h = absurd (true≢false (sym h))
    is_some (Some q) j h = ap Some (eqb-true q j h)

    parent_of : (j c : ℕ) (o : Option Record) → slice_get rs j ≡ o → is_child_in (children_if o) c
        ≡ true → c < length rs → parent_if (slice_get rs c) ≡ Some j
    parent_of j c None e h b = absurd (true≢false (sym h))
    parent_of j c (Some r) e h b =
        let len : length rs ≡ length (nodes_of p past) = are.count in
        parent_known p s past rs c are st b
        ∙ is_some (node_at p past c).parent j ((st j r e).children c (omega (arith, b, len))
        ∙ h)

    child_of : (j c : ℕ) → parent_if (slice_get rs c) ≡ Some j → j < length rs
        → (o : Option Record) → slice_get rs c ≡ o → is_child_in (children_if (slice_get rs j)) c
        ≡ true
    child_of j c h b None n = let f : parent_if None ≡ Some j = ap parent_if (sym n) ∙ h in cc
    child_of j c h b (Some x) n =
        let in_range : c < length rs = slice_get_within rs c x n in
        let len : length rs ≡ length (nodes_of p past) = are.count in
        let k : (node_at p past c).parent ≡ Some j =
        sym (parent_known p s past rs c are st in_range) ∙ h in
        let y = has_record p past rs j are b in
        ap (λ (o : Option Record). is_child_in (children_if o) c) y.1
        ∙ (sym ((st j y.0 y.1).children c (omega (arith, in_range, len)))
        ∙ (ap (λ (o : Option ℕ). is_parent o j) k ∙ eq-eqb j j refl))

    parted_of : (j : ℕ) (o : Option Record) → slice_get rs j ≡ o → has_children (children_if o)
        ≡ true → parted_if (slice_get rs j) ≡ true
    parted_of j None e h = absurd (true≢false (sym h))
    parted_of j (Some r) e h = ap parted_if e ∙ (st j r e).parted h

-- another record stays
pub gone_other : (rs : List Record) (id j : ℕ) → (j ≡ id → ⊥) → slice_get (gone_at rs id) j
    ≡ slice_get rs j
gone_other rs id j ne = by_option (slice_get rs id)
  where
    set_other : {X : Type 0} (xs : List X) (i k : ℕ) (y : X) → (k ≡ i → ⊥)
        → slice_get (slice_set xs i y) k ≡ slice_get xs k
    set_other [] i k y ne = refl
    set_other (x ∷ xs) zero zero y ne = absurd (ne refl)
    set_other (x ∷ xs) zero (suc k) y ne = refl
    set_other (x ∷ xs) (suc i) zero y ne = refl
    set_other (x ∷ xs) (suc i) (suc k) y ne = set_other xs i k y (λ e. ne (ap suc e))

    by_option : (o : Option Record) → slice_get (gone_if rs id o) j ≡ slice_get rs j
    by_option None = refl
    by_option (Some r) = set_other rs id j (gone_record r) ne

pub gone_self : (rs : List Record) (id : ℕ) (r : Record) → slice_get rs id ≡ Some r
    → slice_get (gone_at rs id) id ≡ Some (gone_record r)
gone_self rs id r e = ap (λ (l : List Record). slice_get l id) (gone_at-is rs id r e)
    ∙ set_same rs id (gone_record r) (slice_get_within rs id r e)
  where
    set_same : {X : Type 0} (xs : List X) (i : ℕ) (y : X) → i < length xs
        → slice_get (slice_set xs i y) i ≡ Some y
    set_same [] i y b = absurd (omega (arith, b))
    set_same (x ∷ xs) zero y b = refl
    set_same (x ∷ xs) (suc i) y b = set_same xs i y (omega (arith, b))

-- a freed node can't go again
gone_stays : (cutoff : Option ℤ) (rs : List Record) (id : ℕ) → may_go_at cutoff (gone_at rs id) id
    ≡ false
gone_stays cutoff rs id = by_option (slice_get rs id) refl
  where
    by_option : (o : Option Record) → slice_get rs id ≡ o → may_go_at cutoff (gone_at rs id) id
        ≡ false
    by_option None e = ap (λ (l : List Record). may_go_at cutoff l id) (ap (gone_if rs id) e)
        ∙ ap (may_go_if cutoff rs) e
    by_option (Some r) e = ap (may_go_if cutoff (gone_at rs id)) (gone_self rs id r e)

pub knows_gone : (rs : List Record) (id : ℕ) → KnowsParents rs → KnowsParents (gone_at rs id)
knows_gone rs id k =
    record {
      parent = λ j c h b. let len : length (gone_at rs id) ≡ length rs = length-gone rs id in
          parent-gone rs id c ∙ k.parent j c
          (ap (λ (o : Option ℕ). is_child_in o c) (sym (children-gone j)) ∙ h)
          (omega (arith, b, len));
      child = λ j c h b. let len : length (gone_at rs id) ≡ length rs = length-gone rs id in
          ap (λ (o : Option ℕ). is_child_in o c) (children-gone j)
          ∙ k.child j c (sym (parent-gone rs id c) ∙ h) (omega (arith, b, len));
      parted = λ j h. parted_of j (k.parted j (ap has_children (sym (children-gone j)) ∙ h));
    }
  where
    children-gone : (j : ℕ) → children_if (slice_get (gone_at rs id) j)
        ≡ children_if (slice_get rs j)
    children-gone j = gone_keeps children_if (λ r. refl) rs id j

    self : (o : Option Record) → slice_get rs id ≡ o → parted_if o ≡ true
        → parted_if (slice_get (gone_at rs id) id) ≡ true
    self None e h = absurd (true≢false (sym h))
    self (Some r) e h = ap parted_if (gone_self rs id r e)

    parted_of : (j : ℕ) → parted_if (slice_get rs j) ≡ true
        → parted_if (slice_get (gone_at rs id) j) ≡ true
    parted_of j h =
        elim (cases_eq j id) [
          | inl same ↦ subst (λ (m : ℕ). parted_if (slice_get (gone_at rs id) m) ≡ true)
              (sym same) (self (slice_get rs id) refl
              (ap (λ (m : ℕ). parted_if (slice_get rs m)) (sym same) ∙ h))
          | inr other ↦ ap parted_if (gone_other rs id j other) ∙ h
        ]

-- a node that may go after another one that is not its child is freed could go before
still_goes : (cutoff : Option ℤ) (rs : List Record) (id j : ℕ)
    → may_go_at cutoff (gone_at rs id) j ≡ true → is_child_in (children_if (slice_get rs j)) id
    ≡ false → may_go_at cutoff rs j ≡ true
still_goes cutoff rs id j g no_child =
    elim (cases_eq j id) [
      | inl same ↦ absurd (true≢false
          (sym g ∙ (ap (may_go_at cutoff (gone_at rs id)) same ∙ gone_stays cutoff rs id)))
      | inr other ↦ other_goes other (slice_get rs j) refl
    ]
  where
    or_both : (a b : Bool) → (a || b) ≡ false → (a ≡ false) × (b ≡ false)
    or_both true b e = cc
    or_both false b e = (refl, e)

    apart : (a b : ℕ) → (a == b) ≡ false → b ≡ a → ⊥
    apart a b e h = true≢false (sym (eq-eqb a b (sym h)) ∙ e)

    held : (o : Option ℕ) → is_child_in o id ≡ false → is_held (gone_at rs id) o ≡ is_held rs o
    held None h = refl
    held (Some c) h =
        let parts = or_both (id == c) (id == c + 1) h in
        ap (λ (o : Option Record). holds_if o || holds_if (slice_get (gone_at rs id) (c + 1)))
        (gone_other rs id c (apart id c parts.0))
        ∙ ap (λ (o : Option Record). holds_if (slice_get rs c) || holds_if o)
        (gone_other rs id (c + 1) (apart id (c + 1) parts.1))

    other_goes : (j ≡ id → ⊥) → (o : Option Record) → slice_get rs j ≡ o → may_go_at cutoff rs j
        ≡ true
    other_goes ne None e =
        absurd (true≢false (sym g
        ∙ ap (may_go_if cutoff (gone_at rs id)) (gone_other rs id j ne ∙ e)))
    other_goes ne (Some r) e =
        let c : is_child_in r.children id ≡ false =
        ap (λ (o : Option Record). is_child_in (children_if o) id) (sym e) ∙ no_child in
        ap (may_go_if cutoff rs) e
        ∙ (ap (λ (t : Bool). is_over r.stage (r.has_point && is_below r.low cutoff) && not t)
        (sym (held r.children c))
        ∙ (ap (may_go_if cutoff (gone_at rs id)) (sym (gone_other rs id j ne ∙ e)) ∙ g))

is_gone_if : Option Record → Bool
is_gone_if None = false
is_gone_if (Some r) = is_freed r.stage

gone_last : (rs : List Record) (id j : ℕ) → is_gone_if (slice_get rs j) ≡ true
    → is_gone_if (slice_get (gone_at rs id) j) ≡ true
unfolding is_gone_if
gone_last rs id j g =
    elim (cases_eq j id) [
      | inl same ↦ subst (λ (m : ℕ). is_gone_if (slice_get (gone_at rs id) m) ≡ true) (sym same)
          (self (slice_get rs id) refl (ap (λ (m : ℕ). is_gone_if (slice_get rs m)) (sym same) ∙ g))
      | inr other ↦ ap is_gone_if (gone_other rs id j other) ∙ g
    ]
  where
    self : (o : Option Record) → slice_get rs id ≡ o → is_gone_if o ≡ true
        → is_gone_if (slice_get (gone_at rs id) id) ≡ true
    self None e h = absurd (true≢false (sym h))
    self (Some r) e h = ap is_gone_if (gone_self rs id r e)

stays_gone : (cutoff : Option ℤ) (ids : List ℕ) (rs : List Record) (id last : ℕ)
    (after : List Record) → IsFreedTo cutoff rs id ids last after → (j : ℕ)
    → is_gone_if (slice_get rs j) ≡ true → is_gone_if (slice_get after j) ≡ true
stays_gone cutoff [] rs id last after f j g =
    ap (λ (l : List Record). is_gone_if (slice_get l j)) f.1 ∙ gone_last rs id j g
stays_gone cutoff (q ∷ ids) rs id last after f j g =
    stays_gone cutoff ids (gone_at rs id) q last after f.1 j (gone_last rs id j g)

-- the first freed node is gone in the end
first_gone : (cutoff : Option ℤ) (ids : List ℕ) (rs : List Record) (id last : ℕ)
    (after : List Record) (r : Record) → IsFreedTo cutoff rs id ids last after → slice_get rs id
    ≡ Some r → is_gone_if (slice_get after id) ≡ true
unfolding is_gone_if
first_gone cutoff [] rs id last after r f e =
    ap (λ (l : List Record). is_gone_if (slice_get l id)) f.1 ∙ ap is_gone_if (gone_self rs id r e)
first_gone cutoff (q ∷ ids) rs id last after r f e =
    stays_gone cutoff ids (gone_at rs id) q last after f.1 id (ap is_gone_if (gone_self rs id r e))

gone_not_go : (cutoff : Option ℤ) (rs : List Record) (j : ℕ) → is_gone_if (slice_get rs j) ≡ true
    → may_go_at cutoff rs j ≡ true → ⊥
unfolding is_gone_if
gone_not_go cutoff rs j g m =
    let f = goes_is cutoff rs j m in
    true≢false (sym g ∙ (ap is_gone_if f.is ∙ f.stays))

-- a node that may go in the end could go before
pub goes_before : (cutoff : Option ℤ) (ids : List ℕ) (rs : List Record) (id last : ℕ)
    (after : List Record) → IsFreedTo cutoff rs id ids last after → next_up cutoff after last
    ≡ None → KnowsParents rs → id < length rs
    → (j : ℕ) → may_go_at cutoff after j ≡ true → may_go_at cutoff rs j ≡ true
goes_before cutoff [] rs id last after f top k within j g =
    by_child (is_child_in (children_if (slice_get rs j)) id) refl
  where
    goes : may_go_at cutoff (gone_at rs id) j ≡ true
    goes = ap (λ (l : List Record). may_go_at cutoff l j) (sym f.1) ∙ g

    by_child : (b : Bool) → is_child_in (children_if (slice_get rs j)) id ≡ b
        → may_go_at cutoff rs j ≡ true
    by_child true c =
        let up : next_up cutoff (gone_at rs id) id ≡ None =
        ap (λ (l : List Record). next_up cutoff l id) (sym f.1)
        ∙ (ap (next_up cutoff after) f.0 ∙ top) in
        let parent : parent_if (slice_get (gone_at rs id) id) ≡ Some j = parent-gone rs id id
        ∙ k.parent j id c within in
        let some : next_up cutoff (gone_at rs id) id ≡ Some j =
        ap (if_may_go cutoff (gone_at rs id)) parent
        ∙ cond-true (may_go_at cutoff (gone_at rs id) j) (Some j) None goes in
        let wrong : None ≡ Some j = sym up ∙ some in cc
    by_child false c = still_goes cutoff rs id j goes c
goes_before cutoff (q ∷ ids) rs id last after f top k within j g =
    let up = up_is cutoff (gone_at rs id) id q f.0 in
    by_child up.parent up.there (goes_is cutoff (gone_at rs id) q up.goes)
    (goes_before cutoff ids (gone_at rs id) q last after f.1 top (knows_gone rs id k) up.there
    j g) (is_child_in (children_if (slice_get rs j)) id) refl
  where
    some_same : (a b : ℕ) → Some a ≡ Some b → a ≡ b
    some_same a b e = cc

    by_child : parent_if (slice_get (gone_at rs id) id) ≡ Some q → q < length (gone_at rs id)
        → Goes (gone_at rs id) q → may_go_at cutoff (gone_at rs id) j ≡ true
        → (b : Bool) → is_child_in (children_if (slice_get rs j)) id ≡ b → may_go_at cutoff rs j
        ≡ true
    by_child up there record_of goes true c =
        let parent : parent_if (slice_get (gone_at rs id) id) ≡ Some j = parent-gone rs id id
        ∙ k.parent j id c within in
        let same : j ≡ q = some_same j q (sym parent ∙ up) in
        absurd (gone_not_go cutoff after q (first_gone cutoff ids (gone_at rs id) q last after
        record_of.r f.1 record_of.is) (ap (may_go_at cutoff after) (sym same) ∙ g))
    by_child up there record_of goes false c = still_goes cutoff rs id j goes c

-- the parent of a node does not wait
pub parent_not_waiting : (cutoff : Option ℤ) (rs : List Record) (id q : ℕ) → KnowsParents rs
    → next_up cutoff rs id ≡ Some q → (r : Record) × (slice_get rs q ≡ Some r)
    × (is_waiting r.stage ≡ false)
parent_not_waiting cutoff rs id q k e =
    let up = up_is cutoff rs id q e in
    let f = goes_is cutoff rs q up.goes in
    let child : is_child_in (children_if (slice_get rs q)) id ≡ true =
    k.child q id up.parent up.there in
    let some : has_children (children_if (slice_get rs q)) ≡ true =
    has (children_if (slice_get rs q)) child in
    let parted : was_parted f.r.stage ≡ true = ap parted_if (sym f.is) ∙ k.parted q some in
    (f.r, f.is, not_waiting f.r.stage parted)
  where
    has : (o : Option ℕ) → is_child_in o id ≡ true → has_children o ≡ true
    has None h = absurd (true≢false (sym h))
    has (Some c) h = refl

    not_waiting : (t : State) → was_parted t ≡ true → is_waiting t ≡ false
    not_waiting waiting h = sym h
    not_waiting (out seat) h = refl
    not_waiting split h = refl
    not_waiting shut h = refl
    not_waiting freed h = refl

-- as many nodes are out as before
pub outs_freed : (cutoff : Option ℤ) (ids : List ℕ) (rs : List Record) (id last : ℕ)
    (after : List Record) → IsFreedTo cutoff rs id ids last after → may_go_at cutoff rs id ≡ true
    → count_by (λ (r : Record). is_out r.stage) after ≡ count_by (λ (r : Record). is_out r.stage) rs
outs_freed cutoff [] rs id last after f g =
    ap (λ (l : List Record). count_by (λ (r : Record). is_out r.stage) l) f.1
    ∙ outs_gone cutoff rs id g
outs_freed cutoff (q ∷ ids) rs id last after f g =
    outs_freed cutoff ids (gone_at rs id) q last after f.1
    (up_is cutoff (gone_at rs id) id q f.0).goes ∙ outs_gone cutoff rs id g

pub length_freed : (cutoff : Option ℤ) (ids : List ℕ) (rs : List Record) (id last : ℕ)
    (after : List Record) → IsFreedTo cutoff rs id ids last after → length after ≡ length rs
length_freed cutoff [] rs id last after f = ap length f.1 ∙ length-gone rs id
length_freed cutoff (q ∷ ids) rs id last after f =
    length_freed cutoff ids (gone_at rs id) q last after f.1 ∙ length-gone rs id
