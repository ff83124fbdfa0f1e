-- What the tree keeps after a put.
use Rattle.std.proofs.Common.{◌≡◌, ℕ, zero, suc, ◌+◌, ◌-◌, ◌*◌, ◌<◌, ◌≤◌, List, [], ◌∷◌, ◌++◌}
use Rattle.std.proofs.Common.{length, refl, ap, sym, ◌∙◌, subst, arith, Bool, true, false, cond}
use Rattle.std.proofs.Common.{Some, None, Option, length-set, length-append, append_assoc}
use Rattle.std.specs.Prelude.{slice_get, slice_set, count_by, reverse, ℤ, ◌==◌, int_lt}
use Rattle.std.specs.Int.{int_max}
use Rattle.std.proofs.lemmas.Bool.{eq-eqb, cond-true}
use Rattle.std.proofs.lemmas.List.Sums.{sum_by-append}
use Rattle.bl_problem.specs.Program.{Program}
use Rattle.bl_problem.specs.Points.{value_of}
use Rattle.bl_problem.specs.declared.cut.Cut.{Cut}
use Rattle.bl_desc.specs.declared.desc.Desc.{Desc}
use Rattle.bl_desc.specs.declared.change.Change.{Change}
use Rattle.bl_desc.specs.declared.desc.Piece.{Piece}
use Rattle.bl_desc.specs.Changes.{changed}
use Rattle.bl_journal.specs.declared.limits.TheConstants.{MOST_NODES}
use Rattle.bl_journal.specs.declared.entry.Entry.{Entry}
use Rattle.bl_journal.specs.declared.entry.Entry.TheVariants.{Take, Put, Back, Encode, Free}
use Rattle.bl_journal.specs.declared.entry.Step.TheVariants.{Shut, Split}
use Rattle.bl_journal.specs.declared.outcome.Next.{Next}
use Rattle.bl_journal.specs.declared.outcome.Next.TheVariants.{Shut as ShutNext, Split as SplitNext}
use Rattle.bl_journal.specs.declared.outcome.Outcome.{Outcome}
use Rattle.bl_journal.specs.declared.settings.Settings.{Settings}
use Rattle.bl_tree.specs.declared.record.Record.{Record}
use Rattle.bl_journal.specs.Births.{nodes_of, node_at, root_node}
use Rattle.bl_journal.specs.Descriptions.{full_of, left_child, right_child}
use Rattle.bl_journal.specs.States.{state_of, best_of, best_with, value_if, Found}
use Rattle.bl_journal.specs.declared.state.State.TheVariants.{Out as out, Shut as shut}
use Rattle.bl_journal.specs.Pieces.{is_freed, stored_of, rebuilt}
use Rattle.bl_journal.specs.Legality.{IsLegalPast, MayPut}
use Rattle.bl_journal.specs.Replies.{is_out}
use Rattle.bl_tree.specs.Views.{TreeView, LeaseView, IsPutFor, PiecesStored, step_of}
use Rattle.bl_tree.specs.Records.{was_parted, IsKept, best_value_with, fresh_record, box_has_point}
use Rattle.bl_journal.proofs.Leaves.{shape, out_born, state_kept, left_of, right_of, after_split}
use Rattle.bl_journal.proofs.Sums.{one_if}
use Rattle.bl_journal.proofs.Births.{children_follow}
use Rattle.bl_journal.proofs.Induction.{each_node}
use Rattle.bl_journal.proofs.Growth.{reverse-push}
use Rattle.bl_tree.proofs.Sets.{records_set, same_box, count_by-set}
use Rattle.bl_tree.proofs.Stored.{stored_stage, stored_split}
use Rattle.bl_tree.proofs.Kept.{kept_out}
use Rattle.bl_tree.proofs.Puts.{records_split, parted, child_record}

-- a node's depth is at most its number
pub depth_le : (p : Program) (s : Settings) (past : List Entry) → IsLegalPast p s past → (id : ℕ)
    → id < length (nodes_of p past) → (node_at p past id).depth ≤ id
depth_le p s past l id born =
    each_node p s (λ h k n. n.depth ≤ k) (record {
      root = omega arith;
      kept = λ h e legal a k b deep. deep;
      handed = λ h put b deep d k under. let parent : (node_at p h put.id).depth ≤ put.id =
          deep in omega (arith, parent, under);
    }) past l id born

pub best_value_same : (p : Program) (o : Option Found) (found : Option (List ℤ))
    → best_value_with p (value_if o) found ≡ value_if (best_with p o found)
best_value_same p None None = refl
best_value_same p (Some b) None = refl
best_value_same p None (Some x) = refl
best_value_same p (Some b) (Some x) =
    by_bool (int_lt (value_of p x) b.value)
  where
    by_bool : (t : Bool) → cond t (Some (value_of p x)) (Some b.value)
        ≡ value_if (cond t (Some (record { value = value_of p x; point = x })) (Some b))
    by_bool true = refl
    by_bool false = refl

pub kept_shut : (p : Program) (s : Settings) (past : List Entry) (room room' capacity : ℕ)
    (kept : List Record) (taken : ℕ) (best : Option ℤ) (id seat : ℕ) (found : Option (List ℤ))
    (low : ℤ) (r : Record)
    → IsKept p s past room capacity kept taken best → MayPut p s past seat id found low Shut
    → slice_get kept id ≡ Some r → room' + 1 ≡ room
    → IsKept p s (Put seat id found low Shut ∷ past) room' capacity
    (slice_set kept id (record r { stage = shut })) taken (best_value_with p best found)
kept_shut p s past room room' capacity kept taken best id seat found low r k may e less =
    let c = count_by-set (λ (q : Record). is_out q.stage) kept id (record r { stage = shut }) r e in
    let one : one_if (is_out r.stage) ≡ 1 =
    ap one_if (kept_out p s past room capacity kept taken best id seat r k may.is_out e).1 in
    let before : count_by (λ r. is_out r.stage) kept ≤ room = k.room_is in
    let cap : length kept + 2 * count_by (λ r. is_out r.stage) kept ≤ capacity = k.capacity_is in
    let outs : count_by (λ r. is_out r.stage) kept ≤ taken = k.outs in
    let size : length kept + 2 * count_by (λ r. is_out r.stage) kept ≤ 2 * taken + 1 = k.size in
    let same : length (slice_set kept id (record r { stage = shut })) ≡ length kept =
    length-set kept id (record r { stage = shut }) in
    record {
      legal = (may, k.legal);
      span_some = k.span_some;
      span_few = k.span_few;
      storage = stored_stage p s past (Put seat id found low Shut ∷ past) kept id r shut refl
          (λ j. refl)
          (λ q ne. state_kept q id (state_of past q) shut (λ h. ne (sym h)))
          (ap is_freed (cond-true (id == id) shut (state_of past id) (eq-eqb id id refl)))
          (ap is_freed may.is_out)
          (ap was_parted ((k.records.each id r e).stage ∙ may.is_out)) k.storage e;
      records = records_set p past (Put seat id found low Shut ∷ past) kept id r
          (record r { stage = shut }) (same_box r shut) refl
          (sym (cond-true (id == id) shut (state_of past id) (eq-eqb id id refl)))
          (λ q ne. state_kept q id (state_of past q) shut (λ h. ne (sym h)))
          k.records e;
      used = k.used;
      best_is = ap (λ o. best_value_with p o found) k.best_is
          ∙ best_value_same p (best_of p past) found;
      room_is = omega (arith, c, one, before, less);
      capacity_is = omega (arith, c, one, cap, same);
      outs = omega (arith, c, one, outs);
      size = omega (arith, c, one, size, same);
      budget = k.budget;
      few = k.few;
      gap_some = k.gap_some;
      gap_few = k.gap_few;
    }

-- the pieces of the two children, of which the first has the number n
pub record ChildPieces (p : Program) (s : Settings) (past : List Entry) (left right : Piece Cut)
    (n : ℕ) : Type 0 where
  pub left_is : left ≡ stored_of p s past n
  pub right_is : right ≡ stored_of p s past (n + 1)

pub kept_split : (p : Program) (s : Settings) (past : List Entry) (room room' capacity : ℕ)
    (kept : List Record) (taken : ℕ) (best : Option ℤ) (id seat : ℕ) (found : Option (List ℤ))
    (low : ℤ)
    (common : Change Cut) (column : ℕ) (at : ℤ) (r : Record) (lo ro : Bool) (left right : Piece Cut)
    → IsKept p s past room capacity kept taken best
    → MayPut p s past seat id found low (Split common column at) → slice_get kept id ≡ Some r
    → room' + 1 ≡ room
    → lo ≡ box_has_point (full_of p (Put seat id found low (Split common column at) ∷ past)
    (length (nodes_of p past)))
    → ro ≡ box_has_point (full_of p (Put seat id found low (Split common column at) ∷ past)
    (length (nodes_of p past) + 1))
    → ChildPieces p s (Put seat id found low (Split common column at) ∷ past) left right
    (length (nodes_of p past))
    → IsKept p s (Put seat id found low (Split common column at) ∷ past) room' capacity
    (slice_set kept id (parted (length (nodes_of p past)) r) ++ child_record id r low lo left
    ∷ child_record id r low ro right ∷ []) taken (best_value_with p best found)
kept_split p s past room room' capacity kept taken best id seat found low common column at r lo ro
    left right k may e less el er pieces =
    let y : Record = parted (length (nodes_of p past)) r in
    let set : List Record = slice_set kept id y in
    let two : List Record = child_record id r low lo left ∷ child_record id r low ro right ∷ [] in
    let c : count_by (λ r. is_out r.stage) set + one_if (is_out r.stage)
    ≡ count_by (λ r. is_out r.stage) kept + 0 =
    count_by-set (λ (q : Record). is_out q.stage) kept id y r e in
    let one : one_if (is_out r.stage) ≡ 1 =
    ap one_if (kept_out p s past room capacity kept taken best id seat r k may.is_out e).1 in
    let all : count_by (λ r. is_out r.stage) (set ++ two) ≡ count_by (λ r. is_out r.stage) set + 0 =
    sum_by-append (λ (q : Record). one_if (is_out q.stage)) set two in
    let before : count_by (λ r. is_out r.stage) kept ≤ room = k.room_is in
    let cap : length kept + 2 * count_by (λ r. is_out r.stage) kept ≤ capacity = k.capacity_is in
    let outs : count_by (λ r. is_out r.stage) kept ≤ taken = k.outs in
    let size : length kept + 2 * count_by (λ r. is_out r.stage) kept ≤ 2 * taken + 1 = k.size in
    let same : length set ≡ length kept = length-set kept id y in
    let longer : length (set ++ two) ≡ length set + 2 = length-append set two in
    record {
      legal = (may, k.legal);
      span_some = k.span_some;
      span_few = k.span_few;
      storage = stored_split p s past kept seat id found low common column at r
          (child_record id r low lo left) (child_record id r low ro right) left right k.legal may
          k.storage k.records.count e
          (ap was_parted ((k.records.each id r e).stage ∙ may.is_out))
          refl refl refl refl refl refl pieces.left_is pieces.right_is;
      records = records_split p s past kept seat id found low common column at r lo ro left right
          (shape p s past k.legal) may k.records e el er;
      used = k.used;
      best_is = ap (λ o. best_value_with p o found) k.best_is
          ∙ best_value_same p (best_of p past) found;
      room_is = omega (arith, c, all, one, before, less);
      capacity_is = omega (arith, c, all, one, cap, same, longer);
      outs = omega (arith, c, all, one, outs);
      size = omega (arith, c, all, one, size, same, longer);
      budget = k.budget;
      few = k.few;
      gap_some = k.gap_some;
      gap_few = k.gap_few;
    }

-- what a call of put may rest on, over the parts of the tree
pub record PutFacts (p : Program) (s : Settings) (history : List Entry) (seat id : ℕ)
    (lease : LeaseView) (outcome : Outcome) (next : Next) : Type 0 where
  pub may : MayPut p s (reverse history) seat id outcome.found outcome.low (step_of next)
  pub chain : rebuilt lease.chain ≡ Some (full_of p (reverse history) id)
  pub pieces : PiecesStored (record {
    problem = p;
    settings = s;
    history =
        history ++ Put seat id outcome.found outcome.low (step_of next) ∷ [];
  }) next

pub put_facts : (p : Program) (s : Settings) (history : List Entry) (t : TreeView) (seat : ℕ)
    (lease : LeaseView) (outcome : Outcome) (id : ℕ) (next : Next)
    → (record { problem = p; settings = s; history = history }) ≡ t → id ≡ lease.id → outcome.next
    ≡ next → IsPutFor t seat lease outcome → PutFacts p s history seat id lease outcome next
put_facts p s history t seat lease outcome id next view same is r =
    let r' : IsPutFor (record { problem = p; settings = s; history = history }) seat lease
    outcome = subst (λ (u : TreeView). IsPutFor u seat lease outcome) (sym view) r in
    let base : PutFacts p s history seat lease.id lease outcome outcome.next =
    record { may = r'.allowed; chain = r'.leased.chain; pieces = r'.pieces } in
    subst (λ (n : Next). PutFacts p s history seat id lease outcome n) is
    (subst (λ (i : ℕ). PutFacts p s history seat i lease outcome outcome.next) (sym same) base)

-- the description of a lease is that of its node
pub desc_is : (p : Program) (s : Settings) (history : List Entry) (seat id : ℕ)
    (lease : LeaseView) (outcome : Outcome) (next : Next) (d : Desc Cut)
    → PutFacts p s history seat id lease outcome next
    → rebuilt lease.chain ≡ Some d → d ≡ full_of p (reverse history) id
desc_is p s history seat id lease outcome next d f e =
    let g : Some d ≡ Some (full_of p (reverse history) id) = sym e ∙ f.chain in cc

pub split_pieces : (p : Program) (s : Settings) (history : List Entry) (seat id : ℕ)
    (lease : LeaseView) (outcome : Outcome) (common : Change Cut) (column : ℕ) (at : ℤ)
    (left right : Piece Cut)
    → PutFacts p s history seat id lease outcome (SplitNext common column at left right)
    → ChildPieces p s (Put seat id outcome.found outcome.low (Split common column at)
    ∷ reverse history) left right (length (nodes_of p (reverse history)))
split_pieces p s history seat id lease outcome common column at left right f =
    let past : List Entry = reverse history in
    let e : Entry = Put seat id outcome.found outcome.low (Split common column at) in
    let turned : reverse (history ++ e ∷ []) ≡ e ∷ past = reverse-push history e in
    let n : ℕ = length (nodes_of p (e ∷ past)) in
    let len : n ≡ length (nodes_of p past) + 2 = length-append (nodes_of p past)
    (left_of (node_at p past id) id outcome.low common column at
    ∷ right_of (node_at p past id) id outcome.low common column at ∷ []) in
    let first : n - 2 ≡ length (nodes_of p past) = omega (arith, len) in
    let second : n - 1 ≡ length (nodes_of p past) + 1 = omega (arith, len) in
    record {
      left_is = f.pieces.0 ∙ (ap (λ h. stored_of p s h (length (nodes_of p h) - 2)) turned
          ∙ ap (stored_of p s (e ∷ past)) first);
      right_is = f.pieces.1 ∙ (ap (λ h. stored_of p s h (length (nodes_of p h) - 1)) turned
          ∙ ap (stored_of p s (e ∷ past)) second);
    }

-- a put that shuts, as the code leaves it
pub shut_done : (p : Program) (s : Settings) (history entries : List Entry)
    (room room' capacity : ℕ) (kept : List Record) (taken : ℕ) (best best' : Option ℤ)
    (id seat : ℕ) (lease : LeaseView) (outcome : Outcome) (r : Record)
    → IsKept p s (reverse history) room capacity kept taken best
    → PutFacts p s history seat id lease outcome ShutNext → slice_get kept id ≡ Some r → room' + 1
    ≡ room
    → entries ≡ history ++ Put seat id outcome.found outcome.low Shut ∷ [] → best'
    ≡ best_value_with p best outcome.found
    → IsKept p s (reverse entries) room' capacity (slice_set kept id (record r { stage = shut }))
    taken best'
shut_done p s history entries room room' capacity kept taken best best' id seat lease outcome r k
    f e less made b =
    let past : reverse entries ≡ Put seat id outcome.found outcome.low Shut ∷ reverse history =
    ap reverse made ∙ reverse-push history (Put seat id outcome.found outcome.low Shut) in
    subst (λ (h : List Entry). IsKept p s h room' capacity
    (slice_set kept id (record r { stage = shut })) taken best') (sym past)
    (subst (λ (o : Option ℤ). IsKept p s (Put seat id outcome.found outcome.low Shut
    ∷ reverse history) room' capacity (slice_set kept id (record r { stage = shut })) taken o)
    (sym b)
    (kept_shut p s (reverse history) room room' capacity kept taken best id seat outcome.found
    outcome.low r k f.may e less))

-- a put that splits, as the code leaves it
pub split_done : (p : Program) (s : Settings) (history entries : List Entry)
    (room room' capacity capacity' : ℕ) (kept one two : List Record) (taken : ℕ)
    (best best' : Option ℤ) (id seat count : ℕ) (lease : LeaseView) (outcome : Outcome)
    (common : Change Cut) (column : ℕ) (at : ℤ) (left right : Piece Cut) (r r1 r2 : Record)
    (desc : Desc Cut) (lo ro : Bool) (low : ℤ)
    → IsKept p s (reverse history) room capacity kept taken best
    → PutFacts p s history seat id lease outcome (SplitNext common column at left right)
    → slice_get kept id ≡ Some r → room' + 1 ≡ room
    → capacity' ≡ capacity → count ≡ length kept → desc ≡ full_of p (reverse history) id
    → lo ≡ box_has_point (left_child (changed common desc) column at) → ro
    ≡ box_has_point (right_child (changed common desc) column at) → low
    ≡ int_max r.low outcome.low
    → r1 ≡ fresh_record id (r.depth + 1) low lo left → r2
    ≡ fresh_record id (r.depth + 1) low ro right
    → one ≡ slice_set kept id (parted count r) ++ r1 ∷ [] → two ≡ one ++ r2 ∷ []
    → entries ≡ history ++ Put seat id outcome.found outcome.low (Split common column at) ∷ []
    → best' ≡ best_value_with p best outcome.found
    → IsKept p s (reverse entries) room' capacity' two taken best'
split_done p s history entries room room' capacity capacity' kept one two taken best best' id seat
    count lease outcome common column at left right r r1 r2 desc lo ro low
    k f e less wide counts is_full opens_left opens_right lows e1 e2 ones twos made b =
    let e0 : Entry = Put seat id outcome.found outcome.low (Split common column at) in
    let past : reverse entries ≡ e0 ∷ reverse history = ap reverse made ∙ reverse-push history e0 in
    let n : count ≡ length (nodes_of p (reverse history)) = counts ∙ k.records.count in
    let pieces = split_pieces p s history seat id lease outcome common column at left right f in
    let follow = children_follow p s (reverse history)
    (record {
      seat = seat;
      id = id;
      found = outcome.found;
      low = outcome.low;
      common =
          common;
      column = column;
      at = at;
      may = f.may;
    }) in
    let lf : lo ≡ box_has_point
    (full_of p (e0 ∷ reverse history) (length (nodes_of p (reverse history)))) =
    opens_left ∙ (ap (λ (d : Desc Cut). box_has_point (left_child (changed common d) column at))
    is_full
    ∙ ap box_has_point (sym follow.left)) in
    let rf : ro ≡ box_has_point
    (full_of p (e0 ∷ reverse history) (length (nodes_of p (reverse history)) + 1)) =
    opens_right ∙ (ap (λ (d : Desc Cut). box_has_point (right_child (changed common d) column at))
    is_full
    ∙ ap box_has_point (sym follow.right)) in
    let f1 : r1 ≡ child_record id r outcome.low lo left =
    e1 ∙ ap (λ z. fresh_record id (r.depth + 1) z lo left) lows in
    let f2 : r2 ≡ child_record id r outcome.low ro right =
    e2 ∙ ap (λ z. fresh_record id (r.depth + 1) z ro right) lows in
    let set : ℕ → List Record = λ m. slice_set kept id (parted m r) in
    let all : two ≡ set (length (nodes_of p (reverse history)))
    ++ child_record id r outcome.low lo left ∷ child_record id r outcome.low ro right ∷ [] =
    twos ∙ (ap (λ l. l ++ r2 ∷ []) ones ∙ (append_assoc (set count) (r1 ∷ []) (r2 ∷ [])
    ∙ (ap (λ x. set count ++ x ∷ r2 ∷ []) f1
    ∙ (ap (λ x. set count ++ child_record id r outcome.low lo left ∷ x ∷ []) f2
    ∙ ap (λ m. set m ++ child_record id r outcome.low lo left
    ∷ child_record id r outcome.low ro right ∷ []) n)))) in
    let base : IsKept p s (e0 ∷ reverse history) room' capacity
    (set (length (nodes_of p (reverse history))) ++ child_record id r outcome.low lo left
    ∷ child_record id r outcome.low ro right ∷ []) taken
    (best_value_with p best outcome.found) =
    kept_split p s (reverse history) room room' capacity kept taken best id seat outcome.found
    outcome.low common column at r lo ro left right k f.may e less lf rf pieces in
    subst (λ (h : List Entry). IsKept p s h room' capacity' two taken best') (sym past)
    (subst (λ (m : ℕ). IsKept p s (e0 ∷ reverse history) room' m two taken best') (sym wide)
    (subst (λ (l : List Record). IsKept p s (e0 ∷ reverse history) room' capacity l taken best')
    (sym all)
    (subst (λ (o : Option ℤ). IsKept p s (e0 ∷ reverse history) room' capacity
    (set (length (nodes_of p (reverse history))) ++ child_record id r outcome.low lo left
    ∷ child_record id r outcome.low ro right ∷ []) taken o) (sym b) base)))

-- the numbers that the code may rest on at a put
pub record PutRoom (id depth room capacity : ℕ) (kept : List Record) : Type 0 where
  pub born : id < length kept
  pub room_left : 0 < room
  pub two_left : length kept + 2 ≤ capacity
  pub shallow : depth ≤ 200001

pub put_room : (p : Program) (s : Settings) (past : List Entry) (room capacity : ℕ)
    (kept : List Record) (taken : ℕ) (best : Option ℤ) (id seat : ℕ) (r : Record)
    → IsKept p s past room capacity kept taken best → state_of past id ≡ out seat
    → slice_get kept id ≡ Some r → PutRoom id r.depth room capacity kept
put_room p s past room capacity kept taken best id seat r k o e =
    let f : 0 < count_by (λ r. is_out r.stage) kept =
    (kept_out p s past room capacity kept taken best id seat r k o e).0 in
    let born : id < length (nodes_of p past) = out_born p past id seat (shape p s past k.legal) o in
    let count : length kept ≡ length (nodes_of p past) = k.records.count in
    let before : count_by (λ r. is_out r.stage) kept ≤ room = k.room_is in
    let cap : length kept + 2 * count_by (λ r. is_out r.stage) kept ≤ capacity = k.capacity_is in
    let size : length kept + 2 * count_by (λ r. is_out r.stage) kept ≤ 2 * taken + 1 = k.size in
    let budget : taken ≤ s.nodes = k.budget in
    let few : s.nodes ≤ MOST_NODES = k.few in
    let is : r.depth ≡ (node_at p past id).depth = (k.records.each id r e).depth in
    let deep : (node_at p past id).depth ≤ id = depth_le p s past k.legal id born in
    record {
      born = omega (arith, born, count);
      room_left = omega (arith, f, before);
      two_left = omega (arith, f, cap);
      shallow = omega (arith, is, deep, born, count, size, budget, few);
    }
