-- In a legal history each feasible point that is below the best value less the gap lies in
-- exactly one live node.
use Rattle.std.proofs.Common.{◌≡◌, ℕ, zero, suc, ◌+◌, ◌<◌, ◌≤◌, List, [], ◌∷◌, ◌++◌, length, refl}
use Rattle.std.proofs.Common.{ap, sym, ◌∙◌, subst, arith, Bool, true, false, Some, None, Option}
use Rattle.std.proofs.Common.{◌⊎◌, inl, inr}
use Rattle.std.specs.Prelude.{IfSome, ◌==◌, ℤ, pos, ◌≤ℤ◌, ◌+ℤ◌, int_le, slice_get}
use Rattle.std.specs.Int.{int_max}
use Rattle.std.proofs.lemmas.Int.{ints, clamps}
use Rattle.std.proofs.lemmas.Bool.{and_from, eqb-false, true≢false, cases_eq}
use Rattle.bl_mods.specs.Mods.{is_among}
use Rattle.bl_problem.specs.Program.{Program}
use Rattle.bl_problem.specs.Points.{InBox, IsFeasible, value_of, own_lows, own_highs}
use Rattle.bl_problem.specs.Decisions.{Meets, MeetsAll}
use Rattle.bl_problem.specs.declared.cut.Cut.{Cut}
use Rattle.bl_problem.specs.declared.decision.Decision.{Decision}
use Rattle.bl_problem.proofs.Narrowed.{MeetsAll-append, MeetsAll-front, MeetsAll-back}
use Rattle.bl_problem.proofs.Narrowed.{InBox-narrowed}
use Rattle.bl_problem.proofs.Trivial.{trivial_bound-below}
use Rattle.bl_desc.specs.declared.desc.Desc.{Desc}
use Rattle.bl_journal.specs.declared.entry.Entry.{Entry}
use Rattle.bl_journal.specs.declared.entry.Entry.TheVariants.{Take, Put, Back, Encode, Free}
use Rattle.bl_journal.specs.declared.entry.Step.{Step}
use Rattle.bl_journal.specs.declared.entry.Step.TheVariants.{Shut, Split}
use Rattle.bl_journal.specs.Soundness.{IsInQuestion, cutoff_with, decisions_of}
use Rattle.bl_journal.specs.declared.settings.Settings.{Settings}
use Rattle.bl_journal.specs.Births.{Node, Branch, nodes_of, node_at, grown, root_node, IsBorn}
use Rattle.bl_journal.specs.Descriptions.{IsInNode, full_of, decisions_along}
use Rattle.bl_journal.specs.States.{state_of, put_state, is_open, is_live_in, is_below}
use Rattle.bl_journal.specs.States.{cutoff_for, best_of, has_point, cutoff_of}
use Rattle.bl_journal.specs.declared.state.State.{State}
use Rattle.bl_journal.specs.declared.state.State.TheVariants.{Waiting as waiting, Out as out}
use Rattle.bl_journal.specs.declared.state.State.TheVariants.{Split as split, Shut as shut}
use Rattle.bl_journal.specs.declared.state.State.TheVariants.{Freed as freed}
use Rattle.bl_journal.specs.Freeing.{is_over}
use Rattle.bl_journal.specs.Results.{IsHeldBy, LiesIn}
use Rattle.bl_journal.specs.Legality.{IsAllowed, IsLegalPast, MayPut, SplitPut, split_entry}
use Rattle.bl_journal.specs.Legality.{with_split}
use Rattle.bl_journal.proofs.Growth.{get_or-grown, length-grown}
use Rattle.bl_journal.proofs.Living.{each_past}
use Rattle.bl_journal.proofs.Induction.{branch_by, child_by}
use Rattle.bl_journal.proofs.Children.{decisions_along-append}
use Rattle.bl_journal.proofs.Births.{IsMade, left_decision, right_decision, left_made, right_made}
use Rattle.bl_journal.proofs.Leaves.{by_test, turned, shape, out_born, state_kept, after_split}
use Rattle.bl_journal.proofs.Leaves.{chain_frees, freed_over}
use Rattle.bl_journal.proofs.Cutoffs.{below_before, below_cutoff, cutoff_holds}

abbrev pub is_leaf : State → Bool
is_leaf waiting = true
is_leaf (out seat) = true
is_leaf split = false
is_leaf shut = false
is_leaf freed = false

-- a point of a child is one of its parent that meets the common change and the decision
pub MeetsAll-child : (x : List ℤ) (path : List Branch) (branch : Branch)
    → MeetsAll x (decisions_along path) → MeetsAll x (decisions_of branch.common)
    → Meets x branch.decision
    → MeetsAll x (decisions_along (path ++ branch ∷ []))
MeetsAll-child x path branch m c d =
    rw (decisions_along-append path (branch ∷ []))
    (MeetsAll-append x (decisions_along path)
    ((decisions_of branch.common ++ branch.decision ∷ []) ++ []) m
    (MeetsAll-append x (decisions_of branch.common ++ branch.decision ∷ []) []
    (MeetsAll-append x (decisions_of branch.common) (branch.decision ∷ []) c (d, tt)) tt))

pub MeetsAll-parent : (x : List ℤ) (path : List Branch) (branch : Branch)
    → MeetsAll x (decisions_along (path ++ branch ∷ [])) → MeetsAll x (decisions_along path)
    × Meets x branch.decision
MeetsAll-parent x path branch m =
    let all = rw (decisions_along-append path (branch ∷ [])) at m in
    let tail = MeetsAll-back x (decisions_along path)
    ((decisions_of branch.common ++ branch.decision ∷ []) ++ []) all in
    let last = MeetsAll-front x (decisions_of branch.common ++ branch.decision ∷ []) [] tail in (
      MeetsAll-front x (decisions_along path) _ all,
      (MeetsAll-back x (decisions_of branch.common) (branch.decision ∷ []) last).0,
    )

pub InNode-box : (p : Program) (past : List Entry) (id : ℕ) (x : List ℤ) → IsInNode p past id x
    → InBox (full_of p past id).lows (full_of p past id).highs x
InNode-box p past id x i = InBox-narrowed (record { lows = own_lows p; highs = own_highs p })
    (decisions_along (node_at p past id).path) x i.0 i.1

pub InBox-has_point : (lows highs x : List ℤ) → InBox lows highs x → has_point lows highs ≡ true
InBox-has_point [] highs x i = refl
InBox-has_point (l ∷ lows) [] x i = refl
InBox-has_point (l ∷ lows) (h ∷ highs) [] i = absurd i
InBox-has_point (l ∷ lows) (h ∷ highs) (v ∷ x) i =
    let a : l ≤ℤ v = i.0 in
    let b : v ≤ℤ h = i.1 in
    let le : int_le l h ≡ true = grind (arith, ints, a, b) in
    and_from (int_le l h) (has_point lows highs) le (InBox-has_point lows highs x i.2)

is_below-less : (cutoff : Option ℤ) (low v : ℤ) → low ≤ℤ v → is_below v cutoff ≡ true
    → is_below low cutoff ≡ true
is_below-less None low v h b = refl
is_below-less (Some c) low v h b = grind (arith, ints, b, h)

-- a leaf with a point below the best value less the gap is open
pub leaf_open : (p : Program) (s : Settings) (past : List Entry) (id : ℕ) (x : List ℤ)
    → IsInNode p past id x → (node_at p past id).low ≤ℤ value_of p x
    → is_below (value_of p x) (cutoff_for p s past) ≡ true → is_open p s past id ≡ true
leaf_open p s past id x i low b =
    and_from (has_point (full_of p past id).lows (full_of p past id).highs)
    (is_below (node_at p past id).low (cutoff_for p s past))
    (InBox-has_point (full_of p past id).lows (full_of p past id).highs x
    (InNode-box p past id x i))
    (is_below-less (cutoff_for p s past) (node_at p past id).low (value_of p x) low b)

-- a leaf after an entry was one before it
pub leaf_before : (p : Program) (s : Settings) (past : List Entry) (e : Entry)
    → IsAllowed p s past e → (id : ℕ)
    → is_leaf (state_of (e ∷ past) id) ≡ true → is_leaf (state_of past id) ≡ true
leaf_before p s past e a id =
    turned (λ t u. is_leaf u ≡ true → is_leaf t ≡ true) (record {
      stays = λ t k. k;
      taken = λ seat k. refl;
      back = λ seat k. refl;
      put = λ seat next k. refl;
      freed = λ t k. absurd (true≢false (sym k));
    }) p s past e a id

-- a node that was put is no leaf
pub put_no_leaf : (p : Program) (past : List Entry) (seat i : ℕ) (found : Option (List ℤ))
    (low : ℤ) (next : Step)
    → is_leaf (state_of (Put seat i found low next ∷ past) i) ≡ true → ⊥
put_no_leaf p past seat i found low next l =
    let P : State → Type 0 = λ t. is_leaf t ≡ true → ⊥ in
    by_test P (i == i) (put_state next) (state_of past i) (λ _ k. no_leaf next k)
    (λ e _. eqb-false i i e refl) l
  where
    no_leaf : (next : Step) → is_leaf (put_state next) ≡ true → ⊥
    no_leaf Shut k = true≢false (sym k)
    no_leaf (Split common column at) k = true≢false (sym k)

-- the point is in the node
abbrev pub Inside : Program → List ℤ → Node → Type 0
Inside p x n = InBox (own_lows p) (own_highs p) x × MeetsAll x (decisions_along n.path)

-- two children share no point
pub sides_apart : (x : List ℤ) (column : ℕ) (at : ℤ) → column < length x
    → IfSome (slice_get x column) (λ v. v ≤ℤ at)
    → IfSome (slice_get x column) (λ v. (at +ℤ pos 1) ≤ℤ v) → ⊥
sides_apart [] column at h a b = absurd (omega arith)
sides_apart (v ∷ x) zero at h a b = absurd (omega (arith, ints, a, b))
sides_apart (v ∷ x) (suc column) at h a b = sides_apart x column at (omega arith) a b

pub sides_cover : (x : List ℤ) (column : ℕ) (at : ℤ)
    → IfSome (slice_get x column) (λ v. v ≤ℤ at)
    ⊎ IfSome (slice_get x column) (λ v. (at +ℤ pos 1) ≤ℤ v)
sides_cover [] column at = inl tt
sides_cover (v ∷ x) zero at = grind (arith, ints)
sides_cover (v ∷ x) (suc column) at = sides_cover x column at

pub length-InBox : (lows highs x : List ℤ) → InBox lows highs x → length lows ≡ length x
length-InBox [] [] [] i = refl
length-InBox [] [] (v ∷ x) i = absurd i
length-InBox [] (h ∷ highs) x i = absurd i
length-InBox (l ∷ lows) [] x i = absurd i
length-InBox (l ∷ lows) (h ∷ highs) [] i = absurd i
length-InBox (l ∷ lows) (h ∷ highs) (v ∷ x) i = ap suc (length-InBox lows highs x i.2)

-- any two leaves with the point are one
abbrev pub LeavesApart : Program → List Entry → List ℤ → Type 0
LeavesApart p past x =
    (i j : ℕ) → i < length (nodes_of p past) → j < length (nodes_of p past)
    → is_leaf (state_of past i) ≡ true → is_leaf (state_of past j) ≡ true
    → Inside p x (node_at p past i) → Inside p x (node_at p past j) → i ≡ j

leaves_apart-split : (p : Program) (s : Settings) (past : List Entry) (put : SplitPut p s past)
    → IsLegalPast p s past → (x : List ℤ) → LeavesApart p past x → LeavesApart p (with_split put) x
leaves_apart-split p s past put legal x ih i j hi hj li lj mi mj =
    after_split nodes left right (root_node p) i (λ n. Inside p x n → i ≡ j)
    (λ oi ii. after_split nodes left right (root_node p) j (λ n. Inside p x n → i ≡ j)
    (λ oj ij. ih i j oi oj (before i li) (before j lj) ii ij)
    (λ e ij. absurd (not_parent i oi li ii (from_child (left_decision put) ij).0))
    (λ e ij. absurd (not_parent i oi li ii (from_child (right_decision put) ij).0))
    hj mj)
    (λ ei ii. after_split nodes left right (root_node p) j (λ n. Inside p x n → i ≡ j)
    (λ oj ij. absurd (not_parent j oj lj ij (from_child (left_decision put) ii).0))
    (λ ej ij. ei ∙ sym ej)
    (λ ej ij. absurd (both_sides (from_child (left_decision put) ii)
    (from_child (right_decision put) ij)))
    hj mj)
    (λ ei ii. after_split nodes left right (root_node p) j (λ n. Inside p x n → i ≡ j)
    (λ oj ij. absurd (not_parent j oj lj ij (from_child (right_decision put) ii).0))
    (λ ej ij. absurd (both_sides (from_child (left_decision put) ij)
    (from_child (right_decision put) ii)))
    (λ ej ij. ei ∙ sym ej)
    hj mj)
    hi mi
  where
    nodes : List Node
    nodes = nodes_of p past

    left : Node
    left = child_by put (left_decision put)

    right : Node
    right = child_by put (right_decision put)

    before : (q : ℕ) → is_leaf (state_of (with_split put) q) ≡ true → is_leaf (state_of past q)
        ≡ true
    before q leaf = leaf_before p s past (split_entry put) put.may q leaf

    from_child : (d : Decision) → Inside p x (child_by put d) → Inside p x (node_at p past put.id)
        × Meets x d
    from_child d m = let parts = MeetsAll-parent x (node_at p past put.id).path (branch_by put d)
        m.1 in ((m.0, parts.0), parts.1)

    not_parent : (q : ℕ) → IsBorn p past q → is_leaf (state_of (with_split put) q) ≡ true
        → Inside p x (node_at p past q) → Inside p x (node_at p past put.id) → ⊥
    not_parent q born after in_q in_parent =
        let parent : IsBorn p past put.id =
        out_born p past put.id put.seat (shape p s past legal) put.may.is_out in
        let same : q ≡ put.id = ih q put.id born parent (before q after)
        (ap is_leaf put.may.is_out) in_q in_parent in
        put_no_leaf p past put.seat put.id put.found put.low (Split put.common put.column put.at)
        (subst (λ (n : ℕ). is_leaf (state_of (with_split put) n) ≡ true) same after)

    both_sides : Inside p x (node_at p past put.id) × Meets x (left_decision put)
        → Inside p x (node_at p past put.id) × Meets x (right_decision put) → ⊥
    both_sides m n =
        let f : Desc Cut = full_of p past put.id in
        let len : length f.lows ≡ length x =
        length-InBox f.lows f.highs x (InNode-box p past put.id x m.0) in
        let range : put.column < length f.lows = put.may.sound.next_ok.column_in in
        sides_apart x put.column put.at (omega (arith, len, range)) m.1 n.1

-- in a legal history two leaves share no point
pub leaves_apart : (p : Program) (s : Settings) (past : List Entry) → IsLegalPast p s past
    → (x : List ℤ) → LeavesApart p past x
leaves_apart p s past legal x = each_past p s (λ h. LeavesApart p h x)
    (λ i j hi hj li lj mi mj. omega (arith, hi, hj)) step past legal
  where
    step : (past : List Entry) (e : Entry) → IsLegalPast p s past → IsAllowed p s past e
        → LeavesApart p past x → LeavesApart p (e ∷ past) x
    step past (Take seat k) l a ih i j hi hj li lj mi mj =
        ih i j hi hj (leaf_before p s past (Take seat k) a i li)
        (leaf_before p s past (Take seat k) a j lj) mi mj
    step past (Back seat k) l a ih i j hi hj li lj mi mj =
        ih i j hi hj (leaf_before p s past (Back seat k) a i li)
        (leaf_before p s past (Back seat k) a j lj) mi mj
    step past (Encode seat k form) l a ih i j hi hj li lj mi mj = ih i j hi hj li lj mi mj
    step past (Free seat ids) l a ih i j hi hj li lj mi mj =
        ih i j hi hj (leaf_before p s past (Free seat ids) a i li)
        (leaf_before p s past (Free seat ids) a j lj) mi mj
    step past (Put seat k found low Shut) l a ih i j hi hj li lj mi mj =
        ih i j hi hj (leaf_before p s past (Put seat k found low Shut) a i li)
        (leaf_before p s past (Put seat k found low Shut) a j lj) mi mj
    step past (Put seat k found low (Split common column at)) l a ih i j hi hj li lj mi mj =
        leaves_apart-split p s past (record {
          seat = seat;
          id = k;
          found = found;
          low =
              low;
          common = common;
          column = column;
          at = at;
          may = a;
        }) l x ih i j hi hj li lj mi mj

-- a leaf with the point, whose low number is at most the point's value
pub record Covered (p : Program) (past : List Entry) (x : List ℤ) : Type 0 where
  pub id : ℕ
  pub born : id < length (nodes_of p past)
  pub leaf : is_leaf (state_of past id) ≡ true
  pub inside : Inside p x (node_at p past id)
  pub low : (node_at p past id).low ≤ℤ value_of p x

-- a child that is made is a leaf, and has the point if it meets the common change and the decision
covered_child : (p : Program) (s : Settings) (past : List Entry) (put : SplitPut p s past) (n : ℕ)
    (d : Decision) → IsLegalPast p s past → (x : List ℤ) → IsMade p s past put n d
    → Inside p x (node_at p past put.id) → MeetsAll x (decisions_of put.common) → Meets x d
    → int_max (node_at p past put.id).low put.low ≤ℤ value_of p x → Covered p (with_split put) x
covered_child p s past put n d legal x made inside meets m low =
    let sh = shape p s past legal in
    let parent : IsBorn p past put.id = out_born p past put.id put.seat sh put.may.is_out in
    let new : length (nodes_of p past) ≤ n = made.new in
    record {
      id = n;
      born = made.born;
      leaf = ap is_leaf (state_kept n put.id (state_of past n) split
          (λ e. omega (arith, e, parent, new)) ∙ sh.unborn n new);
      inside = subst (λ (c : Node). Inside p x c) (sym made.is) (
        inside.0,
        MeetsAll-child x (node_at p past put.id).path (branch_by put d) inside.1
            meets m,
      );
      low = subst (λ (c : Node). c.low ≤ℤ value_of p x) (sym made.is) low;
    }

-- it has the point still where it is a leaf still
covered_on : (p : Program) (past : List Entry) (e : Entry) (x : List ℤ) (c : Covered p past x)
    → is_leaf (state_of (e ∷ past) c.id) ≡ true → Covered p (e ∷ past) x
covered_on p past e x c leaf =
    let same = get_or-grown p (nodes_of p past) e (root_node p) c.id c.born in
    let born : c.id < length (nodes_of p past) = c.born in
    let more : length (nodes_of p past) ≤ length (grown p (nodes_of p past) e) =
    length-grown p (nodes_of p past) e in
    record {
      id = c.id;
      born = omega (arith, more, born);
      leaf = leaf;
      inside = subst (λ (n : Node). Inside p x n) (sym same) c.inside;
      low = subst (λ (n : Node). n.low ≤ℤ value_of p x) (sym same) c.low;
    }

-- the points below the cutoff are covered
abbrev AllCovered : Program → Settings → List ℤ → List Entry → Type 0
AllCovered p s x past = is_below (value_of p x) (cutoff_for p s past) ≡ true → Covered p past x

covered_step : (p : Program) (s : Settings) (x : List ℤ) → pos 0 ≤ℤ s.gap → IsFeasible p x
    → (past : List Entry) (e : Entry) → IsLegalPast p s past → IsAllowed p s past e
    → AllCovered p s x past → AllCovered p s x (e ∷ past)
covered_step p s x g f past (Take seat k) l a ih b =
    let c = ih b in
    covered_on p past (Take seat k) x c
    (by_test (λ t. is_leaf t ≡ true) (k == c.id) (out seat) (state_of past c.id) (λ _. refl)
    (λ _. c.leaf))
covered_step p s x g f past (Back seat k) l a ih b =
    let c = ih b in
    covered_on p past (Back seat k) x c
    (by_test (λ t. is_leaf t ≡ true) (k == c.id) waiting (state_of past c.id) (λ _. refl)
    (λ _. c.leaf))
covered_step p s x g f past (Encode seat k form) l a ih b = let c =
    ih b in covered_on p past (Encode seat k form) x c c.leaf
covered_step p s x g f past (Free seat ids) l a ih b =
    let c = ih b in
    let opened : is_open p s past c.id ≡ true = leaf_open p s past c.id x c.inside c.low b in
    covered_on p past (Free seat ids) x c
    (by_test (λ t. is_leaf t ≡ true) (is_among c.id ids) freed (state_of past c.id)
    (λ m. let w = freed_over p s past ids c.id (chain_frees p s past (shape p s past l).parents
    ids a) m in absurd (leaf_not_over (state_of past c.id) c.leaf (rw opened at w.over)))
    (λ _. c.leaf))
  where
    leaf_not_over : (t : State) → is_leaf t ≡ true → is_over t true ≡ true → ⊥
    leaf_not_over waiting a o = true≢false (sym o)
    leaf_not_over (out seat) a o = true≢false (sym o)
    leaf_not_over split a o = true≢false (sym a)
    leaf_not_over shut a o = true≢false (sym a)
    leaf_not_over freed a o = true≢false (sym a)
covered_step p s x g f past (Put seat k found low next) l a ih b =
    let c = ih (below_before p s.gap (best_of p past) (Put seat k found low next) (value_of p x)
    b) in
    elim (cases_eq c.id k) [
      | inl same ↦ at_put next a (subst (λ (n : ℕ). Inside p x (node_at p past n)) same c.inside)
          (subst (λ (n : ℕ). (node_at p past n).low ≤ℤ value_of p x) same c.low)
      | inr other ↦
          covered_on p past (Put seat k found low next) x c
          (subst (λ (t : State). is_leaf t ≡ true)
          (sym (state_kept c.id k (state_of past c.id) (put_state next) (λ e. other (sym e))))
          c.leaf)
    ]
  where
    in_question : (next : Step) → MayPut p s past seat k found low next
        → Inside p x (node_at p past k)
        → IsInQuestion p (full_of p past k) (cutoff_with p (cutoff_of p s past k) found) x
    in_question next a inside =
        record {
          feasible = f;
          in_box = InNode-box p past k x inside;
          below = below_cutoff p s.gap (best_of p past) (cutoff_of p s past k) found
              (value_of p x) g (cutoff_holds p s past l k seat a.is_out) b;
        }

    at_put : (next : Step) → MayPut p s past seat k found low next → Inside p x (node_at p past k)
        → (node_at p past k).low ≤ℤ value_of p x → Covered p (Put seat k found low next ∷ past) x
    at_put Shut a inside old = absurd (a.sound.next_ok x (in_question Shut a inside))
    at_put (Split common column at) a inside old =
        let put : SplitPut p s past = record {
          seat = seat;
          id = k;
          found = found;
          low =
              low;
          common = common;
          column = column;
          at = at;
          may = a;
        } in
        let q = in_question (Split common column at) a inside in
        let above : low ≤ℤ value_of p x = a.sound.low_ok x q in
        let low_is : int_max (node_at p past k).low low ≤ℤ value_of p x =
        omega (arith, ints, clamps, above, old) in
        let by : (n : ℕ) (d : Decision) → IsMade p s past put n d → Meets x d
        → Covered p (with_split put) x = λ n d made m.
        covered_child p s past put n d l x made inside (a.sound.next_ok.meets x q) m low_is in
        elim (sides_cover x column at) [
          | inl m ↦ by (length (nodes_of p past)) (left_decision put) (left_made p s past put) m
          | inr m ↦ by (length (nodes_of p past) + 1) (right_decision put)
              (right_made p s past put) m
        ]

pub covered : (p : Program) (s : Settings) (past : List Entry) → pos 0 ≤ℤ s.gap
    → IsLegalPast p s past → (x : List ℤ) → IsFeasible p x → AllCovered p s x past
covered p s past g l x f =
    each_past p s (AllCovered p s x)
    (λ b. record {
      id = 0;
      born = omega arith;
      leaf = refl;
      inside = (f.box, tt);
      low =
          trivial_bound-below p (own_lows p) (own_highs p) x f.box;
    })
    (covered_step p s x g f) past l

pub leaf_live : (t : State) → is_leaf t ≡ true → is_live_in t true ≡ true
leaf_live waiting l = refl
leaf_live (out seat) l = refl
leaf_live split l = l
leaf_live shut l = l
leaf_live freed l = l

pub live_leaf : (t : State) (b : Bool) → is_live_in t b ≡ true → is_leaf t ≡ true
live_leaf waiting b l = refl
live_leaf (out seat) b l = refl
live_leaf split b l = l
live_leaf shut b l = l
live_leaf freed b l = l

pub lies_somewhere : (p : Program) (s : Settings) (past : List Entry) → pos 0 ≤ℤ s.gap
    → IsLegalPast p s past → (x : List ℤ) → IsFeasible p x
    → is_below (value_of p x) (cutoff_for p s past) ≡ true → (id : ℕ) × LiesIn p s past x id
lies_somewhere p s past g l x f b =
    let c = covered p s past g l x f b in
    let opened : is_open p s past c.id ≡ true = leaf_open p s past c.id x c.inside c.low b in (
      c.id,
      record {
        held = record {
          born = c.born;
          live =
              rw opened (leaf_live (state_of past c.id) c.leaf);
          inside = c.inside;
        };
        low = c.low;
      },
    )

pub lies_once : (p : Program) (s : Settings) (past : List Entry) → IsLegalPast p s past
    → (x : List ℤ) (i j : ℕ) → IsHeldBy p s past x i → IsHeldBy p s past x j → i ≡ j
lies_once p s past l x i j a b =
    leaves_apart p s past l x i j a.born b.born (live_leaf (state_of past i) (is_open p s past i)
    a.live) (live_leaf (state_of past j) (is_open p s past j) b.live) a.inside b.inside
