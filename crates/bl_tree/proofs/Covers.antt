-- The candidates stay candidates.
use Rattle.std.proofs.Common.{◌≡◌, ℕ, ◌+◌, ◌<◌, ◌≤◌, ◌%◌, List, ◌∷◌, length, refl, ap, sym, ◌∙◌}
use Rattle.std.proofs.Common.{arith, Bool, true, false, cond, not, Some, None, Option, inl, inr}
use Rattle.std.specs.Prelude.{◌==◌, ◌||◌, ◌&&◌, ℤ, int_lt}
use Rattle.std.specs.List.{list_all}
use Rattle.std.proofs.lemmas.Bool.{cases_eq, cases_lt, eq-eqb, ne_eqb, eqb-true, cond-true}
use Rattle.std.proofs.lemmas.Bool.{cond-false, true≢false, and_parts, or_cases, or_left, or_right}
use Rattle.std.proofs.lemmas.List.Sums.{length-filter}
use Rattle.bl_mods.specs.Mods.{is_among}
use Rattle.bl_problem.specs.Program.{Program}
use Rattle.bl_problem.specs.Points.{value_of}
use Rattle.bl_desc.specs.declared.desc.Form.{Form}
use Rattle.bl_desc.specs.declared.desc.Form.TheVariants.{Explicit}
use Rattle.bl_journal.specs.declared.entry.Entry.{Entry}
use Rattle.bl_journal.specs.declared.entry.Entry.TheVariants.{Take, Put, Back, Encode, Free}
use Rattle.bl_journal.specs.declared.entry.Step.{Step}
use Rattle.bl_journal.specs.declared.entry.Step.TheVariants.{Shut, Split}
use Rattle.bl_journal.specs.declared.settings.Settings.{Settings}
use Rattle.bl_journal.specs.Births.{Node, nodes_of, node_at, root_node}
use Rattle.bl_journal.specs.Descriptions.{full_of, full_along}
use Rattle.bl_journal.specs.States.{state_of, put_state, form_of, encoded_form, is_spanned}
use Rattle.bl_journal.specs.States.{is_open, is_below, has_point, best_of, best_with, value_if}
use Rattle.bl_journal.specs.States.{value_less, Found}
use Rattle.bl_journal.specs.declared.state.State.{State}
use Rattle.bl_journal.specs.declared.state.State.TheVariants.{Waiting as waiting, Out as out}
use Rattle.bl_journal.specs.declared.state.State.TheVariants.{Split as split, Shut as shut}
use Rattle.bl_journal.specs.declared.state.State.TheVariants.{Freed as freed}
use Rattle.bl_journal.specs.Replies.{ids_of, ids_below, is_waiting, take_reply, gives}
use Rattle.bl_journal.specs.Pieces.{is_freed}
use Rattle.bl_journal.specs.Freeing.{is_parent, is_explicit, lets_go, is_over, is_freeable}
use Rattle.bl_journal.specs.Freeing.{standing_of}
use Rattle.bl_journal.proofs.Growth.{get_or-grown, length-grown}
use Rattle.bl_journal.proofs.Leaves.{state_kept, is_waiting-is}
use Rattle.bl_journal.proofs.Living.{take_gives}
use Rattle.bl_journal.proofs.Sums.{one_if, total, total-change, sum_ids}
use Rattle.bl_tree.specs.Records.{IsCandidate, improves}
use Rattle.bl_tree.proofs.Goes.{all_ids, ids_all}

-- each node that may be freed is a candidate
abbrev pub IsCovered : Program → Settings → List Entry → (ℕ → Bool) → Bool → Type 0
IsCovered p s past candidates fell = (id : ℕ) → id < length (nodes_of p past)
    → is_freeable p s past id ≡ true → IsCandidate candidates fell past id

-- what may be freed now could be freed before, where each of its parts could
pub freeable_before : (p : Program) (s : Settings) (past past' : List Entry) (q : ℕ)
    → length (nodes_of p past) ≤ length (nodes_of p past')
    → (is_over (state_of past' q) (is_open p s past' q) ≡ true
    → is_over (state_of past q) (is_open p s past q) ≡ true)
    → ((c : ℕ) → c < length (nodes_of p past) → lets_go p s past' q c ≡ true
    → lets_go p s past q c ≡ true)
    → is_freeable p s past' q ≡ true → is_freeable p s past q ≡ true
freeable_before p s past past' q longer over goes f =
    let parts = and_parts (is_over (state_of past' q) (is_open p s past' q))
    (list_all (lets_go p s past' q) (ids_of p past')) f in
    ap (λ (t : Bool). t && list_all (lets_go p s past q) (ids_of p past)) (over parts.0)
    ∙ all_ids (lets_go p s past q) (length (nodes_of p past))
    (λ c b. goes c b (ids_all (lets_go p s past' q) (length (nodes_of p past')) parts.1 c
    (omega (arith, b, longer))))

-- a candidate whose state stays is one still
pub candidate_stays : (cs cs' : ℕ → Bool) (fell fell' : Bool) (past past' : List Entry) (q : ℕ)
    → (cs q ≡ true → cs' q ≡ true) → (fell ≡ true → fell' ≡ true) → state_of past' q
    ≡ state_of past q
    → IsCandidate cs fell past q → IsCandidate cs' fell' past' q
candidate_stays cs cs' fell fell' past past' q more falls same h =
    elim (or_cases (cs q) (fell && is_waiting (state_of past q)) h) [
      | inl a ↦ or_left (cs' q) (fell' && is_waiting (state_of past' q)) (more a)
      | inr b ↦
          let parts = and_parts fell (is_waiting (state_of past q)) b in
          or_right (cs' q) (fell' && is_waiting (state_of past' q))
          (ap (λ (t : Bool). t && is_waiting (state_of past' q)) (falls parts.0)
          ∙ (ap is_waiting same ∙ parts.1))
    ]

listed : (cs : ℕ → Bool) (fell : Bool) (past : List Entry) (q : ℕ) → cs q ≡ true
    → IsCandidate cs fell past q
listed cs fell past q a = or_left (cs q) (fell && is_waiting (state_of past q)) a

-- the same of a child, where it is freed exactly where it was, and its form stays
child_goes : (p : Program) (s : Settings) (past past' : List Entry) (q c : ℕ) → node_at p past' c
    ≡ node_at p past c → is_freed (state_of past' c) ≡ is_freed (state_of past c)
    → form_of p s past' c ≡ form_of p s past c
    → lets_go p s past' q c ≡ true → lets_go p s past q c ≡ true
child_goes p s past past' q c node as_before form g =
    ap (λ (n : Node). not (is_parent n.parent q) || is_freed (state_of past c)
    || is_explicit (form_of p s past c)) (sym node)
    ∙ (ap (λ (t : Bool). not (is_parent (node_at p past' c).parent q) || t
    || is_explicit (form_of p s past c)) (sym as_before)
    ∙ (ap (λ (f : Form). not (is_parent (node_at p past' c).parent q)
    || is_freed (state_of past' c) || is_explicit f) (sym form) ∙ g))

over_same_state : (t t' : State) (b : Bool) → t' ≡ t → is_over t' b ≡ true → is_over t b ≡ true
over_same_state t t' b e h = ap (λ (u : State). is_over u b) (sym e) ∙ h

pub covered_take : (p : Program) (s : Settings) (past : List Entry) (cs : ℕ → Bool) (fell : Bool)
    (seat id : ℕ) → take_reply p s past ≡ gives id → IsCovered p s past cs fell
    → IsCovered p s (Take seat id ∷ past) cs fell
covered_take p s past cs fell seat id t k q b f =
    elim (cases_eq q id) [
      | inl same ↦
          let over = (and_parts (is_over (state_of (Take seat id ∷ past) q) (is_open p s past q))
          (list_all (lets_go p s (Take seat id ∷ past) q) (ids_of p past)) f).0 in
          let now : state_of (Take seat id ∷ past) q ≡ out seat =
          cond-true (id == q) (out seat) (state_of past q) (eq-eqb id q (sym same)) in
          absurd (true≢false (sym over ∙ ap (λ (u : State). is_over u (is_open p s past q)) now))
      | inr other ↦
          let stays : state_of (Take seat id ∷ past) q ≡ state_of past q =
          state_kept q id (state_of past q) (out seat) (λ e. other (sym e)) in
          candidate_stays cs cs fell fell past (Take seat id ∷ past) q (λ a. a) (λ a. a) stays
          (k q b (freeable_before p s past (Take seat id ∷ past) q (omega arith)
          (over_same_state (state_of past q) (state_of (Take seat id ∷ past) q)
          (is_open p s past q) stays)
          (λ c d. child_goes p s past (Take seat id ∷ past) q c refl (free_as c) refl) f))
    ]
  where
    was : is_freed (state_of past id) ≡ false
    was = ap is_freed (is_waiting-is (state_of past id) (take_gives p s past id t).waits)

    free_as : (c : ℕ) → is_freed (state_of (Take seat id ∷ past) c) ≡ is_freed (state_of past c)
    free_as c =
        elim (cases_eq c id) [
          | inl same ↦ ap is_freed (cond-true (id == c) (out seat) (state_of past c)
              (eq-eqb id c (sym same)))
              ∙ sym (ap (λ (m : ℕ). is_freed (state_of past m)) same ∙ was)
          | inr other ↦ ap is_freed
              (state_kept c id (state_of past c) (out seat) (λ e. other (sym e)))
        ]

pub covered_back : (p : Program) (s : Settings) (past : List Entry) (cs cs' : ℕ → Bool)
    (fell : Bool) (seat id : ℕ) → state_of past id ≡ out seat
    → ((q : ℕ) → cs q ≡ true → cs' q ≡ true) → cs' id ≡ true
    → IsCovered p s past cs fell → IsCovered p s (Back seat id ∷ past) cs' fell
covered_back p s past cs cs' fell seat id o more here k q b f =
    elim (cases_eq q id) [
      | inl same ↦ listed cs' fell (Back seat id ∷ past) q (ap cs' same ∙ here)
      | inr other ↦
          let stays : state_of (Back seat id ∷ past) q ≡ state_of past q =
          state_kept q id (state_of past q) waiting (λ e. other (sym e)) in
          candidate_stays cs cs' fell fell past (Back seat id ∷ past) q (more q) (λ a. a) stays
          (k q b (freeable_before p s past (Back seat id ∷ past) q (omega arith)
          (over_same_state (state_of past q) (state_of (Back seat id ∷ past) q)
          (is_open p s past q) stays)
          (λ c d. child_goes p s past (Back seat id ∷ past) q c refl (free_as c) refl) f))
    ]
  where
    free_as : (c : ℕ) → is_freed (state_of (Back seat id ∷ past) c) ≡ is_freed (state_of past c)
    free_as c =
        elim (cases_eq c id) [
          | inl same ↦ ap is_freed (cond-true (id == c) waiting (state_of past c)
              (eq-eqb id c (sym same)))
              ∙ sym (ap (λ (m : ℕ). is_freed (state_of past m)) same ∙ ap is_freed o)
          | inr other ↦ ap is_freed (state_kept c id (state_of past c) waiting (λ e. other (sym e)))
        ]

-- the best point stays where the found one is no better
best_stays : (p : Program) (o : Option Found) (found : Option (List ℤ))
    → improves p (value_if o) found ≡ false → best_with p o found ≡ o
best_stays p None None h = refl
best_stays p (Some b) None h = refl
best_stays p None (Some x) h = absurd (true≢false h)
best_stays p (Some b) (Some x) h = cond-false (int_lt (value_of p x) b.value)
    (Some (record { value = value_of p x; point = x })) (Some b) h

-- a put: its node and its new nodes are listed; and where the found point is better, the best
-- value fell
pub covered_put : (p : Program) (s : Settings) (past : List Entry) (cs cs' : ℕ → Bool)
    (fell : Bool) (best : Option ℤ) (seat id : ℕ) (found : Option (List ℤ)) (low : ℤ) (next : Step)
    → state_of past id ≡ out seat → best ≡ value_if (best_of p past)
    → ((q : ℕ) → cs q ≡ true → cs' q ≡ true) → cs' id ≡ true
    → ((q : ℕ) → length (nodes_of p past) ≤ q → q
    < length (nodes_of p (Put seat id found low next ∷ past)) → cs' q ≡ true)
    → IsCovered p s past cs fell → IsCovered p s (Put seat id found low next ∷ past) cs'
    (fell || improves p best found)
covered_put p s past cs cs' fell best seat id found low next o b more here born k q h f =
    elim (cases_lt q (length (nodes_of p past))) [
      | inr late ↦ listed cs' (fell || improves p best found) (Put seat id found low next ∷ past)
          q (born q late h)
      | inl early ↦
          elim (cases_eq q id) [
            | inl same ↦ listed cs' (fell || improves p best found)
                (Put seat id found low next ∷ past) q (ap cs' same ∙ here)
            | inr other ↦ old early other (improves p best found) refl
          ]
    ]
  where
    longer : length (nodes_of p past) ≤ length (nodes_of p (Put seat id found low next ∷ past))
    longer = length-grown p (nodes_of p past) (Put seat id found low next)

    same_node : (c : ℕ) → c < length (nodes_of p past)
        → node_at p (Put seat id found low next ∷ past) c ≡ node_at p past c
    same_node c d = get_or-grown p (nodes_of p past) (Put seat id found low next) (root_node p) c d

    put_not_freed : (n : Step) → is_freed (put_state n) ≡ false
    put_not_freed Shut = refl
    put_not_freed (Split common column at) = refl

    free_as : (c : ℕ) → is_freed (state_of (Put seat id found low next ∷ past) c)
        ≡ is_freed (state_of past c)
    free_as c =
        elim (cases_eq c id) [
          | inl same ↦ ap is_freed (cond-true (id == c) (put_state next) (state_of past c)
              (eq-eqb id c (sym same))) ∙ (put_not_freed next
              ∙ sym (ap (λ (m : ℕ). is_freed (state_of past m)) same ∙ ap is_freed o))
          | inr other ↦ ap is_freed
              (state_kept c id (state_of past c) (put_state next) (λ e. other (sym e)))
        ]

    form_as : (c : ℕ) → c < length (nodes_of p past)
        → form_of p s (Put seat id found low next ∷ past) c ≡ form_of p s past c
    form_as c d = ap (λ (n : Node). cond (n.depth % s.span == 0) Explicit (encoded_form past c))
        (same_node c d)

    same_open : q < length (nodes_of p past) → improves p best found ≡ false
        → is_open p s (Put seat id found low next ∷ past) q ≡ is_open p s past q
    same_open early worse =
        let none : best_with p (best_of p past) found ≡ best_of p past =
        best_stays p (best_of p past) found (ap (λ (v : Option ℤ). improves p v found) (sym b)
        ∙ worse) in
        ap (λ (n : Node). has_point (full_along p n.path).lows (full_along p n.path).highs
        && is_below n.low (value_less s.gap (best_with p (best_of p past) found)))
        (same_node q early)
        ∙ ap (λ (f : Option Found). has_point (full_of p past q).lows (full_of p past q).highs
        && is_below (node_at p past q).low (value_less s.gap f)) none

    any_open : (t : State) (a b : Bool) → is_waiting t ≡ false → is_over t a ≡ true → is_over t b
        ≡ true
    any_open waiting a b w h = absurd (true≢false w)
    any_open (out seat) a b w h = h
    any_open split a b w h = refl
    any_open shut a b w h = refl
    any_open freed a b w h = h

    freeable_then : q < length (nodes_of p past) → (q ≡ id → ⊥)
        → (is_over (state_of past q) (is_open p s (Put seat id found low next ∷ past) q) ≡ true
        → is_over (state_of past q) (is_open p s past q) ≡ true) → is_freeable p s past q ≡ true
    freeable_then early other over =
        let stays : state_of (Put seat id found low next ∷ past) q ≡ state_of past q =
        state_kept q id (state_of past q) (put_state next) (λ e. other (sym e)) in
        freeable_before p s past (Put seat id found low next ∷ past) q longer
        (λ g. over (over_same_state (state_of past q)
        (state_of (Put seat id found low next ∷ past) q)
        (is_open p s (Put seat id found low next ∷ past) q) stays g))
        (λ c d. child_goes p s past (Put seat id found low next ∷ past) q c (same_node c d)
        (free_as c) (form_as c d)) f

    kept : q < length (nodes_of p past) → (q ≡ id → ⊥) → is_freeable p s past q ≡ true
        → IsCandidate cs' (fell || improves p best found) (Put seat id found low next ∷ past) q
    kept early other g =
        candidate_stays cs cs' fell (fell || improves p best found) past
        (Put seat id found low next ∷ past) q (more q) (or_left fell (improves p best found))
        (state_kept q id (state_of past q) (put_state next) (λ e. other (sym e))) (k q early g)

    by_waiting : q < length (nodes_of p past) → (q ≡ id → ⊥) → improves p best found ≡ true
        → (t : Bool) → is_waiting (state_of past q) ≡ t
        → IsCandidate cs' (fell || improves p best found) (Put seat id found low next ∷ past) q
    by_waiting early other better true w =
        or_right (cs' q) ((fell || improves p best found)
        && is_waiting (state_of (Put seat id found low next ∷ past) q))
        (ap (λ (t : Bool). t && is_waiting (state_of (Put seat id found low next ∷ past) q))
        (or_right fell (improves p best found) better)
        ∙ (ap is_waiting (state_kept q id (state_of past q) (put_state next) (λ e. other (sym e)))
        ∙ w))
    by_waiting early other better false w =
        kept early other (freeable_then early other
        (any_open (state_of past q) (is_open p s (Put seat id found low next ∷ past) q)
        (is_open p s past q) w))

    old : q < length (nodes_of p past) → (q ≡ id → ⊥) → (t : Bool) → improves p best found ≡ t
        → IsCandidate cs' (fell || improves p best found) (Put seat id found low next ∷ past) q
    old early other true better = by_waiting early other better (is_waiting (state_of past q)) refl
    old early other false worse = kept early other
        (freeable_then early other
        (λ g. ap (is_over (state_of past q)) (sym (same_open early worse)) ∙ g))

-- the two new nodes are listed
pub two_listed : (cs : ℕ → Bool) (n q : ℕ) → cs n ≡ true → cs (n + 1) ≡ true → n ≤ q → q < n + 2
    → cs q ≡ true
two_listed cs n q here next lo hi = elim (cases_eq q n) [
  | inl e ↦ ap cs e ∙ here
  | inr ne ↦ let e : q ≡ n + 1 = omega (arith, ne, lo, hi) in ap cs e ∙ next
]

-- another form of a node: its parent is listed
pub covered_encode : (p : Program) (s : Settings) (past : List Entry) (cs cs' : ℕ → Bool)
    (fell : Bool) (seat id : ℕ) (form : Form)
    → ((q : ℕ) → cs q ≡ true → cs' q ≡ true)
    → ((q : ℕ) → (node_at p past id).parent ≡ Some q → cs' q ≡ true)
    → IsCovered p s past cs fell → IsCovered p s (Encode seat id form ∷ past) cs' fell
covered_encode p s past cs cs' fell seat id form more parents k q b f =
    by_parent (is_parent (node_at p past id).parent q) refl
  where
    is_some : (o : Option ℕ) → is_parent o q ≡ true → o ≡ Some q
    is_some None h = absurd (true≢false (sym h))
    is_some (Some i) h = ap Some (eqb-true i q h)

    goes : is_parent (node_at p past id).parent q ≡ false → (c : ℕ)
        → lets_go p s (Encode seat id form ∷ past) q c ≡ true → lets_go p s past q c ≡ true
    goes not_parent c g =
        elim (cases_eq c id) [
          | inl same ↦
              ap (λ (t : Bool). not t || is_freed (state_of past c)
              || is_explicit (form_of p s past c))
              (ap (λ (m : ℕ). is_parent (node_at p past m).parent q) same ∙ not_parent)
          | inr other ↦
              child_goes p s past (Encode seat id form ∷ past) q c refl refl
              (ap (λ (g : Form). cond (is_spanned p s past c) Explicit g)
              (cond-false (id == c) form (encoded_form past c)
              (ne_eqb id c (λ e. other (sym e))))) g
        ]

    by_parent : (t : Bool) → is_parent (node_at p past id).parent q ≡ t
        → IsCandidate cs' fell (Encode seat id form ∷ past) q
    by_parent true h = listed cs' fell (Encode seat id form ∷ past) q
        (parents q (is_some (node_at p past id).parent h))
    by_parent false h =
        candidate_stays cs cs' fell fell past (Encode seat id form ∷ past) q (more q) (λ a. a) refl
        (k q b (freeable_before p s past (Encode seat id form ∷ past) q (omega arith) (λ g. g)
        (λ c d. goes h c) f))

-- after a free what may be freed could be freed before
pub covered_free : (p : Program) (s : Settings) (past : List Entry) (cs : ℕ → Bool) (fell : Bool)
    (seat : ℕ) (ids : List ℕ)
    → ((q : ℕ) → q < length (nodes_of p past) → is_freeable p s (Free seat ids ∷ past) q ≡ true
    → is_freeable p s past q ≡ true)
    → IsCovered p s past cs fell → IsCovered p s (Free seat ids ∷ past) cs fell
covered_free p s past cs fell seat ids before k q b f =
    candidate_stays cs cs fell fell past (Free seat ids ∷ past) q (λ a. a) (λ a. a)
    (stays (is_among q ids) refl) (k q b (before q b f))
  where
    over : is_over (state_of (Free seat ids ∷ past) q) (is_open p s past q) ≡ true
    over = (and_parts (is_over (state_of (Free seat ids ∷ past) q) (is_open p s past q))
        (list_all (lets_go p s (Free seat ids ∷ past) q) (ids_of p past)) f).0

    stays : (t : Bool) → is_among q ids ≡ t → state_of (Free seat ids ∷ past) q ≡ state_of past q
    stays true a =
        let now : state_of (Free seat ids ∷ past) q ≡ freed =
        cond-true (is_among q ids) freed (state_of past q) a in
        absurd (true≢false (sym over ∙ ap (λ (u : State). is_over u (is_open p s past q)) now))
    stays false a = cond-false (is_among q ids) freed (state_of past q) a

-- fewer nodes stand after a free
pub fewer_stand : (p : Program) (past : List Entry) (seat id : ℕ) (ids : List ℕ) → id
    < length (nodes_of p past) → is_freed (state_of past id) ≡ false
    → standing_of p (Free seat (id ∷ ids) ∷ past) < standing_of p past
fewer_stand p past seat id ids born stands =
    let n : ℕ = length (nodes_of p past) in
    let change = total-change before after n id born (λ k b ne. less k) in
    let one : before id ≡ 1 = ap (λ (t : Bool). one_if (not t)) stands in
    let none : after id ≡ 0 = ap (λ (u : State). one_if (not (is_freed u)))
    (cond-true (is_among id (id ∷ ids)) freed (state_of past id)
    (or_left (id == id) (is_among id ids) (eq-eqb id id refl))) in
    let a : standing_of p past ≡ total before n =
    length-filter (λ (k : ℕ). not (is_freed (state_of past k))) (ids_below n)
    ∙ sum_ids before n in
    let b : standing_of p (Free seat (id ∷ ids) ∷ past) ≡ total after n =
    length-filter (λ (k : ℕ). not (is_freed (state_of (Free seat (id ∷ ids) ∷ past) k)))
    (ids_below n) ∙ sum_ids after n in
    omega (arith, change, one, none, a, b)
  where
    before : ℕ → ℕ
    before k = one_if (not (is_freed (state_of past k)))

    after : ℕ → ℕ
    after k = one_if (not (is_freed (state_of (Free seat (id ∷ ids) ∷ past) k)))

    less : (k : ℕ) → one_if (not (is_freed (state_of (Free seat (id ∷ ids) ∷ past) k)))
        ≤ one_if (not (is_freed (state_of past k)))
    less k = by_test (is_among k (id ∷ ids)) (state_of past k)
      where
        by_test : (t : Bool) (u : State) → one_if (not (is_freed (cond t freed u)))
            ≤ one_if (not (is_freed u))
        by_test true u = omega arith
        by_test false u = omega arith
