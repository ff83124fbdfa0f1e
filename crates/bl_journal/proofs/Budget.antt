-- In a legal history the takes so far and those that may still come are bounded by the number of
-- points.
use Rattle.std.proofs.Common.{◌≡◌, ℕ, ◌+◌, ◌-◌, ◌*◌, ◌<◌, ◌≤◌, List, [], ◌∷◌, length, refl, ap}
use Rattle.std.proofs.Common.{sym, ◌∙◌, subst, arith, length-append, Bool, true, false, cond}
use Rattle.std.proofs.Common.{Option, inl, inr}
use Rattle.std.specs.Prelude.{◌==◌, ◌&&◌, ℤ, ◌≤ℤ◌, int_le, slice_set}
use Rattle.std.proofs.lemmas.Int.{ints}
use Rattle.std.proofs.lemmas.Bool.{and_parts, and_from, cases_Bool, cond-true, eq-eqb}
use Rattle.std.proofs.lemmas.List.{length-map}
use Rattle.std.proofs.Math.Nat.{mul-pos}
use Rattle.bl_mods.specs.Mods.{is_among}
use Rattle.bl_problem.specs.Program.{Program}
use Rattle.bl_problem.specs.Points.{own_lows, own_highs, points_in}
use Rattle.bl_problem.specs.Decisions.{Box, narrowed_all}
use Rattle.bl_problem.specs.declared.cut.Cut.{Cut}
use Rattle.bl_problem.specs.declared.decision.Decision.{Decision}
use Rattle.bl_problem.proofs.Counts.{width-pos, points_in-narrowed, AreHalves, points_in-halves}
use Rattle.bl_problem.proofs.Counts.{length-narrowed}
use Rattle.bl_desc.specs.declared.desc.Desc.{Desc}
use Rattle.bl_desc.specs.Changes.{changed}
use Rattle.bl_journal.specs.declared.entry.Entry.{Entry}
use Rattle.bl_journal.specs.declared.entry.Entry.TheVariants.{Take, Put, Back, Encode, Free}
use Rattle.bl_journal.specs.declared.entry.Step.{Step}
use Rattle.bl_journal.specs.declared.entry.Step.TheVariants.{Shut, Split}
use Rattle.bl_journal.specs.Soundness.{SplitsWell, cutoff_with, decisions_of}
use Rattle.bl_journal.specs.declared.settings.Settings.{Settings}
use Rattle.bl_journal.specs.Births.{Node, Branch, nodes_of, node_at, root_node, IsBorn}
use Rattle.bl_journal.specs.Descriptions.{full_of, full_along, box_along, decisions_along}
use Rattle.bl_journal.specs.States.{state_of, put_state, is_open, is_live, is_live_in, is_below}
use Rattle.bl_journal.specs.States.{cutoff_for, best_of, has_point, used_of, cutoff_of}
use Rattle.bl_journal.specs.declared.state.State.{State}
use Rattle.bl_journal.specs.declared.state.State.TheVariants.{Waiting as waiting, Out as out}
use Rattle.bl_journal.specs.declared.state.State.TheVariants.{Split as split, Shut as shut}
use Rattle.bl_journal.specs.declared.state.State.TheVariants.{Freed as freed}
use Rattle.bl_journal.specs.Replies.{is_out}
use Rattle.bl_journal.specs.Results.{node_points, share_in, room_of}
use Rattle.bl_journal.specs.Legality.{IsAllowed, IsLegalPast, SplitPut, with_split}
use Rattle.bl_journal.specs.Laws.{IsUnused}
use Rattle.bl_journal.proofs.Growth.{get_or-grown}
use Rattle.bl_journal.proofs.Living.{take_gives, each_past}
use Rattle.bl_journal.proofs.Leaves.{by_test, is_waiting-is, shape, out_born, state_kept}
use Rattle.bl_journal.proofs.Induction.{child_by}
use Rattle.bl_journal.proofs.Cutoffs.{below_before}
use Rattle.bl_journal.proofs.Children.{box_common, box_of, bound_set}
use Rattle.bl_journal.proofs.Births.{IsMade, left_decision, right_decision, left_made, right_made}
use Rattle.bl_journal.proofs.Births.{child_follows}
use Rattle.bl_journal.proofs.Sums.{one_if, total, sum_ids, total-le, total-at, total-change}
use Rattle.bl_journal.proofs.Sums.{total-two}

pub has_point-points : (lows highs : List ℤ) → has_point lows highs ≡ true → 0
    < points_in lows highs
has_point-points [] highs e = omega arith
has_point-points (l ∷ lows) [] e = omega arith
has_point-points (l ∷ lows) (h ∷ highs) e =
    let parts = and_parts (int_le l h) (has_point lows highs) e in
    let i : l ≤ℤ h = grind (arith, ints, parts.0) in
    mul-pos (width-pos l h i) (has_point-points lows highs parts.1)

-- each node has at most the points of the root
pub node_points-le : (p : Program) (past : List Entry) (id : ℕ) → node_points p past id
    ≤ points_in (own_lows p) (own_highs p)
node_points-le p past id = points_in-narrowed (record { lows = own_lows p; highs = own_highs p })
    (decisions_along (node_at p past id).path)

pub length-box_along : (p : Program) (branches : List Branch)
    → (length (box_along p branches).lows ≡ length p.columns)
    × (length (box_along p branches).highs ≡ length p.columns)
length-box_along p branches =
    let n = length-narrowed (record { lows = own_lows p; highs = own_highs p })
    (decisions_along branches) in
    (n.0 ∙ length-map p.columns (λ c. c.low), n.1 ∙ length-map p.columns (λ c. c.high))

-- the points of the two children of a sound split are halves of a box with no more points than
-- the node
pub record SplitPoints (p : Program) (s : Settings) (past : List Entry)
    (put : SplitPut p s past) : Type 0 where
  pub whole : ℕ
  pub halves : AreHalves (node_points p (with_split put) (length (nodes_of p past)))
      (node_points p (with_split put) (length (nodes_of p past) + 1)) whole
  pub fewer : whole ≤ node_points p past put.id

pub split_points : (p : Program) (s : Settings) (past : List Entry) (put : SplitPut p s past)
    → SplitPoints p s past put
split_points p s past put =
    record {
      whole = points_in c.lows c.highs;
      halves = subst (λ (n : ℕ). AreHalves n
          (node_points p (with_split put) (length (nodes_of p past) + 1))
          (points_in c.lows c.highs))
          (sym (points_by (length (nodes_of p past)) (left_decision put) (left_made p s past put)))
          (subst (λ (n : ℕ). AreHalves (points_in c.lows (slice_set c.highs put.column put.at)) n
          (points_in c.lows c.highs))
          (sym (points_by (length (nodes_of p past) + 1) (right_decision put)
          (right_made p s past put)))
          (points_in-halves c.lows c.highs put.column put.at within (lens.1 ∙ sym lens.0)
          sw.low_at_most sw.below_high));
      fewer = subst (λ (b : Box). points_in b.lows b.highs ≤ node_points p past put.id) boxed
          (points_in-narrowed above (decisions_of put.common));
    }
  where
    sw : SplitsWell p (full_of p past put.id)
        (cutoff_with p (cutoff_of p s past put.id) put.found) put.common put.column put.at
    sw = put.may.sound.next_ok

    above : Box
    above = box_along p (node_at p past put.id).path

    c : Desc Cut
    c = changed put.common (full_of p past put.id)

    boxed : narrowed_all (box_along p (node_at p past put.id).path) (decisions_of put.common)
        ≡ box_of (changed put.common (full_of p past put.id))
    boxed = box_common p (node_at p past put.id).path put.common sw.common_fits

    lens : (length (changed put.common (full_of p past put.id)).lows ≡ length p.columns)
        × (length (changed put.common (full_of p past put.id)).highs ≡ length p.columns)
    lens =
        let n = length-narrowed above (decisions_of put.common) in
        let b = length-box_along p (node_at p past put.id).path in (
          ap (λ (x : Box). length x.lows) (sym boxed)
              ∙ (n.0 ∙ b.0),
          ap (λ (x : Box). length x.highs) (sym boxed) ∙ (n.1 ∙ b.1),
        )

    within : put.column < length (changed put.common (full_of p past put.id)).lows
    within =
        let a : put.column < length (full_of p past put.id).lows = sw.column_in in
        let b : length (full_of p past put.id).lows ≡ length p.columns =
        (length-box_along p (node_at p past put.id).path).0 in
        let d : length (changed put.common (full_of p past put.id)).lows ≡ length p.columns =
        lens.0 in
        omega (arith, a, b, d)

    points_by : (k : ℕ) (d : Decision) → IsMade p s past put k d
        → node_points p (with_split put) k
        ≡ points_in (bound_set d.side (changed put.common (full_of p past put.id)) d.column
        d.value).lows (bound_set d.side (changed put.common (full_of p past put.id)) d.column
        d.value).highs
    points_by k d made = ap (λ (x : Desc Cut). points_in x.lows x.highs)
        (child_follows p s past put k d made)

-- what a node counts for, by its state, whether it is open, and its points
abbrev weigh : (State → Bool → ℕ → ℕ) → Program → Settings → List Entry → ℕ → ℕ
weigh w p s past id = w (state_of past id) (is_open p s past id) (node_points p past id)

-- it counts for less where it is no longer open, and for nothing where it is put or freed
record Counts (w : State → Bool → ℕ → ℕ) : Type 0 where
  falls : (st : State) (b b' : Bool) (n : ℕ) → (b' ≡ true → b ≡ true) → w st b' n ≤ w st b n
  put : (next : Step) (b : Bool) (n : ℕ) → w (put_state next) b n ≡ 0
  gone : (b : Bool) (n : ℕ) → w freed b n ≡ 0

-- a node that was born and keeps its state counts for no more after an entry
other_falls : (w : State → Bool → ℕ → ℕ) → Counts w
    → (p : Program) (s : Settings) (past : List Entry) (e : Entry) (k : ℕ) → IsBorn p past k
    → state_of (e ∷ past) k ≡ state_of past k
    → weigh w p s (e ∷ past) k ≤ weigh w p s past k
other_falls w c p s past e k born same =
    let new : List Entry = e ∷ past in
    let node : node_at p new k ≡ node_at p past k =
    get_or-grown p (nodes_of p past) e (root_node p) k born in
    let points : node_points p new k ≡ node_points p past k =
    ap (λ (n : Node). points_in (full_along p n.path).lows (full_along p n.path).highs) node in
    let opens : is_open p s new k ≡ true → is_open p s past k ≡ true = λ h.
    let P : Node → Type 0 = λ n. (has_point (full_along p n.path).lows (full_along p n.path).highs
    && is_below n.low (cutoff_for p s new)) ≡ true in
    let parts = and_parts _ _ (subst P node h) in
    and_from _ _ parts.0 (below_before p s.gap (best_of p past) e (node_at p past k).low parts.1) in
    let a : weigh w p s new k ≡ w (state_of past k) (is_open p s new k) (node_points p past k) =
    ap (λ t. w t (is_open p s new k) (node_points p new k)) same
    ∙ ap (w (state_of past k) (is_open p s new k)) points in
    rw a (c.falls (state_of past k) (is_open p s past k) (is_open p s new k)
    (node_points p past k) opens)

-- an entry that gives one node another state
one_moves : (w : State → Bool → ℕ → ℕ) → Counts w → (p : Program) (s : Settings)
    (past : List Entry) (e : Entry) (i : ℕ) (st : State) → IsBorn p past i
    → ((k : ℕ) → state_of (e ∷ past) k ≡ cond (i == k) st (state_of past k))
    → total (weigh w p s (e ∷ past)) (length (nodes_of p past)) + weigh w p s past i
    ≤ total (weigh w p s past) (length (nodes_of p past))
    + w st (is_open p s (e ∷ past) i) (node_points p (e ∷ past) i)
one_moves w c p s past e i st born moves =
    let n : ℕ = length (nodes_of p past) in
    let change : total (weigh w p s (e ∷ past)) n + weigh w p s past i
    ≤ total (weigh w p s past) n + weigh w p s (e ∷ past) i =
    total-change (weigh w p s past) (weigh w p s (e ∷ past)) n i born
    (λ k b ne. other_falls w c p s past e k b
    (moves k ∙ state_kept k i (state_of past k) st (λ h. ne (sym h)))) in
    let now : weigh w p s (e ∷ past) i
    ≡ w st (is_open p s (e ∷ past) i) (node_points p (e ∷ past) i) =
    ap (λ t. w t (is_open p s (e ∷ past) i) (node_points p (e ∷ past) i))
    (moves i ∙ cond-true (i == i) st (state_of past i) (eq-eqb i i refl)) in
    omega (arith, change, now)

put_moves : (w : State → Bool → ℕ → ℕ) → Counts w
    → (p : Program) (s : Settings) (past : List Entry) (seat i : ℕ) (found : Option (List ℤ))
    (low : ℤ) (next : Step) → IsBorn p past i
    → total (weigh w p s (Put seat i found low next ∷ past)) (length (nodes_of p past))
    + weigh w p s past i ≤ total (weigh w p s past) (length (nodes_of p past))
put_moves w c p s past seat i found low next born =
    let e : Entry = Put seat i found low next in
    let n : ℕ = length (nodes_of p past) in
    let change : total (weigh w p s (e ∷ past)) n + weigh w p s past i
    ≤ total (weigh w p s past) n + w (put_state next) (is_open p s (e ∷ past) i)
    (node_points p (e ∷ past) i) =
    one_moves w c p s past e i (put_state next) born (λ k. refl) in
    let nothing : w (put_state next) (is_open p s (e ∷ past) i) (node_points p (e ∷ past) i) ≡ 0 =
    c.put next (is_open p s (e ∷ past) i) (node_points p (e ∷ past) i) in
    omega (arith, change, nothing)

frees_fall : (w : State → Bool → ℕ → ℕ) → Counts w
    → (p : Program) (s : Settings) (past : List Entry) (seat : ℕ) (ids : List ℕ)
    → total (weigh w p s (Free seat ids ∷ past)) (length (nodes_of p past))
    ≤ total (weigh w p s past) (length (nodes_of p past))
frees_fall w c p s past seat ids =
    total-le (weigh w p s past) (weigh w p s (Free seat ids ∷ past)) (length (nodes_of p past))
    (λ k b. by_test (λ (t : State). w t (is_open p s past k) (node_points p past k)
    ≤ weigh w p s past k) (is_among k ids) freed (state_of past k)
    (λ _. let none : w freed (is_open p s past k) (node_points p past k) ≡ 0 =
    c.gone (is_open p s past k) (node_points p past k) in omega (arith, none))
    (λ _. omega arith))

-- the two children of a split are waiting
children_count : (w : State → Bool → ℕ → ℕ) (p : Program) (s : Settings) (past : List Entry)
    (put : SplitPut p s past) → IsLegalPast p s past
    → total (weigh w p s (with_split put)) (length (nodes_of p (with_split put)))
    ≡ (total (weigh w p s (with_split put)) (length (nodes_of p past))
    + w waiting (is_open p s (with_split put) (length (nodes_of p past)))
    (node_points p (with_split put) (length (nodes_of p past))))
    + w waiting (is_open p s (with_split put) (length (nodes_of p past) + 1))
    (node_points p (with_split put) (length (nodes_of p past) + 1))
children_count w p s past put legal =
    let n : ℕ = length (nodes_of p past) in
    let new : List Entry = with_split put in
    let two = total-two (weigh w p s new) n (length (nodes_of p new))
    (length-append (nodes_of p past) (child_by put (left_decision put)
    ∷ child_by put (right_decision put) ∷ [])) in
    let a : weigh w p s new n ≡ w waiting (is_open p s new n) (node_points p new n) =
    ap (λ t. w t (is_open p s new n) (node_points p new n)) (waits n (omega arith)) in
    let b : weigh w p s new (n + 1) ≡ w waiting (is_open p s new (n + 1))
    (node_points p new (n + 1)) =
    ap (λ t. w t (is_open p s new (n + 1)) (node_points p new (n + 1)))
    (waits (n + 1) (omega arith)) in
    omega (arith, two, a, b)
  where
    waits : (k : ℕ) → length (nodes_of p past) ≤ k → state_of (with_split put) k ≡ waiting
    waits k h =
        let sh = shape p s past legal in
        let born : put.id < length (nodes_of p past) =
        out_born p past put.id put.seat sh put.may.is_out in
        state_kept k put.id (state_of past k) split (λ g. omega (arith, g, born, h)) ∙ sh.unborn k h

-- a node's part in the room
abbrev pub share : Program → Settings → List Entry → ℕ → ℕ
share p s past id = share_in (state_of past id) (is_open p s past id) (node_points p past id)

share-waiting : (b : Bool) (n : ℕ) → share_in waiting b n ≤ 2 * n - 1
share-waiting true n = omega arith
share-waiting false n = omega arith

share_counts : Counts share_in
share_counts = record { falls = falls; put = put; gone = λ b n. refl }
  where
    falls : (st : State) (b b' : Bool) (n : ℕ) → (b' ≡ true → b ≡ true) → share_in st b' n
        ≤ share_in st b n
    falls waiting b false n h = omega arith
    falls waiting b true n h = let e : b ≡ true = h refl in rw e (omega arith)
    falls (out seat) b b' n h = omega arith
    falls split b b' n h = omega arith
    falls shut b b' n h = omega arith
    falls freed b b' n h = omega arith

    put : (next : Step) (b : Bool) (n : ℕ) → share_in (put_state next) b n ≡ 0
    put Shut b n = refl
    put (Split common column at) b n = refl

abbrev pub out_one : List Entry → ℕ → ℕ
out_one past id = one_if (is_out (state_of past id))

-- 1 where the node is out
abbrev outs : State → Bool → ℕ → ℕ
outs st b n = one_if (is_out st)

outs_count : Counts outs
outs_count = record { falls = λ st b b' n h. omega arith; put = put; gone = λ b n. refl }
  where
    put : (next : Step) (b : Bool) (n : ℕ) → one_if (is_out (put_state next)) ≡ 0
    put Shut b n = refl
    put (Split common column at) b n = refl

abbrev outs_of : Program → List Entry → ℕ
outs_of p past = total (out_one past) (length (nodes_of p past))

-- the nodes that are out are at most the takes less the backs
pub outs_used : (p : Program) (s : Settings) (past : List Entry) → IsLegalPast p s past
    → outs_of p past ≤ used_of past
outs_used p s = each_past p s (λ past. outs_of p past ≤ used_of past) (omega arith) step
  where
    step : (past : List Entry) (e : Entry) → IsLegalPast p s past → IsAllowed p s past e
        → outs_of p past ≤ used_of past → outs_of p (e ∷ past) ≤ used_of (e ∷ past)
    step past (Take seat i) l a ih =
        let c : outs_of p (Take seat i ∷ past) + out_one past i ≤ outs_of p past + 1 =
        one_moves outs outs_count p s past (Take seat i) i (out seat)
        (take_gives p s past i a).born (λ k. refl) in
        omega (arith, ih, c)
    step past (Back seat i) l a ih =
        let c : outs_of p (Back seat i ∷ past) + out_one past i ≤ outs_of p past + 0 =
        one_moves outs outs_count p s past (Back seat i) i waiting
        (out_born p past i seat (shape p s past l) a) (λ k. refl) in
        let was : out_one past i ≡ 1 = ap (λ t. one_if (is_out t)) a in
        omega (arith, ih, c, was)
    step past (Encode seat i form) l a ih = ih
    step past (Free seat ids) l a ih = let c : outs_of p (Free seat ids ∷ past) ≤ outs_of p past =
        frees_fall outs outs_count p s past seat ids in omega (arith, ih, c)
    step past (Put seat i found low Shut) l a ih =
        let c : outs_of p (Put seat i found low Shut ∷ past) + out_one past i ≤ outs_of p past =
        put_moves outs outs_count p s past seat i found low Shut
        (out_born p past i seat (shape p s past l) a.is_out) in
        omega (arith, ih, c)
    step past (Put seat i found low (Split common column at)) l a ih =
        let put : SplitPut p s past = record {
          seat = seat;
          id = i;
          found = found;
          low =
              low;
          common = common;
          column = column;
          at = at;
          may = a;
        } in
        let c : total (out_one (with_split put)) (length (nodes_of p past)) + out_one past i
        ≤ outs_of p past =
        put_moves outs outs_count p s past seat i found low (Split common column at)
        (out_born p past i seat (shape p s past l) a.is_out) in
        let d : outs_of p (with_split put)
        ≡ (total (out_one (with_split put)) (length (nodes_of p past)) + 0) + 0 =
        children_count outs p s past put l in
        omega (arith, ih, c, d)

abbrev shares_of : Program → Settings → List Entry → ℕ
shares_of p s past = total (share p s past) (length (nodes_of p past))

-- the shares of the children are less than that of the node that was out
children_share : (p : Program) (s : Settings) (past : List Entry) (put : SplitPut p s past)
    → IsLegalPast p s past
    → shares_of p s (with_split put) ≤ total (share p s (with_split put))
    (length (nodes_of p past)) + (2 * node_points p past put.id - 2)
children_share p s past put legal =
    let new : List Entry = with_split put in
    let n : ℕ = length (nodes_of p past) in
    let two : shares_of p s new ≡ (total (share p s new) n
    + share_in waiting (is_open p s new n) (node_points p new n))
    + share_in waiting (is_open p s new (n + 1)) (node_points p new (n + 1)) =
    children_count share_in p s past put legal in
    let a : share_in waiting (is_open p s new n) (node_points p new n)
    ≤ 2 * node_points p new n - 1 = share-waiting (is_open p s new n) (node_points p new n) in
    let b : share_in waiting (is_open p s new (n + 1)) (node_points p new (n + 1))
    ≤ 2 * node_points p new (n + 1) - 1 =
    share-waiting (is_open p s new (n + 1)) (node_points p new (n + 1)) in
    let h : SplitPoints p s past put = split_points p s past put in
    let adds : node_points p new n + node_points p new (n + 1) ≡ h.whole = h.halves.adds in
    let fewer : h.whole ≤ node_points p past put.id = h.fewer in
    elim h.halves.both [
      | inl z ↦ omega (arith, two, a, b, adds, fewer, z)
      | inr q ↦ let q0 : 0 < node_points p new n = q.0 in let q1 : 0 < node_points p new (n + 1) =
          q.1 in omega (arith, two, a, b, adds, fewer, q0, q1)
    ]

-- the takes so far and the shares of the nodes add up to no more than the number of points allows
abbrev IsWithinPoints : Program → Settings → List Entry → Type 0
IsWithinPoints p s past = used_of past + shares_of p s past
    ≤ 2 * points_in (own_lows p) (own_highs p) - 1

pub room_within : (p : Program) (s : Settings) (past : List Entry) → IsLegalPast p s past
    → IsWithinPoints p s past
room_within p s = each_past p s (IsWithinPoints p s) first step
  where
    first : IsWithinPoints p s []
    first = let h : share p s [] 0 ≤ 2 * points_in (own_lows p) (own_highs p) - 1 =
        share-waiting (is_open p s [] 0) (node_points p [] 0) in omega (arith, h)

    -- the part of a node that is out
    share_out : (past : List Entry) (i seat : ℕ) → state_of past i ≡ out seat → share p s past i
        ≡ 2 * node_points p past i - 2
    share_out past i seat o = ap (λ t. share_in t (is_open p s past i) (node_points p past i)) o

    step : (past : List Entry) (e : Entry) → IsLegalPast p s past → IsAllowed p s past e
        → IsWithinPoints p s past → IsWithinPoints p s (e ∷ past)
    step past (Take seat i) l a ih =
        let g = take_gives p s past i a in
        let c : shares_of p s (Take seat i ∷ past) + share p s past i ≤ shares_of p s past
        + (2 * node_points p past i - 2) =
        one_moves share_in share_counts p s past (Take seat i) i (out seat) g.born (λ k. refl) in
        let was : share p s past i ≡ 2 * node_points p past i - 1 =
        ap (λ t. share_in t (is_open p s past i) (node_points p past i))
        (is_waiting-is (state_of past i) g.waits)
        ∙ ap (λ b. share_in waiting b (node_points p past i)) g.open_node in
        let some : 0 < node_points p past i = has_point-points _ _
        (and_parts (has_point (full_of p past i).lows (full_of p past i).highs)
        (is_below (node_at p past i).low (cutoff_for p s past)) g.open_node).0 in
        omega (arith, ih, c, was, some)
    step past (Back seat i) l a ih =
        let born : i < length (nodes_of p past) = out_born p past i seat (shape p s past l) a in
        let c : shares_of p s (Back seat i ∷ past) + share p s past i ≤ shares_of p s past
        + share_in waiting (is_open p s past i) (node_points p past i) =
        one_moves share_in share_counts p s past (Back seat i) i waiting born (λ k. refl) in
        let was : share p s past i ≡ 2 * node_points p past i - 2 = share_out past i seat a in
        let now : share_in waiting (is_open p s past i) (node_points p past i)
        ≤ 2 * node_points p past i - 1 =
        share-waiting (is_open p s past i) (node_points p past i) in
        let used : outs_of p past ≤ used_of past = outs_used p s past l in
        let one : out_one past i ≡ 1 = ap (λ t. one_if (is_out t)) a in
        let some : out_one past i ≤ outs_of p past =
        total-at (out_one past) (length (nodes_of p past)) i born in
        omega (arith, ih, c, was, now, used, one, some)
    step past (Encode seat i form) l a ih = ih
    step past (Free seat ids) l a ih = let c : shares_of p s (Free seat ids ∷ past)
        ≤ shares_of p s past = frees_fall share_in share_counts p s past seat ids in omega
        (arith, ih, c)
    step past (Put seat i found low Shut) l a ih =
        let c : shares_of p s (Put seat i found low Shut ∷ past) + share p s past i
        ≤ shares_of p s past =
        put_moves share_in share_counts p s past seat i found low Shut
        (out_born p past i seat (shape p s past l) a.is_out) in
        omega (arith, ih, c)
    step past (Put seat i found low (Split common column at)) l a ih =
        let put : SplitPut p s past = record {
          seat = seat;
          id = i;
          found = found;
          low =
              low;
          common = common;
          column = column;
          at = at;
          may = a;
        } in
        let c : total (share p s (with_split put)) (length (nodes_of p past)) + share p s past i
        ≤ shares_of p s past =
        put_moves share_in share_counts p s past seat i found low (Split common column at)
        (out_born p past i seat (shape p s past l) a.is_out) in
        let was : share p s past i ≡ 2 * node_points p past i - 2 =
        share_out past i seat a.is_out in
        let d : shares_of p s (with_split put) ≤ total (share p s (with_split put))
        (length (nodes_of p past)) + (2 * node_points p past i - 2) =
        children_share p s past put l in
        omega (arith, ih, c, was, d)

pub within_budget : (p : Program) (s : Settings) (past : List Entry) → IsLegalPast p s past
    → used_of past + room_of p s past ≤ 2 * points_in (own_lows p) (own_highs p) - 1
within_budget p s past l =
    let e : room_of p s past ≡ total (share p s past) (length (nodes_of p past)) =
    sum_ids (share p s past) (length (nodes_of p past)) in
    let h : used_of past + total (share p s past) (length (nodes_of p past))
    ≤ 2 * points_in (own_lows p) (own_highs p) - 1 = room_within p s past l in
    omega (arith, e, h)

pub nothing_lives : (p : Program) (s : Settings) (past : List Entry) → IsLegalPast p s past
    → points_in (own_lows p) (own_highs p) ≡ 0 → IsUnused p s past
nothing_lives p s past l none =
    let h : used_of past + room_of p s past ≤ 2 * points_in (own_lows p) (own_highs p) - 1 =
    within_budget p s past l in
    record {
      none_used = omega (arith, h, none);
      no_room = omega (arith, h, none);
      none_live = λ id born. not_live id born (state_of past id) refl;
    }
  where
    closed : (id : ℕ) → is_open p s past id ≡ false
    closed id =
        elim (cases_Bool (is_open p s past id)) [
          | inl t ↦
              let some : 0 < node_points p past id = has_point-points _ _
              (and_parts (has_point (full_of p past id).lows (full_of p past id).highs)
              (is_below (node_at p past id).low (cutoff_for p s past)) t).0 in
              let few : node_points p past id ≤ points_in (own_lows p) (own_highs p) =
              node_points-le p past id in
              absurd (omega (arith, some, few, none))
          | inr f ↦ f
        ]

    not_live : (id : ℕ) → id < length (nodes_of p past) → (st : State) → state_of past id ≡ st
        → is_live p s past id ≡ false
    not_live id born waiting e = ap (λ t. is_live_in t (is_open p s past id)) e ∙ closed id
    not_live id born (out seat) e =
        let h : used_of past + room_of p s past ≤ 2 * points_in (own_lows p) (own_highs p) - 1 =
        within_budget p s past l in
        let outs : total (out_one past) (length (nodes_of p past)) ≤ used_of past =
        outs_used p s past l in
        let one : out_one past id ≡ 1 = ap (λ t. one_if (is_out t)) e in
        let some : out_one past id ≤ total (out_one past) (length (nodes_of p past)) =
        total-at (out_one past) (length (nodes_of p past)) id born in
        absurd (omega (arith, h, none, outs, one, some))
    not_live id born split e = ap (λ t. is_live_in t (is_open p s past id)) e
    not_live id born shut e = ap (λ t. is_live_in t (is_open p s past id)) e
    not_live id born freed e = ap (λ t. is_live_in t (is_open p s past id)) e
