-- What entries of others leave as it was for a seat. A history is read backward here: its last
-- entry comes first.
use Rattle.std.proofs.Common.{◌≡◌, ◌≢◌, ℕ, ◌+◌, ◌-◌, ◌<◌, ◌≤◌, List, [], ◌∷◌, ◌++◌, length, refl}
use Rattle.std.proofs.Common.{ap, sym, ◌∙◌, subst, arith, true, Option, inl, inr, length-append}
use Rattle.std.specs.Prelude.{ℤ, ◌==◌, map, Contains, reverse, All}
use Rattle.std.proofs.lemmas.Bool.{ne_eqb, eq-eqb, true≢false, cond-false}
use Rattle.std.proofs.lemmas.List.{length-reverse, get_or-reverse}
use Rattle.std.proofs.lemmas.List.Elements.{Contains-append_cases, Contains-append_left}
use Rattle.std.proofs.lemmas.List.Elements.{Contains-append_right, Contains-push_cases}
use Rattle.bl_mods.specs.declared.mods.ItemId.{ItemId}
use Rattle.bl_mods.specs.Mods.{is_among}
use Rattle.bl_problem.specs.Program.{Program}
use Rattle.bl_problem.specs.declared.cut.Cut.{Cut}
use Rattle.bl_problem.specs.declared.decision.Decision.{Decision}
use Rattle.bl_journal.specs.declared.entry.Entry.{Entry}
use Rattle.bl_journal.specs.declared.entry.Entry.TheVariants.{Take, Put, Back, Encode, Free}
use Rattle.bl_desc.specs.declared.desc.Desc.{Desc}
use Rattle.bl_desc.specs.declared.desc.Piece.{Piece}
use Rattle.bl_desc.specs.declared.change.Change.{Change}
use Rattle.bl_desc.specs.Changes.{changed}
use Rattle.bl_journal.specs.declared.entry.Step.{Step}
use Rattle.bl_journal.specs.declared.entry.Step.TheVariants.{Split as SplitStep}
use Rattle.bl_journal.specs.declared.outcome.Next.{Next}
use Rattle.bl_journal.specs.declared.outcome.Next.TheVariants.{Shut, Split}
use Rattle.bl_journal.specs.declared.settings.Settings.{Settings}
use Rattle.bl_journal.specs.Births.{Node, nodes_of, node_at}
use Rattle.bl_journal.specs.Descriptions.{full_of, full_along}
use Rattle.bl_journal.specs.Soundness.{IsSound}
use Rattle.bl_journal.specs.Pieces.{stored_of, form_at_birth, piece_below}
use Rattle.bl_journal.specs.States.{state_of, put_state, is_open, cutoff_of, cutoff_for}
use Rattle.bl_journal.specs.declared.state.State.TheVariants.{Waiting as waiting, Out as out}
use Rattle.bl_journal.specs.declared.state.State.TheVariants.{Freed as freed}
use Rattle.bl_journal.specs.Replies.{is_waiting}
use Rattle.bl_journal.specs.Freeing.{is_over}
use Rattle.bl_journal.specs.Legality.{seat_of, step_of, IsAllowed, IsLegalPast, MayPut, SplitPut}
use Rattle.bl_journal.specs.Legality.{with_split, IsNewId, ids_added, added_by, added_by_step}
use Rattle.bl_journal.specs.Legality.{most_new_cuts}
use Rattle.bl_journal.proofs.Living.{Each, each_from, each_past, take_gives}
use Rattle.bl_journal.proofs.Leaves.{by_test, shape, out_born, chain_frees, freed_over, state_kept}
use Rattle.bl_journal.proofs.Growth.{node_at-more}
use Rattle.bl_journal.proofs.Births.{IsMade, left_decision, right_decision, left_made, right_made}
use Rattle.bl_journal.proofs.Births.{child_follows}
use Rattle.bl_journal.proofs.Newborns.{child_stored}
use Rattle.bl_journal.proofs.Children.{bound_set}
use Rattle.bl_journal.proofs.Workable.{Each-from_all, All-from_each}
use Rattle.bl_journal.specs.Seats.{entries_of, NoneOf}

pub legal_past : (p : Program) (s : Settings) (more past : List Entry)
    → IsLegalPast p s (more ++ past) → IsLegalPast p s past
legal_past p s [] past l = l
legal_past p s (e ∷ more) past l = legal_past p s more past l.1

-- the entries are by others
abbrev pub Others : ℕ → List Entry → Type 0
Others seat entries = Each (λ e. seat_of e ≢ seat) entries

-- each element of a list is one of the list turned around
pub All-reverse : {X : Type 0} (P : X → Type 0) (xs : List X) → All P xs → All P (reverse xs)
All-reverse P xs a i d h =
    let short : i < length xs = subst (λ (n : ℕ). i < n) (length-reverse xs) h in
    subst P (sym (get_or-reverse xs i d short)) (a (length xs - 1 - i) d (omega (arith, short)))

pub others_back : (seat : ℕ) (others : List Entry) → NoneOf seat others
    → Others seat (reverse others)
others_back seat others none = Each-from_all (λ e. seat_of e ≢ seat) (reverse others)
    (All-reverse (λ e. seat_of e ≢ seat) others none)

out_same : (t seat : ℕ) → out t ≡ out seat → t ≡ seat
out_same t seat e = cc

-- the node that another's entry takes, puts or gives back is not the seat's
not_taken : (p : Program) (s : Settings) (past : List Entry) (t i id seat : ℕ)
    → IsAllowed p s past (Take t i) → state_of past id ≡ out seat → i ≡ id → ⊥
not_taken p s past t i id seat a o e =
    true≢false (sym (take_gives p s past i a).waits
    ∙ (ap (λ k. is_waiting (state_of past k)) e ∙ ap is_waiting o))

not_theirs : (past : List Entry) (t i id seat : ℕ) → t ≢ seat → state_of past i ≡ out t
    → state_of past id ≡ out seat → i ≡ id → ⊥
not_theirs past t i id seat other a o e =
    other (out_same t seat (sym a ∙ (ap (state_of past) e ∙ o)))

not_freed : (p : Program) (s : Settings) (past : List Entry) (t id seat : ℕ) (ids : List ℕ)
    → IsLegalPast p s past → IsAllowed p s past (Free t ids) → state_of past id ≡ out seat
    → is_among id ids ≡ true → ⊥
not_freed p s past t id seat ids l a o m =
    let w = freed_over p s past ids id (chain_frees p s past (shape p s past l).parents ids a) m in
    true≢false (sym w.over ∙ ap (λ st. is_over st (is_open p s past id)) o)

-- a node that is out with a seat stays so under an entry of another
pub out_stays_once : (p : Program) (s : Settings) (past : List Entry) (e : Entry) (id seat : ℕ)
    → IsLegalPast p s past → IsAllowed p s past e → seat_of e ≢ seat → state_of past id ≡ out seat
    → state_of (e ∷ past) id ≡ out seat
out_stays_once p s past (Take t i) id seat l a other o =
    state_kept id i (state_of past id) (out t) (not_taken p s past t i id seat a o) ∙ o
out_stays_once p s past (Put t i found low next) id seat l a other o =
    state_kept id i (state_of past id) (put_state next)
    (not_theirs past t i id seat other a.is_out o) ∙ o
out_stays_once p s past (Back t i) id seat l a other o =
    state_kept id i (state_of past id) waiting (not_theirs past t i id seat other a o) ∙ o
out_stays_once p s past (Encode t i form) id seat l a other o = o
out_stays_once p s past (Free t ids) id seat l a other o =
    by_test (λ st. st ≡ out seat) (is_among id ids) freed (state_of past id)
    (λ m. absurd (not_freed p s past t id seat ids l a o m)) (λ _. o)

cutoff_stays_once : (p : Program) (s : Settings) (past : List Entry) (e : Entry) (id seat : ℕ)
    → IsAllowed p s past e → state_of past id ≡ out seat → cutoff_of p s (e ∷ past) id
    ≡ cutoff_of p s past id
cutoff_stays_once p s past (Take t i) id seat a o =
    cond-false (i == id) (cutoff_for p s past) (cutoff_of p s past id)
    (ne_eqb i id (not_taken p s past t i id seat a o))
cutoff_stays_once p s past (Put t i found low next) id seat a o = refl
cutoff_stays_once p s past (Back t i) id seat a o = refl
cutoff_stays_once p s past (Encode t i form) id seat a o = refl
cutoff_stays_once p s past (Free t ids) id seat a o = refl

-- a node that is out with a seat stays so, and so does its cutoff, until the seat's next entry
pub record Stays (p : Program) (s : Settings) (past later : List Entry) (id seat : ℕ) : Type 0 where
  pub is_out : state_of later id ≡ out seat
  pub cutoff : cutoff_of p s later id ≡ cutoff_of p s past id

pub out_stays : (p : Program) (s : Settings) (more past : List Entry) (id seat : ℕ)
    → IsLegalPast p s (more ++ past) → Others seat more → state_of past id ≡ out seat
    → Stays p s past (more ++ past) id seat
out_stays p s more past id seat l others o =
    each_from p s (λ e. seat_of e ≢ seat) (λ h. Stays p s past h id seat) past
    (record { is_out = o; cutoff = refl })
    (λ h e lh a other before. record {
      is_out = out_stays_once p s h e id seat lh a other before.is_out;
      cutoff = cutoff_stays_once p s h e id seat a before.is_out ∙ before.cutoff;
    }) more others l

-- another's entry adds no cut with an id of the seat
not_of_theirs : (past : List Entry) (t seat : ℕ) (x : ItemId) (cuts : List Cut) → t ≢ seat
    → Each (λ (c : Cut). IsNewId past t c.id) cuts → x.seat ≡ seat
    → Contains (map (λ (c : Cut). c.id) cuts) x → ⊥
not_of_theirs past t seat x [] other a e h = let lt : h.0 < 0 = h.1 in absurd (omega (arith, lt))
not_of_theirs past t seat x (c ∷ cuts) other a e h =
    elim (Contains-append_cases (c.id ∷ []) (map (λ (d : Cut). d.id) cuts) x h) [
      | inl k ↦
          elim (Contains-push_cases [] c.id x k) [
            | inl n ↦ let lt : n.0 < 0 = n.1 in absurd (omega (arith, lt))
            | inr same ↦ other (sym a.0.0 ∙ (ap (λ (y : ItemId). y.seat) same ∙ e))
          ]
      | inr k ↦ not_of_theirs past t seat x cuts other a.1 e k
    ]

none_added : (p : Program) (s : Settings) (past : List Entry) (e : Entry) (seat : ℕ) (x : ItemId)
    → IsAllowed p s past e → seat_of e ≢ seat → x.seat ≡ seat
    → Contains (map (λ (c : Cut). c.id) (added_by e)) x → ⊥
none_added p s past (Take t i) seat x a other e h = let lt : h.0 < 0 =
    h.1 in absurd (omega (arith, lt))
none_added p s past (Back t i) seat x a other e h = let lt : h.0 < 0 =
    h.1 in absurd (omega (arith, lt))
none_added p s past (Encode t i form) seat x a other e h = let lt : h.0 < 0 =
    h.1 in absurd (omega (arith, lt))
none_added p s past (Free t ids) seat x a other e h = let lt : h.0 < 0 =
    h.1 in absurd (omega (arith, lt))
none_added p s past (Put t i found low next) seat x a other e h =
    not_of_theirs past t seat x (added_by_step next) other
    (Each-from_all (λ (c : Cut). IsNewId past t c.id) (added_by_step next) a.new_ids) e h

-- an id of the seat that no cut has yet stays new
pub new_id_stays : (p : Program) (s : Settings) (more past : List Entry) (seat : ℕ) (x : ItemId)
    → IsLegalPast p s (more ++ past) → Others seat more → IsNewId past seat x
    → IsNewId (more ++ past) seat x
new_id_stays p s more past seat x l others new =
    each_from p s (λ e. seat_of e ≢ seat) (λ h. IsNewId h seat x) past new
    (λ h e lh a other before. (
      before.0,
      λ c. elim (Contains-append_cases (map (λ (k : Cut). k.id) (added_by e)) (ids_added h) x c) [
        | inl k ↦ none_added p s h e seat x a other before.0 k
        | inr k ↦ before.1 k
      ],
    )) more others l

Each-new : (p : Program) (s : Settings) (more past : List Entry) (seat : ℕ) (cuts : List Cut)
    → IsLegalPast p s (more ++ past) → Others seat more
    → Each (λ (c : Cut). IsNewId past seat c.id) cuts
    → Each (λ (c : Cut). IsNewId (more ++ past) seat c.id) cuts
Each-new p s more past seat [] l others a = tt
Each-new p s more past seat (c ∷ cuts) l others a = (
  new_id_stays p s more past seat c.id l others a.0,
  Each-new p s more past seat cuts l others
      a.1,
)

abbrev ids_of_added : Entry → List ItemId
ids_of_added e = map (λ (c : Cut). c.id) (added_by e)

-- the ids of the seat's cuts are told by its own entries
pub added_by_own : (p : Program) (s : Settings) (past : List Entry) (seat : ℕ) (x : ItemId)
    → IsLegalPast p s past → x.seat ≡ seat → Contains (ids_added past) x
    → Contains (ids_added (entries_of seat past)) x
added_by_own p s past seat x l e =
    each_past p s (λ h. Contains (ids_added h) x → Contains (ids_added (entries_of seat h)) x)
    (λ c. c) (λ h y lh a ih c.
    by_test (λ es. Contains (ids_added es) x) (seat_of y == seat) (y ∷ entries_of seat h)
    (entries_of seat h)
    (λ _. elim (Contains-append_cases (ids_of_added y) (ids_added h) x c) [
      | inl k ↦ Contains-append_left (ids_of_added y) (ids_added (entries_of seat h)) x k
      | inr k ↦ Contains-append_right (ids_of_added y) (ids_added (entries_of seat h)) x (ih k)
    ])
    (λ f. elim (Contains-append_cases (ids_of_added y) (ids_added h) x c) [
      | inl k ↦ absurd (none_added p s h y seat x a
          (λ same. true≢false (sym (eq-eqb (seat_of y) seat same) ∙ f)) e k)
      | inr k ↦ ih k
    ])) past l

-- a node that is born keeps its description
pub full-more : (p : Program) (more past : List Entry) (id : ℕ) → id < length (nodes_of p past)
    → full_of p (more ++ past) id ≡ full_of p past id
full-more p more past id born =
    ap (λ (n : Node). full_along p n.path) (node_at-more p more past id born)

-- what the seat may put, it may put later
pub may_put_later : (p : Program) (s : Settings) (more past : List Entry) (seat id : ℕ)
    (found : Option (List ℤ)) (low : ℤ) (next : Step)
    → IsLegalPast p s past → IsLegalPast p s (more ++ past) → Others seat more
    → MayPut p s past seat id found low next → MayPut p s (more ++ past) seat id found low next
may_put_later p s more past seat id found low next legal l others may =
    let born : id < length (nodes_of p past) =
    out_born p past id seat (shape p s past legal) may.is_out in
    let stays = out_stays p s more past id seat l others may.is_out in
    record {
      is_out = stays.is_out;
      sound = subst (λ (d : Desc Cut). IsSound p d (cutoff_of p s (more ++ past) id) found low
          next) (sym (full-more p more past id born))
          (subst (λ (c : Option ℤ). IsSound p (full_of p past id) c found low next)
          (sym stays.cutoff) may.sound);
      few_cuts = subst (λ (n : Node). length (added_by_step next) ≤ most_new_cuts n.depth)
          (sym (node_at-more p more past id born)) may.few_cuts;
      new_ids = All-from_each (λ (c : Cut). IsNewId (more ++ past) seat c.id) (added_by_step next)
          (Each-new p s more past seat (added_by_step next) l others
          (Each-from_all (λ (c : Cut). IsNewId past seat c.id) (added_by_step next)
          may.new_ids));
    }

-- the same split after more entries
abbrev again : (p : Program) (s : Settings) (more past : List Entry) (put : SplitPut p s past)
    → MayPut p s (more ++ past) put.seat put.id put.found put.low
    (SplitStep put.common put.column put.at) → SplitPut p s (more ++ past)
again p s more past put may = record {
  seat = put.seat;
  id = put.id;
  found = put.found;
  low =
      put.low;
  common = put.common;
  column = put.column;
  at = put.at;
  may = may;
}

-- what is stored of a child of a split is the same later
child_later : (p : Program) (s : Settings) (more past : List Entry) (put : SplitPut p s past)
    (may : MayPut p s (more ++ past) put.seat put.id put.found put.low
    (SplitStep put.common put.column put.at)) (k n : ℕ) (d : Decision)
    → IsLegalPast p s past → IsLegalPast p s (more ++ past) → IsMade p s past put k d
    → IsMade p s (more ++ past) (again p s more past put may) n d
    → stored_of p s (with_split (again p s more past put may)) n ≡ stored_of p s (with_split put) k
child_later p s more past put may k n d legal l made made_later =
    let born : put.id < length (nodes_of p past) =
    out_born p past put.id put.seat (shape p s past legal) put.may.is_out in
    let f : Desc Cut = full_of p past put.id in
    let later : SplitPut p s (more ++ past) = again p s more past put may in
    let piece : Desc Cut → ℕ → Desc Cut → Piece Cut =
    λ above depth below. piece_below above (form_at_birth s.span (depth + 1)) below in
    let below : Desc Cut → Desc Cut =
    λ e. bound_set d.side (changed put.common e) d.column d.value in
    child_stored p s (more ++ past) later n d l made_later
    ∙ (ap (piece (full_of p (more ++ past) put.id) (node_at p (more ++ past) put.id).depth)
    (child_follows p s (more ++ past) later n d made_later)
    ∙ (ap (λ (e : Desc Cut). piece e (node_at p (more ++ past) put.id).depth (below e))
    (full-more p more past put.id born)
    ∙ (ap (λ (m : Node). piece f m.depth (below f)) (node_at-more p more past put.id born)
    ∙ (ap (piece f (node_at p past put.id).depth) (sym (child_follows p s past put k d made))
    ∙ sym (child_stored p s past put k d legal made)))))

-- the numbers of the two children that a put bears
two_more : (p : Program) (past : List Entry) (seat id : ℕ) (found : Option (List ℤ)) (low : ℤ)
    (common : Change Cut) (column : ℕ) (at : ℤ)
    → length (nodes_of p (Put seat id found low (SplitStep common column at) ∷ past))
    ≡ length (nodes_of p past) + 2
two_more p past seat id found low common column at = length-append (nodes_of p past) _

-- the pieces of a put, told with the last entry first
abbrev pub PiecesAfter : Program → Settings → List Entry → Next → Type 0
PiecesAfter p s past Shut = Unit {0}
PiecesAfter p s past (Split common column at left right) =
    (left ≡ stored_of p s past (length (nodes_of p past) - 2))
    × (right ≡ stored_of p s past (length (nodes_of p past) - 1))

-- the pieces of a put are those that are stored later too
pub pieces_later : (p : Program) (s : Settings) (more past : List Entry) (seat id : ℕ)
    (found : Option (List ℤ)) (low : ℤ) (next : Next)
    → IsLegalPast p s past → IsLegalPast p s (more ++ past)
    → MayPut p s past seat id found low (step_of next) → MayPut p s (more ++ past) seat id found
    low (step_of next)
    → PiecesAfter p s (Put seat id found low (step_of next) ∷ past) next
    → PiecesAfter p s (Put seat id found low (step_of next) ∷ more ++ past) next
pieces_later p s more past seat id found low Shut legal l may later pieces = tt
pieces_later p s more past seat id found low (Split common column at left right) legal l may later
    pieces =
    let e : Entry = Put seat id found low (SplitStep common column at) in
    let put : SplitPut p s past = record {
      seat = seat;
      id = id;
      found = found;
      low =
          low;
      common = common;
      column = column;
      at = at;
      may = may;
    } in
    let put_later : SplitPut p s (more ++ past) = again p s more past put later in
    let old : length (nodes_of p (e ∷ past)) ≡ length (nodes_of p past) + 2 =
    two_more p past seat id found low common column at in
    let new : length (nodes_of p (e ∷ more ++ past)) ≡ length (nodes_of p (more ++ past)) + 2 =
    two_more p (more ++ past) seat id found low common column at in
    let old_left : length (nodes_of p (e ∷ past)) - 2 ≡ length (nodes_of p past) =
    omega (arith, old) in
    let old_right : length (nodes_of p (e ∷ past)) - 1 ≡ length (nodes_of p past) + 1 =
    omega (arith, old) in
    let new_left : length (nodes_of p (e ∷ more ++ past)) - 2
    ≡ length (nodes_of p (more ++ past)) = omega (arith, new) in
    let new_right : length (nodes_of p (e ∷ more ++ past)) - 1
    ≡ length (nodes_of p (more ++ past)) + 1 = omega (arith, new) in (
      pieces.0 ∙ (ap (stored_of p s (e ∷ past)) old_left
          ∙ (sym (child_later p s more past put later (length (nodes_of p past))
          (length (nodes_of p (more ++ past))) (left_decision put) legal l
          (left_made p s past put) (left_made p s (more ++ past) put_later))
          ∙ ap (stored_of p s (e ∷ more ++ past)) (sym new_left))),
      pieces.1 ∙ (ap (stored_of p s (e ∷ past)) old_right
          ∙ (sym (child_later p s more past put later (length (nodes_of p past) + 1)
          (length (nodes_of p (more ++ past)) + 1) (right_decision put) legal l
          (right_made p s past put) (right_made p s (more ++ past) put_later))
          ∙ ap (stored_of p s (e ∷ more ++ past)) (sym new_right))),
    )
