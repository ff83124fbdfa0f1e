-- What the tree keeps of its nodes, and how that follows its history.
use Rattle.std.specs.Prelude.{map, filter, fold, ◌≡◌, ◌⊎◌, ℕ, ◌+◌, ◌*◌, ◌≤◌, ◌<◌, ℤ, pos, ◌≤ℤ◌}
use Rattle.std.specs.Prelude.{int_lt, Bool, true, false, not, ◌&&◌, ◌||◌, ◌==◌, List, [], ◌∷◌}
use Rattle.std.specs.Prelude.{length, count_by, slice_get, slice_set, IfSome, is_some, Option}
use Rattle.std.specs.Prelude.{Some, None, reverse, if◌then◌else◌}
use Rattle.std.specs.Int.{int_min}
use Rattle.bl_problem.specs.Program.{Program}
use Rattle.bl_problem.specs.declared.cut.Cut.{Cut}
use Rattle.bl_desc.specs.declared.desc.Desc.{Desc}
use Rattle.bl_desc.specs.declared.desc.Piece.{Piece}
use Rattle.bl_desc.specs.declared.desc.Piece.TheVariants.{Explicit, Relative}
use Rattle.bl_problem.specs.Points.{value_of}
use Rattle.bl_desc.specs.Weights.{weight_of}
use Rattle.bl_journal.specs.declared.entry.Entry.{Entry}
use Rattle.bl_journal.specs.declared.entry.Entry.TheVariants.{Take, Put, Back, Encode, Free}
use Rattle.bl_journal.specs.declared.settings.Settings.{Settings}
use Rattle.bl_journal.specs.declared.limits.TheConstants.{LARGEST_GAP, MOST_NODES, MOST_SPAN}
use Rattle.bl_pool.specs.declared.key.Order.{Order}
use Rattle.bl_pool.specs.declared.key.Order.TheVariants.{Best}
use Rattle.bl_pool.specs.declared.key.Key.{Key}
use Rattle.bl_pool.specs.Views.{PoolView, key_in}
use Rattle.bl_tree.specs.declared.record.Record.{Record}
use Rattle.bl_journal.specs.Births.{nodes_of, node_at}
use Rattle.bl_journal.specs.Descriptions.{full_of}
use Rattle.bl_journal.specs.States.{state_of, has_point, is_below, used_of, best_of, cutoff_for}
use Rattle.bl_journal.specs.States.{value_if, Found}
use Rattle.bl_journal.specs.declared.state.State.{State}
use Rattle.bl_journal.specs.declared.state.State.TheVariants.{Waiting as waiting, Out as out}
use Rattle.bl_journal.specs.declared.state.State.TheVariants.{Split as split, Shut as shut}
use Rattle.bl_journal.specs.declared.state.State.TheVariants.{Freed as freed}
use Rattle.bl_journal.specs.Legality.{IsLegalPast}
use Rattle.bl_journal.specs.Replies.{is_waiting, is_out}
use Rattle.bl_journal.specs.Pieces.{is_freed, stored_of}
use Rattle.bl_journal.specs.Freeing.{is_parent, is_freeable, is_over}

abbrev pub is_out_if : Option Record → Bool
is_out_if None = false
is_out_if (Some r) = is_out r.stage

abbrev pub waits : Option ℤ → Record → Bool
waits cutoff r = is_waiting r.stage && (r.has_point && is_below r.low cutoff)

abbrev pub waits_if : Option ℤ → Option Record → Bool
waits_if cutoff None = false
waits_if cutoff (Some r) = waits cutoff r

-- the best value after a put
abbrev pub best_value_with : Program → Option ℤ → Option (List ℤ) → Option ℤ
best_value_with p best None = best
best_value_with p None (Some x) = Some (value_of p x)
best_value_with p (Some b) (Some x) = if int_lt (value_of p x) b then Some (value_of p x)
    else Some b

-- the record of a new child
abbrev pub fresh_record : ℕ → ℕ → ℤ → Bool → Piece Cut → Record
fresh_record parent depth low open_box piece =
    record {
      parent = Some parent;
      children = None;
      depth = depth;
      low = low;
      stage =
          waiting;
      has_point = open_box;
      piece = Some piece;
    }

abbrev pub box_has_point : Desc Cut → Bool
box_has_point d = has_point d.lows d.highs

-- the record of the root
abbrev pub root_record : ℤ → Desc Cut → Record
root_record low d =
    record {
      parent = None;
      children = None;
      depth = 0;
      low = low;
      stage = waiting;
      has_point =
          box_has_point d;
      piece = Some (Explicit d);
    }

-- the node is one of the two children, of which the first is known
abbrev pub is_child_in : Option ℕ → ℕ → Bool
is_child_in None q = false
is_child_in (Some c) q = q == c || q == c + 1

abbrev pub has_children : Option ℕ → Bool
has_children None = false
has_children (Some c) = true

abbrev pub was_parted : State → Bool
was_parted waiting = false
was_parted (out seat) = false
was_parted split = true
was_parted shut = false
was_parted freed = true

-- what is stored of the node; nothing where it is freed
abbrev pub piece_at : Program → Settings → List Entry → ℕ → Option (Piece Cut)
piece_at p s past id = if is_freed (state_of past id) then None else Some (stored_of p s past id)

-- how the node is stored, and where its parent and its children are
pub record IsStoredOf (p : Program) (s : Settings) (past : List Entry) (id : ℕ) (r : Record) :
    Type 0 where
  pub parent : r.parent ≡ (node_at p past id).parent
  pub children : (q : ℕ) → q < length (nodes_of p past) → is_parent (node_at p past q).parent id
      ≡ is_child_in r.children q
  pub within : IfSome r.children (λ c. c + 1 < length (nodes_of p past))
  pub parted : has_children r.children ≡ true → was_parted r.stage ≡ true
  pub piece : r.piece ≡ piece_at p s past id

abbrev pub AreStored : Program → Settings → List Entry → List Record → Type 0
AreStored p s past records = (id : ℕ) (r : Record) → slice_get records id ≡ Some r
    → IsStoredOf p s past id r

-- the record of the node
pub record IsRecordOf (p : Program) (past : List Entry) (id : ℕ) (r : Record) : Type 0 where
  pub depth : r.depth ≡ (node_at p past id).depth
  pub low : r.low ≡ (node_at p past id).low
  pub stage : r.stage ≡ state_of past id
  pub has_point : r.has_point ≡ has_point (full_of p past id).lows (full_of p past id).highs

pub record AreRecords (p : Program) (past : List Entry) (records : List Record) : Type 0 where
  pub count : length records ≡ length (nodes_of p past)
  pub each : (id : ℕ) (r : Record) → slice_get records id ≡ Some r → IsRecordOf p past id r

pub record IsKept (p : Program) (s : Settings) (past : List Entry) (room capacity : ℕ)
    (kept : List Record) (taken : ℕ) (best : Option ℤ) : Type 0 where
  pub legal : IsLegalPast p s past
  pub span_some : 0 < s.span
  pub span_few : s.span ≤ MOST_SPAN
  pub records : AreRecords p past kept
  pub storage : AreStored p s past kept
  pub used : taken ≡ used_of past
  pub best_is : best ≡ value_if (best_of p past)
  pub room_is : count_by (λ r. is_out r.stage) kept ≤ room
  pub capacity_is : length kept + 2 * count_by (λ r. is_out r.stage) kept ≤ capacity
  pub outs : count_by (λ r. is_out r.stage) kept ≤ taken
  pub size : length kept + 2 * count_by (λ r. is_out r.stage) kept ≤ 2 * taken + 1
  pub budget : taken ≤ s.nodes
  pub gap_some : pos 0 ≤ℤ s.gap
  pub gap_few : s.gap ≤ℤ LARGEST_GAP
  pub few : s.nodes ≤ MOST_NODES

-- the point that an entry found
abbrev pub found_in : Option Entry → Option (List ℤ)
found_in None = None
found_in (Some (Put seat id found low next)) = found
found_in (Some (Take seat id)) = None
found_in (Some (Back seat id)) = None
found_in (Some (Encode seat id form)) = None
found_in (Some (Free seat ids)) = None

-- the entry at this place found the best point
abbrev pub StandsAt : Option Found → List Entry → ℕ → Type 0
StandsAt None entries place = Unit {0}
StandsAt (Some f) entries place = found_in (slice_get entries place) ≡ Some f.point

-- a point with its value
abbrev pub found_with : ℤ → Option (List ℤ) → Option Found
found_with value None = None
found_with value (Some x) = Some (record { value = value; point = x })

-- the found point is better than the best one
abbrev pub improves : Program → Option ℤ → Option (List ℤ) → Bool
improves p best None = false
improves p None (Some x) = true
improves p (Some b) (Some x) = int_lt (value_of p x) b

-- the place of the entry that found the best point, after a put at the place `now`
abbrev pub place_with : Program → Option ℤ → Option (List ℤ) → ℕ → ℕ → ℕ
place_with p best found before now = if improves p best found then now else before

-- the node is out, or it waits and may have a better point
abbrev pub lives : Option ℤ → Record → Bool
lives cutoff r = is_out r.stage || waits cutoff r

-- the low numbers of the live nodes
abbrev pub live_lows : Option ℤ → List Record → List ℤ
live_lows cutoff records = map (λ r. r.low) (filter (lives cutoff) records)

abbrev pub least_if : List ℤ → Option ℤ
least_if [] = None
least_if (low ∷ lows) = Some (fold int_min low lows)

abbrev pub least_with : Option ℤ → ℤ → Option ℤ
least_with None low = Some low
least_with (Some least) low = Some (int_min least low)

-- the weight of a piece, 0 where there is none
abbrev pub weight_if : Option (Piece Cut) → ℕ
weight_if None = 0
weight_if (Some piece) = weight_of piece

-- the piece of a record, if there is one
abbrev pub piece_if : Option Record → Option (Piece Cut)
piece_if None = None
piece_if (Some r) = r.piece

abbrev pub is_relative : Option (Piece Cut) → Bool
is_relative None = false
is_relative (Some (Explicit d)) = false
is_relative (Some (Relative c)) = true

-- the node is not freed and relative
abbrev pub holds_if : Option Record → Bool
holds_if None = false
holds_if (Some r) = is_relative r.piece

-- one of the two children holds its parent
abbrev pub is_held : List Record → Option ℕ → Bool
is_held records None = false
is_held records (Some c) = holds_if (slice_get records c) || holds_if (slice_get records (c + 1))

-- the record's node may be freed
abbrev pub may_go : Option ℤ → List Record → Record → Bool
may_go cutoff records r = is_over r.stage (r.has_point && is_below r.low cutoff)
    && not (is_held records r.children)

abbrev pub may_go_if : Option ℤ → List Record → Option Record → Bool
may_go_if cutoff records None = false
may_go_if cutoff records (Some r) = may_go cutoff records r

-- the node with this number may be freed
abbrev pub may_go_at : Option ℤ → List Record → ℕ → Bool
may_go_at cutoff records id = may_go_if cutoff records (slice_get records id)

-- the records after a node is stored as this piece
abbrev pub stored_if : List Record → ℕ → Piece Cut → Option Record → List Record
stored_if records id piece None = records
stored_if records id piece (Some r) = slice_set records id (record r { piece = Some piece })

abbrev pub stored_at : List Record → ℕ → Piece Cut → List Record
stored_at records id piece = stored_if records id piece (slice_get records id)

-- the record of a freed node
abbrev pub gone_record : Record → Record
gone_record r = record r { stage = freed; piece = None }

abbrev pub gone_if : List Record → ℕ → Option Record → List Record
gone_if records id None = records
gone_if records id (Some r) = slice_set records id (gone_record r)

abbrev pub gone_at : List Record → ℕ → List Record
gone_at records id = gone_if records id (slice_get records id)

abbrev pub if_may_go : Option ℤ → List Record → Option ℕ → Option ℕ
if_may_go cutoff records None = None
if_may_go cutoff records (Some q) = if may_go_at cutoff records q then Some q else None

abbrev pub parent_if : Option Record → Option ℕ
parent_if None = None
parent_if (Some r) = r.parent

-- the node's parent, if it may be freed
abbrev pub next_up : Option ℤ → List Record → ℕ → Option ℕ
next_up cutoff records id = if_may_go cutoff records (parent_if (slice_get records id))

-- the records after a node is freed and then those of the list, each the parent of the one
-- before and free to go; the last one is known
abbrev pub IsFreedTo : Option ℤ → List Record → ℕ → List ℕ → ℕ → List Record → Type 0
IsFreedTo cutoff records id [] last after = (id ≡ last) × (after ≡ gone_at records id)
IsFreedTo cutoff records id (q ∷ ids) last after =
    (next_up cutoff (gone_at records id) id ≡ Some q) × IsFreedTo cutoff (gone_at records id) q
    ids last after

-- the nodes of the list are freed so far: the first one, and then parents in turn up to the last
-- one
pub record IsFreeingUp (cutoff : Option ℤ) (records : List Record) (id : ℕ) (ids : List ℕ)
    (last : ℕ) (after : List Record) : Type 0 where
  pub others : List ℕ
  pub chain : ids ≡ id ∷ others
  pub freed : IsFreedTo cutoff records id others last after

-- a node is freed, and then each parent in turn as long as it may be
pub record IsFreedUp (cutoff : Option ℤ) (records : List Record) (id : ℕ) (ids : List ℕ)
    (after : List Record) : Type 0 where
  pub last : ℕ
  pub freeing : IsFreeingUp cutoff records id ids last after
  pub top : next_up cutoff after last ≡ None

abbrev pub depth_if : Option Record → ℕ
depth_if None = 0
depth_if (Some r) = r.depth

-- a parent has a lower number, and is one less deep
abbrev pub IsLinked : List Record → ℕ → Option ℕ → ℕ → Type 0
IsLinked records id None depth = Unit {0}
IsLinked records id (Some q) depth = (q < id) × (depth_if (slice_get records q) + 1 ≡ depth)

abbrev pub AreLinked : List Record → Type 0
AreLinked records = (id : ℕ) → id < length records
    → IsLinked records id (parent_if (slice_get records id)) (depth_if (slice_get records id))

-- a candidate's key: candidates come by their numbers alone
abbrev pub candidate_key : ℕ → Key
candidate_key id = record { id = id; low = pos 0; depth = 0 }

-- the node is one of the candidates
abbrev pub is_listed : PoolView → ℕ → Bool
is_listed pool id = is_some (key_in pool id)

-- the candidates' pool
pub record AreCandidates (pool : PoolView) : Type 0 where
  pub best : pool.order ≡ Best
  pub plain : (id : ℕ) (k : Key) → key_in pool id ≡ Some k → k ≡ candidate_key id

-- a node that may be freed is one of the candidates; or it waits, and the best value fell since
-- all nodes were looked at
abbrev pub IsCandidate : (ℕ → Bool) → Bool → List Entry → ℕ → Type 0
IsCandidate listed fell past id = (listed id || (fell && is_waiting (state_of past id))) ≡ true

-- what the order sees of a record's node
abbrev pub record_key : ℕ → Record → Key
record_key id r = record { id = id; low = r.low; depth = r.depth }

-- the key of a node's right neighbour, which differs in the number alone
abbrev pub next_key : Key → Key
next_key k = record k { id = k.id + 1 }

-- the node waits, and its box has a point
abbrev pub may_wait : Record → Bool
may_wait r = is_waiting r.stage && r.has_point

-- a node's record, and its key among those of the waiting nodes: each live waiting node has its
-- key, and each key is that of a waiting node whose box has a point
abbrev pub IsQueued : Option ℤ → ℕ → Option Record → Option Key → Type 0
IsQueued cutoff id None None = Unit {0}
IsQueued cutoff id None (Some k) = ⊥
IsQueued cutoff id (Some r) None = waits cutoff r ≡ false
IsQueued cutoff id (Some r) (Some k) = (may_wait r ≡ true) × (k ≡ record_key id r)

-- the pool of the waiting nodes follows the records
pub record AreQueued (order : Order) (cutoff : Option ℤ) (kept : List Record) (pool : PoolView) :
    Type 0 where
  pub same_order : pool.order ≡ order
  pub each : (id : ℕ) → IsQueued cutoff id (slice_get kept id) (key_in pool id)

-- a key stays; or it goes, and its low number is not below the cutoff
abbrev pub IsThinned : Option ℤ → Option Key → Option Key → Type 0
IsThinned cutoff old new = (new ≡ old)
    ⊎ ((new ≡ None) × IfSome old (λ k. is_below k.low cutoff ≡ false))
