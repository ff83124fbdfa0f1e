-- Laws over histories, each in the words of its subject.
use Rattle.std.specs.Prelude.{◌≡◌, ◌≢◌, ◌++◌, ◌^◌, ◌<◌, ◌≤◌, ◌≤ℤ◌, ◌+◌, ◌*◌, ◌-◌, ℕ, ℤ, pos}
use Rattle.std.specs.Prelude.{true, List, length, reverse, Some}
use Rattle.std.specs.Prelude.{All, AllPairs, Contains}
use Rattle.bl_mods.specs.Mods.{IsPartThenFresh}
use Rattle.bl_problem.specs.declared.cut.Cut.{Cut}
use Rattle.bl_problem.specs.Program.{Program, IsProgram}
use Rattle.bl_problem.specs.Sums.{IsWithin}
use Rattle.bl_problem.specs.Points.{own_lows, own_highs, points_in}
use Rattle.bl_problem.specs.Cuts.{SuitsProblem, IsValidCut}
use Rattle.bl_desc.specs.declared.desc.Desc.{Desc}
use Rattle.bl_desc.specs.declared.desc.Piece.{Piece}
use Rattle.bl_desc.specs.declared.desc.Form.TheVariants.{Relative}
use Rattle.bl_desc.specs.Changes.{changed, IsWhole}
use Rattle.bl_journal.specs.declared.entry.Entry.{Entry}
use Rattle.bl_journal.specs.declared.limits.TheConstants.{MOST_CUTS}
use Rattle.bl_journal.specs.declared.settings.Settings.{Settings}
use Rattle.bl_journal.specs.Births.{nodes_of, node_at, IsBorn}
use Rattle.bl_journal.specs.Descriptions.{full_of, left_child, right_child}
use Rattle.bl_journal.specs.Legality.{IsLegal, HasUnfreedParent, ids_added}
use Rattle.bl_journal.specs.Legality.{SplitPut, with_split}
use Rattle.bl_journal.specs.States.{used_of, state_of, form_of, has_point}
use Rattle.bl_journal.specs.declared.state.State.TheVariants.{Out as out, Freed as freed}
use Rattle.bl_journal.specs.Pieces.{chain_of, rebuilt, stored_of, form_at_birth, piece_below}
use Rattle.bl_journal.specs.Results.{room_of, IsBetter, IsHeldBy, LiesIn, IsTrueFor}
use Rattle.bl_journal.specs.Results.{answer_of, HasNoLive, IsFinal, IsSpent}
use Rattle.bl_journal.specs.Replies.{take_reply, done, spent}

-- it holds in each legal history
abbrev pub InLegal : (Program → Settings → List Entry → Type 0) → Type 0
InLegal P =
    (p : Program) (s : Settings) (history : List Entry) → IsLegal p s history
    → P p s (reverse history)

-- it holds of each node that is born in a legal history
abbrev pub OfNodes : (Program → Settings → List Entry → ℕ → Type 0) → Type 0
OfNodes P = InLegal (λ p s past. (id : ℕ) → IsBorn p past id → P p s past id)

-- the node is the same later
pub record IsKeptIn (p : Program) (past later : List Entry) (id : ℕ) : Type 0 where
  pub node : node_at p later id ≡ node_at p past id
  pub description : full_of p later id ≡ full_of p past id

-- a node that is born keeps its parent, depth, low number and path under every longer history,
-- and so its description
abbrev pub NodesAreStable : Type 0
NodesAreStable =
    (p : Program) (history rest : List Entry) (id : ℕ) → IsBorn p (reverse history) id
    → IsKeptIn p (reverse history) (reverse (history ++ rest)) id

-- the point lies in a live node, where it is better; and of all live nodes one alone holds it,
-- whatever their low numbers
pub record LiesOnce (p : Program) (s : Settings) (past : List Entry) (x : List ℤ) : Type 0 where
  pub somewhere : pos 0 ≤ℤ s.gap → IsBetter p s past x → (id : ℕ) × LiesIn p s past x id
  pub once : (i j : ℕ) → IsHeldBy p s past x i → IsHeldBy p s past x j → i ≡ j

-- in a legal history each feasible point whose value is below the best one less the gap lies in
-- exactly one live node, and its value is at least that node's low number. No point at all lies in
-- two live nodes
abbrev pub LiveNodesCover : Type 0
LiveNodesCover = InLegal (λ p s past. (x : List ℤ) → LiesOnce p s past x)

-- in a legal history the answer says of all feasible points what its variant means
abbrev pub AnswersAreTrue : Type 0
AnswersAreTrue = InLegal (λ p s past. pos 0 ≤ℤ s.gap → IsTrueFor p (answer_of p s past))

-- how many points lie within the problem's own bounds
abbrev pub root_points : Program → ℕ
root_points p = points_in (own_lows p) (own_highs p)

-- no node was used, none may be, and none lives
pub record IsUnused (p : Program) (s : Settings) (past : List Entry) : Type 0 where
  pub none_used : used_of past ≡ 0
  pub no_room : room_of p s past ≡ 0
  pub none_live : HasNoLive p s past

pub record IsWithinBudget (p : Program) (s : Settings) (past : List Entry) : Type 0 where
  pub few : used_of past ≤ s.nodes
  pub within : 0 < root_points p → used_of past + room_of p s past ≤ 2 * root_points p - 1
  pub nothing : root_points p ≡ 0 → IsUnused p s past

-- in a legal history the takes less the backs are no more than the nodes that may be used; and
-- they and the takes that may still come are together less than twice the number of the root's
-- points. Where there is no point, no node ever lives
abbrev pub BudgetHolds : Type 0
BudgetHolds = InLegal IsWithinBudget

-- the node's chain is short, and applied in order it gives the node's description
pub record HasChain (p : Program) (s : Settings) (past : List Entry) (id : ℕ) : Type 0 where
  pub short : length (chain_of p s past id) ≤ s.span
  pub rebuilds : rebuilt (chain_of p s past id) ≡ Some (full_of p past id)

-- the parent stands where the node is relative, and the node can be rebuilt
pub record StandsWell (p : Program) (s : Settings) (past : List Entry) (id : ℕ) : Type 0 where
  pub parent : form_of p s past id ≡ Relative → HasUnfreedParent past (node_at p past id).parent
  pub chain : 0 < s.span → HasChain p s past id

-- in a legal history an unfreed relative node has an unfreed parent, and the chain of each unfreed
-- node has at most `span` pieces, which applied in order give its description
abbrev pub ChainsRebuild : Type 0
ChainsRebuild = OfNodes (λ p s past id. state_of past id ≢ freed → StandsWell p s past id)

-- the parent is born before the node, whose cuts are a part of the parent's and then fresh ones
pub record IsBelowParent (p : Program) (past : List Entry) (id parent : ℕ) : Type 0 where
  pub before : parent < id
  pub part : IsPartThenFresh (λ c. c.id) (full_of p past parent).cuts (full_of p past id).cuts

-- a whole description with the problem's counts, and few cuts, of different ids
pub record IsDescFor (p : Program) (d : Desc Cut) : Type 0 where
  pub whole : IsWhole d
  pub columns : length d.lows ≡ length p.columns
  pub rows : length d.row_status ≡ length p.rows
  pub few : length d.cuts ≤ MOST_CUTS
  pub ids : AllPairs (λ a b. a.id ≢ b.id) d.cuts

-- the node has such a description, and stands below its parent if it has one
pub record IsDescribed (p : Program) (past : List Entry) (id : ℕ) : Type 0 where
  pub desc : IsDescFor p (full_of p past id)
  pub below :
      (parent : ℕ) → (node_at p past id).parent ≡ Some parent → IsBelowParent p past id parent

-- in a legal history the description of each node that is born is whole and has the problem's
-- counts of columns and rows, and few cuts, of different ids. A parent is born before its
-- child, whose cuts are a part of the parent's and then fresh ones
abbrev pub DescriptionsAreWhole : Type 0
DescriptionsAreWhole = OfNodes (λ p s past id. IsDescribed p past id)

-- the bounds are as near as the problem's own
pub record IsNear (d : Desc Cut) : Type 0 where
  pub lows : All (IsWithin (10 ^ 9)) d.lows
  pub highs : All (IsWithin (10 ^ 9)) d.highs

-- a description to work on: its box has a point, and its cuts suit the problem and hold
pub record IsWorkable (p : Program) (d : Desc Cut) : Type 0 where
  pub desc : IsDescFor p d
  pub point : has_point d.lows d.highs ≡ true
  pub suit : All (SuitsProblem p) d.cuts
  pub valid : All (IsValidCut p) d.cuts
  pub near : IsProgram p → IsNear d

-- in a legal history the description of a node that is out is whole and its box has a point, and
-- its cuts are few, suit the problem, hold and have different ids
abbrev pub LeasesAreWorkable : Type 0
LeasesAreWorkable =
    InLegal (λ p s past.
    (id seat : ℕ) → state_of past id ≡ out seat → IsWorkable p (full_of p past id))

-- the node's description after the change that both children share
abbrev pub common_desc :
    {p : Program} {s : Settings} {past : List Entry} → SplitPut p s past → Desc Cut
common_desc {p} {s} {past} put = changed put.common (full_of p past put.id)

-- each child has the node's description after the common change, with the split's one bound set
pub record ChildrenAre (p : Program) (s : Settings) (past : List Entry) (put : SplitPut p s past)
    : Type 0 where
  pub left :
      full_of p (with_split put) (length (nodes_of p past))
      ≡ left_child (common_desc put) put.column put.at
  pub right :
      full_of p (with_split put) (length (nodes_of p past) + 1)
      ≡ right_child (common_desc put) put.column put.at

-- in a legal history a split gives each child the node's description after the common change, with
-- the split's one bound set
abbrev pub ChildrenFollow : Type 0
ChildrenFollow = InLegal (λ p s past. (put : SplitPut p s past) → ChildrenAre p s past put)

-- how a child of the split is stored: whole where the span divides its depth, else as the
-- difference from its parent's description
abbrev pub newborn_piece :
    {p : Program} {s : Settings} {past : List Entry} → SplitPut p s past → ℕ → Piece Cut
newborn_piece {p} {s} {past} put child =
    piece_below (full_of p past put.id)
    (form_at_birth s.span ((node_at p past put.id).depth + 1))
    (full_of p (with_split put) child)

pub record ChildrenStored
    (p : Program) (s : Settings) (past : List Entry) (put : SplitPut p s past) : Type 0 where
  pub left :
      stored_of p s (with_split put) (length (nodes_of p past))
      ≡ newborn_piece put (length (nodes_of p past))
  pub right :
      stored_of p s (with_split put) (length (nodes_of p past) + 1)
      ≡ newborn_piece put (length (nodes_of p past) + 1)

-- in a legal history a split's children are stored whole where the span divides their depth, and
-- else as the canonical differences from their parent's description
abbrev pub NewbornsAreStored : Type 0
NewbornsAreStored = InLegal (λ p s past. (put : SplitPut p s past) → ChildrenStored p s past put)

-- no node lives, so the answer is final
pub record HasEnded (p : Program) (s : Settings) (past : List Entry) : Type 0 where
  pub none_live : HasNoLive p s past
  pub decided : IsFinal (answer_of p s past)

-- the nodes are used up, and there were fewer than could be needed
pub record HasRunOut (p : Program) (s : Settings) (past : List Entry) : Type 0 where
  pub all_used : IsSpent p s past
  pub budget : s.nodes + 2 ≤ 2 * root_points p

pub record RepliesEnd (p : Program) (s : Settings) (past : List Entry) : Type 0 where
  pub at_done : take_reply p s past ≡ done → HasEnded p s past
  pub at_spent : take_reply p s past ≡ spent → HasRunOut p s past

-- in a legal history a take is answered Done only where no node is live, and the answer is then
-- final. It is answered Spent only where as many nodes are used as may be and a live node waits,
-- and then twice the number of the root's points is greater by 2 or more than the number of nodes
-- that may be used
abbrev pub RepliesEndSearches : Type 0
RepliesEndSearches = InLegal RepliesEnd

-- in a legal history the ids of a node's cuts are among those of the cuts that puts have added
abbrev pub CutsWereAdded : Type 0
CutsWereAdded =
    OfNodes (λ p s past id.
    All (λ c. Contains (ids_added past) c.id) (full_of p past id).cuts)
