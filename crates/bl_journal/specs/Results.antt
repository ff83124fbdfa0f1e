-- What a history says of the problem, and the budget.
use Rattle.std.specs.Prelude.{◌≡◌, ℕ, ◌-◌, ◌*◌, ◌<◌, length, ℤ, pos, ◌-ℤ◌, ◌≤ℤ◌, int_lt, Bool, true}
use Rattle.std.specs.Prelude.{false, List, [], ◌∷◌, map, filter, fold, sum_by, Option, Some, None}
use Rattle.std.specs.Prelude.{if◌then◌else◌}
use Rattle.std.specs.Int.{int_min}
use Rattle.bl_problem.specs.Program.{Program}
use Rattle.bl_problem.specs.Points.{points_in, IsFeasible, value_of}
use Rattle.bl_journal.specs.declared.entry.Entry.{Entry}
use Rattle.bl_journal.specs.declared.settings.Settings.{Settings}
use Rattle.bl_journal.specs.Births.{nodes_of, node_at, IsBorn}
use Rattle.bl_journal.specs.Descriptions.{full_of, IsInNode}
use Rattle.bl_journal.specs.States.{state_of, is_open, is_live, best_of, Found, value_less}
use Rattle.bl_journal.specs.States.{cutoff_for, is_below, used_of}
use Rattle.bl_journal.specs.declared.state.State.{State}
use Rattle.bl_journal.specs.declared.state.State.TheVariants.{Waiting as waiting, Out as out}
use Rattle.bl_journal.specs.declared.state.State.TheVariants.{Split as split, Shut as shut}
use Rattle.bl_journal.specs.declared.state.State.TheVariants.{Freed as freed}
use Rattle.bl_journal.specs.Replies.{ids_of, waits_live}

pub data Verdict : Type 0 where
  optimal : (best : Found) → Verdict
  within : (best : Found) (bound : ℤ) → Verdict
  infeasible : Verdict
  bounded : (bound : ℤ) (best : Option Found) → Verdict

abbrev pub live_ids : Program → Settings → List Entry → List ℕ
live_ids p s past = filter (is_live p s past) (ids_of p past)

abbrev pub lows_of : Program → List Entry → List ℕ → List ℤ
lows_of p past ids = map (λ id. (node_at p past id).low) ids

-- with no gap the best point is optimal, else within the gap
abbrev pub final : ℤ → Option Found → Verdict
final gap (Some best) = if int_lt (pos 0) gap then within best (best.value -ℤ gap) else optimal best
final gap None = infeasible

-- the lesser of a number and the cutoff, if there is one
abbrev pub lesser_of : ℤ → Option ℤ → ℤ
lesser_of low None = low
lesser_of low (Some c) = int_min c low

abbrev pub answer_for : ℤ → Option Found → List ℤ → Verdict
answer_for gap best [] = final gap best
answer_for gap best (low ∷ lows) =
    bounded (lesser_of (fold int_min low lows) (value_less gap best)) best

-- with no live node the best point is optimal, or within the gap; else the bound is the least of
-- the best value less the gap and the live nodes' lows
unfoldable pub answer_of : Program → Settings → List Entry → Verdict
answer_of p s past = answer_for s.gap (best_of p past) (lows_of p past (live_ids p s past))

abbrev pub node_points : Program → List Entry → ℕ → ℕ
node_points p past id = points_in (full_of p past id).lows (full_of p past id).highs

abbrev pub share_in : State → Bool → ℕ → ℕ
share_in waiting true n = 2 * n - 1
share_in waiting false n = 0
share_in (out seat) b n = 2 * n - 2
share_in split b n = 0
share_in shut b n = 0
share_in freed b n = 0

-- the takes that may still come
abbrev pub room_of : Program → Settings → List Entry → ℕ
room_of p s past =
    sum_by (λ id. share_in (state_of past id) (is_open p s past id) (node_points p past id))
    (ids_of p past)

-- the point is feasible and has the value
pub record IsGood (p : Program) (f : Found) : Type 0 where
  pub feasible : IsFeasible p f.point
  pub value : f.value ≡ value_of p f.point

-- the best point that was found, if there is one, is feasible and has its value
abbrev pub BestGood : Program → Option Found → Type 0
BestGood p None = Unit {0}
BestGood p (Some f) = IsGood p f

-- what the answer says of the feasible points
abbrev pub IsTrueFor : Program → Verdict → Type 0
IsTrueFor p (optimal best) =
    IsFeasible p best.point
    × (best.value ≡ value_of p best.point)
    × ((x : List ℤ) → IsFeasible p x → best.value ≤ℤ value_of p x)
IsTrueFor p (within best bound) =
    IsFeasible p best.point
    × (best.value ≡ value_of p best.point)
    × ((x : List ℤ) → IsFeasible p x → bound ≤ℤ value_of p x)
IsTrueFor p infeasible = (x : List ℤ) → IsFeasible p x → ⊥
IsTrueFor p (bounded bound best) =
    BestGood p best × ((x : List ℤ) → IsFeasible p x → bound ≤ℤ value_of p x)

-- a live node whose box has the point
pub record IsHeldBy (p : Program) (s : Settings) (past : List Entry) (x : List ℤ) (id : ℕ)
    : Type 0 where
  pub born : IsBorn p past id
  pub live : is_live p s past id ≡ true
  pub inside : IsInNode p past id x

-- a live node that holds the point, whose low number is at most its value
pub record LiesIn (p : Program) (s : Settings) (past : List Entry) (x : List ℤ) (id : ℕ)
    : Type 0 where
  pub held : IsHeldBy p s past x id
  pub low : (node_at p past id).low ≤ℤ value_of p x

-- the point is feasible, and its value is below the best one less the gap
pub record IsBetter (p : Program) (s : Settings) (past : List Entry) (x : List ℤ) : Type 0 where
  pub feasible : IsFeasible p x
  pub below : is_below (value_of p x) (cutoff_for p s past) ≡ true

-- no node is live
abbrev pub HasNoLive : Program → Settings → List Entry → Type 0
HasNoLive p s past = (id : ℕ) → id < length (nodes_of p past) → is_live p s past id ≡ false

-- as many nodes are used as may be, and a live node waits
pub record IsSpent (p : Program) (s : Settings) (past : List Entry) : Type 0 where
  pub all_used : used_of past ≡ s.nodes
  pub id : ℕ
  pub born : id < length (nodes_of p past)
  pub waits : waits_live p s past id ≡ true

-- an answer that no live node can change
abbrev pub IsFinal : Verdict → Type 0
IsFinal (optimal best) = Unit {0}
IsFinal (within best bound) = Unit {0}
IsFinal infeasible = Unit {0}
IsFinal (bounded bound best) = ⊥
