-- A source and a sink in memory, as contracts see them.
use Rattle.std.specs.Prelude.{◌≡◌, ◌-◌, ◌==◌, ◌||◌, ℕ, List, length, min, Bool, true, IfOk, IsErr}
use Rattle.std.specs.Prelude.{OnErr, ◌↔◌}
use Rattle.std.specs.List.{list_any}
use Rattle.std.specs.declared.result.Result.{Result}
use Rattle.bl_io.specs.Causes.{one_more}

-- the bytes that are left, how many a read gives at most, the calls that fail, and the counts of
-- calls and of faults
pub record Feed : Type 0 where
  pub left : List ℕ
  pub most : ℕ
  pub failing : List ℕ
  pub calls : ℕ
  pub faults : ℕ

-- the bytes taken, how many a write takes at most, the room that is left, the calls that fail,
-- and both counts
pub record Store : Type 0 where
  pub kept : List ℕ
  pub most : ℕ
  pub room : ℕ
  pub failing : List ℕ
  pub calls : ℕ
  pub faults : ℕ

abbrev pub is_failing : List ℕ → ℕ → Bool
is_failing failing call = list_any (λ f. f == call) failing

-- a read with this much room fails exactly at its numbers, where the faults are one more, and
-- else gives as much as it may
pub record Reads {E : Type 0} (before now : Feed) (room : ℕ) (result : Result ℕ E) : Type 0 where
  pub fails : IsErr result ↔ (is_failing before.failing (one_more before.calls) ≡ true)
  pub count : IfOk result (λ n. n ≡ min (min before.most room) (length before.left))
  pub refused : OnErr result (now.faults ≡ one_more before.faults)
  pub calls : now.calls ≡ one_more before.calls
  pub same_most : now.most ≡ before.most
  pub same_failing : now.failing ≡ before.failing

-- a write of this many bytes fails exactly at its numbers and without room, where the faults are
-- one more, and else takes as many as it may
pub record Writes {E : Type 0} (before now : Store) (size : ℕ) (result : Result ℕ E) : Type 0 where
  pub fails : IsErr result ↔ (is_failing before.failing (one_more before.calls)
      || before.room == 0 ≡ true)
  pub count : IfOk result (λ n. (n ≡ min (min before.most size) before.room)
      × (now.room ≡ before.room - n))
  pub refused : OnErr result ((now.room ≡ before.room) × (now.faults ≡ one_more before.faults))
  pub calls : now.calls ≡ one_more before.calls
  pub same_most : now.most ≡ before.most
  pub same_failing : now.failing ≡ before.failing

-- a finish fails exactly at its numbers, where the faults are one more
pub record Finishes {T E : Type 0} (before now : Store) (result : Result T E) : Type 0 where
  pub fails : IsErr result ↔ (is_failing before.failing (one_more before.calls) ≡ true)
  pub refused : OnErr result (now.faults ≡ one_more before.faults)
  pub calls : now.calls ≡ one_more before.calls
  pub same_room : now.room ≡ before.room
  pub same_most : now.most ≡ before.most
  pub same_failing : now.failing ≡ before.failing
