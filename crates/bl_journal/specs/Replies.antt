-- Which node a take gives.
use Rattle.std.specs.Prelude.{ℕ, suc, zero, Bool, true, false, ◌&&◌, ◌||◌, nat_lt, List, [], ◌∷◌}
use Rattle.std.specs.Prelude.{◌++◌, length, Option, Some, None, if◌then◌else◌}
use Rattle.bl_problem.specs.Program.{Program}
use Rattle.bl_journal.specs.declared.entry.Entry.{Entry}
use Rattle.bl_journal.specs.declared.settings.Settings.{Settings}
use Rattle.bl_pool.specs.declared.key.Key.{Key}
use Rattle.bl_pool.specs.Orders.{before}
use Rattle.bl_journal.specs.Births.{nodes_of, node_at}
use Rattle.bl_journal.specs.States.{state_of, is_open, used_of}
use Rattle.bl_journal.specs.declared.state.State.{State}
use Rattle.bl_journal.specs.declared.state.State.TheVariants.{Waiting as waiting, Out as out}
use Rattle.bl_journal.specs.declared.state.State.TheVariants.{Split as split, Shut as shut}
use Rattle.bl_journal.specs.declared.state.State.TheVariants.{Freed as freed}

-- 0, 1, .. below n
abbrev pub ids_below : ℕ → List ℕ
ids_below zero = []
ids_below (suc n) = ids_below n ++ n ∷ []

-- the nodes that are born
abbrev pub ids_of : Program → List Entry → List ℕ
ids_of p past = ids_below (length (nodes_of p past))

abbrev pub is_waiting : State → Bool
is_waiting waiting = true
is_waiting (out seat) = false
is_waiting split = false
is_waiting shut = false
is_waiting freed = false

abbrev pub is_out : State → Bool
is_out (out seat) = true
is_out waiting = false
is_out split = false
is_out shut = false
is_out freed = false

-- what the order sees of a node
abbrev pub key_of : Program → List Entry → ℕ → Key
key_of p past id =
    record { id = id; low = (node_at p past id).low; depth = (node_at p past id).depth }

abbrev pub preferred : (ℕ → ℕ → Bool) → Option ℕ → ℕ → Option ℕ
preferred comes None n = Some n
preferred comes (Some i) n = if comes n i then Some n else Some i

-- the first among the fit numbers below n; the least of those that come equally early
abbrev pub first_below : (ℕ → ℕ → Bool) → (ℕ → Bool) → ℕ → Option ℕ
first_below comes fit zero = None
first_below comes fit (suc n) =
    if fit n then preferred comes (first_below comes fit n) n else first_below comes fit n

abbrev pub waits_live : Program → Settings → List Entry → ℕ → Bool
waits_live p s past id = is_waiting (state_of past id) && is_open p s past id

-- the first live waiting node in the order
abbrev pub next_of : Program → Settings → List Entry → Option ℕ
next_of p s past =
    first_below (λ i j. before s.order (key_of p past i) (key_of p past j)) (waits_live p s past)
    (length (nodes_of p past))

-- whether a number below n passes
abbrev pub any_below : (ℕ → Bool) → ℕ → Bool
any_below test zero = false
any_below test (suc n) = any_below test n || test n

abbrev pub any_out : Program → List Entry → Bool
any_out p past = any_below (λ id. is_out (state_of past id)) (length (nodes_of p past))

pub data Reply : Type 0 where
  gives : (id : ℕ) → Reply
  idle : Reply
  done : Reply
  spent : Reply

abbrev pub reply_for : Option ℕ → Bool → Bool → Reply
reply_for (Some id) left someone = if left then gives id else spent
reply_for None left someone = if someone then idle else done

unfoldable pub take_reply : Program → Settings → List Entry → Reply
take_reply p s past = reply_for (next_of p s past) (nat_lt (used_of past) s.nodes) (any_out p past)
