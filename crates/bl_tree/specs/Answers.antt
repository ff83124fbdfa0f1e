-- What the calls of a tree answer.
use Rattle.std.specs.Prelude.{ℕ, Bool, false, ◌+◌, ◌<◌, ℤ, length, filter, Option, Some, None}
use Rattle.std.specs.Prelude.{if◌then◌else◌, nat_lt}
use Rattle.bl_problem.specs.declared.cut.Cut.{Cut}
use Rattle.bl_desc.specs.declared.desc.Piece.{Piece}
use Rattle.bl_desc.specs.declared.desc.Form.{Form}
use Rattle.bl_desc.specs.declared.desc.Form.TheVariants.{Explicit, Relative}
use Rattle.bl_journal.specs.declared.outcome.Next.{Next}
use Rattle.bl_journal.specs.declared.outcome.Next.TheVariants.{Shut, Split}
use Rattle.bl_tree.specs.declared.answer.Born.{Born}
use Rattle.bl_tree.specs.declared.answer.Best.{Best}
use Rattle.bl_tree.specs.declared.answer.Glance.{Glance}
use Rattle.bl_tree.specs.declared.answer.Encoding.{Encoding}
use Rattle.bl_tree.specs.declared.answer.Encoding.TheVariants.{Open, Same, Fixed, Gone}
use Rattle.bl_tree.specs.declared.plan.Installed.{Installed}
use Rattle.bl_tree.specs.declared.plan.Installed.TheVariants.{Made as InstalledMade}
use Rattle.bl_tree.specs.declared.plan.Installed.TheVariants.{Same as InstalledSame}
use Rattle.bl_tree.specs.declared.plan.Installed.TheVariants.{Gone as InstalledGone}
use Rattle.bl_tree.specs.declared.answer.Answer.{Answer}
use Rattle.bl_tree.specs.declared.answer.Answer.TheVariants.{Optimal, Within, Infeasible, Bounded}
use Rattle.bl_journal.specs.Births.{nodes_of, node_at}
use Rattle.bl_journal.specs.States.{state_of, Found, best_of, value_if, value_less, used_of}
use Rattle.bl_journal.specs.States.{form_of, is_spanned}
use Rattle.bl_journal.specs.Replies.{ids_of, is_out}
use Rattle.bl_journal.specs.Pieces.{stored_of, held_of, is_freed}
use Rattle.bl_journal.specs.Results.{Verdict, optimal, within, infeasible, bounded, answer_of}
use Rattle.bl_journal.specs.Results.{final, lesser_of}
use Rattle.bl_tree.specs.Views.{TreeView, past_of}

abbrev pub born_count : TreeView → ℕ
born_count t = length (nodes_of t.problem (past_of t))

abbrev pub IsBorn : TreeView → ℕ → Type 0
IsBorn t id = id < born_count t

abbrev pub born_for : TreeView → Next → Option Born
born_for t Shut = None
born_for t (Split common column at left right) =
    Some (record { left = born_count t; right = born_count t + 1 })

abbrev pub stored_for : TreeView → ℕ → Option (Piece Cut)
stored_for t id =
    if nat_lt id (born_count t)
    then (if is_freed (state_of (past_of t) id) then None
    else Some (stored_of t.problem t.settings (past_of t) id))
    else None

abbrev pub held_for : TreeView → ℕ
held_for t = held_of t.problem t.settings (past_of t)

abbrev pub found_if : Option Best → Option Found
found_if None = None
found_if (Some b) = Some (record { value = b.value; point = b.point.now })

abbrev pub verdict_of : Answer → Verdict
verdict_of (Optimal value point) = optimal (record { value = value; point = point.now })
verdict_of (Within value bound point) = within (record { value = value; point = point.now }) bound
verdict_of Infeasible = infeasible
verdict_of (Bounded bound best) = bounded bound (found_if best)

-- the answer, from the gap, the best point and the least low number of the live nodes
abbrev pub verdict_from : ℤ → Option Found → Option ℤ → Verdict
verdict_from gap best None = final gap best
verdict_from gap best (Some low) = bounded (lesser_of low (value_less gap best)) best

abbrev pub verdict_for : TreeView → Verdict
verdict_for t = answer_of t.problem t.settings (past_of t)

abbrev pub glance_for : TreeView → Glance
glance_for t =
    record {
      nodes = born_count t;
      used = used_of (past_of t);
      out = length (filter (λ id. is_out (state_of (past_of t) id)) (ids_of t.problem (past_of t)));
      best = value_if (best_of t.problem (past_of t));
    }

abbrev pub is_freed_if : TreeView → Option ℕ → Bool
is_freed_if t None = false
is_freed_if t (Some id) = is_freed (state_of (past_of t) id)

-- a relative form is asked of an explicit node
abbrev pub related_for : TreeView → ℕ → Encoding
related_for t id =
    if is_spanned t.problem t.settings (past_of t) id
    then Fixed
    else (if is_freed_if t (node_at t.problem (past_of t) id).parent then Gone else Open)

abbrev pub encoding_from : TreeView → ℕ → Form → Form → Encoding
encoding_from t id Explicit Explicit = Same
encoding_from t id Relative Relative = Same
encoding_from t id Relative Explicit = Open
encoding_from t id Explicit Relative = related_for t id

-- Gone where the node is freed; else Same where it has the form; else Fixed where Relative is
-- asked and the span divides its depth; else Gone where Relative is asked and its parent is
-- freed; else Open
abbrev pub encoding_for : TreeView → ℕ → Form → Encoding
encoding_for t id form =
    if is_freed (state_of (past_of t) id) then Gone
    else encoding_from t id (form_of t.problem t.settings (past_of t) id) form

-- where the node is not freed
abbrev pub installed_from : TreeView → ℕ → Form → Form → Installed
installed_from t id Explicit Explicit = InstalledSame
installed_from t id Relative Relative = InstalledSame
installed_from t id Relative Explicit = InstalledMade
installed_from t id Explicit Relative = if is_freed_if t (node_at t.problem (past_of t) id).parent
    then InstalledGone else InstalledMade

-- Gone where the node is freed, or the form is relative and its parent is freed; else Same where
-- it has the form; else Made
abbrev pub installed_for : TreeView → ℕ → Form → Installed
installed_for t id form =
    if is_freed (state_of (past_of t) id) then InstalledGone
    else installed_from t id (form_of t.problem t.settings (past_of t) id) form

-- the same, from how the node stands to the form
abbrev pub installed_as : Encoding → Installed
installed_as Open = InstalledMade
installed_as Same = InstalledSame
installed_as Fixed = InstalledGone
installed_as Gone = InstalledGone
