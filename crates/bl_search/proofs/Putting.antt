-- The outcome of the work may be put in.
use Rattle.std.proofs.Common.{◌≡◌, ℕ, zero, suc, ◌+◌, ◌-◌, ◌<◌, ◌≤◌, ℤ, ◌≤ℤ◌, List, [], ◌∷◌, ◌++◌}
use Rattle.std.proofs.Common.{length, ap, sym, ◌∙◌, subst, arith, Some, Option, inl, inr, ◌⊎◌}
use Rattle.std.proofs.Common.{Bool, true, false, cond, length-append, All}
use Rattle.std.specs.Prelude.{reverse, int_le, nat_le, ◌==◌}
use Rattle.std.proofs.lemmas.Int.{ints}
use Rattle.std.proofs.lemmas.Bool.{and_parts}
use Rattle.bl_num.specs.Exact.{at}
use Rattle.bl_problem.specs.Program.{Program, IsProgram}
use Rattle.bl_problem.specs.declared.cut.Cut.{Cut}
use Rattle.bl_desc.specs.declared.desc.Desc.{Desc}
use Rattle.bl_desc.specs.declared.desc.Form.{Form}
use Rattle.bl_desc.specs.declared.desc.Form.TheVariants.{Explicit, Relative}
use Rattle.bl_desc.specs.declared.change.Change.{Change}
use Rattle.bl_desc.specs.Changes.{changed}
use Rattle.bl_desc.proofs.Canonical.{changed-difference}
use Rattle.bl_journal.specs.declared.entry.Entry.{Entry}
use Rattle.bl_journal.specs.declared.entry.Entry.TheVariants.{Put}
use Rattle.bl_journal.specs.declared.entry.Step.TheVariants.{Split as SplitStep}
use Rattle.bl_journal.specs.declared.outcome.Outcome.{Outcome}
use Rattle.bl_journal.specs.declared.outcome.Next.{Next}
use Rattle.bl_journal.specs.declared.outcome.Next.TheVariants.{Shut, Split}
use Rattle.bl_journal.specs.declared.settings.Settings.{Settings}
use Rattle.bl_journal.specs.Births.{nodes_of, node_at}
use Rattle.bl_journal.specs.Descriptions.{full_of, left_child, right_child}
use Rattle.bl_journal.specs.States.{has_point, state_of, cutoff_of}
use Rattle.bl_journal.specs.declared.state.State.TheVariants.{Out as out}
use Rattle.bl_journal.specs.Pieces.{stored_of, form_at_birth, piece_below}
use Rattle.bl_journal.specs.Legality.{MayPut, SplitPut, step_of, most_new_cuts, IsNewId}
use Rattle.bl_journal.specs.Laws.{LeasesAreWorkable, ChildrenFollow, NewbornsAreStored}
use Rattle.bl_journal.specs.Laws.{CutsWereAdded}
use Rattle.bl_journal.proofs.Growth.{reverse-push}
use Rattle.bl_journal.proofs.Leaves.{shape, out_born}
use Rattle.bl_tree.specs.Views.{TreeView, LeaseView, past_of, extended, put_entry, IsLegalTree}
use Rattle.bl_tree.specs.Views.{IsLeaseOf, IsPutFor, PiecesStored}
use Rattle.bl_branch.specs.Calls.{Calls}
use Rattle.bl_node.specs.declared.limits.Limits.{Limits}
use Rattle.bl_node.specs.Standing.{IsNode}
use Rattle.bl_cover.specs.declared.separator.Try.{Try}
use Rattle.bl_node.specs.Names.{AreNamedBelow, AreNumbered}
use Rattle.bl_node.specs.Outcomes.{common_of, form_of}
use Rattle.bl_node.specs.Promise.{IsPromised, SplitsAsPromised, added_in}
use Rattle.bl_search.specs.Searches.{AreSerialsBelow, AreLimitsAt}
use Rattle.bl_search.proofs.Serials.{named_below, numbered_new, added_step}

-- a box with a point, column by column
pub each_point : (lows highs : List ℤ) → length highs ≡ length lows → has_point lows highs ≡ true
    → (j : ℕ) → j < length lows → at lows j ≤ℤ at highs j
each_point [] highs e h j l = absurd (omega (arith, l))
each_point (a ∷ lows) [] e h j l = absurd (omega (arith, e))
each_point (a ∷ lows) (b ∷ highs) e h zero l = let parts =
    and_parts (int_le a b) (has_point lows highs) h in grind (arith, ints, parts.0)
each_point (a ∷ lows) (b ∷ highs) e h (suc j) l =
    each_point lows highs (omega (arith, e)) (and_parts (int_le a b) (has_point lows highs) h).1 j
    (omega (arith, l))

-- the description of a node that is out is that of a node to work on
pub is-node : LeasesAreWorkable → (t : TreeView) (seat id : ℕ) → IsLegalTree t
    → IsProgram t.problem → state_of (past_of t) id ≡ out seat
    → IsNode t.problem (full_of t.problem (past_of t) id)
is-node laws t seat id legal program o =
    let w = laws t.problem t.settings t.history legal id seat o in
    let near = w.near program in
    record {
      describes = record {
        lows = w.desc.columns;
        highs = w.desc.whole.highs ∙ w.desc.columns;
        near_lows = near.lows;
        near_highs = near.highs;
        few_cuts = w.desc.few;
        cuts = w.suit;
      };
      whole = w.desc.whole;
      rows = w.desc.rows;
      few_columns = rw w.desc.columns program.few_columns;
      few_rows = rw w.desc.rows program.few_rows;
      ids = w.desc.ids;
      cuts = w.valid;
    }

-- the cuts of a node that is out carry serial numbers of before
pub names-below : CutsWereAdded → (t : TreeView) (seat id serial : ℕ) → IsLegalTree t
    → state_of (past_of t) id ≡ out seat → AreSerialsBelow seat serial (past_of t)
    → AreNamedBelow seat serial (full_of t.problem (past_of t) id).cuts
names-below law t seat id serial legal o h =
    named_below seat serial (past_of t) (full_of t.problem (past_of t) id).cuts h
    (law t.problem t.settings t.history legal id
    (out_born t.problem (past_of t) id seat
    (shape t.problem t.settings (past_of t) legal.steps) o))

-- the form of the children of a node
abbrev pub form_under : TreeView → ℕ → Form
form_under t id = form_at_birth t.settings.span ((node_at t.problem (past_of t) id).depth + 1)

-- the children of a split, after the common change, are what is stored of them
split_stored : ChildrenFollow → NewbornsAreStored
    → (t : TreeView) (seat id : ℕ) (found : Option (List ℤ)) (low : ℤ) (common : Change Cut)
    (column : ℕ) (at_most : ℤ) (d : Desc Cut) → IsLegalTree t
    → MayPut t.problem t.settings (past_of t) seat id found low (SplitStep common column at_most)
    → changed common (full_of t.problem (past_of t) id) ≡ d
    → PiecesStored (extended t (Put seat id found low (SplitStep common column at_most)))
    (Split common column at_most (piece_below (full_of t.problem (past_of t) id) (form_under t id)
    (left_child d column at_most))
    (piece_below (full_of t.problem (past_of t) id) (form_under t id)
    (right_child d column at_most)))
split_stored children stored t seat id found low common column at_most d legal may is =
    let p : Program = t.problem in
    let s : Settings = t.settings in
    let past : List Entry = past_of t in
    let e : Entry = Put seat id found low (SplitStep common column at_most) in
    let f : Desc Cut = full_of p past id in
    let turned : reverse (t.history ++ e ∷ []) ≡ e ∷ past = reverse-push t.history e in
    let n : ℕ = length (nodes_of p (e ∷ past)) in
    let len : n ≡ length (nodes_of p past) + 2 = length-append (nodes_of p past) _ in
    let first : n - 2 ≡ length (nodes_of p past) = omega (arith, len) in
    let second : n - 1 ≡ length (nodes_of p past) + 1 = omega (arith, len) in
    let put : SplitPut p s past = record {
      seat = seat;
      id = id;
      found = found;
      low =
          low;
      common = common;
      column = column;
      at = at_most;
      may = may;
    } in
    let follow = children p s t.history legal put in
    let newborn = stored p s t.history legal put in
    let left : full_of p (e ∷ past) (length (nodes_of p past)) ≡ left_child d column at_most =
    follow.left ∙ ap (λ (x : Desc Cut). left_child x column at_most) is in
    let right : full_of p (e ∷ past) (length (nodes_of p past) + 1) ≡ right_child d column at_most =
    follow.right ∙ ap (λ (x : Desc Cut). right_child x column at_most) is in
    let l : stored_of p s (e ∷ past) (n - 2)
    ≡ piece_below f (form_under t id) (left_child d column at_most) =
    ap (stored_of p s (e ∷ past)) first
    ∙ (newborn.left ∙ ap (piece_below f (form_under t id)) left) in
    let r : stored_of p s (e ∷ past) (n - 1)
    ≡ piece_below f (form_under t id) (right_child d column at_most) =
    ap (stored_of p s (e ∷ past)) second
    ∙ (newborn.right ∙ ap (piece_below f (form_under t id)) right) in (
      sym (ap (λ h. stored_of p s h (length (nodes_of p h) - 2)) turned ∙ l),
      sym
          (ap (λ h. stored_of p s h (length (nodes_of p h) - 1)) turned ∙ r),
    )

-- the pieces of an outcome are what is stored
pieces_for : {F : Type 0} (g : Calls F) (closure : F) → ChildrenFollow → NewbornsAreStored
    → (t : TreeView) (seat id : ℕ) (form : Form) (o : Outcome) → IsLegalTree t
    → IsNode t.problem (full_of t.problem (past_of t) id) → form ≡ form_under t id
    → MayPut t.problem t.settings (past_of t) seat id o.found o.low (step_of o.next)
    → (o.next ≡ Shut) ⊎ SplitsAsPromised g closure t.problem (full_of t.problem (past_of t) id)
    form o → PiecesStored (extended t (put_entry seat id o)) o.next
pieces_for g closure children stored t seat id form o legal node same may (inl e) =
    subst (λ (n : Next). PiecesStored (extended t (Put seat id o.found o.low (step_of n))) n)
    (sym e) tt
pieces_for g closure children stored t seat id form o legal node same may (inr k) =
    let f : Desc Cut = full_of t.problem (past_of t) id in
    let d : Desc Cut = k.work.desc in
    let is : changed (common_of f d) f ≡ d = changed-difference (λ (c : Cut). c.id) f d node.whole
    k.narrows.whole k.narrows.low_width (sym k.narrows.rows) k.narrows.part in
    let allowed = subst (λ (n : Next). MayPut t.problem t.settings (past_of t) seat id o.found
    o.low (step_of n)) k.is.next may in
    subst (λ (n : Next). PiecesStored (extended t (Put seat id o.found o.low (step_of n))) n)
    (sym k.is.next)
    (rw same (split_stored children stored t seat id o.found o.low (common_of f d) k.place.column
    k.place.at d legal allowed is))

-- an outcome as it was promised may be put in
pub put_fits : {F : Type 0} (g : Calls F) (closure : F) (allows : Desc Cut → Try → Type 0)
    → ChildrenFollow → NewbornsAreStored → (t : TreeView) (lease : LeaseView) (limits : Limits)
    (span seat serial : ℕ) (o : Outcome) → IsLegalTree t → IsLeaseOf t seat lease
    → IsNode t.problem (full_of t.problem (past_of t) lease.id)
    → AreSerialsBelow seat serial (past_of t) → AreLimitsAt span lease.depth seat serial limits
    → form_of limits ≡ form_under t lease.id
    → IsPromised g closure allows t.problem (full_of t.problem (past_of t) lease.id)
    (cutoff_of t.problem t.settings (past_of t) lease.id) limits o → IsPutFor t seat lease o
put_fits g closure allows children stored t lease limits span seat serial o legal leased node
    names at_depth form k =
    let few : length (added_in o.next)
    ≤ most_new_cuts (node_at t.problem (past_of t) lease.id).depth =
    let a = k.adds.few in
    let b = subst (λ (d : ℕ). limits.new_cuts ≤ most_new_cuts d) leased.depth at_depth.few_cuts in
    omega (arith, a, b) in
    let numbered : AreNumbered seat limits.serial (added_in o.next) =
    subst (λ (s : ℕ). AreNumbered s limits.serial (added_in o.next)) at_depth.seat_is
    k.adds.numbered in
    let new = numbered_new seat serial (past_of t) (added_in o.next) limits.serial numbered
    (let e = at_depth.serial_is in omega (arith, e)) names in
    let may : MayPut t.problem t.settings (past_of t) seat lease.id o.found o.low (step_of o.next) =
    record {
      is_out = leased.is_out;
      sound = k.sound;
      few_cuts = subst (λ (cuts : List Cut). length cuts
          ≤ most_new_cuts (node_at t.problem (past_of t) lease.id).depth)
          (sym (added_step o.next)) few;
      new_ids = subst (All (λ (c : Cut). IsNewId (past_of t) seat c.id)) (sym (added_step o.next))
          new;
    } in
    record {
      leased = leased;
      allowed = may;
      pieces =
          pieces_for g closure children stored t seat lease.id (form_of limits) o legal node form
          may k.split;
    }

-- the form by the limits is that of the children
pub form_is : (t : TreeView) (lease : LeaseView) (span seat serial : ℕ) (limits : Limits)
    → t.settings.span ≡ span → lease.depth ≡ (node_at t.problem (past_of t) lease.id).depth
    → AreLimitsAt span lease.depth seat serial limits → form_of limits ≡ form_under t lease.id
form_is t lease span seat serial limits same depth h =
    ap (λ (b : Bool). cond b Explicit Relative) h.explicit
    ∙ ap (λ (n : ℕ). form_at_birth span (n + 1)) depth
    ∙ ap (λ (n : ℕ). form_at_birth n ((node_at t.problem (past_of t) lease.id).depth + 1))
    (sym same)

pub few_new : (depth : ℕ) → most_new_cuts depth ≤ 20
few_new depth = by (depth == 0) (nat_le depth 8)
  where
    by : (a b : Bool) → cond a 20 (cond b 2 0) ≤ 20
    by true b = omega arith
    by false true = omega arith
    by false false = omega arith

pub some_is : (a b : Desc Cut) → Some a ≡ Some b → a ≡ b
some_is a b e = cc
