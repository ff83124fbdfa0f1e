-- The problem that no point meets, and what may be put for its nodes.
use Rattle.std.proofs.Common.{◌≡◌, ℕ, ◌+◌, ◌-◌, ◌≤◌, ◌<◌, List, [], ◌∷◌, ◌++◌, length, refl, ap}
use Rattle.std.proofs.Common.{sym, ◌∙◌, subst, arith, Some, None, All, length-append}
use Rattle.std.proofs.Common.{append_assoc, ◌≤ℤ◌, ◌<ℤ◌}
use Rattle.std.specs.Prelude.{ℤ, pos, Option, reverse, slice_index_or, AllPairs, ◌≢◌}
use Rattle.std.proofs.lemmas.Int.{ints}
use Rattle.bl_problem.specs.Program.{Program}
use Rattle.bl_problem.specs.Points.{IsFeasible}
use Rattle.bl_problem.specs.declared.cut.Cut.{Cut}
use Rattle.bl_desc.specs.declared.desc.Desc.{Desc}
use Rattle.bl_desc.specs.declared.desc.Form.{Form}
use Rattle.bl_desc.specs.declared.desc.Piece.{Piece}
use Rattle.bl_desc.specs.declared.change.Change.{Change}
use Rattle.bl_desc.specs.Changes.{changed, nothing}
use Rattle.bl_journal.specs.declared.entry.Entry.{Entry}
use Rattle.bl_journal.specs.declared.entry.Entry.TheVariants.{Put}
use Rattle.bl_journal.specs.declared.entry.Step.TheVariants.{Split as SplitStep}
use Rattle.bl_journal.specs.declared.outcome.Outcome.{Outcome}
use Rattle.bl_journal.specs.declared.outcome.Next.{Next}
use Rattle.bl_journal.specs.declared.outcome.Next.TheVariants.{Shut, Split}
use Rattle.bl_journal.specs.declared.settings.Settings.{Settings}
use Rattle.bl_journal.specs.Births.{nodes_of, node_at}
use Rattle.bl_journal.specs.Descriptions.{full_of, left_child, right_child}
use Rattle.bl_journal.specs.Pieces.{stored_of, form_at_birth, piece_below}
use Rattle.bl_journal.specs.Soundness.{IsSound, SplitsWell, IsInQuestion, cutoff_with}
use Rattle.bl_journal.specs.Legality.{MayPut, IsNewId, most_new_cuts, step_of, SplitPut}
use Rattle.bl_journal.specs.States.{cutoff_of}
use Rattle.bl_desc.proofs.Nothing.{unchanged}
use Rattle.bl_journal.proofs.Nothing.{nothing_fits}
use Rattle.bl_journal.proofs.Growth.{reverse-push}
use Rattle.bl_journal.proofs.Births.{children_follow}
use Rattle.bl_journal.proofs.Newborns.{children_stored}
use Rattle.bl_tree.specs.Views.{TreeView, LeaseView, past_of, extended, IsLegalTree, IsLeaseOf}
use Rattle.bl_tree.specs.Views.{IsPutFor, PiecesStored}
use Rattle.bl_tree.specs.Jobs.{PlanView, JobView, IsPlanOf, IsJobOf, IsMadeOf, JobsStay}
use Rattle.bl_tree.specs.Jobs.{PlansMakeJobs, later}
use Rattle.bl_tree.specs.declared.plan.Planned.TheVariants.{Chain}
use Rattle.bl_shared.specs.declared.locked.TreeBase.{TreeBase}
use Rattle.bl_shared.specs.Calls.{Knows, HasSeen, IsCall, PlansIn, tree_at, tree_seen, base_in}
use Rattle.bl_rows.specs.Shared.{hopeless, never, base_for, IsOutcome, ArePieces}

-- no point is feasible
pub never_feasible : (high : ℤ) (x : List ℤ) → IsFeasible (hopeless high) x → ⊥
never_feasible high x f =
    let h : pos 1 ≤ℤ pos 0 = (f.rows 0 never (omega arith)).low in
    absurd (omega (arith, ints, h))

never_low : (high : ℤ) (d : Desc Cut) (cutoff : Option ℤ) (x : List ℤ)
    → IsInQuestion (hopeless high) d cutoff x → ⊥
never_low high d cutoff x q = never_feasible high x q.feasible

pub shut_outcome : (d : Desc Cut) (form : Form)
    → IsOutcome d form (record { found = None; low = pos 0; next = Shut })
shut_outcome d form =
    record {
      sound = λ high cutoff. record {
        found_ok = tt;
        low_ok = λ x q. absurd (never_low high d _ x q);
        next_ok = λ x q. never_low high d _ x q;
      };
      no_cuts = refl;
      pieces = tt;
    }

-- a split that changes nothing else
pub split_outcome : (d lower upper : Desc Cut) (form : Form) (common : Change Cut) (column : ℕ)
    (at : ℤ) (left right : Piece Cut) → d.cuts ≡ [] → column < length d.lows
    → slice_index_or d.lows column (pos 0) ≤ℤ at → at <ℤ slice_index_or d.highs column (pos 0)
    → common ≡ nothing → lower ≡ left_child d column at → upper ≡ right_child d column at
    → left ≡ piece_below d form lower → right ≡ piece_below d form upper
    → IsOutcome d form (record {
      found = None;
      low = pos 0;
      next =
          Split common column at left right;
    })
split_outcome d lower upper form common column at left right none inside low high is is_lower
    is_upper l r =
    let ids : AllPairs (λ (a b : Cut). a.id ≢ b.id) d.cuts =
    subst (AllPairs (λ (a b : Cut). a.id ≢ b.id)) (sym none)
    (λ i j a b h k. absurd (omega (arith, h))) in
    let few : length d.cuts ≤ 200 =
    subst (λ (cuts : List Cut). length cuts ≤ 200) (sym none) (omega arith) in
    let child : Change Cut → Desc Cut = λ c. changed c d in
    let same : changed common d ≡ d = ap child is ∙ unchanged d in
    record {
      sound = λ top cutoff. record {
        found_ok = tt;
        low_ok = λ x q. absurd (never_low top d _ x q);
        next_ok =
            subst (λ (c : Change Cut). SplitsWell (hopeless top) d
            (cutoff_with (hopeless top) cutoff None) c column at) (sym is) (record {
              common_fits = nothing_fits d ids few;
              meets = λ x q. tt;
              cuts_suit = λ k e i. absurd (omega (arith, i));
              cuts_valid = λ k e i. absurd (omega (arith, i));
              column_in = inside;
              low_at_most = low;
              below_high = high;
            });
      };
      no_cuts = ap (λ (c : Change Cut). c.cuts.added) is;
      pieces = (
        l ∙ ap (piece_below d form)
            (is_lower ∙ ap (λ (x : Desc Cut). left_child x column at) (sym same)),
        r ∙ ap (piece_below d form)
            (is_upper ∙ ap (λ (x : Desc Cut). right_child x column at) (sym same)),
      );
    }

-- the form of the children of a node
abbrev pub form_under : TreeView → ℕ → Form
form_under t id = form_at_birth t.settings.span ((node_at t.problem (past_of t) id).depth + 1)

pieces_fit : (t : TreeView) (seat id : ℕ) (found : Option (List ℤ)) (low : ℤ) (next : Next)
    → IsLegalTree t → MayPut t.problem t.settings (past_of t) seat id found low (step_of next)
    → ArePieces (full_of t.problem (past_of t) id) (form_under t id) next
    → PiecesStored (extended t (Put seat id found low (step_of next))) next
pieces_fit t seat id found low Shut legal may pieces = tt
pieces_fit t seat id found low (Split common column at left right) legal may pieces =
    let p : Program = t.problem in
    let s : Settings = t.settings in
    let past : List Entry = past_of t in
    let e : Entry = Put seat id found low (SplitStep common column at) in
    let d : Desc Cut = full_of p past id in
    let put : SplitPut p s past = record {
      seat = seat;
      id = id;
      found = found;
      low =
          low;
      common = common;
      column = column;
      at = at;
      may = may;
    } in
    let follow = children_follow p s past put in
    let stored = children_stored p s past put legal.steps in
    let turned : reverse (t.history ++ e ∷ []) ≡ e ∷ past = reverse-push t.history e in
    let n : ℕ = length (nodes_of p (e ∷ past)) in
    let len : n ≡ length (nodes_of p past) + 2 = length-append (nodes_of p past) _ in
    let first : n - 2 ≡ length (nodes_of p past) = omega (arith, len) in
    let second : n - 1 ≡ length (nodes_of p past) + 1 = omega (arith, len) in
    let l : stored_of p s (e ∷ past) (n - 2)
    ≡ piece_below d (form_under t id) (left_child (changed common d) column at) =
    ap (stored_of p s (e ∷ past)) first
    ∙ (stored.left ∙ ap (piece_below d (form_under t id)) follow.left) in
    let r : stored_of p s (e ∷ past) (n - 1)
    ≡ piece_below d (form_under t id) (right_child (changed common d) column at) =
    ap (stored_of p s (e ∷ past)) second
    ∙ (stored.right ∙ ap (piece_below d (form_under t id)) follow.right) in (
      pieces.0 ∙ sym (ap (λ h. stored_of p s h (length (nodes_of p h) - 2)) turned ∙ l),
      pieces.1
          ∙ sym (ap (λ h. stored_of p s h (length (nodes_of p h) - 1)) turned ∙ r),
    )

pub put_fits : (t : TreeView) (high : ℤ) (seat : ℕ) (lease : LeaseView) (o : Outcome)
    → IsLegalTree t → t.problem ≡ hopeless high → IsLeaseOf t seat lease
    → IsOutcome (full_of t.problem (past_of t) lease.id) (form_under t lease.id) o
    → IsPutFor t seat lease o
put_fits t high seat lease o legal is leased w =
    let may : MayPut t.problem t.settings (past_of t) seat lease.id o.found o.low (step_of o.next) =
    record {
      is_out = leased.is_out;
      sound = subst (λ (p : Program). IsSound p (full_of t.problem (past_of t) lease.id)
          (cutoff_of t.problem t.settings (past_of t) lease.id) o.found o.low (step_of o.next))
          (sym is) (w.sound high _);
      few_cuts = subst (λ (cuts : List Cut). length cuts
          ≤ most_new_cuts (node_at t.problem (past_of t) lease.id).depth) (sym w.no_cuts)
          (omega arith);
      new_ids = subst (λ (cuts : List Cut). All (λ (c : Cut). IsNewId (past_of t) seat c.id) cuts)
          (sym w.no_cuts) (λ k e i. absurd (omega (arith, i)));
    } in
    record {
      leased = leased;
      allowed = may;
      pieces = pieces_fit t seat lease.id o.found o.low o.next legal may w.pieces;
    }

pub some_is : (a b : Desc Cut) → Some a ≡ Some b → a ≡ b
some_is a b e = cc

-- the tree that the seat has seen
pub problem_is : (v : Knows) (high : ℤ) (nodes : ℕ) → v.base ≡ Some (base_for high nodes)
    → (tree_seen v).problem ≡ hopeless high
problem_is v high nodes is = ap (λ (o : Option TreeBase). (base_in o).problem) is

pub span_is : (v : Knows) (high : ℤ) (nodes : ℕ) → v.base ≡ Some (base_for high nodes)
    → (tree_seen v).settings.span ≡ 8
span_is v high nodes is = ap (λ (o : Option TreeBase). (base_in o).settings.span) is

-- a job stays one under a call
pub job_after : (v w : Knows) (added : List Entry) (call : TreeView → TreeView → Type 0)
    (job : JobView) → JobsStay → HasSeen v → IsCall v added call w → IsJobOf (tree_seen v) job
    → IsJobOf (tree_seen w) job
job_after v w added call job stay seen c j =
    let now : later (tree_seen v) (c.others ++ added) ≡ tree_seen w =
    ap (tree_at v) (sym (append_assoc v.seen c.others added)) ∙ sym (ap tree_seen c.is) in
    subst (λ (t : TreeView). IsJobOf t job) now
    (stay (tree_seen v) (c.others ++ added) job seen.legal j)

-- what is made of a plan that was just made is a job for the tree
pub job_made : (v w : Knows) (id : ℕ) (form : Form) (plan : PlanView) (job : JobView)
    → PlansMakeJobs → PlansIn v id form (Chain plan) w → IsMadeOf plan job
    → IsJobOf (tree_seen w) job
job_made v w id form plan job make c made =
    make (tree_seen w) plan job (subst (λ (t : TreeView). IsPlanOf t plan) (sym c.called.0)
    c.called.1.1.of_tree) made
