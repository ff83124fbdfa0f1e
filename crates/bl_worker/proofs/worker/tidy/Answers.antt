use Rattle.std.proofs.Common.{Option, sym, subst, ◌∙◌}
use Rattle.std.specs.Prelude.{IfSome}
use Rattle.bl_tree.specs.declared.answer.Born.{Born}
use Rattle.bl_tree.specs.Answers.{IsBorn}
use Rattle.bl_turn.specs.Seats.{view_of}
use Rattle.bl_shared.specs.Calls.{tree_seen}
use Rattle.bl_worker.specs.Loops.{IsKeptUp, HasTidied}
use Rattle.bl_worker.proofs.Steps.{kept_up_then, still_born, tidied_shut, tidied_between}
use Rattle.bl_worker.proofs.Steps.{tidied_fourth}
use Rattle.bl_worker.proofs.worker.tidy.Goals as goal
use Rattle.bl_worker.proofs.worker.tidy.Goals.{in-Some+then-count-eq0+in_ok-store_whole+in_ok-store_whole-2}
use Rattle.bl_worker.proofs.worker.tidy.Goals.{in-Some+else-count-eq0, in_default}

pub store_whole-requires-then-count-eq0-clause-born :
    goal.store_whole-requires-then-count-eq0-clause-born
store_whole-requires-then-count-eq0-clause-born g c = λ κs lives.
    still_born (view_of c.args.seat.now) (view_of c.store_whole.new.seat) c.in-Some.born.right
    c.in_ok-store_whole.ensures.kept
    (subst (λ (o : Option Born). IfSome o
    (λ b. IsBorn (tree_seen (view_of c.args.seat.now)) b.right)) c.in-Some.is c.requires.right)

pub returns-in_err-store_whole-2-clause-kept : goal.returns-in_err-store_whole-2-clause-kept
returns-in_err-store_whole-2-clause-kept g c =
    kept_up_then (view_of c.args.seat.now) (view_of c.store_whole.new.seat)
    (view_of c.store_whole-then-count-eq0.new.seat) c.in_ok-store_whole.ensures.kept
    c.in_err-store_whole-2.ensures.kept

pub returns-in_err-free_all-clause-kept : goal.returns-in_err-free_all-clause-kept
returns-in_err-free_all-clause-kept g c =
    elim c.match-born.branch [
      | in-Some+then-count-eq0+in_ok-store_whole+in_ok-store_whole-2 w ↦
          kept_up_then (view_of c.args.seat.now) (view_of w.store_whole-then-count-eq0.new.seat)
          (view_of c.free_all.new.seat)
          (kept_up_then (view_of c.args.seat.now) (view_of w.store_whole.new.seat)
          (view_of w.store_whole-then-count-eq0.new.seat) w.in_ok-store_whole.ensures.kept
          w.in_ok-store_whole-2.ensures.kept)
          (subst (λ s. IsKeptUp (view_of s) (view_of c.free_all.new.seat)) w.seat-is
          c.in_err-free_all.ensures.kept)
      | in-Some+else-count-eq0 w ↦ subst (λ s. IsKeptUp (view_of s) (view_of c.free_all.new.seat))
          w.seat-is c.in_err-free_all.ensures.kept
      | in_default w ↦ subst (λ s. IsKeptUp (view_of s) (view_of c.free_all.new.seat)) w.seat-is
          c.in_err-free_all.ensures.kept
    ]

pub returns-clause-kept : goal.returns-clause-kept
returns-clause-kept g c =
    elim c.match-born.branch [
      | in-Some+then-count-eq0+in_ok-store_whole+in_ok-store_whole-2 w ↦
          kept_up_then (view_of c.args.seat.now) (view_of w.store_whole-then-count-eq0.new.seat)
          (view_of c.free_all.new.seat)
          (kept_up_then (view_of c.args.seat.now) (view_of w.store_whole.new.seat)
          (view_of w.store_whole-then-count-eq0.new.seat) w.in_ok-store_whole.ensures.kept
          w.in_ok-store_whole-2.ensures.kept)
          (subst (λ s. IsKeptUp (view_of s) (view_of c.free_all.new.seat)) w.seat-is
          c.in_ok-free_all.ensures.kept)
      | in-Some+else-count-eq0 w ↦ subst (λ s. IsKeptUp (view_of s) (view_of c.free_all.new.seat))
          w.seat-is c.in_ok-free_all.ensures.kept
      | in_default w ↦ subst (λ s. IsKeptUp (view_of s) (view_of c.free_all.new.seat)) w.seat-is
          c.in_ok-free_all.ensures.kept
    ]

pub returns-clause-tidied : goal.returns-clause-tidied
returns-clause-tidied g c =
    let old = view_of c.args.seat.now in
    let new = view_of c.free_all.new.seat in
    let count = c.match-born.count in
    elim c.match-born.branch [
      | in-Some+then-count-eq0+in_ok-store_whole+in_ok-store_whole-2 w ↦
          subst (λ (o : Option Born). HasTidied old o count new) (sym w.in-Some.is)
          (tidied_fourth old (view_of w.store_whole.new.seat)
          (view_of w.store_whole-then-count-eq0.new.seat) new w.in-Some.born count
          w.in_ok-store_whole.ensures.kept w.in_ok-store_whole.ensures.whole
          w.in_ok-store_whole-2.ensures.kept w.in_ok-store_whole-2.ensures.whole
          (subst (λ s. IsKeptUp (view_of s) new) w.seat-is c.in_ok-free_all.ensures.kept))
      | in-Some+else-count-eq0 w ↦
          subst (λ (o : Option Born). HasTidied old o count new) (sym w.in-Some.is)
          (tidied_between old new w.in-Some.born count
          (λ e. w.if-count-eq0.false (sym w.count-is ∙ e))
          (subst (λ s. IsKeptUp (view_of s) new) w.seat-is c.in_ok-free_all.ensures.kept))
      | in_default w ↦
          subst (λ (o : Option Born). HasTidied old o count new) (sym w.in_default.is)
          (tidied_shut old new count (subst (λ s. IsKeptUp (view_of s) new) w.seat-is
          c.in_ok-free_all.ensures.kept))
    ]
