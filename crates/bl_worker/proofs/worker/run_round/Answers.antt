use Rattle.std.proofs.Common.{subst}
use Rattle.bl_tree.specs.declared.lease.Taken.{Taken}
use Rattle.bl_journal.specs.declared.entry.Entry.TheVariants.{Take}
use Rattle.bl_journal.specs.Replies.{done as says_done, spent as says_spent}
use Rattle.bl_turn.specs.Seats.{view_of, number}
use Rattle.bl_search.specs.Places.{MayAnswer}
use Rattle.bl_shared.specs.Calls.{TakesIn}
use Rattle.bl_worker.proofs.Steps.{kept_up_by, looks_kept, on_err}
use Rattle.bl_worker.proofs.Rounds.{worked, grows_worked, grows_kept, fails_back, fails_tidy}
use Rattle.bl_worker.proofs.Rounds.{kept_between, left_born, right_born, was_told}
use Rattle.bl_worker.proofs.Serials.{call_serials, kept_serials}
use Rattle.bl_worker.proofs.Splitting.{call_places, kept_places}
use Rattle.bl_worker.proofs.worker.run_round.Goals as goal

pub returns-in_err-lease-clause-places : goal.returns-in_err-lease-clause-places
returns-in_err-lease-clause-places g c =
    let a = view_of c.args.seat.now in
    let b = view_of c.take.new.seat in
    kept_places (MayAnswer g.F.Fn c.args.rule.now.closure) a b
    (looks_kept a b c.in_err-lease.ensures.err) c.requires.places

pub finish-requires-clause-serials : goal.finish-requires-clause-serials
finish-requires-clause-serials g c κs within =
    let taken =
    subst (λ (x : Taken). TakesIn (view_of c.args.seat.now) x (view_of c.take.new.seat))
    c.in-Node.is c.in_ok-lease.ensures.taken in
    call_serials (view_of c.args.seat.now) (view_of c.take.new.seat)
    (Take (number c.args.seat.now) c.in-Node.lease.id) _ c.args.serial taken
    c.in_ok-lease.ensures.seat.2.legal tt c.requires.serials

pub finish-requires-clause-places : goal.finish-requires-clause-places
finish-requires-clause-places g c κs within =
    let taken =
    subst (λ (x : Taken). TakesIn (view_of c.args.seat.now) x (view_of c.take.new.seat))
    c.in-Node.is c.in_ok-lease.ensures.taken in
    call_places (MayAnswer g.F.Fn c.args.rule.now.closure) (view_of c.args.seat.now)
    (view_of c.take.new.seat) (Take (number c.args.seat.now) c.in-Node.lease.id) _ taken tt
    c.requires.places

pub returns-in_err-born-in-Node-clause-err : goal.returns-in_err-born-in-Node-clause-err
returns-in_err-born-in-Node-clause-err g c =
    let taken =
    subst (λ (x : Taken). TakesIn (view_of c.args.seat.now) x (view_of c.take.new.seat))
    c.in-Node.is c.in_ok-lease.ensures.taken in
    let a = view_of c.args.seat.now in
    let b = view_of c.take.new.seat in
    let lease = c.in-Node.lease in
    on_err _ c.from_residual-in_err-born-in-Node.result
    (fails_back a b (view_of c.finish.new.seat) c.args.splits lease.id _ _ c.requires.between
    taken c.in_err-born-in-Node.ensures.back)

pub tidy-requires-clause-left : goal.tidy-requires-clause-left
tidy-requires-clause-left g c κs within =
    let put = c.in_ok-born-in-Node.ensures.put in
    left_born _ _ _ _ put.0 c.in_ok-born-in-Node.field-0.born put.1.called.1 put.1.called.2

pub tidy-requires-clause-right : goal.tidy-requires-clause-right
tidy-requires-clause-right g c κs within =
    let put = c.in_ok-born-in-Node.ensures.put in
    right_born _ _ _ _ put.0 c.in_ok-born-in-Node.field-0.born put.1.called.1 put.1.called.2

pub returns-in_err-splits-in-Node-clause-err : goal.returns-in_err-splits-in-Node-clause-err
returns-in_err-splits-in-Node-clause-err g c =
    let taken =
    subst (λ (x : Taken). TakesIn (view_of c.args.seat.now) x (view_of c.take.new.seat))
    c.in-Node.is c.in_ok-lease.ensures.taken in
    let a = view_of c.args.seat.now in
    let b = view_of c.take.new.seat in
    let lease = c.in-Node.lease in
    let put = c.in_ok-born-in-Node.ensures.put in
    on_err _ c.from_residual-in_err-splits-in-Node.result
    (fails_tidy a b (view_of c.finish.new.seat) (view_of c.tidy.new.seat) c.args.splits lease.id
    put.0 _ _ c.requires.between taken put.1 c.in_err-splits-in-Node.ensures.kept)

pub returns-in_err-splits-in-Node-clause-places : goal.returns-in_err-splits-in-Node-clause-places
returns-in_err-splits-in-Node-clause-places g c =
    kept_places (MayAnswer g.F.Fn c.args.rule.now.closure) (view_of c.finish.new.seat)
    (view_of c.tidy.new.seat) c.in_err-splits-in-Node.ensures.kept
    c.in_ok-born-in-Node.ensures.places

pub returns-in_ok-splits-in-Node-clause-ok : goal.returns-in_ok-splits-in-Node-clause-ok
returns-in_ok-splits-in-Node-clause-ok g c =
    let taken =
    subst (λ (x : Taken). TakesIn (view_of c.args.seat.now) x (view_of c.take.new.seat))
    c.in-Node.is c.in_ok-lease.ensures.taken in
    let a = view_of c.args.seat.now in
    let b = view_of c.take.new.seat in
    let lease = c.in-Node.lease in
    let finished = c.in_ok-born-in-Node.field-0 in
    let put = c.in_ok-born-in-Node.ensures.put in
    record {
      grows = grows_worked a b (view_of c.finish.new.seat) (view_of c.tidy.new.seat) lease.id
          put.0 _ _ taken put.1 c.in_ok-splits-in-Node.ensures.kept;
      ends = (
        worked a b (view_of c.finish.new.seat) (view_of c.tidy.new.seat) c.args.splits
            c.in_ok-splits-in-Node.splits lease.id put.0 finished.born _ _ c.requires.between
            taken put.1 put.1.called.2
            c.in_ok-splits-in-Node.ensures.count c.in_ok-splits-in-Node.ensures.tidied,
        kept_serials (view_of c.finish.new.seat) (view_of c.tidy.new.seat) finished.serial
            c.in_ok-splits-in-Node.ensures.kept c.in_ok-splits-in-Node.ensures.seat.2.legal
            c.in_ok-born-in-Node.ensures.serials,
      );
    }

pub returns-in_ok-splits-in-Node-clause-places : goal.returns-in_ok-splits-in-Node-clause-places
returns-in_ok-splits-in-Node-clause-places g c =
    kept_places (MayAnswer g.F.Fn c.args.rule.now.closure) (view_of c.finish.new.seat)
    (view_of c.tidy.new.seat) c.in_ok-splits-in-Node.ensures.kept
    c.in_ok-born-in-Node.ensures.places

pub returns-in-Idle-clause-ok : goal.returns-in-Idle-clause-ok
returns-in-Idle-clause-ok g c =
    let a = view_of c.args.seat.now in
    let b = view_of c.take.new.seat in
    let taken =
    subst (λ (x : Taken). TakesIn (view_of c.args.seat.now) x (view_of c.take.new.seat))
    c.in-Idle.is c.in_ok-lease.ensures.taken in
    let k = kept_up_by a b _ _ taken tt in
    record {
      grows = grows_kept a b k;
      ends = (
        kept_between a b c.args.splits k c.requires.between,
        kept_serials a b c.args.serial
            k c.in_ok-lease.ensures.seat.2.legal c.requires.serials,
      );
    }

pub returns-in-Idle-clause-places : goal.returns-in-Idle-clause-places
returns-in-Idle-clause-places g c =
    let a = view_of c.args.seat.now in
    let b = view_of c.take.new.seat in
    let taken =
    subst (λ (x : Taken). TakesIn (view_of c.args.seat.now) x (view_of c.take.new.seat))
    c.in-Idle.is c.in_ok-lease.ensures.taken in
    kept_places (MayAnswer g.F.Fn c.args.rule.now.closure) a b (kept_up_by a b _ _ taken tt)
    c.requires.places

pub returns-in-Done-clause-ok : goal.returns-in-Done-clause-ok
returns-in-Done-clause-ok g c =
    let a = view_of c.args.seat.now in
    let b = view_of c.take.new.seat in
    let taken =
    subst (λ (x : Taken). TakesIn (view_of c.args.seat.now) x (view_of c.take.new.seat))
    c.in-Done.is c.in_ok-lease.ensures.taken in
    let k = kept_up_by a b _ _ taken tt in
    record {
      grows = grows_kept a b k;
      ends = (
        kept_between a b c.args.splits k c.requires.between,
        was_told b _ says_done
            taken.called.0 taken.called.1,
      );
    }

pub returns-in-Done-clause-places : goal.returns-in-Done-clause-places
returns-in-Done-clause-places g c =
    let a = view_of c.args.seat.now in
    let b = view_of c.take.new.seat in
    let taken =
    subst (λ (x : Taken). TakesIn (view_of c.args.seat.now) x (view_of c.take.new.seat))
    c.in-Done.is c.in_ok-lease.ensures.taken in
    kept_places (MayAnswer g.F.Fn c.args.rule.now.closure) a b (kept_up_by a b _ _ taken tt)
    c.requires.places

pub returns-in-Spent-clause-ok : goal.returns-in-Spent-clause-ok
returns-in-Spent-clause-ok g c =
    let a = view_of c.args.seat.now in
    let b = view_of c.take.new.seat in
    let taken =
    subst (λ (x : Taken). TakesIn (view_of c.args.seat.now) x (view_of c.take.new.seat))
    c.in-Spent.is c.in_ok-lease.ensures.taken in
    let k = kept_up_by a b _ _ taken tt in
    record {
      grows = grows_kept a b k;
      ends = (
        kept_between a b c.args.splits k c.requires.between,
        was_told b _ says_spent
            taken.called.0 taken.called.1,
      );
    }

pub returns-in-Spent-clause-places : goal.returns-in-Spent-clause-places
returns-in-Spent-clause-places g c =
    let a = view_of c.args.seat.now in
    let b = view_of c.take.new.seat in
    let taken =
    subst (λ (x : Taken). TakesIn (view_of c.args.seat.now) x (view_of c.take.new.seat))
    c.in-Spent.is c.in_ok-lease.ensures.taken in
    kept_places (MayAnswer g.F.Fn c.args.rule.now.closure) a b (kept_up_by a b _ _ taken tt)
    c.requires.places
