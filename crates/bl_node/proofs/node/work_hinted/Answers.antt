use Rattle.std.proofs.Common.{arith, inl, sym, ap, ◌∙◌, subst}
use Rattle.std.proofs.lemmas.Bool.{false≢true}
use Rattle.bl_problem.specs.declared.cut.Cut.{Cut}
use Rattle.bl_desc.specs.declared.desc.Desc.{Desc}
use Rattle.bl_prop.specs.Answers.{tightened_of}
use Rattle.bl_node.specs.Boxes.{SaysEmpty}
use Rattle.bl_node.specs.Standing.{IsAboveUnits}
use Rattle.bl_node.proofs.Assembly.{sound-shut}
use Rattle.bl_journal.specs.Soundness.{IsSound}
use Rattle.bl_node.specs.Outcomes.{IsGood, step_of, form_of}
use Rattle.bl_node.specs.Tried.{IsTried}
use Rattle.std.proofs.lemmas.List.Elements.{All-nil}
use Rattle.bl_node.proofs.Testing.{tested-shut, tested}
use Rattle.bl_node.proofs.Promising.{stands-open, narrows-open, if-three, cut_off-seen}
use Rattle.bl_node.proofs.node.work_hinted.Goals as goal

pub returns-then-is_cut_off : goal.returns-then-is_cut_off
returns-then-is_cut_off g c =
    let sound : IsSound c.args.problem.now c.args.desc.now c.args.cutoff c.shut.result.found
    c.shut.result.low (step_of c.shut.result.next) =
    rw (c.shut.ensures.found, c.shut.ensures.low, c.shut.ensures.next)
    (sound-shut c.args.problem.now c.args.desc.now c.args.cutoff c.in_ok-work.work
    c.in_ok-work.ensures.stands
    (c.is_cut_off.ensures.none c.if-is_cut_off.true c.args.problem.now c.args.desc.now
    c.args.cutoff c.in_ok-work.ensures.stands)) in
    record {
      sound = sound;
      adds = rw c.shut.ensures.next (record {
        numbered = tt;
        few = omega arith;
        tried =
            All-nil (IsTried (g.S.Separate.allows c.args.separator.now c.args.problem.now)
            c.args.problem.now c.args.desc.now);
      });
      empty = λ e. c.shut.ensures.next;
      cut_off = λ e. c.shut.ensures.next;
      split = inl c.shut.ensures.next;
      single = tested-shut c.args.problem.now c.args.desc.now c.args.cutoff c.shut.result
          c.requires.node c.requires.point sound
          (rw c.shut.ensures.found c.in_ok-work.ensures.stands.better) c.shut.ensures.next;
    }

pub returns-in-Shut : goal.returns-in-Shut
returns-in-Shut g c =
    let k = rw c.in-Shut.is at (c.in_ok-pass.ensures.knows c.args.desc.now c.args.cutoff
    c.in_ok-work.ensures.stands) in
    let sound : IsSound c.args.problem.now c.args.desc.now c.args.cutoff
    c.shut-in-Shut.result.found c.shut-in-Shut.result.low
    (step_of c.shut-in-Shut.result.next) =
    rw (c.shut-in-Shut.ensures.found, c.shut-in-Shut.ensures.low, c.shut-in-Shut.ensures.next)
    (sound-shut c.args.problem.now c.args.desc.now c.args.cutoff c.pass.new.work k.0 k.1) in
    record {
      sound = sound;
      single = tested-shut c.args.problem.now c.args.desc.now c.args.cutoff c.shut-in-Shut.result
          c.requires.node c.requires.point sound (rw c.shut-in-Shut.ensures.found k.0.better)
          c.shut-in-Shut.ensures.next;
      adds = rw c.shut-in-Shut.ensures.next (record {
        numbered = tt;
        few = omega arith;
        tried =
            All-nil (IsTried (g.S.Separate.allows c.args.separator.now c.args.problem.now)
            c.args.problem.now c.args.desc.now);
      });
      empty = λ e. c.shut-in-Shut.ensures.next;
      cut_off = λ e. c.shut-in-Shut.ensures.next;
      split = inl c.shut-in-Shut.ensures.next;
    }

pub after_pass-requires-clause-narrows : goal.after_pass-requires-clause-narrows
after_pass-requires-clause-narrows g c = λ κs lives. narrows-open c.args.problem.now
    c.args.desc.now c.in_ok-pass.field-0 c.pass.new.work c.in_default.not-Shut
    (c.in_ok-pass.ensures.leaves c.args.desc.now c.in_ok-work.ensures.narrows)

pub after_pass-requires-clause-met : goal.after_pass-requires-clause-met
after_pass-requires-clause-met g c =
    λ κs lives. rw c.in_ok-work.ensures.same at
    (c.in_ok-pass.ensures.met c.in_ok-work.ensures.undecided)

pub after_pass-requires-clause-units : goal.after_pass-requires-clause-units
after_pass-requires-clause-units g c =
    λ κs lives. subst (IsAboveUnits c.args.problem.now c.args.desc.now)
    (sym c.in_ok-pass.ensures.low) c.in_ok-work.ensures.units

pub returns-in_default : goal.returns-in_default
returns-in_default g c =
    let never : SaysEmpty (tightened_of c.args.problem.now c.args.desc.now) → ⊥ =
    λ e. c.in_default.not-Shut (c.in_ok-pass.ensures.empty
    (subst (λ (d : Desc Cut). SaysEmpty (tightened_of c.args.problem.now d))
    (sym c.in_ok-work.ensures.same) e)) in
    if-three c.after_pass.result
    (λ o h k a. let good : IsGood c.args.problem.now c.args.desc.now c.args.cutoff o =
    h c.args.cutoff (stands-open c.args.problem.now c.args.desc.now c.args.cutoff
    c.in_ok-pass.field-0 c.pass.new.work c.in_default.not-Shut
    (c.in_ok-pass.ensures.knows c.args.desc.now c.args.cutoff c.in_ok-work.ensures.stands)) in
    record {
      sound = good.sound;
      single = tested g.F.Fn c.args.rule.now.closure c.args.problem.now c.args.desc.now
          c.args.cutoff (form_of c.args.limits.now) o c.requires.node c.requires.point good k;
      empty = λ e. absurd (never e);
      cut_off =
          λ e. absurd (false≢true (sym c.if-is_cut_off.false ∙ c.is_cut_off.ensures.exact
          ∙ cut_off-seen c.args.problem.now c.args.desc.now c.args.cutoff c.in_ok-work.work
          c.in_ok-work.ensures.stands c.in_ok-work.ensures.units e));
      split = k;
      adds = a;
    })
    c.after_pass.ensures.sound c.after_pass.ensures.split c.after_pass.ensures.adds

pub after_pass-requires-clause-cuts : goal.after_pass-requires-clause-cuts
after_pass-requires-clause-cuts g c =
    λ κs lives. c.in_ok-pass.ensures.statuses.cuts
    ∙ ap (λ (d : Desc Cut). d.cuts) c.in_ok-work.ensures.same
