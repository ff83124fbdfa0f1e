use Rattle.std.proofs.Common.{◌≡◌, List, length, arith, refl, sym, ◌∙◌, ap, subst, All}
use Rattle.bl_problem.specs.Decisions.{MeetsAll}
use Rattle.bl_problem.specs.declared.decision.Decision.{Decision}
use Rattle.bl_prop.specs.Answers.{tightened_of}
use Rattle.bl_prop.specs.declared.tightening.Tightened.TheVariants.{Empty, Changed, Same}
use Rattle.bl_node.specs.Boxes.{BoxMeets, decisions_in}
use Rattle.bl_node.specs.Standing.{box_of, OfAllInQuestion}
use Rattle.bl_node.proofs.Keeping.{left}
use Rattle.bl_node.proofs.First.{shrinks-same, met-none, not-empty, statuses-same}
use Rattle.bl_node.proofs.steps.pass.Goals as goal

pub returns-in-Empty : goal.returns-in-Empty
returns-in-Empty c = record {
  knows = λ f cutoff s. (
    s,
    λ x q. (rw c.in-Empty.is at c.in_ok-tighten.ensures.keeps) x
        (left c.args.problem.now f cutoff c.args.work.now x s q),
  );
  leaves = λ f n. tt;
  shrinks = shrinks-same (box_of c.args.work.now.desc);
  statuses = statuses-same c.args.work.now.desc;
  low = refl;
  empty = λ e. refl;
  met = λ z. met-none (box_of c.args.work.now.desc)
      (tightened_of c.args.problem.now c.args.work.now.desc) (Empty c.in-Empty.row)
      (sym c.in_ok-tighten.ensures.exact ∙ c.in-Empty.is) refl;
}

pub returns-in-Same : goal.returns-in-Same
returns-in-Same c = record {
  knows = λ f cutoff s. s;
  leaves = λ f n. n;
  shrinks = shrinks-same (box_of c.args.work.now.desc);
  statuses = statuses-same c.args.work.now.desc;
  low = refl;
  empty = λ e. absurd (not-empty (tightened_of c.args.problem.now c.args.work.now.desc) Same
      (sym c.in_ok-tighten.ensures.exact ∙ c.in-Same.is) (λ x. x) e);
  met = λ z. met-none (box_of c.args.work.now.desc)
      (tightened_of c.args.problem.now c.args.work.now.desc) Same
      (sym c.in_ok-tighten.ensures.exact ∙ c.in-Same.is) refl;
}

pub decide-requires-clause-decisions : goal.decide-requires-clause-decisions
decide-requires-clause-decisions c =
    let t = rw c.in-Changed.is at c.in_ok-tighten.ensures.within in
    rw (c.as_slice.ensures, c.requires.describes.lows) t

pub returns-in-Changed : goal.returns-in-Changed
returns-in-Changed c = record {
  knows = λ f cutoff s.
      let k = rw c.in-Changed.is at c.in_ok-tighten.ensures.keeps in
      let m : OfAllInQuestion c.args.problem.now f c.args.work.now
      (λ x. MeetsAll x c.as_slice.result.now) =
      λ x q. rw c.as_slice.ensures
      (k x (left c.args.problem.now f cutoff c.args.work.now x s q)) in
      c.decide.ensures.knows f cutoff s m;
  leaves = c.decide.ensures.leaves;
  shrinks = c.decide.ensures.shrinks;
  statuses = c.decide.ensures.statuses;
  low = c.decide.ensures.low;
  empty = λ e. absurd (not-empty (tightened_of c.args.problem.now c.args.work.now.desc)
      (Changed c.in-Changed.decisions) (sym c.in_ok-tighten.ensures.exact ∙ c.in-Changed.is)
      (λ x. x) e);
  met = λ z.
      let few = (rw c.in-Changed.is at c.in_ok-tighten.ensures.within).few in
      let l : length c.as_slice.result.now ≡ length c.in-Changed.decisions =
      ap (λ (l : List Decision). length l) c.as_slice.ensures in
      let m = c.decide.ensures.met (omega (arith, z, few, l)) in
      subst (All (BoxMeets (box_of c.decide.new.work.desc)))
      (c.as_slice.ensures
      ∙ sym (ap decisions_in (sym c.in_ok-tighten.ensures.exact ∙ c.in-Changed.is))) m;
}
