use Rattle.std.proofs.Common.{◌+◌, ◌≤◌, ℤ, List, length, arith, rules, refl, ap}
use Rattle.bl_prop.specs.declared.tightening.Tightened.TheVariants.{Changed}
use Rattle.bl_journal.specs.declared.limits.TheConstants.{MOST_BOUNDS}
use Rattle.bl_node.specs.Standing.{box_of}
use Rattle.bl_node.proofs.Keeping.{stands-narrowed, narrows-narrowed}
use Rattle.bl_node.proofs.First.{shrinks-same, shrinks-taken, met-taken, statuses-same}
use Rattle.bl_node.proofs.First.{statuses-taken}
use Rattle.bl_node.proofs.Taking.{takes-widths}
use Rattle.bl_node.proofs.steps.decide.Goals as goal

pub returns-then-work-decisions-gt256 : goal.returns-then-work-decisions-gt256
returns-then-work-decisions-gt256 c = record {
  knows = λ f cutoff s m. s;
  leaves = λ f n. n;
  shrinks = shrinks-same (box_of c.args.work.now.desc);
  statuses = statuses-same c.args.work.now.desc;
  low = refl;
  met = λ few. absurd (omega (arith, few, c.if-work-decisions-gt256.true));
}

pub has_point-requires : goal.has_point-requires
has_point-requires c =
    let w = takes-widths c.args.work.now c.take_decisions.new.work c.args.decisions.now
    c.take_decisions.ensures in
    let a = ap (λ (l : List ℤ). length l) c.as_slice.ensures in
    let b = ap (λ (l : List ℤ). length l) c.as_slice-2.ensures in
    omega (arith, w.lows, w.highs, a, b, c.requires.describes.lows, c.requires.describes.highs)

pub returns-then-has_point : goal.returns-then-has_point
returns-then-has_point c = record {
  knows = λ f cutoff s m. stands-narrowed c.args.problem.now f cutoff c.args.work.now
      c.take_decisions.new.work c.args.decisions.now s c.take_decisions.ensures m;
  leaves = λ f n.
      let few : c.args.work.now.decided + length c.args.decisions.now ≤ MOST_BOUNDS =
      omega (arith, c.if-work-decisions-gt256.false) in
      let some = rw (c.as_slice.ensures, c.as_slice-2.ensures) at
      (c.has_point.ensures.some (search rules)) in
      narrows-narrowed c.args.problem.now f c.args.work.now c.take_decisions.new.work
      c.args.decisions.now n c.take_decisions.ensures c.requires.decisions few some;
  shrinks = shrinks-taken c.args.work.now c.take_decisions.new.work c.args.decisions.now
      c.take_decisions.ensures;
  statuses = statuses-taken c.args.work.now c.take_decisions.new.work c.args.decisions.now
      c.take_decisions.ensures;
  low = c.take_decisions.ensures.low;
  met = λ few.
      let a = c.requires.describes.lows in
      let b = c.requires.describes.highs in
      met-taken c.args.work.now c.take_decisions.new.work c.args.decisions.now
      (Changed c.args.decisions.now) refl c.take_decisions.ensures c.requires.decisions
      (omega (arith, a, b));
}

pub returns-else-has_point : goal.returns-else-has_point
returns-else-has_point c = record {
  knows = λ f cutoff s m.
      let t = stands-narrowed c.args.problem.now f cutoff c.args.work.now
      c.take_decisions.new.work c.args.decisions.now s c.take_decisions.ensures m in (
        t,
        λ x q. c.has_point.ensures.none (search rules) x
            (rw (c.as_slice.ensures, c.as_slice-2.ensures) (t.inside x q)),
      );
  leaves = λ f n. tt;
  shrinks = shrinks-taken c.args.work.now c.take_decisions.new.work c.args.decisions.now
      c.take_decisions.ensures;
  statuses = statuses-taken c.args.work.now c.take_decisions.new.work c.args.decisions.now
      c.take_decisions.ensures;
  low = c.take_decisions.ensures.low;
  met = λ few.
      let a = c.requires.describes.lows in
      let b = c.requires.describes.highs in
      met-taken c.args.work.now c.take_decisions.new.work c.args.decisions.now
      (Changed c.args.decisions.now) refl c.take_decisions.ensures c.requires.decisions
      (omega (arith, a, b));
}
