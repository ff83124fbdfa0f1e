use Rattle.std.proofs.Common.{◌≡◌, ◌≤◌, [], List, length, arith, rules, refl, All}
use Rattle.std.proofs.lemmas.Int.{ints}
use Rattle.bl_problem.specs.declared.cut.Cut.{Cut}
use Rattle.bl_node.specs.declared.working.Working.{Working}
use Rattle.bl_node.specs.Names.{IsRenamedFrom}
use Rattle.bl_node.specs.Standing.{box_of}
use Rattle.bl_node.proofs.Adding.{with_cuts}
use Rattle.bl_node.proofs.First.{shrinks-same}
use Rattle.bl_node.proofs.Renaming.{narrows-renamed, stands-renamed, drops-cuts}
use Rattle.bl_node.proofs.dropping.drop_basic.Goals as goal

pub returns : goal.returns
returns c =
    let p = c.args.problem.now in
    let f = c.args.parent.now in
    let old = c.args.state.now in
    let t = c.in_ok-tight.tight in
    let is = c.in_ok-tight.ensures in
    let w : Working = with_cuts old.work t.cuts t.statuses in
    let none : f.cuts ≡ [] = c.is_empty.ensures.0 (search rules) in
    let from : All (IsRenamedFrom old.work.desc.cuts) t.cuts = rw c.as_slice.ensures at is.from in
    let few : length t.cuts ≤ length old.work.desc.cuts = rw c.as_slice.ensures at is.few in
    record {
      within = λ e. narrows-renamed p f old.work old.limits.seat old.limits.serial t.cuts
          t.statuses none from
          is.numbered few is.statuses (c.requires.within e);
      known = λ cutoff k. record {
        stands = stands-renamed p f cutoff old.work t.cuts t.statuses from k.stands;
        none = λ s. k.none s;
      };
      shrinks = shrinks-same (box_of old.work.desc);
      low = omega (arith, ints);
      limits = refl;
      cuts = drops-cuts f old w t.count none from is.numbered few is.count;
    }
