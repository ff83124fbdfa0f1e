use Rattle.std.proofs.Common.{◌≡◌, sym, ap, ◌∙◌, subst, rules, FitsSigned, to_z, of_z}
use Rattle.std.specs.Int.{w64, w128}
use Rattle.std.proofs.lemmas.Int.{to_z-of_z}
use Rattle.bl_problem.specs.declared.cut.Cut.{Cut}
use Rattle.bl_desc.specs.declared.desc.Desc.{Desc}
use Rattle.bl_desc.specs.declared.change.Change.{Change}
use Rattle.bl_desc.specs.Changes.{changed, Fits}
use Rattle.bl_node.specs.Outcomes.{common_of}
use Rattle.bl_node.proofs.Assembly.{sound-split, other-high, other-low}
use Rattle.bl_node.proofs.split.split.Goals as goal

pub left_piece-requires-clause-other : goal.left_piece-requires-clause-other
left_piece-requires-clause-other c =
    other-high c.args.problem.now c.args.parent.now c.args.work c.args.place.column c.args.place.at
    c.requires.narrows c.requires.place.column c.requires.place.high

pub right_piece-requires-clause-other : goal.right_piece-requires-clause-other
right_piece-requires-clause-other c =
    other-low c.args.problem.now c.args.parent.now c.args.work c.args.place.column c.args.place.at
    c.requires.narrows c.requires.place.column c.requires.place.low

pub returns-clause-sound : goal.returns-clause-sound
returns-clause-sound c = λ cutoff s.
    let f : Desc Cut = c.args.parent.now in
    let d : Desc Cut = c.args.work.desc in
    let g : FitsSigned w64 c.args.place.at = search rules in
    let h : FitsSigned w128 c.args.work.low = search rules in
    let canonical = c.in_ok-common.ensures.canonical in
    let common : c.in_ok-common-2.common ≡ common_of f d = c.in_ok-common-2.ensures ∙ canonical in
    let fits = subst (λ (k : Change Cut). Fits k f) canonical c.in_ok-common.ensures.fits in
    let same : changed (common_of f d) f ≡ d =
    ap (λ (k : Change Cut). changed k f) (sym canonical) ∙ c.in_ok-common.ensures.applied in
    record {
      better = s.better;
      sound = rw (common, to_z-of_z w64 c.args.place.at g, to_z-of_z w128 c.args.work.low h)
          (sound-split c.args.problem.now f cutoff c.args.work c.args.place.column c.args.place.at
          c.requires.node s c.requires.narrows fits same c.requires.few
          c.requires.place.column c.requires.place.low c.requires.place.high);
    }
