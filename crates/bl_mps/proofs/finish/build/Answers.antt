use Rattle.std.proofs.Common.{◌∙◌, sym, ap, subst, FitsSigned, rules}
use Rattle.std.specs.Int.{w128}
use Rattle.std.specs.List.{list_all}
use Rattle.std.proofs.lemmas.Int.{to_z-of_z}
use Rattle.bl_problem.specs.declared.problem.Sense.{Sense}
use Rattle.bl_problem.specs.Points.{in_sense}
use Rattle.bl_problem.specs.Program.{IsProgram}
use Rattle.bl_mps.specs.Meaning.{rows_of, row_within, objective_of, objective_within, program_of}
use Rattle.bl_mps.specs.Meaning.{keeps_limits}
use Rattle.bl_mps.proofs.Limits.{kept}
use Rattle.bl_mps.proofs.Programs.{program_is}
use Rattle.bl_mps.proofs.Made.{all_kept, kept_is, program_made}
use Rattle.bl_mps.proofs.finish.build.Goals as goal

pub new-requires : goal.new-requires
new-requires c =
    let s = c.args.reader.now in
    let o = kept objective_within (objective_of s) c.args.objective c.requires.objective in
    let r = kept (list_all row_within) (rows_of s) c.in-Ok.rows c.in-Ok.ensures in
    let m : FitsSigned w128 c.args.objective.offset = search rules in
    let k : FitsSigned w128 c.offset_in.result = search rules in
    let offset = to_z-of_z w128 c.offset_in.result k ∙ c.offset_in.ensures
    ∙ ap (in_sense c.sense.result) (to_z-of_z w128 c.args.objective.offset m)
    ∙ ap (λ (x : Sense). in_sense x c.args.objective.offset) c.sense.ensures in
    let is = program_made s c.args.objective c.in_ok-columns-in-Ok.columns.items
    c.into_vec.result.items c.as_slice.result.now _ c.sense-in-Ok.result o.1
    (r.1 ∙ sym c.into_vec.ensures) c.as_slice.ensures c.in_ok-columns-in-Ok.ensures offset
    c.sense-in-Ok.ensures in
    subst IsProgram is (program_is s c.requires.coherent c.requires.some
    (all_kept s c.requires.coherent o.0 r.0))

pub returns-in_ok-columns-in-Ok : goal.returns-in_ok-columns-in-Ok
returns-in_ok-columns-in-Ok c =
    let s = c.args.reader.now in
    let o = kept objective_within (objective_of s) c.args.objective c.requires.objective in
    let r = kept (list_all row_within) (rows_of s) c.in-Ok.rows c.in-Ok.ensures in
    let m : FitsSigned w128 c.args.objective.offset = search rules in
    let k : FitsSigned w128 c.offset_in.result = search rules in
    let offset = to_z-of_z w128 c.offset_in.result k ∙ c.offset_in.ensures
    ∙ ap (in_sense c.sense.result) (to_z-of_z w128 c.args.objective.offset m)
    ∙ ap (λ (x : Sense). in_sense x c.args.objective.offset) c.sense.ensures in
    let is = program_made s c.args.objective c.in_ok-columns-in-Ok.columns.items
    c.into_vec.result.items c.as_slice.result.now _ c.sense-in-Ok.result o.1
    (r.1 ∙ sym c.into_vec.ensures) c.as_slice.ensures c.in_ok-columns-in-Ok.ensures offset
    c.sense-in-Ok.ensures in
    kept_is keeps_limits (program_of s) c.new.result (all_kept s c.requires.coherent o.0 r.0)
    (is ∙ sym c.new.ensures)
