use Rattle.std.proofs.Common.{ap, ◌∙◌, subst}
use Rattle.std.specs.Prelude.{sum_by}
use Rattle.bl_problem.specs.Program.{Program, IsProgram}
use Rattle.bl_tree.specs.Records.{weight_if}
use Rattle.bl_tree.specs.Answers.{held_for}
use Rattle.bl_tree.proofs.Lows.{weights_same, pieces_short}
use Rattle.bl_tree.proofs.tree.Tree.held.Goals as goal

pub weight_of_all-requires-clause-short : goal.weight_of_all-requires-clause-short
weight_of_all-requires-clause-short c =
    let k = c.self.invariant.follows in
    let w : IsProgram c.self.inside.problem =
    subst (λ (p : Program). IsProgram p) c.get.ensures c.columns-columns.ensures.program in
    rw c.deref.ensures.value (pieces_short c.self.inside.problem c.self.inside.settings _
    c.self.inside.kept.records.items k.legal w k.records k.storage)

pub returns : goal.returns
returns c =
    let k = c.self.invariant.follows in
    c.weight_of_all.ensures ∙ (ap (sum_by (λ r. weight_if r.piece)) c.deref.ensures.value
    ∙ (weights_same c.self.inside.problem c.self.inside.settings _
    c.self.inside.kept.records.items k.records k.storage ∙ ap held_for c.self.view_is))
