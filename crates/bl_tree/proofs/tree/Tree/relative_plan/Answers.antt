use Rattle.std.proofs.Common.{subst}
use Rattle.bl_problem.specs.Program.{Program, IsProgram}
use Rattle.bl_tree.specs.Views.{TreeView, IsLegalTree}
use Rattle.bl_tree.proofs.Jobs.{parent_is_born, chain_above, relative_planned}
use Rattle.bl_tree.proofs.tree.Tree.relative_plan.Goals as goal

pub chain_to-requires-clause-born : goal.chain_to-requires-clause-born
chain_to-requires-clause-born c =
    let legal = subst (λ (t : TreeView). IsLegalTree t) c.self.view_is
    (record { steps = c.self.invariant.follows.legal }) in
    parent_is_born c.args.self.now c.args.id c.args.parent legal c.requires.born c.requires.parent

pub invariant_of-result : goal.invariant_of-result
invariant_of-result c =
    let legal = subst (λ (t : TreeView). IsLegalTree t) c.self.view_is
    (record { steps = c.self.invariant.follows.legal }) in
    let program = subst (λ (t : TreeView). IsProgram t.problem) c.self.view_is
    (subst (λ (p : Program). IsProgram p) c.get.ensures c.columns-columns.ensures.program) in (
      record { whole = c.in_ok-chain.ensures.sound.whole; fits = c.in_ok-chain.ensures.sound.fits },
      chain_above c.descriptions_are_whole.ensures c.args.self.now c.args.id c.args.parent
          c.in_ok-above.above c.in_ok-chain.chain legal program c.requires.born c.requires.parent
          c.in_ok-above.ensures.sound
          c.in_ok-chain.ensures.sound,
    )

pub returns : goal.returns
returns c =
    relative_planned c.args.self.now c.args.id c.args.parent c.in_ok-above.above
    c.in_ok-chain.chain c.requires.born c.requires.spanned c.requires.parent
    c.in_ok-above.ensures.sound c.in_ok-chain.ensures.sound
    c.in_ok-above.ensures.pieces c.in_ok-chain.ensures.pieces
