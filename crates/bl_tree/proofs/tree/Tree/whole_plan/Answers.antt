use Rattle.bl_tree.proofs.Jobs.{whole_planned}
use Rattle.bl_tree.proofs.tree.Tree.whole_plan.Goals as goal

pub invariant_of-result : goal.invariant_of-result
invariant_of-result c = (
  record {
    whole = c.in_ok-chain.ensures.sound.whole;
    fits =
        c.in_ok-chain.ensures.sound.fits;
  },
  tt,
)

pub returns : goal.returns
returns c = whole_planned c.args.self.now c.args.id c.in_ok-chain.chain c.requires.born
    c.in_ok-chain.ensures.sound c.in_ok-chain.ensures.pieces
