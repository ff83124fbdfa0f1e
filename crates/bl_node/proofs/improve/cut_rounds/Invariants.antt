use Rattle.bl_node.specs.Moves.{CutMoves}
use Rattle.bl_node.proofs.improve.cut_rounds.Given as goal

abbrev pub invariant-loop : goal.invariant-loop
invariant-loop g l = CutMoves (g.S.Separate.allows l.fn.separator l.fn.problem) l.fn.problem
    l.fn.parent l.fn.state l.state
