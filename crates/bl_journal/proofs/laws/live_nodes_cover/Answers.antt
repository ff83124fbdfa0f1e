use Rattle.std.specs.Prelude.{reverse}
use Rattle.bl_journal.proofs.Coverage.{lies_somewhere, lies_once}
use Rattle.bl_journal.proofs.laws.live_nodes_cover.Goals as goal

pub returns : goal.returns
returns c = λ p s history l x. record {
  somewhere = λ g b. lies_somewhere p s (reverse history) g l.steps x b.feasible b.below;
  once = λ i j a b. lies_once p s (reverse history) l.steps x i j a b;
}
