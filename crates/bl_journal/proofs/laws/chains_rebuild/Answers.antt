use Rattle.std.specs.Prelude.{reverse}
use Rattle.bl_journal.proofs.Ties.{tied}
use Rattle.bl_journal.proofs.Chains.{chain_rebuilds, chain_short}
use Rattle.bl_journal.proofs.laws.chains_rebuild.Goals as goal

pub returns : goal.returns
returns c = λ p s history l id born u. record {
  parent = λ f. tied p s (reverse history) l.steps id born u f;
  chain = λ some. record {
    short = chain_short p s (reverse history) l.steps some id born u;
    rebuilds = chain_rebuilds p s (reverse history) l.steps some id born u;
  };
}
