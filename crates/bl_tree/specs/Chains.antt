-- What a chain stands for.
use Rattle.std.specs.Prelude.{◌≡◌}
use Rattle.bl_problem.specs.declared.cut.Cut.{Cut}
use Rattle.bl_desc.specs.declared.desc.Desc.{Desc}
use Rattle.bl_desc.specs.Changes.{IsWhole}
use Rattle.bl_rebuild.specs.declared.chain.Chain.{Chain}
use Rattle.bl_rebuild.specs.Chains.{described, FitInOrder}

-- the changes fit in order, and applied they give the description
pub record StandsFor (chain : Chain Cut) (d : Desc Cut) : Type 0 where
  pub whole : IsWhole chain.top
  pub fits : FitInOrder chain.changes chain.top
  pub gives : described chain.changes chain.top ≡ d

-- the changes of the chain fit in order
pub record IsApplicable (chain : Chain Cut) : Type 0 where
  pub whole : IsWhole chain.top
  pub fits : FitInOrder chain.changes chain.top

-- the description that a chain stands for
abbrev pub described_by : Chain Cut → Desc Cut
described_by chain = described chain.changes chain.top
