use Rattle.std.proofs.Common.{rules, ◌≡◌, sym, subst}
use Rattle.bl_desc.specs.Changes.{changed, nothing}
use Rattle.bl_desc.specs.declared.change.Change.{Change}
use Rattle.bl_desc.proofs.Nothing.{unchanged}
use Rattle.bl_desc.proofs.change.Change.new.Goals as goal

pub returns-clause-unchanged : goal.returns-clause-unchanged
returns-clause-unchanged g c d =
    let made : Change g.row.C.Denot =
    record {
      lows = c.new.result;
      highs = c.new-2.result;
      cuts = c.new-3.result;
      columns =
          c.new-4.result;
      rows = c.new-5.result;
      fresh = c.new-6.result;
    } in
    let same : made ≡ nothing = search rules in
    subst (λ (x : Change g.row.C.Denot). changed x d ≡ d) (sym same) (unchanged d)
