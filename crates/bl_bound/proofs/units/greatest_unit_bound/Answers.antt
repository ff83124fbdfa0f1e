use Rattle.std.proofs.Common.{◌≡◌, FitsSigned, to_z, of_z, refl, ◌∙◌}
use Rattle.std.proofs.lemmas.Int.{to_z-of_z}
use Rattle.std.specs.Int.{w128}
use Rattle.bl_bound.proofs.UnitLaw.{unit-le, greatest-reached, reached-below, greatest_in}
use Rattle.bl_bound.proofs.UnitLaw.{greatest_is}
use Rattle.bl_bound.proofs.units.greatest_unit_bound.Goals as goal
use Rattle.bl_bound.proofs.units.greatest_unit_bound.Goals.{After-greatest}

-- the answer is the problem's greatest unit bound
exact : (c : After-greatest) → to_z w128 (of_z w128 c.greatest.result)
    ≡ greatest_in c.args.problem.now c.args.desc.now
exact c =
    let f : FitsSigned w128 c.greatest.result = record { sfits = c.greatest.type_inv } in
    let g : FitsSigned w128 c.box_sum-base.result = record { sfits = c.box_sum-base.type_inv } in
    let o : FitsSigned w128 c.offset.result = record { sfits = c.offset.type_inv } in
    let z = to_z-of_z w128 c.greatest.result f in
    z ∙ greatest_is c.args.problem.now c.args.desc.now c.columns-columns.result.now
    c.rows.result.now c.args.desc.now.cuts c.as_slice-lows.result.now
    c.as_slice-highs.result.now c.offset.result c.box_sum-base.result c.greatest.result
    (record {
      columns_are = c.columns-columns.ensures.columns;
      rows_are = c.rows.ensures.rows;
      cuts_are = refl;
      lows_are = c.as_slice-lows.ensures;
      highs_are = c.as_slice-highs.ensures;
      offset_is = c.offset.ensures;
    })
    o g c.box_sum-base.ensures.exact c.greatest.ensures

pub returns-clause-greatest : goal.returns-clause-greatest
returns-clause-greatest c =
    λ y a. rw (exact c) (unit-le c.args.problem.now c.args.desc.now y c.rows.ensures.program
    c.requires.suits a)

pub returns-clause-reached : goal.returns-clause-reached
returns-clause-reached c = rw (exact c)
    (greatest-reached c.args.problem.now c.args.desc.now c.rows.ensures.program c.requires.suits)

pub returns-clause-below : goal.returns-clause-below
returns-clause-below c =
    λ x f. rw (exact c) (reached-below c.args.problem.now c.args.desc.now
    (greatest_in c.args.problem.now c.args.desc.now) x c.rows.ensures.program c.requires.suits
    (greatest-reached c.args.problem.now c.args.desc.now c.rows.ensures.program c.requires.suits) f)
