use Rattle.std.proofs.Common.{[], ◌∷◌, refl, ◌∙◌, arith, rules}
use Rattle.std.proofs.lemmas.Int.{ints, to_z-of_z}
use Rattle.std.proofs.lemmas.List.Elements.{All-cons, All-nil}
use Rattle.bl_problem.specs.Program.{IsRow}
use Rattle.bl_problem.specs.declared.problem.Row.{Row}
use Rattle.bl_prop.proofs.tests.problem.Goals as goal

pub new-requires : goal.new-requires
new-requires c =
    let f = c.ranges.a in
    let g = c.ranges.b in
    let r = simp to_z-of_z at c.in_ok-rows.ensures in
    let o = c.new-objective.ensures ∙ c.in_ok-vec.ensures.items in
    let row : Row = record {
      name = 82 ∷ [];
      terms = record { column = 0; coefficient = c.args.a }
          ∷ record { column = 1; coefficient = c.args.b } ∷ [];
      low = c.args.low;
      high =
          c.args.high;
    } in
    let fits : IsRow 2 row = record {
      name = search rules;
      terms = c.requires.terms;
      ends =
          c.requires.ends;
    } in
    rw (c.in_ok-columns.ensures, r, o) (record {
      few_columns = omega arith;
      few_rows = omega arith;
      columns = search rules;
      column_names = search rules;
      rows = All-cons (IsRow 2) row [] fits (All-nil (IsRow 2));
      row_names = λ i j d l m. absurd (omega (arith, l, m));
      objective = search rules;
      no_row = search rules;
      offset = omega (arith, ints);
      scale = omega arith;
      least_scale = λ n. absurd (n refl);
    })
