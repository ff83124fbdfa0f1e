use Rattle.std.proofs.Common.{◌≡◌, take, map, true}
use Rattle.std.specs.Prelude.{filter}
use Rattle.std.specs.List.{list_all}
use Rattle.bl_cards.specs.Lines.{is_limited}
use Rattle.bl_mps.specs.Meaning.{row_of, row_within}
use Rattle.bl_mps.proofs.finish.make_rows.Given as goal

abbrev pub invariant-loop-i : goal.invariant-loop-i
invariant-loop-i l = record {
  made : l.rows ≡ map (row_of l.reader)
      (filter (λ line. is_limited line.role) (take l.i l.reader.rows));
  keep : list_all row_within l.rows ≡ true;
}
