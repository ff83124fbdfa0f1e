use Rattle.std.proofs.Common.{◌≡◌, take, true}
use Rattle.std.specs.List.{list_all}
use Rattle.bl_mps.specs.Meaning.{terms_of, term_within}
use Rattle.bl_mps.proofs.scale.terms.Given as goal

abbrev pub invariant-loop-entry : goal.invariant-loop-entry
invariant-loop-entry l = record {
  made : l.terms ≡ terms_of l.places (take l.entry-index l.entries);
  keep : list_all term_within l.terms ≡ true;
}
