use Rattle.std.proofs.Common.{◌≡◌, take, map}
use Rattle.bl_cover.specs.Covers.{cover_term}
use Rattle.bl_cover.proofs.cover.cover_terms.Given as goal

abbrev pub invariant-loop-column : goal.invariant-loop-column
invariant-loop-column l = map cover_term (take l.column-index l.listed) ≡ l.terms
