use Rattle.std.proofs.Common.{◌∙◌, sym}
use Rattle.std.specs.List.{list_all}
use Rattle.bl_mps.specs.Meaning.{terms_of, term_within}
use Rattle.bl_mps.proofs.Limits.{term_fails}
use Rattle.bl_mps.proofs.Made.{wide_is}
use Rattle.bl_mps.proofs.scale.terms.Goals as goal

pub returns-in_default : goal.returns-in_default
returns-in_default c = wide_is (list_all term_within) (terms_of c.args.places c.args.entries.now)
    (term_fails c.args.places c.args.entries.now c.loop-entry.entry-index _ c.loop-entry-test.true
    (sym c.term.ensures ∙ c.in_default.is))
