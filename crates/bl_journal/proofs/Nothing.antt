-- The change of nothing may be shared by the children of any split.
use Rattle.std.proofs.Common.{◌≢◌, ◌≤◌, List, length, refl, sym, subst, arith, append-nil, AllPairs}
use Rattle.bl_problem.specs.declared.cut.Cut.{Cut}
use Rattle.bl_desc.specs.declared.desc.Desc.{Desc}
use Rattle.bl_desc.specs.Changes.{nothing}
use Rattle.bl_desc.proofs.Nothing.{relisted_none}
use Rattle.bl_journal.specs.Soundness.{IsCommonFor}
use Rattle.bl_journal.specs.declared.limits.TheConstants.{MOST_CUTS}

-- it fits a description with few cuts of different ids
pub nothing_fits : (d : Desc Cut) → AllPairs (λ (a b : Cut). a.id ≢ b.id) d.cuts → length d.cuts
    ≤ MOST_CUTS → IsCommonFor d nothing
nothing_fits d ids few =
    record {
      fits = record {
        lows = λ k e h. absurd (omega (arith, h));
        highs = λ k e h. absurd (omega (arith, h));
        dropped = λ k e h. absurd (omega (arith, h));
        columns = λ k e h. absurd (omega (arith, h));
        rows = λ k e h. absurd (omega (arith, h));
        fresh = λ k e h. absurd (omega (arith, h));
      };
      rising = record {
        lows = refl;
        highs = refl;
        dropped = refl;
        columns = refl;
        rows =
            refl;
        fresh = refl;
      };
      lows_rise = tt;
      highs_fall = tt;
      ids_differ = subst (λ (cuts : List Cut). AllPairs (λ (a b : Cut). a.id ≢ b.id) cuts)
          (sym (append-nil d.cuts)) ids;
      few_bounds = omega arith;
      few_statuses = omega arith;
      few_cuts = subst (λ (cuts : List Cut). length cuts ≤ MOST_CUTS) (sym (relisted_none d.cuts))
          few;
    }
