-- The steps of a dive.
use Rattle.std.proofs.Common.{◌≡◌, ℕ, suc, ◌<◌, ◌^◌, ℤ, pos, arith, List, [], ◌∷◌, length, All}
use Rattle.std.proofs.Common.{Some, None, refl, sym, ◌∙◌}
use Rattle.std.specs.Int.{int_max, int_min}
use Rattle.std.proofs.lemmas.Int.{ints, clamps}
use Rattle.std.proofs.lemmas.List.{length-set}
use Rattle.std.proofs.lemmas.List.Elements.{All-set}
use Rattle.bl_num.specs.Exact.{at}
use Rattle.bl_problem.specs.Sums.{IsWithin}
use Rattle.bl_problem.specs.Program.{Program}
use Rattle.bl_problem.specs.Decisions.{narrowed_at}
use Rattle.bl_problem.specs.declared.cut.Cut.{Cut}
use Rattle.bl_problem.specs.declared.decision.Decision.{Decision}
use Rattle.bl_problem.specs.declared.decision.Side.{Side}
use Rattle.bl_problem.specs.declared.decision.Side.TheVariants.{AtLeast, AtMost}
use Rattle.bl_desc.specs.declared.desc.Desc.{Desc}
use Rattle.bl_bound.specs.Descriptions.{Describes}
use Rattle.bl_prop.specs.declared.tightening.Tightened.TheVariants.{Empty, Changed, Same}
use Rattle.bl_prop.specs.Answers.{tightened_of}
use Rattle.bl_prop.specs.Limits.{IsDecision}
use Rattle.bl_heur.specs.Dives.{box_of, with_box, narrowed_by, narrowed, at_low, first_free}
use Rattle.bl_heur.specs.Dives.{propagated, dived}

-- ---- descriptions stay within the limits
narrowed_at-describes : (s : Side) (j : ℕ) (v : ℤ) (p : Program) (d : Desc Cut) → Describes p d
    → j < length p.columns → IsWithin (10 ^ 9) v
    → Describes p (with_box d (narrowed_at s (box_of d) j v))
narrowed_at-describes AtLeast j v p d h l k =
    let w = h.near_lows j (pos 0) (omega (arith, l, h.lows)) in
    record {
      lows = length-set d.lows j (int_max (at d.lows j) v) ∙ h.lows;
      highs = h.highs;
      near_lows = All-set (IsWithin (10 ^ 9)) d.lows j (int_max (at d.lows j) v)
          (omega (arith, ints, clamps, w, k)) h.near_lows;
      near_highs = h.near_highs;
      few_cuts = h.few_cuts;
      cuts = h.cuts;
    }
narrowed_at-describes AtMost j v p d h l k =
    let w = h.near_highs j (pos 0) (omega (arith, l, h.highs)) in
    record {
      lows = h.lows;
      highs = length-set d.highs j (int_min (at d.highs j) v) ∙ h.highs;
      near_lows = h.near_lows;
      near_highs = All-set (IsWithin (10 ^ 9)) d.highs j (int_min (at d.highs j) v)
          (omega (arith, ints, clamps, w, k)) h.near_highs;
      few_cuts = h.few_cuts;
      cuts = h.cuts;
    }

pub narrowed-describes : (p : Program) (es : List Decision) (d : Desc Cut) → Describes p d
    → All (IsDecision (length p.columns)) es → Describes p (narrowed d es)
narrowed-describes p [] d h k = h
narrowed-describes p (e ∷ es) d h k =
    let f : IsDecision (length p.columns) e = k 0 e (omega arith) in
    narrowed-describes p es (narrowed_by d e)
    (narrowed_at-describes e.side e.column e.value p d h f.column f.value)
    (λ i c l. k (suc i) c (omega (arith, l)))

pub at_low-describes : (p : Program) (d : Desc Cut) (j : ℕ) → Describes p d → j < length d.lows
    → Describes p (at_low d j)
at_low-describes p d j h l = record {
  lows = h.lows;
  highs = length-set d.highs j (at d.lows j) ∙ h.highs;
  near_lows = h.near_lows;
  near_highs = All-set (IsWithin (10 ^ 9)) d.highs j (at d.lows j) (h.near_lows j (pos 0) l)
      h.near_highs;
  few_cuts = h.few_cuts;
  cuts = h.cuts;
}

-- ---- passes
pub pass-empty : (m i : ℕ) (p : Program) (d : Desc Cut) → Empty i ≡ tightened_of p d
    → propagated (suc m) p d ≡ None
unfolding propagated
pass-empty m i p d e = rw (sym e) refl

pub pass-same : (m : ℕ) (p : Program) (d : Desc Cut) → Same ≡ tightened_of p d
    → propagated (suc m) p d ≡ Some d
unfolding propagated
pass-same m p d e = rw (sym e) refl

pub pass-changed : (m : ℕ) (p : Program) (d : Desc Cut) (es : List Decision) → Changed es
    ≡ tightened_of p d → propagated (suc m) p d ≡ propagated m p (narrowed d es)
unfolding propagated
pass-changed m p d es e = rw (sym e) refl

pub no-pass : (p : Program) (d : Desc Cut) → propagated 0 p d ≡ Some d
unfolding propagated
no-pass p d = refl

-- ---- turns
pub turn-ended : (m : ℕ) (p : Program) (d : Desc Cut) → propagated 20 p d ≡ None
    → dived (suc m) p d ≡ None
unfolding dived
turn-ended m p d e = rw e refl

pub turn-last : (m : ℕ) (p : Program) (d f : Desc Cut) → propagated 20 p d ≡ Some f
    → first_free (length f.lows) f.lows f.highs ≡ None → dived (suc m) p d ≡ Some f.lows
unfolding dived
turn-last m p d f e k = rw (e, k) refl

pub turn-on : (m j : ℕ) (p : Program) (d f : Desc Cut) → propagated 20 p d ≡ Some f
    → first_free (length f.lows) f.lows f.highs ≡ Some j → dived (suc m) p d
    ≡ dived m p (at_low f j)
unfolding dived
turn-on m j p d f e k = rw (e, k) refl

pub no-turn : (p : Program) (d : Desc Cut) → dived 0 p d ≡ None
unfolding dived
no-turn p d = refl
