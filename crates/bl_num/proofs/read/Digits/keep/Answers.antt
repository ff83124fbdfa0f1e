use Rattle.std.proofs.Common.{◌≡◌, ◌+◌, ◌++◌, ◌∷◌, ◌∙◌, [], ℕ, List, length, ◌<◌, take}
use Rattle.std.proofs.Common.{slice_index_or, arith, ap, sym, append_assoc}
use Rattle.std.proofs.lemmas.List.{take_more, take_all}
use Rattle.bl_num.specs.Reading.{kept_of}
use Rattle.bl_num.proofs.read.Digits.keep.Goals as goal

one_more : (ds digits : List ℕ) (i : ℕ) → i < length digits → (ds ++ take i digits)
    ++ slice_index_or digits i 0 ∷ [] ≡ ds ++ take (i + 1) digits
one_more ds digits i h = append_assoc ds (take i digits) (slice_index_or digits i 0 ∷ [])
    ∙ ap (λ (x : List ℕ). ds ++ x) (sym (take_more digits i 0 h))

pub loop-digit-preserved : goal.loop-digit-preserved
loop-digit-preserved c = record {
  kept = λ ds e. c.push-kept.ensures.kept _ (c.loop-digit.invariant.kept ds e)
      ∙ ap kept_of (one_more ds c.args.digits.now c.loop-digit.digit-index (omega arith));
  zeros = omega arith;
}

pub returns-clause-kept : goal.returns-clause-kept
returns-clause-kept c = λ ds e. c.loop-digit.invariant.kept ds e
    ∙ ap (λ (x : List ℕ). kept_of (ds ++ x))
    (take_all c.loop-digit.digit-index c.args.digits.now (omega arith))
