-- Laws of a row's ends and of its scale.
use Rattle.std.proofs.Common.{ℕ, suc, ◌≤◌, refl, sym, arith, pos, negsuc, ◌+ℤ◌, ◌-ℤ◌}
use Rattle.std.specs.Prelude.{nat_abs}
use Rattle.std.proofs.lemmas.Int.{ints}
use Rattle.bl_num.specs.declared.Decimal.{Decimal}
use Rattle.bl_num.specs.Decimals.{in_units}
use Rattle.bl_num.proofs.Scaled.{canonical_places}
use Rattle.bl_num.proofs.Readings.{units_keep_value}
use Rattle.bl_cards.specs.declared.kind.Role.TheVariants.{Objective, Extra, AtMost, AtLeast, Equal}
use Rattle.bl_mps.specs.Meaning.{or_zero}
use Rattle.bl_cards.specs.Coherence.{IsRead}
use Rattle.bl_mps.specs.Laws.{RangesWiden, IsWholeIn, ScaleIsLeast}
use Rattle.bl_mps.proofs.Units.{places_above, right_above, range_above, places_least}

pub ranges_widen : RangesWiden
ranges_widen Objective b r e = absurd cc
ranges_widen Extra b r e = absurd cc
ranges_widen AtMost b r e = record {
  low = b -ℤ pos (nat_abs r);
  high = b;
  low_is =
      refl;
  high_is = refl;
  apart = omega (arith, ints);
  stands = refl;
}
ranges_widen AtLeast b r e = record {
  low = b;
  high = b +ℤ pos (nat_abs r);
  low_is =
      refl;
  high_is = refl;
  apart = refl;
  stands = refl;
}
ranges_widen Equal b (pos r) e = record {
  low = b;
  high = b +ℤ pos r;
  low_is = refl;
  high_is =
      refl;
  apart = refl;
  stands = (λ l. refl, λ l. omega (arith, ints, l));
}
ranges_widen Equal b (negsuc r) e = record {
  low = b -ℤ pos (suc r);
  high = b;
  low_is =
      refl;
  high_is = refl;
  apart = omega (arith, ints);
  stands =
      (λ l. absurd (omega (arith, ints, l)), λ l. refl);
}

reached : (d : Decimal) (n : ℕ) → IsRead d → IsWholeIn n d → d.places ≤ n
reached d n h w = canonical_places d w.0 n h.canonical (sym w.1)

whole : (d : Decimal) (n : ℕ) → d.places ≤ n → IsWholeIn n d
whole d n l = (in_units d n, units_keep_value d n l)

pub scale_is_least : ScaleIsLeast
scale_is_least r n h = (
  λ w. places_least r n (λ k d l. reached _ n (h.entries k d l) (w.entries k d l))
      (reached r.right n h.right w.right) (reached (or_zero r.range) n h.range w.range),
  λ l. let e = places_above r in let b = right_above r in let c = range_above r in record {
    entries = λ k d m. let p = e k d m in whole _ n (omega (arith, p, l));
    right = whole r.right n (omega (arith, b, l));
    range = whole (or_zero r.range) n (omega (arith, c, l));
  },
)
