-- What a word that was read as a number comes to.
use Rattle.std.proofs.Common.{Result, Ok, Err, ◌≡◌, ℕ, zero, suc, false, List, arith, ℤ, ◌^◌, ◌*◌}
use Rattle.std.proofs.Common.{◌≤◌}
use Rattle.std.specs.Prelude.{nat_abs, nat_lt}
use Rattle.std.proofs.lemmas.Bool.Decides.{nat_tests}
use Rattle.bl_num.specs.declared.Decimal.{Decimal}
use Rattle.bl_num.specs.declared.NumberFault.{NumberFault}
use Rattle.bl_num.specs.declared.NumberFault.TheVariants as number
use Rattle.bl_num.specs.Decimals.{decimal_of}
use Rattle.bl_num.specs.Spellings.{IsCanonical, IsWithinLimits}
use Rattle.bl_cards.specs.declared.kind.What.TheVariants as what
use Rattle.bl_cards.specs.Said.{refuse}
use Rattle.bl_cards.specs.Lines.{number_or_fault, number_at, bound_at}
use Rattle.bl_cards.specs.Coherence.{IsRead, IsSmall}
use Rattle.bl_num.proofs.Readings.{decimal_of-ok}
use Rattle.bl_cards.proofs.Coherent.{went, passed}

read_by : (r : Result Decimal NumberFault) (d : Decimal) → number_or_fault r ≡ Ok d → r ≡ Ok d
read_by (Ok x) d e = cc
read_by (Err number.Spelling) d e = absurd cc
read_by (Err number.TooWide) d e = absurd cc

pub number_read : (word : List ℕ) (d : Decimal) → number_at word ≡ Ok d → IsRead d
number_read word d e =
    let k : IsCanonical d × IsWithinLimits d =
    decimal_of-ok word d (read_by (decimal_of word) d e) in
    record { canonical = k.0; limits = k.1 }

small_by : (p m : ℕ) → nat_lt (10 ^ 9 * 10 ^ p) m ≡ false → nat_lt 0 p ≡ false → m ≤ 10 ^ 9
small_by zero m e f = grind (arith, nat_tests)
small_by (suc p) m e f = grind (arith, nat_tests)

pub bound_small : (word : List ℕ) (n : ℤ) → bound_at word ≡ Ok n → IsSmall n
bound_small word n e =
    let a = went (number_at word) _ n e in
    let b = went (refuse (nat_lt (10 ^ 9 * 10 ^ a.x.places) (nat_abs a.x.mantissa)) what.TooWide)
    _ n a.then in
    let c = went (refuse (nat_lt 0 a.x.places) what.FractionBound) _ n b.then in
    let is : a.x.mantissa ≡ n = cc in
    rw (← is) (small_by a.x.places (nat_abs a.x.mantissa) (passed _ what.TooWide b.x b.is)
    (passed _ what.FractionBound c.x c.is))
