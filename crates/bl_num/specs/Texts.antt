-- How a number is written.
use Rattle.std.specs.Prelude.{ℕ, zero, suc, ◌+◌, ◌/◌, ◌%◌, ◌^◌, ◌==◌, if◌then◌else◌, List, []}
use Rattle.std.specs.Prelude.{◌∷◌, ◌++◌, ℤ, pos, negsuc, nat_abs}
use Rattle.std.specs.Fmt.{decimal}
use Rattle.bl_num.specs.Decimals.{trimmed}

-- the digits of r at so many places, with zeros in front
abbrev pub padded : ℕ → ℕ → List ℕ
padded zero r = []
padded (suc k) r = (48 + r / 10 ^ k) ∷ padded k (r % 10 ^ k)

-- a point and the digits of r / 10 ^ places without trailing zeros; nothing where r is zero
abbrev pub fraction_text : ℕ → ℕ → List ℕ
fraction_text places r = if r == 0 then [] else 46 ∷ trimmed (padded places r)

abbrev pub minus_text : ℤ → List ℕ
minus_text (pos n) = []
minus_text (negsuc n) = 45 ∷ []

-- z / 10 ^ places: the sign, the whole part, and the fraction where it is not zero
unfoldable pub text_of : ℤ → ℕ → List ℕ
text_of z places = minus_text z ++ decimal (nat_abs z / 10 ^ places)
    ++ fraction_text places (nat_abs z % 10 ^ places)
