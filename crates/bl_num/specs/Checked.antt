-- Arithmetic in `i128`: each operation gives its exact number, or None where an `i128` does not
-- hold that number or an operand is None.
use Rattle.std.specs.Prelude.{List, length, pos, ℕ, zero, suc, ◌^◌, ◌≤◌, ℤ, ◌+ℤ◌, ◌*ℤ◌, Option}
use Rattle.std.specs.Prelude.{Some, None, FitsSigned, nat_lt, if◌then◌else◌}
use Rattle.std.specs.Int.{w128}
use Rattle.bl_num.specs.Exact.{sum_below, product_at}
use lib.Signed.{mag}

-- z, where an `i128` holds it: -2^127 ≤ z < 2^127
abbrev pub i128_of : ℤ → Option ℤ
i128_of z = if nat_lt (mag z) (2 ^ 127) then Some z else None

abbrev pub checked_add : Option ℤ → Option ℤ → Option ℤ
checked_add None b = None
checked_add (Some a) None = None
checked_add (Some a) (Some b) = i128_of (a +ℤ b)

abbrev pub checked_mul : Option ℤ → Option ℤ → Option ℤ
checked_mul None b = None
checked_mul (Some a) None = None
checked_mul (Some a) (Some b) = i128_of (a *ℤ b)

-- start + f 0 + .. + f (n - 1), added from the left: None where a term is None or a partial sum
-- leaves i128
unfoldable pub checked_sum : Option ℤ → ℕ → (ℕ → Option ℤ) → Option ℤ
checked_sum start zero f = start
checked_sum start (suc n) f = checked_add (checked_sum start n f) (f n)

-- each partial sum of f from the left, over its first n places, is an `i128`
abbrev pub PartialsFit : ℕ → (ℕ → ℤ) → Type 0
PartialsFit n f = (k : ℕ) → k ≤ n → FitsSigned w128 (sum_below k f)

-- a 0 * b 0 + a 1 * b 1 + .., from the left: None where a partial sum leaves `i128`
abbrev pub dot_of : List ℤ → List ℤ → Option ℤ
dot_of a b = checked_sum (Some (pos 0)) (length a) (λ k. Some (product_at a b k))
