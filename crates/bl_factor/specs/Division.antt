-- Division of sizes.
use Rattle.std.specs.Prelude.{◌≡◌, ℕ, ◌+◌, ◌*◌, ◌<◌, ◌^◌}
use Rattle.bl_factor.specs.declared.division.Division.{Division}

-- a size of 64 bits times 2^40 is so many times the divisor, and a rest below it
pub record Divides (size divisor : ℕ) (d : Division) : Type 0 where
  pub small : size < 2 ^ 64
  pub quotient : d.quotient < 2 ^ 64
  pub whole : size * 2 ^ 40 ≡ d.quotient * divisor + d.rest
  pub rest : d.rest < divisor
