-- What a factor stands for: a square matrix, and a product of elementary factors that solves for
-- it.
use Rattle.std.specs.Prelude.{ℕ, List, length, map}
use Rattle.std.specs.List.{range_with_len}
use Rattle.bl_fixed.specs.declared.Fixed.{Fixed}
use Rattle.bl_factor.specs.Vectors.{unit_column}
use Rattle.bl_factor.specs.Elimination.{Elimination, image_under, transposed_image_under}

pub record Factored : Type 0 where
  -- the columns, by place
  pub matrix : List (List Fixed)
  -- in the order in which they are applied
  pub steps : List Elimination

abbrev pub size_of : Factored → ℕ
size_of f = length f.matrix

abbrev pub image_of : Factored → List Fixed → List Fixed
image_of f right = image_under f.steps right

abbrev pub transposed_image_of : Factored → List Fixed → List Fixed
transposed_image_of f right = transposed_image_under f.steps right

unfoldable pub unit_matrix : ℕ → List (List Fixed)
unit_matrix n = map (unit_column n) (range_with_len 0 n)
