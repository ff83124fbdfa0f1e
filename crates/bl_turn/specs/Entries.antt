-- Lists of entries, each of which carries the number of a seat.
use Rattle.std.specs.Prelude.{◌≡◌, ◌≢◌, ℕ, ◌≤◌, ◌==◌, List, ◌++◌, if◌then◌else◌, filter, length}
use Rattle.std.specs.Prelude.{nat_lt, All}

module _ {E : Type 0} where
  -- the entries that carry the number n, in order
  abbrev pub entries_by : (E → ℕ) → ℕ → List E → List E
  entries_by by n es = filter (λ e. by e == n) es

  -- no entry carries the number n
  abbrev pub NoneBy : (E → ℕ) → ℕ → List E → Type 0
  NoneBy by n es = All (λ e. by e ≢ n) es

  -- each entry carries a number from 1 to n
  abbrev pub FromOneTo : (E → ℕ) → ℕ → List E → Type 0
  FromOneTo by n es = All (λ e. (1 ≤ by e) × (by e ≤ n)) es

  -- the longer of two lists, and the first where neither is
  abbrev pub longer_of : List E → List E → List E
  longer_of xs ys = if nat_lt (length xs) (length ys) then ys else xs

  -- the list is a beginning, and then a rest
  abbrev pub BeginsWith : List E → List E → Type 0
  BeginsWith list beginning = (rest : List E) × (list ≡ beginning ++ rest)
