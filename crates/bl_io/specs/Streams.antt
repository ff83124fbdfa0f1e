-- What whole reads and writes leave. `None` is a source or a sink that tells no bytes.
use Rattle.std.specs.Prelude.{◌≡◌, ◌≤◌, ℕ, List, length, take, drop, ◌++◌, ⊤, Some, None}
use Rattle.std.specs.Prelude.{MatchResult}
use Rattle.std.specs.declared.option.Option.{Option}
use Rattle.std.specs.declared.result.Result.{Result}
use Rattle.std.specs.Io.KnownBytes.{Consumes, IsAtEnd, Appends, Keeps}

-- a read gave the next bytes, none only at the end, and a refused one took nothing
abbrev pub Gives : {E : Type 0} → Option (List ℕ) → Option (List ℕ) → Result ℕ E → List ℕ → Type 0
Gives before now result buf =
    MatchResult result (λ n. Consumes before now (take n buf) × (n ≡ 0 → IsAtEnd now))
    (λ _. Keeps before now)

-- n bytes were taken and appended to a list, none only at the end
pub record TakesPiece (before now : Option (List ℕ)) (old new : List ℕ) (n : ℕ) : Type 0 where
  pub piece : List ℕ
  pub size : length piece ≡ n
  pub taken : Consumes before now piece
  pub appended : new ≡ old ++ piece
  pub at_end : n ≡ 0 → IsAtEnd now

-- the source was read to its end, and these were the bytes, no more than the limit
pub record IsReadToEnd (before now : Option (List ℕ)) (limit : ℕ) (bytes : List ℕ) : Type 0 where
  pub taken : Consumes before now bytes
  pub at_end : IsAtEnd now
  pub short : length bytes ≤ limit

-- n bytes were taken
abbrev pub Takes : Option (List ℕ) → Option (List ℕ) → ℕ → Type 0
Takes None now n = ⊤
Takes (Some xs) None n = ⊥
Takes (Some xs) (Some ys) n = (n ≤ length xs) × (ys ≡ drop n xs)

-- some number of bytes was taken, at most this one
abbrev pub TakesAtMost : Option (List ℕ) → Option (List ℕ) → ℕ → Type 0
TakesAtMost before now limit = (n : ℕ) × (n ≤ limit) × Takes before now n

-- the source did not fail, and no more than the limit was taken
pub record ReadsWithin (before now : Option (List ℕ)) (faults faults' limit : ℕ) : Type 0 where
  pub taken : TakesAtMost before now limit
  pub count : faults' ≡ faults

-- a prefix of the text was appended
abbrev pub AppendsPrefix : Option (List ℕ) → Option (List ℕ) → List ℕ → Type 0
AppendsPrefix before now text = (n : ℕ) × (n ≤ length text) × Appends before now (take n text)
