-- What a reader of words gives.
use Rattle.std.specs.Prelude.{◌≡◌, List, ◌++◌, Result, MatchResult}
use Rattle.bl_log.specs.declared.fault.Miss.{Miss}
use Rattle.bl_log.specs.declared.fault.Miss.TheVariants.{Memory}
use Rattle.bl_log.specs.Spaced.{Text}

-- where the words begin with those of a value that fits, this value is read, or there is no
-- memory, and the words behind it are left
abbrev pub Reads : {X : Type 0} → (X → List Text) → (X → Type 0) → List Text → Result X Miss
    → List Text → Type 0
Reads {X} spelled fits old result new =
    (x : X) (rest : List Text) → fits x → old ≡ spelled x ++ rest
    → MatchResult result (λ y. (y ≡ x) × (new ≡ rest)) (λ e. e ≡ Memory)
