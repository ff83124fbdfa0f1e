-- What `derive` answers.
use Rattle.std.specs.Prelude.{◌≡◌, ℕ, List, length, ℤ, nat_le, unsigned_abs, ◌^◌, Option, Some}
use Rattle.std.specs.Prelude.{None, Ok, Err, if◌then◌else◌}
use Rattle.std.specs.declared.result.Result.{Result}
use Rattle.bl_mods.specs.declared.mods.ItemId.{ItemId}
use Rattle.bl_problem.specs.Program.{Program}
use Rattle.bl_problem.specs.Points.{own_lows}
use Rattle.bl_problem.specs.declared.cut.Cut.{Cut}
use Rattle.bl_bound.specs.Lines.{Line, lines_of}
use Rattle.bl_cuts.specs.declared.fault.CutFault.{CutFault}
use Rattle.bl_cuts.specs.declared.fault.CutFault.TheVariants.{Weights, TooWide, Memory}
use Rattle.bl_cuts.specs.Derivations.{weighted_sum, points_at_ends, ends_sum, right_of, rounded}
use Rattle.bl_cuts.specs.Derivations.{terms_below, are_small}

-- the cut of rounded coefficients, where its right side is there and it keeps the limits
abbrev pub cut_within : ItemId → ℕ → (ℕ → ℤ) → Option ℤ → Result Cut CutFault
cut_within id n f None = Err TooWide
cut_within id n f (Some right) =
    if are_small n f then (if nat_le (unsigned_abs right) (10 ^ 30)
    then Ok (record { id = id; terms = terms_below n f; right = right }) else Err TooWide)
    else Err TooWide

abbrev pub cut_of : ItemId → ℕ → List ℤ → List Line → List ℤ → ℤ → Result Cut CutFault
cut_of id n lows lines w q =
    if points_at_ends (length lines) lines w
    then cut_within id n (rounded (weighted_sum lines w) q)
    (right_of n (weighted_sum lines w) (ends_sum lines w) lows q)
    else Err Weights

-- the cut that weights over the rows and the cuts give, divided by q, or why there is none
abbrev pub derived_of : Program → List Cut → List ℤ → ℤ → ItemId → Result Cut CutFault
derived_of p cuts w q id = cut_of id (length p.columns) (own_lows p) (lines_of p.rows cuts) w q

-- the answer is the stated one, or want of memory
abbrev pub IsOrMemory : Result Cut CutFault → Result Cut CutFault → Type 0
IsOrMemory (Ok cut) stated = stated ≡ Ok cut
IsOrMemory (Err Weights) stated = stated ≡ Err Weights
IsOrMemory (Err TooWide) stated = stated ≡ Err TooWide
IsOrMemory (Err Memory) stated = Unit {0}
