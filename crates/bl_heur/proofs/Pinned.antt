-- A column takes one value.
use Rattle.std.proofs.Common.{ℕ, zero, suc, ◌<◌, ◌^◌, ℤ, arith, List, [], ◌∷◌, length}
use Rattle.std.specs.Prelude.{slice_index_or}
use Rattle.bl_problem.specs.Sums.{IsWithin}
use Rattle.bl_problem.specs.Program.{Program}
use Rattle.bl_problem.specs.declared.cut.Cut.{Cut}
use Rattle.bl_problem.specs.declared.decision.Decision.{Decision}
use Rattle.bl_problem.specs.declared.decision.Side.TheVariants.{AtLeast, AtMost}
use Rattle.bl_desc.specs.declared.desc.Desc.{Desc}
use Rattle.bl_bound.specs.Descriptions.{Describes}
use Rattle.bl_prop.specs.Limits.{IsDecision}
use Rattle.bl_heur.specs.Dives.{narrowed}
use Rattle.bl_heur.proofs.Dived.{narrowed-describes}

both : (n : ℕ) (a b : Decision) → IsDecision n a → IsDecision n b → (i : ℕ) (d : Decision) → i < 2
    → IsDecision n (slice_index_or (a ∷ b ∷ []) i d)
both n a b h k zero d l = h
both n a b h k (suc zero) d l = k
both n a b h k (suc (suc i)) d l = absurd (omega (arith, l))

-- the value is at least and at most this
abbrev pub pin_of : ℕ → ℤ → List Decision
pin_of j v = record { column = j; side = AtLeast; value = v }
    ∷ record { column = j; side = AtMost; value = v } ∷ []

pub pinned-describes : (p : Program) (d : Desc Cut) (j : ℕ) (v : ℤ) → j < length d.lows
    → IsWithin (10 ^ 9) v → Describes p d → Describes p (narrowed d (pin_of j v))
pinned-describes p d j v l w h =
    let k : j < length p.columns = omega (arith, l, h.lows) in
    narrowed-describes p (pin_of j v) d h (both (length p.columns)
    (record { column = j; side = AtLeast; value = v })
    (record { column = j; side = AtMost; value = v }) (record { column = k; value = w })
    (record { column = k; value = w }))
