-- The change of nothing changes nothing.
use Rattle.std.proofs.Common.{◌≡◌, ℕ, ◌+◌, List, [], ◌∷◌, ◌++◌, refl, ap, ◌∙◌, append-nil}
use Rattle.bl_mods.specs.Mods.{kept_from}
use Rattle.bl_desc.specs.declared.desc.Desc.{Desc}
use Rattle.bl_desc.specs.declared.desc.Status.{Status}
use Rattle.bl_desc.specs.Changes.{changed, nothing}

kept_none : {X : Type 0} (i : ℕ) (xs : List X) → kept_from i [] xs ≡ xs
kept_none i [] = refl
kept_none i (x ∷ xs) = ap (λ l. x ∷ l) (kept_none (i + 1) xs)

pub relisted_none : {X : Type 0} (xs : List X) → kept_from 0 [] xs ++ [] ≡ xs
relisted_none xs = append-nil (kept_from 0 [] xs) ∙ kept_none 0 xs

pub unchanged : {C : Type 0} (d : Desc C) → changed nothing d ≡ d
unchanged {C} d =
    let with_cuts : List C → Desc C =
    λ cuts. record d { cuts = cuts; cut_status = kept_from 0 [] d.cut_status ++ [] } in
    let with_status : List Status → Desc C = λ status. record d { cut_status = status } in
    ap with_cuts (relisted_none d.cuts) ∙ ap with_status (relisted_none d.cut_status)
