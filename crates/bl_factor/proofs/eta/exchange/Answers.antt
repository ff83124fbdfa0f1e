use Rattle.std.proofs.Common.{◌≡◌, ◌∙◌, ap, sym, subst, set, ℕ, ℤ, inl, inr, to_z, of_z, rules}
use Rattle.std.proofs.Common.{FitsSigned}
use Rattle.std.specs.Int.{w128}
use Rattle.std.specs.List.{swap}
use Rattle.std.proofs.lemmas.Int.{to_z-of_z}
use Rattle.std.proofs.lemmas.List.{set_comm}
use Rattle.std.proofs.lemmas.List.Edits.{swap_is}
use Rattle.std.proofs.lemmas.Bool.{cases_eq}
use Rattle.bl_fixed.specs.declared.Fixed.{Fixed}
use Rattle.bl_factor.specs.Vectors.{nought, at}
use Rattle.bl_factor.proofs.eta.exchange.Goals as goal

pub returns : goal.returns
returns c =
    let xs = c.args.right.now in
    let i = c.args.place in
    let row = c.args.row in
    let f : FitsSigned w128 (at xs i).raw = search rules in
    let g : FitsSigned w128 (at xs row).raw = search rules in
    let x : record { raw = to_z w128 (of_z w128 (at xs i).raw) } ≡ at xs i =
    ap (λ (z : ℤ). record { raw = z }) (to_z-of_z w128 (at xs i).raw f) in
    let y : record { raw = to_z w128 (of_z w128 (at xs row).raw) } ≡ at xs row =
    ap (λ (z : ℤ). record { raw = z }) (to_z-of_z w128 (at xs row).raw g) in
    ap (λ (v : Fixed). set (set xs row v) i
    (record { raw = to_z w128 (of_z w128 (at xs row).raw) })) x
    ∙ ap (λ (v : Fixed). set (set xs row (at xs i)) i v) y
    ∙ elim (cases_eq row i) [
      | inl p ↦
          subst (λ (j : ℕ). set (set xs j (at xs i)) i (at xs j) ≡ swap xs i j) (sym p)
          (swap_is xs i i nought c.requires.place_in c.requires.place_in)
      | inr q ↦
          set_comm xs row i (at xs i) (at xs row) q
          ∙ swap_is xs i row nought c.requires.place_in c.requires.row_in
    ]
