use Rattle.std.proofs.Common.{◌≡◌, ◌+◌, ◌∙◌, ap, sym, subst, arith, ℕ, List, length}
use Rattle.bl_factor.specs.Support.{IsRising}
use Rattle.bl_factor.proofs.SupportLemmas.{IsRising-push, IsRising-weaker}
use Rattle.bl_factor.proofs.support.places_of.Goals as goal
use Rattle.bl_factor.proofs.support.places_of.Goals.{then-number-ne0+in_ok-push, else-number-ne0}

pub loop-place-preserved : goal.loop-place-preserved
loop-place-preserved c =
    let i = c.loop-place.place in
    let ps = c.loop-place.places.items in
    let P = λ (ps : List ℕ). IsRising 0 (i + 1) ps in
    elim c.if-number-ne0.branch [
      | then-number-ne0+in_ok-push w ↦
          subst P (sym (ap (λ (v : _). v.items) w.places-is ∙ w.in_ok-push.ensures.items))
          (IsRising-push 0 i (i + 1) ps i c.loop-place.invariant (omega arith) (omega arith)
          (omega arith))
      | else-number-ne0 w ↦ subst P (sym (ap (λ (v : _). v.items) w.places-is))
          (IsRising-weaker 0 i (i + 1) ps c.loop-place.invariant (omega arith))
    ]

pub returns : goal.returns
returns c =
    let n : c.loop-place.place ≡ length c.args.column.now =
    omega (arith, c.loop-place-test.false, c.loop-place.auto.place-end) in
    subst (λ (i : ℕ). IsRising 0 i c.loop-place.places.items) n c.loop-place.invariant
