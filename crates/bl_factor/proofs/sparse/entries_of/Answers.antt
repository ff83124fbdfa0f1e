use Rattle.std.proofs.Common.{◌≡◌, ◌+◌, ◌∙◌, ap, sym, subst, List, length, FitsSigned, arith, rules}
use Rattle.std.specs.Int.{w128}
use Rattle.bl_factor.specs.declared.sparse.Entry.{Entry}
use Rattle.bl_factor.specs.Vectors.{at}
use Rattle.bl_factor.proofs.Numbers.{is_nought-true, is_nought-yes, is_nought-no}
use Rattle.bl_factor.proofs.SparseLemmas.{IsPart, IsPart-push, IsPart-nought}
use Rattle.bl_factor.proofs.sparse.entries_of.Goals as goal
use Rattle.bl_factor.proofs.sparse.entries_of.Goals.{then-value-ne0+in_ok-push, else-value-ne0}

pub loop-place-preserved : goal.loop-place-preserved
loop-place-preserved c =
    let column = c.args.column.now in
    let i = c.loop-place.place in
    let x = at column i in
    let f : FitsSigned w128 x.raw = search rules in
    let P = λ (es : List Entry). IsPart column (i + 1) es in
    elim c.if-value-ne0.branch [
      | then-value-ne0+in_ok-push w ↦
          subst P (sym (ap (λ (v : _). v.items) w.entries-is ∙ w.in_ok-push.ensures.items))
          (IsPart-push column i c.loop-place.entries.items (is_nought-no x w.if-value-ne0.true)
          c.loop-place.invariant)
      | else-value-ne0 w ↦
          subst P (sym (ap (λ (v : _). v.items) w.entries-is))
          (IsPart-nought column i c.loop-place.entries.items
          (is_nought-true x (is_nought-yes x f w.if-value-ne0.false)) c.loop-place.invariant)
    ]

pub returns : goal.returns
returns c =
    let n : c.loop-place.place ≡ length c.args.column.now =
    omega (arith, c.loop-place-test.false, c.loop-place.auto.place-end) in
    let p = subst (λ (i : _). IsPart c.args.column.now i c.loop-place.entries.items) n
    c.loop-place.invariant in
    record { sparse = p.sparse; values = p.values }
