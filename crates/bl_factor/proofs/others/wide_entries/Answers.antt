use Rattle.std.proofs.Common.{◌+◌, ◌∙◌, ap, sym, subst, arith, ℕ, List, length, get_or}
use Rattle.std.proofs.lemmas.List.{get_or_past}
use Rattle.bl_factor.specs.declared.sparse.Entry.{Entry}
use Rattle.bl_factor.specs.Vectors.{at}
use Rattle.bl_factor.specs.Sparse.{AreBeside}
use Rattle.bl_factor.proofs.Numbers.{is_nought-no}
use Rattle.bl_factor.proofs.SparseLemmas.{AreBeside-push, AreBeside-weaker}
use Rattle.bl_factor.proofs.SupportLemmas.{rising-below, rising-next}
use Rattle.bl_factor.proofs.others.wide_entries.Goals as goal
use Rattle.bl_factor.proofs.others.wide_entries.Goals.{then-value-ne0+then-place-except+in_ok-push}
use Rattle.bl_factor.proofs.others.wide_entries.Goals.{else-value-ne0}

pub bounds-column-place : goal.bounds-column-place
bounds-column-place c = rising-below 0 (length c.args.column.now) c.args.places.now c.requires
    c.loop-listed.listed-index 0 c.loop-listed-test.true

pub loop-listed-preserved : goal.loop-listed-preserved
loop-listed-preserved c =
    let n = length c.args.column.now in
    let ps = c.args.places.now in
    let k = c.loop-listed.listed-index in
    let i = get_or ps k 0 in
    let x = at c.args.column.now i in
    let es = c.loop-listed.entries.items in
    let next = get_or ps (k + 1) n in
    let r = rising-next 0 n ps k c.requires c.loop-listed-test.true in
    let b = subst (λ (j : ℕ). AreBeside j c.args.except es) r.0 c.loop-listed.invariant in
    let P = λ (es : List Entry). AreBeside next c.args.except es in
    elim c.if-value-ne0.branch [
      | then-value-ne0+then-place-except+in_ok-push w ↦
          subst P (sym (ap (λ (z : _). z.items) w.entries-is ∙ w.in_ok-push.ensures.items))
          (AreBeside-push i next c.args.except es (record { place = i; value = x }) b
          (omega arith) r.1 (is_nought-no x w.if-value-ne0.true) w.if-place-except.true)
      | else-value-ne0 w ↦ subst P (sym (ap (λ (z : _). z.items) w.entries-is))
          (AreBeside-weaker i next c.args.except es b (omega (arith, r.1)))
    ]

pub returns : goal.returns
returns c =
    let n = length c.args.column.now in
    let p = get_or_past c.args.places.now c.loop-listed.listed-index n
    (omega (arith, c.loop-listed-test.false)) in
    subst (λ (j : ℕ). AreBeside j c.args.except c.loop-listed.entries.items) p
    c.loop-listed.invariant
