use Rattle.std.proofs.Common.{◌≡◌, ◌+◌, ◌++◌, ◌∷◌, [], ◌∙◌, ap, sym, subst, arith, rules, ℕ, List}
use Rattle.std.proofs.Common.{length, get_or, map, ℤ, to_z, of_z, FitsSigned}
use Rattle.std.specs.Int.{w64}
use Rattle.std.proofs.lemmas.Int.{to_z-of_z}
use Rattle.std.proofs.lemmas.List.{get_or_past, map_push}
use Rattle.bl_factor.specs.declared.sparse.Entry.{Entry}
use Rattle.bl_factor.specs.Vectors.{at}
use Rattle.bl_factor.specs.Others.{widened}
use Rattle.bl_factor.specs.Sparse.{AreBeside}
use Rattle.bl_factor.proofs.Numbers.{is_nought-no}
use Rattle.bl_factor.proofs.SparseLemmas.{AreBeside-push, AreBeside-weaker}
use Rattle.bl_factor.proofs.SupportLemmas.{rising-below, rising-next}
use Rattle.bl_factor.proofs.others.narrow_entries.Goals as goal
use Rattle.bl_factor.proofs.others.narrow_entries.Goals.{then-value-ne0+then-place-except+in-Ok+in_ok-push}
use Rattle.bl_factor.proofs.others.narrow_entries.Goals.{else-value-ne0}

pub bounds-column-place : goal.bounds-column-place
bounds-column-place c = rising-below 0 (length c.args.column.now) c.args.places.now c.requires
    c.loop-listed.listed-index 0 c.loop-listed-test.true

pub loop-listed-preserved : goal.loop-listed-preserved
loop-listed-preserved c =
    let n = length c.args.column.now in
    let ps = c.args.places.now in
    let k = c.loop-listed.listed-index in
    let i = get_or ps k 0 in
    let x = at c.args.column.now i in
    let es = map widened c.loop-listed.entries.items in
    let next = get_or ps (k + 1) n in
    let r = rising-next 0 n ps k c.requires c.loop-listed-test.true in
    let b = subst (λ (j : ℕ). AreBeside j c.args.except es) r.0 c.loop-listed.invariant in
    let P = λ (es : List Entry). AreBeside next c.args.except es in
    elim c.if-value-ne0.branch [
      | then-value-ne0+then-place-except+in-Ok+in_ok-push w ↦
          let g : FitsSigned w64 w.in-Ok.raw = search rules in
          let raw : ℤ = to_z w64 (of_z w64 w.in-Ok.raw) in
          let q : widened (record { raw = w.in-Ok.raw; place = i })
          ≡ record { place = i; value = x } = search rules in
          let m : map widened c.if-value-ne0.entries.items ≡ es ++ record { place = i; value = x }
          ∷ [] =
          ap (map widened) (ap (λ (z : _). z.items) w.entries-is ∙ w.in_ok-push.ensures.items)
          ∙ map_push widened c.loop-listed.entries.items (record { raw = raw; place = i })
          ∙ ap (λ (e : Entry). es ++ e ∷ [])
          (ap (λ (z : ℤ). widened (record { raw = z; place = i }))
          (to_z-of_z w64 w.in-Ok.raw g) ∙ q) in
          subst P (sym m)
          (AreBeside-push i next c.args.except es (record { place = i; value = x }) b
          (omega arith) r.1 (is_nought-no x w.if-value-ne0.true) w.if-place-except.true)
      | else-value-ne0 w ↦
          subst P (sym (ap (λ (z : _). map widened z.items) w.entries-is))
          (AreBeside-weaker i next c.args.except es b (omega (arith, r.1)))
    ]

pub returns : goal.returns
returns c =
    let n = length c.args.column.now in
    let p = get_or_past c.args.places.now c.loop-listed.listed-index n
    (omega (arith, c.loop-listed-test.false)) in
    subst (λ (j : ℕ). AreBeside j c.args.except (map widened c.loop-listed.entries.items)) p
    c.loop-listed.invariant
