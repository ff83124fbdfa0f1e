use Rattle.std.proofs.Common.{◌≡◌, ◌^◌, arith, sym, ◌∙◌, ap, FitsSigned}
use Rattle.std.proofs.lemmas.Int.{ints, to_z-of_z}
use Rattle.std.specs.Int.{w128}
use Rattle.std.proofs.lemmas.List.Elements.{All-get_or}
use Rattle.bl_num.proofs.SumLemmas.{at-map}
use Rattle.bl_problem.specs.Sums.{IsWithin}
use Rattle.bl_problem.specs.Program.{IsColumn}
use Rattle.bl_problem.specs.declared.problem.Column.{Column}
use Rattle.bl_problem.proofs.Limits.{limited_product}
use Rattle.bl_problem.proofs.Trivial.{min_within}
use Rattle.bl_cover.specs.Covers.{least_of}
use Rattle.bl_cover.proofs.knapsack.least_of.Goals as goal

-- the lesser product: it is exact, and small
lesser : (c : goal.After-min) → (c.min.result ≡ least_of c.args.columns.now c.args.term)
    × IsWithin (10 ^ 24) c.min.result
lesser c =
    let k : Column = c.index-columns-term.result in
    let col : IsColumn k = rw c.index-columns-term.is
    (All-get_or IsColumn c.args.columns.now c.args.term.column k c.requires.column
    c.requires.columns) in
    let low = limited_product c.product.result c.args.term.coefficient k.low
    c.product.ensures.value c.requires.small col.low in
    let high = limited_product c.product-2.result c.args.term.coefficient k.high
    c.product-2.ensures.value c.requires.small col.high in
    let f : FitsSigned w128 c.product.result = omega (arith, ints) in
    let g : FitsSigned w128 c.product-2.result = omega (arith, ints) in
    let e = simp (to_z-of_z) at c.min.ensures.value in
    let r = simp (low.0, high.0) at e in
    let a = at-map (λ (d : Column). d.low) c.args.columns.now c.args.term.column k
    c.requires.column ∙ ap (λ (d : Column). d.low) (sym c.index-columns-term.is) in
    let b = at-map (λ (d : Column). d.high) c.args.columns.now c.args.term.column k
    c.requires.column ∙ ap (λ (d : Column). d.high) (sym c.index-columns-term.is) in
    (rw (a, b) r, rw e (min_within (10 ^ 24) c.product.result c.product-2.result low.1 high.1))

pub returns-clause-exact : goal.returns-clause-exact
returns-clause-exact c =
    let p = lesser c in
    let f : FitsSigned w128 c.min.result = omega (arith, ints, p.1) in
    to_z-of_z w128 c.min.result f ∙ p.0

pub returns-clause-near : goal.returns-clause-near
returns-clause-near c =
    let p = lesser c in
    let f : FitsSigned w128 c.min.result = omega (arith, ints, p.1) in
    rw (to_z-of_z w128 c.min.result f) p.1
