use Rattle.std.proofs.Common.{◌≡◌, ◌∙◌, ◌∷◌, [], ap, refl, length, List, arith}
use Rattle.std.specs.Prelude.{Option, None}
use Rattle.std.specs.Global.{Vec}
use Rattle.std.proofs.lemmas.List.{length-append}
use Rattle.std.proofs.lemmas.List.Elements.{All-nil, All-push, All-same}
use Rattle.bl_fixed.specs.declared.Fixed.{Fixed}
use Rattle.bl_factor.specs.declared.sparse.Entry.{Entry}
use Rattle.bl_factor.specs.Elimination.{Elimination}
use Rattle.bl_factor.specs.Factored.{unit_matrix}
use Rattle.bl_factor.specs.Etas.{eliminations}
use Rattle.bl_factor.proofs.KeptLemmas.{IsKept-units, length-matrix_of, matrix-units}
use Rattle.bl_factor.proofs.Factor.identity.Goals as goal

pub loop-place-init : goal.loop-place-init
loop-place-init c =
    let e = c.in_ok-columns.ensures.items in
    record {
      long = ap length e;
      units = All-same (λ (o : Option (Vec Entry)). o ≡ None) c.in_ok-columns.columns.items [] e
          (All-nil (λ (o : Option (Vec Entry)). o ≡ None));
    }

pub loop-place-preserved : goal.loop-place-preserved
loop-place-preserved c =
    let v = c.loop-place.invariant in
    let e = c.in_ok-push.ensures.items in
    let n = length-append c.loop-place.columns.items (None ∷ []) in
    record {
      long = ap length e ∙ n ∙ omega (arith, v.long);
      units = All-same (λ (o : Option (Vec Entry)). o ≡ None) _ _ e
          (All-push (λ (o : Option (Vec Entry)). o ≡ None) c.loop-place.columns.items None v.units
          refl);
    }

pub invariant_of-result : goal.invariant_of-result
invariant_of-result c =
    IsKept-units _
    (omega (
      arith,
      c.loop-place.invariant.long,
      c.loop-place.auto.place-end,
      c.ranges.size.fits,
    )) c.loop-place.invariant.units c.new.ensures.items

pub returns-clause-value : goal.returns-clause-value
returns-clause-value c =
    let cs = c.loop-place.columns.items in
    let n : length cs ≡ c.args.size = omega
    (arith, c.loop-place.invariant.long, c.loop-place.auto.place-end, c.loop-place-test.false)
    in
    let m = matrix-units cs c.loop-place.invariant.units ∙ ap unit_matrix n in
    let s = ap (eliminations (length cs)) c.new.ensures.items in
    ap (λ (xs : List (List Fixed)). record {
      matrix = xs;
      steps =
          eliminations (length cs) c.new.result.items;
    }) m
    ∙ ap (λ (us : List Elimination). record { matrix = unit_matrix c.args.size; steps = us }) s

pub returns-clause-size : goal.returns-clause-size
returns-clause-size c =
    let cs = c.loop-place.columns.items in
    let n : length cs ≡ c.args.size = omega
    (arith, c.loop-place.invariant.long, c.loop-place.auto.place-end, c.loop-place-test.false)
    in
    length-matrix_of (length cs) cs ∙ n
