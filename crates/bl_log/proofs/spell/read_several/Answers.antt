use Rattle.std.proofs.Common.{◌≡◌, ◌∙◌, ◌+◌, ◌++◌, ◌∷◌, [], List, length, ap, sym, subst, arith}
use Rattle.std.specs.Prelude.{All}
use Rattle.std.proofs.lemmas.List.{length-append}
use Rattle.std.proofs.lemmas.List.Elements.{All-nil, All-push}
use Rattle.bl_log.specs.Spaced.{each}
use Rattle.bl_log.proofs.Stepping.{after, err_stays, next_left}
use Rattle.bl_log.proofs.spell.read_several.Goals as goal

pub loop-init : goal.loop-init
loop-init g c = (
  ap length c.new-list.ensures,
  subst (λ (l : List g.row.T.Denot). All g.T.Spell.fits l) (sym c.new-list.ensures)
      (All-nil g.T.Spell.fits),
  λ xs rest same f is. record {
    left = xs;
    all_is =
        ap (λ (l : List g.row.T.Denot). l ++ xs) (sym c.new-list.ensures);
    laid = is;
    fit = f;
  },
)

pub returns-in_err-element-clause-reads : goal.returns-in_err-element-clause-reads
returns-in_err-element-clause-reads g c = λ xs rest same f is.
    let h = c.loop.invariant.2 xs rest same f is in
    let n = next_left _ _ xs c.loop.list c.loop.words rest h
    (omega (arith, c.loop.invariant.0, c.loop-test.true, same)) in
    err_stays c.from_residual.result _ _ c.from_residual.ensures
    (c.in_err-element.ensures.reads n.x (each g.T.Spell.spelled n.left ++ rest) n.fit n.laid)

pub loop-preserved : goal.loop-preserved
loop-preserved g c =
    let y = c.in_ok-element.element in
    let pushed : c.push.new.self ≡ c.loop.list ++ y ∷ [] = c.in_ok-push.ensures.ok in (
      ap length pushed ∙ length-append c.loop.list (y ∷ []) ∙ ap (λ k. k + 1) c.loop.invariant.0,
      subst (λ l. All g.T.Spell.fits l) (sym pushed)
          (All-push g.T.Spell.fits c.loop.list y c.loop.invariant.1 c.in_ok-element.ensures.fits),
      λ xs rest same f is.
          let h = c.loop.invariant.2 xs rest same f is in
          let n = next_left _ _ xs c.loop.list c.loop.words rest h
          (omega (arith, c.loop.invariant.0, c.loop-test.true, same)) in
          let read = c.in_ok-element.ensures.reads n.x (each g.T.Spell.spelled n.left ++ rest)
          n.fit n.laid in
          after _ _ xs c.loop.list c.loop.words rest n y c.push.new.self c.read.new.words read.0
          pushed read.1,
    )
