use Rattle.std.proofs.Common.{◌∙◌, ◌++◌, ◌∷◌, [], ℕ, ap, sym, subst, take, append_assoc}
use Rattle.std.proofs.lemmas.List.{take_more}
use Rattle.bl_log.specs.Spaced.{Text, spaced, each}
use Rattle.bl_log.proofs.Laid.{each_laid}
use Rattle.std.proofs.lemmas.List.Elements.{All-push}
use Rattle.std.specs.Prelude.{All}
use Rattle.std.specs.String.{string_bytes}
use Rattle.bl_log.proofs.spell.push_each.Goals as goal

pub loop-x-preserved : goal.loop-x-preserved
loop-x-preserved g c =
    let i : ℕ = c.loop-x.x-index in
    let xs = c.args.list.now in
    let x = c.x-item.result in
    let old : Text = string_bytes c.args.text.now in
    let words = g.T.Spell.spelled in
    let more = take_more xs i x c.loop-x-test.true
    ∙ ap (λ y. take i xs ++ y ∷ []) (sym c.x-item.is) in (
      c.in_ok-push.ensures.laid ∙ ap (λ (t : Text). t ++ spaced (words x)) c.loop-x.invariant.0
          ∙ append_assoc old (spaced (each words (take i xs))) (spaced (words x))
          ∙ ap (λ (t : Text). old ++ t)
          (sym (ap (λ ys. spaced (each words ys)) more ∙ each_laid words (take i xs) x)),
      subst (λ ys. All g.T.Spell.fits ys) (sym more)
          (All-push g.T.Spell.fits (take i xs) x c.loop-x.invariant.1 c.in_ok-push.ensures.fits),
    )
