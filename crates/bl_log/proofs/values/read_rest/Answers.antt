use Rattle.std.proofs.Common.{◌≡◌, ◌∙◌, ◌++◌, ◌∷◌, [], ℕ, List, ap, sym, subst, append-nil}
use Rattle.std.specs.Prelude.{All}
use Rattle.std.proofs.lemmas.List.Elements.{All-nil, All-push}
use Rattle.bl_log.specs.Spaced.{Text, each}
use Rattle.bl_log.specs.Log.{natural}
use Rattle.bl_log.specs.Fits.{IsU32}
use Rattle.bl_log.proofs.Stepping.{after, err_stays, next_number, word_of, words_behind}
use Rattle.bl_log.proofs.values.read_rest.Goals as goal

pub loop-word-init : goal.loop-word-init
loop-word-init c = (
  tt,
  tt,
  subst (λ (l : List ℕ). All IsU32 l) (sym c.new-ids.ensures) (All-nil IsU32),
  λ ids f is. record {
    left = ids;
    all_is =
        ap (λ (l : List ℕ). l ++ ids) (sym c.new-ids.ensures);
    laid =
        is ∙ sym (append-nil (each natural ids));
    fit = f;
  },
)

pub returns-in_err-id-clause-reads : goal.returns-in_err-id-clause-reads
returns-in_err-id-clause-reads c = λ ids f is.
    let w : Text = c.in-Some.word.now in
    let ws : List Text = c.next.new.self in
    let n = next_number ids c.loop-word.ids c.loop-word.words w ws
    (c.loop-word.invariant.3 ids f is) c.in-Some.ensures.steps in
    err_stays c.from_residual.result _ _ c.from_residual.ensures
    (c.in_err-id.ensures.reads n.x n.fit (word_of _ _ _ _ n.laid))

pub loop-word-preserved : goal.loop-word-preserved
loop-word-preserved c =
    let w : Text = c.in-Some.word.now in
    let ws : List Text = c.next.new.self in
    let pushed : c.push.new.self ≡ c.loop-word.ids ++ c.in_ok-id.id ∷ [] =
    c.in_ok-push.ensures.ok in (
      tt,
      tt,
      subst (λ (l : List ℕ). All IsU32 l) (sym pushed)
          (All-push IsU32 c.loop-word.ids c.in_ok-id.id c.loop-word.invariant.2
          c.in_ok-id.ensures.fits),
      λ ids f is.
          let n = next_number ids c.loop-word.ids c.loop-word.words w ws
          (c.loop-word.invariant.3 ids f is) c.in-Some.ensures.steps in
          let same : c.in_ok-id.id ≡ n.x =
          c.in_ok-id.ensures.reads n.x n.fit (word_of _ _ _ _ n.laid) in
          after natural IsU32 ids c.loop-word.ids (w ∷ ws) [] n c.in_ok-id.id c.push.new.self ws
          same pushed (words_behind _ _ _ _ n.laid),
    )
