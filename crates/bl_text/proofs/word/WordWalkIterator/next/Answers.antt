use Rattle.std.proofs.Common.{◌≡◌, arith, ◌∙◌, sym, ◌∷◌}
use Rattle.std.proofs.lemmas.Bool.Decides.{nat_tests}
use Rattle.bl_text.specs.Pieces.{words_of}
use Rattle.bl_text.proofs.Cuts.{word_step, no_word, fewer}
use Rattle.bl_text.proofs.word.WordWalkIterator.next.Goals as goal

pub returns-then-is_empty-clause-steps : goal.returns-then-is_empty-clause-steps
returns-then-is_empty-clause-steps c =
    let h = c.split_at.ensures.back in
    let e = sym c.self.view_is ∙ no_word c.self.inside.rest.now c.split_at.result.1.now
    (rw (← c.blanks-start.ensures.count) h) (grind (arith, nat_tests)) in
    (e, e)

pub returns-clause-steps : goal.returns-clause-steps
returns-clause-steps c =
    let h = c.split_at.ensures.back in
    let first : words_of c.self.inside.rest.now ≡ c.split_at-2.result.0.now
    ∷ words_of c.behind_first-self-inside.result.now =
    rw (
      c.behind_first-self-inside.ensures,
      c.split_at-2.ensures.front,
      c.split_at-2.ensures.back,
    )
    (word_step c.self.inside.rest.now c.split_at.result.1.now c.to_blank-n.result
    (rw (← c.blanks-start.ensures.count) h) (grind (arith, nat_tests))
    c.to_blank-n.ensures.count) in
    sym c.self.view_is ∙ first

pub returns-clause-goes : goal.returns-clause-goes
returns-clause-goes c =
    record { on = λ _. (tt, tt, fewer _ _ _ (returns-clause-steps c)); keeps = tt; rests = λ _. tt }
