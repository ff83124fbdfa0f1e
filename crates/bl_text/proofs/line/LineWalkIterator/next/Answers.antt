use Rattle.std.proofs.Common.{◌≡◌, ◌+◌, arith, ◌∙◌, sym, ap, ◌∷◌}
use Rattle.std.proofs.lemmas.Bool.Decides.{nat_tests}
use Rattle.bl_text.specs.Pieces.{lines_of}
use Rattle.bl_text.proofs.Cuts.{line_step, no_line, fewer}
use Rattle.bl_text.proofs.line.LineWalkIterator.next.Goals as goal

pub returns-then-is_empty-clause-steps : goal.returns-then-is_empty-clause-steps
returns-then-is_empty-clause-steps c =
    let e = ap (λ w. w.lines) (sym c.self.view_is)
    ∙ no_line c.self.inside.rest.now (grind (arith, nat_tests)) in
    (e, e)

pub returns-clause-steps : goal.returns-clause-steps
returns-clause-steps c =
    let n = ap (λ w. w.number) c.self.view_is in
    let first : lines_of c.self.inside.rest.now ≡ c.without_return.result.now
    ∷ lines_of c.behind_first-self-inside.result.now =
    rw (
      c.without_return.ensures,
      c.behind_first-self-inside.ensures,
      c.split_at.ensures.front,
      c.split_at.ensures.back,
    )
    (line_step c.self.inside.rest.now c.to_line_feed-n.result (grind (arith, nat_tests))
    c.to_line_feed-n.ensures.count) in
    (n, ap (λ k. k + 1) n, ap (λ w. w.lines) (sym c.self.view_is) ∙ first)

pub returns-clause-goes : goal.returns-clause-goes
returns-clause-goes c =
    record {
      on = λ _. (tt, tt, fewer _ _ _ (returns-clause-steps c).2);
      keeps = tt;
      rests =
          λ _. tt;
    }
