use Rattle.std.proofs.Common.{◌≡◌, ◌≢◌, ◌∙◌, ◌++◌, ◌∷◌, ap, sym, subst}
use Rattle.std.specs.Prelude.{MatchOption}
use Rattle.bl_text.specs.Pieces.{Left, lines_of, words_of}
use Rattle.bl_log.specs.Spaced.{Text}
use Rattle.bl_log.specs.Log.{line_of}
use Rattle.bl_log.proofs.Entries.{line_words}
use Rattle.bl_log.proofs.Lines.{first_line, head_is, not_none, not_words}
use Rattle.bl_log.proofs.read.read_line.Goals as goal

pub returns-in_default-clause-none : goal.returns-in_default-clause-none
returns-in_default-clause-none c = λ same e tail f is.
    not_none (line_of e) (lines_of tail) c.lines-walk.result.lines c.in_default.ensures.steps.0
    (ap (λ (w : Left). w.lines) c.lines-walk.ensures.left ∙ first_line e c.args.rest.now tail f is)

pub returns-in_err-entry-clause-none : goal.returns-in_err-entry-clause-none
returns-in_err-entry-clause-none c = λ same e tail f is.
    let lines = sym c.in-Some.ensures.steps.2
    ∙ ap (λ (w : Left). w.lines) c.lines-walk.ensures.left
    ∙ first_line e c.args.rest.now tail f is in
    let line = head_is _ _ _ _ lines in
    not_words c.from_residual.result _ c.from_residual.ensures same
    (c.in_err-entry.ensures.reads e f (ap words_of line ∙ line_words e f))

pub returns-clause-none : goal.returns-clause-none
returns-clause-none c = λ same e tail f is.
    let lines = sym c.in-Some.ensures.steps.2
    ∙ ap (λ (w : Left). w.lines) c.lines-walk.ensures.left
    ∙ first_line e c.args.rest.now tail f is in
    let line = head_is _ _ _ _ lines in
    let entry : c.in_ok-entry.entry ≡ e =
    c.in_ok-entry.ensures.reads e f (ap words_of line ∙ line_words e f) in
    let none =
    subst (λ o. MatchOption o ((t : Text) → c.args.rest.now ≢ line_of c.in_ok-entry.entry
    ++ 10 ∷ t) (λ t. c.args.rest.now ≡ line_of c.in_ok-entry.entry ++ 10 ∷ t.now))
    c.in-None.is c.in_ok-tail.ensures in
    none tail (is ∙ ap (λ x. line_of x ++ 10 ∷ tail) (sym entry))
