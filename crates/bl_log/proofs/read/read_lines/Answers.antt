use Rattle.std.proofs.Common.{◌≡◌, ◌∙◌, ◌++◌, ◌∷◌, [], List, length, ap, sym, subst, arith}
use Rattle.std.specs.Prelude.{All}
use Rattle.std.proofs.lemmas.List.{length-append}
use Rattle.std.proofs.lemmas.List.Elements.{All-push}
use Rattle.bl_journal.specs.declared.entry.Entry.{Entry}
use Rattle.bl_log.specs.Spaced.{Text}
use Rattle.bl_log.specs.Log.{line_of, text_of}
use Rattle.bl_log.specs.Fits.{Fits}
use Rattle.bl_log.proofs.Lines.{line_length, line_read}
use Rattle.bl_log.proofs.read.read_lines.Goals as goal

pub loop-rest-preserved : goal.loop-rest-preserved
loop-rest-preserved c =
    let es : List Entry = c.loop-rest.journal.entries in
    let e : Entry = c.in-Ok.entry in
    let tail : Text = c.in-Ok.tail.now in
    let pushed : c.push_reserved.new.self.entries ≡ es ++ e ∷ [] = c.push_reserved.ensures.entries
    ∙ ap (λ (l : List Entry). l ++ e ∷ []) c.reserve.ensures.entries in (
      line_read es e c.args.bytes.now c.loop-rest.rest.now tail c.loop-rest.invariant.0
          c.in-Ok.ensures.line ∙ ap (λ (l : List Entry). text_of l ++ tail) (sym pushed),
      subst (λ (l : List Entry). All Fits l) (sym pushed)
          (All-push Fits es e c.loop-rest.invariant.1 c.in-Ok.ensures.fits),
      omega (
        arith,
        ap length pushed,
        length-append es (e ∷ []),
        line_length (line_of e)
            c.loop-rest.rest.now tail c.in-Ok.ensures.line,
        c.loop-rest.invariant.2,
      ),
    )
