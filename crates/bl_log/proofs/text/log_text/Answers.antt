use Rattle.std.proofs.Common.{◌≡◌, ◌∙◌, ◌++◌, ◌∷◌, [], ℕ, List, ap, sym, subst, take, append_assoc}
use Rattle.std.proofs.lemmas.List.{take_more}
use Rattle.std.proofs.lemmas.List.Elements.{All-push}
use Rattle.std.specs.Prelude.{All}
use Rattle.bl_log.specs.Fits.{Fits}
use Rattle.std.specs.String.{string_bytes}
use Rattle.bl_log.specs.Spaced.{Text}
use Rattle.bl_log.specs.Log.{line_of, text_of}
use Rattle.bl_journal.specs.declared.entry.Entry.{Entry}
use Rattle.bl_log.proofs.Laid.{text_push}
use Rattle.bl_log.proofs.text.log_text.Goals as goal

pub loop-entry-preserved : goal.loop-entry-preserved
loop-entry-preserved c =
    let i : ℕ = c.loop-entry.entry-index in
    let es : List Entry = c.entries-entry-items.result.now in
    let e : Entry = c.entry-item.result in
    let written : string_bytes c.push_str.new.self ≡ text_of (take i es) ++ (line_of e ++ 10 ∷ []) =
    c.in_ok-push_str.ensures.bytes ∙ ap (λ (t : Text). t ++ 10 ∷ [])
    (c.in_ok-push_line.ensures.laid
    ∙ ap (λ (t : Text). t ++ line_of e) c.loop-entry.invariant.0)
    ∙ append_assoc (text_of (take i es)) (line_of e) (10 ∷ []) in
    let more = take_more es i e c.loop-entry-test.true ∙ ap (λ (x : Entry). take i es ++ x ∷ [])
    (sym c.entry-item.is) in (
      written ∙ sym (ap text_of more ∙ text_push (take i es) e),
      subst (λ (xs : List Entry). All Fits xs) (sym more)
          (All-push Fits (take i es) e c.loop-entry.invariant.1 c.in_ok-push_line.ensures.fits),
    )
