use Rattle.std.proofs.Common.{◌≡◌, ◌∙◌, ◌++◌, ◌∷◌, [], ap}
use Rattle.std.specs.String.{string_bytes}
use Rattle.bl_log.specs.Spaced.{Text}
use Rattle.bl_log.specs.Log.{line_of}
use Rattle.bl_log.proofs.Lines.{cut_line}
use Rattle.bl_log.proofs.read.behind.Goals as goal

pub returns : goal.returns
returns c =
    let line : string_bytes c.push_line.new.text ≡ line_of c.args.entry.now =
    c.in_ok-push_line.ensures.laid ∙ ap (λ (t : Text). t ++ line_of c.args.entry.now)
    c.clear.ensures.bytes in
    let bytes = c.as_bytes.ensures.value ∙ c.in_ok-push_str.ensures.bytes
    ∙ ap (λ (t : Text). t ++ 10 ∷ []) line in
    cut_line (λ x. x.now) c.args.rest.now (line_of c.args.entry.now) c.as_bytes.result.now
    c.strip_prefix.result bytes c.strip_prefix.ensures.cases
