use Rattle.std.proofs.Common.{◌∙◌, ◌++◌, ◌∷◌, [], List, codes, ap, sym}
use Rattle.std.specs.String.{string_bytes}
use Rattle.std.specs.Fmt.{decimal, signed_decimal}
use Rattle.bl_log.specs.Spaced.{Text}
use Rattle.bl_log.specs.Log.{found_point, line_of, next_step}
use Rattle.bl_log.proofs.Laid.{laid_then, line_then}
use Rattle.bl_log.proofs.text.push_line.Goals as goal

pub returns-in_ok-push_next-in-Put-clause-laid : goal.returns-in_ok-push_next-in-Put-clause-laid
returns-in_ok-push_next-in-Put-clause-laid c =
    let old : Text = string_bytes c.args.text.now in
    let head : List Text = decimal c.in-Put.seat ∷ decimal c.in-Put.id ∷ codes "low" ∷ signed_decimal c.in-Put.low ∷ codes "found" ∷ [] in
    let found : List Text = found_point c.in-Put.found in
    let next : List Text = codes "next" ∷ next_step c.in-Put.next in
    line_then old _ _ (codes "put") head (found ++ next) c.in_ok-push_head-in-Put.ensures.laid
    (laid_then _ _ _ found next c.in_ok-push_found-in-Put.ensures.laid
    c.in_ok-push_next-in-Put.ensures.laid)
    ∙ ap (λ e. old ++ line_of e) (sym c.in-Put.is)
