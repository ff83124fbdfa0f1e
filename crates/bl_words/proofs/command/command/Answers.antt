use Rattle.std.proofs.Common.{◌≡◌, ◌∷◌, [], ap, true, false, codes, refl, ◌∙◌, Bool}
use Rattle.std.specs.Prelude.{if◌then◌else◌}
use Rattle.std.proofs.lemmas.Result.{IfOk-weaker}
use Rattle.bl_words.specs.Words.{Text, options}
use Rattle.bl_words.specs.Options.{app_for, rule_for}
use Rattle.clap.specs.Words.{App, with_rule}
use Rattle.bl_words.proofs.command.command.Goals as goal

abbrev value : Text → App → App
value name a = with_rule a (rule_for (name, true))

abbrev flag : Text → App → App
flag name a = with_rule a (rule_for (name, false))

abbrev shared : App → App
shared a = flag (codes "log") (flag (codes "write") (value (codes "rows") (value (codes "columns") (value (codes "gen") (value (codes "cuts") (value (codes "gap") (value (codes "branch") (value (codes "order") (value (codes "span") (value (codes "nodes") a))))))))))

all_options : (one : Bool) → shared (app_for (if one then [] else (codes "workers", true) ∷ [])) ≡ app_for (options one)
all_options true = refl
all_options false = refl

pub returns : goal.returns
returns c = IfOk-weaker c.with_flag-2.result _ _ (λ m last. last ∙ ap (flag (codes "log")) (c.in_ok-command-11.ensures ∙ ap (flag (codes "write")) (c.in_ok-command-10.ensures ∙ ap (value (codes "rows")) (c.in_ok-command-9.ensures
    ∙ ap (value (codes "columns")) (c.in_ok-command-8.ensures ∙ ap (value (codes "gen")) (c.in_ok-command-7.ensures
    ∙ ap (value (codes "cuts")) (c.in_ok-command-6.ensures
    ∙ ap (value (codes "gap")) (c.in_ok-command-5.ensures
    ∙ ap (value (codes "branch")) (c.in_ok-command-4.ensures ∙ ap (value (codes "order")) (c.in_ok-command-3.ensures
    ∙ ap (value (codes "span")) (c.in_ok-command-2.ensures ∙ ap (value (codes "nodes")) c.in_ok-command.ensures))))))))))
    ∙ all_options c.args.one) c.with_flag-2.ensures
