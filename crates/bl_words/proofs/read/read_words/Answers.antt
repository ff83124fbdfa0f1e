use Rattle.std.proofs.Common.{◌≡◌, ◌≢◌, map, string_bytes, Bool, List, ap, sym, subst, ◌∙◌, []}
use Rattle.std.proofs.Common.{codes, ⊎_elim}
use Rattle.bl_words.specs.Words.{Text, has, options}
use Rattle.bl_words.specs.Options.{app_for}
use Rattle.bl_words.proofs.Ranges.{within_ranges}
use Rattle.bl_words.proofs.Whole.{HasNoStop}
use Rattle.bl_words.proofs.Judging.{Taken, asks, flag_result, means, read_log_flag}
use Rattle.bl_words.proofs.Judging.{read_write_flag, refused_means_nothing, simple}
use Rattle.bl_words.proofs.Judging.{simple_and_free, stop_means_nothing, taken}
use Rattle.clap.specs.Words.{App, app_of, fault_of, found_of, is_simple, is_simple_and_free}
use Rattle.clap.specs.Words.{kind_of, matches_of, rows_of}
use Rattle.clap.proofs.WalkLemmas.{one_text-rows}
use Rattle.clap.specs.Kinds.{HasKind, IsAmong, Kinds}
use Rattle.clap.specs.declared.error.Error.{Error}
use Rattle.clap.specs.declared.error.kind.ErrorKind.TheVariants.{OutOfMemory}
use Rattle.bl_words.proofs.read.read_words.Goals as goal

pub returns-then-has_stop-clause-refused : goal.returns-then-has_stop-clause-refused
returns-then-has_stop-clause-refused c =
    λ e. stop_means_nothing c.args.one _ (sym c.has_stop.ensures ∙ c.if-has_stop.true)

pub returns-in-Some-clause-meant : goal.returns-in-Some-clause-meant
returns-in-Some-clause-meant c =
    let one : Bool = c.args.one in
    let ws : List Text = map string_bytes c.args.words.now in
    let app : app_of c.in-Ok.command ≡ app_for (options one) = c.in-Ok.ensures in
    let free : HasNoStop ws = sym c.has_stop.ensures ∙ c.if-has_stop.false in
    let fault : fault_of (app_for (options one)) ws ≡ [] =
    subst (λ (a : App). fault_of a ws ≡ []) app
    (c.in-Ok-try_get_matches_from.ensures.kinds
    (ap is_simple_and_free app ∙ simple_and_free one)) in
    let k : Taken one ws = taken one ws free fault in
    let m = c.in-Ok-try_get_matches_from.matches in
    let rows : rows_of (found_of m) ≡ matches_of (app_for (options one)) ws =
    (c.in-Ok-try_get_matches_from.ensures.matches (ap is_simple app ∙ simple one)).0
    ∙ ap (λ (a : App). matches_of a ws) app in
    let write : c.get_flag-write.result ≡ has (codes "write") k.uses =
    flag_result _ _ _ (one_text-rows (found_of m) (codes "write") ∙ read_write_flag one ws k (rows_of (found_of m)) rows) c.get_flag-write.ensures.value c.get_flag-write.ensures.other in
    let log : c.get_flag-log.result ≡ has (codes "log") k.uses =
    flag_result _ _ _ (one_text-rows (found_of m) (codes "log") ∙ read_log_flag one ws k (rows_of (found_of m)) rows) c.get_flag-log.ensures.value c.get_flag-log.ensures.other in
    means one ws k (found_of m) rows _ _ write log _ c.in-Some.ensures.some

pub returns-in-Some-clause-ranges : goal.returns-in-Some-clause-ranges
returns-in-Some-clause-ranges c = within_ranges _ _ _ c.in-Some.wish c.in-Some.ensures.some

pub returns-in-Ok-try_get_matches_from-clause-refused :
    goal.returns-in-Ok-try_get_matches_from-clause-refused
returns-in-Ok-try_get_matches_from-clause-refused c = λ e w meant.
    let one : Bool = c.args.one in
    let ws : List Text = map string_bytes c.args.words.now in
    let app : app_of c.in-Ok.command ≡ app_for (options one) = c.in-Ok.ensures in
    let free : HasNoStop ws = sym c.has_stop.ensures ∙ c.if-has_stop.false in
    let fault : fault_of (app_for (options one)) ws ≡ [] =
    subst (λ (a : App). fault_of a ws ≡ []) app
    (c.in-Ok-try_get_matches_from.ensures.kinds
    (ap is_simple_and_free app ∙ simple_and_free one)) in
    let k : Taken one ws = taken one ws free fault in
    let m = c.in-Ok-try_get_matches_from.matches in
    let rows : rows_of (found_of m) ≡ matches_of (app_for (options one)) ws =
    (c.in-Ok-try_get_matches_from.ensures.matches (ap is_simple app ∙ simple one)).0
    ∙ ap (λ (a : App). matches_of a ws) app in
    let write : c.get_flag-write.result ≡ has (codes "write") k.uses =
    flag_result _ _ _ (one_text-rows (found_of m) (codes "write") ∙ read_write_flag one ws k (rows_of (found_of m)) rows) c.get_flag-write.ensures.value c.get_flag-write.ensures.other in
    let log : c.get_flag-log.result ≡ has (codes "log") k.uses =
    flag_result _ _ _ (one_text-rows (found_of m) (codes "log") ∙ read_log_flag one ws k (rows_of (found_of m)) rows) c.get_flag-log.ensures.value c.get_flag-log.ensures.other in
    c.asked.ensures.none c.in-None.is w (asks one ws k (found_of m) rows _ _ write log w meant)

fault_filled : (kinds : Kinds) (e : Error) → HasKind kinds e → kind_of e ≢ OutOfMemory → kinds ≢ []
fault_filled kinds e h other none = ⊎_elim (λ memory. other memory)
    (λ among. among_none (subst (λ (k : Kinds). IsAmong (kind_of e) k) none among)) h
  where
    among_none : IsAmong (kind_of e) [] → ⊥
    among_none x = x

pub returns-clause-refused : goal.returns-clause-refused
returns-clause-refused c = λ e.
    let one : Bool = c.args.one in
    let ws : List Text = map string_bytes c.args.words.now in
    let app : app_of c.in-Ok.command ≡ app_for (options one) = c.in-Ok.ensures in
    let free : HasNoStop ws = sym c.has_stop.ensures ∙ c.if-has_stop.false in
    let other : kind_of c.in-Err.error ≢ OutOfMemory = c.fault.ensures.refused (cc) in
    refused_means_nothing one ws free (subst (λ (a : App). fault_of a ws ≢ []) app
    (fault_filled _ c.in-Err.error
    (c.in-Err.ensures.kinds (ap is_simple_and_free app ∙ simple_and_free one)) other))
