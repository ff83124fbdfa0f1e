-- What each answer of the parser says of the words.
use Rattle.std.specs.Prelude.{if◌then◌else◌}
use Rattle.std.proofs.Common.{◌≡◌, ◌≢◌, ◌∙◌, ◌&&◌, inl, inr, Bool, true, false, refl, sym, ap}
use Rattle.std.proofs.Common.{subst, List, [], ◌∷◌, Option, Some, None, codes, true≢false}
use Rattle.std.specs.List.{fold, list_any}
use Rattle.std.specs.Str.{bytes_eq}
use Rattle.std.proofs.lemmas.Bool.{and_left, and_right, cases_Bool, both_ways}
use Rattle.bl_words.specs.Words.{Options, Spell, Text, Use, and_then_uses, has, kind_in}
use Rattle.bl_words.specs.Words.{number_or, on_said, options, said, said_by, said_in, uses_from}
use Rattle.bl_words.specs.Words.{value_of, after_hyphens}
use Rattle.bl_words.specs.Wishes.{Asks, Means, MeansNothing}
use Rattle.bl_words.specs.Options.{app_for}
use Rattle.bl_words.specs.declared.wish.Wish.{Wish}
use Rattle.bl_words.proofs.Steps.{rules, rows, same_text, some≢none, some_same}
use Rattle.bl_words.proofs.Walked.{rest, two_hyphens}
use Rattle.bl_words.proofs.Whole.{Comes, HasNoStop, comes, run}
use Rattle.bl_words.proofs.Spelled.{Spells, all_plain, complete, is_plain_use, is_plain_text, sound}
use Rattle.bl_words.proofs.Getters.{AllSuit, flag_default, flag_read, uses_suit, value_read}
use Rattle.bl_words.proofs.Meaning.{meant_plain}
use Rattle.clap.specs.Faults.{fault_of, is_simple_and_free}
use Rattle.clap.specs.Words.{first_value, is_simple, rows_of}
use Rattle.clap.specs.declared.parser.matches.Found.{Found}
use Rattle.clap.proofs.WalkLemmas.{first_value-rows}
use Rattle.clap.specs.Simple.{matches_of}
use Rattle.clap.specs.Walk.{Row, first_of, one_of, with_default}

-- ---- a list with the word `--`

abbrev Unplain : List Use → Type 0
Unplain us = all_plain us ≡ false

head_unplain : (t : Options) (u : Use) (o : Option (List Use)) (us : List Use)
    → ((more : List Use) → o ≡ Some more → (is_plain_use u && all_plain more) ≡ false)
    → and_then_uses u o ≡ Some us → Unplain us
head_unplain t u None us no_more e = absurd (some≢none us (sym e))
head_unplain t u (Some more) us no_more e = subst Unplain (some_same _ _ e) (no_more more refl)

said_unplain : (t : Options) (name : Text) (v : Option Text) (kind : Option Bool)
    (words : List Text) (us : List Use)
    → ((w : Option Text) (more : List Use) → uses_from t w words ≡ Some more → Unplain more)
    → on_said (said_by name v kind) (λ w. uses_from t w words) ≡ Some us → Unplain us
said_unplain t name None None words us later e = absurd (some≢none us (sym e))
said_unplain t name (Some v) None words us later e = absurd (some≢none us (sym e))
said_unplain t name (Some v) (Some true) words us later e =
    head_unplain t (name, Some v) (uses_from t None words) us
    (λ more is. and_right (is_plain_use (name, Some v)) (all_plain more) (later None more is)) e
said_unplain t name None (Some true) words us later e = later (Some name) us e
said_unplain t name (Some v) (Some false) words us later e = absurd (some≢none us (sym e))
said_unplain t name None (Some false) words us later e =
    head_unplain t (name, None) (uses_from t None words) us
    (λ more is. and_right (is_plain_use (name, None)) (all_plain more) (later None more is)) e

word_unplain : (t : Options) (o : Option Text) (words : List Text) (us : List Use)
    → ((w : Option Text) (more : List Use) → uses_from t w words ≡ Some more → Unplain more)
    → on_said (said_in t o) (λ w. uses_from t w words) ≡ Some us → Unplain us
word_unplain t None words us later e = absurd (some≢none us (sym e))
word_unplain t (Some r) words us later e = said_unplain t _ _ _ words us later e

stop_alone : (t : Options) (word : Text) (words : List Text) (us : List Use) → word ≡ two_hyphens
    → kind_in t [] ≡ None → uses_from t None (word ∷ words) ≡ Some us → ⊥
stop_alone t word words us is no_name e =
    let at : uses_from t None (two_hyphens ∷ words) ≡ Some us =
    subst (λ (w : Text). uses_from t None (w ∷ words) ≡ Some us) is e in
    some≢none us
    (sym (sym (ap (λ k. on_said (said_by [] None k) (λ w. uses_from t w words)) no_name) ∙ at))

stop_unplain : (t : Options) (words : List Text) (w : Option Text) (us : List Use) → kind_in t []
    ≡ None → list_any (λ x. bytes_eq x two_hyphens) words ≡ true → uses_from t w words ≡ Some us
    → Unplain us
stop_unplain t [] w us no_name stop e = absurd (true≢false (sym stop))
stop_unplain t (word ∷ words) (Some n) us no_name stop e =
    elim (cases_Bool (bytes_eq word two_hyphens)) [
      | inl here ↦ head_unplain t (n, Some word) (uses_from t None words) us
          (λ more is. and_left (is_plain_text word) (all_plain more)
          (ap is_plain_text (same_text word two_hyphens here))) e
      | inr other ↦ head_unplain t (n, Some word) (uses_from t None words) us
          (λ more is. and_right (is_plain_text word) (all_plain more)
          (stop_unplain t words None more no_name (rw other at stop) is)) e
    ]
stop_unplain t (word ∷ words) None us no_name stop e =
    elim (cases_Bool (bytes_eq word two_hyphens)) [
      | inl here ↦ absurd (stop_alone t word words us (same_text word two_hyphens here) no_name e)
      | inr other ↦ word_unplain t (after_hyphens word) words us
          (λ w more. stop_unplain t words w more no_name (rw other at stop)) e
    ]

unnamed : (one : Bool) → kind_in (options one) [] ≡ None
unnamed true = refl
unnamed false = refl

pub stop_means_nothing : (one : Bool) (words : List Text)
    → list_any (λ x. bytes_eq x two_hyphens) words ≡ true → MeansNothing one words
stop_means_nothing one words stop w m =
    both_ways (all_plain m.uses) (stop_unplain (options one) words None m.uses (unnamed one) stop
    m.spelled.uses_are) (meant_plain one words w m)

-- ---- a list that the parser refuses

pub refused_means_nothing : (one : Bool) (words : List Text) → HasNoStop words
    → fault_of (app_for (options one)) words ≢ [] → MeansNothing one words
refused_means_nothing one words free fault w m =
    fault (subst (Comes (options one) words) (complete (options one) words free [] rest m.uses
    m.spelled.uses_are m.spelled.once (meant_plain one words w m))
    (comes (options one) words free)).0

-- ---- a list that it takes

pub record Taken (one : Bool) (words : List Text) : Type 0 where
  pub uses : List Use
  pub spelled : Spell (options one) words uses
  pub rows_are : matches_of (app_for (options one)) words
      ≡ fold with_default (rows uses) (rules (options one))

taken_at : (one : Bool) (words : List Text) (o : Option (List Use)) → HasNoStop words
    → run (options one) ([], rest) words ≡ o → Comes (options one) words o
    → fault_of (app_for (options one)) words ≡ []
    → Taken one words
taken_at one words None free is bad fine = absurd (bad fine)
taken_at one words (Some us) free is all fine =
    let s : Spells (options one) [] rest words us = sound (options one) words [] rest us free is in
    record {
      uses = us;
      spelled = record {
        uses_are = s.1 ∙ ap Some (sym s.2);
        once =
            subst (λ (x : List Use). Rattle.bl_words.specs.Words.differ x ≡ true) (sym s.2) s.3;
      };
      rows_are = all.1;
    }

pub taken : (one : Bool) (words : List Text) → HasNoStop words
    → fault_of (app_for (options one)) words ≡ [] → Taken one words
taken one words free = taken_at one words (run (options one) ([], rest) words) free refl
    (comes (options one) words free)

-- ---- what is read of it

abbrev IsValue : Bool → Text → Type 0
IsValue one n = (flag_default (options one) n ≡ None) × (kind_in (options one) n ≢ Some false)

abbrev not_flag : Option Bool → Bool
not_flag (Some false) = false
not_flag _ = true

is_value : (one : Bool) (n : Text) → flag_default (options one) n ≡ None
    → not_flag (kind_in (options one) n) ≡ true → IsValue one n
is_value one n no_default kind = (no_default, λ e. true≢false (sym kind ∙ ap not_flag e))

workers_value : (one : Bool) → IsValue one (codes "workers")
workers_value true = is_value true (codes "workers") refl refl
workers_value false = is_value false (codes "workers") refl refl

nodes_value : (one : Bool) → IsValue one (codes "nodes")
nodes_value true = is_value true (codes "nodes") refl refl
nodes_value false = is_value false (codes "nodes") refl refl

span_value : (one : Bool) → IsValue one (codes "span")
span_value true = is_value true (codes "span") refl refl
span_value false = is_value false (codes "span") refl refl

order_value : (one : Bool) → IsValue one (codes "order")
order_value true = is_value true (codes "order") refl refl
order_value false = is_value false (codes "order") refl refl

branch_value : (one : Bool) → IsValue one (codes "branch")
branch_value true = is_value true (codes "branch") refl refl
branch_value false = is_value false (codes "branch") refl refl

gap_value : (one : Bool) → IsValue one (codes "gap")
gap_value true = is_value true (codes "gap") refl refl
gap_value false = is_value false (codes "gap") refl refl

cuts_value : (one : Bool) → IsValue one (codes "cuts")
cuts_value true = is_value true (codes "cuts") refl refl
cuts_value false = is_value false (codes "cuts") refl refl

gen_value : (one : Bool) → IsValue one (codes "gen")
gen_value true = is_value true (codes "gen") refl refl
gen_value false = is_value false (codes "gen") refl refl

columns_value : (one : Bool) → IsValue one (codes "columns")
columns_value true = is_value true (codes "columns") refl refl
columns_value false = is_value false (codes "columns") refl refl

rows_value : (one : Bool) → IsValue one (codes "rows")
rows_value true = is_value true (codes "rows") refl refl
rows_value false = is_value false (codes "rows") refl refl

module _ (one : Bool) (words : List Text) (k : Taken one words) (rs : List Row)
    (is : rs ≡ matches_of (app_for (options one)) words) where
  suit : AllSuit (options one) k.uses
  suit = uses_suit (options one) words None k.uses tt k.spelled.uses_are

  read_value : (n : Text) → IsValue one n → first_of n rs ≡ value_of n k.uses
  read_value n v = ap (first_of n) (is ∙ k.rows_are) ∙ value_read (options one) n k.uses suit v.0
      v.1

  write_flag : (b : Bool) → (flag_default (options b) (codes "write") ≡ flag_default (options true) (codes "write")) × (kind_in (options b) (codes "write") ≡ Some false)
  write_flag true = (refl, refl)
  write_flag false = (refl, refl)

  log_flag : (b : Bool) → (flag_default (options b) (codes "log") ≡ flag_default (options true) (codes "log")) × (kind_in (options b) (codes "log") ≡ Some false)
  log_flag true = (refl, refl)
  log_flag false = (refl, refl)

  pub read_write_flag : one_of (codes "write") rs ≡ Some (if has (codes "write") k.uses then codes "true" else codes "false")
  read_write_flag = ap (one_of (codes "write")) (is ∙ k.rows_are) ∙ flag_read (options one) (codes "write") k.uses suit (write_flag one).0 (write_flag one).1

  pub read_log_flag : one_of (codes "log") rs ≡ Some (if has (codes "log") k.uses then codes "true" else codes "false")
  read_log_flag = ap (one_of (codes "log")) (is ∙ k.rows_are) ∙ flag_read (options one) (codes "log") k.uses suit (log_flag one).0 (log_flag one).1

  -- the matches ask for what the words ask for
  pub asked_of_words : (write log : Bool) (w : Wish) → Asks (λ n. first_of n rs) write log w
      → Asks (λ n. value_of n k.uses) write log w
  asked_of_words write log w a = record {
    workers = rw (← read_value (codes "workers") (workers_value one)) a.workers;
    nodes = rw (← read_value (codes "nodes") (nodes_value one)) a.nodes;
    span = rw (← read_value (codes "span") (span_value one)) a.span;
    order = rw (← read_value (codes "order") (order_value one)) a.order;
    half = rw (← read_value (codes "branch") (branch_value one)) a.half;
    gap = rw (← read_value (codes "gap") (gap_value one)) a.gap;
    cuts = rw (← read_value (codes "cuts") (cuts_value one)) a.cuts;
    unscaled = a.unscaled;
    generate = rw (← read_value (codes "gen") (gen_value one), ← read_value (codes "columns") (columns_value one), ← read_value (codes "rows") (rows_value one)) a.generate;
    writes = a.writes;
    logs = a.logs;
    apart = a.apart;
  }

  pub asked_of_matches : (write log : Bool) (w : Wish) → Asks (λ n. value_of n k.uses) write log w
      → Asks (λ n. first_of n rs) write log w
  asked_of_matches write log w a = record {
    workers = rw (read_value (codes "workers") (workers_value one)) a.workers;
    nodes = rw (read_value (codes "nodes") (nodes_value one)) a.nodes;
    span = rw (read_value (codes "span") (span_value one)) a.span;
    order = rw (read_value (codes "order") (order_value one)) a.order;
    half = rw (read_value (codes "branch") (branch_value one)) a.half;
    gap = rw (read_value (codes "gap") (gap_value one)) a.gap;
    cuts = rw (read_value (codes "cuts") (cuts_value one)) a.cuts;
    unscaled = a.unscaled;
    generate = rw (read_value (codes "gen") (gen_value one), read_value (codes "columns") (columns_value one), read_value (codes "rows") (rows_value one)) a.generate;
    writes = a.writes;
    logs = a.logs;
    apart = a.apart;
  }

-- two readings of one list are one
pub one_reading : (one : Bool) (words : List Text) (w : Wish) (k : Taken one words) (m : Means one words w) → Asks (λ n. value_of n k.uses) (has (codes "write") k.uses) (has (codes "log") k.uses) w
one_reading one words w k m =
    let same : m.uses ≡ k.uses = some_same _ _ (sym m.spelled.uses_are ∙ k.spelled.uses_are) in
    subst (λ (us : List Use). Asks (λ n. value_of n us) (has (codes "write") us) (has (codes "log") us) w) same m.asked

pub simple_and_free : (one : Bool) → is_simple_and_free (app_for (options one)) ≡ true
simple_and_free true = refl
simple_and_free false = refl

pub simple : (one : Bool) → is_simple (app_for (options one)) ≡ true
simple true = refl
simple false = refl

same_values : (f : Found) → first_value f ≡ (λ n. first_of n (rows_of f))
same_values f = λ i n. first_value-rows f n i

pub flag_result : (b r : Bool) (text : Option Text) → text ≡ Some (if b then codes "true" else codes "false") → (text ≡ Some (codes "true") → r ≡ true) → (text ≡ Some (codes "false") → r ≡ false) → r ≡ b
flag_result true r text is yes_says no_says = yes_says is
flag_result false r text is yes_says no_says = no_says is

-- what a taken list asks for, by what the getters read
module _ (one : Bool) (words : List Text) (k : Taken one words) (f : Found)
    (is : rows_of f ≡ matches_of (app_for (options one)) words)
    (write log : Bool) (write_is : write ≡ has (codes "write") k.uses) (log_is : log ≡ has (codes "log") k.uses) where
  pub means : (w : Wish) → Asks (first_value f) write log w → Means one words w
  means w a = record {
    uses = k.uses;
    spelled = k.spelled;
    asked = subst (λ (b : Bool). Asks (λ n. value_of n k.uses) b (has (codes "log") k.uses) w) write_is
        (subst (λ (b : Bool). Asks (λ n. value_of n k.uses) write b w) log_is
        (asked_of_words one words k (rows_of f) is write log w
        (subst (λ (value : Text → Option Text). Asks value write log w) (same_values f) a)));
  }

  pub asks : (w : Wish) → Means one words w → Asks (first_value f) write log w
  asks w m =
      let written : Asks (λ n. value_of n k.uses) write (has (codes "log") k.uses) w =
      subst (λ (b : Bool). Asks (λ n. value_of n k.uses) b (has (codes "log") k.uses) w) (sym write_is) (one_reading one words w k m) in
      let flagged : Asks (λ n. value_of n k.uses) write log w =
      subst (λ (b : Bool). Asks (λ n. value_of n k.uses) write b w) (sym log_is) written in
      subst (λ (value : Text → Option Text). Asks value write log w) (sym (same_values f))
      (asked_of_matches one words k (rows_of f) is write log w flagged)
