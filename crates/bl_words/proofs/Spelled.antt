-- The uses that the parser finds are those that the words spell.
use Rattle.std.proofs.Common.{◌≡◌, ◌∙◌, ◌==◌, ◌&&◌, ℕ, Bool, cond, true, false, not, refl, sym}
use Rattle.std.proofs.Common.{ap, subst, List, [], ◌∷◌, ◌++◌, Option, Some, None, true≢false}
use Rattle.std.proofs.Common.{append-nil, append_assoc}
use Rattle.std.specs.Prelude.{option_map, option_and_then, if◌then◌else◌}
use Rattle.std.specs.List.{list_all}
use Rattle.std.specs.Option.{option_map_or}
use Rattle.std.specs.Str.{bytes_eq}
use Rattle.std.proofs.lemmas.Bool.{and_parts, not-true, or_parts}
use Rattle.bl_words.specs.Words.{Options, Said, Text, Use, after_hyphens, and_then_uses}
use Rattle.bl_words.specs.Words.{differ_after, has, kind_in, on_said, said, said_by, said_in}
use Rattle.bl_words.specs.Words.{uses_from}
use Rattle.bl_words.proofs.Steps.{add, some≢none, some_same}
use Rattle.bl_words.proofs.Walked.{Pending, State, at_rest, is_bundle, kept, long_next}
use Rattle.bl_words.proofs.Walked.{next_state, plain_next, rest, settle, two_hyphens, wait}
use Rattle.bl_words.proofs.Walked.{word_next}
use Rattle.bl_words.proofs.Whole.{HasNoStop, run}
use Rattle.clap.specs.Lexer.{long_of, long_of_rest, name_and_value, strip_byte}

-- ---- words, as the parser and as we read them

long_or_stop : (a b : ℕ) (r : Text) (p q : Bool) → (a == 45) ≡ p → (b == 45) ≡ q
    → bytes_eq (a ∷ b ∷ r) two_hyphens ≡ false
    → long_of (a ∷ b ∷ r) ≡ option_map name_and_value (if p && q then Some r else None)
long_or_stop a b [] true true one two other = absurd (true≢false (rw (one, two) at other))
long_or_stop a b (c ∷ r) true true one two other = rw (one, two) refl
long_or_stop a b r true false one two other = rw (one, two) refl
long_or_stop a b r false q one two other = rw one refl

long_is : (word : Text) → bytes_eq word two_hyphens ≡ false → long_of word
    ≡ option_map name_and_value (after_hyphens word)
long_is [] other = refl
long_is (a ∷ []) other = single (a == 45)
  where
    single : (p : Bool) → option_and_then long_of_rest
        (option_and_then (strip_byte 45) (cond p (Some []) None)) ≡ None
    single true = refl
    single false = refl
long_is (a ∷ b ∷ r) other = long_or_stop a b r (a == 45) (b == 45) refl refl other

-- ---- what stands open, as words

abbrev pub tail : Options → Pending → List Text → Option (List Use)
tail t rest words = uses_from t None words
tail t (wait n) words = uses_from t (Some n) words
tail t (kept n v) words = and_then_uses (n, Some v) (uses_from t None words)

-- the parser's uses are those before and these more, which the words spell
abbrev pub Spells : Options → List Use → Pending → List Text → List Use → Type 0
Spells t us p words out = (more : List Use) × (tail t p words ≡ Some more) × (out ≡ us ++ more)
    × (differ_after us more ≡ true)

added_use : (us : List Use) (u : Use) (out : List Use) (b : Bool) → has u.0 us ≡ b
    → cond b None (Some (us ++ u ∷ [])) ≡ Some out → (has u.0 us ≡ false) × (out ≡ us ++ u ∷ [])
added_use us u out true is e = absurd (some≢none out (sym e))
added_use us u out false is e = (is, sym (some_same _ _ e))

more_differ : (us more : List Use) (u : Use) → has u.0 us ≡ false
    → differ_after (us ++ u ∷ []) more ≡ true → differ_after us (u ∷ more) ≡ true
more_differ us more u new later = rw (new, later) refl

settle_sound : (t : Options) (us us1 : List Use) (p : Pending) (words : List Text)
    (more1 out : List Use) → settle us p ≡ Some us1 → uses_from t None words ≡ Some more1
    → out ≡ us1 ++ more1 → differ_after us1 more1 ≡ true → Spells t us p words out
settle_sound t us us1 rest words more1 out is from all differ =
    let same : us ≡ us1 = some_same us us1 is in (
      more1,
      from,
      all ∙ ap (λ (x : List Use). x ++ more1) (sym same),
      subst
          (λ (x : List Use). differ_after x more1 ≡ true) (sym same) differ,
    )
settle_sound t us us1 (wait n) words more1 out is from all differ = absurd (some≢none us1 (sym is))
settle_sound t us us1 (kept n v) words more1 out is from all differ =
    let u : Use = (n, Some v) in
    let new = added_use us u us1 (has n us) refl is in (
      u ∷ more1,
      ap (and_then_uses u) from,
      all ∙ ap (λ (x : List Use). x ++ more1) new.1 ∙ append_assoc us (u ∷ []) more1,
      more_differ us more1 u new.0
          (subst (λ (x : List Use). differ_after x more1 ≡ true) new.1 differ),
    )

-- the words spell the use u next
use_sound : (t : Options) (us : List Use) (p : Pending) (word : Text) (words : List Text)
    (u : Use) (o : Option (List Use)) (out : List Use) (run_rest : State → Option (List Use))
    → settle us p ≡ o
    → uses_from t None (word ∷ words) ≡ and_then_uses u (uses_from t None words)
    → ((us' : List Use) → run_rest (us', rest) ≡ Some out → Spells t us' rest words out)
    → option_and_then run_rest (at_rest (option_and_then (λ us1. add us1 u) o)) ≡ Some out
    → Spells t us p (word ∷ words) out
use_sound t us p word words u None out run_rest is says later e = absurd (some≢none out (sym e))
use_sound t us p word words u (Some us1) out run_rest is says later e = go (has u.0 us1) refl e
  where
    go : (b : Bool) → has u.0 us1 ≡ b → option_and_then run_rest
        (at_rest (cond b None (Some (us1 ++ u ∷ [])))) ≡ Some out → Spells t us p (word ∷ words) out
    go true new e' = absurd (some≢none out (sym e'))
    go false new e' =
        let next : Spells t (us1 ++ u ∷ []) rest words out = later (us1 ++ u ∷ []) e' in
        settle_sound t us us1 p (word ∷ words) (u ∷ next.0) out is
        (says ∙ ap (and_then_uses u) next.1) (next.2 ∙ append_assoc us1 (u ∷ []) next.0)
        (more_differ us1 next.0 u new next.3)

wait_sound : (t : Options) (us : List Use) (p : Pending) (word : Text) (words : List Text)
    (n : Text) (o : Option (List Use)) (out : List Use) (run_rest : State → Option (List Use))
    → settle us p ≡ o
    → uses_from t None (word ∷ words) ≡ uses_from t (Some n) words
    → ((us' : List Use) → run_rest (us', wait n) ≡ Some out → Spells t us' (wait n) words out)
    → option_and_then run_rest (option_map (λ us1. (us1, wait n)) o) ≡ Some out
    → Spells t us p (word ∷ words) out
wait_sound t us p word words n None out run_rest is says later e = absurd (some≢none out (sym e))
wait_sound t us p word words n (Some us1) out run_rest is says later e =
    let next : Spells t us1 (wait n) words out = later us1 e in
    settle_sound t us us1 p (word ∷ words) next.0 out is (says ∙ next.1) next.2 next.3

long_sound : (t : Options) (us : List Use) (p : Pending) (word : Text) (words : List Text)
    (name : Text) (v : Option Text) (kind : Option Bool) (out : List Use)
    → said t word ≡ said_by name v kind
    → ((us' : List Use) (p' : Pending) → run t (us', p') words ≡ Some out
    → Spells t us' p' words out)
    → option_and_then (λ st. run t st words) (long_next kind name v (us, p)) ≡ Some out
    → Spells t us p (word ∷ words) out
long_sound t us p word words name v None out says later e = absurd (some≢none out (sym e))
long_sound t us p word words name (Some v) (Some true) out says later e =
    use_sound t us p word words (name, Some v) (settle us p) out (λ st. run t st words) refl
    (ap (λ (s : Said). on_said s (λ w. uses_from t w words)) says) (λ us'. later us' rest) e
long_sound t us p word words name None (Some true) out says later e =
    wait_sound t us p word words name (settle us p) out (λ st. run t st words) refl
    (ap (λ (s : Said). on_said s (λ w. uses_from t w words)) says)
    (λ us'. later us' (wait name)) e
long_sound t us p word words name (Some v) (Some false) out says later e =
    absurd (some≢none out (sym e))
long_sound t us p word words name None (Some false) out says later e =
    use_sound t us p word words (name, None) (settle us p) out (λ st. run t st words) refl
    (ap (λ (s : Said). on_said s (λ w. uses_from t w words)) says) (λ us'. later us' rest) e

other_sound : (t : Options) (us : List Use) (p : Pending) (word : Text) (words : List Text)
    (b : Bool) (out : List Use)
    → ((us' : List Use) (p' : Pending) → run t (us', p') words ≡ Some out
    → Spells t us' p' words out)
    → option_and_then (λ st. run t st words) (if b then None else plain_next p us word) ≡ Some out
    → Spells t us p (word ∷ words) out
other_sound t us p word words true out later e = absurd (some≢none out (sym e))
other_sound t us rest word words false out later e = absurd (some≢none out (sym e))
other_sound t us (kept n v) word words false out later e = absurd (some≢none out (sym e))
other_sound t us (wait n) word words false out later e = later us (kept n word) e

word_sound : (t : Options) (us : List Use) (p : Pending) (word : Text) (words : List Text)
    (o : Option Text) (out : List Use) → after_hyphens word ≡ o
    → ((us' : List Use) (p' : Pending) → run t (us', p') words ≡ Some out
    → Spells t us' p' words out)
    → option_and_then (λ st. run t st words)
    (word_next t (us, p) word (option_map name_and_value o)) ≡ Some out
    → Spells t us p (word ∷ words) out
word_sound t us p word words None out is later e =
    other_sound t us p word words (is_bundle word) out later e
word_sound t us p word words (Some r) out is later e =
    long_sound t us p word words (name_and_value r).0 (name_and_value r).1
    (kind_in t (name_and_value r).0) out (ap (said_in t) is) later e

pub sound : (t : Options) (words : List Text) (us : List Use) (p : Pending) (out : List Use)
    → HasNoStop words → run t (us, p) words ≡ Some out → Spells t us p words out
unfolding run
sound t [] us rest out free e = ([], refl, sym (some_same us out e) ∙ sym (append-nil us), refl)
sound t [] us (wait n) out free e = absurd (some≢none out (sym e))
sound t [] us (kept n v) out free e =
    let new = added_use us (n, Some v) out (has n us) refl e in
    ((n, Some v) ∷ [], refl, new.1, more_differ us [] (n, Some v) new.0 refl)
sound t (word ∷ words) us p out free e =
    let parts : (bytes_eq word two_hyphens ≡ false) × HasNoStop words =
    or_parts (bytes_eq word two_hyphens) _ free in
    word_sound t us p word words (after_hyphens word) out refl
    (λ us' p'. sound t words us' p' out parts.1)
    (sym (ap (λ o. option_and_then (λ st. run t st words) (word_next t (us, p) word o))
    (long_is word parts.0)) ∙ e)

-- ---- what the words spell, the parser finds

-- the value does not begin with a hyphen
abbrev pub is_plain_text : Text → Bool
is_plain_text [] = true
is_plain_text (x ∷ r) = not (x == 45)

abbrev pub is_plain_use : Use → Bool
is_plain_use u = option_map_or is_plain_text u.1 true

abbrev pub all_plain : List Use → Bool
all_plain = list_all is_plain_use

plain_lexed : (word : Text) → is_plain_text word ≡ true → (long_of word ≡ None)
    × (is_bundle word ≡ false)
plain_lexed [] e = (refl, refl)
plain_lexed (x ∷ r) e = let no_hyphen : (x == 45) ≡ false =
    not-true (x == 45) e in (rw no_hyphen refl, rw no_hyphen refl)

-- the rest is spelled from a state in which nothing stands open
abbrev Settles : Options → List Use → Pending → List Text → List Use → Type 0
Settles t us p words more = (us1 : List Use) × (more1 : List Use) × (settle us p ≡ Some us1)
    × (uses_from t None words ≡ Some more1) × (us ++ more ≡ us1 ++ more1)
    × (differ_after us1 more1 ≡ true) × (all_plain more1 ≡ true)

new_one : (us : List Use) (u : Use) (more : List Use) → differ_after us (u ∷ more) ≡ true
    → (add us u ≡ Some (us ++ u ∷ [])) × (differ_after (us ++ u ∷ []) more ≡ true)
new_one us u more differ =
    let parts : (not (has u.0 us) ≡ true) × (differ_after (us ++ u ∷ []) more ≡ true) =
    and_parts _ _ differ in
    let new : has u.0 us ≡ false = not-true (has u.0 us) parts.0 in
    (rw new refl, parts.1)

kept_settles : (t : Options) (us : List Use) (n v : Text) (words : List Text) (more : List Use)
    (o : Option (List Use)) → uses_from t None words ≡ o → and_then_uses (n, Some v) o ≡ Some more
    → differ_after us more ≡ true → all_plain more ≡ true → Settles t us (kept n v) words more
kept_settles t us n v words more None is e differ plain = absurd (some≢none more (sym e))
kept_settles t us n v words more (Some more1) is e differ plain =
    let u : Use = (n, Some v) in
    let all : u ∷ more1 ≡ more = some_same _ _ e in
    let new = new_one us u more1
    (subst (λ (x : List Use). differ_after us x ≡ true) (sym all) differ) in
    let plains : (is_plain_use u ≡ true) × (all_plain more1 ≡ true) =
    and_parts (is_plain_use u) (all_plain more1)
    (subst (λ (x : List Use). all_plain x ≡ true) (sym all) plain) in (
      us ++ u ∷ [],
      more1,
      new.0,
      is,
      ap (λ (x : List Use). us ++ x) (sym all)
          ∙ sym (append_assoc us (u ∷ []) more1),
      new.1,
      plains.1,
    )

abbrev long_next_of : Option Bool → Text → Option Text → Option (List Use) → Option State
long_next_of (Some true) name (Some v) o = at_rest (option_and_then (λ us. add us (name, Some v)) o)
long_next_of (Some true) name None o = option_map (λ us. (us, wait name)) o
long_next_of (Some false) name None o = at_rest (option_and_then (λ us. add us (name, None)) o)
long_next_of _ name v o = None

-- what the parser goes on to find
abbrev Later : Options → List Text → Type 0
Later t words = (us : List Use) (p : Pending) (more : List Use) → tail t p words ≡ Some more
    → differ_after us more ≡ true → all_plain more ≡ true → run t (us, p) words ≡ Some (us ++ more)

use_complete : (t : Options) (words : List Text) (us1 : List Use) (u : Use) (more1 : List Use)
    (o : Option (List Use)) → uses_from t None words ≡ o → and_then_uses u o ≡ Some more1
    → differ_after us1 more1 ≡ true → all_plain more1 ≡ true → Later t words
    → option_and_then (λ st. run t st words) (at_rest (add us1 u)) ≡ Some (us1 ++ more1)
use_complete t words us1 u more1 None is e differ plain later = absurd (some≢none more1 (sym e))
use_complete t words us1 u more1 (Some more) is e differ plain later =
    let all : u ∷ more ≡ more1 = some_same _ _ e in
    let new = new_one us1 u more
    (subst (λ (x : List Use). differ_after us1 x ≡ true) (sym all) differ) in
    let plains : (is_plain_use u ≡ true) × (all_plain more ≡ true) =
    and_parts (is_plain_use u) (all_plain more)
    (subst (λ (x : List Use). all_plain x ≡ true) (sym all) plain) in
    ap (λ o'. option_and_then (λ st. run t st words) (at_rest o')) new.0
    ∙ later (us1 ++ u ∷ []) rest more is new.1 plains.1
    ∙ ap Some (append_assoc us1 (u ∷ []) more ∙ ap (λ (x : List Use). us1 ++ x) all)

long_complete : (t : Options) (words : List Text) (us1 : List Use) (name : Text) (v : Option Text)
    (kind : Option Bool) (more1 : List Use) (o : Option (List Use)) → o ≡ Some us1
    → on_said (said_by name v kind) (λ w. uses_from t w words) ≡ Some more1
    → differ_after us1 more1 ≡ true → all_plain more1 ≡ true → Later t words
    → option_and_then (λ st. run t st words) (long_next_of kind name v o) ≡ Some (us1 ++ more1)
long_complete t words us1 name None None more1 o is e differ plain later =
    absurd (some≢none more1 (sym e))
long_complete t words us1 name (Some v) None more1 o is e differ plain later =
    absurd (some≢none more1 (sym e))
long_complete t words us1 name (Some v) (Some true) more1 o is e differ plain later =
    ap (λ o'. option_and_then (λ st. run t st words)
    (at_rest (option_and_then (λ us. add us (name, Some v)) o'))) is
    ∙ use_complete t words us1 (name, Some v) more1 (uses_from t None words) refl e differ plain
    later
long_complete t words us1 name None (Some true) more1 o is e differ plain later =
    ap (λ o'. option_and_then (λ st. run t st words) (option_map (λ us. (us, wait name)) o')) is
    ∙ later us1 (wait name) more1 e differ plain
long_complete t words us1 name (Some v) (Some false) more1 o is e differ plain later =
    absurd (some≢none more1 (sym e))
long_complete t words us1 name None (Some false) more1 o is e differ plain later =
    ap (λ o'. option_and_then (λ st. run t st words)
    (at_rest (option_and_then (λ us. add us (name, None)) o'))) is
    ∙ use_complete t words us1 (name, None) more1 (uses_from t None words) refl e differ plain later

long_as_of : (kind : Option Bool) (name : Text) (v : Option Text) (st : State)
    → long_next_of kind name v (settle st.0 st.1) ≡ long_next kind name v st
long_as_of None name v st = refl
long_as_of (Some true) name None st = refl
long_as_of (Some true) name (Some v) st = refl
long_as_of (Some false) name None st = refl
long_as_of (Some false) name (Some v) st = refl

open_complete : (t : Options) (us : List Use) (p : Pending) (word : Text) (words : List Text)
    (more : List Use) (o : Option Text) → after_hyphens word ≡ o
    → Settles t us p (word ∷ words) more
    → Later t words → option_and_then (λ st. run t st words)
    (word_next t (us, p) word (option_map name_and_value o)) ≡ Some (us ++ more)
open_complete t us p word words more None is s later =
    absurd (some≢none s.1
    (sym (sym (ap (λ h. on_said (said_in t h) (λ w. uses_from t w words)) is) ∙ s.3)))
open_complete t us p word words more (Some r) is s later =
    let name : Text = (name_and_value r).0 in
    let v : Option Text = (name_and_value r).1 in
    ap (option_and_then (λ st. run t st words)) (sym (long_as_of (kind_in t name) name v (us, p)))
    ∙ long_complete t words s.0 name v (kind_in t name) s.1 (settle us p) s.2
    (sym (ap (λ h. on_said (said_in t h) (λ w. uses_from t w words)) is) ∙ s.3) s.5 s.6 later
    ∙ ap Some (sym s.4)

wait_complete : (t : Options) (us : List Use) (n word : Text) (words : List Text)
    (more : List Use) (o : Option (List Use)) → uses_from t None words ≡ o
    → and_then_uses (n, Some word) o ≡ Some more
    → differ_after us more ≡ true → all_plain more ≡ true → Later t words
    → option_and_then (λ st. run t st words) (next_state t (us, wait n) word) ≡ Some (us ++ more)
wait_complete t us n word words more None is e differ plain later = absurd (some≢none more (sym e))
wait_complete t us n word words more (Some more1) is e differ plain later =
    let all : (n, Some word) ∷ more1 ≡ more = some_same _ _ e in
    let plains : (is_plain_text word ≡ true) × (all_plain more1 ≡ true) =
    and_parts (is_plain_text word) (all_plain more1)
    (subst (λ (x : List Use). all_plain x ≡ true) (sym all) plain) in
    let lexed = plain_lexed word plains.0 in
    let next : next_state t (us, wait n) word ≡ Some (us, kept n word) =
    ap (λ o'. word_next t (us, wait n) word o') lexed.0
    ∙ ap (λ b. if b then None else plain_next (wait n) us word) lexed.1 in
    ap (option_and_then (λ st. run t st words)) next
    ∙ later us (kept n word) more (ap (and_then_uses (n, Some word)) is ∙ e) differ plain

pub complete : (t : Options) (words : List Text) → HasNoStop words → Later t words
unfolding run
complete t [] free us rest more e differ plain =
    ap Some (sym (append-nil us) ∙ ap (λ (x : List Use). us ++ x) (some_same [] more e))
complete t [] free us (wait n) more e differ plain = absurd (some≢none more (sym e))
complete t [] free us (kept n v) more e differ plain =
    let all : (n, Some v) ∷ [] ≡ more = some_same _ _ e in
    (new_one us (n, Some v) [] (subst (λ (x : List Use). differ_after us x ≡ true) (sym all)
    differ)).0 ∙ ap (λ (x : List Use). Some (us ++ x)) all
complete t (word ∷ words) free us (wait n) more e differ plain =
    let parts : (bytes_eq word two_hyphens ≡ false) × HasNoStop words =
    or_parts (bytes_eq word two_hyphens) _ free in
    wait_complete t us n word words more (uses_from t None words) refl e differ plain
    (complete t words parts.1)
complete t (word ∷ words) free us rest more e differ plain =
    let parts : (bytes_eq word two_hyphens ≡ false) × HasNoStop words =
    or_parts (bytes_eq word two_hyphens) _ free in
    ap (λ o. option_and_then (λ st. run t st words) (word_next t (us, rest) word o))
    (long_is word parts.0)
    ∙ open_complete t us rest word words more (after_hyphens word) refl
    (us, more, refl, e, refl, differ, plain) (complete t words parts.1)
complete t (word ∷ words) free us (kept n v) more e differ plain =
    let parts : (bytes_eq word two_hyphens ≡ false) × HasNoStop words =
    or_parts (bytes_eq word two_hyphens) _ free in
    ap (λ o. option_and_then (λ st. run t st words) (word_next t (us, kept n v) word o))
    (long_is word parts.0)
    ∙ open_complete t us (kept n v) word words more (after_hyphens word) refl
    (kept_settles t us n v (word ∷ words) more (uses_from t None (word ∷ words)) refl e differ
    plain) (complete t words parts.1)
