-- What the getters of the matches read, by the uses.
use Rattle.std.proofs.Common.{◌≡◌, ◌≢◌, ◌∙◌, ◌||◌, Bool, cond, true, false, refl, sym, ap, subst}
use Rattle.std.proofs.Common.{List, [], ◌∷◌, ◌++◌, Option, Some, None, codes, is_some, true≢false}
use Rattle.std.specs.Prelude.{⊤, option_map, option_and_then, if◌then◌else◌, slice_get, find}
use Rattle.std.specs.List.{fold, list_any}
use Rattle.std.specs.Str.{bytes_eq}
use Rattle.std.proofs.lemmas.Bool.{or_parts}
use Rattle.bl_words.specs.Words.{Options, Text, Use, and_then_uses, is_named, kind_in, on_said}
use Rattle.bl_words.specs.Words.{said_by, uses_from, value_of, after_hyphens, said_in, has}
use Rattle.bl_words.proofs.Steps.{built_rule, row_of_use, rows, rules, same_text, some≢none}
use Rattle.bl_words.proofs.Steps.{some_same}
use Rattle.clap.specs.Walk.{Row, first_of, has_row, one_of, row_text, with_default, with_values}
use Rattle.clap.specs.declared.builder.value_parser.Reading.TheVariants as reading
use Rattle.clap.specs.declared.parser.matches.ValueSource.TheVariants.{DefaultValue}
use Rattle.clap.proofs.WalkLemmas.{find-map}

abbrev named : Text → List Row → Option Row
named n rs = find (λ (r : Row). bytes_eq r.id n) rs

abbrev default_row : Text → Row
default_row n = record { id = n; values = codes "false" ∷ []; count = None; source = Some DefaultValue; reading = reading.AsWritten }

abbrev pub or_else_row : Option Row → Option Row → Option Row
or_else_row (Some r) other = Some r
or_else_row None other = other

-- the row that a flag gets which does not stand among the words
abbrev pub flag_default : Options → Text → Option Row
flag_default [] n = None
flag_default ((m, true) ∷ t) n = flag_default t n
flag_default ((m, false) ∷ t) n = if bytes_eq m n then Some (default_row m) else flag_default t n

find_last : (n : Text) (rs : List Row) (r : Row) → named n (rs ++ r ∷ [])
    ≡ or_else_row (named n rs) (if bytes_eq r.id n then Some r else None)
find_last n [] r = refl
find_last n (x ∷ rs) r = go (bytes_eq x.id n) (find_last n rs r)
  where
    go : (b : Bool) → named n (rs ++ r ∷ [])
        ≡ or_else_row (named n rs) (if bytes_eq r.id n then Some r else None)
        → cond b (Some x) (named n (rs ++ r ∷ [])) ≡ or_else_row (cond b (Some x) (named n rs))
        (if bytes_eq r.id n then Some r else None)
    go true e = refl
    go false e = e

default_added : (n : Text) (rs : List Row) → has_row n rs ≡ false → with_values n reading.AsWritten DefaultValue (codes "false" ∷ []) rs ≡ rs ++ default_row n ∷ []
default_added n [] none = refl
default_added n (r ∷ rs) none =
    let parts : (bytes_eq r.id n ≡ false) × (has_row n rs ≡ false) =
    or_parts (bytes_eq r.id n) (has_row n rs) none in
    rw parts.0 (ap (λ xs. r ∷ xs) (default_added n rs parts.1))

pub any_found : {X : Type 0} (p : X → Bool) (xs : List X) → is_some (find p xs) ≡ list_any p xs
any_found p [] = refl
any_found p (x ∷ xs) = go (p x) (any_found p xs)
  where
    go : (b : Bool) → is_some (find p xs) ≡ list_any p xs → is_some (cond b (Some x) (find p xs))
        ≡ (b || list_any p xs)
    go true e = refl
    go false e = e

-- one more argument gets its default
one_default : (m n : Text) (k : Bool) (t : Options) (rs : List Row) (b : Bool) → has_row m rs ≡ b
    → or_else_row (named n (with_default rs (built_rule (m, k)))) (flag_default t n)
    ≡ or_else_row (named n rs) (flag_default ((m, k) ∷ t) n)
one_default m n true t rs true is = rw is refl
one_default m n true t rs false is = rw is refl
one_default m n false t rs true is = rw is (stands (bytes_eq m n) refl)
  where
    some_left : (o : Option Row) (a b : Option Row) → is_some o ≡ true → or_else_row o a
        ≡ or_else_row o b
    some_left None a b e = absurd (true≢false (sym e))
    some_left (Some r) a b e = refl

    stands : (b : Bool) → bytes_eq m n ≡ b → or_else_row (named n rs) (flag_default t n)
        ≡ or_else_row (named n rs) (cond b (Some (default_row m)) (flag_default t n))
    stands false e = refl
    stands true e = some_left (named n rs) _ _ (any_found (λ (r : Row). bytes_eq r.id n) rs
        ∙ ap (λ x. has_row x rs) (sym (same_text m n e)) ∙ is)
one_default m n false t rs false is =
    rw is (ap (λ (xs : List Row). or_else_row (named n xs) (flag_default t n))
    (default_added m rs is)
    ∙ ap (λ (o : Option Row). or_else_row o (flag_default t n)) (find_last n rs (default_row m))
    ∙ joined (named n rs) (bytes_eq m n))
  where
    joined : (o : Option Row) (b : Bool)
        → or_else_row (or_else_row o (cond b (Some (default_row m)) None)) (flag_default t n)
        ≡ or_else_row o (cond b (Some (default_row m)) (flag_default t n))
    joined (Some r) b = refl
    joined None true = refl
    joined None false = refl

or_none : (o : Option Row) → or_else_row o None ≡ o
or_none None = refl
or_none (Some r) = refl

defaults_found : (t : Options) (n : Text) (rs : List Row)
    → named n (fold with_default rs (rules t)) ≡ or_else_row (named n rs) (flag_default t n)
defaults_found [] n rs = sym (or_none (named n rs))
defaults_found (e ∷ t) n rs = defaults_found t n (with_default rs (built_rule e))
    ∙ one_default e.0 n e.1 t rs (has_row e.0 rs) refl

-- ---- the uses suit the options

abbrev pub AllSuit : Options → List Use → Type 0
AllSuit t [] = ⊤
AllSuit t (u ∷ us) = (kind_in t u.0 ≡ Some (is_some u.1)) × AllSuit t us

abbrev pub WaitSuits : Options → Option Text → Type 0
WaitSuits t None = ⊤
WaitSuits t (Some n) = kind_in t n ≡ Some true

head_suits : (t : Options) (u : Use) (o : Option (List Use)) (us : List Use) → kind_in t u.0
    ≡ Some (is_some u.1) → ((more : List Use) → o ≡ Some more → AllSuit t more)
    → and_then_uses u o ≡ Some us → AllSuit t us
head_suits t u None us k later e = absurd (some≢none us (sym e))
head_suits t u (Some more) us k later e = subst (AllSuit t) (some_same _ _ e) (k, later more refl)

said_suits : (t : Options) (name : Text) (v : Option Text) (kind : Option Bool)
    (words : List Text) (us : List Use) → kind_in t name ≡ kind
    → ((w : Option Text) (more : List Use) → WaitSuits t w → uses_from t w words ≡ Some more
    → AllSuit t more)
    → on_said (said_by name v kind) (λ w. uses_from t w words) ≡ Some us → AllSuit t us
said_suits t name None None words us k later e = absurd (some≢none us (sym e))
said_suits t name (Some v) None words us k later e = absurd (some≢none us (sym e))
said_suits t name (Some v) (Some true) words us k later e =
    head_suits t (name, Some v) (uses_from t None words) us k (λ more. later None more tt) e
said_suits t name None (Some true) words us k later e = later (Some name) us k e
said_suits t name (Some v) (Some false) words us k later e = absurd (some≢none us (sym e))
said_suits t name None (Some false) words us k later e =
    head_suits t (name, None) (uses_from t None words) us k (λ more. later None more tt) e

word_suits : (t : Options) (o : Option Text) (words : List Text) (us : List Use)
    → ((w : Option Text) (more : List Use) → WaitSuits t w → uses_from t w words ≡ Some more
    → AllSuit t more)
    → on_said (said_in t o) (λ w. uses_from t w words) ≡ Some us → AllSuit t us
word_suits t None words us later e = absurd (some≢none us (sym e))
word_suits t (Some r) words us later e = said_suits t _ _ (kind_in t _) words us refl later e

pub uses_suit : (t : Options) (words : List Text) (w : Option Text) (us : List Use)
    → WaitSuits t w → uses_from t w words ≡ Some us → AllSuit t us
uses_suit t [] None us k e = subst (AllSuit t) (some_same _ _ e) tt
uses_suit t [] (Some n) us k e = absurd (some≢none us (sym e))
uses_suit t (word ∷ words) (Some n) us k e =
    head_suits t (n, Some word) (uses_from t None words) us k
    (λ more. uses_suit t words None more tt) e
uses_suit t (word ∷ words) None us k e =
    word_suits t (after_hyphens word) words us (λ w more. uses_suit t words w more) e

found_suits : (t : Options) (n : Text) (us : List Use) (u : Use) → AllSuit t us
    → find (is_named n) us ≡ Some u → kind_in t n ≡ Some (is_some u.1)
found_suits t n [] u s e = absurd (some≢none u (sym e))
found_suits t n (x ∷ us) u s e = go (bytes_eq x.0 n) refl e (found_suits t n us u s.1)
  where
    go : (b : Bool) → bytes_eq x.0 n ≡ b → cond b (Some x) (find (is_named n) us) ≡ Some u
        → (find (is_named n) us ≡ Some u → kind_in t n ≡ Some (is_some u.1)) → kind_in t n
        ≡ Some (is_some u.1)
    go true same is later = ap (kind_in t) (sym (same_text x.0 n same)) ∙ s.0
        ∙ ap (λ (y : Use). Some (is_some y.1)) (some_same x u is)
    go false same is later = later is

-- ---- what the getters read

abbrev final : Options → List Use → List Row
final t us = fold with_default (rows us) (rules t)

found_row : (n : Text) (us : List Use) → named n (rows us)
    ≡ option_map row_of_use (find (is_named n) us)
found_row n us = sym (find-map (λ (r : Row). bytes_eq r.id n) row_of_use us)

final_row : (t : Options) (n : Text) (us : List Use) → named n (final t us)
    ≡ or_else_row (option_map row_of_use (find (is_named n) us)) (flag_default t n)
final_row t n us = defaults_found t n (rows us)
    ∙ ap (λ (o : Option Row). or_else_row o (flag_default t n)) (found_row n us)

value_at : (t : Options) (n : Text) (o : Option Use) → flag_default t n ≡ None
    → ((u : Use) → o ≡ Some u → kind_in t n ≡ Some (is_some u.1)) → kind_in t n ≢ Some false
    → option_and_then (λ (r : Row). slice_get r.values 0)
    (or_else_row (option_map row_of_use o) (flag_default t n))
    ≡ option_and_then (λ (u : Use). u.1) o
value_at t n None no_flag suits valued = rw no_flag refl
value_at t n (Some (m, Some v)) no_flag suits valued = refl
value_at t n (Some (m, None)) no_flag suits valued = absurd (valued (suits (m, None) refl))

-- an option's value is the one in the words
pub value_read : (t : Options) (n : Text) (us : List Use) → AllSuit t us → flag_default t n ≡ None
    → kind_in t n ≢ Some false → first_of n (final t us) ≡ value_of n us
value_read t n us s no_flag valued =
    ap (option_and_then (λ (r : Row). slice_get r.values 0)) (final_row t n us)
    ∙ value_at t n (find (is_named n) us) no_flag (λ u. found_suits t n us u s) valued

flag_at : (t : Options) (n : Text) (o : Option Use) (b : Bool) → is_some o ≡ b → flag_default t n
    ≡ Some (default_row n) → ((u : Use) → o ≡ Some u → kind_in t n ≡ Some (is_some u.1))
    → kind_in t n ≡ Some false
    → option_and_then row_text (or_else_row (option_map row_of_use o) (flag_default t n)) ≡ Some (if b then codes "true" else codes "false")
flag_at t n None true is flag suits k = absurd (true≢false (sym is))
flag_at t n None false is flag suits k = rw flag refl
flag_at t n (Some u) false is flag suits k = absurd (true≢false is)
flag_at t n (Some (m, None)) true is flag suits k = refl
flag_at t n (Some (m, Some v)) true is flag suits k =
    absurd (true≢false (some_same true false (sym (suits (m, Some v) refl) ∙ k)))

-- a flag reads as `true` where it stands among the words, and else as `false`
pub flag_read : (t : Options) (n : Text) (us : List Use) → AllSuit t us → flag_default t n
    ≡ Some (default_row n) → kind_in t n ≡ Some false
    → one_of n (final t us) ≡ Some (if has n us then codes "true" else codes "false")
flag_read t n us s flag k =
    ap (option_and_then row_text) (final_row t n us)
    ∙ flag_at t n (find (is_named n) us) (has n us) (any_found (is_named n) us) flag
    (λ u. found_suits t n us u s) k
