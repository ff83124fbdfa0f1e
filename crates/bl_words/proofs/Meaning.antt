-- From what the parser answers to what the words mean.
use Rattle.std.proofs.Common.{◌+◌, ◌-◌, ◌*◌, ◌≡◌, ◌∙◌, ◌==◌, ◌&&◌, ℕ, Bool, cond, true, false}
use Rattle.std.proofs.Common.{not, refl, sym, ap, subst, List, [], ◌∷◌, ◌++◌, Option, Some, None}
use Rattle.std.proofs.Common.{codes, length, is_some, true≢false, append_assoc, nat_le, arith}
use Rattle.std.specs.Prelude.{⊤, option_map, option_and_then, find}
use Rattle.std.specs.Str.{bytes_eq}
use Rattle.std.proofs.lemmas.Bool.{and_parts, and_from, not-true, or_parts, false_from_ne_true}
use Rattle.std.proofs.lemmas.Bool.{leb-true, eqb-true, not_from_false}
use Rattle.bl_journal.specs.declared.limits.TheConstants.{MOST_NODES, MOST_SPAN, MOST_WORKERS}
use Rattle.bl_words.specs.declared.wish.TheConstants.{MOST_GAP}
use Rattle.bl_words.specs.Words.{Options, Text, Use, differ, differ_after, has, digits_from}
use Rattle.bl_words.specs.Words.{in_range, is_digit, is_named, kind_in, number_in, number_or}
use Rattle.bl_words.specs.Words.{options, value_of}
use Rattle.bl_words.specs.Wishes.{Asks, Means, cuts_of, generate_of, half_of, order_of, sizes_of}
use Rattle.bl_words.specs.declared.wish.Wish.{Wish}
use Rattle.bl_words.specs.declared.wish.GenWish.{GenWish}
use Rattle.bl_pool.specs.declared.key.Order.{Order}
use Rattle.bl_cover.specs.declared.separator.CutKinds.{CutKinds}
use Rattle.bl_words.proofs.Steps.{own_text, same_text, some≢none, some_same}
use Rattle.bl_words.proofs.Spelled.{all_plain, is_plain_text, is_plain_use}
use Rattle.bl_words.proofs.Getters.{AllSuit, uses_suit}

-- ---- values that fit begin with no hyphen

digit_no_hyphen : (x : ℕ) → is_digit x ≡ true → not (x == 45) ≡ true
digit_no_hyphen x e =
    let parts : (nat_le 48 x ≡ true) × (nat_le x 57 ≡ true) =
    and_parts (nat_le 48 x) (nat_le x 57) e in
    not_from_false (x == 45) (false_from_ne_true (x == 45)
    (λ same. absurd (omega (arith, leb-true 48 x parts.0, eqb-true x 45 same))))

number_plain : (least most n : ℕ) (v : Text) → number_in least most v ≡ Some n → is_plain_text v
    ≡ true
number_plain least most n [] e = refl
number_plain least most n (x ∷ v) e = go (nat_le 1 (length (x ∷ v)) && nat_le (length (x ∷ v)) 10)
    (is_digit x) refl e
  where
    go : (s b : Bool) → is_digit x ≡ b → cond s
        (in_range least most (cond b (digits_from (0 * 10 + (x - 48)) v) None)) None ≡ Some n
        → not (x == 45) ≡ true
    go s true is e' = digit_no_hyphen x is
    go true false is e' = absurd (some≢none n (sym e'))
    go false false is e' = absurd (some≢none n (sym e'))

or_plain : (least most otherwise n : ℕ) (o : Option Text) (v : Text)
    → number_or least most otherwise o ≡ Some n → o ≡ Some v → is_plain_text v ≡ true
or_plain least most otherwise n o v e is =
    number_plain least most n v
    (subst (λ (x : Option Text). number_or least most otherwise x ≡ Some n) is e)

word_plain : (v a : Text) → bytes_eq v a ≡ true → is_plain_text a ≡ true → is_plain_text v ≡ true
word_plain v a e plain = subst (λ (x : Text). is_plain_text x ≡ true) (sym (same_text v a e)) plain

order_plain : (o : Option Text) (v : Text) (w : Order) → order_of o ≡ Some w → o ≡ Some v
    → is_plain_text v ≡ true
order_plain o v w e is = go (bytes_eq v (codes "best")) (bytes_eq v (codes "depth")) refl refl (subst (λ (x : Option Text). order_of x ≡ Some w) is e)
  where
    go : (b d : Bool) → bytes_eq v (codes "best") ≡ b → bytes_eq v (codes "depth") ≡ d → order_of (Some v) ≡ Some w → is_plain_text v ≡ true
    go true d one two e' = word_plain v (codes "best") one refl
    go false true one two e' = word_plain v (codes "depth") two refl
    go false false one two e' = absurd (some≢none w (sym (rw (one, two) at e')))

half_plain : (o : Option Text) (v : Text) (w : Bool) → half_of o ≡ Some w → o ≡ Some v
    → is_plain_text v ≡ true
half_plain o v w e is = go (bytes_eq v (codes "half")) (bytes_eq v (codes "fraction")) refl refl (subst (λ (x : Option Text). half_of x ≡ Some w) is e)
  where
    go : (b d : Bool) → bytes_eq v (codes "half") ≡ b → bytes_eq v (codes "fraction") ≡ d → half_of (Some v) ≡ Some w → is_plain_text v ≡ true
    go true d one two e' = word_plain v (codes "half") one refl
    go false true one two e' = word_plain v (codes "fraction") two refl
    go false false one two e' = absurd (some≢none w (sym (rw (one, two) at e')))

cuts_plain : (o : Option Text) (v : Text) (w : CutKinds) → cuts_of o ≡ Some w → o ≡ Some v
    → is_plain_text v ≡ true
cuts_plain o v w e is = go (bytes_eq v (codes "rows")) (bytes_eq v (codes "covers")) (bytes_eq v (codes "both")) refl refl refl (subst (λ (x : Option Text). cuts_of x ≡ Some w) is e)
  where
    go : (r c b : Bool) → bytes_eq v (codes "rows") ≡ r → bytes_eq v (codes "covers") ≡ c → bytes_eq v (codes "both") ≡ b → cuts_of (Some v) ≡ Some w → is_plain_text v ≡ true
    go true c b one two three e' = word_plain v (codes "rows") one refl
    go false true b one two three e' = word_plain v (codes "covers") two refl
    go false false true one two three e' = word_plain v (codes "both") three refl
    go false false false one two three e' = absurd (some≢none w (sym (rw (one, two, three) at e')))

start_plain : (o c r : Option Text) (v : Text) (g : Option GenWish) → generate_of o c r ≡ Some g
    → o ≡ Some v → is_plain_text v ≡ true
start_plain o c r v g e is = go (number_in 0 2147483647 v) refl
    (subst (λ (x : Option Text). generate_of x c r ≡ Some g) is e)
  where
    go : (n : Option ℕ) → number_in 0 2147483647 v ≡ n
        → sizes_of n (number_or 1 1000 30 c) (number_or 0 1000 10 r) ≡ Some g → is_plain_text v
        ≡ true
    go None number e' = absurd (some≢none g (sym e'))
    go (Some n) number e' = number_plain 0 2147483647 n v number

columns_plain : (o c r : Option Text) (v : Text) (g : Option GenWish) → generate_of o c r ≡ Some g
    → c ≡ Some v → is_plain_text v ≡ true
columns_plain o c r v g e is =
    by_start o (subst (λ (x : Option Text). generate_of o x r ≡ Some g) is e)
  where
    sizes : (n m : Option ℕ) → number_in 1 1000 v ≡ m → sizes_of n m (number_or 0 1000 10 r)
        ≡ Some g → is_plain_text v ≡ true
    sizes None m number e' = absurd (some≢none g (sym e'))
    sizes (Some n) None number e' = absurd (some≢none g (sym e'))
    sizes (Some n) (Some m) number e' = number_plain 1 1000 m v number

    by_start : (p : Option Text) → generate_of p (Some v) r ≡ Some g → is_plain_text v ≡ true
    by_start None e' = absurd (some≢none g (sym e'))
    by_start (Some s) e' = sizes (number_in 0 2147483647 s) (number_in 1 1000 v) refl e'

rows_plain : (o c r : Option Text) (v : Text) (g : Option GenWish) → generate_of o c r ≡ Some g
    → r ≡ Some v → is_plain_text v ≡ true
rows_plain o c r v g e is =
    by_start o c (subst (λ (x : Option Text). generate_of o c x ≡ Some g) is e)
  where
    sizes : (n k m : Option ℕ) → number_in 0 1000 v ≡ m → sizes_of n k m ≡ Some g
        → is_plain_text v ≡ true
    sizes None k m number e' = absurd (some≢none g (sym e'))
    sizes (Some n) None m number e' = absurd (some≢none g (sym e'))
    sizes (Some n) (Some k) None number e' = absurd (some≢none g (sym e'))
    sizes (Some n) (Some k) (Some m) number e' = number_plain 0 1000 m v number

    by_start : (p d : Option Text) → generate_of p d (Some v) ≡ Some g → is_plain_text v ≡ true
    by_start None None e' = absurd (some≢none g (sym e'))
    by_start None (Some d) e' = absurd (some≢none g (sym e'))
    by_start (Some s) d e' = sizes (number_in 0 2147483647 s) (number_or 1 1000 30 d)
        (number_in 0 1000 v) refl e'

-- ---- all values of a meaningful list are so

abbrev EachValued : (Text → Type 0) → Options → Type 0
EachValued P [] = ⊤
EachValued P ((m, true) ∷ t) = P m × EachValued P t
EachValued P ((m, false) ∷ t) = EachValued P t

by_each : (P : Text → Type 0) (t : Options) (n : Text) → EachValued P t → kind_in t n ≡ Some true
    → P n
by_each P [] n each e = absurd (some≢none true (sym e))
by_each P ((m, true) ∷ t) n each e = go (bytes_eq m n) refl e (by_each P t n each.1)
  where
    go : (b : Bool) → bytes_eq m n ≡ b → option_map (λ f. f.1)
        (cond b (Some (m, true)) (find (λ f. bytes_eq f.0 n) t)) ≡ Some true
        → (kind_in t n ≡ Some true → P n) → P n
    go true is e' later = subst P (same_text m n is) each.0
    go false is e' later = later e'
by_each P ((m, false) ∷ t) n each e = go (bytes_eq m n) e (by_each P t n each)
  where
    go : (b : Bool) → option_map (λ f. f.1)
        (cond b (Some (m, false)) (find (λ f. bytes_eq f.0 n) t)) ≡ Some true
        → (kind_in t n ≡ Some true → P n) → P n
    go true e' later = absurd (true≢false (sym (some_same false true e')))
    go false e' later = later e'

abbrev HasPlain : (Text → Option Text) → Text → Type 0
HasPlain value n = (v : Text) → value n ≡ Some v → is_plain_text v ≡ true

shared_plain : (value : Text → Option Text) (write log : Bool) (w : Wish) → Asks value write log w
    → EachValued (HasPlain value) (options true)
shared_plain value write log w a = (
  (λ v. or_plain 0 MOST_NODES 20000 w.settings.nodes _ v a.nodes),
  (
    (λ v. or_plain 1 MOST_SPAN 8 w.settings.span _ v a.span),
    (
      (λ v. order_plain _ v w.settings.order a.order),
      (
        (λ v. half_plain _ v w.half a.half),
        (
          (λ v. or_plain 0 MOST_GAP 0 w.gap _ v a.gap),
          (
            (λ v. cuts_plain _ v w.cuts a.cuts),
            (
              (λ v. start_plain (value (codes "gen")) (value (codes "columns")) (value (codes "rows")) v w.generate a.generate),
              (
                (λ v. columns_plain (value (codes "gen")) (value (codes "columns")) (value (codes "rows")) v w.generate a.generate),
                ((λ v. rows_plain (value (codes "gen")) (value (codes "columns")) (value (codes "rows")) v w.generate a.generate), tt),
              ),
            ),
          ),
        ),
      ),
    ),
  ),
)

each_plain : (one : Bool) (value : Text → Option Text) (write log : Bool) (w : Wish)
    → Asks value write log w → EachValued (HasPlain value) (options one)
each_plain true value write log w a = shared_plain value write log w a
each_plain false value write log w a =
    (λ v. or_plain 1 MOST_WORKERS 1 w.workers _ v a.workers, shared_plain value write log w a)

find_past : (n : Text) (before : List Use) (u : Use) (more : List Use) → has n before ≡ false
    → bytes_eq u.0 n ≡ true → find (is_named n) (before ++ u ∷ more) ≡ Some u
find_past n [] u more new named = rw named refl
find_past n (x ∷ before) u more new named =
    let parts : (bytes_eq x.0 n ≡ false) × (has n before ≡ false) =
    or_parts (bytes_eq x.0 n) (has n before) new in
    rw parts.0 (find_past n before u more parts.1 named)

use_plain : (t : Options) (us : List Use) (u : Use)
    → ((n : Text) → kind_in t n ≡ Some true → HasPlain (λ m. value_of m us) n) → kind_in t u.0
    ≡ Some (is_some u.1) → find (is_named u.0) us ≡ Some u
    → is_plain_use u ≡ true
use_plain t us (n, None) each k found = refl
use_plain t us (n, Some v) each k found = each n k v (ap (option_and_then (λ (x : Use). x.1)) found)

more_plain : (t : Options) (us before more : List Use) → us ≡ before ++ more → AllSuit t more
    → differ_after before more ≡ true
    → ((n : Text) → kind_in t n ≡ Some true → HasPlain (λ m. value_of m us) n) → all_plain more
    ≡ true
more_plain t us before [] all s differ each = refl
more_plain t us before (u ∷ more) all s differ each =
    let parts : (not (has u.0 before) ≡ true) × (differ_after (before ++ u ∷ []) more ≡ true) =
    and_parts _ _ differ in
    and_from _ _
    (use_plain t us u each s.0 (ap (find (is_named u.0)) all
    ∙ find_past u.0 before u more (not-true _ parts.0) (own_text u.0)))
    (more_plain t us (before ++ u ∷ []) more (all ∙ sym (append_assoc before (u ∷ []) more)) s.1
    parts.1 each)

pub meant_plain : (one : Bool) (words : List Text) (w : Wish) (m : Means one words w)
    → all_plain m.uses ≡ true
meant_plain one words w m =
    more_plain (options one) m.uses [] m.uses refl
    (uses_suit (options one) words None m.uses tt m.spelled.uses_are) m.spelled.once
    (λ n. by_each (HasPlain (λ name. value_of name m.uses)) (options one) n
    (each_plain one _ _ _ w m.asked))
