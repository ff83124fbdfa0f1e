-- The words of an entry tell which it is.
use Rattle.std.proofs.Common.{◌≡◌, ◌∙◌, ℕ, ℤ, cond, eqb, List, [], ◌∷◌, ◌++◌, codes, Option, Some}
use Rattle.std.proofs.Common.{None, ap, ap₂, sym, refl, arith}
use Rattle.std.specs.Prelude.{All}
use Rattle.std.specs.Fmt.{decimal, signed_decimal}
use Rattle.std.proofs.lemmas.List.Elements.{All-append, All-nil}
use Rattle.bl_desc.specs.declared.desc.Form.{Form}
use Rattle.bl_desc.specs.declared.desc.Form.TheVariants.{Explicit, Relative}
use Rattle.bl_text.specs.Pieces.{words_of}
use Rattle.bl_journal.specs.declared.entry.Entry.{Entry}
use Rattle.bl_journal.specs.declared.entry.Entry.TheVariants.{Take, Put, Back, Encode, Free}
use Rattle.bl_journal.specs.declared.entry.Step.{Step}
use Rattle.bl_journal.specs.declared.entry.Step.TheVariants.{Shut, Split}
use Rattle.bl_log.specs.Spaced.{Text, each, listed}
use Rattle.bl_log.specs.Log.{form_word, found_point, integer, line_of, lists_of, natural}
use Rattle.bl_log.specs.Log.{next_step, words_in}
use Rattle.bl_log.specs.Fits.{Fits, FoundFits, IsI64, IsU32, ListFits, StepFits}
use Rattle.bl_log.proofs.Words.{IsPlain, IsPrinted, joined_printed, literal, words_joined}
use Rattle.bl_log.proofs.Spellings.{IsSpelling, change_one, change_plain, each_plain, first_word}
use Rattle.bl_log.proofs.Spellings.{i128_one, i128_plain, i64_one, i64_plain, integer_spelling}
use Rattle.bl_log.proofs.Spellings.{listed_spelling, natural_spelling, naturals_one, other_words}
use Rattle.bl_log.proofs.Spellings.{plain_one, plain_word, u32_one, u32_plain}

-- words that begin with other bytes differ
differ : (a b : ℕ) (v w : Text) (r s : List Text) → (a ∷ v) ∷ r ≡ (b ∷ w) ∷ s → a ≡ b
differ a b v w r s e = cc

differ_then : (a b c d : ℕ) (v w : Text) (r s : List Text) → (a ∷ b ∷ v) ∷ r ≡ (c ∷ d ∷ w) ∷ s → b
    ≡ d
differ_then a b c d v w r s e = cc

point_spelling : IsSpelling (listed integer) (ListFits IsI64)
point_spelling = listed_spelling integer IsI64 integer_spelling

found_one : (a b : Option (List ℤ)) (r s : List Text) → FoundFits a → FoundFits b → found_point a
    ++ r ≡ found_point b ++ s → (a ≡ b) × (r ≡ s)
found_one None None r s f g e = (refl, other_words _ _ r s e)
found_one None (Some y) r s f g e =
    absurd (let d : 110 ≡ 112 = differ 110 112 _ _ _ _ e in omega (arith, d))
found_one (Some x) None r s f g e =
    absurd (let d : 112 ≡ 110 = differ 112 110 _ _ _ _ e in omega (arith, d))
found_one (Some x) (Some y) r s f g e =
    let same = point_spelling.one x y r s f g (other_words _ _ _ _ e) in (ap Some same.0, same.1)

found_plain : (a : Option (List ℤ)) → FoundFits a → All IsPlain (found_point a)
found_plain None f = plain_word (codes "none") (literal (codes "none") (omega arith) refl)
found_plain (Some x) f = plain_one (codes "point") (listed integer x) (literal (codes "point") (omega arith) refl) (point_spelling.plain x f)

step_one : (a b : Step) → StepFits a → StepFits b → next_step a ≡ next_step b → a ≡ b
step_one Shut Shut f g e = refl
step_one Shut (Split c k at) f g e =
    absurd (let d : 104 ≡ 112 = differ_then 115 104 115 112 _ _ _ _ e in omega (arith, d))
step_one (Split c k at) Shut f g e =
    absurd (let d : 112 ≡ 104 = differ_then 115 112 115 104 _ _ _ _ e in omega (arith, d))
step_one (Split c k at) (Split d l bt) f g e =
    let one = other_words _ _ _ _ e in
    let column : k ≡ l = u32_one k l _ _ f.0 g.0 one in
    let two = other_words _ _ _ _ one in
    let place : at ≡ bt = i64_one at bt _ _ f.1 g.1 two in
    let change = change_one c d [] [] f.2 g.2
    (ap (λ (t : List Text). t ++ []) (other_words _ _ _ _ two)) in
    (λ i. Split (change.0 i) (column i) (place i))

step_plain : (a : Step) → StepFits a → All IsPlain (next_step a)
step_plain Shut f = plain_word (codes "shut") (literal (codes "shut") (omega arith) refl)
step_plain (Split c k at) f =
    plain_one (codes "split") (decimal k ∷ signed_decimal at ∷ lists_of c) (literal (codes "split") (omega arith) refl)
    (plain_one (decimal k) (signed_decimal at ∷ lists_of c) (u32_plain k f.0)
    (plain_one (signed_decimal at) (lists_of c) (i64_plain at f.1) (change_plain c f.2)))

abbrev form_in : Text → Form
form_in [] = Explicit
form_in (b ∷ bs) = cond (eqb b 101) Explicit Relative

form_reads : (f : Form) → form_in (form_word f) ≡ f
form_reads Explicit = refl
form_reads Relative = refl

form_plain : (f : Form) → IsPlain (form_word f)
form_plain Explicit = literal (codes "explicit") (omega arith) refl
form_plain Relative = literal (codes "relative") (omega arith) refl

-- the byte that the line begins with
abbrev kind_of : Entry → ℕ
kind_of (Take seat id) = 116
kind_of (Back seat id) = 98
kind_of (Encode seat id form) = 101
kind_of (Free seat ids) = 102
kind_of (Put seat id found low next) = 112

abbrev first_byte : List Text → ℕ
first_byte [] = 0
first_byte ([] ∷ ws) = 0
first_byte ((b ∷ bs) ∷ ws) = b

kind_told : (e : Entry) → first_byte (words_in e) ≡ kind_of e
kind_told (Take seat id) = refl
kind_told (Back seat id) = refl
kind_told (Encode seat id form) = refl
kind_told (Free seat ids) = refl
kind_told (Put seat id found low next) = refl

two_one : (w : Text) (a b c d : ℕ) (r s : List Text) → IsU32 a → IsU32 b → IsU32 c → IsU32 d → w
    ∷ decimal a ∷ decimal b ∷ r ≡ w ∷ decimal c ∷ decimal d ∷ s → (a ≡ c) × ((b ≡ d) × (r ≡ s))
two_one w a b c d r s fa fb fc fd e =
    let one = other_words _ _ _ _ e in
    let two = other_words _ _ _ _ one in
    (u32_one a c _ _ fa fc one, (u32_one b d _ _ fb fd two, other_words _ _ r s two))

two_plain : (w : Text) (a b : ℕ) (r : List Text) → IsPlain w → IsU32 a → IsU32 b → All IsPlain r
    → All IsPlain (w ∷ decimal a ∷ decimal b ∷ r)
two_plain w a b r p fa fb h = plain_one w (decimal a ∷ decimal b ∷ r) p
    (plain_one (decimal a) (decimal b ∷ r) (u32_plain a fa)
    (plain_one (decimal b) r (u32_plain b fb) h))

pub words_one : (a b : Entry) → Fits a → Fits b → words_in a ≡ words_in b → a ≡ b
words_one a b f g e = go a b f g (sym (kind_told a) ∙ ap first_byte e ∙ kind_told b) e
  where
    go : (a b : Entry) → Fits a → Fits b → kind_of a ≡ kind_of b → words_in a ≡ words_in b → a ≡ b
    go (Take s i) (Take t j) f g k e = let h = two_one (codes "take") s i t j [] [] f.0 f.1 g.0 g.1 e in ap₂ Take h.0 h.1.0
    go (Take s i) (Back t j) f g k e = absurd (omega (arith, k))
    go (Take s i) (Encode t j m) f g k e = absurd (omega (arith, k))
    go (Take s i) (Free t js) f g k e = absurd (omega (arith, k))
    go (Take s i) (Put t j n l x) f g k e = absurd (omega (arith, k))
    go (Back s i) (Take t j) f g k e = absurd (omega (arith, k))
    go (Back s i) (Back t j) f g k e = let h = two_one (codes "back") s i t j [] [] f.0 f.1 g.0 g.1 e in ap₂ Back h.0 h.1.0
    go (Back s i) (Encode t j m) f g k e = absurd (omega (arith, k))
    go (Back s i) (Free t js) f g k e = absurd (omega (arith, k))
    go (Back s i) (Put t j n l x) f g k e = absurd (omega (arith, k))
    go (Encode s i w) (Take t j) f g k e = absurd (omega (arith, k))
    go (Encode s i w) (Back t j) f g k e = absurd (omega (arith, k))
    go (Encode s i w) (Encode t j m) f g k e =
        let h = two_one (codes "encode") s i t j (form_word w ∷ []) (form_word m ∷ []) f.0 f.1 g.0 g.1 e in
        let form : w ≡ m = sym (form_reads w) ∙ ap form_in (first_word _ _ _ _ h.1.1)
        ∙ form_reads m in
        (λ i. Encode (h.0 i) (h.1.0 i) (form i))
    go (Encode s i w) (Free t js) f g k e = absurd (omega (arith, k))
    go (Encode s i w) (Put t j n l x) f g k e = absurd (omega (arith, k))
    go (Free s is) (Take t j) f g k e = absurd (omega (arith, k))
    go (Free s is) (Back t j) f g k e = absurd (omega (arith, k))
    go (Free s is) (Encode t j m) f g k e = absurd (omega (arith, k))
    go (Free s is) (Free t js) f g k e =
        let one = other_words _ _ _ _ e in
        ap₂ Free (u32_one s t _ _ f.0 g.0 one)
        (naturals_one is js f.1 g.1 (other_words _ _ _ _ one))
    go (Free s is) (Put t j n l x) f g k e = absurd (omega (arith, k))
    go (Put s i n l x) (Take t j) f g k e = absurd (omega (arith, k))
    go (Put s i n l x) (Back t j) f g k e = absurd (omega (arith, k))
    go (Put s i n l x) (Encode t j m) f g k e = absurd (omega (arith, k))
    go (Put s i n l x) (Free t js) f g k e = absurd (omega (arith, k))
    go (Put s i n l x) (Put t j m o y) f g k e =
        let h = two_one (codes "put") s i t j _ _ f.0 f.1 g.0 g.1 e in
        let low = other_words _ _ _ _ h.1.1 in
        let number : l ≡ o = i128_one l o _ _ f.2 g.2 low in
        let found = found_one n m (codes "next" ∷ next_step x) (codes "next" ∷ next_step y) f.3 g.3 (other_words _ _ _ _ (other_words _ _ _ _ low)) in
        let next : x ≡ y = step_one x y f.4 g.4 (other_words _ _ _ _ found.1) in
        (λ i. Put (h.0 i) (h.1.0 i) (found.0 i) (number i) (next i))

pub words_plain : (e : Entry) → Fits e → All IsPlain (words_in e)
words_plain (Take s i) f = two_plain (codes "take") s i [] (literal (codes "take") (omega arith) refl) f.0 f.1 (All-nil IsPlain)
words_plain (Back s i) f = two_plain (codes "back") s i [] (literal (codes "back") (omega arith) refl) f.0 f.1 (All-nil IsPlain)
words_plain (Encode s i w) f =
    two_plain (codes "encode") s i (form_word w ∷ []) (literal (codes "encode") (omega arith) refl) f.0 f.1 (plain_word (form_word w) (form_plain w))
words_plain (Free s is) f =
    plain_one (codes "free") (decimal s ∷ each natural is) (literal (codes "free") (omega arith) refl)
    (plain_one (decimal s) (each natural is) (u32_plain s f.0)
    (each_plain natural IsU32 natural_spelling is f.1))
words_plain (Put s i n l x) f =
    let behind : List Text = found_point n ++ (codes "next" ∷ next_step x) in
    two_plain (codes "put") s i (codes "low" ∷ signed_decimal l ∷ codes "found" ∷ behind) (literal (codes "put") (omega arith) refl) f.0 f.1
    (plain_one (codes "low") (signed_decimal l ∷ codes "found" ∷ behind) (literal (codes "low") (omega arith) refl)
    (plain_one (signed_decimal l) (codes "found" ∷ behind) (i128_plain l f.2)
    (plain_one (codes "found") behind (literal (codes "found") (omega arith) refl)
    (All-append IsPlain (found_point n) (codes "next" ∷ next_step x) (found_plain n f.3)
    (plain_one (codes "next") (next_step x) (literal (codes "next") (omega arith) refl) (step_plain x f.4))))))

-- the words of a line are those of its entry
pub line_words : (e : Entry) → Fits e → words_of (line_of e) ≡ words_in e
line_words (Take s i) f = words_joined (codes "take") _ (words_plain (Take s i) f)
line_words (Back s i) f = words_joined (codes "back") _ (words_plain (Back s i) f)
line_words (Encode s i w) f = words_joined (codes "encode") _ (words_plain (Encode s i w) f)
line_words (Free s is) f = words_joined (codes "free") _ (words_plain (Free s is) f)
line_words (Put s i n l x) f = words_joined (codes "put") _ (words_plain (Put s i n l x) f)

pub line_printed : (e : Entry) → Fits e → All IsPrinted (line_of e)
line_printed e f = joined_printed (words_in e) (words_plain e f)
