-- The digits in front of a text, and what comes after them.
use Rattle.std.proofs.Common.{◌≡◌, ℕ, zero, suc, ◌+◌, ◌<◌, min, ℤ, pos, neg_ℤ, Some, None, Bool}
use Rattle.std.proofs.Common.{true, false, cond, not, ◌&&◌, option_map, List, [], ◌∷◌, ◌++◌, take}
use Rattle.std.proofs.Common.{drop, length, refl, sym, ap, ◌∙◌, arith}
use Rattle.std.proofs.lemmas.List.{take-append-drop, append-nil}
use Rattle.std.specs.List.{prefix_len}
use Rattle.std.proofs.lemmas.List.Elements.{All-nil, All-cons}
use Rattle.bl_num.specs.Decimals.{is_digit, is_empty, AreDigits, digits_of, after_digits}
use Rattle.bl_num.specs.Decimals.{negated_if, power_of, whole_number}
use Rattle.bl_num.specs.Reading.{clipped}

one_more : (n : ℕ) → 1 + n ≡ suc n
one_more n = omega arith

drop_by : (t : Bool) (b : ℕ) (bs rest : List ℕ) (n : ℕ) → drop n bs ≡ rest
    → drop (cond t (1 + n) 0) (b ∷ bs) ≡ cond t rest (b ∷ bs)
drop_by true b bs rest n e = rw one_more e
drop_by false b bs rest n e = refl

pub after_digits-drop : (text : List ℕ) → drop (prefix_len is_digit text) text ≡ after_digits text
after_digits-drop [] = refl
after_digits-drop (b ∷ bs) = drop_by (is_digit b) b bs (after_digits bs) (prefix_len is_digit bs)
    (after_digits-drop bs)

take_by : (t : Bool) (b : ℕ) (bs : List ℕ) (n : ℕ) → is_digit b ≡ t → AreDigits (take n bs)
    → AreDigits (take (cond t (1 + n) 0) (b ∷ bs))
take_by true b bs n e h = rw one_more (All-cons (λ d. is_digit d ≡ true) b (take n bs) e h)
take_by false b bs n e h = All-nil (λ d. is_digit d ≡ true)

pub digits_of-digits : (text : List ℕ) → AreDigits (digits_of text)
digits_of-digits [] = All-nil (λ d. is_digit d ≡ true)
digits_of-digits (b ∷ bs) =
    take_by (is_digit b) b bs (prefix_len is_digit bs) refl (digits_of-digits bs)

-- the digits in front and what comes after them are the text
pub front-behind : (text : List ℕ) → digits_of text ++ after_digits text ≡ text
front-behind text = ap (λ (x : List ℕ). digits_of text ++ x) (sym (after_digits-drop text))
    ∙ take-append-drop (prefix_len is_digit text) text

empty-is : (xs : List ℕ) → length xs ≡ 0 → xs ≡ []
empty-is [] e = refl
empty-is (x ∷ xs) e = absurd (omega arith)

-- a text of digits alone
pub all_digits : (text : List ℕ) → length (after_digits text) ≡ 0 → digits_of text ≡ text
all_digits text e = sym (append-nil (digits_of text)) ∙ ap (λ (x : List ℕ). digits_of text ++ x)
    (sym (empty-is (after_digits text) e)) ∙ front-behind text

power_by : (minus : Bool) (text rest : List ℕ) (n : ℕ) → 0 < length text → length rest ≡ 0 →
    cond (not (is_empty text) && is_empty rest) (Some (negated_if minus n)) None
    ≡ Some (negated_if minus n)
power_by minus [] rest n h e = absurd (omega arith)
power_by minus (b ∷ bs) [] n h e = refl
power_by minus (b ∷ bs) (c ∷ cs) n h e = absurd (omega arith)

pub power_of-digits : (minus : Bool) (text : List ℕ) → 0 < length text
    → length (after_digits text) ≡ 0 → power_of minus text
    ≡ Some (negated_if minus (whole_number (digits_of text)))
power_of-digits minus text h e =
    rw (all_digits text e) (power_by minus text (after_digits text) (whole_number text) h e)

pub clipped-minus : (n : ℕ) → clipped (negated_if true n) ≡ neg_ℤ (pos (min n 28))
clipped-minus zero = refl
clipped-minus (suc n) = let e : min (suc n) 28 ≡ suc (min n 27) = omega arith in rw e refl

pub power_of-minus : (text front rest : List ℕ) (minus : Bool) (n : ℕ) (z : ℤ) → minus ≡ true
    → front ≡ digits_of text → rest ≡ after_digits text → 0 < length text → length rest ≡ 0 →
    n ≡ min (whole_number front) 28 → z ≡ neg_ℤ (pos n) → Some z
    ≡ option_map clipped (power_of minus text)
power_of-minus text front rest minus n z m f r h e i j =
    let p = power_of-digits true text h (ap length (sym r) ∙ e) in
    let q = clipped-minus (whole_number (digits_of text)) in
    rw (m, p, q, j, i, f) refl

pub power_of-plus : (text front rest : List ℕ) (minus : Bool) (n : ℕ) (z : ℤ) → minus ≡ false
    → front ≡ digits_of text → rest ≡ after_digits text → 0 < length text → length rest ≡ 0 →
    n ≡ min (whole_number front) 28 → z ≡ pos n → Some z ≡ option_map clipped (power_of minus text)
power_of-plus text front rest minus n z m f r h e i j =
    let p = power_of-digits false text h (ap length (sym r) ∙ e) in
    rw (m, p, j, i, f) refl
