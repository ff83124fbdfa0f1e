-- The first piece of some bytes, and the pieces after it.
use Rattle.std.proofs.Common.{◌≡◌, ℕ, zero, suc, ◌+◌, ◌<◌, Bool, true, false, cond, not, List, []}
use Rattle.std.proofs.Common.{◌∷◌, ◌≤◌, take, drop, length, refl, sym, add-one, ap, ◌∙◌, arith}
use Rattle.std.specs.Prelude.{filter}
use Rattle.std.proofs.lemmas.List.{length-map}
use Rattle.bl_text.specs.Pieces.{is_line_feed, without_return, lines_of, before_pieces, pieces}
use Rattle.bl_text.specs.Pieces.{leading, is_word, is_blank, words_of}

take_one : (n x : ℕ) (xs : List ℕ) → take (n + 1) (x ∷ xs) ≡ x ∷ take n xs
take_one n x xs = rw add-one refl

drop_one : (n x : ℕ) (xs : List ℕ) → drop (n + 1) (x ∷ xs) ≡ drop n xs
drop_one n x xs = rw add-one refl

drop_two : (n x : ℕ) (xs : List ℕ) → drop (n + 1 + 1) (x ∷ xs) ≡ drop (n + 1) xs
drop_two n x xs = drop_one (n + 1) x xs

drop_nil : (n : ℕ) → drop {A = ℕ} n [] ≡ []
drop_nil zero = refl
drop_nil (suc n) = refl

pub first_by : (ends : ℕ → Bool) (b : ℕ) (bs : List ℕ) (t : Bool) → ends b ≡ t
    → pieces ends (b ∷ bs) ≡ before_pieces t b (pieces ends bs)
unfolding pieces
first_by ends b bs t e = ap (λ (x : Bool). before_pieces x b (pieces ends bs)) e

leading_by : (test : ℕ → Bool) (b : ℕ) (bs : List ℕ) (t : Bool) → test b ≡ t
    → leading test (b ∷ bs) ≡ cond t (leading test bs + 1) 0
leading_by test b bs t e = ap (λ (x : Bool). cond x (leading test bs + 1) 0) e

pub pieces-nil : (ends : ℕ → Bool) → pieces ends [] ≡ []
unfolding pieces
pieces-nil ends = refl

abbrev FirstCut : (ℕ → Bool) → List ℕ → ℕ → Type 0
FirstCut ends bs n = pieces ends bs ≡ take n bs ∷ pieces ends (drop (n + 1) bs)

first_step : (ends : ℕ → Bool) (b : ℕ) (bs : List ℕ) (t : Bool) → ends b ≡ t
    → ((c : ℕ) (cs : List ℕ) → bs ≡ c ∷ cs → FirstCut ends bs (leading (λ x. not (ends x)) bs))
    → FirstCut ends (b ∷ bs) (leading (λ x. not (ends x)) (b ∷ bs))
first_step ends b bs true e ih =
    let n = leading_by (λ x. not (ends x)) b bs false (ap not e) in
    rw (n, first_by ends b bs true e) refl
first_step ends b [] false e ih =
    let n = leading_by (λ x. not (ends x)) b [] true (ap not e) in
    rw (n, first_by ends b [] false e, pieces-nil) refl
first_step ends b (c ∷ cs) false e ih =
    let n = leading_by (λ x. not (ends x)) b (c ∷ cs) true (ap not e) in
    rw (
      n,
      first_by ends b (c ∷ cs) false e,
      ih c cs refl,
      take_one
          (leading (λ x. not (ends x)) (c ∷ cs)) b (c ∷ cs),
      drop_two
          (leading (λ x. not (ends x)) (c ∷ cs)) b (c ∷ cs),
    ) refl

pub first_piece : (ends : ℕ → Bool) (b : ℕ) (bs : List ℕ)
    → FirstCut ends (b ∷ bs) (leading (λ x. not (ends x)) (b ∷ bs))
first_piece ends b [] = first_step ends b [] (ends b) refl (λ c cs e. absurd cc)
first_piece ends b (c ∷ cs) =
    first_step ends b (c ∷ cs) (ends b) refl (λ _ _ _. first_piece ends c cs)

drop_more : (n : ℕ) (xs : List ℕ) → drop (n + 1) xs ≡ drop 1 (drop n xs)
drop_more zero xs = refl
drop_more (suc n) [] = drop_nil (suc n + 1)
drop_more (suc n) (x ∷ xs) = drop_one (suc n) x xs ∙ rw add-one at (drop_more n xs)

pub line_step : (xs : List ℕ) (n : ℕ) → 0 < length xs → n ≡ leading (λ b. not (is_line_feed b)) xs
    → lines_of xs ≡ without_return (take n xs) ∷ lines_of (drop 1 (drop n xs))
line_step [] n lt e = absurd (omega arith)
line_step (b ∷ bs) n lt e =
    rw (
      e,
      ← drop_more (leading (λ x. not (is_line_feed x)) (b ∷ bs)) (b ∷ bs),
      first_piece
          is_line_feed b bs,
    ) refl

pub no_line : (xs : List ℕ) → length xs ≡ 0 → lines_of xs ≡ []
no_line [] e = rw (pieces-nil is_line_feed) refl
no_line (b ∷ bs) e = absurd (omega arith)

skip_by : (b : ℕ) (bs : List ℕ) (t : Bool) → is_blank b ≡ t
    → (words_of bs ≡ words_of (drop (leading is_blank bs) bs)) → words_of (b ∷ bs)
    ≡ words_of (drop (cond t (leading is_blank bs + 1) 0) (b ∷ bs))
skip_by b bs true e ih = rw (first_by is_blank b bs true e, drop_one (leading is_blank bs) b bs) ih
skip_by b bs false e ih = refl

-- blanks in front are passed over
pub words_skip : (xs : List ℕ) → words_of xs ≡ words_of (drop (leading is_blank xs) xs)
words_skip [] = refl
words_skip (b ∷ bs) = skip_by b bs (is_blank b) refl (words_skip bs)

-- after the blanks in front no blank stands first
pub no_blank : (xs : List ℕ) (b : ℕ) (bs : List ℕ) → drop (leading is_blank xs) xs ≡ b ∷ bs
    → is_blank b ≡ false
no_blank [] b bs e = absurd cc
no_blank (x ∷ xs) b bs e = no_blank-at x xs b bs (is_blank x) refl e (no_blank xs b bs) where
  no_blank-at : (x : ℕ) (xs : List ℕ) (b : ℕ) (bs : List ℕ) (t : Bool) → is_blank x ≡ t
      → drop (cond t (leading is_blank xs + 1) 0) (x ∷ xs) ≡ b ∷ bs
      → (drop (leading is_blank xs) xs ≡ b ∷ bs → is_blank b ≡ false) → is_blank b ≡ false
  no_blank-at x xs b bs true t e ih = ih (sym (drop_one (leading is_blank xs) x xs) ∙ e)
  no_blank-at x xs b bs false t e ih = let h : x ≡ b = cc in rw (← h) t

first_word : (n b : ℕ) (bs : List ℕ) (others : List (List ℕ))
    → filter is_word (take (n + 1) (b ∷ bs) ∷ others) ≡ take (n + 1) (b ∷ bs)
    ∷ filter is_word others
first_word n b bs others = rw (take_one n b bs) refl

word_first : (b : ℕ) (bs : List ℕ) → is_blank b ≡ false → words_of (b ∷ bs)
    ≡ take (leading (λ x. not (is_blank x)) (b ∷ bs)) (b ∷ bs)
    ∷ words_of (drop 1 (drop (leading (λ x. not (is_blank x)) (b ∷ bs)) (b ∷ bs)))
word_first b bs h =
    let n = leading_by (λ x. not (is_blank x)) b bs true (ap not h) in
    rw (
      ← drop_more (leading (λ x. not (is_blank x)) (b ∷ bs)) (b ∷ bs),
      first_piece is_blank b
          bs,
      n,
    ) (first_word (leading (λ x. not (is_blank x)) bs) b bs
    (pieces is_blank (drop (cond true (leading (λ x. not (is_blank x)) bs + 1) 0 + 1)
    (b ∷ bs))))

pub word_step : (xs here : List ℕ) (n : ℕ) → here ≡ drop (leading is_blank xs) xs → 0
    < length here → n ≡ leading (λ x. not (is_blank x)) here → words_of xs ≡ take n here
    ∷ words_of (drop 1 (drop n here))
word_step xs [] n e lt f = absurd (omega arith)
word_step xs (b ∷ bs) n e lt f =
    rw (f, words_skip xs, ← e) (word_first b bs (no_blank xs b bs (sym e)))

pub no_word : (xs here : List ℕ) → here ≡ drop (leading is_blank xs) xs → length here ≡ 0
    → words_of xs ≡ []
unfolding pieces
no_word xs [] e lt = words_skip xs ∙ rw (← e) refl
no_word xs (b ∷ bs) e lt = absurd (omega arith)

pub fewer : {A : Type 0} (xs ys : List A) (x : A) → xs ≡ x ∷ ys → length ys < length xs
fewer xs ys x e = rw e (omega arith)

few_by : (t : Bool) (b : ℕ) (ps : List (List ℕ)) (n : ℕ) → length ps ≤ n
    → length (before_pieces t b ps) ≤ suc n
few_by true b ps n h = omega arith
few_by false b [] n h = omega arith
few_by false b (p ∷ ps) n h = omega arith

few_pieces : (ends : ℕ → Bool) (bs : List ℕ) → length (pieces ends bs) ≤ length bs
unfolding pieces
few_pieces ends [] = omega arith
few_pieces ends (b ∷ bs) = few_by (ends b) b (pieces ends bs) (length bs) (few_pieces ends bs)

pub few_lines : (bs : List ℕ) → length (lines_of bs) ≤ length bs
few_lines bs = omega (
  arith,
  length-map (pieces is_line_feed bs) without_return,
  few_pieces
      is_line_feed bs,
)

few_words_in : (ps : List (List ℕ)) → length (filter is_word ps) ≤ length ps
few_words_in [] = omega arith
few_words_in ([] ∷ ps) = let i = few_words_in ps in omega arith
few_words_in ((b ∷ bs) ∷ ps) = let i = few_words_in ps in omega arith

pub few_words : (bs : List ℕ) → length (words_of bs) ≤ length bs
few_words bs = omega (arith, few_words_in (pieces is_blank bs), few_pieces is_blank bs)
