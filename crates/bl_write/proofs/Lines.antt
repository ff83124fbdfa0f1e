-- The words of a line that was laid out, and the lines of a text.
use Rattle.std.proofs.Common.{◌≡◌, ◌≢◌, ◌<◌, ◌-◌, ◌+◌, ◌∙◌, ℕ, false, List, [], ◌∷◌, ◌++◌, map}
use Rattle.std.proofs.Common.{length, ap, sym, refl, arith, zero, suc, append-nil, append_assoc}
use Rattle.std.proofs.Common.{replicate, ne_eqb, All}
use Rattle.std.proofs.lemmas.List.Elements.{All-append, All-head, All-nil, All-replicate}
use Rattle.std.proofs.lemmas.List.Elements.{All-tail, All-weaker}
use Rattle.std.proofs.lemmas.Bool.Decides.{nat_tests}
use Rattle.bl_text.specs.Pieces.{HasNoBlank, is_blank, lines_of, is_line_feed, without_return}
use Rattle.bl_text.specs.Pieces.{words_of}
use Rattle.bl_text.proofs.Cuts.{pieces-nil}
use Rattle.bl_text.proofs.Together.{lines_of-ended, words_of-blank, words_of-ended, words_of-last}
use Rattle.bl_problem.specs.Program.{IsName, IsVisible}
use Rattle.bl_write.specs.Layout.{Text, ended, fields_from, gap, laid, spaced}

-- ---- words

blank_tests : (b : ℕ) → b ≢ 32 → b ≢ 9 → b ≢ 13 → is_blank b ≡ false
blank_tests b space tab return = grind (arith, nat_tests, space, tab, return)

visible_whole : (b : ℕ) → IsVisible b → is_blank b ≡ false
visible_whole b v = blank_tests b v.space v.tab v.return

pub name_some : (name : Text) → IsName name → 0 < length name
name_some [] n = absurd (n.some refl)
name_some (b ∷ name) n = omega arith

pub name_whole : (name : Text) → IsName name → HasNoBlank name
name_whole name n = All-weaker IsVisible (λ b. is_blank b ≡ false) visible_whole name n.visible

-- spaces in front are passed over
spaces_passed : (k : ℕ) (rest : Text) → words_of (replicate k 32 ++ rest) ≡ words_of rest
spaces_passed zero rest = refl
spaces_passed (suc k) rest = words_of-blank 32 (replicate k 32 ++ rest) refl ∙ spaces_passed k rest

word_gap : (word rest : Text) (g : ℕ) → 0 < g → IsName word
    → words_of (word ++ (replicate g 32 ++ rest)) ≡ word ∷ words_of rest
word_gap word rest zero some n = absurd (omega arith)
word_gap word rest (suc g) some n =
    words_of-ended word (replicate g 32 ++ rest) 32 (name_some word n) (name_whole word n) refl
    ∙ ap (λ ws. word ∷ ws) (spaces_passed g rest)

-- the words of fields are names
abbrev pub AreNames : List (ℕ × Text) → Type 0
AreNames fs = All (λ f. IsName f.1) fs

abbrev pub words_in : List (ℕ × Text) → List Text
words_in fs = map (λ f. f.1) fs

words_from : (place : ℕ) (word : Text) (fs : List (ℕ × Text)) → IsName word → AreNames fs
    → words_of (word ++ spaced (fields_from place fs)) ≡ word ∷ words_in fs
words_from place word [] n ns = ap words_of (append-nil word)
    ∙ words_of-last word (name_some word n) (name_whole word n)
words_from place word (f ∷ fs) n ns =
    word_gap word (f.1 ++ spaced (fields_from (place + gap place f.0 + length f.1) fs))
    (gap place f.0) (omega arith) n
    ∙ ap (λ ws. word ∷ ws) (words_from (place + gap place f.0 + length f.1) f.1 fs
    (All-head (λ g. IsName g.1) f fs ns) (All-tail (λ g. IsName g.1) f fs ns))

-- a line has the words that were laid out
pub words_laid : (f : ℕ × Text) (fs : List (ℕ × Text)) → IsName f.1 → AreNames fs
    → words_of (laid f fs) ≡ f.1 ∷ words_in fs
words_laid f fs n ns =
    spaces_passed (f.0 - 1) (f.1 ++ spaced (fields_from (f.0 - 1 + length f.1) fs))
    ∙ words_from (f.0 - 1 + length f.1) f.1 fs n ns

-- ---- lines

-- a byte that ends no line
pub record IsPlain (b : ℕ) : Type 0 where
  pub feed : b ≢ 10
  pub return : b ≢ 13

abbrev pub IsLine : Text → Type 0
IsLine line = All IsPlain line

name_line : (name : Text) → IsName name → IsLine name
name_line name n = All-weaker IsVisible IsPlain
    (λ b v. record { feed = v.feed; return = v.return }) name n.visible

space_plain : IsPlain 32
space_plain = record { feed = omega arith; return = omega arith }

fields_line : (place : ℕ) (fs : List (ℕ × Text)) → AreNames fs
    → IsLine (spaced (fields_from place fs))
fields_line place [] ns = All-nil IsPlain
fields_line place (f ∷ fs) ns =
    All-append IsPlain (replicate (gap place f.0) 32)
    (f.1 ++ spaced (fields_from (place + gap place f.0 + length f.1) fs))
    (All-replicate IsPlain (gap place f.0) 32 space_plain)
    (All-append IsPlain f.1 (spaced (fields_from (place + gap place f.0 + length f.1) fs))
    (name_line f.1 (All-head (λ g. IsName g.1) f fs ns))
    (fields_line (place + gap place f.0 + length f.1) fs (All-tail (λ g. IsName g.1) f fs ns)))

pub laid_line : (f : ℕ × Text) (fs : List (ℕ × Text)) → IsName f.1 → AreNames fs
    → IsLine (laid f fs)
laid_line f fs n ns =
    All-append IsPlain (replicate (f.0 - 1) 32)
    (f.1 ++ spaced (fields_from (f.0 - 1 + length f.1) fs))
    (All-replicate IsPlain (f.0 - 1) 32 space_plain)
    (All-append IsPlain f.1 (spaced (fields_from (f.0 - 1 + length f.1) fs)) (name_line f.1 n)
    (fields_line (f.0 - 1 + length f.1) fs ns))

kept : (line : Text) → IsLine line → without_return line ≡ line
kept [] h = refl
kept (x ∷ line) h = rw (ne_eqb _ 13 (h (length (x ∷ line) - 1) 0 (omega arith)).return) refl

-- the lines of a text are those that were ended
pub lines_ended : (ls : List Text) → All IsLine ls → lines_of (ended ls) ≡ ls
lines_ended [] h = ap (map without_return) (pieces-nil is_line_feed)
lines_ended (l ∷ ls) h =
    let here = All-head IsLine l ls h in
    lines_of-ended l (ended ls) (All-weaker IsPlain (λ b. b ≢ 10) (λ b p. p.feed) l here)
    ∙ ap (λ x. x ∷ lines_of (ended ls)) (kept l here)
    ∙ ap (λ xs. l ∷ xs) (lines_ended ls (All-tail IsLine l ls h))

pub ended_append : (xs ys : List Text) → ended (xs ++ ys) ≡ ended xs ++ ended ys
ended_append [] ys = refl
ended_append (x ∷ xs) ys = ap (λ t. x ++ 10 ∷ t) (ended_append xs ys)
    ∙ sym (append_assoc x (10 ∷ ended xs) (ended ys))
