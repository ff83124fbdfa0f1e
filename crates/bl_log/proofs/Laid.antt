-- Words that are laid out one behind another.
use Rattle.std.proofs.Common.{◌≡◌, ◌∙◌, List, [], ◌∷◌, ◌++◌, ap, sym, refl, append_assoc}
use Rattle.std.proofs.Common.{append-nil}
use Rattle.bl_log.specs.Spaced.{Text, spaced, joined, each}
use Rattle.bl_log.specs.Log.{line_of, text_of}
use Rattle.bl_journal.specs.declared.entry.Entry.{Entry}

pub spaced-append : (us vs : List Text) → spaced (us ++ vs) ≡ spaced us ++ spaced vs
spaced-append [] vs = refl
spaced-append (u ∷ us) vs = ap (λ (t : Text). 32 ∷ (u ++ t)) (spaced-append us vs)
    ∙ ap (λ (t : Text). 32 ∷ t) (sym (append_assoc u (spaced us) (spaced vs)))

pub each-append : {X : Type 0} (words : X → List Text) (xs ys : List X) → each words (xs ++ ys)
    ≡ each words xs ++ each words ys
each-append words [] ys = refl
each-append words (x ∷ xs) ys = ap (λ (t : List Text). words x ++ t) (each-append words xs ys)
    ∙ sym (append_assoc (words x) (each words xs) (each words ys))

-- one more is laid out behind those before it
pub each_laid : {X : Type 0} (words : X → List Text) (xs : List X) (x : X)
    → spaced (each words (xs ++ x ∷ [])) ≡ spaced (each words xs) ++ spaced (words x)
each_laid words xs x =
    ap spaced (each-append words xs (x ∷ []) ∙ ap (λ (t : List Text). each words xs ++ t)
    (append-nil (words x)))
    ∙ spaced-append (each words xs) (words x)

-- words laid out behind others
pub laid_then : (a b c : Text) (us vs : List Text) → b ≡ a ++ spaced us → c ≡ b ++ spaced vs → c
    ≡ a ++ spaced (us ++ vs)
laid_then a b c us vs first second =
    second ∙ ap (λ (t : Text). t ++ spaced vs) first ∙ append_assoc a (spaced us) (spaced vs)
    ∙ ap (λ (t : Text). a ++ t) (sym (spaced-append us vs))

-- a line behind the lines before it
pub text_push : (es : List Entry) (e : Entry) → text_of (es ++ e ∷ []) ≡ text_of es
    ++ (line_of e ++ 10 ∷ [])
text_push [] e = refl
text_push (x ∷ es) e = ap (λ (t : Text). line_of x ++ 10 ∷ t) (text_push es e)
    ∙ sym (append_assoc (line_of x) (10 ∷ text_of es) (line_of e ++ 10 ∷ []))

-- a line that begins with these words goes on with others
pub line_then : (a b c : Text) (u : Text) (us vs : List Text) → b ≡ a ++ joined (u ∷ us) → c ≡ b
    ++ spaced vs → c ≡ a ++ joined (u ∷ (us ++ vs))
line_then a b c u us vs first second =
    second ∙ ap (λ (t : Text). t ++ spaced vs) first ∙ append_assoc a (u ++ spaced us) (spaced vs)
    ∙ ap (λ (t : Text). a ++ t) (append_assoc u (spaced us) (spaced vs)
    ∙ ap (λ (t : Text). u ++ t) (sym (spaced-append us vs)))
