-- Lines that take what was said from one state to another.
use Rattle.std.proofs.Common.{◌≡◌, ◌+◌, ◌∙◌, ℕ, false, List, [], ◌∷◌, ◌++◌, length, ap, refl}
use Rattle.std.proofs.Common.{arith, suc, append_assoc, length-append}
use Rattle.std.specs.Prelude.{Ok}
use Rattle.bl_text.specs.Pieces.{words_of}
use Rattle.bl_cards.specs.Said.{Said}
use Rattle.bl_cards.specs.Lines.{data_line}
use Rattle.bl_cards.specs.Reading.{after_line, is_end, said_from}
use Rattle.bl_cards.proofs.Walks.{said_step}
use Rattle.bl_write.specs.Layout.{Text}

-- these lines, read after what was said before, say what is said then
abbrev pub Goes : Said → List Text → Said → Type 0
Goes s ls t = (n : ℕ) (rest : List Text) → said_from n s (ls ++ rest)
    ≡ said_from (n + length ls) t rest

pub stays : (s : Said) → Goes s [] s
stays s n rest = ap (λ m. said_from m s rest) (let e : n ≡ n + 0 = omega arith in e)

pub goes_on : (s t u : Said) (xs ys : List Text) → Goes s xs t → Goes t ys u → Goes s (xs ++ ys) u
goes_on s t u xs ys f g n rest =
    ap (λ l. said_from n s l) (append_assoc xs ys rest) ∙ f n (ys ++ rest) ∙ g (n + length xs) rest
    ∙ ap (λ m. said_from m u rest) (let e : n + length xs + length ys ≡ n + length (xs ++ ys) =
    omega (arith, length-append xs ys) in e)

-- one line and then others
pub goes_first : (s t u : Said) (l : Text) (ls : List Text) → is_end s.section ≡ false
    → after_line s l ≡ Ok t → Goes t ls u → Goes s (l ∷ ls) u
goes_first s t u l ls open_still here f n rest =
    said_step n s l (ls ++ rest) (Ok t) open_still here ∙ f (n + 1) rest
    ∙ ap (λ m. said_from m u rest) (let e : n + 1 + length ls ≡ n + suc (length ls) =
    omega arith in e)

-- where the states are given otherwise
pub goes_same : (s s' t t' : Said) (ls : List Text) → s ≡ s' → t' ≡ t → Goes s' ls t' → Goes s ls t
goes_same s s' t t' ls e f g n rest = ap (λ x. said_from n x (ls ++ rest)) e ∙ g n rest
    ∙ ap (λ x. said_from (n + length ls) x rest) f

-- a line that begins with a blank is a data line of its words
pub data_read : (s : Said) (bytes word : Text) (words : List Text) → words_of (32 ∷ bytes) ≡ word
    ∷ words → after_line s (32 ∷ bytes) ≡ data_line s.section s (word ∷ words)
unfolding after_line
data_read s bytes word words e = rw e refl
