-- Reading one line after another.
use Rattle.std.proofs.Common.{◌≡◌, ℕ, ◌+◌, true, false, List, [], ◌∷◌, Result, Ok, Err, refl}
use Rattle.bl_cards.specs.declared.kind.What.{What}
use Rattle.bl_cards.specs.declared.kind.What.TheVariants as what
use Rattle.bl_cards.specs.Said.{Said, ◌>>=◌}
use Rattle.bl_cards.specs.declared.reader.Whole.{Whole}
use Rattle.bl_cards.specs.Reading.{Fault, is_end, at_line, after_line, said_from}

abbrev pub whole : Said → ℕ → Whole
whole s n = record { said = s; last = n }

abbrev pub fault_at : ℕ → What → Fault
fault_at n w = record { line = n; what = w }

pub said_done : (n : ℕ) (s : Said) (lines : List (List ℕ)) → is_end s.section ≡ true
    → said_from n s lines ≡ Ok (whole s n)
unfolding said_from
said_done n s [] e = rw e refl
said_done n s (line ∷ lines) e = rw e refl

pub said_open : (n : ℕ) (s : Said) → is_end s.section ≡ false → said_from n s []
    ≡ Err (fault_at (n + 1) what.NoEnd)
unfolding said_from
said_open n s e = rw e refl

pub said_step : (n : ℕ) (s : Said) (line : List ℕ) (lines : List (List ℕ)) (r : Result Said What)
    → is_end s.section ≡ false → after_line s line ≡ r → said_from n s (line ∷ lines)
    ≡ (at_line (n + 1) r >>= λ t. said_from (n + 1) t lines)
unfolding said_from
said_step n s line lines r e f = rw (e, f) refl

-- a line that was taken
pub record Taken (n : ℕ) (r : Result Said What) (f : Said → Result Whole Fault) (w : Whole) : Type
    0 where
  pub x : Said
  pub is : r ≡ Ok x
  pub then : f x ≡ Ok w

pub taken : (n : ℕ) (r : Result Said What) (f : Said → Result Whole Fault) (w : Whole)
    → (at_line n r >>= f) ≡ Ok w → Taken n r f w
taken n (Ok x) f w e = record { x = x; is = refl; then = e }
taken n (Err v) f w e = absurd cc
