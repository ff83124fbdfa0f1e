-- Reads and writes one after another, over bytes that may be known.
use Rattle.std.proofs.Common.{◌≡◌, ℕ, subst, ◌+◌, ◌≤◌, List, [], ◌∷◌, ◌++◌, length, take, drop}
use Rattle.std.proofs.Common.{Some, None, refl, sym, ◌∙◌, ap, arith, append_assoc, length-append}
use Rattle.std.specs.declared.option.Option.{Option}
use Rattle.std.specs.Io.KnownBytes.{Consumes, Appends, Keeps}
use Rattle.std.proofs.lemmas.List.{append-nil, take_at, drop-drop, drop_at, take-append-drop}
use Rattle.bl_io.specs.Streams.{Takes, TakesAtMost}

pub Appends-none : (a : Option (List ℕ)) → Appends a a []
Appends-none None = tt
Appends-none (Some xs) = sym (append-nil xs)

pub Appends-more : (a b c : Option (List ℕ)) (xs ys : List ℕ) → Appends a b xs → Appends b c ys
    → Appends a c (xs ++ ys)
Appends-more None b c xs ys first second = tt
Appends-more (Some s) None c xs ys first second = absurd first
Appends-more (Some s) (Some t) None xs ys first second = absurd second
Appends-more (Some s) (Some t) (Some u) xs ys first second =
    second ∙ ap (λ (l : List ℕ). l ++ ys) first ∙ append_assoc s xs ys

pub Appends-kept : (a b c : Option (List ℕ)) (xs : List ℕ) → Appends a b xs → Keeps b c
    → Appends a c xs
Appends-kept None b c xs first second = tt
Appends-kept (Some s) None c xs first second = absurd first
Appends-kept (Some s) (Some t) None xs first second = absurd second
Appends-kept (Some s) (Some t) (Some u) xs first second = second ∙ first

pub Consumes-none : (a : Option (List ℕ)) → Consumes a a []
Consumes-none None = tt
Consumes-none (Some xs) = refl

pub Consumes-more : (a b c : Option (List ℕ)) (xs ys : List ℕ) → Consumes a b xs → Consumes b c ys
    → Consumes a c (xs ++ ys)
Consumes-more None b c xs ys first second = tt
Consumes-more (Some s) None c xs ys first second = absurd first
Consumes-more (Some s) (Some t) None xs ys first second = absurd second
Consumes-more (Some s) (Some t) (Some u) xs ys first second =
    first ∙ ap (λ (l : List ℕ). xs ++ l) second ∙ sym (append_assoc xs ys u)

pub Consumes-kept : (a b c : Option (List ℕ)) (xs : List ℕ) → Consumes a b xs → Keeps b c
    → Consumes a c xs
Consumes-kept None b c xs first second = tt
Consumes-kept (Some s) None c xs first second = absurd first
Consumes-kept (Some s) (Some t) None xs first second = absurd second
Consumes-kept (Some s) (Some t) (Some u) xs first second =
    first ∙ ap (λ (l : List ℕ). xs ++ l) (sym second)

pub Takes-consumed : (a b : Option (List ℕ)) (xs : List ℕ) (n : ℕ) → length xs ≡ n
    → Consumes a b xs → Takes a b n
Takes-consumed None b xs n size first = tt
Takes-consumed (Some s) None xs n size first = absurd first
Takes-consumed (Some s) (Some t) xs n size first = (
  omega (arith, ap length first, length-append xs t, size),
  sym
      (ap (drop n) first ∙ drop_at xs t n size),
)

-- bytes that were consumed, and then some that were taken
pub Takes-more : (a b c : Option (List ℕ)) (xs : List ℕ) (n m : ℕ) → length xs + n ≡ m
    → Consumes a b xs → Takes b c n → Takes a c m
Takes-more None b c xs n m size first second = tt
Takes-more (Some s) None c xs n m size first second = absurd first
Takes-more (Some s) (Some t) None xs n m size first second = absurd second
Takes-more (Some s) (Some t) (Some u) xs n m size first second = (
  omega (arith, ap length first, length-append xs t, size, second.0),
  second.1 ∙ sym (ap (drop m) first ∙ ap (λ (k : ℕ). drop k (xs ++ t)) (sym size)
      ∙ sym (drop-drop n (length xs) (xs ++ t)) ∙ ap (drop n) (drop_at xs t (length xs) refl)),
)

pub TakesAtMost-more : (a b c : Option (List ℕ)) (xs : List ℕ) (n m : ℕ) → length xs + n ≤ m
    → Consumes a b xs → TakesAtMost b c n → TakesAtMost a c m
TakesAtMost-more a b c xs n m size first second = (
  length xs + second.0,
  omega (arith, size, second.1),
  Takes-more a b c xs second.0
      (length xs + second.0) refl first second.2,
)

-- what a read from the place t put in front of a buffer was next
pub next_bytes : (bytes copied rest : List ℕ) (t n : ℕ) → copied ≡ take n (drop t bytes)
    → length copied ≡ n → drop t bytes ≡ take n (copied ++ rest) ++ drop (t + n) bytes
next_bytes bytes copied rest t n is size =
    sym (ap (λ (l : List ℕ). l ++ drop (t + n) bytes) (take_at copied rest n size ∙ is)
    ∙ ap (λ (l : List ℕ). take n (drop t bytes) ++ l) (sym (drop-drop n t bytes))
    ∙ take-append-drop n (drop t bytes))

-- an empty piece changes nothing
pub Consumes-end : (a b c : Option (List ℕ)) (xs ys : List ℕ) → length ys ≡ 0 → Consumes a b xs
    → Consumes b c ys → Consumes a c xs
Consumes-end a b c xs [] empty first second =
    subst (λ (l : List ℕ). Consumes a c l) (append-nil xs) (Consumes-more a b c xs [] first second)
Consumes-end a b c xs (y ∷ ys) empty first second = absurd (omega arith)
