-- Texts that grow line by line.
use Rattle.std.proofs.Common.{Bool, true, false, cond, not, pos, ◌≡◌, ◌<◌, ◌≤◌, ◌+◌, ◌-◌, ◌∙◌, ℕ}
use Rattle.std.proofs.Common.{List, [], ◌∷◌, ◌++◌, map, length, replicate, ap, sym, refl, arith}
use Rattle.std.proofs.Common.{suc, append-nil, append_assoc, length-append}
use Rattle.std.specs.Ordering.{int_eq}
use Rattle.std.specs.Prelude.{Err, Ok, OnOk, Result}
use Rattle.std.proofs.lemmas.List.{length-replicate}
use Rattle.bl_write.specs.Layout.{Text, ended, fields_from, gap, laid, spaced}
use Rattle.bl_write.specs.Written.{Amount, nonzero}
use Rattle.bl_write.proofs.Lines.{ended_append}

-- lines and then others
pub and_then : (t0 t1 t2 : Text) (xs ys : List Text) → t1 ≡ t0 ++ ended xs → t2 ≡ t1 ++ ended ys
    → t2 ≡ t0 ++ ended (xs ++ ys)
and_then t0 t1 t2 xs ys e f = f ∙ ap (λ t. t ++ ended ys) e
    ∙ append_assoc t0 (ended xs) (ended ys) ∙ ap (λ t. t0 ++ t) (sym (ended_append xs ys))

-- the next lines of a text whose further lines are known
pub pushed : (start items new : Text) (whole all here rest : List Text) → all ≡ here ++ rest → new
    ≡ items ++ ended here → items ++ ended all ≡ start ++ ended whole → new ++ ended rest ≡ start
    ++ ended whole
pushed start items new whole all here rest parts is h =
    ap (λ t. t ++ ended rest) is ∙ append_assoc items (ended here) (ended rest)
    ∙ ap (λ t. items ++ t) (sym (ended_append here rest))
    ∙ ap (λ ls. items ++ ended ls) (sym parts) ∙ h

-- no lines are left
pub all_pushed : (start items : Text) (whole rest : List Text) → rest ≡ [] → items ++ ended rest
    ≡ start ++ ended whole → items ≡ start ++ ended whole
all_pushed start items whole rest none h = sym (append-nil items)
    ∙ ap (λ ls. items ++ ended ls) (sym none) ∙ h

-- ---- blanks

pub blank_more : (count i : ℕ) → i < count → replicate {A = ℕ} (count - i) 32 ≡ 32
    ∷ replicate (count - (i + 1)) 32
blank_more count i l = ap (λ n. replicate {A = ℕ} n 32)
    (let e : count - i ≡ suc (count - (i + 1)) = omega (arith, l) in e)

pub blank_pushed : (start items new whole : Text) (count i : ℕ) → i < count → new ≡ items ++ 32
    ∷ [] → items ++ replicate (count - i) 32 ≡ start ++ whole → new
    ++ replicate (count - (i + 1)) 32 ≡ start ++ whole
blank_pushed start items new whole count i l is h =
    ap (λ t. t ++ replicate (count - (i + 1)) 32) is
    ∙ append_assoc items (32 ∷ []) (replicate (count - (i + 1)) 32)
    ∙ ap (λ t. items ++ t) (sym (blank_more count i l)) ∙ h

pub blanks_pushed : (start items whole : Text) (count i : ℕ) → count ≤ i → items
    ++ replicate (count - i) 32 ≡ start ++ whole → items ≡ start ++ whole
blanks_pushed start items whole count i l h = sym (append-nil items)
    ∙ ap (λ n. items ++ replicate n 32) (let e : 0 ≡ count - i = omega (arith, l) in e) ∙ h

-- ---- fields

pub field_long : (items new word : Text) (start g : ℕ) → start ≤ length items → new ≡ items
    ++ (replicate g 32 ++ word) → length new - start ≡ length items - start + g + length word
field_long items new word start g l is =
    omega (
      arith,
      l,
      ap length is,
      length-append items (replicate g 32 ++ word),
      length-append
          (replicate g 32) word,
      length-replicate {A = ℕ} g 32,
    )

pub field_pushed : (start : ℕ) (before items new whole word : Text) (column : ℕ)
    (rest : List (ℕ × Text)) → start ≤ length items → new ≡ items
    ++ (replicate (gap (length items - start) column) 32 ++ word)
    → items ++ spaced (fields_from (length items - start) ((column, word) ∷ rest)) ≡ before ++ whole
    → new ++ spaced (fields_from (length new - start) rest) ≡ before ++ whole
field_pushed start before items new whole word column rest l is h =
    let place = length items - start in
    let g = gap place column in
    let after = spaced (fields_from (place + g + length word) rest) in
    ap (λ n. new ++ spaced (fields_from n rest)) (field_long items new word start g l is)
    ∙ ap (λ t. t ++ after) is ∙ append_assoc items (replicate g 32 ++ word) after
    ∙ ap (λ t. items ++ t) (append_assoc (replicate g 32) word after) ∙ h

-- a line of its first field, its further fields and its line feed
pub line_pushed : (t0 t1 t2 t3 t4 word : Text) (column : ℕ) (rest : List (ℕ × Text)) → t1 ≡ t0
    ++ replicate (column - 1) 32 → t2 ≡ t1 ++ word → t3 ≡ t2
    ++ spaced (fields_from (length t2 - length t0) rest) → t4 ≡ t3 ++ 10 ∷ []
    → t4 ≡ t0 ++ ended (laid (column, word) rest ∷ [])
line_pushed t0 t1 t2 t3 t4 word column rest e1 e2 e3 e4 =
    let k = column - 1 in
    let after = spaced (fields_from (k + length word) rest) in
    let long : length t2 - length t0 ≡ k + length word =
    omega (
      arith,
      ap length e2,
      ap length e1,
      length-append t1 word,
      length-append t0
          (replicate k 32),
      length-replicate {A = ℕ} k 32,
    ) in
    e4 ∙ ap (λ t. t ++ 10 ∷ []) (e3 ∙ ap (λ n. t2 ++ spaced (fields_from n rest)) long
    ∙ ap (λ t. t ++ after) (e2 ∙ ap (λ t. t ++ word) e1)
    ∙ append_assoc (t0 ++ replicate k 32) word after
    ∙ append_assoc t0 (replicate k 32) (word ++ after))
    ∙ append_assoc t0 (replicate k 32 ++ (word ++ after)) (10 ∷ [])

pub field_room : (items new word : Text) (start g : ℕ) → start ≤ length items → new ≡ items
    ++ (replicate g 32 ++ word) → start ≤ length new
field_room items new word start g l is =
    omega (arith, l, ap length is, length-append items (replicate g 32 ++ word))

pub on_ok : {A E : Type 0} (r : Result A E) (P Q : Type 0) → (P → Q) → OnOk r P → OnOk r Q
on_ok (Ok x) P Q f h = f h
on_ok (Err e) P Q f h = tt

-- the lines of the amounts that are not zero
pub nonzero_step : (line : Amount → Text) (a : Amount) (amounts : List Amount)
    → map line (nonzero (a ∷ amounts)) ≡ map line (nonzero (a ∷ [])) ++ map line (nonzero amounts)
nonzero_step line a amounts = by (not (int_eq a.value (pos 0)))
  where
    by : (t : Bool) → map line (cond t (a ∷ nonzero amounts) (nonzero amounts))
        ≡ map line (cond t (a ∷ []) []) ++ map line (nonzero amounts)
    by true = refl
    by false = refl
