-- A walk over two lists that notes where they differ, and why no shorter list of entries does
-- the same.
use Rattle.std.proofs.Common.{◌≡◌, ℕ, zero, suc, ◌+◌, ◌<◌, ◌≤◌, List, [], ◌∷◌, ◌++◌, length}
use Rattle.std.proofs.Common.{get_or, drop, refl, ap, sym, ◌∙◌, subst, arith, append_assoc, Bool}
use Rattle.std.proofs.Common.{true, false, cond}
use Rattle.std.specs.Prelude.{All, slice_set}
use Rattle.std.proofs.lemmas.Bool.{cond-true, cond-false}
use Rattle.std.proofs.lemmas.List.{drop_more}
use Rattle.bl_mods.specs.declared.mods.Mod.{Mod}
use Rattle.bl_mods.specs.Mods.{written, differences, differences_from}

-- one more element in front, one less behind
pub pushed_rest : {X : Type 0} (front front' rest rest' whole : List X) (m : X) → front' ≡ front
    ++ m ∷ [] → rest ≡ m ∷ rest' → front ++ rest ≡ whole → front' ++ rest' ≡ whole
pushed_rest {X} front front' rest rest' whole m e f h =
    ap (λ (l : List X). l ++ rest') e
    ∙ (append_assoc front (m ∷ []) rest' ∙ (ap (λ (l : List X). front ++ l) (sym f) ∙ h))

-- what holds of each element, and of one more
pub all_push : {X : Type 0} (P : X → Type 0) (xs xs' : List X) (x : X) → xs' ≡ xs ++ x ∷ []
    → All P xs → P x → All P xs'
all_push {X} P xs xs' x e all p = subst (λ (l : List X). All P l) (sym e) (push xs all)
  where
    push : (ys : List X) → All P ys → All P (ys ++ x ∷ [])
    push [] a zero d h = p
    push [] a (suc k) d h = absurd (omega (arith, h))
    push (y ∷ ys) a zero d h = a 0 y (omega arith)
    push (y ∷ ys) a (suc k) d h =
        push ys (λ j f b. a (suc j) f (omega (arith, b))) k d (omega (arith, h))

pub all_weaker : {X : Type 0} (P Q : X → Type 0) (xs : List X) → ((x : X) → P x → Q x) → All P xs
    → All Q xs
all_weaker P Q xs f all k d h = f _ (all k d h)

pub diff_pushes : {T : Type 0} (same : T → T → Bool) (at : ℕ) (old new : List T) (x y : T) → at
    < length old → at < length new → x ≡ get_or old at x → y ≡ get_or new at y → same x y ≡ false
    → differences_from same at (drop at old) (drop at new) ≡ record { place = at; entry = y }
    ∷ differences_from same (at + 1) (drop (at + 1) old) (drop (at + 1) new)
diff_pushes {T} same at old new x y h k e f differ =
    let a : drop at old ≡ x ∷ drop (at + 1) old = drop_more old at x h
    ∙ ap (λ (z : T). z ∷ drop (at + 1) old) (sym e) in
    let b : drop at new ≡ y ∷ drop (at + 1) new = drop_more new at y k
    ∙ ap (λ (z : T). z ∷ drop (at + 1) new) (sym f) in
    ap (λ (l : List T). differences_from same at l (drop at new)) a
    ∙ (ap (λ (l : List T). differences_from same at (x ∷ drop (at + 1) old) l) b
    ∙ cond-false (same x y) _ _ differ)

pub diff_passes : {T : Type 0} (same : T → T → Bool) (at : ℕ) (old new : List T) (x y : T) → at
    < length old → at < length new → x ≡ get_or old at x → y ≡ get_or new at y → same x y ≡ true
    → differences_from same at (drop at old) (drop at new)
    ≡ differences_from same (at + 1) (drop (at + 1) old) (drop (at + 1) new)
diff_passes {T} same at old new x y h k e f equal =
    let a : drop at old ≡ x ∷ drop (at + 1) old = drop_more old at x h
    ∙ ap (λ (z : T). z ∷ drop (at + 1) old) (sym e) in
    let b : drop at new ≡ y ∷ drop (at + 1) new = drop_more new at y k
    ∙ ap (λ (z : T). z ∷ drop (at + 1) new) (sym f) in
    ap (λ (l : List T). differences_from same at l (drop at new)) a
    ∙ (ap (λ (l : List T). differences_from same at (x ∷ drop (at + 1) old) l) b
    ∙ cond-true (same x y) _ _ equal)

-- how many entries of two lists differ
abbrev pub unlike : {T : Type 0} → (T → T → Bool) → List T → List T → ℕ
unlike same [] new = 0
unlike same (x ∷ old) [] = 0
unlike same (x ∷ old) (y ∷ new) = cond (same x y) (unlike same old new) (suc (unlike same old new))

pub length_differences : {T : Type 0} (same : T → T → Bool) (at : ℕ) (old new : List T)
    → length (differences_from same at old new) ≡ unlike same old new
length_differences same at [] new = refl
length_differences same at (x ∷ old) [] = refl
length_differences {T} same at (x ∷ old) (y ∷ new) =
    by_case (same x y) (length_differences same (at + 1) old new)
  where
    by_case : (b : Bool) → length (differences_from same (at + 1) old new) ≡ unlike same old new
        → length (cond b (differences_from same (at + 1) old new)
        ((record { place = at; entry = y }) ∷ differences_from same (at + 1) old new))
        ≡ cond b (unlike same old new) (suc (unlike same old new))
    by_case true h = h
    by_case false h = ap suc h

pub unlike_self : {T : Type 0} (same : T → T → Bool) → ((x : T) → same x x ≡ true) → (xs : List T)
    → unlike same xs xs ≡ 0
unlike_self same r [] = refl
unlike_self same r (x ∷ xs) = cond-true (same x x) _ _ (r x) ∙ unlike_self same r xs

-- the two choices are at most one apart
one_apart : (b c : Bool) (n : ℕ) → cond b n (suc n) ≤ suc (cond c n (suc n))
one_apart true true n = omega arith
one_apart true false n = omega arith
one_apart false true n = omega arith
one_apart false false n = omega arith

more_apart : (b : Bool) (m n : ℕ) → m ≤ suc n → cond b m (suc m) ≤ suc (cond b n (suc n))
more_apart true m n h = h
more_apart false m n h = omega (arith, h)

-- a write changes one entry at most
unlike_set : {T : Type 0} (same : T → T → Bool) (old : List T) (i : ℕ) (v : T) (new : List T)
    → unlike same old new ≤ suc (unlike same (slice_set old i v) new)
unlike_set same [] i v new = omega arith
unlike_set same (x ∷ old) zero v [] = omega arith
unlike_set same (x ∷ old) (suc i) v [] = omega arith
unlike_set same (x ∷ old) zero v (y ∷ new) = one_apart (same x y) (same v y) (unlike same old new)
unlike_set same (x ∷ old) (suc i) v (y ∷ new) =
    more_apart (same x y) (unlike same old new) (unlike same (slice_set old i v) new)
    (unlike_set same old i v new)

pub unlike_written : {T : Type 0} (same : T → T → Bool) (mods : List (Mod T)) (old new : List T)
    → unlike same old new ≤ length mods + unlike same (written mods old) new
unlike_written same [] old new = omega arith
unlike_written same (m ∷ mods) old new =
    let one = unlike_set same old m.place m.entry new in
    let rest = unlike_written same mods (slice_set old m.place m.entry) new in
    omega (arith, one, rest)

pub differences_fewest : {T : Type 0} (same : T → T → Bool) → ((x : T) → same x x ≡ true)
    → (old new : List T) (others : List (Mod T)) → written others old ≡ new
    → length (differences same old new) ≤ length others
differences_fewest {T} same r old new others w =
    let count : length (differences same old new) ≡ unlike same old new =
    length_differences same 0 old new in
    let most : unlike same old new ≤ length others + unlike same (written others old) new =
    unlike_written same others old new in
    let none : unlike same (written others old) new ≡ 0 = ap (λ (l : List T). unlike same l new) w
    ∙ unlike_self same r new in
    omega (arith, count, most, none)
