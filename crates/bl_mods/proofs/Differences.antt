-- Writing the differences of two lists gives the new one.
use Rattle.std.proofs.Common.{◌≡◌, ℕ, suc, ◌+◌, ◌<◌, ◌≤◌, List, [], ◌∷◌, ◌++◌, length, refl, ap}
use Rattle.std.proofs.Common.{sym, ◌∙◌, subst, arith, append_assoc, length-append, Bool, true}
use Rattle.std.proofs.Common.{false, cond}
use Rattle.std.specs.Prelude.{slice_set, ◌==◌, ◌||◌}
use Rattle.std.specs.List.{filter}
use Rattle.std.proofs.lemmas.Bool.{or_left, or_parts, or_from, cond-true, cond-false, eq-eqb}
use Rattle.std.proofs.lemmas.Bool.{ne_eqb}
use Rattle.bl_mods.specs.declared.mods.ItemId.{ItemId}
use Rattle.bl_mods.specs.Mods.{written, differences, differences_from, kept_from, is_among}
use Rattle.bl_mods.specs.Mods.{relisted, list_differences, has_id, gone_from, fresh_in}
use Rattle.bl_mods.specs.Mods.{IsPartThenFresh}

set_after : {T : Type 0} (front : List T) (x y : T) (rest : List T)
    → slice_set (front ++ x ∷ rest) (length front) y ≡ front ++ y ∷ rest
set_after [] x y rest = refl
set_after (z ∷ front) x y rest = ap (λ l. z ∷ l) (set_after front x y rest)

written_from : {T : Type 0} (same : T → T → Bool) → ((x y : T) → same x y ≡ true → x ≡ y)
    → (front old new : List T) → length old ≡ length new
    → written (differences_from same (length front) old new) (front ++ old) ≡ front ++ new
written_from same sound front [] [] e = refl
written_from same sound front [] (y ∷ new) e = cc
written_from same sound front (x ∷ old) [] e = cc
written_from {T} same sound front (x ∷ old) (y ∷ new) e =
    let len : length old ≡ length new = omega (arith, e) in
    let at : length (front ++ y ∷ []) ≡ length front + 1 = length-append front (y ∷ []) in
    let rest = written_from same sound (front ++ y ∷ []) old new len in
    let goal_rest : written (differences_from same (length front + 1) old new) (front ++ y ∷ old)
    ≡ front ++ y ∷ new =
    subst (λ (n : ℕ). written (differences_from same n old new) (front ++ y ∷ old) ≡ front ++ y
    ∷ new) at
    (subst (λ (l : List T). written (differences_from same (length (front ++ y ∷ [])) old new) l
    ≡ front ++ y ∷ new) (append_assoc front (y ∷ []) old)
    (rest ∙ append_assoc front (y ∷ []) new)) in
    by_case (same x y) refl goal_rest
  where
    by_case : (b : Bool) → same x y ≡ b
        → written (differences_from same (length front + 1) old new) (front ++ y ∷ old) ≡ front
        ++ y ∷ new
        → written (cond b (differences_from same (length front + 1) old new)
        ((record { place = length front; entry = y })
        ∷ differences_from same (length front + 1) old new)) (front ++ x ∷ old) ≡ front ++ y
        ∷ new
    by_case true s h =
        subst (λ (z : T). written (differences_from same (length front + 1) old new)
        (front ++ z ∷ old) ≡ front ++ y ∷ new) (sym (sound x y s)) h
    by_case false s h = ap (written (differences_from same (length front + 1) old new))
        (set_after front x y old) ∙ h

pub written-differences : {T : Type 0} (same : T → T → Bool)
    → ((x y : T) → same x y ≡ true → x ≡ y) → (old new : List T) → length old ≡ length new
    → written (differences same old new) old ≡ new
written-differences same sound old new e = written_from same sound [] old new e

pub is_among-append : (k : ℕ) (a b : List ℕ) → is_among k a ≡ false → is_among k (a ++ b)
    ≡ is_among k b
is_among-append k [] b h = refl
is_among-append k (x ∷ a) b h =
    let parts = or_parts (x == k) (is_among k a) h in
    ap (λ t. t || is_among k (a ++ b)) parts.0 ∙ is_among-append k a b parts.1

pub is_among-append_none : (k : ℕ) (a b : List ℕ) → is_among k a ≡ false → is_among k b ≡ false
    → is_among k (a ++ b) ≡ false
is_among-append_none k a b h g = is_among-append k a b h ∙ g

pub gone_above : {C : Type 0} (id_of : C → ItemId) (at k : ℕ) (old new : List C) → k < at
    → is_among k (gone_from id_of at old new) ≡ false
gone_above id_of at k [] new h = refl
gone_above id_of at k (x ∷ old) new h =
    let rest : is_among k (gone_from id_of (at + 1) old new) ≡ false =
    gone_above id_of (at + 1) k old new (omega (arith, h)) in
    let other : (at == k) ≡ false = ne_eqb at k (λ e. omega (arith, e, h)) in
    by_case (has_id id_of (id_of x) new) rest other
  where
    by_case : (b : Bool) → is_among k (gone_from id_of (at + 1) old new) ≡ false → (at == k) ≡ false
        → is_among k (cond b (gone_from id_of (at + 1) old new)
        (at ∷ gone_from id_of (at + 1) old new)) ≡ false
    by_case true r o = r
    by_case false r o = or_from (at == k) (is_among k (gone_from id_of (at + 1) old new)) o r

-- the dropped places are those of the items that the new list lacks
pub kept_from-gone : {C : Type 0} (id_of : C → ItemId) (front : List ℕ) (at : ℕ)
    (old new : List C) → ((k : ℕ) → at ≤ k → is_among k front ≡ false)
    → kept_from at (front ++ gone_from id_of at old new) old
    ≡ filter (λ x. has_id id_of (id_of x) new) old
kept_from-gone id_of front at [] new none = refl
kept_from-gone {C} id_of front at (x ∷ old) new none =
    by_case (has_id id_of (id_of x) new)
    (kept_from-gone id_of front (at + 1) old new (λ k h. none k (omega (arith, h))))
    (kept_from-gone id_of (front ++ at ∷ []) (at + 1) old new
    (λ k h. is_among-append_none k front (at ∷ []) (none k (omega (arith, h)))
    (or_from (at == k) false (ne_eqb at k (λ e. omega (arith, e, h))) refl)))
  where
    fit : List C
    fit = filter (λ x. has_id id_of (id_of x) new) old

    gone : List ℕ
    gone = gone_from id_of (at + 1) old new

    by_case : (b : Bool) → kept_from (at + 1) (front ++ gone) old ≡ fit
        → kept_from (at + 1) ((front ++ at ∷ []) ++ gone) old ≡ fit
        → kept_from at (front ++ cond b gone (at ∷ gone)) (x ∷ old) ≡ cond b (x ∷ fit) fit
    by_case true here there =
        let out : is_among at (front ++ gone) ≡ false =
        is_among-append_none at front gone (none at (omega arith))
        (gone_above id_of (at + 1) at old new (omega arith)) in
        cond-false (is_among at (front ++ gone)) (kept_from (at + 1) (front ++ gone) old)
        (x ∷ kept_from (at + 1) (front ++ gone) old) out ∙ ap (λ l. x ∷ l) here
    by_case false here there =
        let inn : is_among at (front ++ at ∷ gone) ≡ true =
        is_among-append at front (at ∷ gone) (none at (omega arith))
        ∙ or_left (at == at) (is_among at gone) (eq-eqb at at refl) in
        cond-true (is_among at (front ++ at ∷ gone)) (kept_from (at + 1) (front ++ at ∷ gone) old)
        (x ∷ kept_from (at + 1) (front ++ at ∷ gone) old) inn
        ∙ (ap (λ ds. kept_from (at + 1) ds old) (sym (append_assoc front (at ∷ []) gone)) ∙ there)

pub relisted-differences : {C : Type 0} (id_of : C → ItemId) (old new : List C)
    → IsPartThenFresh id_of old new → relisted (list_differences id_of old new) old ≡ new
relisted-differences id_of old new h =
    ap (λ l. l ++ fresh_in id_of old new) (kept_from-gone id_of [] 0 old new (λ k _. refl)) ∙ sym h

pub length-kept_from : {X Y : Type 0} (at : ℕ) (dropped : List ℕ) (xs : List X) (ys : List Y)
    → length xs ≡ length ys → length (kept_from at dropped xs) ≡ length (kept_from at dropped ys)
length-kept_from at dropped [] [] e = refl
length-kept_from at dropped [] (y ∷ ys) e = absurd (omega (arith, e))
length-kept_from at dropped (x ∷ xs) [] e = absurd (omega (arith, e))
length-kept_from {X} {Y} at dropped (x ∷ xs) (y ∷ ys) e =
    let len : length xs ≡ length ys = omega (arith, e) in
    by_case (is_among at dropped) (length-kept_from (at + 1) dropped xs ys len)
  where
    by_case : (b : Bool) → length (kept_from (at + 1) dropped xs)
        ≡ length (kept_from (at + 1) dropped ys)
        → length (cond b (kept_from (at + 1) dropped xs) (x ∷ kept_from (at + 1) dropped xs))
        ≡ length (cond b (kept_from (at + 1) dropped ys) (y ∷ kept_from (at + 1) dropped ys))
    by_case true h = h
    by_case false h = ap suc h
