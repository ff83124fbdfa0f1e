-- No change with the effect of the canonical difference has fewer entries.
use Rattle.std.proofs.Common.{◌≡◌, ◌≢◌, ℕ, suc, ◌+◌, ◌<◌, ◌≤◌, List, [], ◌∷◌, ◌++◌, length, refl}
use Rattle.std.proofs.Common.{ap, sym, ◌∙◌, subst, arith, append_assoc, length-append, Bool, true}
use Rattle.std.proofs.Common.{false, cond, inl, inr}
use Rattle.std.specs.Prelude.{replicate, ◌==◌, ◌||◌, AllPairs}
use Rattle.std.specs.Ordering.{int_eq}
use Rattle.std.specs.Cmp.{int_eq_equiv}
use Rattle.std.specs.List.{filter}
use Rattle.std.proofs.lemmas.Bool.{true≢false, or_from, cond-true, cond-false, or_left, or_parts}
use Rattle.std.proofs.lemmas.Bool.{eq-eqb, ne_eqb, cases_eq}
use Rattle.std.proofs.lemmas.List.{length-replicate, replicate-append-replicate, nil_from_length}
use Rattle.bl_mods.specs.declared.mods.Mod.{Mod}
use Rattle.bl_mods.specs.declared.mods.ListMods.{ListMods}
use Rattle.bl_mods.specs.declared.mods.ItemId.{ItemId}
use Rattle.bl_mods.specs.Mods.{differences, written, relisted, kept_from, is_among}
use Rattle.bl_mods.specs.Mods.{list_differences, has_id, same_id, gone_from, fresh_in}
use Rattle.bl_mods.specs.Mods.{IsPartThenFresh}
use Rattle.bl_mods.proofs.Diffing.{unlike, unlike_self, unlike_written, length_differences}
use Rattle.bl_mods.proofs.Diffing.{differences_fewest}
use Rattle.bl_mods.proofs.Differences.{length-kept_from}
use Rattle.bl_mods.proofs.Relisting.{Apart, Apart-from_pairs, same_id-self, lacks_kept, AllIn}
use Rattle.bl_mods.proofs.Relisting.{AllIn-self}
use Rattle.bl_mods.proofs.Differences.{gone_above, is_among-append, is_among-append_none}
use Rattle.bl_desc.specs.declared.desc.Status.{Status}
use Rattle.bl_desc.specs.declared.desc.Status.TheVariants.{AtLow}
use Rattle.bl_desc.specs.declared.desc.Desc.{Desc}
use Rattle.bl_desc.specs.Changes.{IsWhole, difference, same_status, cut_status_after}
use Rattle.bl_desc.specs.Weights.{IsFewest}
use Rattle.bl_desc.proofs.Canonical.{same_status-self}

-- how many places of a list are dropped
abbrev drops : {X : Type 0} → ℕ → List ℕ → List X → ℕ
drops at d [] = 0
drops at d (x ∷ xs) = cond (is_among at d) (suc (drops (at + 1) d xs)) (drops (at + 1) d xs)

drops_none : {X : Type 0} (at : ℕ) (xs : List X) → drops at [] xs ≡ 0
drops_none at [] = refl
drops_none at (x ∷ xs) = drops_none (at + 1) xs

drops_past : {X : Type 0} (at p : ℕ) (d : List ℕ) (xs : List X) → p < at → drops at (p ∷ d) xs
    ≡ drops at d xs
drops_past at p d [] h = refl
drops_past at p d (x ∷ xs) h =
    let e : (p == at) ≡ false = ne_eqb p at (λ q. omega (arith, q, h)) in
    ap (λ b. cond (b || is_among at d) (suc (drops (at + 1) (p ∷ d) xs))
    (drops (at + 1) (p ∷ d) xs)) e
    ∙ ap (λ (n : ℕ). cond (is_among at d) (suc n) n) (drops_past (at + 1) p d xs (omega (arith, h)))

one_more : (b : Bool) (m n : ℕ) → m ≤ suc n → cond b (suc m) m ≤ suc (cond b (suc n) n)
one_more true m n h = omega (arith, h)
one_more false m n h = h

at_least : (b : Bool) (n : ℕ) → n ≤ cond b (suc n) n
at_least true n = omega arith
at_least false n = omega arith

drops_more : {X : Type 0} (at p : ℕ) (d : List ℕ) (xs : List X) → drops at (p ∷ d) xs
    ≤ suc (drops at d xs)
drops_more at p d [] = omega arith
drops_more {X} at p d (x ∷ xs) =
    elim (cases_eq p at) [
      | inl e ↦ (let now : drops at (p ∷ d) (x ∷ xs) ≡ suc (drops (at + 1) (p ∷ d) xs) =
          cond-true (is_among at (p ∷ d)) _ _ (or_left (p == at) (is_among at d) (eq-eqb p at e)) in
          let past : drops (at + 1) (p ∷ d) xs ≡ drops (at + 1) d xs =
          drops_past (at + 1) p d xs (omega (arith, e)) in
          let least : drops (at + 1) d xs ≤ drops at d (x ∷ xs) =
          at_least (is_among at d) (drops (at + 1) d xs) in
          omega (arith, now, past, least))
      | inr differ ↦ (let other : (p == at) ≡ false = ne_eqb p at differ in
          let same : drops at (p ∷ d) (x ∷ xs)
          ≡ cond (is_among at d) (suc (drops (at + 1) (p ∷ d) xs)) (drops (at + 1) (p ∷ d) xs) =
          ap (λ b. cond (b || is_among at d) (suc (drops (at + 1) (p ∷ d) xs))
          (drops (at + 1) (p ∷ d) xs)) other in
          let most = one_more (is_among at d) (drops (at + 1) (p ∷ d) xs) (drops (at + 1) d xs)
          (drops_more (at + 1) p d xs) in
          subst (λ (n : ℕ). n ≤ suc (drops at d (x ∷ xs))) (sym same) most)
    ]

-- each dropped place has an entry
drops_most : {X : Type 0} (at : ℕ) (d : List ℕ) (xs : List X) → drops at d xs ≤ length d
drops_most at [] xs = let e = drops_none at xs in omega (arith, e)
drops_most at (p ∷ d) xs =
    let more = drops_more at p d xs in
    let rest = drops_most at d xs in
    omega (arith, more, rest)

-- how many items of a list fail a test
abbrev lacking : {X : Type 0} → (X → Bool) → List X → ℕ
lacking p [] = 0
lacking p (x ∷ xs) = cond (p x) (lacking p xs) (suc (lacking p xs))

-- the entries beside the items that pass
abbrev beside : {X Y : Type 0} → (X → Bool) → List X → List Y → List Y
beside p [] ys = []
beside p (x ∷ xs) [] = []
beside p (x ∷ xs) (y ∷ ys) = cond (p x) (y ∷ beside p xs ys) (beside p xs ys)

length_beside : {X Y : Type 0} (p : X → Bool) (xs : List X) (ys : List Y) → length ys ≡ length xs
    → length (beside p xs ys) ≡ length (filter p xs)
length_beside p [] ys e = refl
length_beside p (x ∷ xs) [] e = absurd (omega (arith, e))
length_beside {X} {Y} p (x ∷ xs) (y ∷ ys) e =
    by_case (p x) (length_beside p xs ys (omega (arith, e)))
  where
    by_case : (b : Bool) → length (beside p xs ys) ≡ length (filter p xs)
        → length (cond b (y ∷ beside p xs ys) (beside p xs ys))
        ≡ length (cond b (x ∷ filter p xs) (filter p xs))
    by_case true h = ap suc h
    by_case false h = h

lacking_rest : {X : Type 0} (p : X → Bool) (xs : List X) → lacking p xs + length (filter p xs)
    ≡ length xs
lacking_rest p [] = refl
lacking_rest {X} p (x ∷ xs) = by_case (p x) (lacking_rest p xs)
  where
    by_case : (b : Bool) → lacking p xs + length (filter p xs) ≡ length xs
        → cond b (lacking p xs) (suc (lacking p xs))
        + length (cond b (x ∷ filter p xs) (filter p xs)) ≡ suc (length xs)
    by_case true h = omega (arith, h)
    by_case false h = omega (arith, h)

drops_all : {X : Type 0} (at : ℕ) (d : List ℕ) (xs : List X) → kept_from at d xs ≡ []
    → drops at d xs ≡ length xs
drops_all at d [] e = refl
drops_all {X} at d (x ∷ xs) e = by_case (is_among at d) (λ f. drops_all (at + 1) d xs f) e
  where
    by_case : (b : Bool) → (kept_from (at + 1) d xs ≡ [] → drops (at + 1) d xs ≡ length xs)
        → cond b (kept_from (at + 1) d xs) (x ∷ kept_from (at + 1) d xs) ≡ []
        → cond b (suc (drops (at + 1) d xs)) (drops (at + 1) d xs) ≡ suc (length xs)
    by_case true f g = ap suc (f g)
    by_case false f g = cc

module _ {T : Type 0} (same : T → T → Bool) where
  unlike_nil : (xs : List T) → unlike same xs [] ≡ 0
  unlike_nil [] = refl
  unlike_nil (x ∷ xs) = refl

  -- entries in front make a difference of one each at most
  unlike_front : (xs ys zs t : List T) → length xs ≡ length ys → unlike same (xs ++ zs) t
      ≤ length xs + unlike same (ys ++ zs) t
  unlike_front [] [] zs t e = omega arith
  unlike_front [] (y ∷ ys) zs t e = absurd (omega (arith, e))
  unlike_front (x ∷ xs) [] zs t e = absurd (omega (arith, e))
  unlike_front (x ∷ xs) (y ∷ ys) zs [] e = omega arith
  unlike_front (x ∷ xs) (y ∷ ys) zs (u ∷ t) e =
      by_case (same x u) (same y u) (unlike_front xs ys zs t (omega (arith, e)))
    where
      by_case : (b c : Bool) → unlike same (xs ++ zs) t ≤ length xs + unlike same (ys ++ zs) t
          → cond b (unlike same (xs ++ zs) t) (suc (unlike same (xs ++ zs) t)) ≤ suc (length xs)
          + cond c (unlike same (ys ++ zs) t) (suc (unlike same (ys ++ zs) t))
      by_case true true h = omega (arith, h)
      by_case true false h = omega (arith, h)
      by_case false true h = omega (arith, h)
      by_case false false h = omega (arith, h)

  -- one more equal entry in front on both sides
  unlike_both : (m n : ℕ) (s : T) (xs ys t : List T)
      → ((u : List T) → m + unlike same xs u ≤ n + unlike same ys u) → m + unlike same (s ∷ xs) t
      ≤ n + unlike same (s ∷ ys) t
  unlike_both m n s xs ys [] h =
      let a = h [] in
      let b = unlike_nil xs in
      let c = unlike_nil ys in
      omega (arith, a, b, c)
  unlike_both m n s xs ys (u ∷ t) h = by_case (same s u) (h t)
    where
      by_case : (b : Bool) → m + unlike same xs t ≤ n + unlike same ys t
          → m + cond b (unlike same xs t) (suc (unlike same xs t)) ≤ n
          + cond b (unlike same ys t) (suc (unlike same ys t))
      by_case true k = k
      by_case false k = omega (arith, k)

  -- everything is dropped and added anew: no fewer entries than keeping what stays
  anew : (lost k f : ℕ) (s low : T) (xs t : List T) → length xs ≡ k
      → lost + f + unlike same (s ∷ (xs ++ replicate f low)) t ≤ suc (lost + k) + suc (k + f)
      + unlike same (replicate (suc (k + f)) low) t
  anew lost k f s low xs t e =
      let len : length (s ∷ xs) ≡ length (replicate (suc k) low) =
      omega (arith, e, length-replicate (suc k) low) in
      let front = unlike_front (s ∷ xs) (replicate (suc k) low) (replicate f low) t len in
      let joined : replicate (suc k) low ++ replicate f low ≡ replicate (suc k + f) low =
      replicate-append-replicate (suc k) f low in
      let total : suc k + f ≡ suc (k + f) = omega arith in
      let all : unlike same (replicate (suc k) low ++ replicate f low) t
      ≡ unlike same (replicate (suc (k + f)) low) t =
      ap (λ (l : List T). unlike same l t) (joined ∙ ap (λ (n : ℕ). replicate n low) total) in
      omega (arith, e, front, all)

abbrev AllPass : {X : Type 0} → (X → Bool) → List X → Type 0
AllPass p [] = Unit {0}
AllPass p (x ∷ xs) = (p x ≡ true) × AllPass p xs

-- a kept list that doesn't have the first item is empty, and all is added
head_anew : {X : Type 0} (id_of : X → ItemId) (k added rest : List X) (x : X)
    → has_id id_of (id_of x) k ≡ false → x ∷ rest ≡ k ++ added → (k ≡ []) × (added ≡ x ∷ rest)
head_anew id_of [] added rest x h e = (refl, sym e)
head_anew {X} id_of (y ∷ k) added rest x h e =
    let first : x ≡ y = cc in
    let parts = or_parts (same_id (id_of y) (id_of x)) (has_id id_of (id_of x) k) h in
    let same : same_id (id_of y) (id_of x) ≡ true =
    subst (λ (z : X). same_id (id_of z) (id_of x) ≡ true) first (same_id-self (id_of x)) in
    absurd (true≢false (sym same ∙ parts.0))

claim : {T X : Type 0} (same : T → T → Bool) (id_of : X → ItemId) (p : X → Bool) (low : T)
    (at : ℕ) (d : List ℕ) (old : List X) (sts : List T) (fresh added : List X)
    → length sts ≡ length old → Apart id_of old → AllPass p (filter p old ++ fresh) → filter p old
    ++ fresh ≡ kept_from at d old ++ added → (t : List T)
    → lacking p old + length fresh + unlike same (beside p old sts
    ++ replicate (length fresh) low) t ≤ drops at d old + length added
    + unlike same (kept_from at d sts ++ replicate (length added) low) t
claim {T} {X} same id_of p low at d [] [] fresh added len apart all e t =
    let n : length fresh ≡ length added = ap length e in
    let u : unlike same (replicate (length fresh) low) t
    ≡ unlike same (replicate (length added) low) t =
    ap (λ (k : ℕ). unlike same (replicate k low) t) n in
    omega (arith, n, u)
claim same id_of p low at d [] (s ∷ sts) fresh added len apart all e t = absurd (omega (arith, len))
claim same id_of p low at d (x ∷ old) [] fresh added len apart all e t = absurd (omega (arith, len))
claim {T} {X} same id_of p low at d (x ∷ old) (s ∷ sts) fresh added len apart all e t =
    by_case (p x) (is_among at d) (claim same id_of p low (at + 1) d old sts fresh added
    (omega (arith, len)) apart.1) refl all e
  where
    shorter : length sts ≡ length old
    shorter = omega (arith, len)

    by_case : (b c : Bool) → (AllPass p (filter p old ++ fresh) → filter p old ++ fresh
        ≡ kept_from (at + 1) d old ++ added → (u : List T)
        → lacking p old + length fresh + unlike same (beside p old sts
        ++ replicate (length fresh) low) u ≤ drops (at + 1) d old + length added
        + unlike same (kept_from (at + 1) d sts ++ replicate (length added) low) u)
        → p x ≡ b → AllPass p (cond b (x ∷ filter p old) (filter p old) ++ fresh)
        → cond b (x ∷ filter p old) (filter p old) ++ fresh
        ≡ cond c (kept_from (at + 1) d old) (x ∷ kept_from (at + 1) d old) ++ added
        → cond b (lacking p old) (suc (lacking p old)) + length fresh
        + unlike same (cond b (s ∷ beside p old sts) (beside p old sts)
        ++ replicate (length fresh) low) t
        ≤ cond c (suc (drops (at + 1) d old)) (drops (at + 1) d old) + length added
        + unlike same (cond c (kept_from (at + 1) d sts) (s ∷ kept_from (at + 1) d sts)
        ++ replicate (length added) low) t
    by_case true false ih q a g =
        let tails : filter p old ++ fresh ≡ kept_from (at + 1) d old ++ added = cc in
        unlike_both same (lacking p old + length fresh) (drops (at + 1) d old + length added) s
        (beside p old sts ++ replicate (length fresh) low)
        (kept_from (at + 1) d sts ++ replicate (length added) low) t (ih a.1 tails)
    by_case false true ih q a g = let h = ih a g t in omega (arith, h)
    by_case false false ih q a g =
        let pass : AllPass p (x ∷ (kept_from (at + 1) d old ++ added)) =
        subst (λ (l : List X). AllPass p l) g a in
        absurd (true≢false (sym pass.0 ∙ q))
    by_case true true ih q a g =
        let none = head_anew id_of (kept_from (at + 1) d old) added (filter p old ++ fresh) x
        (lacks_kept id_of (id_of x) (at + 1) d old apart.0) g in
        let gone : drops (at + 1) d old ≡ length old = drops_all (at + 1) d old none.0 in
        let empty : kept_from (at + 1) d sts ≡ [] =
        nil_from_length (kept_from (at + 1) d sts)
        (length-kept_from (at + 1) d sts old shorter ∙ ap length none.0) in
        let n : length added ≡ suc (length (filter p old) + length fresh) = ap length none.1
        ∙ ap suc (length-append (filter p old) fresh) in
        let lists : kept_from (at + 1) d sts ++ replicate (length added) low
        ≡ replicate (suc (length (filter p old) + length fresh)) low =
        ap (λ (l : List T). l ++ replicate (length added) low) empty
        ∙ ap (λ (m : ℕ). replicate m low) n in
        let u : unlike same (kept_from (at + 1) d sts ++ replicate (length added) low) t
        ≡ unlike same (replicate (suc (length (filter p old) + length fresh)) low) t =
        ap (λ (l : List T). unlike same l t) lists in
        let most = anew same (lacking p old) (length (filter p old)) (length fresh) s low
        (beside p old sts) t (length_beside p old sts shorter) in
        let rest = lacking_rest p old in
        omega (arith, gone, n, u, most, rest)

pass_from : {X : Type 0} (id_of : X → ItemId) (old ys : List X) → AllIn id_of true old ys
    → AllPass (λ y. has_id id_of (id_of y) old) ys
pass_from id_of old [] a = tt
pass_from id_of old (y ∷ ys) a = (a.0, pass_from id_of old ys a.1)

length_gone : {X : Type 0} (id_of : X → ItemId) (at : ℕ) (old new : List X)
    → length (gone_from id_of at old new) ≡ lacking (λ y. has_id id_of (id_of y) new) old
length_gone id_of at [] new = refl
length_gone {X} id_of at (x ∷ old) new =
    by_case (has_id id_of (id_of x) new) (length_gone id_of (at + 1) old new)
  where
    l : ℕ
    l = lacking (λ y. has_id id_of (id_of y) new) old

    by_case : (b : Bool) → length (gone_from id_of (at + 1) old new)
        ≡ lacking (λ y. has_id id_of (id_of y) new) old
        → length (cond b (gone_from id_of (at + 1) old new)
        (at ∷ gone_from id_of (at + 1) old new))
        ≡ cond b (lacking (λ y. has_id id_of (id_of y) new) old)
        (suc (lacking (λ y. has_id id_of (id_of y) new) old))
    by_case true h = h
    by_case false h = ap suc h

-- the entries beside the items that stay are kept
kept_beside : {X T : Type 0} (id_of : X → ItemId) (front : List ℕ) (at : ℕ) (old new : List X)
    (sts : List T) → length sts ≡ length old → ((k : ℕ) → at ≤ k → is_among k front ≡ false)
    → kept_from at (front ++ gone_from id_of at old new) sts
    ≡ beside (λ y. has_id id_of (id_of y) new) old sts
kept_beside id_of front at [] new [] len none = refl
kept_beside id_of front at [] new (s ∷ sts) len none = absurd (omega (arith, len))
kept_beside id_of front at (x ∷ old) new [] len none = refl
kept_beside {X} {T} id_of front at (x ∷ old) new (s ∷ sts) len none =
    by_case (has_id id_of (id_of x) new)
    (kept_beside id_of front (at + 1) old new sts shorter (λ k h. none k (omega (arith, h))))
    (kept_beside id_of (front ++ at ∷ []) (at + 1) old new sts shorter
    (λ k h. is_among-append_none k front (at ∷ []) (none k (omega (arith, h)))
    (or_from (at == k) false (ne_eqb at k (λ e. omega (arith, e, h))) refl)))
  where
    shorter : length sts ≡ length old
    shorter = omega (arith, len)

    fit : List T
    fit = beside (λ y. has_id id_of (id_of y) new) old sts

    gone : List ℕ
    gone = gone_from id_of (at + 1) old new

    by_case : (b : Bool) → kept_from (at + 1) (front ++ gone) sts ≡ fit
        → kept_from (at + 1) ((front ++ at ∷ []) ++ gone) sts ≡ fit
        → kept_from at (front ++ cond b gone (at ∷ gone)) (s ∷ sts) ≡ cond b (s ∷ fit) fit
    by_case true here there =
        let out : is_among at (front ++ gone) ≡ false =
        is_among-append_none at front gone (none at (omega arith))
        (gone_above id_of (at + 1) at old new (omega arith)) in
        cond-false (is_among at (front ++ gone)) (kept_from (at + 1) (front ++ gone) sts)
        (s ∷ kept_from (at + 1) (front ++ gone) sts) out ∙ ap (λ l. s ∷ l) here
    by_case false here there =
        let inn : is_among at (front ++ at ∷ gone) ≡ true =
        is_among-append at front (at ∷ gone) (none at (omega arith))
        ∙ or_left (at == at) (is_among at gone) (eq-eqb at at refl) in
        cond-true (is_among at (front ++ at ∷ gone)) (kept_from (at + 1) (front ++ at ∷ gone) sts)
        (s ∷ kept_from (at + 1) (front ++ at ∷ gone) sts) inn
        ∙ (ap (λ ds. kept_from (at + 1) ds sts) (sym (append_assoc front (at ∷ []) gone)) ∙ there)

-- the entries of the three lists of cuts
fewest_of_cuts : {X : Type 0} (id_of : X → ItemId) (old new : List X) (sts t : List Status)
    (mods : ListMods X) (fresh : List (Mod Status)) → length sts ≡ length old
    → Apart id_of old → IsPartThenFresh id_of old new → relisted mods old ≡ new
    → written fresh (cut_status_after mods sts) ≡ t
    → length (gone_from id_of 0 old new) + length (fresh_in id_of old new)
    + length (differences same_status (cut_status_after (list_differences id_of old new) sts) t)
    ≤ length mods.dropped + length mods.added + length fresh
fewest_of_cuts {X} id_of old new sts t mods fresh len apart part e w =
    let p : X → Bool = λ y. has_id id_of (id_of y) new in
    let pass : AllPass p (filter p old ++ fresh_in id_of old new) =
    subst (λ (l : List X). AllPass p l) part (pass_from id_of new new (AllIn-self id_of new)) in
    let main = claim same_status id_of p AtLow 0 mods.dropped old sts (fresh_in id_of old new)
    mods.added len apart pass (sym part ∙ sym e) t in
    let gone : length (gone_from id_of 0 old new) ≡ lacking p old = length_gone id_of 0 old new in
    let left : kept_from 0 (gone_from id_of 0 old new) sts ≡ beside p old sts =
    kept_beside id_of [] 0 old new sts len (λ k h. refl) in
    let count : length
    (differences same_status (cut_status_after (list_differences id_of old new) sts) t)
    ≡ unlike same_status (beside p old sts ++ replicate (length (fresh_in id_of old new))
    AtLow) t =
    length_differences same_status 0 (cut_status_after (list_differences id_of old new) sts) t
    ∙ ap (λ (l : List Status). unlike same_status
    (l ++ replicate (length (fresh_in id_of old new)) AtLow) t) left in
    let most = drops_most 0 mods.dropped old in
    let writes : unlike same_status (cut_status_after mods sts) t ≤ length fresh
    + unlike same_status (written fresh (cut_status_after mods sts)) t =
    unlike_written same_status fresh (cut_status_after mods sts) t in
    let none : unlike same_status (written fresh (cut_status_after mods sts)) t ≡ 0 =
    ap (λ (l : List Status). unlike same_status l t) w
    ∙ unlike_self same_status same_status-self t in
    omega (arith, main, gone, count, most, writes, none)

pub difference_fewest : {C : Type 0} (id_of : C → ItemId) (p c : Desc C) → IsWhole p
    → AllPairs (λ a b. id_of a ≢ id_of b) p.cuts → IsPartThenFresh id_of p.cuts c.cuts
    → IsFewest (difference id_of p c) p c
difference_fewest {C} id_of p c whole pairs part other e =
    let lows = differences_fewest int_eq int_eq_equiv.refl p.lows c.lows other.lows
    (ap (λ (d : Desc C). d.lows) e) in
    let highs = differences_fewest int_eq int_eq_equiv.refl p.highs c.highs other.highs
    (ap (λ (d : Desc C). d.highs) e) in
    let columns = differences_fewest same_status same_status-self p.column_status c.column_status
    other.columns (ap (λ (d : Desc C). d.column_status) e) in
    let rows = differences_fewest same_status same_status-self p.row_status c.row_status
    other.rows (ap (λ (d : Desc C). d.row_status) e) in
    let cuts = fewest_of_cuts id_of p.cuts c.cuts p.cut_status c.cut_status other.cuts other.fresh
    whole.cuts (Apart-from_pairs id_of p.cuts pairs) part
    (ap (λ (d : Desc C). d.cuts) e) (ap (λ (d : Desc C). d.cut_status) e) in
    omega (arith, lows, highs, columns, rows, cuts)
