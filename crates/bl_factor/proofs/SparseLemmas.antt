-- Entries by rising place.
use Rattle.std.proofs.Common.{◌≡◌, ◌≢◌, ℕ, zero, suc, ◌+◌, ◌<◌, ◌≤◌, Bool, false, List, [], ◌∷◌}
use Rattle.std.proofs.Common.{◌++◌, length, set, get_or, take, nat_eq, if◌then◌else◌, refl, sym}
use Rattle.std.proofs.Common.{ap, inl, inr, ◌∙◌, subst, arith}
use Rattle.std.proofs.lemmas.List.{length-set, take_more}
use Rattle.std.proofs.lemmas.Bool.{cases_eq, cases_lt, eq-eqb}
use Rattle.bl_factor.proofs.Columns.{at-set}
use Rattle.std.proofs.lemmas.Bool.Decides.{nat_tests, eqb_tells}
use Rattle.bl_fixed.specs.declared.Fixed.{Fixed}
use Rattle.bl_factor.specs.declared.sparse.Entry.{Entry}
use Rattle.bl_factor.specs.Vectors.{nought, is_nought, at}
use Rattle.std.specs.List.{fold}
use Rattle.bl_fixed.specs.Fixed.{saturated_difference, saturated_product}
use Rattle.bl_factor.specs.Elimination.{less_multiple, taken_off}
use Rattle.bl_factor.specs.Sparse.{IsSparse, value_at, AreBeside}

-- outside of the entries' range the column is 0
pub value_at-below : (low n : ℕ) (es : List Entry) (i : ℕ) → IsSparse low n es → i < low
    → value_at es i ≡ nought
value_at-below low n [] i s h = refl
value_at-below low n (e ∷ es) i s h =
    let later = value_at-below (suc e.place) n es i s.3 (omega (arith, s.0)) in
    let p = s.0 in
    grind (arith, nat_tests)

pub value_at-past : (low n : ℕ) (es : List Entry) (i : ℕ) → IsSparse low n es → n ≤ i
    → value_at es i ≡ nought
value_at-past low n [] i s h = refl
value_at-past low n (e ∷ es) i s h =
    let later = value_at-past (suc e.place) n es i s.3 h in
    let p = s.1 in
    grind (arith, nat_tests)

-- one more entry at the end
pub IsSparse-push : (low m n : ℕ) (es : List Entry) (e : Entry) → IsSparse low m es → low
    ≤ e.place → m ≤ e.place → e.place < n → is_nought e.value ≡ false
    → IsSparse low n (es ++ e ∷ [])
IsSparse-push low m n [] e s a b c d = (a, c, d, tt)
IsSparse-push low m n (x ∷ es) e s a b c d = (
  s.0,
  omega (arith, s.1),
  s.2,
  IsSparse-push (suc x.place) m n es e s.3 (omega (arith, s.1)) b
      c d,
)

pub value_at-push : (low m : ℕ) (es : List Entry) (e : Entry) (i : ℕ) → IsSparse low m es → m
    ≤ e.place → value_at (es ++ e ∷ []) i ≡ (if nat_eq e.place i then e.value else value_at es i)
value_at-push low m [] e i s h = refl
value_at-push low m (x ∷ es) e i s h =
    let later = value_at-push (suc x.place) m es e i s.3 h in
    let p = s.1 in
    grind (arith, nat_tests)

pub IsSparse-weaker : (low m n : ℕ) (es : List Entry) → IsSparse low m es → m ≤ n
    → IsSparse low n es
IsSparse-weaker low m n [] s h = tt
IsSparse-weaker low m n (e ∷ es) s h =
    (s.0, omega (arith, s.1), s.2, IsSparse-weaker (suc e.place) m n es s.3 h)

-- an entry, and those before it
pub record IsNext (low n : ℕ) (es : List Entry) (e : Entry) : Type 0 where
  pub before : IsSparse low e.place es
  pub from : low ≤ e.place
  pub below : e.place < n
  pub filled : is_nought e.value ≡ false

pub next_entry : (low n : ℕ) (es : List Entry) (i : ℕ) (d : Entry) → IsSparse low n es → i
    < length es → IsNext low n (take i es) (get_or es i d)
next_entry low n [] i d s h = absurd (omega arith)
next_entry low n (e ∷ es) zero d s h = record { before = tt; from = s.0; below = s.1; filled = s.2 }
next_entry low n (e ∷ es) (suc i) d s h =
    let later = next_entry (suc e.place) n es i d s.3 (omega arith) in
    record {
      before = (s.0, omega (arith, later.from), s.2, later.before);
      from = omega (arith, s.0, later.from);
      below = later.below;
      filled = later.filled;
    }

-- ---- a product of entries and numbers, taken off from left to right
abbrev pub less_entry : List Fixed → Fixed → Entry → Fixed
less_entry xs rest e = saturated_difference rest (saturated_product e.value (at xs e.place))

pub less_multiple-nought : (x c q : Fixed) → c ≡ nought → less_multiple x c q ≡ x
unfolding less_multiple
less_multiple-nought x c q e = ap (λ (z : Fixed). if is_nought z then x
    else saturated_difference x (saturated_product z q)) e

pub less_multiple-filled : (x c q : Fixed) → is_nought c ≡ false → less_multiple x c q
    ≡ saturated_difference x (saturated_product c q)
unfolding less_multiple
less_multiple-filled x c q e =
    ap (λ (t : Bool). if t then x else saturated_difference x (saturated_product c q)) e

pub value_at-first : (x : Entry) (es : List Entry) (i : ℕ) → x.place ≡ i → value_at (x ∷ es) i
    ≡ x.value
value_at-first x es i p = let t =
    eq-eqb x.place i p in ap (λ (b : Bool). if b then x.value else value_at es i) t

pub value_at-later : (x : Entry) (es : List Entry) (i : ℕ) → x.place < i → value_at (x ∷ es) i
    ≡ value_at es i
value_at-later x es i p = grind (arith, nat_tests)

pub taken_off-entries : (low k n : ℕ) (es : List Entry) (c : ℕ → Fixed) (xs : List Fixed)
    (rest : Fixed) → n ≡ low + k → IsSparse low n es
    → ((i : ℕ) → low ≤ i → i < n → c i ≡ value_at es i) → taken_off c xs low k rest
    ≡ fold (less_entry xs) rest es
unfolding taken_off
taken_off-entries low zero n [] c xs rest e s h = refl
taken_off-entries low zero n (x ∷ es) c xs rest e s h = absurd (omega (arith, s.0, s.1))
taken_off-entries low (suc k) n [] c xs rest e s h =
    let l = less_multiple-nought rest (c low) (at xs low) (h low (omega arith) (omega arith)) in
    ap (taken_off c xs (suc low) k) l
    ∙ taken_off-entries (suc low) k n [] c xs rest (omega arith) tt (λ i a b. h i (omega arith) b)
taken_off-entries low (suc k) n (x ∷ es) c xs rest e s h = elim (cases_eq x.place low) [
  | inl p ↦
      let v : c low ≡ x.value = h low (omega arith) (omega arith) ∙ value_at-first x es low p in
      let l = less_multiple-filled rest (c low) (at xs low) (ap is_nought v ∙ s.2) in
      let m : less_multiple rest (c low) (at xs low) ≡ less_entry xs rest x =
      l ∙ ap (λ (z : Fixed). saturated_difference rest (saturated_product z (at xs low))) v
      ∙ ap (λ (i : ℕ). saturated_difference rest (saturated_product x.value (at xs i))) (sym p) in
      let s' : IsSparse (suc low) n es = subst (λ (i : ℕ). IsSparse (suc i) n es) p s.3 in
      ap (taken_off c xs (suc low) k) m
      ∙ taken_off-entries (suc low) k n es c xs (less_entry xs rest x) (omega arith) s'
      (λ i a b. h i (omega arith) b ∙ value_at-later x es i (omega arith))
  | inr q ↦
      let f : low < x.place = omega (arith, s.0) in
      let v : c low ≡ nought = h low (omega arith) (omega arith)
      ∙ value_at-below (suc low) n (x ∷ es) low (f, s.1, s.2, s.3) (omega arith) in
      let l = less_multiple-nought rest (c low) (at xs low) v in
      ap (taken_off c xs (suc low) k) l
      ∙ taken_off-entries (suc low) k n (x ∷ es) c xs rest (omega arith) (f, s.1, s.2, s.3)
      (λ i a b. h i (omega arith) b)
]

-- what the code reads past the end
abbrev pub no_entry : Entry
no_entry = record { place = 0; value = nought }

-- the entries so far and the next one
pub value_at-take_more : (low n : ℕ) (es : List Entry) (i k : ℕ) → IsSparse low n es → i
    < length es →
    value_at (take (i + 1) es) k ≡ (if nat_eq (get_or es i no_entry).place k
    then (get_or es i no_entry).value else value_at (take i es) k)
value_at-take_more low n es i k s h =
    let e = get_or es i no_entry in
    let x = next_entry low n es i no_entry s h in
    ap (λ (ys : List Entry). value_at ys k) (take_more es i no_entry h)
    ∙ value_at-push low e.place (take i es) e k x.before (omega arith)

-- each number of ys is that of xs less its multiple, as far as the first i entries go
abbrev pub IsLess : List Fixed → List Entry → Fixed → ℕ → List Fixed → Type 0
IsLess xs es q i ys = (k : ℕ) → k < length ys → at ys k
    ≡ less_multiple (at xs k) (value_at (take i es) k) q

pub IsLess-none : (xs : List Fixed) (es : List Entry) (q : Fixed) → IsLess xs es q 0 xs
IsLess-none xs es q k h = sym (less_multiple-nought (at xs k) nought q refl)

pub IsLess-more : (xs ys : List Fixed) (es : List Entry) (q : Fixed) (i : ℕ)
    → IsSparse 0 (length ys) es → i < length es → IsLess xs es q i ys →
    IsLess xs es q (i + 1) (set ys (get_or es i no_entry).place
    (saturated_difference (at ys (get_or es i no_entry).place)
    (saturated_product (get_or es i no_entry).value q)))
IsLess-more xs ys es q i s h before k l =
    let e = get_or es i no_entry in
    let x = next_entry 0 (length ys) es i no_entry s h in
    let z = saturated_difference (at ys e.place) (saturated_product e.value q) in
    let m = value_at-take_more 0 (length ys) es i k s h in
    let w = at-set ys e.place z k x.below in
    elim (eqb_tells e.place k) [
      | inl p ↦
          let t = eq-eqb k e.place (sym p.1) in
          let y = before e.place x.below in
          let v : value_at (take i es) e.place ≡ nought =
          value_at-past 0 e.place (take i es) e.place x.before (omega arith) in
          let u : at ys e.place ≡ at xs e.place =
          y ∙ less_multiple-nought (at xs e.place) (value_at (take i es) e.place) q v in
          let f = less_multiple-filled (at xs e.place) e.value q x.filled in
          let r : at (set ys e.place z) k ≡ z = w ∙ ap (λ (b : Bool). if b then z else at ys k) t in
          let c : value_at (take (i + 1) es) k ≡ e.value =
          m ∙ ap (λ (b : Bool). if b then e.value else value_at (take i es) k) p.0 in
          r ∙ ap (λ (a : Fixed). saturated_difference a (saturated_product e.value q)) u ∙ sym f
          ∙ ap (λ (j : ℕ). less_multiple (at xs j) e.value q) p.1
          ∙ sym (ap (λ (a : Fixed). less_multiple (at xs k) a q) c)
      | inr p ↦
          let t : nat_eq k e.place ≡ false = grind (arith, nat_tests, p.1) in
          let r : at (set ys e.place z) k ≡ at ys k =
          w ∙ ap (λ (b : Bool). if b then z else at ys k) t in
          let c : value_at (take (i + 1) es) k ≡ value_at (take i es) k =
          m ∙ ap (λ (b : Bool). if b then e.value else value_at (take i es) k) p.0 in
          let l' : k < length ys = omega (arith, l, length-set ys e.place z) in
          r ∙ before k l' ∙ sym (ap (λ (a : Fixed). less_multiple (at xs k) a q) c)
    ]

-- ys has the first i entries, and is 0 elsewhere
abbrev pub HasEntries : List Entry → ℕ → List Fixed → Type 0
HasEntries es i ys = (k : ℕ) → k < length ys → at ys k ≡ value_at (take i es) k

pub HasEntries-more : (ys : List Fixed) (es : List Entry) (i : ℕ) → IsSparse 0 (length ys) es → i
    < length es → HasEntries es i ys →
    HasEntries es (i + 1) (set ys (get_or es i no_entry).place (get_or es i no_entry).value)
HasEntries-more ys es i s h before k l =
    let e = get_or es i no_entry in
    let x = next_entry 0 (length ys) es i no_entry s h in
    let m = value_at-take_more 0 (length ys) es i k s h in
    let w = at-set ys e.place e.value k x.below in
    let l' : k < length ys = omega (arith, l, length-set ys e.place e.value) in
    let b = before k l' in
    elim (eqb_tells e.place k) [
      | inl p ↦
          let t = eq-eqb k e.place (sym p.1) in
          w ∙ ap (λ (b : Bool). if b then e.value else at ys k) t
          ∙ sym (m ∙ ap (λ (b : Bool). if b then e.value else value_at (take i es) k) p.0)
      | inr p ↦
          let t : nat_eq k e.place ≡ false = grind (arith, nat_tests, p.1) in
          w ∙ ap (λ (b : Bool). if b then e.value else at ys k) t ∙ b
          ∙ sym (m ∙ ap (λ (b : Bool). if b then e.value else value_at (take i es) k) p.0)
    ]

-- the entries of the column's first i places
pub record IsPart (column : List Fixed) (i : ℕ) (es : List Entry) : Type 0 where
  pub sparse : IsSparse 0 i es
  pub values : (k : ℕ) → k < i → value_at es k ≡ at column k

pub IsPart-push : (column : List Fixed) (i : ℕ) (es : List Entry) → is_nought (at column i)
    ≡ false → IsPart column i es →
    IsPart column (i + 1) (es ++ record { place = i; value = at column i } ∷ [])
IsPart-push column i es f p =
    let e : Entry = record { place = i; value = at column i } in
    record {
      sparse = IsSparse-push 0 i (i + 1) es e p.sparse (omega arith) (omega arith) (omega arith) f;
      values = λ k l.
          let m = value_at-push 0 i es e k p.sparse (omega arith) in
          elim (eqb_tells i k) [
            | inl q ↦ m ∙ ap (λ (b : Bool). if b then at column i else value_at es k) q.0
                ∙ ap (at column) q.1
            | inr q ↦
                let l' : k < i = grind (arith, nat_tests, q.1, l) in
                m ∙ ap (λ (b : Bool). if b then at column i else value_at es k) q.0 ∙ p.values k l'
          ];
    }

pub IsPart-nought : (column : List Fixed) (i : ℕ) (es : List Entry) → at column i ≡ nought
    → IsPart column i es → IsPart column (i + 1) es
IsPart-nought column i es z p = record {
  sparse = IsSparse-weaker 0 i (i + 1) es p.sparse (omega arith);
  values = λ k l. elim (cases_lt k i) [
    | inl h ↦ p.values k h
    | inr h ↦ let e : k ≡ i = omega arith in value_at-past 0 i es k p.sparse h ∙ sym z
        ∙ ap (at column) (sym e)
  ];
}

-- ---- the entries beside a place
pub AreBeside-push : (m n place : ℕ) (es : List Entry) (e : Entry) → AreBeside m place es → m
    ≤ e.place → e.place < n → is_nought e.value ≡ false → e.place ≢ place →
    AreBeside n place (es ++ e ∷ [])
AreBeside-push m n place es e b h l f ne =
    let t : nat_eq e.place place ≡ false = grind (arith, nat_tests, ne) in
    record {
      sparse = IsSparse-push 0 m n es e b.sparse (omega arith) h l f;
      apart = value_at-push 0 m es e place b.sparse h
          ∙ ap (λ (y : Bool). if y then e.value else value_at es place) t ∙ b.apart;
    }

pub AreBeside-weaker : (m n place : ℕ) (es : List Entry) → AreBeside m place es → m ≤ n
    → AreBeside n place es
AreBeside-weaker m n place es b h =
    record { sparse = IsSparse-weaker 0 m n es b.sparse h; apart = b.apart }
