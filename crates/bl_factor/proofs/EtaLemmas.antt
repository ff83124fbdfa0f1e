-- An eta does what its elementary factor says.
use Rattle.std.proofs.Common.{◌≡◌, ℕ, ◌<◌, Bool, true, false, List, length, set, if◌then◌else◌}
use Rattle.std.proofs.Common.{refl, sym, ap, inl, inr, ◌∙◌, arith}
use Rattle.std.specs.List.{swap}
use Rattle.std.proofs.lemmas.Bool.{eq-eqb}
use Rattle.std.proofs.lemmas.Bool.Decides.{eqb_tells}
use Rattle.bl_fixed.specs.declared.Fixed.{Fixed}
use Rattle.bl_fixed.specs.Fixed.{saturated_quotient}
use Rattle.bl_factor.specs.Others.{listed}
use Rattle.bl_factor.specs.declared.sparse.Entry.{Entry}
use Rattle.bl_factor.specs.declared.eta.Eta.{Eta}
use Rattle.bl_factor.specs.Vectors.{nought, is_nought, at, column_of}
use Rattle.bl_factor.specs.Sparse.{value_at}
use Rattle.bl_factor.specs.Elimination.{Elimination, less_multiple, cleared_entry, cleared}
use Rattle.bl_factor.specs.Elimination.{eliminated, taken_off, others_of, transposed_entry}
use Rattle.bl_factor.specs.Elimination.{eliminated_transposed}
use Rattle.bl_factor.specs.Etas.{IsEta, eta_entry, elimination_of}
use Rattle.bl_factor.proofs.Columns.{at-column_of, same_column_of, at-set}
use Rattle.bl_factor.proofs.SparseLemmas.{less_multiple-nought, taken_off-entries}

-- the pivot
pub at-place : (n : ℕ) (eta : Eta) → eta.place < n → at (elimination_of n eta).column eta.place
    ≡ eta.pivot
at-place n eta h =
    at-column_of n (eta_entry eta) eta.place h
    ∙ ap (λ (b : Bool). if b then eta.pivot else value_at (listed eta.others) eta.place)
    (eq-eqb eta.place eta.place refl)

pub cleared-nought : (e : Elimination) (ys : List Fixed) → is_nought (at ys e.place) ≡ true
    → cleared e ys ≡ ys
unfolding cleared
cleared-nought e ys h = ap (λ (b : Bool). if b then ys
    else column_of (length ys) (cleared_entry e ys
    (saturated_quotient (at ys e.place) (at e.column e.place)))) h

pub cleared-filled : (e : Elimination) (ys : List Fixed) → is_nought (at ys e.place) ≡ false →
    cleared e ys ≡ column_of (length ys)
    (cleared_entry e ys (saturated_quotient (at ys e.place) (at e.column e.place)))
unfolding cleared
cleared-filled e ys h = ap (λ (b : Bool). if b then ys
    else column_of (length ys) (cleared_entry e ys
    (saturated_quotient (at ys e.place) (at e.column e.place)))) h

-- to write the quotient and take off the multiples clears the column
pub cleared-eta : (eta : Eta) (ys : List Fixed) (q : Fixed) → IsEta (length ys) eta
    → is_nought (at ys eta.place) ≡ false → q ≡ saturated_quotient (at ys eta.place) eta.pivot →
    column_of (length ys) (λ i. less_multiple (at (set ys eta.place q) i)
    (value_at (listed eta.others) i) q) ≡ cleared (elimination_of (length ys) eta) ys
cleared-eta eta ys q w f d =
    let n = length ys in
    let e = elimination_of n eta in
    let p = at-place n eta w.place_in in
    let r : saturated_quotient (at ys e.place) (at e.column e.place) ≡ q =
    ap (saturated_quotient (at ys eta.place)) p ∙ sym d in
    same_column_of n (λ i. less_multiple (at (set ys eta.place q) i)
    (value_at (listed eta.others) i) q) (cleared_entry e ys q)
    (λ i l.
    let u = at-set ys eta.place q i w.place_in in
    elim (eqb_tells i eta.place) [
      | inl t ↦
          let v : value_at (listed eta.others) i ≡ nought = ap (value_at (listed eta.others)) t.1
          ∙ w.beside.apart in
          less_multiple-nought (at (set ys eta.place q) i) (value_at (listed eta.others) i) q v
          ∙ u ∙ ap (λ (b : Bool). if b then q else at ys i) t.0
          ∙ sym (ap (λ (b : Bool). if b then q else less_multiple (at ys i) (at e.column i) q) t.0)
      | inr t ↦
          let x : at e.column i ≡ value_at (listed eta.others) i =
          at-column_of n (eta_entry eta) i l
          ∙ ap (λ (b : Bool). if b then eta.pivot else value_at (listed eta.others) i) t.0 in
          ap (λ (a : Fixed). less_multiple a (value_at (listed eta.others) i) q)
          (u ∙ ap (λ (b : Bool). if b then q else at ys i) t.0)
          ∙ ap (λ (a : Fixed). less_multiple (at ys i) a q) (sym x)
          ∙ sym (ap (λ (b : Bool). if b then q else less_multiple (at ys i) (at e.column i) q) t.0)
    ])
    ∙ ap (λ (z : Fixed). column_of n (cleared_entry e ys z)) (sym r)
    ∙ sym (cleared-filled e ys f)

-- the entries beside the pivot
others-eta : (n : ℕ) (eta : Eta) → IsEta n eta → (i : ℕ) → i < n
    → others_of (elimination_of n eta) i ≡ value_at (listed eta.others) i
others-eta n eta w i l = elim (eqb_tells i eta.place) [
  | inl t ↦
      ap (λ (b : Bool). if b then nought else at (elimination_of n eta).column i) t.0
      ∙ sym w.beside.apart ∙ ap (value_at (listed eta.others)) (sym t.1)
  | inr t ↦
      ap (λ (b : Bool). if b then nought else at (elimination_of n eta).column i) t.0
      ∙ at-column_of n (eta_entry eta) i l
      ∙ ap (λ (b : Bool). if b then eta.pivot else value_at (listed eta.others) i) t.0
]

pub transposed-eta : (eta : Eta) (xs : List Fixed) (es : List Entry) (rest : Fixed)
    → IsEta (length xs) eta → es ≡ (listed eta.others) →
    rest ≡ taken_off (value_at es) xs 0 (length xs) (at xs eta.place) →
    saturated_quotient rest eta.pivot ≡ transposed_entry (elimination_of (length xs) eta) xs
transposed-eta eta xs es rest w s d =
    let n = length xs in
    let e = elimination_of n eta in
    let a = taken_off-entries 0 n n (listed eta.others) (value_at (listed eta.others)) xs
    (at xs eta.place) (omega arith) w.beside.sparse (λ i b c. refl) in
    let b = taken_off-entries 0 n n (listed eta.others) (others_of e) xs (at xs eta.place)
    (omega arith) w.beside.sparse (λ i b c. others-eta n eta w i c) in
    let r : rest ≡ taken_off (others_of e) xs 0 n (at xs eta.place) =
    d ∙ ap (λ (es : List Entry). taken_off (value_at es) xs 0 n (at xs eta.place)) s ∙ a ∙ sym b in
    ap (λ (z : Fixed). saturated_quotient z eta.pivot) r
    ∙ ap (saturated_quotient (taken_off (others_of e) xs 0 n (at xs eta.place)))
    (sym (at-place n eta w.place_in))

-- a factor acts on the entries in their new places
pub eliminated-cleared : (e : Elimination) (xs ys : List Fixed) → ys ≡ swap xs e.place e.row
    → cleared e ys ≡ eliminated e xs
unfolding eliminated
eliminated-cleared e xs ys h = ap (cleared e) h

pub eliminated_transposed-swap : (e : Elimination) (xs : List Fixed) (z : Fixed) → z
    ≡ transposed_entry e xs → swap (set xs e.place z) e.place e.row ≡ eliminated_transposed e xs
unfolding eliminated_transposed
eliminated_transposed-swap e xs z h = ap (λ (y : Fixed). swap (set xs e.place y) e.place e.row) h
