-- A point's entries, split one by one.
use Rattle.std.proofs.Common.{◌≡◌, ℕ, zero, suc, ◌+◌, ◌<◌, ◌^◌, ℤ, pos, ◌+ℤ◌, ◌*ℤ◌, ◌≤ℤ◌, arith}
use Rattle.std.proofs.Common.{List, [], ◌∷◌, ◌++◌, length, get_or, take, All, refl, sym, ◌∙◌, ap}
use Rattle.std.proofs.Common.{⊎_elim}
use Rattle.std.specs.Int.{int_rem_euclid}
use Rattle.std.proofs.lemmas.Int.{ints}
use Rattle.std.proofs.lemmas.Bool.{cases_lt}
use Rattle.std.proofs.lemmas.List.{length-append, take_more, map-append}
use Rattle.std.proofs.lemmas.List.Elements.{All-push}
use Rattle.bl_num.specs.Exact.{at, floor_of}
use Rattle.bl_num.proofs.Quotients.{floor-rem, rem_range}
use Rattle.bl_num.proofs.SumLemmas.{at-map}
use Rattle.bl_fixed.specs.Fixed.{one}
use Rattle.bl_fixed.specs.declared.Fixed.{Fixed}
use Rattle.bl_problem.specs.Sums.{IsWithin}
use Rattle.bl_problem.specs.Points.{lows_of}
use Rattle.bl_problem.specs.Program.{IsColumn}
use Rattle.bl_problem.specs.declared.problem.Column.{Column}
use Rattle.bl_cuts.specs.Separations.{raws_of}
use Rattle.bl_cuts.specs.OneRow.{IsNear, IsPushed}
use Rattle.bl_cuts.specs.declared.one_row.Split.{Split}

-- the first j entries, split
pub record Below (columns : List Column) (point : List Fixed) (j : ℕ) (s : Split) : Type 0 where
  pub lows : lows_of (take j columns) ≡ s.lows
  pub exact : (k : ℕ) → k < j → at (raws_of point) k ≡ at s.wholes k *ℤ one +ℤ at s.parts k
  pub near : IsNear j s

last : (xs : List ℤ) (y : ℤ) (k : ℕ) → k ≡ length xs → at (xs ++ y ∷ []) k ≡ y
last [] y k e = rw e refl
last (x ∷ xs) y k e = rw e (last xs y (length xs) refl)

front : (xs : List ℤ) (y : ℤ) (k : ℕ) → k < length xs → at (xs ++ y ∷ []) k ≡ at xs k
front [] y k l = absurd (omega (arith, l))
front (x ∷ xs) y zero l = refl
front (x ∷ xs) y (suc k) l = front xs y k (omega (arith, l))

pub pushed : (columns : List Column) (point : List Fixed) (j : ℕ) (s t : Split) (d : Column)
    (e : Fixed) → j < length columns → length point ≡ length columns → All IsColumn columns
    → All (λ (x : Fixed). IsWithin (2 ^ 70) x.raw) point
    → Below columns point j s → IsPushed s (get_or columns j d).low (get_or point j e).raw t
    → Below columns point (j + 1) t
pushed columns point j s t d0 e0 l w cs near b p =
    let c : Column = get_or columns j d0 in
    let x : Fixed = get_or point j e0 in
    let col : IsColumn c = cs j d0 l in
    let raw : IsWithin (2 ^ 70) x.raw = near j e0 (omega (arith, l, w)) in
    let low = col.low in
    let h : pos 1 ≤ℤ one = omega (arith, ints) in
    let e = floor-rem x.raw one h in
    let r = rem_range x.raw one h in
    let whole : IsWithin (2 ^ 40) (floor_of x.raw one) = omega (arith, ints, e, r.0, r.1, raw) in
    let part : IsWithin (2 ^ 40) (int_rem_euclid x.raw one) = omega (arith, ints, r.0, r.1) in
    let n = b.near in
    let lw = n.lows_width in
    let ww = n.wholes_width in
    let pw = n.parts_width in
    record {
      lows = ap lows_of (take_more columns j d0 l)
          ∙ map-append (λ (d : Column). d.low) (take j columns) (c ∷ [])
          ∙ ap (λ (xs : List ℤ). xs ++ c.low ∷ []) b.lows ∙ sym p.lows;
      exact = λ k m. ⊎_elim
          (λ q. b.exact k q ∙ sym (ap (λ (xs : List ℤ). at xs k *ℤ one +ℤ at t.parts k) p.wholes
          ∙ ap (λ (xs : List ℤ). at (s.wholes ++ floor_of x.raw one ∷ []) k *ℤ one +ℤ at xs k)
          p.parts
          ∙ ap (λ (z : ℤ). z *ℤ one +ℤ at (s.parts ++ int_rem_euclid x.raw one ∷ []) k)
          (front s.wholes (floor_of x.raw one) k (omega (arith, q, ww)))
          ∙ ap (λ (z : ℤ). at s.wholes k *ℤ one +ℤ z)
          (front s.parts (int_rem_euclid x.raw one) k (omega (arith, q, pw)))))
          (λ q.
          let z : k ≡ j = omega (arith, m, q) in
          let v : at (raws_of point) k ≡ x.raw = ap (at (raws_of point)) z
          ∙ at-map (λ (y : Fixed). y.raw) point j e0 (omega (arith, l, w)) in
          v ∙ sym e ∙ sym (ap (λ (xs : List ℤ). at xs k *ℤ one +ℤ at t.parts k) p.wholes
          ∙ ap (λ (xs : List ℤ). at (s.wholes ++ floor_of x.raw one ∷ []) k *ℤ one +ℤ at xs k)
          p.parts
          ∙ ap (λ (z : ℤ). z *ℤ one +ℤ at (s.parts ++ int_rem_euclid x.raw one ∷ []) k)
          (last s.wholes (floor_of x.raw one) k (omega (arith, z, ww)))
          ∙ ap (λ (z : ℤ). floor_of x.raw one *ℤ one +ℤ z)
          (last s.parts (int_rem_euclid x.raw one) k (omega (arith, z, pw)))))
          (cases_lt k j);
      near = record {
        lows_width = rw p.lows (length-append s.lows (c.low ∷ []) ∙ ap (λ (k : ℕ). k + 1) lw);
        wholes_width = rw p.wholes (length-append s.wholes (floor_of x.raw one ∷ [])
            ∙ ap (λ (k : ℕ). k + 1) ww);
        parts_width = rw p.parts (length-append s.parts (int_rem_euclid x.raw one ∷ [])
            ∙ ap (λ (k : ℕ). k + 1) pw);
        lows = rw p.lows (All-push (IsWithin (2 ^ 40)) s.lows c.low n.lows (omega (arith, low)));
        wholes = rw p.wholes (All-push (IsWithin (2 ^ 40)) s.wholes (floor_of x.raw one) n.wholes
            whole);
        positive = rw p.parts (All-push (λ (v : ℤ). pos 0 ≤ℤ v) s.parts (int_rem_euclid x.raw one)
            n.positive r.0);
        parts = rw p.parts (All-push (IsWithin (2 ^ 40)) s.parts (int_rem_euclid x.raw one)
            n.parts part);
      };
    }
