-- Values lie on the grid of the costs.
use Rattle.std.proofs.Common.{◌≡◌, ℕ, zero, suc, ◌<◌, ℤ, pos, ◌+ℤ◌, ◌-ℤ◌, ◌*ℤ◌, ◌≤ℤ◌, ◌<ℤ◌, List}
use Rattle.std.proofs.Common.{length, arith, refl, sym, ◌∙◌, ap, subst, ◌+◌, ◌≤◌, ◌==◌, Bool}
use Rattle.std.proofs.Common.{true, false, Some, None, Option, get_or}
use Rattle.std.specs.Prelude.{IfSome}
use Rattle.bl_num.proofs.SumLemmas.{at-map}
use Rattle.bl_problem.specs.declared.problem.Column.{Column}
use Rattle.std.proofs.lemmas.Int.{ints}
use Rattle.std.proofs.lemmas.Bool.{eqb-true, eqb-false}
use Rattle.std.proofs.Math.IntN.{*ℤ_comm, zero-*ℤ}
use Rattle.bl_num.specs.Exact.{at, sum_below, floor_of, ceil_of}
use Rattle.bl_num.specs.Checked.{i128_of}
use Rattle.bl_num.proofs.CheckedLemmas.{i128_of-some}
use Rattle.bl_num.proofs.Ring.{+ℤ-*ℤ, *ℤ_assoc, *ℤ-le}
use Rattle.bl_num.proofs.Quotients.{le_floor, ceil_le}
use Rattle.bl_problem.specs.Program.{Program}
use Rattle.bl_problem.specs.Points.{costs_of, value_of}
use Rattle.bl_grid.specs.Grids.{IsMultiple, DividesCosts}

times : (g c k x : ℤ) → c ≡ k *ℤ g → c *ℤ x ≡ (k *ℤ x) *ℤ g
times g c k x e = ap (λ (z : ℤ). z *ℤ x) e ∙ *ℤ_assoc k g x ∙ ap (λ (z : ℤ). k *ℤ z) (*ℤ_comm g x)
    ∙ sym (*ℤ_assoc k x g)

sum_on : (n : ℕ) (g : ℤ) (c x : ℕ → ℤ) → ((j : ℕ) → j < n → IsMultiple g (c j))
    → IsMultiple g (sum_below n (λ j. c j *ℤ x j))
sum_on zero g c x h = (pos 0, sym (zero-*ℤ g))
sum_on (suc n) g c x h =
    let before = sum_on n g c x (λ j l. h j (omega (arith, l))) in
    let here = h n (omega arith) in (
      before.0 +ℤ here.0 *ℤ x n,
      ap (λ (z : ℤ). z +ℤ c n *ℤ x n) before.1
          ∙ ap (λ (z : ℤ). before.0 *ℤ g +ℤ z) (times g (c n) here.0 (x n) here.1)
          ∙ sym (+ℤ-*ℤ before.0 (here.0 *ℤ x n) g),
    )

-- a value is the offset and a multiple
value_on : (p : Program) (g : ℤ) (x : List ℤ)
    → ((j : ℕ) → j < length p.columns → IsMultiple g (at (costs_of p.columns) j))
    → IsMultiple g (value_of p x -ℤ p.offset)
value_on p g x h =
    let s = sum_on (length p.columns) g (λ j. at (costs_of p.columns) j) (λ j. at x j) h in
    (s.0, let e = s.1 in omega (arith, ints, e))

le_times : (a b g : ℤ) → pos 1 ≤ℤ g → a ≤ℤ b → (a *ℤ g) ≤ℤ (b *ℤ g)
le_times a b g h l =
    let m = *ℤ-le g a b (omega (arith, ints, h)) l in
    let e = *ℤ_comm g a in
    let f = *ℤ_comm g b in
    omega (arith, ints, m, e, f)

exact : (z w : ℤ) → i128_of z ≡ Some w → w ≡ z
exact z w e = sym (i128_of-some z w e)

pub next-le : (p : Program) (g bound above steps next : ℤ) (x : List ℤ) → pos 1 ≤ℤ g
    → DividesCosts p g → i128_of (bound -ℤ p.offset) ≡ Some above → i128_of (ceil_of above g *ℤ g)
    ≡ Some steps
    → i128_of (steps +ℤ p.offset) ≡ Some next → bound ≤ℤ value_of p x → next ≤ℤ value_of p x
next-le p g bound above steps next x h d ea es en l =
    let m = value_on p g x d.each in
    let e = m.1 in
    let a = exact (bound -ℤ p.offset) above ea in
    let s = exact (ceil_of above g *ℤ g) steps es in
    let n = exact (steps +ℤ p.offset) next en in
    let c = ceil_le m.0 above g h (omega (arith, ints, e, l, a)) in
    let t = le_times (ceil_of above g) m.0 g h c in
    omega (arith, ints, e, t, s, n)

pub last-lt : (p : Program) (g cutoff limit above steps last next : ℤ) (x : List ℤ) → pos 1 ≤ℤ g
    → DividesCosts p g → i128_of (cutoff -ℤ pos 1) ≡ Some limit → i128_of (limit -ℤ p.offset)
    ≡ Some above
    → i128_of (floor_of above g *ℤ g) ≡ Some steps → i128_of (steps +ℤ p.offset) ≡ Some last
    → i128_of (last +ℤ pos 1) ≡ Some next → value_of p x <ℤ cutoff → value_of p x <ℤ next
last-lt p g cutoff limit above steps last next x h d el ea es en ep l =
    let m = value_on p g x d.each in
    let e = m.1 in
    let b = exact (cutoff -ℤ pos 1) limit el in
    let a = exact (limit -ℤ p.offset) above ea in
    let s = exact (floor_of above g *ℤ g) steps es in
    let n = exact (steps +ℤ p.offset) last en in
    let o = exact (last +ℤ pos 1) next ep in
    let c = le_floor m.0 above g h (omega (arith, ints, e, l, a, b)) in
    let t = le_times m.0 (floor_of above g) g h c in
    omega (arith, ints, e, t, s, n, o)

-- next and last values, in the options of checked sums
pub next-some : (p : Program) (g bound above steps : ℤ) (next : Option ℤ) → pos 1 ≤ℤ g
    → DividesCosts p g → i128_of (bound -ℤ p.offset) ≡ Some above → i128_of (ceil_of above g *ℤ g)
    ≡ Some steps
    → next ≡ i128_of (steps +ℤ p.offset)
    → IfSome next (λ v. (x : List ℤ) → bound ≤ℤ value_of p x → v ≤ℤ value_of p x)
next-some p g bound above steps None h d ea es en = tt
next-some p g bound above steps (Some next) h d ea es en =
    λ x l. next-le p g bound above steps next x h d ea es (sym en) l

pub last-some : (p : Program) (g cutoff limit above steps last : ℤ) (next : Option ℤ) → pos 1 ≤ℤ g
    → DividesCosts p g → i128_of (cutoff -ℤ pos 1) ≡ Some limit → i128_of (limit -ℤ p.offset)
    ≡ Some above
    → i128_of (floor_of above g *ℤ g) ≡ Some steps → i128_of (steps +ℤ p.offset) ≡ Some last
    → next ≡ i128_of (last +ℤ pos 1)
    → IfSome next (λ v. (x : List ℤ) → value_of p x <ℤ cutoff → value_of p x <ℤ v)
last-some p g cutoff limit above steps last None h d el ea es en ep = tt
last-some p g cutoff limit above steps last (Some next) h d el ea es en ep =
    λ x l. last-lt p g cutoff limit above steps last next x h d el ea es en (sym ep) l

-- the costs are multiples of one
one_divides : (z : ℤ) → IsMultiple (pos 1) z
one_divides z = (z, omega (arith, ints))

pub by-one : (p : Program) → DividesCosts p (pos 1)
by-one p = record { each = λ j l. one_divides (at (costs_of p.columns) j) }

-- one more cost is a multiple
pub more : (columns : List Column) (g : ℤ) (n : ℕ) (d : Column) → n < length columns
    → ((k : ℕ) → k < n → IsMultiple g (at (costs_of columns) k))
    → IsMultiple g (get_or columns n d).cost → (k : ℕ) → k < n + 1
    → IsMultiple g (at (costs_of columns) k)
more columns g n d l h m k t = last (k == n) refl
  where
    last : (b : Bool) → (k == n) ≡ b → IsMultiple g (at (costs_of columns) k)
    last true e = subst (λ (i : ℕ). IsMultiple g (at (costs_of columns) i)) (sym (eqb-true k n e))
        (subst (λ (z : ℤ). IsMultiple g z) (sym (at-map (λ (c : Column). c.cost) columns n d l)) m)
    last false e = h k (let o = eqb-false k n e in omega (arith, o, t))

-- all costs up to the end are multiples
pub covers : (p : Program) (g : ℤ) (columns : List Column) (n : ℕ) → columns ≡ p.columns
    → length columns ≤ n → ((k : ℕ) → k < n → IsMultiple g (at (costs_of columns) k))
    → DividesCosts p g
covers p g columns n e l h =
    record {
      each = λ j t. subst (λ (cs : List Column). IsMultiple g (at (costs_of cs) j)) e
          (h j (let s = subst (λ (cs : List Column). j < length cs) (sym e) t in omega (arith, s, l)));
    }
