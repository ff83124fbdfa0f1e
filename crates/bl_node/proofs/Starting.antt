-- The state before the first step, and the end where the low reaches the cutoff.
use Rattle.std.proofs.Common.{◌≡◌, ℕ, zero, suc, ◌+◌, ◌<◌, ◌≤◌, ℤ, ◌≤ℤ◌, ◌<ℤ◌, List, [], ◌∷◌}
use Rattle.std.proofs.Common.{length, arith, refl, sym, ◌∙◌, ap, subst, Option, Some, None, All}
use Rattle.std.proofs.Common.{true}
use Rattle.std.specs.Prelude.{int_le}
use Rattle.std.specs.Ordering.{int_eq}
use Rattle.std.specs.Cmp.{int_eq_equiv}
use Rattle.std.proofs.lemmas.Int.{ints}
use Rattle.bl_num.specs.Exact.{at}
use Rattle.bl_mods.specs.Mods.{differences, IsPartThenFresh}
use Rattle.bl_mods.proofs.Relisting.{IsPartThenFresh-relisted}
use Rattle.bl_mods.proofs.Diffing.{length_differences, unlike_self}
use Rattle.bl_problem.specs.Program.{Program}
use Rattle.bl_problem.specs.Points.{value_of}
use Rattle.bl_problem.specs.declared.cut.Cut.{Cut}
use Rattle.bl_desc.specs.declared.desc.Desc.{Desc}
use Rattle.bl_desc.specs.Changes.{nothing}
use Rattle.bl_desc.proofs.Nothing.{relisted_none}
use Rattle.bl_journal.specs.Soundness.{IsInQuestion}
use Rattle.bl_bound.specs.Descriptions.{IsLeft}
use Rattle.bl_node.specs.declared.working.Working.{Working}
use Rattle.bl_node.specs.Standing.{OfAllInQuestion, Stands, Narrows, IsNode, is_reached}

-- the state at a description, before anything was found or decided
abbrev pub first_state : Desc Cut → Option ℤ → ℤ → Working
first_state f cutoff low = record { desc = f; found = None; best = cutoff; low = low; decided = 0 }

pub given : (p : Program) (cutoff : Option ℤ) → cutoff
    ≡ Rattle.bl_journal.specs.Soundness.cutoff_with p cutoff None
given p None = refl
given p (Some c) = refl

pub stands-first : (p : Program) (f : Desc Cut) (cutoff : Option ℤ) (low : ℤ) → IsNode p f
    → ((x : List ℤ) → IsLeft p f x → low ≤ℤ value_of p x)
    → Stands p f cutoff (first_state f cutoff low)
stands-first p f cutoff low i h = record {
  best_is = given p cutoff;
  found = tt;
  better = tt;
  inside = λ x q. q.in_box;
  low = λ x q. h x (record {
    feasible = q.feasible;
    box = q.in_box;
    cuts =
        λ k d l. i.cuts k d l x q.feasible;
  });
  cuts = i.cuts;
}

pub no_difference : (xs : List ℤ) → length (differences int_eq xs xs) ≡ 0
no_difference xs = length_differences int_eq 0 xs xs ∙ unlike_self int_eq int_eq_equiv.refl xs

pub part_of_itself : (cuts : List Cut) → Rattle.std.proofs.Common.AllPairs
    (λ (a b : Cut). a.id ≡ b.id → ⊥) cuts → IsPartThenFresh (λ (c : Cut). c.id) cuts cuts
part_of_itself cuts ids =
    subst (λ (l : List Cut). IsPartThenFresh (λ (c : Cut). c.id) cuts l) (relisted_none cuts)
    (IsPartThenFresh-relisted (λ (c : Cut). c.id) nothing.cuts cuts
    (subst (λ (l : List Cut). Rattle.std.proofs.Common.AllPairs
    (λ (a b : Cut). a.id ≡ b.id → ⊥) l) (sym (Rattle.std.proofs.Common.append-nil cuts)) ids))

pub narrows-first : (p : Program) (f : Desc Cut) (cutoff : Option ℤ) (low : ℤ) → IsNode p f
    → ((j : ℕ) → j < length f.lows → at f.lows j ≤ℤ at f.highs j)
    → Narrows p f (first_state f cutoff low)
narrows-first p f cutoff low i h = record {
  describes = i.describes;
  whole = i.whole;
  rows = refl;
  low_width = refl;
  high_width = refl;
  point = h;
  lows_rise = λ j. omega (arith, ints);
  highs_fall = λ j. omega (arith, ints);
  part = part_of_itself f.cuts i.ids;
  ids = i.ids;
  few = let a = no_difference f.lows in let b = no_difference f.highs in omega (arith, a, b);
  decided = omega arith;
}

pub none-reached : (p : Program) (f : Desc Cut) (cutoff : Option ℤ) (w : Working)
    → is_reached w.low w.best ≡ true → Stands p f cutoff w → OfAllInQuestion p f w (λ x. ⊥)
none-reached p f cutoff w e s x q = by w.best w.low e (s.low x q) q.below
  where
    by : (best : Option ℤ) (low : ℤ) → is_reached low best ≡ true → low ≤ℤ value_of p x
        → Rattle.std.specs.Prelude.IfSome best (λ c. value_of p x <ℤ c) → ⊥
    by None low e l b = cc
    by (Some c) low e l b = let h : c ≤ℤ low =
        grind (arith, ints, e) in omega (arith, ints, h, l, b)
