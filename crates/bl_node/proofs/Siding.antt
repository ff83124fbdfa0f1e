-- A side without points in question decides the opposite.
use Rattle.std.proofs.Common.{◌≡◌, ℕ, ℤ, pos, ◌+ℤ◌, ◌-ℤ◌, ◌≤ℤ◌, ◌<ℤ◌, List, [], ◌∷◌, arith, refl}
use Rattle.std.proofs.Common.{sym, ◌∙◌, ap, subst, Option, Some, None, Bool, true, false}
use Rattle.std.specs.Prelude.{IfSome, slice_get, int_le, ◌^◌, ◌-◌}
use Rattle.bl_problem.specs.Sums.{IsWithin}
use Rattle.bl_prop.specs.Limits.{IsDecision, AreDecisions}
use Rattle.std.proofs.lemmas.List.Elements.{All-nil, All-cons}
use Rattle.std.proofs.lemmas.Int.{ints}
use Rattle.bl_problem.specs.Program.{Program}
use Rattle.bl_problem.specs.Points.{InBox}
use Rattle.bl_problem.specs.Decisions.{Box, Meets, MeetsSide, narrowed_all}
use Rattle.bl_problem.specs.declared.cut.Cut.{Cut}
use Rattle.bl_problem.specs.declared.decision.Decision.{Decision}
use Rattle.bl_problem.specs.declared.decision.Side.{Side as Bound}
use Rattle.bl_problem.specs.declared.decision.Side.TheVariants.{AtLeast, AtMost}
use Rattle.bl_problem.proofs.Boxes.{box-width, box-entry, box-from}
use Rattle.bl_problem.proofs.Narrowed.{InBox-narrowed, InBox-widened}
use Rattle.bl_desc.specs.declared.desc.Desc.{Desc}
use Rattle.bl_journal.specs.Soundness.{cutoff_with}
use Rattle.bl_node.specs.declared.sides.Side.{Side}
use Rattle.bl_node.specs.declared.state.State.{State}
use Rattle.bl_node.specs.declared.working.Working.{Working}
use Rattle.bl_node.specs.Moves.{Moves}
use Rattle.bl_node.specs.Sides.{IsSideOf, opposite_of, other_side}
use Rattle.bl_node.specs.Standing.{box_of, OfAllInQuestion, Stands, Narrows, TakesDecisions}
use Rattle.bl_node.proofs.Starting.{given, no_difference, part_of_itself}

-- where a side's node was shut and nothing found, no point in question meets the decision
pub side-closed : (p : Program) (f : Desc Cut) (cutoff : Option ℤ) (s last : State) (d : Decision)
    (side : Side) → IsSideOf p f s d side → Moves p side.desc side.state last → last.is_shut ≡ true
    → last.work.found ≡ None → Stands p f cutoff s.work
    → OfAllInQuestion p f s.work (λ x. ¬ (Meets x d))
side-closed p f cutoff s last d side k moves shut none stands = λ x q m.
    let b = InBox-narrowed (box_of s.work.desc) (d ∷ []) x (stands.inside x q) (m, tt) in
    let inside : InBox side.desc.lows side.desc.highs x =
    subst (λ (e : Box). InBox e.lows e.highs x) (sym k.box) b in
    let known = moves.known s.work.best (k.known cutoff stands) in
    let best : last.work.best ≡ s.work.best = known.stands.best_is
    ∙ ap (cutoff_with p s.work.best) none ∙ sym (given p s.work.best) in
    known.none shut x (record { feasible = q.feasible; in_box = inside; below = rw best q.below })

less : (e v : ℤ) → ¬ (v ≤ℤ e) → e ≤ℤ (v -ℤ pos 1)
less e v n = by (int_le v e) refl
  where
    by : (b : Bool) → int_le v e ≡ b → e ≤ℤ (v -ℤ pos 1)
    by true h = absurd (n (grind (arith, ints, h)))
    by false h = let l : e <ℤ v = grind (arith, ints, h) in omega (arith, ints, l)

more : (e v : ℤ) → ¬ (e ≤ℤ v) → (v +ℤ pos 1) ≤ℤ e
more e v n = by (int_le e v) refl
  where
    by : (b : Bool) → int_le e v ≡ b → (v +ℤ pos 1) ≤ℤ e
    by true h = absurd (n (grind (arith, ints, h)))
    by false h = let l : v <ℤ e = grind (arith, ints, h) in omega (arith, ints, l)

-- the box so far lies in the node's
inside-node : (p : Program) (f : Desc Cut) (w : Working) (x : List ℤ) → Narrows p f w
    → InBox w.desc.lows w.desc.highs x → InBox f.lows f.highs x
inside-node p f w x n i =
    let width = box-width w.desc.lows w.desc.highs x i in
    box-from f.lows f.highs x (record {
      lows = n.low_width ∙ width.lows;
      highs =
          n.high_width ∙ width.highs;
    })
    (λ j l. let e = box-entry w.desc.lows w.desc.highs x j i l in let a = n.lows_rise j in let b =
    n.highs_fall j in (omega (arith, ints, a, e.0), omega (arith, ints, b, e.1)))

-- the state of a side
abbrev pub side_work : Working → Working
side_work w = record { desc = w.desc; found = None; best = w.best; low = w.low; decided = 0 }

pub narrows-side : (p : Program) (f : Desc Cut) (w : Working) → Narrows p f w
    → Narrows p w.desc (side_work w)
narrows-side p f w n = record {
  describes = n.describes;
  whole = n.whole;
  rows = refl;
  low_width = refl;
  high_width = refl;
  point = n.point;
  lows_rise = λ j. omega (arith, ints);
  highs_fall = λ j. omega (arith, ints);
  part = part_of_itself w.desc.cuts n.ids;
  ids = n.ids;
  few = let a = no_difference w.desc.lows in let b =
      no_difference w.desc.highs in omega (arith, a, b);
  decided = omega arith;
}

pub stands-side : (p : Program) (f : Desc Cut) (cutoff : Option ℤ) (old w : Working)
    (d : Decision) → Narrows p f old → TakesDecisions old (d ∷ []) w → Stands p f cutoff old
    → Stands p w.desc old.best (side_work w)
stands-side p f cutoff old w d n t s = record {
  best_is = t.best ∙ given p old.best;
  found = tt;
  better = tt;
  inside = λ x q. q.in_box;
  low = λ x q.
      let i : InBox (narrowed_all (box_of old.desc) (d ∷ [])).lows
      (narrowed_all (box_of old.desc) (d ∷ [])).highs x =
      subst (λ (b : Box). InBox b.lows b.highs x) t.box q.in_box in
      let o = (InBox-widened (box_of old.desc) (d ∷ []) x i).0 in
      rw t.low (s.low x (record {
        feasible = q.feasible;
        in_box =
            inside-node p f old x n o;
        below = rw (sym t.best) q.below;
      }));
  cuts = rw t.cuts s.cuts;
}

by_side : (side : Bound) (v : ℤ) (d : Decision) (o : Option ℤ) → ¬ (IfSome o (MeetsSide side v))
    → IfSome o (MeetsSide (other_side side v d).side (other_side side v d).value)
by_side AtLeast v d None n = tt
by_side AtMost v d None n = tt
by_side AtLeast v d (Some e) n = less e v n
by_side AtMost v d (Some e) n = more e v n

same_column : (side : Bound) (v : ℤ) (d : Decision) → (other_side side v d).column ≡ d.column
same_column AtLeast v d = refl
same_column AtMost v d = refl

-- what a point meets that doesn't meet the decision
pub meets-opposite : (x : List ℤ) (d : Decision) → ¬ (Meets x d) → Meets x (opposite_of d)
meets-opposite x d never =
    subst (λ (j : ℕ). IfSome (slice_get x j) (MeetsSide (opposite_of d).side
    (opposite_of d).value)) (sym (same_column d.side d.value d))
    (by_side d.side d.value d (slice_get x d.column) never)

pub opposite-is : (n : ℕ) (d : Decision) → IsDecision n d → IsWithin (10 ^ 9 - 1) d.value
    → IsDecision n (opposite_of d)
opposite-is n d k near = record {
  column = rw (same_column d.side d.value d) k.column;
  value =
      by d.side d.value near;
}
  where
    by : (side : Bound) (v : ℤ) → IsWithin (10 ^ 9 - 1) v
        → IsWithin (10 ^ 9) (other_side side v d).value
    by AtLeast v w = omega (arith, ints, w)
    by AtMost v w = omega (arith, ints, w)

pub one-decision : (n : ℕ) (d : Decision) → IsDecision n d → AreDecisions n (d ∷ [])
one-decision n d k = record {
  few = omega arith;
  each =
      All-cons (IsDecision n) d [] k (All-nil (IsDecision n));
}
