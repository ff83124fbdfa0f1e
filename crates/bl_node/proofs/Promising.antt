-- What the parts of the work promise together.
use Rattle.std.proofs.Common.{◌≡◌, ℤ, pos, ◌≤ℤ◌, List, arith, refl, sym, ◌∙◌, ap, subst, All}
use Rattle.std.proofs.Common.{Option, Some, None, true, inl, inr, ◌⊎◌}
use Rattle.std.specs.Prelude.{Ok, Err, IfOk, IfSome}
use Rattle.bl_bound.specs.Bounds.{bound_of}
use Rattle.std.specs.declared.result.Result.{Result}
use Rattle.std.specs.Int.{int_min}
use Rattle.std.proofs.lemmas.Int.{ints, clamps}
use Rattle.std.proofs.lemmas.List.Elements.{All-nil}
use Rattle.bl_problem.specs.Program.{Program}
use Rattle.bl_problem.specs.Points.{value_of}
use Rattle.bl_problem.specs.declared.cut.Cut.{Cut}
use Rattle.bl_desc.specs.declared.desc.Desc.{Desc}
use Rattle.bl_desc.specs.declared.desc.Form.{Form}
use Rattle.bl_fixed.specs.declared.Fixed.{Fixed}
use Rattle.bl_prop.specs.Answers.{tightened_of}
use Rattle.bl_journal.specs.Soundness.{cutoff_with}
use Rattle.bl_journal.specs.declared.outcome.Outcome.{Outcome}
use Rattle.bl_journal.specs.declared.outcome.Next.TheVariants.{Shut as ShutNext}
use Rattle.bl_branch.specs.declared.place.Place.{Place}
use Rattle.bl_branch.specs.Calls.{Calls, Answers}
use Rattle.bl_node.specs.declared.working.Working.{Working}
use Rattle.bl_node.specs.declared.working.Pass.{Pass}
use Rattle.bl_node.specs.declared.working.Pass.TheVariants.{Shut, Changed, Same}
use Rattle.bl_node.specs.Boxes.{Shrinks, BoxMeets, decisions_in}
use Rattle.bl_node.specs.Standing.{box_of, Stands, Narrows, Knows, Leaves, IsAboveUnits, is_reached}
use Rattle.bl_mods.specs.Mods.{fresh_in}
use Rattle.bl_node.specs.declared.limits.Limits.{Limits}
use Rattle.bl_node.specs.declared.state.State.{State}
use Rattle.bl_cover.specs.declared.separator.Try.{Try}
use Rattle.bl_node.specs.Names.{AreNamed}
use Rattle.bl_node.specs.Tried.{IsTried, AreTried}
use Rattle.bl_node.specs.Outcomes.{IsSplitAt}
use Rattle.bl_node.specs.Promise.{AddsCuts, SplitsAsPromised, IsCutOff}
use Rattle.bl_node.proofs.Shrinking.{met_later}

pub stands-open : (p : Program) (f : Desc Cut) (cutoff : Option ℤ) (pass : Pass) (w : Working)
    → (pass ≡ Shut → ⊥) → Knows p f cutoff pass w → Stands p f cutoff w
stands-open p f cutoff Shut w n k = absurd (n refl)
stands-open p f cutoff Changed w n k = k
stands-open p f cutoff Same w n k = k

pub narrows-open : (p : Program) (f : Desc Cut) (pass : Pass) (w : Working) → (pass ≡ Shut → ⊥)
    → Leaves p f pass w → Narrows p f w
narrows-open p f Shut w n k = absurd (n refl)
narrows-open p f Changed w n k = k
narrows-open p f Same w n k = k

-- a greater number is at least each unit bound too
above-units : (p : Program) (f : Desc Cut) (a b : ℤ) → a ≤ℤ b → IsAboveUnits p f a
    → IsAboveUnits p f b
above-units p f a b l u = λ y i. more (bound_of p f y (pos 1)) (u y i)
  where
    more : (o : Option ℤ) → IfSome o (λ c. c ≤ℤ a) → IfSome o (λ c. c ≤ℤ b)
    more None h = tt
    more (Some c) h = omega (arith, ints, l, h)

pub promised : {F : Type 0} (g : Calls F) (closure : F) (p : Program) (f : Desc Cut) (form : Form)
    (old w : Working) (point : List Fixed) (o : Outcome)
    → IsSplitAt (λ place. Answers g closure w.desc point place) f w form o
    → Shrinks (box_of old.desc) (box_of w.desc) → old.low ≤ℤ w.low
    → All (BoxMeets (box_of old.desc)) (decisions_in (tightened_of p f))
    → IsAboveUnits p f old.low → Narrows p f w → (o.next ≡ ShutNext)
    ⊎ SplitsAsPromised g closure p f form o
promised g closure p f form old w point o (inl e) s l m u n = inl e
promised g closure p f form old w point o (inr t) s l m u n = inr (record {
  place = t.0;
  work = w;
  point = point;
  answers = t.1.0;
  narrows = n;
  is = t.1.1;
  met = met_later (box_of old.desc) (box_of w.desc) (decisions_in (tightened_of p f)) s m;
  units = subst (IsAboveUnits p f) (sym t.1.1.low) (above-units p f old.low w.low l u);
})

reached-by : (p : Program) (limit low : ℤ) (found : Option (List ℤ)) → limit ≤ℤ low
    → is_reached low (cutoff_with p (Some limit) found) ≡ true
reached-by p limit low None h = grind (arith, ints, h)
reached-by p limit low (Some x) h = let k : int_min limit (value_of p x) ≤ℤ low =
    omega (arith, ints, clamps, h) in grind (arith, ints, k)

-- a unit bound that isn't below the cutoff is seen by the first test
pub cut_off-seen : (p : Program) (f : Desc Cut) (cutoff : Option ℤ) (w : Working)
    → Stands p f cutoff w → IsAboveUnits p f w.low → IsCutOff p f cutoff → is_reached w.low w.best
    ≡ true
cut_off-seen p f cutoff w s u e =
    let b = rw e.is at (u e.y e.unit) in
    let r = e.reached in
    let l : e.limit ≤ℤ w.low = omega (arith, ints, b, r) in
    ap (is_reached w.low) (s.best_is ∙ ap (λ (o : Option ℤ). cutoff_with p o w.found) e.cutoff_is)
    ∙ reached-by p e.limit w.low w.found l

-- the cuts of a split are those that the node's description lacks
pub adds-cuts : (allows : Desc Cut → Try → Type 0) (p : Program) (f : Desc Cut) (form : Form)
    (P : Place → Type 0) (limits : Limits) (st : State) (w : Working) (o : Outcome) → st.limits
    ≡ limits → AreNamed f st → AreTried allows p f st → w.desc.cuts ≡ st.work.desc.cuts
    → IsSplitAt P f w form o → AddsCuts allows p f limits o.next
adds-cuts allows p f form P limits st w o l n t c (inl e) =
    rw e (record { numbered = tt; few = omega arith; tried = All-nil (IsTried allows p f) })
adds-cuts allows p f form P limits st w o l n t c (inr s) =
    let added : fresh_in (λ (k : Cut). k.id) f.cuts w.desc.cuts
    ≡ fresh_in (λ (k : Cut). k.id) f.cuts st.work.desc.cuts =
    ap (fresh_in (λ (k : Cut). k.id) f.cuts) c in
    rw s.1.1.next (record {
      numbered = rw (added, sym l) n.numbered;
      few = let m = n.made in let k = n.few in rw (added, sym l) (omega (arith, m, k));
      tried = rw added t;
    })

-- what holds of an outcome, if there is one
pub if-three : {A E : Type 0} {P Q S R : A → Type 0} (r : Result A E)
    → ((a : A) → P a → Q a → S a → R a) → IfOk r P → IfOk r Q → IfOk r S → IfOk r R
if-three (Ok a) f h k m = f a h k m
if-three (Err e) f h k m = tt

pub if-so : {A E : Type 0} {P Q : A → Type 0} (r : Result A E) → ((a : A) → P a → Q a) → IfOk r P
    → IfOk r Q
if-so (Ok a) f h = f a h
if-so (Err e) f h = tt
