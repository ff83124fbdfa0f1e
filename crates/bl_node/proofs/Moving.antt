-- Moves come one after another, and end where the node is shut.
use Rattle.std.proofs.Common.{◌≡◌, ℤ, ◌≤ℤ◌, [], arith, refl, sym, ◌∙◌, Option, Bool, true, false}
use Rattle.std.specs.Prelude.{IsTrue}
use Rattle.std.specs.Int.{int_max}
use Rattle.std.proofs.lemmas.Int.{ints, clamps}
use Rattle.std.proofs.lemmas.Bool.{false≢true}
use Rattle.std.proofs.lemmas.List.Elements.{All-nil}
use Rattle.bl_mods.specs.Mods.{fresh_in}
use Rattle.bl_problem.specs.Program.{Program}
use Rattle.bl_problem.specs.declared.cut.Cut.{Cut}
use Rattle.bl_desc.specs.declared.desc.Desc.{Desc}
use Rattle.bl_node.specs.declared.limits.Limits.{Limits}
use Rattle.bl_node.specs.declared.state.State.{State}
use Rattle.bl_node.specs.declared.working.Working.{Working}
use Rattle.bl_node.specs.Boxes.{Shrinks}
use Rattle.bl_node.specs.Names.{AreNamed, AreNamedBelow}
use Rattle.bl_node.specs.Standing.{box_of, OfAllInQuestion, Stands, Narrows}
use Rattle.bl_cover.specs.declared.separator.Try.{Try}
use Rattle.bl_node.specs.Tried.{IsTried, AreTried}
use Rattle.bl_node.specs.Moves.{IsOpen, IsKnown, KeepsCuts, AddsTries, MovesBy, Moves, CutMoves}
use Rattle.bl_node.proofs.Shrinking.{shrinks_then}
use Rattle.bl_node.proofs.First.{shrinks-same}

-- the state with other work, and shut or not
abbrev pub state_with : State → Working → Bool → State
state_with s w shut = record { work = w; limits = s.limits; made = s.made; is_shut = shut }

-- the names stay where the cuts do
named-same : (f : Desc Cut) (a b : State) → b.limits ≡ a.limits → KeepsCuts a b → AreNamed f a
    → AreNamed f b
named-same f a b l k n = record {
  numbered = rw (l, k.cuts) n.numbered;
  made = rw (k.cuts, k.made) n.made;
  few = rw (l, k.made) n.few;
  parent_below = rw l n.parent_below;
  below = rw (l, k.cuts, k.made) n.below;
}

-- and so do the tries
pub adds-none : (allows : Desc Cut → Try → Type 0) (p : Program) (f : Desc Cut) (a b : State)
    → b.limits ≡ a.limits → KeepsCuts a b → AddsTries allows p f a b
adds-none allows p f a b l k = record { named = named-same f a b l k; tried = λ t. rw k.cuts t }

by-then : {R S T : State → State → Type 0} (p : Program) (f : Desc Cut) (a b c : State)
    → (R a b → S b c → T a c) → MovesBy R p f a b → MovesBy S p f b c → MovesBy T p f a c
by-then p f a b c rest h k = record {
  within = k.within;
  known = λ cutoff s. k.known cutoff (h.known cutoff s);
  shrinks = shrinks_then (box_of a.work.desc) (box_of b.work.desc) (box_of c.work.desc) h.shrinks
      k.shrinks;
  low = let l = h.low in let m = k.low in omega (arith, ints, l, m);
  limits = k.limits ∙ h.limits;
  cuts = rest h.cuts k.cuts;
}

pub moves-then : (p : Program) (f : Desc Cut) (a b c : State) → Moves p f a b → Moves p f b c
    → Moves p f a c
moves-then p f a b c = by-then p f a b c
    (λ h k. record { cuts = k.cuts ∙ h.cuts; made = k.made ∙ h.made })

-- moves with new cuts come one after another
pub cut-moves-then : (allows : Desc Cut → Try → Type 0) (p : Program) (f : Desc Cut)
    (a b c : State) → CutMoves allows p f a b → CutMoves allows p f b c → CutMoves allows p f a c
cut-moves-then allows p f a b c = by-then p f a b c
    (λ h k. record { named = λ n. k.named (h.named n); tried = λ t. k.tried (h.tried t) })

-- a move that keeps the cuts is one
pub as-cut-moves : (allows : Desc Cut → Try → Type 0) (p : Program) (f : Desc Cut) (a b : State)
    → Moves p f a b → CutMoves allows p f a b
as-cut-moves allows p f a b h = record {
  within = h.within;
  known = h.known;
  shrinks = h.shrinks;
  low = h.low;
  limits = h.limits;
  cuts = adds-none allows p f a b h.limits h.cuts;
}

pub moves-none : (p : Program) (f : Desc Cut) (s : State) → IsOpen p f s → Moves p f s s
moves-none p f s o = record {
  within = o;
  known = λ cutoff k. k;
  shrinks = shrinks-same (box_of s.work.desc);
  low = omega (arith, ints);
  limits = refl;
  cuts = record { cuts = refl; made = refl };
}

-- the work went on with the same cuts, and points may be left
pub moves-on : (p : Program) (f : Desc Cut) (old : State) (w : Working) → old.is_shut ≡ false
    → ((cutoff : Option ℤ) → Stands p f cutoff old.work → Stands p f cutoff w)
    → Narrows p f w → Shrinks (box_of old.work.desc) (box_of w.desc) → old.work.low ≤ℤ w.low
    → w.desc.cuts ≡ old.work.desc.cuts → Moves p f old (state_with old w old.is_shut)
moves-on p f old w o stands narrows shrinks low cuts = record {
  within = λ e. narrows;
  known = λ cutoff k. record {
    stands = stands cutoff k.stands;
    none =
        λ (t : IsTrue old.is_shut). absurd (false≢true (sym o ∙ t));
  };
  shrinks = shrinks;
  low = low;
  limits = refl;
  cuts = record { cuts = cuts; made = refl };
}

-- the work went on with the same cuts, and no point in question is left
pub moves-shut : (p : Program) (f : Desc Cut) (old : State) (w : Working)
    → ((cutoff : Option ℤ) → Stands p f cutoff old.work → Stands p f cutoff w)
    → ((cutoff : Option ℤ) → Stands p f cutoff old.work → OfAllInQuestion p f w (λ x. ⊥))
    → Shrinks (box_of old.work.desc) (box_of w.desc) → old.work.low ≤ℤ w.low
    → w.desc.cuts ≡ old.work.desc.cuts → Moves p f old (state_with old w true)
moves-shut p f old w stands none shrinks low cuts = record {
  within = λ e. absurd cc;
  known = λ cutoff k. record { stands = stands cutoff k.stands; none = λ t. none cutoff k.stands };
  shrinks = shrinks;
  low = low;
  limits = refl;
  cuts = record { cuts = cuts; made = refl };
}

-- the state at the beginning
abbrev pub first_of : Working → Limits → State
first_of w limits = record { work = w; limits = limits; made = 0; is_shut = false }

-- at an open state nothing more is known than of its work
pub known-first : (p : Program) (f : Desc Cut) (cutoff : Option ℤ) (w : Working) (limits : Limits)
    → Stands p f cutoff w → IsKnown p f cutoff (first_of w limits)
known-first p f cutoff w limits s = record { stands = s; none = λ t. absurd (false≢true t) }

-- no cut was made yet
pub named-first : (f : Desc Cut) (w : Working) (limits : Limits) → w.desc.cuts ≡ f.cuts
    → fresh_in (λ (c : Cut). c.id) f.cuts f.cuts ≡ [] → AreNamedBelow limits.seat limits.serial
    f.cuts
    → AreNamed f (first_of w limits)
named-first f w limits e none b = record {
  numbered = rw (e, none) tt;
  made = rw (e, none) refl;
  few = omega arith;
  parent_below = b;
  below = rw e (λ i d l s. let k = b i d l s in omega (arith, k));
}

-- the first state has no cuts but the node's
pub tried-first : (allows : Desc Cut → Try → Type 0) (p : Program) (f : Desc Cut) (w : Working)
    (limits : Limits) → w.desc.cuts ≡ f.cuts → fresh_in (λ (c : Cut). c.id) f.cuts f.cuts ≡ []
    → AreTried allows p f (first_of w limits)
tried-first allows p f w limits e none = rw (e, none) (All-nil (IsTried allows p f))

-- the greater of two numbers is at least the first
pub risen : (a b c : ℤ) → c ≡ int_max a b → a ≤ℤ c
risen a b c e = omega (arith, ints, clamps, e)
