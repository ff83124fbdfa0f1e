-- The next name of a seat is new.
use Rattle.std.proofs.Common.{◌≡◌, ℕ, ◌+◌, ◌<◌, List, [], ◌∷◌, ◌++◌, length, arith, refl, ap, ◌∙◌}
use Rattle.std.proofs.Common.{Bool, cond, true, false}
use Rattle.std.specs.Prelude.{◌||◌}
use Rattle.std.proofs.lemmas.List.Elements.{All-head, All-tail, All-push}
use Rattle.bl_mods.specs.declared.mods.ItemId.{ItemId}
use Rattle.bl_mods.specs.Mods.{has_id, same_id, fresh_in}
use Rattle.bl_mods.proofs.Relisting.{same_id-is, same_id-self}
use Rattle.bl_problem.specs.declared.cut.Cut.{Cut}
use Rattle.bl_desc.specs.declared.desc.Desc.{Desc}
use Rattle.bl_node.specs.declared.working.Working.{Working}
use Rattle.std.proofs.lemmas.List.{length-append}
use Rattle.bl_node.specs.declared.state.State.{State}
use Rattle.bl_problem.specs.Program.{Program}
use Rattle.bl_cover.specs.declared.separator.Try.{Try}
use Rattle.bl_node.specs.Names.{AreNamedBelow, AreNumbered, AreNamed}
use Rattle.bl_node.specs.Tried.{IsTried, AreTried}
use Rattle.bl_node.proofs.Adding.{fresh-push}
use Rattle.bl_node.specs.Standing.{IsNewTo}

lacks-next : (seat next : ℕ) (cuts : List Cut) → AreNamedBelow seat next cuts
    → has_id (λ (c : Cut). c.id) (record { seat = seat; serial = next }) cuts ≡ false
lacks-next seat next [] h = refl
lacks-next seat next (c ∷ cuts) h =
    by (same_id c.id (record { seat = seat; serial = next })) refl
    (All-head (λ (d : Cut). d.id.seat ≡ seat → d.id.serial < next) c cuts h)
    (lacks-next seat next cuts
    (All-tail (λ (d : Cut). d.id.seat ≡ seat → d.id.serial < next) c cuts h))
  where
    by : (b : Bool) → same_id c.id (record { seat = seat; serial = next }) ≡ b
        → (c.id.seat ≡ seat → c.id.serial < next)
        → has_id (λ (d : Cut). d.id) (record { seat = seat; serial = next }) cuts ≡ false
        → (same_id c.id (record { seat = seat; serial = next })
        || has_id (λ (d : Cut). d.id) (record { seat = seat; serial = next }) cuts) ≡ false
    by true e first i =
        let s = same_id-is c.id (record { seat = seat; serial = next }) e in
        let a : c.id.serial < next = first (ap (λ (k : ItemId). k.seat) s) in
        let b : c.id.serial ≡ next = ap (λ (k : ItemId). k.serial) s in
        absurd (omega (arith, a, b))
    by false e first i =
        ap (λ (t : Bool). t || has_id (λ (d : Cut). d.id) (record { seat = seat; serial = next })
        cuts) e ∙ i

pub next-is-new : (f : Desc Cut) (w : Working) (cut : Cut) (seat next : ℕ) → cut.id
    ≡ record { seat = seat; serial = next } → AreNamedBelow seat next f.cuts
    → AreNamedBelow seat next w.desc.cuts → IsNewTo f w cut
next-is-new f w cut seat next e h k = record {
  parent = rw e (lacks-next seat next f.cuts h);
  here = rw e (lacks-next seat next w.desc.cuts k);
}

-- after a new cut the next number is free
pub named-more : (cuts : List Cut) (cut : Cut) (seat next : ℕ) → cut.id
    ≡ record { seat = seat; serial = next } → AreNamedBelow seat next cuts
    → AreNamedBelow seat (next + 1) (cuts ++ cut ∷ [])
named-more cuts cut seat next e h =
    All-push (λ (d : Cut). d.id.seat ≡ seat → d.id.serial < next + 1) cuts cut
    (λ i d l s. let a = h i d l s in omega (arith, a))
    (λ s. let b : cut.id.serial ≡ next = ap (λ (k : ItemId). k.serial) e in omega (arith, b))

or-true : (a b : Bool) → b ≡ true → (a || b) ≡ true
or-true true b e = refl
or-true false b e = e

no-fresh : (old new : List Cut) → ((c : Cut) → has_id (λ (d : Cut). d.id) c.id new ≡ true
    → has_id (λ (d : Cut). d.id) c.id old ≡ true) → fresh_in (λ (c : Cut). c.id) old new ≡ []
no-fresh old [] h = refl
no-fresh old (c ∷ new) h =
    ap (λ (b : Bool). cond b (fresh_in (λ (d : Cut). d.id) old new)
    (c ∷ fresh_in (λ (d : Cut). d.id) old new))
    (h c (ap (λ (b : Bool). b || has_id (λ (d : Cut). d.id) c.id new) (same_id-self c.id)))
    ∙ no-fresh old new (λ d e. h d
    (or-true (same_id c.id d.id) (has_id (λ (k : Cut). k.id) d.id new) e))

-- a list lacks none of its own cuts
pub none-fresh : (cuts : List Cut) → fresh_in (λ (c : Cut). c.id) cuts cuts ≡ []
none-fresh cuts = no-fresh cuts cuts (λ c h. h)

pub numbered-push : (seat serial n : ℕ) (cuts : List Cut) (cut : Cut)
    → AreNumbered seat serial cuts → n ≡ serial + length cuts → cut.id
    ≡ record { seat = seat; serial = n } → AreNumbered seat serial (cuts ++ cut ∷ [])
numbered-push seat serial n [] cut a e h =
    (h ∙ ap (λ (k : ℕ). record { seat = seat; serial = k }) (omega (arith, e)), tt)
numbered-push seat serial n (c ∷ cuts) cut a e h =
    (a.0, numbered-push seat (serial + 1) n cuts cut a.1 (omega (arith, e)) h)

-- a cut of the next name is one that the node's description lacks
fresh-added : (f : Desc Cut) (s : State) (w : Working) (cut : Cut) → w.desc.cuts
    ≡ s.work.desc.cuts ++ cut ∷ [] → cut.id
    ≡ record { seat = s.limits.seat; serial = s.limits.serial + s.made } → AreNamed f s
    → fresh_in (λ (c : Cut). c.id) f.cuts w.desc.cuts
    ≡ fresh_in (λ (c : Cut). c.id) f.cuts s.work.desc.cuts ++ cut ∷ []
fresh-added f s w cut e h n =
    let new : has_id (λ (c : Cut). c.id) cut.id f.cuts ≡ false =
    rw h (lacks-next s.limits.seat (s.limits.serial + s.made) f.cuts (λ i d l t. let b =
    n.parent_below i d l t in omega (arith, b))) in
    ap (fresh_in (λ (c : Cut). c.id) f.cuts) e
    ∙ fresh-push (λ (c : Cut). c.id) f.cuts s.work.desc.cuts cut new

-- the state with one more cut, which carries the next name
pub named-added : (f : Desc Cut) (s : State) (w : Working) (cut : Cut) → w.desc.cuts
    ≡ s.work.desc.cuts ++ cut ∷ [] → cut.id
    ≡ record { seat = s.limits.seat; serial = s.limits.serial + s.made }
    → s.made < s.limits.new_cuts → AreNamed f s
    → AreNamed f (record { work = w; limits = s.limits; made = s.made + 1; is_shut = s.is_shut })
named-added f s w cut e h few n =
    let fresh = fresh-added f s w cut e h n in
    let made = n.made in
    record {
      numbered = rw fresh (numbered-push s.limits.seat s.limits.serial (s.limits.serial + s.made)
          (fresh_in (λ (c : Cut). c.id) f.cuts s.work.desc.cuts) cut n.numbered
          (omega (arith, made)) h);
      made = rw fresh (let l = length-append
          (fresh_in (λ (c : Cut). c.id) f.cuts s.work.desc.cuts) (cut ∷ []) in omega
          (arith, l, made));
      few = omega (arith, few);
      parent_below = n.parent_below;
      below = rw e (λ i d l t. let b = named-more s.work.desc.cuts cut s.limits.seat
          (s.limits.serial + s.made) h n.below i d l t in omega (arith, b));
    }

-- and which comes from a try
pub tried-added : (allows : Desc Cut → Try → Type 0) (p : Program) (f : Desc Cut) (s : State)
    (w : Working) (cut : Cut) → w.desc.cuts ≡ s.work.desc.cuts ++ cut ∷ []
    → cut.id ≡ record { seat = s.limits.seat; serial = s.limits.serial + s.made } → AreNamed f s
    → IsTried allows p f cut → AreTried allows p f s
    → AreTried allows p f (record {
      work = w;
      limits = s.limits;
      made = s.made + 1;
      is_shut =
          s.is_shut;
    })
tried-added allows p f s w cut e h n t a = rw (fresh-added f s w cut e h n)
    (All-push (IsTried allows p f) (fresh_in (λ (c : Cut). c.id) f.cuts s.work.desc.cuts) cut a t)

-- and its name is new
pub new-name : (f : Desc Cut) (s : State) (cut : Cut) → cut.id
    ≡ record { seat = s.limits.seat; serial = s.limits.serial + s.made } → AreNamed f s
    → IsNewTo f s.work cut
new-name f s cut h n = next-is-new f s.work cut s.limits.seat (s.limits.serial + s.made) h
    (λ i d l t. let b = n.parent_below i d l t in omega (arith, b)) n.below
