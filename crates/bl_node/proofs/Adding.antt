-- A cut of a new name, behind those so far.
use Rattle.std.proofs.Common.{◌≡◌, ◌≢◌, ℕ, zero, suc, ◌+◌, ◌<◌, Option, ℤ, List, [], ◌∷◌, ◌++◌}
use Rattle.std.proofs.Common.{length, arith, refl, sym, ◌∙◌, ap, Bool, true, false, cond}
use Rattle.std.proofs.Common.{append_assoc}
use Rattle.std.specs.Prelude.{◌||◌, slice_index_or}
use Rattle.std.specs.List.{filter}
use Rattle.std.proofs.lemmas.Bool.{false≢true}
use Rattle.std.proofs.lemmas.List.Quantifiers.{all_pairs_push}
use Rattle.std.proofs.lemmas.List.{length-append}
use Rattle.std.proofs.lemmas.List.Elements.{All-push}
use Rattle.bl_problem.specs.Program.{Program}
use Rattle.bl_problem.specs.Cuts.{SuitsProblem, IsValidCut}
use Rattle.bl_problem.specs.declared.cut.Cut.{Cut}
use Rattle.bl_desc.specs.declared.desc.Desc.{Desc}
use Rattle.bl_desc.specs.declared.desc.Status.{Status}
use Rattle.bl_journal.specs.declared.limits.TheConstants.{MOST_CUTS}
use Rattle.bl_node.specs.declared.working.Working.{Working}
use Rattle.bl_node.specs.Standing.{Stands, Narrows, IsNewTo}
use Rattle.bl_mods.specs.declared.mods.ItemId.{ItemId}
use Rattle.bl_mods.specs.Mods.{has_id, same_id, fresh_in, IsPartThenFresh}
use Rattle.bl_mods.proofs.Relisting.{has_id-append, same_id-is, same_id-self}

pub fresh-push : {C : Type 0} (id_of : C → ItemId) (old new : List C) (c : C)
    → has_id id_of (id_of c) old ≡ false → fresh_in id_of old (new ++ c ∷ [])
    ≡ fresh_in id_of old new ++ c ∷ []
fresh-push {C} id_of old [] c h = ap (λ (b : Bool). cond b [] (c ∷ [])) h
fresh-push {C} id_of old (y ∷ new) c h =
    by (has_id id_of (id_of y) old) (fresh-push id_of old new c h)
  where
    by : (b : Bool) → fresh_in id_of old (new ++ c ∷ []) ≡ fresh_in id_of old new ++ c ∷ []
        → cond b (fresh_in id_of old (new ++ c ∷ [])) (y ∷ fresh_in id_of old (new ++ c ∷ []))
        ≡ cond b (fresh_in id_of old new) (y ∷ fresh_in id_of old new) ++ c ∷ []
    by true i = i
    by false i = ap (λ (l : List C). y ∷ l) i

or-false : (a b : Bool) → (a || b) ≡ false → (a ≡ false) × (b ≡ false)
or-false true b e = absurd cc
or-false false b e = (refl, e)

or-none : (a b : Bool) → b ≡ false → (a || b) ≡ a
or-none true b e = refl
or-none false b e = e

-- ids that differ one way differ the other way
other-way : (a b : ItemId) → same_id a b ≡ false → same_id b a ≡ false
other-way a b h = by (same_id b a) refl
  where
    by : (t : Bool) → same_id b a ≡ t → same_id b a ≡ false
    by true e =
        absurd (false≢true (sym h
        ∙ (ap (λ (z : ItemId). same_id a z) (same_id-is b a e) ∙ same_id-self a)))
    by false e = e

-- the items of xs that a list has are those that it has with c behind
filter-push : {C : Type 0} (id_of : C → ItemId) (xs new : List C) (c : C)
    → has_id id_of (id_of c) xs ≡ false →
    filter (λ x. has_id id_of (id_of x) (new ++ c ∷ [])) xs
    ≡ filter (λ x. has_id id_of (id_of x) new) xs
filter-push id_of [] new c h = refl
filter-push {C} id_of (x ∷ xs) new c h =
    let p = or-false (same_id (id_of x) (id_of c)) (has_id id_of (id_of c) xs) h in
    let last : has_id id_of (id_of x) (c ∷ []) ≡ false =
    ap (λ (b : Bool). b || false) (other-way (id_of x) (id_of c) p.0) in
    let e : has_id id_of (id_of x) (new ++ c ∷ []) ≡ has_id id_of (id_of x) new =
    has_id-append id_of (id_of x) new (c ∷ [])
    ∙ or-none (has_id id_of (id_of x) new) (has_id id_of (id_of x) (c ∷ [])) last in
    let i = filter-push id_of xs new c p.1 in
    ap (λ (b : Bool). cond b (x ∷ filter (λ y. has_id id_of (id_of y) (new ++ c ∷ [])) xs)
    (filter (λ y. has_id id_of (id_of y) (new ++ c ∷ [])) xs)) e
    ∙ ap (λ (l : List C). cond (has_id id_of (id_of x) new) (x ∷ l) l) i

pub part-push : {C : Type 0} (id_of : C → ItemId) (old new : List C) (c : C)
    → has_id id_of (id_of c) old ≡ false → IsPartThenFresh id_of old new
    → IsPartThenFresh id_of old (new ++ c ∷ [])
part-push {C} id_of old new c h p =
    ap (λ (l : List C). l ++ c ∷ []) p
    ∙ append_assoc (filter (λ x. has_id id_of (id_of x) new) old) (fresh_in id_of old new) (c ∷ [])
    ∙ ap (λ (l : List C). filter (λ x. has_id id_of (id_of x) new) old ++ l)
    (sym (fresh-push id_of old new c h))
    ∙ ap (λ (l : List C). l ++ fresh_in id_of old (new ++ c ∷ []))
    (sym (filter-push id_of old new c h))

lacks-differ : {C : Type 0} (id_of : C → ItemId) (id : ItemId) (xs : List C) → has_id id_of id xs
    ≡ false → (k : ℕ) (d : C) → k < length xs → id_of (slice_index_or xs k d) ≢ id
lacks-differ id_of id [] h k d l = absurd (omega (arith, l))
lacks-differ {C} id_of id (x ∷ xs) h zero d l =
    λ e. false≢true (sym (or-false (same_id (id_of x) id) (has_id id_of id xs) h).0
    ∙ (ap (λ (z : ItemId). same_id (id_of x) z) (sym e) ∙ same_id-self (id_of x)))
lacks-differ {C} id_of id (x ∷ xs) h (suc k) d l =
    lacks-differ id_of id xs (or-false (same_id (id_of x) id) (has_id id_of id xs) h).1 k d
    (omega (arith, l))

-- the state with other cuts
abbrev pub with_cuts : Working → List Cut → List Status → Working
with_cuts w cuts status = record {
  desc = record {
    lows = w.desc.lows;
    highs = w.desc.highs;
    cuts = cuts;
    column_status =
        w.desc.column_status;
    row_status = w.desc.row_status;
    cut_status = status;
  };
  found = w.found;
  best = w.best;
  low = w.low;
  decided = w.decided;
}

pub stands-cut : (p : Program) (f : Desc Cut) (cutoff : Option ℤ) (w : Working) (cut : Cut)
    (cuts : List Cut) (status : List Status) → cuts ≡ w.desc.cuts ++ cut ∷ [] → IsValidCut p cut
    → Stands p f cutoff w → Stands p f cutoff (with_cuts w cuts status)
stands-cut p f cutoff w cut cuts status e v s = record {
  best_is = s.best_is;
  found = s.found;
  better = s.better;
  inside = s.inside;
  low = s.low;
  cuts = rw e (All-push (IsValidCut p) w.desc.cuts cut s.cuts v);
}

pub narrows-cut : (p : Program) (f : Desc Cut) (w : Working) (cut : Cut) (cuts : List Cut)
    (status : List Status) → cuts ≡ w.desc.cuts ++ cut ∷ [] → length status
    ≡ length w.desc.cut_status + 1
    → length w.desc.cuts < MOST_CUTS → SuitsProblem p cut → IsNewTo f w cut → Narrows p f w
    → Narrows p f (with_cuts w cuts status)
narrows-cut p f w cut cuts status e t few suits new n =
    let l : length cuts ≡ length w.desc.cuts + 1 = ap (λ (c : List Cut). length c) e
    ∙ length-append w.desc.cuts (cut ∷ []) in
    record {
      describes = record {
        lows = n.describes.lows;
        highs = n.describes.highs;
        near_lows = n.describes.near_lows;
        near_highs = n.describes.near_highs;
        few_cuts = omega (arith, l, few);
        cuts = rw e (All-push (SuitsProblem p) w.desc.cuts cut n.describes.cuts suits);
      };
      whole = record {
        highs = n.whole.highs;
        columns = n.whole.columns;
        cuts = let c =
            n.whole.cuts in omega (arith, l, t, c);
      };
      rows = n.rows;
      low_width = n.low_width;
      high_width = n.high_width;
      point = n.point;
      lows_rise = n.lows_rise;
      highs_fall = n.highs_fall;
      part = rw e (part-push (λ (c : Cut). c.id) f.cuts w.desc.cuts cut new.parent n.part);
      ids = rw e (all_pairs_push (λ (a b : Cut). a.id ≢ b.id) w.desc.cuts cut n.ids
          (λ k d l. lacks-differ (λ (c : Cut). c.id) cut.id w.desc.cuts new.here k d l));
      few = n.few;
      decided = n.decided;
    }
