-- Steps along a chain.
use Rattle.std.proofs.Common.{◌≡◌, ℕ, ◌+◌, ◌<◌, List, [], ◌∷◌, ◌++◌, length, get_or, drop, refl}
use Rattle.std.proofs.Common.{ap, sym, ◌∙◌, Option, Some, None}
use Rattle.std.proofs.lemmas.List.{drop_more}
use Rattle.bl_mods.proofs.Relisting.{length-written}
use Rattle.bl_desc.specs.declared.desc.Desc.{Desc}
use Rattle.bl_desc.specs.declared.change.Change.{Change}
use Rattle.bl_desc.specs.Changes.{changed, IsWhole, cut_status_after}
use Rattle.bl_desc.proofs.Canonical.{length-cut_status_after}
use Rattle.bl_rebuild.specs.Chains.{present}

pub present-append : {X : Type 0} (xs ys : List (Option X)) → present (xs ++ ys) ≡ present xs
    ++ present ys
present-append [] ys = refl
present-append (Some x ∷ xs) ys = ap (λ l. x ∷ l) (present-append xs ys)
present-append (None ∷ xs) ys = present-append xs ys

-- a change leaves a whole description whole
pub IsWhole-changed : {C : Type 0} (c : Change C) (d : Desc C) → IsWhole d → IsWhole (changed c d)
IsWhole-changed c d w =
    record {
      highs = length-written c.highs d.highs ∙ (w.highs ∙ sym (length-written c.lows d.lows));
      columns = length-written c.columns d.column_status
          ∙ (w.columns ∙ sym (length-written c.lows d.lows));
      cuts = length-written c.fresh (cut_status_after c.cuts d.cut_status)
          ∙ length-cut_status_after c.cuts d.cuts d.cut_status w.cuts;
    }

pub present_more : {C : Type 0} (ps : List (Option (Change C))) (i : ℕ) (c : Change C)
    (p : Option (Change C)) → i < length ps → p ≡ get_or ps i p → p ≡ Some c
    → present (drop i ps) ≡ c ∷ present (drop (i + 1) ps)
present_more {C} ps i c p h e s =
    ap present (drop_more ps i p h)
    ∙ ap (λ (o : Option (Change C)). present (o ∷ drop (i + 1) ps)) (sym e ∙ s)

pub present_none : {C : Type 0} (ps : List (Option (Change C))) (i : ℕ) (p : Option (Change C))
    → i < length ps → p ≡ get_or ps i p → p ≡ None
    → present (drop i ps) ≡ present (drop (i + 1) ps)
present_none {C} ps i p h e s =
    ap present (drop_more ps i p h)
    ∙ ap (λ (o : Option (Change C)). present (o ∷ drop (i + 1) ps)) (sym e ∙ s)
