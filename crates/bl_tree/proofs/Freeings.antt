-- Freeing over plain lists of records.
use Rattle.std.proofs.Common.{◌≡◌, ℕ, zero, suc, ◌+◌, ◌<◌, List, [], ◌∷◌, ◌++◌, length, refl, ap}
use Rattle.std.proofs.Common.{sym, ◌∙◌, subst, arith, Bool, true, false, cond, Some, None, Option}
use Rattle.std.proofs.Common.{length-set}
use Rattle.std.specs.Prelude.{slice_get, ℤ}
use Rattle.std.proofs.lemmas.Option.{slice_get_within}
use Rattle.bl_tree.specs.declared.record.Record.{Record}
use Rattle.bl_tree.specs.Records.{gone_record, gone_if, gone_at, may_go_at, may_go_if, if_may_go}
use Rattle.bl_tree.specs.Records.{parent_if, next_up, IsFreedTo, IsFreeingUp, depth_if, IsLinked}
use Rattle.bl_tree.specs.Records.{AreLinked}

gone_if-cons : (x : Record) (rs : List Record) (k : ℕ) (o : Option Record)
    → gone_if (x ∷ rs) (suc k) o ≡ x ∷ gone_if rs k o
gone_if-cons x rs k None = refl
gone_if-cons x rs k (Some r) = refl

pub length-gone : (rs : List Record) (k : ℕ) → length (gone_at rs k) ≡ length rs
length-gone rs k = by_option (slice_get rs k)
  where
    by_option : (o : Option Record) → length (gone_if rs k o) ≡ length rs
    by_option None = refl
    by_option (Some r) = length-set rs k (gone_record r)

-- what freeing leaves of each record
pub gone_keeps : {X : Type 0} (g : Option Record → X)
    → ((r : Record) → g (Some (gone_record r)) ≡ g (Some r)) → (rs : List Record) (k j : ℕ)
    → g (slice_get (gone_at rs k) j) ≡ g (slice_get rs j)
gone_keeps g same [] k j = refl
gone_keeps g same (x ∷ rs) zero zero = same x
gone_keeps g same (x ∷ rs) zero (suc j) = refl
gone_keeps g same (x ∷ rs) (suc k) zero =
    ap (λ (l : List Record). g (slice_get l zero)) (gone_if-cons x rs k (slice_get rs k))
gone_keeps g same (x ∷ rs) (suc k) (suc j) =
    ap (λ (l : List Record). g (slice_get l (suc j))) (gone_if-cons x rs k (slice_get rs k))
    ∙ gone_keeps g same rs k j

pub depth-gone : (rs : List Record) (k j : ℕ) → depth_if (slice_get (gone_at rs k) j)
    ≡ depth_if (slice_get rs j)
depth-gone rs k j = gone_keeps depth_if (λ r. refl) rs k j

pub parent-gone : (rs : List Record) (k j : ℕ) → parent_if (slice_get (gone_at rs k) j)
    ≡ parent_if (slice_get rs j)
parent-gone rs k j = gone_keeps parent_if (λ r. refl) rs k j

pub linked_gone : (rs : List Record) (k : ℕ) → AreLinked rs → AreLinked (gone_at rs k)
linked_gone rs k h id within =
    let len : length (gone_at rs k) ≡ length rs = length-gone rs k in
    at (parent_if (slice_get rs id)) (parent_if (slice_get (gone_at rs k) id))
    (parent-gone rs k id) (h id (omega (arith, within, len)))
  where
    at : (o o' : Option ℕ) → o' ≡ o → IsLinked rs id o (depth_if (slice_get rs id))
        → IsLinked (gone_at rs k) id o' (depth_if (slice_get (gone_at rs k) id))
    at None o' e l =
        subst (λ (o : Option ℕ). IsLinked (gone_at rs k) id o
        (depth_if (slice_get (gone_at rs k) id))) (sym e) tt
    at (Some q) o' e l =
        let there : depth_if (slice_get (gone_at rs k) q) ≡ depth_if (slice_get rs q) =
        depth-gone rs k q in
        let here : depth_if (slice_get (gone_at rs k) id) ≡ depth_if (slice_get rs id) =
        depth-gone rs k id in
        let old : depth_if (slice_get rs q) + 1 ≡ depth_if (slice_get rs id) = l.1 in
        subst (λ (o : Option ℕ). IsLinked (gone_at rs k) id o
        (depth_if (slice_get (gone_at rs k) id))) (sym e) (l.0, omega (arith, there, here, old))

-- one more parent is freed
pub freed_more : (cutoff : Option ℤ) (ids : List ℕ) (rs : List Record) (k last q : ℕ)
    (after : List Record) → IsFreedTo cutoff rs k ids last after → next_up cutoff after last
    ≡ Some q
    → IsFreedTo cutoff rs k (ids ++ q ∷ []) q (gone_at after q)
freed_more cutoff [] rs k last q after f up = (
  ap (λ (l : List Record). next_up cutoff l k) (sym f.1)
      ∙ (ap (next_up cutoff after) f.0 ∙ up),
  (refl, ap (λ (l : List Record). gone_at l q) f.1),
)
freed_more cutoff (i ∷ ids) rs k last q after f up =
    (f.0, freed_more cutoff ids (gone_at rs k) i last q after f.1 up)

-- the next node up is the parent, has a record and may go
pub record IsUp (cutoff : Option ℤ) (rs : List Record) (k q : ℕ) : Type 0 where
  pub parent : parent_if (slice_get rs k) ≡ Some q
  pub goes : may_go_at cutoff rs q ≡ true
  pub there : q < length rs

pub up_is : (cutoff : Option ℤ) (rs : List Record) (k q : ℕ) → next_up cutoff rs k ≡ Some q
    → IsUp cutoff rs k q
up_is cutoff rs k q e = by_parent (parent_if (slice_get rs k)) refl e
  where
    has : (o : Option Record) → slice_get rs q ≡ o → may_go_if cutoff rs o ≡ true → q < length rs
    has None s g = cc
    has (Some r) s g = slice_get_within rs q r s

    by_test : (i : ℕ) (t : Bool) → may_go_at cutoff rs i ≡ t → parent_if (slice_get rs k) ≡ Some i
        → cond t (Some i) None ≡ Some q → IsUp cutoff rs k q
    by_test i true g p f =
        let same : i ≡ q = cc in
        let goes : may_go_at cutoff rs q ≡ true = ap (may_go_at cutoff rs) (sym same) ∙ g in
        record { parent = p ∙ ap Some same; goes = goes; there = has (slice_get rs q) refl goes }
    by_test i false g p f = cc

    by_parent : (o : Option ℕ) → parent_if (slice_get rs k) ≡ o → if_may_go cutoff rs o ≡ Some q
        → IsUp cutoff rs k q
    by_parent None p f = cc
    by_parent (Some i) p f = by_test i (may_go_at cutoff rs i) refl p f

pub record StepUp (rs : List Record) (k q : ℕ) : Type 0 where
  pub lower : q < k
  pub less_deep : depth_if (slice_get rs q) + 1 ≡ depth_if (slice_get rs k)

pub step_up : (cutoff : Option ℤ) (rs : List Record) (k q : ℕ) → AreLinked rs → k < length rs
    → next_up cutoff rs k ≡ Some q → StepUp rs k q
step_up cutoff rs k q linked there e =
    let l : IsLinked rs k (Some q) (depth_if (slice_get rs k)) =
    subst (λ (o : Option ℕ). IsLinked rs k o (depth_if (slice_get rs k)))
    (up_is cutoff rs k q e).parent (linked k there) in
    record { lower = l.0; less_deep = l.1 }

pub freeing_more : (cutoff : Option ℤ) (rs : List Record) (k last q : ℕ) (ids : List ℕ)
    (after : List Record) → IsFreeingUp cutoff rs k ids last after → next_up cutoff after last
    ≡ Some q
    → IsFreeingUp cutoff rs k (ids ++ q ∷ []) q (gone_at after q)
freeing_more cutoff rs k last q ids after f up =
    record {
      others = f.others ++ q ∷ [];
      chain =
          ap (λ (l : List ℕ). l ++ q ∷ []) f.chain;
      freed =
          freed_more cutoff f.others rs k last q after f.freed up;
    }
