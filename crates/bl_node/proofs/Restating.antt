-- What is known stays known under other statuses, and few of them differ.
use Rattle.std.proofs.Common.{◌≡◌, ℕ, suc, ◌+◌, ◌≤◌, ◌<◌, Bool, true, false, cond, List, [], ◌∷◌}
use Rattle.std.proofs.Common.{◌++◌, length, arith, refl, sym, ◌∙◌, ap, subst, Option, ℤ, take}
use Rattle.std.proofs.Common.{get_or}
use Rattle.std.proofs.lemmas.List.{take_more, take_all, length-take-le}
use Rattle.bl_mods.specs.Mods.{differences}
use Rattle.bl_mods.proofs.Diffing.{unlike, length_differences}
use Rattle.bl_problem.specs.Program.{Program}
use Rattle.bl_problem.specs.declared.cut.Cut.{Cut}
use Rattle.bl_desc.specs.declared.desc.Desc.{Desc}
use Rattle.bl_desc.specs.declared.desc.Status.{Status}
use Rattle.bl_desc.specs.Changes.{same_status, cut_status_after}
use Rattle.bl_journal.specs.Soundness.{IsInQuestion}
use Rattle.bl_journal.specs.declared.limits.TheConstants.{MOST_CUTS}
use Rattle.bl_node.specs.declared.working.Working.{Working}
use Rattle.bl_node.specs.Boxes.{Shrinks}
use Rattle.bl_node.specs.Outcomes.{common_of, HasFewStatuses}
use Rattle.bl_node.specs.Standing.{box_of, Stands, Narrows, IsRestated}
use Rattle.bl_node.proofs.First.{shrinks-same, unlike-most, no-status}

pub stands-restated : (p : Program) (f : Desc Cut) (cutoff : Option ℤ) (old new : Working)
    → IsRestated old new → Stands p f cutoff old → Stands p f cutoff new
stands-restated p f cutoff old new r s =
    let q = λ (x : List ℤ) (i : IsInQuestion p f new.best x). subst
    (λ (o : Option ℤ). IsInQuestion p f o x) r.best i in
    record {
      best_is = rw (r.best, r.found) s.best_is;
      found = rw r.found s.found;
      better = rw r.found s.better;
      inside = λ x i. rw (r.lows, r.highs) (s.inside x (q x i));
      low = λ x i. let l = s.low x (q x i) in rw r.low l;
      cuts = rw r.cuts s.cuts;
    }

pub narrows-restated : (p : Program) (f : Desc Cut) (old new : Working) → IsRestated old new
    → Narrows p f old → Narrows p f new
narrows-restated p f old new r n = record {
  describes = record {
    lows = rw r.lows n.describes.lows;
    highs = rw r.highs n.describes.highs;
    near_lows = rw r.lows n.describes.near_lows;
    near_highs = rw r.highs n.describes.near_highs;
    few_cuts = rw r.cuts n.describes.few_cuts;
    cuts = rw r.cuts n.describes.cuts;
  };
  whole = record {
    highs = rw (r.lows, r.highs) n.whole.highs;
    columns = rw r.lows (r.columns ∙ n.whole.columns);
    cuts = rw r.cuts (r.cut_status ∙ n.whole.cuts);
  };
  rows = r.rows ∙ n.rows;
  low_width = rw r.lows n.low_width;
  high_width = rw r.highs n.high_width;
  point = rw (r.lows, r.highs) n.point;
  lows_rise = rw r.lows n.lows_rise;
  highs_fall = rw r.highs n.highs_fall;
  part = rw r.cuts n.part;
  ids = rw r.cuts n.ids;
  few = rw (r.lows, r.highs, r.decided) n.few;
  decided = rw r.decided n.decided;
}

pub shrinks-restated : (old new : Working) → IsRestated old new
    → Shrinks (box_of old.desc) (box_of new.desc)
shrinks-restated old new r = rw (r.lows, r.highs) (shrinks-same (box_of old.desc))

-- one entry more is compared
pub unlike-next : (old new : List Status) (x y : Status) → length old ≡ length new
    → unlike same_status (old ++ x ∷ []) (new ++ y ∷ [])
    ≡ cond (same_status x y) (unlike same_status old new) (suc (unlike same_status old new))
unlike-next [] [] x y e = refl
unlike-next [] (b ∷ new) x y e = absurd (omega (arith, e))
unlike-next (a ∷ old) [] x y e = absurd (omega (arith, e))
unlike-next (a ∷ old) (b ∷ new) x y e =
    ap (λ (n : ℕ). cond (same_status a b) n (suc n)) (unlike-next old new x y (omega (arith, e)))
    ∙ turn (same_status a b) (same_status x y) (unlike same_status old new)
  where
    turn : (s t : Bool) (n : ℕ) → cond s (cond t n (suc n)) (suc (cond t n (suc n)))
        ≡ cond t (cond s n (suc n)) (suc (cond s n (suc n)))
    turn true t n = refl
    turn false true n = refl
    turn false false n = refl

one-more : (s : Bool) (count n : ℕ) → count ≡ n → count + cond s 0 1 ≡ cond s n (suc n)
one-more true count n e = omega (arith, e)
one-more false count n e = omega (arith, e)

pub counted-next : (old new : List Status) (j count : ℕ) (x y : Status) → length new ≡ length old
    → j < length old → count ≡ unlike same_status (take j old) (take j new)
    → count + cond (same_status (get_or old j x) (get_or new j y)) 0 1
    ≡ unlike same_status (take (j + 1) old) (take (j + 1) new)
counted-next old new j count x y e l h =
    one-more (same_status (get_or old j x) (get_or new j y)) count
    (unlike same_status (take j old) (take j new)) h
    ∙ sym (unlike-next (take j old) (take j new) (get_or old j x) (get_or new j y)
    (length-take-le j old (omega (arith, l))
    ∙ sym (length-take-le j new (omega (arith, l, e)))))
    ∙ ap (λ (a : List Status). unlike same_status a (take j new ++ get_or new j y ∷ []))
    (sym (take_more old j x l))
    ∙ ap (λ (b : List Status). unlike same_status (take (j + 1) old) b)
    (sym (take_more new j y (omega (arith, l, e))))

pub counted-all : (old new : List Status) (n count : ℕ) → length new ≡ length old → length old ≤ n
    → count ≡ unlike same_status (take n old) (take n new) → count
    ≡ length (differences same_status old new)
counted-all old new n count e l h =
    h ∙ ap (λ (a : List Status). unlike same_status a (take n new)) (take_all n old l)
    ∙ ap (λ (b : List Status). unlike same_status old b) (take_all n new (omega (arith, e, l)))
    ∙ sym (length_differences same_status 0 old new)

-- the statuses of the cuts are few
fresh-few : (f d : Desc Cut) → length d.cut_status ≤ MOST_CUTS → length (common_of f d).fresh
    ≤ MOST_CUTS
fresh-few f d few =
    let before : List Status = cut_status_after (common_of f d).cuts f.cut_status in
    let c : length (common_of f d).fresh ≡ unlike same_status before d.cut_status =
    length_differences same_status 0 before d.cut_status in
    let m = unlike-most before d.cut_status in
    omega (arith, c, m, few)

pub few-counted : (f d : Desc Cut) (columns rows : ℕ) → length d.cut_status ≤ MOST_CUTS → columns
    ≡ length (differences same_status f.column_status d.column_status)
    → rows ≡ length (differences same_status f.row_status d.row_status) → columns + rows ≤ 312
    → HasFewStatuses f d
few-counted f d columns rows few a b h = let c = fresh-few f d few in omega (arith, a, b, c, h)

pub few-taken : (f d : Desc Cut) → length d.cut_status ≤ MOST_CUTS → d.column_status
    ≡ f.column_status → d.row_status ≡ f.row_status → HasFewStatuses f d
few-taken f d few c r =
    few-counted f d 0 0 few
    (sym (ap (λ (s : List Status). length (differences same_status f.column_status s)) c
    ∙ no-status f.column_status))
    (sym (ap (λ (s : List Status). length (differences same_status f.row_status s)) r
    ∙ no-status f.row_status)) (omega arith)

pub at-most-one : (s : Bool) (n : ℕ) → n ≡ cond s 0 1 → n ≤ 1
at-most-one true n e = omega (arith, e)
at-most-one false n e = omega (arith, e)
