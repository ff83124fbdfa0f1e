-- What the first pass leaves: a box that meets its decisions.
use Rattle.std.proofs.Common.{◌≡◌, suc, ◌≤◌, Bool, true, false, cond, List, [], ◌∷◌, length}
use Rattle.std.proofs.Common.{arith, refl, sym, ◌∙◌, ap, subst, All}
use Rattle.std.proofs.lemmas.Int.{ints}
use Rattle.std.proofs.lemmas.List.Elements.{All-nil}
use Rattle.bl_problem.specs.Decisions.{Box}
use Rattle.bl_problem.specs.declared.decision.Decision.{Decision}
use Rattle.bl_prop.specs.Limits.{AreDecisions}
use Rattle.bl_prop.specs.declared.tightening.Tightened.{Tightened}
use Rattle.bl_prop.specs.declared.tightening.Tightened.TheVariants.{Changed}
use Rattle.bl_journal.specs.declared.limits.TheConstants.{MOST_CUTS}
use Rattle.bl_node.specs.declared.working.Working.{Working}
use Rattle.bl_mods.specs.Mods.{differences}
use Rattle.bl_mods.proofs.Diffing.{unlike, length_differences, unlike_self}
use Rattle.bl_problem.specs.declared.cut.Cut.{Cut}
use Rattle.bl_desc.specs.declared.desc.Desc.{Desc}
use Rattle.bl_desc.specs.declared.desc.Status.{Status}
use Rattle.bl_desc.specs.Changes.{same_status, cut_status_after, IsWhole}
use Rattle.bl_desc.proofs.Canonical.{same_status-self}
use Rattle.bl_node.specs.Outcomes.{common_of, HasFewStatuses}
use Rattle.bl_node.specs.Boxes.{Shrinks, BoxMeets, decisions_in, SaysEmpty, HasStatusesOf}
use Rattle.bl_node.specs.Standing.{box_of, TakesDecisions}
use Rattle.bl_node.proofs.Shrinking.{shrinks_all, met_all}

pub shrinks-same : (b : Box) → Shrinks b b
shrinks-same b = record {
  low_width = refl;
  high_width = refl;
  lows_rise =
      λ j. omega (arith, ints);
  highs_fall = λ j. omega (arith, ints);
}

pub met-none : (b : Box) (t u : Tightened) → t ≡ u → decisions_in u ≡ []
    → All (BoxMeets b) (decisions_in t)
met-none b t u e h = subst (All (BoxMeets b)) (sym (ap decisions_in e ∙ h)) (All-nil (BoxMeets b))

pub not-empty : (t u : Tightened) → t ≡ u → (SaysEmpty u → ⊥) → SaysEmpty t → ⊥
not-empty t u e h s = h (subst SaysEmpty e s)

pub shrinks-taken : (old new : Working) (ds : List Decision) → TakesDecisions old ds new
    → Shrinks (box_of old.desc) (box_of new.desc)
shrinks-taken old new ds t =
    subst (Shrinks (box_of old.desc)) (sym t.box) (shrinks_all (box_of old.desc) ds)

pub met-taken : (old new : Working) (ds : List Decision) (t : Tightened) → t ≡ Changed ds
    → TakesDecisions old ds new → AreDecisions (length old.desc.lows) ds
    → length old.desc.highs ≡ length old.desc.lows
    → All (BoxMeets (box_of new.desc)) (decisions_in t)
met-taken old new ds t e k a w =
    subst (All (BoxMeets (box_of new.desc))) (sym (ap decisions_in e))
    (subst (λ (b : Box). All (BoxMeets b) ds) (sym k.box)
    (met_all (length old.desc.lows) (box_of old.desc) ds refl w a.each))

pub statuses-same : (d : Desc Cut) → HasStatusesOf d d
statuses-same d = record { cuts = refl; columns = refl; rows = refl; cut_status = refl }

pub statuses-taken : (old new : Working) (ds : List Decision) → TakesDecisions old ds new
    → HasStatusesOf old.desc new.desc
statuses-taken old new ds t = record {
  cuts = t.cuts;
  columns = t.column_status;
  rows =
      t.row_status;
  cut_status = t.cut_status;
}

pub statuses-then : (a b c : Desc Cut) → HasStatusesOf a b → HasStatusesOf b c → HasStatusesOf a c
statuses-then a b c h k = record {
  cuts = k.cuts ∙ h.cuts;
  columns = k.columns ∙ h.columns;
  rows =
      k.rows ∙ h.rows;
  cut_status = k.cut_status ∙ h.cut_status;
}

pub unlike-most : (old new : List Status) → unlike same_status old new ≤ length new
unlike-most [] new = omega arith
unlike-most (x ∷ old) [] = omega arith
unlike-most (x ∷ old) (y ∷ new) = by (same_status x y) (unlike-most old new)
  where
    by : (b : Bool) → unlike same_status old new ≤ length new
        → cond b (unlike same_status old new) (suc (unlike same_status old new)) ≤ length (y ∷ new)
    by true h = omega (arith, h)
    by false h = omega (arith, h)

pub no-status : (xs : List Status) → length (differences same_status xs xs) ≡ 0
no-status xs = length_differences same_status 0 xs xs ∙ unlike_self same_status same_status-self xs

-- where only the statuses of cuts may differ there are few
pub few-statuses : (f d : Desc Cut) → IsWhole f → length f.cuts ≤ MOST_CUTS → HasStatusesOf f d
    → HasFewStatuses f d
few-statuses f d w few h =
    let a : length (common_of f d).columns ≡ 0 =
    ap (λ (s : List Status). length (differences same_status f.column_status s)) h.columns
    ∙ no-status f.column_status in
    let b : length (common_of f d).rows ≡ 0 =
    ap (λ (s : List Status). length (differences same_status f.row_status s)) h.rows
    ∙ no-status f.row_status in
    let before : List Status = cut_status_after (common_of f d).cuts f.cut_status in
    let c : length (common_of f d).fresh ≡ unlike same_status before d.cut_status =
    length_differences same_status 0 before d.cut_status in
    let m = unlike-most before d.cut_status in
    let l : length d.cut_status ≡ length f.cut_status =
    ap (λ (s : List Status). length s) h.cut_status in
    let k = w.cuts in
    omega (arith, a, b, c, m, l, k, few)
