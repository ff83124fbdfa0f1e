-- From the places that a rule answers to where they stand.
use Rattle.std.proofs.Common.{List, [], ◌∷◌, true, false, subst}
use denote.Ref.{Bor}
use Rattle.bl_fixed.specs.declared.Fixed.{Fixed}
use Rattle.bl_problem.specs.Program.{Program}
use Rattle.bl_problem.specs.declared.cut.Cut.{Cut}
use Rattle.bl_desc.specs.declared.desc.Desc.{Desc}
use Rattle.bl_journal.specs.declared.entry.Entry.{Entry}
use Rattle.bl_journal.specs.declared.entry.Entry.TheVariants.{Take, Put, Back, Encode, Free}
use Rattle.bl_journal.specs.declared.entry.Step.{Step}
use Rattle.bl_journal.specs.declared.entry.Step.TheVariants.{Shut, Split}
use Rattle.bl_journal.specs.Descriptions.{full_of}
use Rattle.bl_branch.specs.declared.place.Place.{Place}
use Rattle.bl_branch.specs.Calls.{Calls}
use Rattle.bl_branch.specs.Fractions.{IsMostFractional}
use Rattle.bl_branch.specs.Widest.{IsHalf}
use Rattle.bl_search.specs.Places.{IsPlaced, MayAnswer, PutsAt, SplitsAt}
use Rattle.bl_run.specs.Splitting.{IsSplitBy}

-- what is allowed by P is allowed by Q
module _ (P Q : Desc Cut → Place → Type 0) (also : (d : Desc Cut) (place : Place) → P d place
    → Q d place) where
  placed_by : (d : Desc Cut) (next : Step) → IsPlaced P d next → IsPlaced Q d next
  placed_by d Shut h = tt
  placed_by d (Split common column at) h = also _ _ h

  puts_at : (p : Program) (past : List Entry) (e : Entry) → PutsAt P p past e → PutsAt Q p past e
  puts_at p past (Put seat id found low next) h = placed_by (full_of p past id) next h
  puts_at p past (Take seat id) h = tt
  puts_at p past (Back seat id) h = tt
  puts_at p past (Encode seat id form) h = tt
  puts_at p past (Free seat ids) h = tt

  pub splits_also : (p : Program) (past : List Entry) → SplitsAt P p past → SplitsAt Q p past
  splits_also p [] h = tt
  splits_also p (e ∷ past) h = (puts_at p past e h.0, splits_also p past h.1)

module _ {F : Type 0} (g : Calls F) (closure : F) where
  -- a rule that answers the middle of the widest column splits there
  pub half_places : ((d : Bor (Desc Cut)) (x : Bor (List Fixed)) (place : Place)
      → g.post closure (d, (x, tt)) place → IsHalf d.now place) → (p : Program) (past : List Entry)
      → SplitsAt (MayAnswer g closure) p past → SplitsAt (IsSplitBy true) p past
  half_places says = splits_also (MayAnswer g closure) (IsSplitBy true)
      (λ d place h. subst (λ (f : Desc Cut). IsHalf f place) h.1.shows_desc
      (says h.1.desc h.1.point place h.1.says.met))

  -- and one that answers by the fractions of a point, at such a place
  pub fraction_places : ((d : Bor (Desc Cut)) (x : Bor (List Fixed)) (place : Place)
      → g.post closure (d, (x, tt)) place → IsMostFractional d.now x.now place)
      → (p : Program) (past : List Entry)
      → SplitsAt (MayAnswer g closure) p past → SplitsAt (IsSplitBy false) p past
  fraction_places says = splits_also (MayAnswer g closure) (IsSplitBy false)
      (λ d place h. (
        h.1.point.now,
        subst (λ (f : Desc Cut). IsMostFractional f h.1.point.now place)
            h.1.shows_desc (says h.1.desc h.1.point place h.1.says.met),
      ))
