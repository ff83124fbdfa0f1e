-- The names of new cuts.
use Rattle.std.specs.Prelude.{◌≡◌, ℕ, ◌+◌, ◌<◌, ◌≤◌, List, [], ◌∷◌, length, All, slice_index_or}
use Rattle.bl_mods.specs.Mods.{fresh_in}
use Rattle.bl_problem.specs.declared.cut.Cut.{Cut}
use Rattle.bl_desc.specs.declared.desc.Desc.{Desc}
use Rattle.bl_node.specs.declared.state.State.{State}

-- the cuts of this seat have numbers below `next`
abbrev pub AreNamedBelow : ℕ → ℕ → List Cut → Type 0
AreNamedBelow seat next cuts = All (λ c. c.id.seat ≡ seat → c.id.serial < next) cuts

-- the cuts carry the seat and are numbered on from `serial`
abbrev pub AreNumbered : ℕ → ℕ → List Cut → Type 0
AreNumbered seat serial [] = Unit {0}
AreNumbered seat serial (c ∷ cuts) = (c.id ≡ record { seat = seat; serial = serial })
    × AreNumbered seat (serial + 1) cuts

-- the cuts that the node's description lacks are those that were made, numbered on, and no more
-- than may be
pub record AreNamed (f : Desc Cut) (s : State) : Type 0 where
  pub numbered : AreNumbered s.limits.seat s.limits.serial
      (fresh_in (λ c. c.id) f.cuts s.work.desc.cuts)
  pub made : length (fresh_in (λ c. c.id) f.cuts s.work.desc.cuts) ≡ s.made
  pub few : s.made ≤ s.limits.new_cuts
  pub parent_below : AreNamedBelow s.limits.seat s.limits.serial f.cuts
  pub below : AreNamedBelow s.limits.seat (s.limits.serial + s.made) s.work.desc.cuts

-- the cut is one of these, but for its name
pub record IsRenamedFrom (cuts : List Cut) (cut : Cut) : Type 0 where
  pub place : ℕ
  pub inside : place < length cuts
  pub terms : cut.terms ≡ (slice_index_or cuts place cut).terms
  pub right : cut.right ≡ (slice_index_or cuts place cut).right

-- each cut that the node's description lacks is one of those before, but for its name, and they
-- are named as before
pub record DropsCuts (f : Desc Cut) (old new : State) : Type 0 where
  pub named : AreNamed f old → AreNamed f new
  pub from : All (IsRenamedFrom (fresh_in (λ c. c.id) f.cuts old.work.desc.cuts))
      (fresh_in (λ c. c.id) f.cuts new.work.desc.cuts)
