-- How cuts come about: by tries that a separator may make.
use Rattle.std.specs.Prelude.{◌≡◌, All, Ok}
use Rattle.bl_mods.specs.declared.mods.ItemId.{ItemId}
use Rattle.bl_mods.specs.Mods.{fresh_in}
use Rattle.bl_problem.specs.Program.{Program}
use Rattle.bl_problem.specs.declared.cut.Cut.{Cut}
use Rattle.bl_desc.specs.declared.desc.Desc.{Desc}
use Rattle.bl_cuts.specs.Answers.{derived_of}
use Rattle.bl_cover.specs.Covers.{cover_of}
use Rattle.bl_cover.specs.declared.separator.Try.{Try}
use Rattle.bl_cover.specs.declared.separator.Try.TheVariants.{Weights, Cover}
use Rattle.bl_node.specs.declared.state.State.{State}
use Rattle.bl_node.specs.declared.working.Working.{Working}
use Rattle.bl_node.specs.Standing.{Narrows}

-- the try gives the cut of this name at the description: by its weights over rows and cuts, or
-- by the cover of a row
abbrev pub Gives : Program → Desc Cut → ItemId → Try → Cut → Type 0
Gives p d id (Weights pick) cut = derived_of p d.cuts pick.weights pick.q id ≡ Ok cut
Gives p d id (Cover i columns) cut = cover_of p i columns id ≡ Ok cut

-- the cut is what a try gives that was allowed at a description between the node's and the last one
pub record IsTried (allows : Desc Cut → Try → Type 0) (p : Program) (f : Desc Cut) (cut : Cut) :
    Type 0 where
  pub work : Working
  pub narrows : Narrows p f work
  pub tried : Try
  pub allowed : allows work.desc tried
  pub gives : Gives p work.desc cut.id tried cut

-- so did each cut come about that the node's description lacks
abbrev pub AreTried : (Desc Cut → Try → Type 0) → Program → Desc Cut → State → Type 0
AreTried allows p f s = All (IsTried allows p f) (fresh_in (λ c. c.id) f.cuts s.work.desc.cuts)
