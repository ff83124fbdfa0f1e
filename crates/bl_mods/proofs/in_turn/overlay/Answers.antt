use Rattle.std.proofs.Common.{List, ◌++◌, ap, sym, ◌∙◌, rules}
use Rattle.bl_mods.specs.declared.mods.Mod.{Mod}
use Rattle.bl_mods.specs.InTurn.{overlaid}
use Rattle.bl_mods.proofs.RisingLemmas.{places_front}
use Rattle.bl_mods.proofs.Diffing.{pushed_rest}
use Rattle.bl_mods.proofs.Overlays.{rising_overlaid}
use Rattle.bl_mods.proofs.in_turn.overlay.Goals as goal

pub push-requires : goal.push-requires
push-requires g c = (
  search rules,
  places_front c.loop-step.both c.in-Some.step.entry _ (overlaid c.args.first.now c.args.later.now)
      (ap (λ (l : List (Mod g.row.T.Denot)). c.loop-step.both ++ l) (sym c.in-Some.ensures.entry)
      ∙ c.loop-step.invariant.rest)
      (rising_overlaid 0 c.args.first.now c.args.later.now c.requires.first c.requires.later),
)

pub loop-step-preserved : goal.loop-step-preserved
loop-step-preserved g c = record {
  rest = pushed_rest _ _ _ _ _ _ c.in_ok-push.ensures.ok c.in-Some.ensures.entry
      c.loop-step.invariant.rest;
  at = c.in-Some.ensures.on.1;
  next = c.in-Some.ensures.on.3;
}
