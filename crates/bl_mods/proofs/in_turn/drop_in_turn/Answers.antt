use Rattle.std.proofs.Common.{List, ℕ, ◌++◌, ap, sym, ◌∙◌, arith}
use Rattle.bl_mods.specs.Rising.{is_rising_from}
use Rattle.bl_mods.proofs.RisingLemmas.{rising_front}
use Rattle.bl_mods.proofs.InTurn.{rising_in_turn}
use Rattle.bl_mods.proofs.in_turn.drop_in_turn.Goals as goal

pub push-requires : goal.push-requires
push-requires c =
    rising_front 0 c.loop-step.both c.in-Some.step.entry _
    (ap (λ (l : List ℕ). is_rising_from 0 l)
    (ap (λ (l : List ℕ). c.loop-step.both ++ l) (sym c.in-Some.ensures.entry)
    ∙ c.loop-step.invariant.rest)
    ∙ rising_in_turn 0 0 0 c.args.first.now c.args.later.now c.requires.first c.requires.later
    (omega arith))
