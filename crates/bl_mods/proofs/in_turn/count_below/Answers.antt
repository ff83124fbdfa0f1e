use Rattle.std.proofs.Common.{◌<◌, length, arith}
use Rattle.std.proofs.lemmas.List.Elements.{All-more}
use Rattle.bl_mods.proofs.RisingLemmas.{rising_at}
use Rattle.bl_mods.proofs.in_turn.count_below.Goals as goal

pub returns-then-place-bound-clause-behind : goal.returns-then-place-bound-clause-behind
returns-then-place-bound-clause-behind c =
    let h : c.loop-at.at < length c.args.places.now = omega arith in
    rising_at c.args.bound c.loop-at.at c.args.places.now c.requires h (omega arith)

pub loop-at-preserved : goal.loop-at-preserved
loop-at-preserved c =
    let h : c.loop-at.at < length c.args.places.now = omega arith in
    All-more (λ p. p < c.args.bound) c.args.places.now c.loop-at.at 0 h c.loop-at.invariant
    (omega arith)
