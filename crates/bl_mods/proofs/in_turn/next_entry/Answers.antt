use Rattle.std.proofs.Common.{◌≡◌, ◌+◌, ◌<◌, List, [], length, drop, true, ap, ◌∙◌, arith}
use Rattle.std.proofs.lemmas.List.{drop_all}
use Rattle.bl_mods.specs.declared.mods.Mod.{Mod}
use Rattle.bl_mods.specs.Rising.{is_rising_from, places}
use Rattle.bl_mods.proofs.RisingLemmas.{places_rise_at}
use Rattle.bl_mods.proofs.Overlays.{step_later, step_same}
use Rattle.bl_mods.proofs.in_turn.next_entry.Goals as goal
use Rattle.bl_mods.proofs.in_turn.next_entry.Goals.{then-at-first-2-via-then-at-first-2}
use Rattle.bl_mods.proofs.in_turn.next_entry.Goals.{then-at-first-2-via-else-at-first-2+then-first-at}

pub returns-then-at-first-2-clause-entry : goal.returns-then-at-first-2-clause-entry
returns-then-at-first-2-clause-entry g c =
    let k : c.args.next < length c.args.later.now = omega arith in
    let behind : is_rising_from (c.index-later-next.result.place + 1)
    (places (drop c.args.at c.args.first.now)) ≡ true =
    elim c.then-at-first-2.branch [
      | then-at-first-2-via-then-at-first-2 w ↦
          (let none : drop c.args.at c.args.first.now ≡ [] =
          drop_all c.args.at c.args.first.now
          (let e = w.if-at-first-2.true in omega (arith, e)) in
          ap (λ (l : List (Mod g.row.T.Denot)). is_rising_from
          (c.index-later-next.result.place + 1) (places l)) none)
      | then-at-first-2-via-else-at-first-2+then-first-at w ↦
          (let n = w.if-at-first-2.false in
          let h : c.args.at < length c.args.first.now = omega (arith, n) in
          places_rise_at (c.index-later-next.result.place + 1) c.args.at c.args.first.now
          w.index-first-at-else-at-first-2.result c.requires.rising h
          w.index-first-at-else-at-first-2.is
          (let b = w.if-first-at.true in
          let p = ap (λ (x : Mod g.row.T.Denot). x.place) w.index-first-at-else-at-first-2.is in
          omega (arith, b, p)))
    ] in
    step_later c.args.at c.args.next c.args.first.now c.args.later.now c.index-later-next.result k
    c.index-later-next.is behind

pub returns-then-first-at-2-clause-entry : goal.returns-then-first-at-2-clause-entry
returns-then-first-at-2-clause-entry g c =
    let h : c.args.at < length c.args.first.now = omega arith in
    let k : c.args.next < length c.args.later.now = omega arith in
    step_same c.args.at c.args.next c.args.first.now c.args.later.now c.index-first-at-2.result
    c.index-later-next.result h k c.index-first-at-2.is c.index-later-next.is c.requires.rising
    (ap (λ (x : Mod g.row.T.Denot). x.place) c.index-first-at-2.is ∙ c.if-first-at-2.true)
