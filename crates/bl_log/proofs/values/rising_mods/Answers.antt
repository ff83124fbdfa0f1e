use Rattle.std.proofs.Common.{◌≡◌, ◌∙◌, ◌<◌, ◌+◌, ◌++◌, ◌∷◌, [], ℕ, List, true, ap, sym, subst}
use Rattle.std.proofs.Common.{take, drop, arith}
use Rattle.std.specs.Prelude.{All}
use Rattle.std.proofs.lemmas.List.{drop_more, take_more}
use Rattle.std.proofs.lemmas.List.Elements.{All-push, All-weaker}
use Rattle.bl_mods.specs.declared.mods.Mod.{Mod}
use Rattle.bl_mods.specs.Rising.{AreRising, is_rising_from, places}
use Rattle.bl_mods.proofs.RisingLemmas.{AreRising-push, rising_head}
use Rattle.bl_log.proofs.values.rising_mods.Goals as goal

pub loop-entry-preserved : goal.loop-entry-preserved
loop-entry-preserved g c =
    let i : ℕ = c.loop-entry.entry-index in
    let xs : List (Mod g.row.T.Denot) = c.args.list.now in
    let m : Mod g.row.T.Denot = c.entry-item.result in
    let old : List (Mod g.row.T.Denot) = c.loop-entry.mods in
    let least : ℕ = c.loop-entry.least in
    let pushed : c.push.new.self ≡ old ++ m ∷ [] = c.in_ok-push.ensures.ok in
    let more : take (i + 1) xs ≡ take i xs ++ m ∷ [] =
    take_more xs i m c.loop-entry-test.true ∙ ap (λ (y : Mod g.row.T.Denot). take i xs ++ y ∷ [])
    (sym c.entry-item.is) in
    let behind : drop i xs ≡ m ∷ drop (i + 1) xs =
    drop_more xs i m c.loop-entry-test.true ∙ ap (λ (y : Mod g.row.T.Denot). y ∷ drop (i + 1) xs)
    (sym c.entry-item.is) in
    let below : All (λ (n : Mod g.row.T.Denot). n.place < m.place) old =
    All-weaker (λ (n : Mod g.row.T.Denot). n.place < least) (λ (n : Mod g.row.T.Denot). n.place
    < m.place) (λ n h. omega (arith, h, c.if-entry-least.false)) old c.loop-entry.invariant.1
    in (
      pushed ∙ ap (λ (l : List (Mod g.row.T.Denot)). l ++ m ∷ []) c.loop-entry.invariant.0
          ∙ sym more,
      subst (λ (l : List (Mod g.row.T.Denot)). All (λ (n : Mod g.row.T.Denot). n.place < m.place
          + 1) l) (sym pushed)
          (All-push (λ (n : Mod g.row.T.Denot). n.place < m.place + 1) old m
          (All-weaker (λ (n : Mod g.row.T.Denot). n.place < m.place)
          (λ (n : Mod g.row.T.Denot). n.place < m.place + 1) (λ n h. omega (arith, h)) old
          below) (omega arith)),
      subst (λ (l : List (Mod g.row.T.Denot)). AreRising l) (sym pushed)
          (AreRising-push old m c.loop-entry.invariant.2 below),
      λ r. (rising_head least m.place (places (drop (i + 1) xs))
          (subst (λ (l : List (Mod g.row.T.Denot)). is_rising_from least (places l) ≡ true) behind
          (c.loop-entry.invariant.3 r))).1,
    )
