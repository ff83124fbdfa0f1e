use Rattle.std.proofs.Common.{◌≡◌, ◌≢◌, ◌<◌, ◌+◌, ℕ, List, [], ◌∷◌, ◌++◌, length, get_or, drop}
use Rattle.std.proofs.Common.{ap, sym, ◌∙◌, subst, arith, append_assoc, true}
use Rattle.std.proofs.lemmas.Bool.{iff_false}
use Rattle.bl_mods.specs.Mods.{kept_from}
use Rattle.bl_mods.specs.Rising.{is_rising_from}
use Rattle.bl_mods.proofs.Keeping.{walk_drops, walk_keeps, rising_drops, rising_keeps}
use Rattle.bl_mods.proofs.mods.kept_behind.Goals as goal

further : (start at : ℕ) → start + at + 1 ≡ start + (at + 1)
further start at = omega arith

pub loop-at-preserved-then-is_next_place : goal.loop-at-preserved-then-is_next_place
loop-at-preserved-then-is_next_place g c =
    let here = c.is_next_place.ensures.0 c.if-is_next_place.true in
    let h : c.loop-at.at < length c.args.list.now = omega arith in
    record {
      rest = ap (λ (l : List g.row.T.Denot). c.loop-at.rest ++ l)
          (sym (walk_drops c.args.start c.loop-at.at c.loop-at.next c.args.places.now
          c.args.list.now c.index-list-at.result h here.0 here.1)) ∙ c.loop-at.invariant.rest;
      rising = subst (λ (k : ℕ). is_rising_from k (drop (c.loop-at.next + 1) c.args.places.now)
          ≡ true) (further c.args.start c.loop-at.at)
          (rising_drops (c.args.start + c.loop-at.at) c.loop-at.next c.args.places.now here.0
          here.1 c.loop-at.invariant.rising);
      next = omega (arith, here.0);
    }

pub loop-at-preserved : goal.loop-at-preserved
loop-at-preserved g c =
    let h : c.loop-at.at < length c.args.list.now = omega arith in
    let not_here : c.loop-at.next < length c.args.places.now
    → get_or c.args.places.now c.loop-at.next 0 ≢ c.args.start + c.loop-at.at =
    λ n e. iff_false c.is_next_place.ensures c.if-is_next_place.false (n, e) in
    let step = walk_keeps c.args.start c.loop-at.at c.loop-at.next c.args.places.now
    c.args.list.now c.index-list-at.result h c.loop-at.invariant.rising not_here in
    let pushed : c.push.new.self ≡ c.loop-at.rest
    ++ get_or c.args.list.now c.loop-at.at c.index-list-at.result ∷ [] =
    c.in_ok-push.ensures.ok ∙ ap (λ (x : g.row.T.Denot). c.loop-at.rest ++ x ∷ [])
    (c.in_ok-duplicate.ensures ∙ c.index-list-at.is) in
    record {
      rest = ap (λ (l : List g.row.T.Denot). l ++ kept_from (c.args.start + (c.loop-at.at + 1))
          (drop c.loop-at.next c.args.places.now) (drop (c.loop-at.at + 1) c.args.list.now)) pushed
          ∙ (append_assoc c.loop-at.rest
          (get_or c.args.list.now c.loop-at.at c.index-list-at.result ∷ []) _
          ∙ (ap (λ (l : List g.row.T.Denot). c.loop-at.rest ++ l) (sym step)
          ∙ c.loop-at.invariant.rest));
      rising = subst (λ (k : ℕ). is_rising_from k (drop c.loop-at.next c.args.places.now) ≡ true)
          (further c.args.start c.loop-at.at)
          (rising_keeps (c.args.start + c.loop-at.at) c.loop-at.next c.args.places.now
          c.loop-at.invariant.rising not_here);
      next = c.loop-at.invariant.next;
    }
