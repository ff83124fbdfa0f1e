use Rattle.std.proofs.Common.{◌≡◌, ◌<◌, ◌≤◌, length, drop, ◌++◌}
use Rattle.std.specs.Prelude.{All}
use Rattle.std.specs.List.{filter}
use Rattle.bl_mods.specs.Mods.{gone_from, fresh_in, has_id}
use Rattle.bl_mods.proofs.mods.gone_places.Given as goal

abbrev pub invariant-loop-at : goal.invariant-loop-at
invariant-loop-at g l = record {
  rest : l.dropped ++ gone_from g.C.Item.id_of l.at (drop l.at l.old) l.new
      ≡ gone_from g.C.Item.id_of 0 l.old l.new;
  below : All (λ p. p < l.at) l.dropped;
  left : drop l.next l.new ≡ filter (λ x. has_id g.C.Item.id_of (g.C.Item.id_of x) l.new)
      (drop l.at l.old) ++ fresh_in g.C.Item.id_of l.old l.new;
  next : l.next ≤ length l.new;
}
