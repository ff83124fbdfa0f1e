use Rattle.std.proofs.Common.{◌≡◌, take, ◌++◌}
use Rattle.bl_mods.proofs.items.Items.extend.Given as goal

abbrev pub invariant-loop-element : goal.invariant-loop-element
invariant-loop-element g l = l.self ≡ l.initial.self ++ take l.element-index l.elements
