use Rattle.std.proofs.Common.{◌≡◌, refl, subst}
use Rattle.bl_tree.specs.declared.lease.Taken.{Taken}
use Rattle.bl_tree.specs.Calls.{Takes, IsTaken}
use Rattle.bl_rows.proofs.Covering.{root_given, taken_is}
use Rattle.bl_rows.proofs.tree.split_tree.Goals as goal

taken : (c : goal.After-tree-in-Node-1) → IsTaken c.in_ok-tree.tree 0 c.in-Node.lease
    c.take.new.self
taken c = subst (λ (t : Taken). Takes c.in_ok-tree.tree 0 t c.take.new.self) c.in-Node.is
    c.in_ok-lease.ensures.taken

pub put_root-requires-clause-tree : goal.put_root-requires-clause-tree
put_root-requires-clause-tree c = taken_is _ c.in_ok-tree.tree c.take.new.self c.in-Node.lease
    (c.in_ok-tree.ensures refl) (taken c)

pub put_root-requires-clause-root : goal.put_root-requires-clause-root
put_root-requires-clause-root c = root_given _ c.in_ok-tree.tree c.take.new.self c.in-Node.lease
    (c.in_ok-tree.ensures refl) (taken c)
