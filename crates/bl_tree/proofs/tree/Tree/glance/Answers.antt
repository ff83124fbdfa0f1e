use Rattle.std.proofs.Common.{rules, refl, ◌≡◌, length}
use Rattle.bl_tree.proofs.Counted.{glance_is}
use Rattle.bl_tree.proofs.tree.Tree.glance.Goals as goal

pub returns : goal.returns
returns c =
    let n : c.len.result ≡ length c.self.inside.kept.records.items = search rules in
    glance_is c.self.inside.problem c.self.inside.settings c.self.inside.journal.entries
    c.args.self.now _ _ c.self.inside.kept.records.items c.self.inside.kept.records.items _ _
    _ _ c.self.invariant.follows c.self.view_is
    n refl c.self.invariant.outs_is
