use Rattle.std.proofs.Common.{ap, ◌∙◌, List, slice_get}
use Rattle.bl_tree.specs.Records.{piece_if}
use Rattle.bl_tree.specs.Answers.{stored_for}
use Rattle.bl_tree.specs.Views.{TreeView}
use Rattle.bl_tree.specs.declared.record.Record.{Record}
use Rattle.bl_tree.proofs.Lows.{stored_same}
use Rattle.bl_tree.proofs.tree.Tree.stored.Goals as goal

pub returns : goal.returns
returns c =
    let k = c.self.invariant.follows in
    c.piece_of.ensures ∙ (ap (λ (rs : List Record). piece_if (slice_get rs c.args.id))
    c.deref.ensures.value
    ∙ (stored_same c.self.inside.problem c.self.inside.settings c.self.inside.journal.entries
    c.self.inside.kept.records.items c.args.id k.records k.storage
    ∙ ap (λ (t : TreeView). stored_for t c.args.id) c.self.view_is))
