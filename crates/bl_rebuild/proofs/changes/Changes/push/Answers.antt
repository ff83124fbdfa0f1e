use Rattle.std.proofs.Common.{◌≡◌, List, [], ◌∷◌, ◌++◌, length, ap, ◌∙◌, arith, length-append, Some}
use Rattle.bl_desc.specs.declared.change.Change.{Change}
use Rattle.bl_rebuild.specs.Chains.{present}
use Rattle.bl_rebuild.proofs.Chaining.{present-append}
use Rattle.bl_rebuild.proofs.changes.Changes.push.Goals as goal

pub invariant_of-self : goal.invariant_of-self
invariant_of-self g c =
    let p : present c.push_reserved.new.self.items ≡ present c.self.inside.pieces.items
    ++ c.args.change ∷ [] =
    ap present c.push_reserved.ensures.items ∙ present-append c.self.inside.pieces.items
    (Some c.args.change ∷ []) in
    let l1 = ap length p in
    let l2 = length-append (present c.self.inside.pieces.items) (c.args.change ∷ []) in
    let l3 = ap length c.push_reserved.ensures.items in
    let l4 = length-append c.self.inside.pieces.items (Some c.args.change ∷ []) in
    let same = c.self.invariant.0 in
    let room = c.self.invariant.1 in
    let kept = c.push_reserved.ensures.capacity in
    (omega (arith, l1, l2, l3, l4, same), omega (arith, room, kept))

pub returns : goal.returns
returns g c =
    ap present c.push_reserved.ensures.items
    ∙ (present-append c.self.inside.pieces.items (Some c.args.change ∷ [])
    ∙ ap (λ (l : List (Change g.row.C.Denot)). l ++ c.args.change ∷ []) c.self.view_is)
