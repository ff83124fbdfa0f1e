use Rattle.std.proofs.Common.{◌++◌, ◌∷◌, [], ap, ◌∙◌}
use Rattle.bl_cards.specs.Lines.{role_of}
use Rattle.bl_cards.specs.declared.kind.Role.TheVariants.{Objective}
use Rattle.bl_cards.proofs.RowLines.{no_role, lines_push, kept_push, row}
use Rattle.bl_cards.proofs.rows.Rows.push.Goals as goal

pub add-requires : goal.add-requires
add-requires c = no_role c.self.inside.names c.self.inside.roles.items c.args.name.now Objective
    c.self.invariant.as_many (ap (λ rows. role_of rows c.args.name.now) c.self.view_is
    ∙ c.requires.new)

pub invariant_of-self-2 : goal.invariant_of-self-2
invariant_of-self-2 c = kept_push _ _ _ _ c.args.name.now c.args.role _ _ _ _ c.self.invariant
    c.in_ok-add.ensures.ok (c.push_reserved.ensures.items
    ∙ ap (λ rs. rs ++ c.args.role ∷ []) c.reserve.ensures.items) c.limited_by.ensures
    c.is_objective.ensures

pub returns-clause-ok : goal.returns-clause-ok
returns-clause-ok c = lines_push _ _ _ _ c.args.name.now c.args.role c.self.invariant.as_many
    c.in_ok-add.ensures.ok (c.push_reserved.ensures.items
    ∙ ap (λ rs. rs ++ c.args.role ∷ []) c.reserve.ensures.items)
    ∙ ap (λ rows. rows ++ row c.args.name.now c.args.role ∷ []) c.self.view_is
