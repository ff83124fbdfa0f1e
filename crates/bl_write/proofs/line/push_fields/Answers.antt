use Rattle.std.proofs.Common.{◌-◌, ◌+◌, ◌++◌, ◌∙◌, [], ap, arith, drop, get_or, length, map, sym}
use Rattle.std.proofs.Common.{append-nil}
use Rattle.std.proofs.lemmas.List.{drop_all, drop_more}
use Rattle.bl_write.specs.Layout.{fields_from, gap, spaced}
use Rattle.bl_write.specs.declared.line.Field.{Field}
use Rattle.bl_write.specs.Views.{field_of}
use Rattle.bl_write.proofs.Texts.{field_pushed, field_room}
use Rattle.bl_write.proofs.line.push_fields.Goals as goal

abbrev no_field : Field
no_field = record { column = 0; word = record { ref_ptr = (0, 0); now = [] } }

pub loop-field-preserved : goal.loop-field-preserved
loop-field-preserved c =
    let fields = c.args.fields.now in
    let start = c.args.start in
    let items = c.loop-field.text.items in
    let new = c.push_field.new.text.items in
    let i = c.loop-field.field-index in
    let f = get_or fields i no_field in
    let rest = map field_of (drop (i + 1) fields) in
    let next = ap (map field_of) (drop_more fields i no_field (omega arith)) in (
      field_room items new f.word.now start (gap (length items - start) f.column)
          c.loop-field.invariant.0 c.in_ok-push_field.ensures,
      field_pushed start c.args.text.now.items items new
          (spaced (fields_from (length c.args.text.now.items - start) (map field_of fields)))
          f.word.now f.column rest c.loop-field.invariant.0 c.in_ok-push_field.ensures
          (ap (λ fs. items ++ spaced (fields_from (length items - start) fs)) (sym next)
          ∙ c.loop-field.invariant.1),
    )

pub returns : goal.returns
returns c =
    let items = c.loop-field.text.items in
    let none = ap (map field_of)
    (drop_all c.loop-field.field-index c.args.fields.now (omega arith)) in
    sym (append-nil items) ∙ ap (λ fs. items
    ++ spaced (fields_from (length items - c.args.start) fs)) (sym none)
    ∙ c.loop-field.invariant.1
