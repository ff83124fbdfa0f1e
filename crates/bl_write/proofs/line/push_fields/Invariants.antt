use Rattle.std.proofs.Common.{◌≡◌, ◌≤◌, ◌-◌, ◌++◌, drop, length, map}
use Rattle.bl_write.specs.Layout.{fields_from, spaced}
use Rattle.bl_write.specs.Views.{field_of}
use Rattle.bl_write.proofs.line.push_fields.Given as goal

abbrev pub invariant-loop-field : goal.invariant-loop-field
invariant-loop-field l =
    (l.start ≤ length l.text.items)
    × (l.text.items ++ spaced (fields_from (length l.text.items - l.start)
    (map field_of (drop l.field-index l.fields)))
    ≡ l.initial.text.items ++ spaced
    (fields_from (length l.initial.text.items - l.start) (map field_of l.fields)))
