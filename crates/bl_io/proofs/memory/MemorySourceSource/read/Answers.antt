use Rattle.std.proofs.Common.{◌≡◌, ◌+◌, ◌-◌, length, take, drop, sym, ◌∙◌, ap, arith, length-take}
use Rattle.std.proofs.Common.{length-drop}
use Rattle.std.proofs.lemmas.List.{take_rest, drop_all}
use Rattle.bl_io.proofs.Known.{next_bytes}
use Rattle.bl_io.proofs.memory.MemorySourceSource.read.Goals as goal

pub returns-clause-bytes : goal.returns-clause-bytes
returns-clause-bytes c =
    let bytes = c.self.inside.bytes.items in
    let seen = c.deref-2.result.now in
    let t = c.self.inside.taken in
    let n = c.min-count.result in
    let left : take (length seen - t) (drop t seen) ≡ drop t bytes = take_rest seen t
    ∙ ap (drop t) c.deref-2.ensures.value in
    let after : c.copy_from_slice.new.self ≡ take n (drop t bytes) =
    c.copy_from_slice.ensures.after ∙ ap (take n) left in
    let size : length c.copy_from_slice.new.self ≡ n =
    omega (
      arith,
      c.copy_from_slice.ensures.len,
      length-take n c.args.buf.now,
      c.min-count.ensures,
      c.min.ensures,
    ) in (
      ap (λ v. v.left) (sym c.self.view_is) ∙ next_bytes bytes c.copy_from_slice.new.self
          (drop n c.args.buf.now) t n after size,
      λ none.
          drop_all (t + n) bytes
          (omega (
            arith,
            none,
            c.min-count.ensures,
            c.min.ensures,
            ap length left,
            length-drop t
                bytes,
            c.self.invariant.0,
            c.self.invariant.1,
            c.requires,
          )),
    )
