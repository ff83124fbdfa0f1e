use Rattle.std.proofs.Common.{◌∙◌, ◌≡◌, ◌++◌, ap, arith, length, length-append, rules, refl}
use Rattle.bl_io.proofs.Known.{Consumes-none, Consumes-more, Consumes-kept, Takes-consumed}
use Rattle.bl_io.proofs.Known.{Takes-more, TakesAtMost-more}
use Rattle.bl_io.proofs.whole.read_all.Goals as goal

pub loop-bytes-init : goal.loop-bytes-init
loop-bytes-init g c = record {
  buffer = search rules;
  short = omega (arith, ap length c.new-bytes.ensures.items);
  taken = rw c.new-bytes.ensures.items (Consumes-none _);
  count = refl;
}

pub loop-bytes-preserved : goal.loop-bytes-preserved
loop-bytes-preserved g c =
    let next = c.in-Ok.ensures.piece in record {
      buffer = c.loop-bytes.invariant.buffer;
      short = omega (
        arith,
        ap length next.appended,
        length-append c.loop-bytes.bytes.items
            next.piece,
        next.size,
        c.in-Ok.ensures.fits,
        c.loop-bytes.invariant.short,
      );
      taken = rw next.appended (Consumes-more _ _ _ _ _ c.loop-bytes.invariant.taken next.taken);
      count = c.in-Ok.ensures.count ∙ c.loop-bytes.invariant.count;
    }

pub returns-in-Err-clause-long : goal.returns-in-Err-clause-long
returns-in-Err-clause-long g c =
    λ h. Takes-more _ _ _ _ _ _ (omega (arith, c.loop-bytes.invariant.short))
    c.loop-bytes.invariant.taken (c.in-Err.ensures.long h)

pub returns-in-Err-clause-short : goal.returns-in-Err-clause-short
returns-in-Err-clause-short g c = λ h. (
  length c.loop-bytes.bytes.items,
  c.loop-bytes.invariant.short,
  Takes-consumed _ _ c.loop-bytes.bytes.items _ refl
      (Consumes-kept _ _ _ _ c.loop-bytes.invariant.taken (c.in-Err.ensures.unread h)),
)

pub returns-in-Err-clause-within : goal.returns-in-Err-clause-within
returns-in-Err-clause-within g c = λ h.
    let lacks = c.in-Err.ensures.memory h in record {
      taken = TakesAtMost-more _ _ _ _ _ _ (omega (arith, c.loop-bytes.invariant.short))
          c.loop-bytes.invariant.taken lacks.taken;
      count = lacks.count ∙ c.loop-bytes.invariant.count;
    }

pub returns-in-Ok-eq0-clause-whole : goal.returns-in-Ok-eq0-clause-whole
returns-in-Ok-eq0-clause-whole g c =
    let next = c.in-Ok-eq0.ensures.piece in
    let size : length next.piece ≡ 0 = next.size ∙ c.in-Ok-eq0.field-0-test in record {
      taken = rw next.appended (Consumes-more _ _ _ _ _ c.loop-bytes.invariant.taken next.taken);
      at_end = next.at_end c.in-Ok-eq0.field-0-test;
      short = omega (
        arith,
        ap length next.appended,
        length-append c.loop-bytes.bytes.items
            next.piece,
        size,
        c.loop-bytes.invariant.short,
      );
    }

pub returns-in-Ok-eq0-clause-within : goal.returns-in-Ok-eq0-clause-within
returns-in-Ok-eq0-clause-within g c =
    let next = c.in-Ok-eq0.ensures.piece in record {
      taken = (
        length (c.loop-bytes.bytes.items ++ next.piece),
        omega (
          arith,
          length-append c.loop-bytes.bytes.items next.piece,
          next.size,
          c.in-Ok-eq0.field-0-test,
          c.loop-bytes.invariant.short,
        ),
        Takes-consumed _ _ _ _ refl
            (Consumes-more _ _ _ _ _ c.loop-bytes.invariant.taken next.taken),
      );
      count = c.in-Ok-eq0.ensures.count ∙ c.loop-bytes.invariant.count;
    }
