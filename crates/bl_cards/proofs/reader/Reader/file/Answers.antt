use Rattle.std.proofs.Common.{◌≡◌, ◌∙◌, sym, ap, arith, length, ◌+◌, ℕ, Ok, Err}
use Rattle.bl_cards.specs.Reading.{after_line, said_from}
use Rattle.bl_cards.proofs.CoherentLines.{file_coherent}
use Rattle.bl_cards.proofs.Walks.{whole, fault_at, said_done, said_open, said_step}
use Rattle.bl_cards.proofs.reader.Reader.file.Goals as goal

pub returns-then-is_done-clause-said : goal.returns-then-is_done-clause-said
returns-then-is_done-clause-said c = sym c.loop-line.invariant.goes_on
    ∙ said_done c.loop-line.last c.loop-line.self c.loop-line.walk.lines
    (sym c.is_done.ensures ∙ c.if-is_done.true)

pub returns-in-Err-Broken-clause-said : goal.returns-in-Err-Broken-clause-said
returns-in-Err-Broken-clause-said c =
    let steps = c.in-Some.ensures.steps in
    let w = c.in-Err-Broken.what in
    let broken : after_line c.loop-line.self c.in-Some.line.bytes.now ≡ Err w =
    rw c.in-Err-Broken.field-0-is at c.in-Err-Broken.ensures in
    let number : c.loop-line.last + 1 ≡ c.in-Some.line.number =
    sym (steps.0 ∙ c.loop-line.invariant.number) in
    rw c.in-Err-Broken.what-is
    (sym c.loop-line.invariant.goes_on ∙ ap (said_from c.loop-line.last c.loop-line.self) steps.2
    ∙ said_step c.loop-line.last c.loop-line.self c.in-Some.line.bytes.now c.next.new.self.lines
    (Err w) (sym c.is_done.ensures ∙ c.if-is_done.false) broken
    ∙ ap (λ (n : ℕ). Err (fault_at n w)) number)

pub loop-line-preserved : goal.loop-line-preserved
loop-line-preserved c =
    let steps = c.in-Some.ensures.steps in
    let one = said_step c.loop-line.last c.loop-line.self c.in-Some.line.bytes.now
    c.next.new.self.lines (Ok c.line.new.self) (sym c.is_done.ensures ∙ c.if-is_done.false)
    c.in-Ok.ensures in
    let number : c.in-Some.line.number ≡ c.loop-line.last + 1 =
    steps.0 ∙ c.loop-line.invariant.number in
    record {
      goes_on = ap (λ (n : ℕ). said_from n c.line.new.self c.next.new.self.lines) number ∙ sym one
          ∙ ap (said_from c.loop-line.last c.loop-line.self) (sym steps.2)
          ∙ c.loop-line.invariant.goes_on;
      number = omega (arith, steps.0, steps.1);
      few = omega (arith, number, ap length steps.2, c.loop-line.invariant.few);
    }

pub returns-then-is_done-2-clause-said : goal.returns-then-is_done-2-clause-said
returns-then-is_done-2-clause-said c = sym c.loop-line.invariant.goes_on
    ∙ said_done c.loop-line.last c.loop-line.self c.loop-line.walk.lines
    (sym c.is_done-2.ensures ∙ c.if-is_done-2.true)

pub returns-clause-said : goal.returns-clause-said
returns-clause-said c = sym c.loop-line.invariant.goes_on ∙ ap
    (said_from c.loop-line.last c.loop-line.self) c.in_default.ensures.steps.0
    ∙ said_open c.loop-line.last c.loop-line.self (sym c.is_done-2.ensures ∙ c.if-is_done-2.false)

pub returns-then-is_done-clause-coherent : goal.returns-then-is_done-clause-coherent
returns-then-is_done-clause-coherent c = file_coherent c.args.bytes.now c.args.self
    (whole c.loop-line.self c.loop-line.last) (returns-then-is_done-clause-said c)

pub returns-then-is_done-2-clause-coherent : goal.returns-then-is_done-2-clause-coherent
returns-then-is_done-2-clause-coherent c =
    file_coherent c.args.bytes.now c.args.self (whole c.loop-line.self c.loop-line.last)
    (returns-then-is_done-2-clause-said c)
