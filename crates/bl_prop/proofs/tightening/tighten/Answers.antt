use Rattle.std.proofs.Common.{◌≡◌, arith, rules}
use Rattle.std.proofs.lemmas.Grind.{common_steps}
use Rattle.bl_prop.specs.Answers.{tightened_of}
use Rattle.bl_prop.proofs.Whole.{moved-lines, tightened-within, keeps-tightened}
use Rattle.bl_prop.proofs.tightening.tighten.Goals as goal

pub walk-requires-clause-lines : goal.walk-requires-clause-lines
walk-requires-clause-lines c =
    moved-lines c.args.problem.now c.args.desc.now c.rows.result.now c.as_slice.result.now
    c.in_ok-copy_all.field-0
    c.rows.ensures.program c.requires.suits c.rows.ensures.rows c.as_slice.ensures
    c.in_ok-copy_all.ensures

pub returns-clause-within : goal.returns-clause-within
returns-clause-within c =
    let e : c.answer.result ≡ tightened_of c.args.problem.now c.args.desc.now =
    first_of (search rules, grind (arith, common_steps)) in
    rw e (tightened-within c.args.problem.now c.args.desc.now c.rows.ensures.program
    c.requires.suits)

pub returns-clause-keeps : goal.returns-clause-keeps
returns-clause-keeps c = λ x f.
    let e : c.answer.result ≡ tightened_of c.args.problem.now c.args.desc.now =
    first_of (search rules, grind (arith, common_steps)) in
    rw e (keeps-tightened c.args.problem.now c.args.desc.now x c.rows.ensures.program
    c.requires.suits f)
