use Rattle.std.proofs.Common.{Err, refl, ap, sym, ◌∙◌, subst}
use Rattle.std.specs.declared.result.Result.{Result}
use Rattle.bl_problem.specs.Program.{Program}
use Rattle.bl_cards.specs.declared.fault.ModelFault.{ModelFault}
use Rattle.bl_cards.specs.declared.fault.ModelFault.TheVariants.{At}
use Rattle.bl_mps.specs.Reading.{read_of}
use Rattle.bl_cards.specs.Views.{Reads}
use Rattle.bl_run.proofs.top.read_problem.Goals as goal

pub returns-in-Err-At-clause-cause : goal.returns-in-Err-At-clause-cause
returns-in-Err-At-clause-cause g c =
    let told : Reads (Err (At c.in-Err-At.line c.in-Err-At.what)) (read_of c.deref.result.now) =
    subst (λ (r : Result Program ModelFault). Reads r (read_of c.deref.result.now))
    (c.in-Err-At.is ∙ ap Err c.in-Err-At.field-0-is) c.read.ensures in (
      c.in-Ok.ensures.within,
      record {
        bytes = c.in-Ok.bytes.items;
        whole = c.in-Ok.ensures.whole;
        fault = record { line = c.in-Err-At.line; what = c.in-Err-At.what };
        reads = sym (ap read_of c.deref.ensures.value) ∙ told;
        tells = refl;
      },
    )
