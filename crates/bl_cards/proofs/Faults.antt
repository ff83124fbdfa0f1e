-- A fault ends what comes behind it.
use Rattle.std.proofs.Common.{Result, Err, refl}
use Rattle.bl_cards.specs.declared.kind.What.{What}
use Rattle.bl_cards.specs.declared.fault.LineFault.{LineFault}
use Rattle.bl_cards.specs.declared.fault.LineFault.TheVariants.{Memory, Broken}
use Rattle.bl_cards.specs.Said.{◌>>=◌}
use Rattle.bl_cards.specs.Views.{Follows}

pub fails_on : {A B : Type 0} (fault : LineFault) (r : Result A What) (f : A → Result B What)
    (a : A) (b : B) → Follows {U = Unit {0}} (Err fault) r a
    → Follows {U = Unit {0}} (Err fault) (r >>= f) b
fails_on Memory r f a b e = tt
fails_on (Broken w) r f a b e = rw e refl
