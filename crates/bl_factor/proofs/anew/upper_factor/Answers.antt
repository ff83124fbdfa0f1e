use Rattle.std.proofs.Common.{◌≡◌, ap, sym, subst, arith}
use Rattle.bl_fixed.specs.declared.Fixed.{Fixed}
use Rattle.bl_factor.specs.Vectors.{unity, IsPivot}
use Rattle.bl_factor.proofs.anew.upper_factor.Goals as goal

pub returns : goal.returns
returns c =
    let u : c.from_int.result ≡ unity = ap (λ (z : _). record { raw = z }) c.from_int.ensures in
    record {
      place_in = c.requires.place_in;
      row_in = c.requires.place_in;
      pivot = subst (λ (x : Fixed). IsPivot x) (sym u) (omega arith);
      beside = c.in_ok-others.ensures;
    }
