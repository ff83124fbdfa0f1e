-- What a factor's fields stand for, and what they keep.
use Rattle.std.specs.Prelude.{◌<◌, ◌^◌, length}
use Rattle.bl_factor.specs.declared.Factor.TheInside.{Inside}
use Rattle.bl_factor.specs.Factored.{Factored}
use Rattle.bl_factor.specs.Etas.{AreEtas, eliminations}
use Rattle.bl_factor.specs.Sparse.{AreColumns, matrix_of}

abbrev pub factored_of : Inside → Factored
factored_of a = record {
  matrix = matrix_of (length a.columns.items) a.columns.items;
  steps = eliminations (length a.columns.items) a.etas.items;
}

pub record IsKept (a : Inside) : Type 0 where
  pub short : length a.columns.items < 2 ^ 32
  pub columns : AreColumns (length a.columns.items) a.columns.items
  pub etas : AreEtas (length a.columns.items) a.etas.items
