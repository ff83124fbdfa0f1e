-- What the written lines say, section by section.
use Rattle.std.proofs.Common.{ℕ, suc, Bool, true, false, List, [], ◌∷◌, ◌++◌, map, codes, Option}
use Rattle.std.proofs.Common.{Some, None, ℤ, cond}
use Rattle.std.specs.Ordering.{int_eq}
use Rattle.bl_problem.specs.declared.problem.Column.{Column}
use Rattle.bl_problem.specs.declared.problem.Row.{Row}
use Rattle.bl_problem.specs.declared.problem.Sense.{Sense}
use Rattle.bl_problem.specs.declared.problem.Sense.TheVariants.{Min, Max}
use Rattle.bl_problem.specs.Program.{Program}
use Rattle.bl_cards.specs.declared.kind.Act.TheVariants as act
use Rattle.bl_cards.specs.declared.kind.Role.{Role}
use Rattle.bl_cards.specs.declared.kind.Role.TheVariants.{Objective, AtMost, AtLeast, Equal}
use Rattle.bl_cards.specs.declared.kind.Section.{Section}
use Rattle.bl_cards.specs.declared.kind.Section.TheVariants.{Columns, Rhs, Ranges, Bounds, End}
use Rattle.bl_cards.specs.Said.{Card, Cell, Given, Grid, RowLine, Said, SetOf, no_set}
use Rattle.bl_write.specs.Layout.{Text}
use Rattle.bl_write.specs.Written.{Amount, amounts_of, ranges_of, rights_of}
use Rattle.bl_write.proofs.Numbers.{decimal_in}

abbrev pub role_in : Option ℤ → Option ℤ → Role
role_in None high = AtMost
role_in (Some low) None = AtLeast
role_in (Some low) (Some high) = cond (int_eq low high) Equal AtMost

abbrev pub row_said : Row → RowLine
row_said r = record { name = r.name; role = role_in r.low r.high }

abbrev pub rows_said : Program → List RowLine
rows_said p = record { name = p.objective; role = Objective } ∷ map row_said p.rows

abbrev pub sense_said : Sense → Option Sense
sense_said Min = None
sense_said Max = Some Max

abbrev pub cell_said : ℕ → Amount → Cell
cell_said j a = record { column = j; row = a.name; number = decimal_in a.value a.places }

abbrev pub cells_said : Program → ℕ → List Column → List Cell
cells_said p j [] = []
cells_said p j (c ∷ columns) = map (cell_said j) (amounts_of p j c) ++ cells_said p (suc j) columns

abbrev pub names_of : List Column → List Text
names_of columns = map (λ c. c.name) columns

abbrev pub all_whole : List Column → List Bool
all_whole columns = map (λ c. true) columns

abbrev pub open_grid : List Text → List Bool → List Cell → Bool → Grid
open_grid names whole cells is_open =
    record { names = names; whole = whole; cells = cells; is_open = is_open; in_stretch = true }

abbrev pub grid_said : Program → Grid
grid_said p = record {
  names = names_of p.columns;
  whole = all_whole p.columns;
  cells =
      cells_said p 0 p.columns;
  is_open = false;
  in_stretch = false;
}

abbrev pub given_said : Amount → Given
given_said a = record { row = a.name; number = decimal_in a.value a.places }

abbrev pub set_said : Text → List Amount → SetOf Given
set_said set [] = no_set
set_said set (a ∷ amounts) = record { set = Some set; given = map given_said (a ∷ amounts) }

abbrev pub low_card : Column → Card
low_card c = record { column = c.name; act = act.Low; number = c.low }

abbrev pub high_card : Column → Card
high_card c = record { column = c.name; act = act.High; number = c.high }

abbrev pub cards_said : List Column → List Card
cards_said [] = []
cards_said (c ∷ columns) = low_card c ∷ high_card c ∷ cards_said columns

abbrev pub bounds_said : List Column → SetOf Card
bounds_said [] = no_set
bounds_said (c ∷ columns) = record { set = Some (codes "BND"); given = cards_said (c ∷ columns) }

-- after ROWS
abbrev pub state : Program → Section → Grid → SetOf Given → SetOf Given → SetOf Card → Said
state p section grid rhs ranges bounds =
    record {
      section = section;
      sense = sense_said p.sense;
      rows = rows_said p;
      columns =
          grid;
      rhs = rhs;
      ranges = ranges;
      bounds = bounds;
    }

-- RHS, RANGES and BOUNDS stand where they have a line
abbrev pub after_rhs : List Amount → Section
after_rhs [] = Columns
after_rhs (a ∷ amounts) = Rhs

abbrev pub after_ranges : List Amount → List Amount → Section
after_ranges rights [] = after_rhs rights
after_ranges rights (a ∷ amounts) = Ranges

abbrev pub after_bounds : List Amount → List Amount → List Column → Section
after_bounds rights ranges [] = after_ranges rights ranges
after_bounds rights ranges (c ∷ columns) = Bounds

abbrev pub whole_said : Program → Said
whole_said p =
    state p End (grid_said p) (set_said (codes "RHS") (rights_of p)) (set_said (codes "RNG") (ranges_of p)) (bounds_said p.columns)
