-- The lines of the MPS file that is written for a problem.
use Rattle.std.specs.Prelude.{ℕ, suc, not, List, [], ◌∷◌, ◌++◌, map, filter, codes, Option, Some}
use Rattle.std.specs.Prelude.{None, ℤ, pos, ◌-ℤ◌, neg_ℤ, if◌then◌else◌}
use Rattle.std.specs.Ordering.{int_eq}
use Rattle.bl_num.specs.Texts.{text_of}
use Rattle.bl_problem.specs.declared.problem.Column.{Column}
use Rattle.bl_problem.specs.declared.problem.Row.{Row}
use Rattle.bl_problem.specs.declared.problem.Sense.{Sense}
use Rattle.bl_problem.specs.declared.problem.Sense.TheVariants.{Min, Max}
use Rattle.bl_problem.specs.Program.{Program}
use Rattle.bl_problem.specs.Points.{shown_of}
use Rattle.bl_problem.specs.Rows.{coefficient_of}
use Rattle.bl_write.specs.Layout.{Text, laid, ended}

-- a number of a row or of the objective, in units of 10^-places
pub record Amount : Type 0 where
  pub name : Text
  pub value : ℤ
  pub places : ℕ

-- those that are not zero
abbrev pub nonzero : List Amount → List Amount
nonzero amounts = filter (λ a. not (int_eq a.value (pos 0))) amounts

-- a line that opens a section
abbrev pub heading : Text → Text
heading word = laid (1, word) []

-- a column's or a set's name, and a number
abbrev pub number_line : Text → Amount → Text
number_line first a = laid (5, first) ((15, a.name) ∷ (25, text_of a.value a.places) ∷ [])

-- ---- the objective's sense

-- nothing where the least value is asked for
abbrev pub sense_lines : Sense → List Text
sense_lines Min = []
sense_lines Max = heading (codes "OBJSENSE") ∷ laid (5, codes "MAX") [] ∷ []

-- ---- ROWS

-- E where both ends are equal, L where both stand and differ or the high one stands alone, G
-- where the low one does
abbrev pub kind_of : Option ℤ → Option ℤ → Text
kind_of None high = codes "L"
kind_of (Some low) None = codes "G"
kind_of (Some low) (Some high) = if int_eq low high then codes "E" else codes "L"

abbrev pub row_line : Text → Text → Text
row_line kind name = laid (2, kind) ((5, name) ∷ [])

abbrev pub rows_lines : Program → List Text
rows_lines p = row_line (codes "N") p.objective ∷ map (λ (r : Row). row_line (kind_of r.low r.high) r.name) p.rows

-- ---- COLUMNS

-- all columns stand between two markers, which say that they are whole
abbrev pub marker_line : Text → Text
marker_line word = laid (5, codes "MARKER") ((15, codes "'MARKER'") ∷ (40, word) ∷ [])

-- a cost in the file's sense, a zero too
abbrev pub cost_of : Program → Column → Amount
cost_of p c = record { name = p.objective; value = shown_of p c.cost; places = p.scale }

abbrev pub coefficient_in : ℕ → Row → Amount
coefficient_in j r = record { name = r.name; value = coefficient_of r.terms j; places = 0 }

-- a column's cost, and its coefficients in order of rows
abbrev pub amounts_of : Program → ℕ → Column → List Amount
amounts_of p j c = cost_of p c ∷ nonzero (map (coefficient_in j) p.rows)

-- the lines of the columns from place j on
abbrev pub cells_lines : Program → ℕ → List Column → List Text
cells_lines p j [] = []
cells_lines p j (c ∷ columns) = map (number_line c.name) (amounts_of p j c)
    ++ cells_lines p (suc j) columns

abbrev pub columns_lines : Program → List Text
columns_lines p = marker_line (codes "'INTORG'") ∷ (cells_lines p 0 p.columns ++ marker_line (codes "'INTEND'") ∷ [])

-- ---- RHS and RANGES

-- the high end where it stands, else the low one
abbrev pub right_side : Option ℤ → Option ℤ → ℤ
right_side None None = pos 0
right_side (Some low) None = low
right_side low (Some high) = high

abbrev pub right_of : Row → Amount
right_of r = record { name = r.name; value = right_side r.low r.high; places = 0 }

-- the number of the objective on the right is the negative of its constant, in the file's sense
abbrev pub constant_of : Program → Amount
constant_of p = record { name = p.objective; value = neg_ℤ (shown_of p p.offset); places = p.scale }

-- the right sides that are not zero
abbrev pub rights_of : Program → List Amount
rights_of p = nonzero (constant_of p ∷ map right_of p.rows)

-- how far the ends are apart, where both stand
abbrev pub width_of : Option ℤ → Option ℤ → ℤ
width_of None high = pos 0
width_of (Some low) None = pos 0
width_of (Some low) (Some high) = high -ℤ low

abbrev pub range_of : Row → Amount
range_of r = record { name = r.name; value = width_of r.low r.high; places = 0 }

-- the ranges of rows with two ends that differ
abbrev pub ranges_of : Program → List Amount
ranges_of p = nonzero (map range_of p.rows)

-- a section with a set, where it has a line
abbrev pub set_lines : Text → Text → List Amount → List Text
set_lines section set [] = []
set_lines section set (a ∷ amounts) = heading section ∷ map (number_line set) (a ∷ amounts)

-- ---- BOUNDS

abbrev pub bound_line : Text → Text → ℤ → Text
bound_line kind name z = laid (2, kind) ((5, codes "BND") ∷ (15, name) ∷ (25, text_of z 0) ∷ [])

-- the low end and then the high end of each column
abbrev pub ends_lines : List Column → List Text
ends_lines [] = []
ends_lines (c ∷ columns) = bound_line (codes "LO") c.name c.low ∷ bound_line (codes "UP") c.name c.high ∷ ends_lines columns

abbrev pub bounds_lines : List Column → List Text
bounds_lines [] = []
bounds_lines (c ∷ columns) = heading (codes "BOUNDS") ∷ ends_lines (c ∷ columns)

-- ---- the whole

-- the lines up to COLUMNS
abbrev pub front_lines : Program → List Text
front_lines p = laid (1, codes "NAME") ((15, codes "BLIS") ∷ []) ∷ (sense_lines p.sense ++ heading (codes "ROWS") ∷ rows_lines p)

-- the lines behind COLUMNS
abbrev pub back_lines : Program → List Text
back_lines p =
    set_lines (codes "RHS") (codes "RHS") (rights_of p)
    ++ (set_lines (codes "RANGES") (codes "RNG") (ranges_of p) ++ (bounds_lines p.columns ++ heading (codes "ENDATA") ∷ []))

abbrev pub lines_for : Program → List Text
lines_for p = front_lines p ++ heading (codes "COLUMNS") ∷ (columns_lines p ++ back_lines p)

-- the text of a problem
unfoldable pub written : Program → Text
written p = ended (lines_for p)
