-- The problem that was said.
use Rattle.std.specs.Prelude.{ℕ, suc, All, ◌^◌, max, Bool, true, false, not, ◌&&◌, ◌||◌, ◌==◌}
use Rattle.std.specs.Prelude.{nat_le, if◌then◌else◌, List, [], ◌∷◌, map, filter, fold, Option}
use Rattle.std.specs.Prelude.{Some, None, is_some, option_map, Result, Ok, Err, ℤ, pos, negsuc}
use Rattle.std.specs.Prelude.{◌+ℤ◌, ◌-ℤ◌, neg_ℤ, nat_abs, int_lt}
use Rattle.std.specs.List.{list_all}
use Rattle.bl_num.specs.declared.Decimal.{Decimal}
use Rattle.bl_num.specs.Decimals.{in_units}
use Rattle.bl_problem.specs.declared.problem.Term.{Term}
use Rattle.bl_problem.specs.declared.problem.Column.{Column}
use Rattle.bl_problem.specs.declared.problem.Row.{Row}
use Rattle.bl_problem.specs.declared.problem.Sense.{Sense}
use Rattle.bl_problem.specs.Program.{Program}
use Rattle.bl_problem.specs.Points.{in_sense}
use Rattle.bl_problem.specs.Rows.{coefficient_of}
use Rattle.bl_cards.specs.declared.kind.What.{What}
use Rattle.bl_cards.specs.declared.kind.What.TheVariants as what
use Rattle.bl_cards.specs.declared.kind.Role.{Role}
use Rattle.bl_cards.specs.declared.kind.Role.TheVariants.{Objective, Extra, AtMost, AtLeast, Equal}
use Rattle.bl_mps.specs.declared.entries.Entry.{Entry}
use Rattle.bl_mps.specs.declared.ends.Ends.{Ends}
use Rattle.bl_mps.specs.declared.scale.RowEnds.{RowEnds}
use Rattle.bl_mps.specs.declared.finish.ScaledObjective.{ScaledObjective}
use Rattle.bl_cards.specs.declared.kind.Act.{Act}
use Rattle.bl_cards.specs.declared.kind.Act.TheVariants as act
use Rattle.bl_cards.specs.Said.{same, RowLine, Cell, Card, Said, ◌>>=◌, refuse}
use Rattle.bl_cards.specs.Lines.{nothing_given, is_limited, has_objective, objective_in}
use Rattle.bl_cards.specs.Lines.{given_for, sense_or_min}
use Rattle.bl_cards.specs.Coherence.{IsRead}

-- ---- rows

abbrev pub is_zero : Decimal → Bool
is_zero d = nat_abs d.mantissa == 0

-- the numbers of a row in COLUMNS, in file order; a zero makes no term
abbrev pub cells_of : List Cell → List ℕ → List Cell
cells_of cells row = filter (λ c. same row c.row && not (is_zero c.number)) cells

abbrev pub entry_of : Cell → Entry
entry_of c = record { column = c.column; number = c.number }

abbrev pub entries_of : List Cell → List ℕ → List Entry
entries_of cells row = map entry_of (cells_of cells row)

abbrev pub or_zero : Option Decimal → Decimal
or_zero None = nothing_given
or_zero (Some d) = d

-- what was said of a row
pub record RowSaid : Type 0 where
  pub entries : List Entry
  pub right : Decimal
  pub range : Option Decimal

-- the numbers of a row were read
pub record IsRowRead (r : RowSaid) : Type 0 where
  pub entries : All (λ e. IsRead e.number) r.entries
  pub right : IsRead r.right
  pub range : IsRead (or_zero r.range)

abbrev pub said_of : Said → List ℕ → RowSaid
said_of s name =
    record {
      entries = entries_of s.columns.cells name;
      right = or_zero (given_for s.rhs.given name);
      range = given_for s.ranges.given name;
    }

-- the least power of ten that makes the row whole
abbrev pub places_of : RowSaid → ℕ
places_of r = max (fold (λ n e. max n e.number.places) 0 r.entries)
    (max r.right.places (or_zero r.range).places)

abbrev pub size : ℤ → ℤ
size z = pos (nat_abs z)

-- the low end of a row with a right side, and a range or none
abbrev pub low_end : Role → ℤ → Option ℤ → Option ℤ
low_end Objective b r = None
low_end Extra b r = None
low_end AtMost b None = None
low_end AtMost b (Some r) = Some (b -ℤ size r)
low_end AtLeast b r = Some b
low_end Equal b None = Some b
low_end Equal b (Some (pos r)) = Some b
low_end Equal b (Some (negsuc r)) = Some (b -ℤ pos (suc r))

abbrev pub high_end : Role → ℤ → Option ℤ → Option ℤ
high_end Objective b r = None
high_end Extra b r = None
high_end AtMost b r = Some b
high_end AtLeast b None = None
high_end AtLeast b (Some r) = Some (b +ℤ size r)
high_end Equal b None = Some b
high_end Equal b (Some (pos r)) = Some (b +ℤ pos r)
high_end Equal b (Some (negsuc r)) = Some b

abbrev pub ends_of : Role → ℤ → Option ℤ → RowEnds
ends_of role b r = record { low = low_end role b r; high = high_end role b r }

abbrev pub term_of : ℕ → Entry → Term
term_of places c = record { column = c.column; coefficient = in_units c.number places }

abbrev pub terms_of : ℕ → List Entry → List Term
terms_of places entries = map (term_of places) entries

abbrev pub range_in : ℕ → Option Decimal → Option ℤ
range_in places range = option_map (λ d. in_units d places) range

-- a row in units of 10 to the power `-places`
abbrev pub row_in : ℕ → RowLine → RowSaid → Row
row_in places line r =
    record {
      name = line.name;
      terms = terms_of places r.entries;
      low = low_end line.role (in_units r.right places) (range_in places r.range);
      high = high_end line.role (in_units r.right places) (range_in places r.range);
    }

abbrev pub row_of : Said → RowLine → Row
row_of s line = let r = said_of s line.name in row_in (places_of r) line r

abbrev pub rows_of : Said → List Row
rows_of s = map (row_of s) (filter (λ line. is_limited line.role) s.rows)

-- ---- the objective

-- what the file asks for: the least or the greatest value
abbrev pub sense_for : Said → Sense
sense_for s = sense_or_min s.sense

-- its costs, and the negative of its constant
abbrev pub objective_said : Said → RowSaid
objective_said s = record (said_of s (objective_in s.rows)) { range = None }

abbrev pub objective_in_units : List ℕ → RowSaid → ScaledObjective
objective_in_units name r =
    record {
      name = name;
      costs = terms_of (places_of r) r.entries;
      scale = places_of r;
      offset = neg_ℤ (in_units r.right (places_of r));
    }

-- as the file says it: its costs, and its constant
abbrev pub objective_of : Said → ScaledObjective
objective_of s = objective_in_units (objective_in s.rows) (objective_said s)

-- ---- columns

-- an upper bound; a negative one takes a low end away that no card has given
abbrev pub lowered : Ends → ℤ → Ends
lowered e n = record e {
  low = (if int_lt n (pos 0) && not e.low_is_said then None else e.low);
  high = Some n;
}

abbrev pub raised : Ends → ℤ → Ends
raised e n = record e { low = Some n; low_is_said = true }

abbrev pub as_whole : Ends → Ends
as_whole e = record e { is_whole = true }

abbrev pub set_ends : Act → Ends → ℤ → Ends
set_ends act.High e n = lowered e n
set_ends act.WholeHigh e n = as_whole (lowered e n)
set_ends act.Low e n = raised e n
set_ends act.WholeLow e n = as_whole (raised e n)
set_ends act.Both e n = record e { low = Some n; high = Some n; low_is_said = true }
set_ends act.Free e n = record e { low = None; high = None; low_is_said = true }
set_ends act.NoLow e n = record e { low = None; low_is_said = true }
set_ends act.NoHigh e n = record e { high = None }
set_ends act.Binary e n = record {
  low = Some (pos 0);
  high = Some (pos 1);
  low_is_said =
      true;
  is_whole = true;
}

abbrev pub acted : Ends → Card → Ends
acted e c = set_ends c.act e c.number

-- a column with a card starts from 0 and no high end
abbrev pub unset : Ends
unset = record { low = Some (pos 0); high = None; low_is_said = false; is_whole = false }

-- the cards act in file order
abbrev pub carded : List Card → Option Ends
carded [] = None
carded (c ∷ cards) = Some (fold acted unset (c ∷ cards))

abbrev pub ends_or : Ends → Option Ends → Ends
ends_or other None = other
ends_or other (Some ends) = ends

-- a whole column without a card is 0 or 1
abbrev pub binary : Ends
binary = record { low = Some (pos 0); high = Some (pos 1); low_is_said = false; is_whole = false }

abbrev pub cards_of : List Card → List ℕ → List Card
cards_of cards column = filter (λ c. same column c.column) cards

-- the ends that the cards of a column set, None where it has no card
abbrev pub ends_set : List Card → List ℕ → Option Ends
ends_set cards column = carded (cards_of cards column)

abbrev pub ends_for : Said → List ℕ → Ends
ends_for s column = ends_or binary (ends_set s.bounds.given column)

abbrev pub has_ends : Ends → Bool
has_ends e = is_some e.low && is_some e.high

abbrev pub end_or_zero : Option ℤ → ℤ
end_or_zero None = pos 0
end_or_zero (Some n) = n

-- the cost is the objective's in the problem's sense
abbrev pub column_of : Said → List Term → ℕ → List ℕ → Column
column_of s costs j name =
    record {
      name = name;
      low = end_or_zero (ends_for s name).low;
      high =
          end_or_zero (ends_for s name).high;
      cost = in_sense (sense_for s) (coefficient_of costs j);
    }

-- the columns from place j on
abbrev pub columns_from : Said → List Term → ℕ → List (List ℕ) → List Column
columns_from s costs j [] = []
columns_from s costs j (name ∷ names) = column_of s costs j name
    ∷ columns_from s costs (suc j) names

-- the ends that the cards of each column set
abbrev pub all_ends : Said → List (Option Ends)
all_ends s = map (ends_set s.bounds.given) s.columns.names

-- each column stands in a marker stretch, or has a card that says that it is whole
abbrev pub are_whole : List (Option Ends) → List Bool → Bool
are_whole [] whole = true
are_whole (e ∷ ends) [] = false
are_whole (e ∷ ends) (w ∷ whole) = (w || (ends_or binary e).is_whole) && are_whole ends whole

-- each column has both ends
abbrev pub are_bounded : List (Option Ends) → Bool
are_bounded ends = list_all (λ e. has_ends (ends_or binary e)) ends

-- ---- the problem

-- where the greatest value is asked for, costs and offset are the negatives of the objective's
abbrev pub program_of : Said → Program
program_of s =
    record {
      columns = columns_from s (objective_of s).costs 0 s.columns.names;
      rows = rows_of s;
      objective = (objective_of s).name;
      scale = (objective_of s).scale;
      offset = in_sense (sense_for s) (objective_of s).offset;
      sense = sense_for s;
    }

abbrev pub is_within : ℕ → ℤ → Bool
is_within limit z = nat_le (nat_abs z) limit

abbrev pub term_within : Term → Bool
term_within t = is_within (10 ^ 15) t.coefficient

abbrev pub end_within : Option ℤ → Bool
end_within None = true
end_within (Some z) = is_within (10 ^ 24) z

abbrev pub objective_within : ScaledObjective → Bool
objective_within o = list_all term_within o.costs && is_within (10 ^ 24) o.offset

abbrev pub row_within : Row → Bool
row_within r = list_all term_within r.terms && (end_within r.low && end_within r.high)

-- the scaled numbers are within the limits
abbrev pub keeps_limits : Program → Bool
keeps_limits p =
    (list_all (λ c. is_within (10 ^ 15) c.cost) p.columns && is_within (10 ^ 24) p.offset)
    && list_all row_within p.rows

-- what does not keep the limits is too wide
abbrev pub limited : {A : Type 0} → (A → Bool) → A → Result A What
limited keeps x = if keeps x then Ok x else Err what.TooWide

-- the rules at the ENDATA line
abbrev pub finished : Said → Result Program What
finished s = do
  objective ← refuse (not (has_objective s.rows)) what.NoObjective
  whole ← refuse (not (are_whole (all_ends s) s.columns.whole)) what.NotWhole
  bounded ← refuse (not (are_bounded (all_ends s))) what.Unbounded
  limited keeps_limits (program_of s)
