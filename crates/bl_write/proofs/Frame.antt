-- All lines of the text, read.
use Rattle.std.proofs.Common.{◌≡◌, ◌<◌, ◌+◌, ◌∙◌, Bool, true, false, List, [], ◌∷◌, ◌++◌, map}
use Rattle.std.proofs.Common.{length, ap, sym, refl, arith, codes, Some, append-nil, All}
use Rattle.std.specs.Prelude.{AllPairs, Ok}
use Rattle.std.proofs.lemmas.List.Elements.{All-nil, All-weaker}
use Rattle.bl_text.specs.Pieces.{pieces}
use Rattle.bl_problem.specs.declared.problem.Column.{Column}
use Rattle.bl_problem.specs.declared.problem.Sense.{Sense}
use Rattle.bl_problem.specs.declared.problem.Sense.TheVariants.{Min, Max}
use Rattle.bl_problem.specs.Program.{IsColumn, IsName, IsProgram, Program}
use Rattle.bl_cards.specs.declared.kind.Section.TheVariants.{Name, Objsense, Rows, Columns, Rhs}
use Rattle.bl_cards.specs.declared.kind.Section.TheVariants.{Ranges, Bounds, End}
use Rattle.bl_cards.specs.Said.{Card, Cell, Given, Grid, Said, SetOf, no_columns, no_set}
use Rattle.bl_cards.specs.Said.{nothing_said}
use Rattle.bl_cards.specs.Reading.{after_line, is_end, said_from, said_in}
use Rattle.bl_cards.proofs.Walks.{said_done}
use Rattle.bl_write.specs.Layout.{Text, laid}
use Rattle.bl_write.specs.Written.{Amount, back_lines, bounds_lines, cells_lines, columns_lines}
use Rattle.bl_write.specs.Written.{ends_lines, front_lines, heading, lines_for, marker_line}
use Rattle.bl_write.specs.Written.{number_line, ranges_of, rights_of, rows_lines, sense_lines}
use Rattle.bl_write.specs.Written.{set_lines, written}
use Rattle.bl_write.proofs.ColumnLines.{cells_read, in_columns, open_after}
use Rattle.bl_write.proofs.Facts.{amounts_are, columns_known, ranges_apart, ranges_counted}
use Rattle.bl_write.proofs.Facts.{rights_apart, rights_counted}
use Rattle.bl_write.proofs.Lines.{IsLine, lines_ended}
use Rattle.bl_write.proofs.Names.{Apart}
use Rattle.bl_write.proofs.RowLines.{in_rows, rows_read}
use Rattle.bl_write.proofs.SetLines.{IsCounted, IsKnownColumn, IsSection, ends_all, given_all}
use Rattle.bl_write.proofs.SetLines.{three_name}
use Rattle.bl_write.proofs.States.{after_bounds, after_ranges, after_rhs, all_whole, bounds_said}
use Rattle.bl_write.proofs.States.{cells_said, grid_said, names_of, open_grid, rows_said}
use Rattle.bl_write.proofs.States.{sense_said, set_said, state, whole_said}
use Rattle.bl_write.proofs.Steps.{Goes, goes_first, goes_on, stays}

-- ---- up to COLUMNS

named : Said
named = record nothing_said { section = Name }

name_read : after_line nothing_said (laid (1, codes "NAME") ((15, codes "BLIS") ∷ [])) ≡ Ok (record nothing_said { section = Name })
unfolding after_line pieces
name_read = refl

abbrev sensed : Sense → Said
sensed Min = record nothing_said { section = Name }
sensed Max = record nothing_said { section = Objsense; sense = Some Max }

objsense_opens : after_line (record nothing_said { section = Name }) (heading (codes "OBJSENSE")) ≡ Ok (record nothing_said { section = Objsense })
unfolding after_line pieces
objsense_opens = refl

max_read : after_line (record nothing_said { section = Objsense }) (laid (5, codes "MAX") []) ≡ Ok (record nothing_said { section = Objsense; sense = Some Max })
unfolding after_line pieces
max_read = refl

sense_read : (sense : Sense) → Goes (record nothing_said { section = Name }) (sense_lines sense)
    (sensed sense)
sense_read Min = stays (record nothing_said { section = Name })
sense_read Max =
    goes_first (record nothing_said { section = Name }) (record nothing_said { section = Objsense }) (sensed Max) (heading (codes "OBJSENSE")) (laid (5, codes "MAX") [] ∷ []) refl objsense_opens
    (goes_first (record nothing_said { section = Objsense }) (sensed Max) (sensed Max) (laid (5, codes "MAX") []) [] refl max_read (stays (sensed Max)))

abbrev rowless : Sense → Said
rowless sense = in_rows (record nothing_said { sense = sense_said sense }) []

rows_opens : (sense : Sense) → after_line (sensed sense) (heading (codes "ROWS")) ≡ Ok (rowless sense)
unfolding after_line pieces
rows_opens Min = refl
rows_opens Max = refl

sensed_open : (sense : Sense) → is_end (sensed sense).section ≡ false
sensed_open Min = refl
sensed_open Max = refl

front_read : (p : Program) → IsProgram p
    → Goes nothing_said (front_lines p) (state p Rows no_columns no_set no_set no_set)
front_read p h =
    let after = state p Rows no_columns no_set no_set no_set in
    goes_first nothing_said (record nothing_said { section = Name }) after (laid (1, codes "NAME") ((15, codes "BLIS") ∷ [])) (sense_lines p.sense ++ heading (codes "ROWS") ∷ rows_lines p) refl name_read
    (goes_on (record nothing_said { section = Name }) (sensed p.sense) after (sense_lines p.sense) (heading (codes "ROWS") ∷ rows_lines p) (sense_read p.sense)
    (goes_first (sensed p.sense) (rowless p.sense) after (heading (codes "ROWS")) (rows_lines p) (sensed_open p.sense) (rows_opens p.sense)
    (rows_read p (record nothing_said { sense = sense_said p.sense }) h)))

-- ---- COLUMNS

columns_opens : (p : Program) → after_line (state p Rows no_columns no_set no_set no_set) (heading (codes "COLUMNS")) ≡ Ok (in_columns p no_columns)
unfolding after_line pieces
columns_opens p = refl

stretch_opens : (p : Program) → after_line (in_columns p no_columns) (marker_line (codes "'INTORG'")) ≡ Ok (in_columns p (open_grid [] [] [] false))
unfolding after_line pieces
stretch_opens p = refl

abbrev closed : List Text → List Bool → List Cell → Grid
closed names whole cells = record {
  names = names;
  whole = whole;
  cells = cells;
  is_open =
      false;
  in_stretch = false;
}

stretch_ends : (p : Program) (names : List Text) (whole : List Bool) (cells : List Cell) (is_open : Bool) → after_line (in_columns p (open_grid names whole cells is_open)) (marker_line (codes "'INTEND'")) ≡ Ok (in_columns p (closed names whole cells))
unfolding after_line pieces
stretch_ends p names whole cells is_open = refl

columns_read : (p : Program) → IsProgram p → Goes (in_columns p no_columns) (columns_lines p)
    (in_columns p (grid_said p))
columns_read p h =
    let names = names_of p.columns in
    let whole = all_whole p.columns in
    let cells = cells_said p 0 p.columns in
    let after = open_grid names whole cells (open_after false p.columns) in
    let last = marker_line (codes "'INTEND'") ∷ [] in
    goes_first (in_columns p no_columns) (in_columns p (open_grid [] [] [] false)) (in_columns p (grid_said p)) (marker_line (codes "'INTORG'")) (cells_lines p 0 p.columns ++ last) refl (stretch_opens p)
    (goes_on (in_columns p (open_grid [] [] [] false)) (in_columns p after)
    (in_columns p (grid_said p)) (cells_lines p 0 p.columns) last
    (cells_read p [] [] [] false 0 p.columns refl (λ k d lt. refl) h.column_names
    (let e = h.few_columns in omega (arith, e))
    (All-weaker IsColumn (λ (c : Column). IsName c.name) (λ c col. col.name) p.columns
    h.columns)
    (λ i k d lt. amounts_are p i _ h (h.columns k d lt)) (All-nil (λ (c : Cell). c.column < 0)))
    (goes_first (in_columns p after) (in_columns p (grid_said p)) (in_columns p (grid_said p)) (marker_line (codes "'INTEND'")) [] refl (stretch_ends p names whole cells (open_after false p.columns)) (stays (in_columns p (grid_said p)))))

-- ---- behind COLUMNS

module _ (p : Program) (g : Grid) where
  abbrev in_rhs : SetOf Given → Said
  in_rhs x = state p Rhs g x no_set no_set

  abbrev in_ranges : SetOf Given → SetOf Given → Said
  in_ranges rhs x = state p Ranges g rhs x no_set

  rhs_section : IsSection p false (rows_said p) in_rhs
  rhs_section = record { open_still = λ x. refl; reads = λ x words. refl }

  ranges_section : (rhs : SetOf Given) → IsSection p true (rows_said p) (in_ranges rhs)
  ranges_section rhs = record { open_still = λ x. refl; reads = λ x words. refl }

  rhs_opens : after_line (state p Columns g no_set no_set no_set) (heading (codes "RHS")) ≡ Ok (in_rhs no_set)
  unfolding after_line pieces
  rhs_opens = refl

  rhs_read : (rights : List Amount) → All (IsCounted false (rows_said p)) rights
      → AllPairs Apart rights
      → Goes (state p Columns g no_set no_set no_set) (set_lines (codes "RHS") (codes "RHS") rights) (state p (after_rhs rights) g (set_said (codes "RHS") rights) no_set no_set)
  rhs_read [] known apart = stays (state p Columns g no_set no_set no_set)
  rhs_read (a ∷ rights) known apart =
      goes_first (state p Columns g no_set no_set no_set) (in_rhs no_set) (in_rhs (set_said (codes "RHS") (a ∷ rights))) (heading (codes "RHS")) (map (number_line (codes "RHS")) (a ∷ rights)) refl rhs_opens
      (given_all p false (rows_said p) (codes "RHS") (three_name 82 72 83 (omega arith) (omega arith) (omega arith)) in_rhs rhs_section a rights known apart)

  ranges_opens : (rights : List Amount) (rhs : SetOf Given) → after_line (state p (after_rhs rights) g rhs no_set no_set) (heading (codes "RANGES")) ≡ Ok (in_ranges rhs no_set)
  unfolding after_line pieces
  ranges_opens [] rhs = refl
  ranges_opens (a ∷ rights) rhs = refl

  rhs_open : (rights : List Amount) → is_end (after_rhs rights) ≡ false
  rhs_open [] = refl
  rhs_open (a ∷ rights) = refl

  ranges_read : (rights ranges : List Amount) (rhs : SetOf Given)
      → All (IsCounted true (rows_said p)) ranges → AllPairs Apart ranges
      → Goes (state p (after_rhs rights) g rhs no_set no_set) (set_lines (codes "RANGES") (codes "RNG") ranges) (state p (after_ranges rights ranges) g rhs (set_said (codes "RNG") ranges) no_set)
  ranges_read rights [] rhs known apart = stays (state p (after_rhs rights) g rhs no_set no_set)
  ranges_read rights (a ∷ ranges) rhs known apart =
      goes_first (state p (after_rhs rights) g rhs no_set no_set) (in_ranges rhs no_set) (in_ranges rhs (set_said (codes "RNG") (a ∷ ranges))) (heading (codes "RANGES")) (map (number_line (codes "RNG")) (a ∷ ranges)) (rhs_open rights) (ranges_opens rights rhs)
      (given_all p true (rows_said p) (codes "RNG") (three_name 82 78 71 (omega arith) (omega arith) (omega arith)) (in_ranges rhs) (ranges_section rhs) a ranges known apart)

  bounds_opens : (rights ranges : List Amount) (rhs rng : SetOf Given) → after_line (state p (after_ranges rights ranges) g rhs rng no_set) (heading (codes "BOUNDS")) ≡ Ok (state p Bounds g rhs rng no_set)
  unfolding after_line pieces
  bounds_opens [] [] rhs rng = refl
  bounds_opens (a ∷ rights) [] rhs rng = refl
  bounds_opens rights (a ∷ ranges) rhs rng = refl

  ranges_open : (rights ranges : List Amount) → is_end (after_ranges rights ranges) ≡ false
  ranges_open rights [] = rhs_open rights
  ranges_open rights (a ∷ ranges) = refl

  bounds_read : (rights ranges : List Amount) (columns : List Column) (rhs rng : SetOf Given)
      → All (IsKnownColumn g.names) columns
      → Goes (state p (after_ranges rights ranges) g rhs rng no_set) (bounds_lines columns)
      (state p (after_bounds rights ranges columns) g rhs rng (bounds_said columns))
  bounds_read rights ranges [] rhs rng known =
      stays (state p (after_ranges rights ranges) g rhs rng no_set)
  bounds_read rights ranges (c ∷ columns) rhs rng known =
      goes_first (state p (after_ranges rights ranges) g rhs rng no_set) (state p Bounds g rhs rng no_set) (state p Bounds g rhs rng (bounds_said (c ∷ columns))) (heading (codes "BOUNDS")) (ends_lines (c ∷ columns)) (ranges_open rights ranges) (bounds_opens rights ranges rhs rng)
      (ends_all p g rhs rng c columns known)

  bounds_open : (rights ranges : List Amount) (columns : List Column)
      → is_end (after_bounds rights ranges columns) ≡ false
  bounds_open rights ranges [] = ranges_open rights ranges
  bounds_open rights ranges (c ∷ columns) = refl

  end_opens : (rights ranges : List Amount) (columns : List Column) (rhs rng : SetOf Given) (bounds : SetOf Card) → after_line (state p (after_bounds rights ranges columns) g rhs rng bounds) (heading (codes "ENDATA")) ≡ Ok (state p End g rhs rng bounds)
  unfolding after_line pieces
  end_opens [] [] [] rhs rng bounds = refl
  end_opens (a ∷ rights) [] [] rhs rng bounds = refl
  end_opens rights (a ∷ ranges) [] rhs rng bounds = refl
  end_opens rights ranges (c ∷ columns) rhs rng bounds = refl

back_read : (p : Program) → IsProgram p → Goes (in_columns p (grid_said p)) (back_lines p)
    (whole_said p)
back_read p h =
    let g = grid_said p in
    let rights = rights_of p in
    let ranges = ranges_of p in
    let rhs = set_said (codes "RHS") rights in
    let rng = set_said (codes "RNG") ranges in
    let s1 = state p (after_rhs rights) g rhs no_set no_set in
    let s2 = state p (after_ranges rights ranges) g rhs rng no_set in
    let s3 = state p (after_bounds rights ranges p.columns) g rhs rng (bounds_said p.columns) in
    let l4 = heading (codes "ENDATA") ∷ [] in
    let l3 = bounds_lines p.columns ++ l4 in
    let l2 = set_lines (codes "RANGES") (codes "RNG") ranges ++ l3 in
    goes_on (in_columns p g) s1 (whole_said p) (set_lines (codes "RHS") (codes "RHS") rights) l2 (rhs_read p g rights (rights_counted p h) (rights_apart p h))
    (goes_on s1 s2 (whole_said p) (set_lines (codes "RANGES") (codes "RNG") ranges) l3 (ranges_read p g rights ranges rhs (ranges_counted p h) (ranges_apart p h))
    (goes_on s2 s3 (whole_said p) (bounds_lines p.columns) l4
    (bounds_read p g rights ranges p.columns rhs rng (columns_known p h))
    (goes_first s3 (whole_said p) (whole_said p) (heading (codes "ENDATA")) [] (bounds_open p g rights ranges p.columns) (end_opens p g rights ranges p.columns rhs rng (bounds_said p.columns)) (stays (whole_said p)))))

-- ---- the whole

pub whole_read : (p : Program) → IsProgram p → Goes nothing_said (lines_for p) (whole_said p)
whole_read p h =
    goes_on nothing_said (state p Rows no_columns no_set no_set no_set) (whole_said p) (front_lines p) (heading (codes "COLUMNS") ∷ (columns_lines p ++ back_lines p)) (front_read p h)
    (goes_first (state p Rows no_columns no_set no_set no_set) (in_columns p no_columns) (whole_said p) (heading (codes "COLUMNS")) (columns_lines p ++ back_lines p) refl (columns_opens p)
    (goes_on (in_columns p no_columns) (in_columns p (grid_said p)) (whole_said p)
    (columns_lines p) (back_lines p) (columns_read p h) (back_read p h)))

-- what the text says
pub written_said : (p : Program) → IsProgram p → All IsLine (lines_for p) → said_in (written p)
    ≡ Ok (record { said = whole_said p; last = length (lines_for p) })
unfolding said_in written
written_said p h plain =
    ap (said_from 0 nothing_said) (lines_ended (lines_for p) plain ∙ sym (append-nil (lines_for p)))
    ∙ whole_read p h 0 []
    ∙ said_done (0 + length (lines_for p)) (whole_said p) [] refl
    ∙ ap (λ n. Ok (record { said = whole_said p; last = n })) (let e : 0 + length (lines_for p)
    ≡ length (lines_for p) = omega arith in e)
