-- No line of the text holds a line feed, or a carriage return.
use Rattle.std.proofs.Common.{◌≡◌, ◌<◌, ◌≤◌, ◌^◌, ◌&&◌, ◌==◌, ℕ, ℤ, Bool, true, false, cond, List}
use Rattle.std.proofs.Common.{[], ◌∷◌, ◌++◌, map, get_or, refl, arith, suc, codes, Option, Some}
use Rattle.std.proofs.Common.{None, All, not, nat_abs}
use Rattle.std.specs.List.{list_all}
use Rattle.std.specs.Ordering.{int_eq}
use Rattle.std.proofs.lemmas.Bool.Decides.{nat_tests}
use Rattle.std.proofs.lemmas.List.Elements.{All-append, All-cons, All-head, All-map, All-nil}
use Rattle.std.proofs.lemmas.List.Elements.{All-tail, All-weaker}
use Rattle.bl_num.specs.Texts.{text_of}
use Rattle.bl_problem.specs.declared.problem.Column.{Column}
use Rattle.bl_problem.specs.declared.problem.Row.{Row}
use Rattle.bl_problem.specs.declared.problem.Sense.{Sense}
use Rattle.bl_problem.specs.declared.problem.Sense.TheVariants.{Min, Max}
use Rattle.bl_problem.specs.Program.{IsColumn, IsName, IsProgram, IsVisible, Program}
use Rattle.bl_cards.specs.Said.{RowLine}
use Rattle.bl_write.specs.Layout.{Text, laid}
use Rattle.bl_write.specs.Written.{Amount, amounts_of, back_lines, bound_line, bounds_lines}
use Rattle.bl_write.specs.Written.{cells_lines, columns_lines, ends_lines, front_lines, heading}
use Rattle.bl_write.specs.Written.{kind_of, lines_for, marker_line, number_line, ranges_of}
use Rattle.bl_write.specs.Written.{rights_of, row_line, rows_lines, sense_lines, set_lines}
use Rattle.bl_write.proofs.Facts.{amounts_are, ranges_counted, rights_counted}
use Rattle.bl_write.proofs.Lines.{IsLine, IsPlain, laid_line}
use Rattle.bl_write.proofs.Names.{IsKnown, known_word}
use Rattle.bl_write.proofs.Numbers.{number_name}
use Rattle.bl_write.proofs.SetLines.{IsCounted, three_name, two_name, bnd_name}
use Rattle.bl_write.proofs.States.{rows_said}

-- a line that is known whole

plain_by : (b : ℕ) → (not (b == 10) && not (b == 13)) ≡ true → IsPlain b
plain_by b e = record { feed = grind (arith, nat_tests); return = grind (arith, nat_tests) }

both_left : (s t : Bool) → (s && t) ≡ true → s ≡ true
both_left true t e = refl
both_left false t e = absurd cc

both_right : (s t : Bool) → (s && t) ≡ true → t ≡ true
both_right true t e = e
both_right false t e = absurd cc

known_line : (line : Text) → list_all (λ b. not (b == 10) && not (b == 13)) line ≡ true
    → IsLine line
known_line [] e = All-nil IsPlain
known_line (b ∷ line) e =
    let rest = list_all (λ x. not (x == 10) && not (x == 13)) line in
    All-cons IsPlain b line (plain_by b (both_left (not (b == 10) && not (b == 13)) rest e))
    (known_line line (both_right (not (b == 10) && not (b == 13)) rest e))

one_name : (k : ℕ) → 64 < k → IsName (k ∷ [])
one_name k l = record {
  some = λ e. absurd cc;
  visible =
      All-cons IsVisible k [] (record {
        space = omega arith;
        tab = omega arith;
        return =
            omega arith;
        feed = omega arith;
      }) (All-nil IsVisible);
}

kind_name : (low high : Option ℤ) → IsName (kind_of low high)
kind_name None high = one_name 76 (omega arith)
kind_name (Some low) None = one_name 71 (omega arith)
kind_name (Some low) (Some high) = by (int_eq low high)
  where
    by : (t : Bool) → IsName (cond t (codes "E") (codes "L"))
    by true = one_name 69 (omega arith)
    by false = one_name 76 (omega arith)

row_plain : (kind name : Text) → IsName kind → IsName name → IsLine (row_line kind name)
row_plain kind name k n = laid_line (2, kind) ((5, name) ∷ []) k
    (All-cons (λ f. IsName f.1) (5, name) [] n (All-nil (λ f. IsName f.1)))

number_plain : (rows : List RowLine) (first : Text) (a : Amount) → IsName first → IsKnown rows a
    → IsLine (number_line first a)
number_plain rows first a f k =
    laid_line (5, first) ((15, a.name) ∷ (25, text_of a.value a.places) ∷ []) f
    (All-cons (λ g. IsName g.1) (15, a.name) ((25, text_of a.value a.places) ∷ []) k.name.name
    (All-cons (λ g. IsName g.1) (25, text_of a.value a.places) [] (known_word rows a k)
    (All-nil (λ g. IsName g.1))))

numbers_plain : (rows : List RowLine) (first : Text) (amounts : List Amount) → IsName first
    → All (IsKnown rows) amounts → All IsLine (map (number_line first) amounts)
numbers_plain rows first amounts f known =
    All-map IsLine (number_line first) amounts
    (λ k d lt. number_plain rows first _ f (known k d lt))

bound_plain : (kind name : Text) (z : ℤ) → IsName kind → IsName name → nat_abs z ≤ 10 ^ 9
    → IsLine (bound_line kind name z)
bound_plain kind name z k n small =
    laid_line (2, kind) ((5, codes "BND") ∷ (15, name) ∷ (25, text_of z 0) ∷ []) k
    (All-cons (λ f. IsName f.1) (5, codes "BND") ((15, name) ∷ (25, text_of z 0) ∷ []) bnd_name
    (All-cons (λ f. IsName f.1) (15, name) ((25, text_of z 0) ∷ []) n
    (All-cons (λ f. IsName f.1) (25, text_of z 0) [] (number_name z 0 (omega (arith, small)))
    (All-nil (λ f. IsName f.1)))))

sense_plain : (sense : Sense) → All IsLine (sense_lines sense)
sense_plain Min = All-nil IsLine
sense_plain Max = All-cons IsLine (heading (codes "OBJSENSE")) (laid (5, codes "MAX") [] ∷ []) (known_line (heading (codes "OBJSENSE")) refl) (All-cons IsLine (laid (5, codes "MAX") []) [] (known_line (laid (5, codes "MAX") []) refl) (All-nil IsLine))

front_plain : (p : Program) → IsProgram p → All IsLine (front_lines p)
front_plain p h =
    All-cons IsLine (laid (1, codes "NAME") ((15, codes "BLIS") ∷ [])) (sense_lines p.sense ++ heading (codes "ROWS") ∷ rows_lines p) (known_line (laid (1, codes "NAME") ((15, codes "BLIS") ∷ [])) refl)
    (All-append IsLine (sense_lines p.sense) (heading (codes "ROWS") ∷ rows_lines p) (sense_plain p.sense)
    (All-cons IsLine (heading (codes "ROWS")) (rows_lines p) (known_line (heading (codes "ROWS")) refl)
    (All-cons IsLine (row_line (codes "N") p.objective) (map (λ (r : Row). row_line (kind_of r.low r.high) r.name) p.rows) (row_plain (codes "N") p.objective (one_name 78 (omega arith)) h.objective.name)
    (All-map IsLine (λ (r : Row). row_line (kind_of r.low r.high) r.name) p.rows
    (λ k d lt. row_plain (kind_of (get_or p.rows k d).low (get_or p.rows k d).high)
    (get_or p.rows k d).name (kind_name (get_or p.rows k d).low (get_or p.rows k d).high)
    (h.rows k d lt).name.name)))))

cells_plain : (p : Program) → IsProgram p → (j : ℕ) (columns : List Column) → All IsColumn columns
    → All IsLine (cells_lines p j columns)
cells_plain p h j [] cols = All-nil IsLine
cells_plain p h j (c ∷ columns) cols =
    let col = All-head IsColumn c columns cols in
    All-append IsLine (map (number_line c.name) (amounts_of p j c)) (cells_lines p (suc j) columns)
    (numbers_plain (rows_said p) c.name (amounts_of p j c) col.name
    (amounts_are p j c h col).known)
    (cells_plain p h (suc j) columns (All-tail IsColumn c columns cols))

columns_plain : (p : Program) → IsProgram p → All IsLine (columns_lines p)
columns_plain p h =
    All-cons IsLine (marker_line (codes "'INTORG'")) (cells_lines p 0 p.columns ++ marker_line (codes "'INTEND'") ∷ []) (known_line (marker_line (codes "'INTORG'")) refl)
    (All-append IsLine (cells_lines p 0 p.columns) (marker_line (codes "'INTEND'") ∷ []) (cells_plain p h 0 p.columns h.columns)
    (All-cons IsLine (marker_line (codes "'INTEND'")) [] (known_line (marker_line (codes "'INTEND'")) refl) (All-nil IsLine)))

set_plain : (o : Bool) (rows : List RowLine) (section set : Text) (amounts : List Amount)
    → IsLine (heading section) → IsName set → All (IsCounted o rows) amounts
    → All IsLine (set_lines section set amounts)
set_plain o rows section set [] head s known = All-nil IsLine
set_plain o rows section set (a ∷ amounts) head s known =
    All-cons IsLine (heading section) (map (number_line set) (a ∷ amounts)) head
    (numbers_plain rows set (a ∷ amounts) s
    (All-weaker (IsCounted o rows) (IsKnown rows) (λ b k. k.0) (a ∷ amounts) known))

ends_plain : (columns : List Column) → All IsColumn columns → All IsLine (ends_lines columns)
ends_plain [] cols = All-nil IsLine
ends_plain (c ∷ columns) cols =
    let col = All-head IsColumn c columns cols in
    All-cons IsLine (bound_line (codes "LO") c.name c.low) (bound_line (codes "UP") c.name c.high ∷ ends_lines columns) (bound_plain (codes "LO") c.name c.low (two_name 76 79 (omega arith) (omega arith)) col.name col.low)
    (All-cons IsLine (bound_line (codes "UP") c.name c.high) (ends_lines columns) (bound_plain (codes "UP") c.name c.high (two_name 85 80 (omega arith) (omega arith)) col.name col.high) (ends_plain columns (All-tail IsColumn c columns cols)))

bounds_plain : (columns : List Column) → All IsColumn columns → All IsLine (bounds_lines columns)
bounds_plain [] cols = All-nil IsLine
bounds_plain (c ∷ columns) cols = All-cons IsLine (heading (codes "BOUNDS")) (ends_lines (c ∷ columns)) (known_line (heading (codes "BOUNDS")) refl) (ends_plain (c ∷ columns) cols)

back_plain : (p : Program) → IsProgram p → All IsLine (back_lines p)
back_plain p h =
    let last = heading (codes "ENDATA") ∷ [] in
    let bounds = bounds_lines p.columns ++ last in
    let ranges = set_lines (codes "RANGES") (codes "RNG") (ranges_of p) in
    All-append IsLine (set_lines (codes "RHS") (codes "RHS") (rights_of p)) (ranges ++ bounds)
    (set_plain false (rows_said p) (codes "RHS") (codes "RHS") (rights_of p) (known_line (heading (codes "RHS")) refl) (three_name 82 72 83 (omega arith) (omega arith) (omega arith)) (rights_counted p h))
    (All-append IsLine ranges bounds
    (set_plain true (rows_said p) (codes "RANGES") (codes "RNG") (ranges_of p) (known_line (heading (codes "RANGES")) refl) (three_name 82 78 71 (omega arith) (omega arith) (omega arith)) (ranges_counted p h))
    (All-append IsLine (bounds_lines p.columns) last (bounds_plain p.columns h.columns) (All-cons IsLine (heading (codes "ENDATA")) [] (known_line (heading (codes "ENDATA")) refl) (All-nil IsLine))))

pub all_plain : (p : Program) → IsProgram p → All IsLine (lines_for p)
all_plain p h =
    All-append IsLine (front_lines p) (heading (codes "COLUMNS") ∷ (columns_lines p ++ back_lines p)) (front_plain p h)
    (All-cons IsLine (heading (codes "COLUMNS")) (columns_lines p ++ back_lines p) (known_line (heading (codes "COLUMNS")) refl)
    (All-append IsLine (columns_lines p) (back_lines p) (columns_plain p h) (back_plain p h)))
