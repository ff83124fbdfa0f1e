-- The greatest unit bound, over a problem and a description.
use Rattle.std.proofs.Common.{◌≡◌, ℕ, zero, suc, ◌<◌, ◌+◌, ◌^◌, ℤ, pos, negsuc, ◌+ℤ◌, arith, List}
use Rattle.std.proofs.Common.{[], ◌∷◌, length, All, Some, None, FitsSigned, to_z, of_z, IfSome}
use Rattle.std.proofs.Common.{◌≤ℤ◌, slice_set, refl, sym, ◌∙◌, ap, slice_index_or}
use Rattle.std.specs.Int.{w128}
use Rattle.std.proofs.lemmas.Int.{ints, to_z-of_z}
use Rattle.bl_bound.proofs.Exact.{AreRead}
use Rattle.bl_num.specs.Exact.{at}
use Rattle.bl_num.specs.Checked.{checked_add}
use Rattle.bl_problem.specs.Sums.{IsWithin}
use Rattle.bl_problem.specs.Rows.{AreTerms}
use Rattle.bl_problem.specs.declared.problem.Row.{Row}
use Rattle.bl_problem.specs.declared.cut.Cut.{Cut}
use Rattle.bl_bound.specs.Lines.{Line, line_at, lines_of}
use Rattle.bl_bound.specs.Bounds.{line_part, multiplier_sum_of, bound_of}
use Rattle.bl_bound.specs.Units.{box_bound, moved, row_bound, greatest_of, AreUnit}
use Rattle.bl_problem.specs.declared.problem.Column.{Column}
use Rattle.bl_problem.specs.Program.{Program, IsProgram}
use Rattle.bl_problem.specs.Points.{costs_of, value_of}
use Rattle.bl_desc.specs.declared.desc.Desc.{Desc}
use Rattle.bl_bound.specs.Descriptions.{Describes, IsLeft}
use Rattle.std.proofs.lemmas.List.{length-map, length-set, get_or-set_same, get_or-set_other}
use Rattle.std.proofs.lemmas.List.Elements.{All-map}
use native.Mathlib.Decide.{ℕ_discrete}
use lib.IntN.{ℤ_discrete}
use Rattle.bl_bound.proofs.Greatest.{greatest-up, greatest-over, greatest-keeps}
use Rattle.bl_bound.proofs.LineLemmas.{length-lines_of}
use Rattle.bl_bound.proofs.Meets.{multiplier_sum_of-le}
use Rattle.bl_bound.proofs.UnitBounds.{AreNear, rounded_by_one, zero_sum, unit_sum, row_line}
use Rattle.bl_bound.proofs.UnitBounds.{row_part}

at-near : (xs : List ℤ) (m : ℕ) (j : ℕ) → All (IsWithin m) xs → IsWithin m (at xs j)
at-near [] m j h = omega (arith, ints)
at-near (x ∷ xs) m zero h = h 0 (pos 0) (omega arith)
at-near (x ∷ xs) m (suc j) h = at-near xs m j (λ k d l. h (suc k) d (omega arith))

are_near : (p : Program) (desc : Desc Cut) → IsProgram p → Describes p desc
    → AreNear p.offset (costs_of p.columns) desc.lows desc.highs
are_near p desc h s = record {
  few = let n = length-map p.columns (λ (c : Column). c.cost) in let f =
      h.few_columns in omega (arith, n, f);
  near_start = h.offset;
  near_costs = λ j. at-near (costs_of p.columns) (10 ^ 15) j
      (All-map (IsWithin (10 ^ 15)) (λ (c : Column). c.cost) p.columns
      (λ k d l. (h.columns k d l).cost));
  near_lows = λ j. at-near desc.lows (10 ^ 9) j s.near_lows;
  near_highs = λ j. at-near desc.highs (10 ^ 9) j s.near_highs;
}

pub zero_bound : (p : Program) (desc : Desc Cut) (y : List ℤ) → IsProgram p → Describes p desc
    → ((k : ℕ) → at y k ≡ pos 0) →
    bound_of p desc y (pos 1) ≡ Some (box_bound p.offset (costs_of p.columns) desc.lows desc.highs)
zero_bound p desc y h s z = rounded_by_one (multiplier_sum_of p desc y (pos 1))
    ∙ zero_sum p.offset (costs_of p.columns) desc.lows desc.highs (lines_of p.rows desc.cuts) y
    (are_near p desc h s) z

pub unit_bound : (p : Program) (desc : Desc Cut) (y : List ℤ) (i : ℕ) (d : Row) → IsProgram p
    → Describes p desc → i < length p.rows → IsWithin 1 (at y i) → ¬ (at y i ≡ pos 0)
    → ((k : ℕ) → ¬ (k ≡ i) → at y k ≡ pos 0) →
    bound_of p desc y (pos 1) ≡ row_bound (box_bound p.offset (costs_of p.columns) desc.lows
    desc.highs) (costs_of p.columns) desc.lows desc.highs (at y i) (slice_index_or p.rows i d)
unit_bound p desc y i d h s l u n z =
    let row = slice_index_or p.rows i d in
    let lines = lines_of p.rows desc.cuts in
    let e = row_line p.rows desc.cuts i d l in
    let r = h.rows i d l in
    let m = length-map p.columns (λ (c : Column). c.cost) in
    let w = length-lines_of p.rows desc.cuts in
    let t : AreTerms (length (costs_of p.columns)) (line_at lines i).terms = rw (e, m) r.terms in
    let a = unit_sum p.offset (costs_of p.columns) desc.lows desc.highs lines y i
    (are_near p desc h s) (omega (arith, l, w)) t u z in
    let base = box_bound p.offset (costs_of p.columns) desc.lows desc.highs in
    let near : IsWithin (10 ^ 28) (base +ℤ moved (costs_of p.columns) desc.lows desc.highs
    (at y i) row.terms) = rw e at a.near in
    rounded_by_one (multiplier_sum_of p desc y (pos 1)) ∙ a.exact
    ∙ ap (λ (line : Line). checked_add
    (Some (base +ℤ moved (costs_of p.columns) desc.lows desc.highs (at y i) line.terms))
    (line_part (at y i) line)) e
    ∙ row_part (base +ℤ moved (costs_of p.columns) desc.lows desc.highs (at y i) row.terms)
    (at y i) row near u n r.ends

-- ---- the unit multipliers
zeros : ℕ → List ℤ
zeros zero = []
zeros (suc n) = pos 0 ∷ zeros n

length-zeros : (n : ℕ) → length (zeros n) ≡ n
unfolding zeros
length-zeros zero = refl
length-zeros (suc n) = ap suc (length-zeros n)

at-zeros : (n k : ℕ) → at (zeros n) k ≡ pos 0
unfolding zeros
at-zeros zero k = refl
at-zeros (suc n) zero = refl
at-zeros (suc n) (suc k) = at-zeros n k

unit_at : ℕ → ℕ → ℤ → List ℤ
unit_at n i v = slice_set (zeros n) i v

-- a 1 or a -1
by_unit : {P : Type 0} (v : ℤ) → IsWithin 1 v → ¬ (v ≡ pos 0) → (v ≡ pos 1 → P)
    → (v ≡ negsuc 0 → P) → P
by_unit (pos zero) h n f g = absurd (n refl)
by_unit (pos (suc zero)) h n f g = f refl
by_unit (pos (suc (suc k))) h n f g = absurd (omega (arith, ints, h))
by_unit (negsuc zero) h n f g = g refl
by_unit (negsuc (suc k)) h n f g = absurd (omega (arith, ints, h))

-- the problem's greatest unit bound
abbrev pub greatest_in : Program → Desc Cut → ℤ
greatest_in p desc = greatest_of (box_bound p.offset (costs_of p.columns) desc.lows desc.highs)
    (costs_of p.columns) desc.lows desc.highs p.rows

pub unit-le : (p : Program) (desc : Desc Cut) (y : List ℤ) → IsProgram p → Describes p desc
    → AreUnit (length p.rows) (length desc.cuts) y
    → IfSome (bound_of p desc y (pos 1)) (λ b. b ≤ℤ greatest_in p desc)
unit-le p desc y h s a = elim (ℤ_discrete (at y a.place) (pos 0)) [
  | yes e ↦
      rw (zero_bound p desc y h s
      (λ k. elim (ℕ_discrete k a.place) [ yes q ↦ rw q e | no d ↦ a.others k d ]))
      (greatest-up (box_bound p.offset (costs_of p.columns) desc.lows desc.highs)
      (costs_of p.columns) desc.lows desc.highs p.rows)
  | no n ↦
      let over = greatest-over (box_bound p.offset (costs_of p.columns) desc.lows desc.highs)
      (costs_of p.columns) desc.lows desc.highs p.rows in
      let row : Row = record { name = []; terms = []; low = None; high = None } in
      rw (unit_bound p desc y a.place row h s (a.row n) a.small n a.others)
      (by_unit (at y a.place) a.small n (λ q. rw q (over.up a.place row (a.row n)))
      (λ q. rw q (over.down a.place row (a.row n))))
]

-- multipliers that are 0 but for v at the row i
set-unit : (rows cuts i : ℕ) (v : ℤ) → i < rows → IsWithin 1 v
    → AreUnit rows cuts (slice_set (zeros (rows + cuts)) i v)
set-unit rows cuts i v l h =
    let w = length-set (zeros (rows + cuts)) i v ∙ length-zeros (rows + cuts) in
    let n = length-zeros (rows + cuts) in
    record {
      width = w;
      place = i;
      small = rw (get_or-set_same (zeros (rows + cuts)) i v (pos 0) (omega (arith, l, n))) h;
      row = λ d. l;
      others = λ k d. get_or-set_other (zeros (rows + cuts)) i k v (pos 0) (λ q. d q)
          ∙ at-zeros (rows + cuts) k;
    }

-- the bound b is that of some unit multipliers
abbrev pub IsReached : Program → Desc Cut → ℤ → Type 0
IsReached p desc b = (y : List ℤ)
    × (AreUnit (length p.rows) (length desc.cuts) y × (bound_of p desc y (pos 1) ≡ Some b))

base-reached : (p : Program) (desc : Desc Cut) → IsProgram p → Describes p desc
    → IsReached p desc (box_bound p.offset (costs_of p.columns) desc.lows desc.highs)
base-reached p desc h s =
    let n = length p.rows + length desc.cuts in (
      zeros n,
      (
        record {
          width = length-zeros n;
          place = 0;
          small =
              rw (at-zeros n 0) (omega (arith, ints));
          row = λ d. absurd (d (at-zeros n 0));
          others =
              λ k d. at-zeros n k;
        },
        zero_bound p desc (zeros n) h s (at-zeros n),
      ),
    )

row-reached : (p : Program) (desc : Desc Cut) (k : ℕ) (d : Row) (v b : ℤ) → IsProgram p
    → Describes p desc → k < length p.rows → IsWithin 1 v → ¬ (v ≡ pos 0) →
    row_bound (box_bound p.offset (costs_of p.columns) desc.lows desc.highs) (costs_of p.columns)
    desc.lows desc.highs v (slice_index_or p.rows k d) ≡ Some b → IsReached p desc b
unfolding set-unit
row-reached p desc k d v b h s l u n e =
    let m = length p.rows + length desc.cuts in
    let w = length-zeros m in
    let y = slice_set (zeros m) k v in
    let a = set-unit (length p.rows) (length desc.cuts) k v l u in
    let here : at y k ≡ v = get_or-set_same (zeros m) k v (pos 0) (omega (arith, l, w)) in
    let t = unit_bound p desc y k d h s l (rw here u) (rw here n) a.others in (
      y,
      (
        a,
        t
            ∙ ap (λ (z : ℤ). row_bound (box_bound p.offset (costs_of p.columns) desc.lows desc.highs)
            (costs_of p.columns) desc.lows desc.highs z (slice_index_or p.rows k d)) here ∙ e,
      ),
    )

pub greatest-reached : (p : Program) (desc : Desc Cut) → IsProgram p → Describes p desc
    → IsReached p desc (greatest_in p desc)
greatest-reached p desc h s =
    greatest-keeps (IsReached p desc) (box_bound p.offset (costs_of p.columns) desc.lows
    desc.highs) (costs_of p.columns) desc.lows desc.highs p.rows (base-reached p desc h s)
    (record {
      up = λ k d b l e. row-reached p desc k d (pos 1) b h s l (omega (arith, ints))
          (λ q. absurd cc) e;
      down = λ k d b l e. row-reached p desc k d (negsuc 0) b h s l (omega (arith, ints))
          (λ q. absurd cc) e;
    })

pub reached-below : (p : Program) (desc : Desc Cut) (b : ℤ) (x : List ℤ) → IsProgram p
    → Describes p desc → IsReached p desc b → IsLeft p desc x → b ≤ℤ value_of p x
reached-below p desc b x h s r f =
    let t = multiplier_sum_of-le p desc r.0 x (pos 1) b h s f
    (sym (rounded_by_one (multiplier_sum_of p desc r.0 (pos 1))) ∙ r.1.1) in
    omega (arith, ints, t)

-- what the calls answered, of lists that are the problem's and the description's
pub greatest_is : (p : Program) (desc : Desc Cut) (columns : List Column) (rows : List Row)
    (cuts : List Cut) (lows highs : List ℤ) (offset base greatest : ℤ)
    → AreRead p desc columns rows cuts lows highs offset →
    FitsSigned w128 offset → FitsSigned w128 base → base
    ≡ box_bound (to_z w128 (of_z w128 offset)) (costs_of columns) lows highs →
    greatest ≡ greatest_of (to_z w128 (of_z w128 base)) (costs_of columns) lows highs rows
    → greatest ≡ greatest_in p desc
greatest_is p desc columns rows cuts lows highs offset base greatest a f g e k =
    let b = rw (to_z-of_z w128 offset f, a.columns_are, a.lows_are, a.highs_are, a.offset_is) at e
    in
    rw (to_z-of_z w128 base g, a.columns_are, a.rows_are, a.lows_are, a.highs_are, b) at k
