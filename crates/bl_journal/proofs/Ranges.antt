-- The bounds of a node that is out are within those of a well-formed problem.
use Rattle.std.proofs.Common.{◌≡◌, ℕ, zero, suc, ◌^◌, ◌≤◌, List, [], ◌∷◌, arith, true}
use Rattle.std.specs.Prelude.{ℤ, pos, ◌≤ℤ◌, int_le, map, unsigned_abs, neg_ℤ}
use Rattle.std.proofs.lemmas.Int.{ints, clamps}
use Rattle.std.proofs.lemmas.Bool.{and_parts}
use Rattle.bl_problem.specs.Program.{Program, IsColumn, IsProgram}
use Rattle.bl_problem.specs.Points.{own_lows, own_highs}
use Rattle.bl_problem.specs.Decisions.{Box, narrowed_at, narrowed_all, raised, lowered}
use Rattle.bl_problem.specs.declared.problem.Column.{Column}
use Rattle.bl_problem.specs.declared.decision.Decision.{Decision}
use Rattle.bl_problem.specs.declared.decision.Side.{Side}
use Rattle.bl_problem.specs.declared.decision.Side.TheVariants.{AtLeast, AtMost}
use Rattle.bl_journal.specs.declared.entry.Entry.{Entry}
use Rattle.bl_journal.specs.declared.settings.Settings.{Settings}
use Rattle.bl_journal.specs.Births.{node_at}
use Rattle.bl_journal.specs.Descriptions.{full_of, decisions_along}
use Rattle.bl_journal.specs.States.{state_of, has_point}
use Rattle.bl_journal.specs.declared.state.State.TheVariants.{Out as out}
use Rattle.bl_journal.specs.Legality.{IsLegalPast}
use Rattle.bl_journal.proofs.Living.{Each}
use Rattle.bl_journal.proofs.Workable.{out_has_point, Each-from_all}

abs_le : (z : ℤ) (n : ℕ) → neg_ℤ (pos n) ≤ℤ z → z ≤ℤ pos n → unsigned_abs z ≤ n
abs_le z n a b = omega (arith, ints, a, b)

le_abs : (z : ℤ) (n : ℕ) → unsigned_abs z ≤ n → (neg_ℤ (pos n) ≤ℤ z) × (z ≤ℤ pos n)
le_abs z n h = (omega (arith, ints, h), omega (arith, ints, h))

-- equally long lists, each number of the first at most that of the second
abbrev pub AtMostEach : List ℤ → List ℤ → Type 0
AtMostEach [] [] = Unit {0}
AtMostEach [] (b ∷ bs) = ⊥
AtMostEach (a ∷ az) [] = ⊥
AtMostEach (a ∷ az) (b ∷ bs) = (a ≤ℤ b) × AtMostEach az bs

AtMostEach-self : (xs : List ℤ) → AtMostEach xs xs
AtMostEach-self [] = tt
AtMostEach-self (x ∷ xs) = (omega (arith, ints), AtMostEach-self xs)

AtMostEach-then : (xs ys zs : List ℤ) → AtMostEach xs ys → AtMostEach ys zs → AtMostEach xs zs
AtMostEach-then [] [] [] a b = tt
AtMostEach-then [] [] (z ∷ zs) a b = absurd b
AtMostEach-then [] (y ∷ ys) zs a b = absurd a
AtMostEach-then (x ∷ xs) [] zs a b = absurd a
AtMostEach-then (x ∷ xs) (y ∷ ys) [] a b = absurd b
AtMostEach-then (x ∷ xs) (y ∷ ys) (z ∷ zs) a b =
    (omega (arith, ints, a.0, b.0), AtMostEach-then xs ys zs a.1 b.1)

AtMostEach-raised : (xs : List ℤ) (j : ℕ) (v : ℤ) → AtMostEach xs (raised xs j v)
AtMostEach-raised [] j v = tt
AtMostEach-raised (x ∷ xs) zero v = (omega (arith, ints, clamps), AtMostEach-self xs)
AtMostEach-raised (x ∷ xs) (suc j) v = (omega (arith, ints), AtMostEach-raised xs j v)

AtMostEach-lowered : (xs : List ℤ) (j : ℕ) (v : ℤ) → AtMostEach (lowered xs j v) xs
AtMostEach-lowered [] j v = tt
AtMostEach-lowered (x ∷ xs) zero v = (omega (arith, ints, clamps), AtMostEach-self xs)
AtMostEach-lowered (x ∷ xs) (suc j) v = (omega (arith, ints), AtMostEach-lowered xs j v)

-- a narrower box
pub record IsNarrower (b c : Box) : Type 0 where
  pub lows : AtMostEach b.lows c.lows
  pub highs : AtMostEach c.highs b.highs

narrower_at : (s : Side) (b : Box) (j : ℕ) (v : ℤ) → IsNarrower b (narrowed_at s b j v)
narrower_at AtLeast b j v =
    record { lows = AtMostEach-raised b.lows j v; highs = AtMostEach-self b.highs }
narrower_at AtMost b j v = record {
  lows = AtMostEach-self b.lows;
  highs =
      AtMostEach-lowered b.highs j v;
}

pub narrower_all : (b : Box) (ds : List Decision) → IsNarrower b (narrowed_all b ds)
narrower_all b [] = record { lows = AtMostEach-self b.lows; highs = AtMostEach-self b.highs }
narrower_all b (d ∷ ds) =
    let one = narrower_at d.side b d.column d.value in
    let rest = narrower_all (narrowed_at d.side b d.column d.value) ds in
    record {
      lows = AtMostEach-then _ _ _ one.lows rest.lows;
      highs =
          AtMostEach-then _ _ _ rest.highs one.highs;
    }

abbrev pub IsSmall : ℤ → Type 0
IsSmall z = unsigned_abs z ≤ 10 ^ 9

small_box : (columns : List Column) (lows highs : List ℤ) → Each IsColumn columns
    → AtMostEach (map (λ c. c.low) columns) lows → AtMostEach highs (map (λ c. c.high) columns)
    → has_point lows highs ≡ true → Each IsSmall lows × Each IsSmall highs
small_box [] [] [] w a b h = (tt, tt)
small_box [] [] (y ∷ highs) w a b h = absurd b
small_box [] (x ∷ lows) highs w a b h = absurd a
small_box (c ∷ columns) [] highs w a b h = absurd a
small_box (c ∷ columns) (x ∷ lows) [] w a b h = absurd b
small_box (c ∷ columns) (x ∷ lows) (y ∷ highs) w a b h =
    let parts = and_parts (int_le x y) (has_point lows highs) h in
    let le : x ≤ℤ y = grind (arith, ints, parts.0) in
    let low = le_abs c.low (10 ^ 9) w.0.low in
    let high = le_abs c.high (10 ^ 9) w.0.high in
    let rest = small_box columns lows highs w.1 a.1 b.1 parts.1 in (
      (
        abs_le x (10 ^ 9) (omega (arith, ints, low.0, a.0)) (omega (arith, ints, le, high.1, b.0)),
        rest.0,
      ),
      (
        abs_le y (10 ^ 9) (omega (arith, ints, low.0, a.0, le)) (omega (arith, ints, high.1, b.0)),
        rest.1,
      ),
    )

pub leased_small : (p : Program) (s : Settings) (past : List Entry) (id seat : ℕ)
    → IsLegalPast p s past → IsProgram p → state_of past id ≡ out seat
    → Each IsSmall (full_of p past id).lows × Each IsSmall (full_of p past id).highs
leased_small p s past id seat l w o =
    let n = narrower_all (record { lows = own_lows p; highs = own_highs p })
    (decisions_along (node_at p past id).path) in
    small_box p.columns (full_of p past id).lows (full_of p past id).highs
    (Each-from_all IsColumn p.columns w.columns) n.lows n.highs
    (out_has_point p s past l id seat o)
