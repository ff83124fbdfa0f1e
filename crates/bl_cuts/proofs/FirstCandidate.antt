-- The first candidate that is broken is a candidate.
use Rattle.std.proofs.Common.{◌≡◌, ℕ, zero, suc, ◌+◌, ◌<◌, ℤ, pos, negsuc, ◌≤ℤ◌, ◌<ℤ◌, arith}
use Rattle.std.proofs.Common.{List, [], ◌∷◌, length, Option, Some, None, Bool, true, false, cond}
use Rattle.std.proofs.Common.{refl, sym, ◌∙◌, ap, inl, inr}
use Rattle.std.specs.Prelude.{int_lt, unsigned_abs, ◌&&◌, replicate}
use Rattle.std.specs.List.{Contains}
use Rattle.std.proofs.lemmas.Int.{ints}
use Rattle.std.proofs.lemmas.Bool.{and_parts}
use Rattle.std.proofs.lemmas.List.{length-set, length-replicate}
use Rattle.bl_problem.specs.Program.{Program}
use Rattle.bl_problem.specs.declared.cut.Cut.{Cut}
use Rattle.bl_problem.specs.declared.problem.Row.{Row}
use Rattle.bl_problem.specs.declared.problem.Term.{Term}
use Rattle.bl_cuts.specs.declared.pick.Pick.{Pick}
use Rattle.bl_cuts.specs.declared.separation.Candidate.{Candidate}
use Rattle.bl_cuts.specs.Separations.{pick_of, candidate, or_else, first_size, first_at_end}
use Rattle.bl_cuts.specs.Separations.{first_in_row, first_in_rows, row_at, PointsAt, IsCandidate}

-- a candidate of a row
pub record OfTerms (i : ℕ) (v : ℤ) (ts : List Term) (c : Candidate) : Type 0 where
  pub term : Term
  pub is_term : Contains ts term
  pub above : pos 1 <ℤ pos (unsigned_abs term.coefficient)
  pub is : c ≡ candidate i v (pos (unsigned_abs term.coefficient))

first : (t : Term) (ts : List Term) → Contains (t ∷ ts) t
first t ts = (0, omega arith, refl)

later : (t : Term) (ts : List Term) (u : Term) → Contains ts u → Contains (t ∷ ts) u
later t ts u c = let l = c.1 in (suc c.0, omega (arith, l), c.2)

above_one : (n : ℕ) → int_lt (pos 1) (pos n) ≡ true → pos 1 <ℤ pos n
above_one n e = grind (arith, ints, Rattle.std.proofs.lemmas.Bool.Decides.nat_tests, e)

of_terms : (broken : Candidate → Bool) (i : ℕ) (v : ℤ) (ts : List Term) (c : Candidate)
    → first_size broken i v ts ≡ Some c → OfTerms i v ts c
of_terms broken i v [] c e = absurd cc
of_terms broken i v (t ∷ ts) c e =
    by (int_lt (pos 1) (pos (unsigned_abs t.coefficient))
    && broken (candidate i v (pos (unsigned_abs t.coefficient)))) refl
    (λ f. of_terms broken i v ts c f) e
  where
    by : (b : Bool) → (int_lt (pos 1) (pos (unsigned_abs t.coefficient))
        && broken (candidate i v (pos (unsigned_abs t.coefficient)))) ≡ b
        → (first_size broken i v ts ≡ Some c → OfTerms i v ts c)
        → cond b (Some (candidate i v (pos (unsigned_abs t.coefficient))))
        (first_size broken i v ts) ≡ Some c → OfTerms i v (t ∷ ts) c
    by true f g h =
        let p = and_parts (int_lt (pos 1) (pos (unsigned_abs t.coefficient)))
        (broken (candidate i v (pos (unsigned_abs t.coefficient)))) f in
        let same : candidate i v (pos (unsigned_abs t.coefficient)) ≡ c = cc in
        record {
          term = t;
          is_term = first t ts;
          above =
              above_one (unsigned_abs t.coefficient) p.0;
          is = sym same;
        }
    by false f g h = let o = g h in record {
      term = o.term;
      is_term =
          later t ts o.term o.is_term;
      above = o.above;
      is = o.is;
    }

pub record OfRow (i : ℕ) (row : Row) (c : Candidate) : Type 0 where
  pub weight : ℤ
  pub end : ℤ
  pub points : PointsAt weight end row
  pub of : OfTerms i weight row.terms c

at_high : (broken : Candidate → Bool) (i : ℕ) (row : Row) (c : Candidate) (o : Option ℤ)
    → row.high ≡ o → first_at_end broken i (pos 1) o row.terms ≡ Some c → OfRow i row c
at_high broken i row c None e f = absurd cc
at_high broken i row c (Some u) e f =
    record {
      weight = pos 1;
      end = u;
      points = inl (refl, e);
      of =
          of_terms broken i (pos 1) row.terms c f;
    }

at_low : (broken : Candidate → Bool) (i : ℕ) (row : Row) (c : Candidate) (o : Option ℤ) → row.low
    ≡ o → first_at_end broken i (negsuc 0) o row.terms ≡ Some c → OfRow i row c
at_low broken i row c None e f = absurd cc
at_low broken i row c (Some u) e f = record {
  weight = negsuc 0;
  end = u;
  points =
      inr (refl, e);
  of = of_terms broken i (negsuc 0) row.terms c f;
}

of_row : (broken : Candidate → Bool) (i : ℕ) (row : Row) (c : Candidate)
    → first_in_row broken i row ≡ Some c → OfRow i row c
of_row broken i row c e = by (first_at_end broken i (pos 1) row.high row.terms) refl e
  where
    by : (o : Option Candidate) → first_at_end broken i (pos 1) row.high row.terms ≡ o
        → or_else o (first_at_end broken i (negsuc 0) row.low row.terms) ≡ Some c → OfRow i row c
    by (Some d) f g = let same : d ≡ c =
        cc in at_high broken i row c row.high refl (f ∙ ap Some same)
    by None f g = at_low broken i row c row.low refl g

pub record OfRows (rows : List Row) (n : ℕ) (c : Candidate) : Type 0 where
  pub row : ℕ
  pub below : row < n
  pub of : OfRow row (row_at rows row) c

of_rows : (broken : Candidate → Bool) (rows : List Row) (n : ℕ) (c : Candidate)
    → first_in_rows broken rows n ≡ Some c → OfRows rows n c
of_rows broken rows zero c e = absurd cc
of_rows broken rows (suc n) c e =
    by (first_in_rows broken rows n) (λ d f. of_rows broken rows n d f) e
  where
    by : (o : Option Candidate) → ((d : Candidate) → o ≡ Some d → OfRows rows n d)
        → or_else o (first_in_row broken n (row_at rows n)) ≡ Some c → OfRows rows (suc n) c
    by (Some d) f g = let same : d ≡ c = cc in let r =
        f c (ap Some same) in record {
          row = r.row;
          below =
              (let b = r.below in omega (arith, b));
          of = r.of;
        }
    by None f g = record { row = n; below = omega arith; of = of_row broken n (row_at rows n) c g }

pub is_candidate : (p : Program) (cuts : List Cut) (broken : Candidate → Bool) (c : Candidate)
    (pick : Pick) → first_in_rows broken p.rows (length p.rows) ≡ Some c → pick
    ≡ pick_of (length p.rows + length cuts) c → IsCandidate p cuts pick
is_candidate p cuts broken c pick e f =
    let r = of_rows broken p.rows (length p.rows) c e in
    let o = r.of in
    record {
      row = r.row;
      below = r.below;
      weight = o.weight;
      end = o.end;
      points = o.points;
      term = o.of.term;
      is_term = o.of.is_term;
      above = o.of.above;
      is = f ∙ ap (pick_of (length p.rows + length cuts)) o.of.is;
    }

pub candidate-width : (p : Program) (cuts : List Cut) (pick : Pick) → IsCandidate p cuts pick
    → length pick.weights ≡ length p.rows + length cuts
candidate-width p cuts pick c =
    ap (λ (k : Pick). length k.weights) c.is ∙ length-set
    (replicate (length p.rows + length cuts) (pos 0)) c.row c.weight
    ∙ length-replicate (length p.rows + length cuts) (pos 0)

pub candidate-counted : (p : Program) (cuts : List Cut) (pick : Pick) → IsCandidate p cuts pick
    → pos 1 ≤ℤ pick.q
candidate-counted p cuts pick c = let e = ap (λ (k : Pick). k.q) c.is in let a =
    c.above in rw e (omega (arith, ints, a))
