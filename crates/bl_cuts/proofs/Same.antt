-- What is made of sums is made of equal sums.
use Rattle.std.proofs.Common.{◌≡◌, ℕ, zero, suc, ◌<◌, ℤ, pos, arith, List, ◌++◌, length, All}
use Rattle.std.proofs.Common.{Option, Some, None, Bool, true, false, cond, refl, sym, ◌∙◌, ap}
use Rattle.std.specs.Prelude.{nat_le, unsigned_abs, ◌^◌, ◌&&◌, Ok, Err, map, IfOk}
use Rattle.std.specs.declared.result.Result.{Result}
use Rattle.std.proofs.lemmas.List.Elements.{All-append, All-map}
use Rattle.bl_num.specs.Exact.{at}
use Rattle.bl_num.specs.Checked.{checked_add, checked_mul, checked_sum}
use Rattle.bl_mods.specs.declared.mods.ItemId.{ItemId}
use Rattle.bl_problem.specs.Rows.{AreTerms}
use Rattle.bl_problem.specs.Program.{Program, IsProgram}
use Rattle.bl_problem.specs.Points.{IsFeasible}
use Rattle.bl_problem.specs.Cuts.{SuitsProblem, MeetsCut}
use Rattle.bl_problem.specs.declared.cut.Cut.{Cut}
use Rattle.bl_problem.specs.declared.problem.Term.{Term}
use Rattle.bl_bound.specs.Lines.{Line, line_of_row, line_of_cut, lines_of, MeetsLine}
use Rattle.bl_bound.specs.Bounds.{sum_at}
use Rattle.bl_bound.proofs.Columns.{checked_sum-same}
use Rattle.bl_cuts.specs.declared.fault.CutFault.{CutFault}
use Rattle.bl_cuts.specs.declared.fault.CutFault.TheVariants.{Weights, TooWide, Memory}
use Rattle.bl_cuts.specs.Derivations.{given, weighted_sum, points_at_ends, end_value, ends_sum}
use Rattle.bl_cuts.specs.Derivations.{floored, checked_sub, at_lows, right_of, rounded, term_of}
use Rattle.bl_cuts.specs.Derivations.{terms_below, are_small}
use Rattle.bl_cuts.specs.Answers.{cut_within, cut_of, IsOrMemory}

Same : ℕ → (ℕ → Option ℤ) → (ℕ → Option ℤ) → Type 0
Same n a b = (j : ℕ) → j < n → a j ≡ b j

at_lows-same : (n : ℕ) (a b : ℕ → Option ℤ) (lows : List ℤ) → ((j : ℕ) → j < n → a j ≡ b j)
    → at_lows n a lows ≡ at_lows n b lows
at_lows-same n a b lows h = checked_sum-same (Some (pos 0)) n
    (λ j. checked_mul (a j) (Some (at lows j))) (λ j. checked_mul (b j) (Some (at lows j)))
    (λ k l. ap (λ (o : Option ℤ). checked_mul o (Some (at lows k))) (h k l))

right_of-same : (n : ℕ) (a b : ℕ → Option ℤ) (ends : Option ℤ) (lows : List ℤ) (q : ℤ)
    → ((j : ℕ) → j < n → a j ≡ b j) → right_of n a ends lows q ≡ right_of n b ends lows q
right_of-same n a b ends lows q h =
    let e = at_lows-same n a b lows h in
    let f = at_lows-same n (λ j. floored (a j) q) (λ j. floored (b j) q) lows
    (λ j l. ap (λ (o : Option ℤ). floored o q) (h j l)) in
    ap (λ (o : Option ℤ). checked_add (floored (checked_sub ends o) q)
    (at_lows n (λ j. floored (a j) q) lows)) e
    ∙ ap (λ (o : Option ℤ). checked_add (floored (checked_sub ends (at_lows n b lows)) q) o) f

terms_below-same : (n : ℕ) (f g : ℕ → ℤ) → ((j : ℕ) → j < n → f j ≡ g j) → terms_below n f
    ≡ terms_below n g
terms_below-same zero f g h = refl
terms_below-same (suc n) f g h =
    ap (λ (ts : List Term). ts ++ term_of n (f n))
    (terms_below-same n f g (λ j l. h j (omega arith)))
    ∙ ap (λ (c : ℤ). terms_below n g ++ term_of n c) (h n (omega arith))

are_small-same : (n : ℕ) (f g : ℕ → ℤ) → ((j : ℕ) → j < n → f j ≡ g j) → are_small n f
    ≡ are_small n g
are_small-same zero f g h = refl
are_small-same (suc n) f g h =
    ap (λ (b : Bool). b && nat_le (unsigned_abs (f n)) (10 ^ 15))
    (are_small-same n f g (λ j l. h j (omega arith)))
    ∙ ap (λ (c : ℤ). are_small n g && nat_le (unsigned_abs c) (10 ^ 15)) (h n (omega arith))

pub cut_within-same : (id : ItemId) (n : ℕ) (f g : ℕ → ℤ) (o : Option ℤ)
    → ((j : ℕ) → j < n → f j ≡ g j) → cut_within id n f o ≡ cut_within id n g o
cut_within-same id n f g None h = refl
cut_within-same id n f g (Some r) h =
    let a = are_small-same n f g h in
    let t = terms_below-same n f g h in
    ap (λ (b : Bool). cond b (cond (nat_le (unsigned_abs r) (10 ^ 30))
    (Ok (record { id = id; terms = terms_below n f; right = r })) (Err TooWide))
    (Err TooWide)) a
    ∙ ap (λ (ts : List Term). cond (are_small n g)
    (cond (nat_le (unsigned_abs r) (10 ^ 30)) (Ok (record { id = id; terms = ts; right = r }))
    (Err TooWide)) (Err TooWide)) t

-- what the code made of its sums is the stated answer
pub stated : (id : ItemId) (n : ℕ) (lows : List ℤ) (lines : List Line) (w : List ℤ) (q : ℤ)
    (sums : List (Option ℤ)) (right : Option ℤ) → length w ≡ length lines
    → points_at_ends (length w) lines w ≡ true
    → ((j : ℕ) → j < n → sum_at sums j ≡ checked_sum (Some (pos 0)) (length w) (given lines w j))
    → right ≡ right_of n (sum_at sums) (checked_sum (Some (pos 0)) (length w) (end_value lines w))
    lows q
    → cut_of id n lows lines w q ≡ cut_within id n (rounded (sum_at sums) q) right
stated id n lows lines w q sums right m p s r =
    let h : (j : ℕ) → j < n → weighted_sum lines w j ≡ sum_at sums j =
    λ j l. ap (λ (k : ℕ). checked_sum (Some (pos 0)) k (given lines w j)) (sym m)
    ∙ sym (s j l) in
    let e = right_of-same n (weighted_sum lines w) (sum_at sums) (ends_sum lines w) lows q h in
    let ends : checked_sum (Some (pos 0)) (length w) (end_value lines w) ≡ ends_sum lines w =
    ap (λ (k : ℕ). checked_sum (Some (pos 0)) k (end_value lines w)) m in
    let whole : right_of n (weighted_sum lines w) (ends_sum lines w) lows q ≡ right =
    e ∙ sym (r ∙ ap (λ (o : Option ℤ). right_of n (sum_at sums) o lows q) ends) in
    let f = cut_within-same id n (rounded (weighted_sum lines w) q) (rounded (sum_at sums) q)
    right (λ j l. ap (λ (o : Option ℤ). Rattle.std.specs.Prelude.unwrap_or (floored o q)
    (pos 0)) (h j l)) in
    let t : points_at_ends (length lines) lines w ≡ true =
    ap (λ (k : ℕ). points_at_ends k lines w) (sym m) ∙ p in
    ap (λ (b : Bool). cond b (cut_within id n (rounded (weighted_sum lines w) q)
    (right_of n (weighted_sum lines w) (ends_sum lines w) lows q)) (Err Weights)) t
    ∙ ap (cut_within id n (rounded (weighted_sum lines w) q)) whole ∙ f

-- what holds of the stated cut holds of an answer with a cut
pub if_answered : (P : Cut → Type 0) (r s : Result Cut CutFault) → IsOrMemory r s
    → ((cut : Cut) → s ≡ Ok cut → P cut) → IfOk r P
if_answered P (Ok cut) s h f = f cut h
if_answered P (Err e) s h f = tt

pub moved : (r s t : Result Cut CutFault) → IsOrMemory r s → t ≡ s → IsOrMemory r t
moved (Ok cut) s t h e = e ∙ h
moved (Err Weights) s t h e = e ∙ h
moved (Err TooWide) s t h e = e ∙ h
moved (Err Memory) s t h e = tt

-- the lines of a problem and cuts that suit it
pub lines_terms : (p : Program) (cuts : List Cut) → IsProgram p → All (SuitsProblem p) cuts
    → All (λ line. AreTerms (length p.columns) line.terms) (lines_of p.rows cuts)
lines_terms p cuts h s = All-append (λ line. AreTerms (length p.columns) line.terms)
    (map line_of_row p.rows) (map line_of_cut cuts)
    (All-map (λ line. AreTerms (length p.columns) line.terms) line_of_row p.rows
    (λ k d l. (h.rows k d l).terms))
    (All-map (λ line. AreTerms (length p.columns) line.terms) line_of_cut cuts
    (λ k d l. (s k d l).terms))

pub lines_meet : (p : Program) (cuts : List Cut) (x : List ℤ) → IsFeasible p x
    → All (MeetsCut x) cuts → All (MeetsLine x) (lines_of p.rows cuts)
lines_meet p cuts x f c = All-append (MeetsLine x) (map line_of_row p.rows) (map line_of_cut cuts)
    (All-map (MeetsLine x) line_of_row p.rows (λ k d l. let r =
    f.rows k d l in record { low = r.low; high = r.high }))
    (All-map (MeetsLine x) line_of_cut cuts (λ k d l. record { low = tt; high = c k d l }))
