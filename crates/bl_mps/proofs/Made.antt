-- Rows, columns and the problem, made one after another.
use Rattle.std.proofs.Common.{Ok, Err, ◌≡◌, ℕ, zero, suc, ◌+◌, ◌<◌, ◌^◌, Bool, true, false, cond}
use Rattle.std.proofs.Common.{◌&&◌, List, [], ◌∷◌, ◌++◌, map, length, take, drop, ◌||◌, get_or}
use Rattle.std.proofs.Common.{Option, Some, None, is_some, refl, sym, ap, ◌∙◌, arith, ℤ}
use Rattle.std.specs.Prelude.{filter}
use Rattle.std.specs.List.{list_all}
use Rattle.std.proofs.lemmas.List.{append-nil, map-append, take_more, drop_more, length-take}
use Rattle.std.proofs.lemmas.List.Elements.{filter-append}
use Rattle.std.proofs.lemmas.List.Folds.{list_all-append}
use Rattle.bl_problem.specs.declared.problem.Term.{Term}
use Rattle.bl_problem.specs.declared.problem.Column.{Column}
use Rattle.bl_problem.specs.declared.problem.Row.{Row}
use Rattle.bl_problem.specs.declared.problem.Sense.{Sense}
use Rattle.bl_cards.specs.declared.fault.LineFault.{LineFault}
use Rattle.bl_cards.specs.declared.fault.LineFault.TheVariants.{Memory, Broken}
use Rattle.bl_cards.specs.declared.kind.What.TheVariants as what
use Rattle.bl_problem.specs.Points.{in_sense}
use Rattle.bl_mps.specs.declared.ends.Ends.{Ends}
use Rattle.bl_mps.specs.declared.finish.ScaledObjective.{ScaledObjective}
use Rattle.bl_cards.specs.Said.{RowLine, Said}
use Rattle.bl_cards.specs.Lines.{is_limited, has_objective}
use Rattle.bl_mps.specs.Meaning.{row_of, rows_of, column_of, columns_from, sense_for}
use Rattle.bl_mps.specs.Meaning.{objective_of, all_ends, ends_or, binary, are_whole, are_bounded}
use Rattle.bl_mps.specs.Meaning.{is_within, term_within, row_within, objective_within}
use Rattle.bl_mps.specs.Meaning.{keeps_limits, limited, program_of, finished}
use Rattle.bl_cards.specs.Coherence.{IsCoherent}
use Rattle.bl_cards.specs.Views.{Gives}
use Rattle.bl_mps.proofs.Limits.{wide, second_far}
use Rattle.bl_mps.proofs.Senses.{sense_within}
use Rattle.bl_mps.proofs.Programs.{costs_within, costs_rise, costs_inside}

-- ---- columns

columns_push : (s : Said) (costs : List Term) (k : ℕ) (names : List (List ℕ)) (name : List ℕ)
    → columns_from s costs k (names ++ name ∷ []) ≡ columns_from s costs k names
    ++ column_of s costs (k + length names) name ∷ []
columns_push s costs k [] name = let e : k + 0 ≡ k = omega arith in rw e refl
columns_push s costs k (n ∷ names) name =
    let e : suc k + length names ≡ k + suc (length names) = omega arith in
    rw (← e) (ap (λ (cs : List Column). column_of s costs k n ∷ cs)
    (columns_push s costs (suc k) names name))

pub columns_more : (s : Said) (costs : List Term) (names : List (List ℕ)) (j : ℕ) → j
    < length names → columns_from s costs 0 (take (j + 1) names)
    ≡ columns_from s costs 0 (take j names) ++ column_of s costs j (get_or names j []) ∷ []
columns_more s costs names j l =
    let n : 0 + length (take j names) ≡ j = let t = length-take j names in omega (arith, t, l) in
    ap (columns_from s costs 0) (take_more names j [] l) ∙ columns_push s costs 0 (take j names)
    (get_or names j []) ∙ ap (λ (i : ℕ). columns_from s costs 0 (take j names)
    ++ column_of s costs i (get_or names j []) ∷ []) n

-- ---- rows

abbrev limited_line : RowLine → Bool
limited_line line = is_limited line.role

added : (t : Bool) (s : Said) (line : RowLine) → map (row_of s) (cond t (line ∷ []) [])
    ≡ cond t (row_of s line ∷ []) []
added true s line = refl
added false s line = refl

rows_more : (s : Said) (lines : List RowLine) (i : ℕ) (d : RowLine) → i < length lines
    → map (row_of s) (filter limited_line (take (i + 1) lines))
    ≡ map (row_of s) (filter limited_line (take i lines))
    ++ cond (limited_line (get_or lines i d)) (row_of s (get_or lines i d) ∷ []) []
rows_more s lines i d l =
    ap (λ (ls : List RowLine). map (row_of s) (filter limited_line ls)) (take_more lines i d l)
    ∙ ap (map (row_of s)) (filter-append limited_line (take i lines) (get_or lines i d ∷ []))
    ∙ map-append (row_of s) (filter limited_line (take i lines))
    (filter limited_line (get_or lines i d ∷ []))
    ∙ ap (λ (rs : List Row). map (row_of s) (filter limited_line (take i lines)) ++ rs)
    (added (limited_line (get_or lines i d)) s (get_or lines i d))

-- a row with ends is made, and another is passed over
pub row_made : (s : Said) (lines : List RowLine) (i : ℕ) (d : RowLine) → i < length lines
    → is_limited (get_or lines i d).role ≡ true → map (row_of s)
    (filter limited_line (take (i + 1) lines))
    ≡ map (row_of s) (filter limited_line (take i lines)) ++ row_of s (get_or lines i d) ∷ []
row_made s lines i d l e = rows_more s lines i d l ∙ rw e refl

pub row_passed : (s : Said) (lines : List RowLine) (i : ℕ) (d : RowLine) → i < length lines
    → is_limited (get_or lines i d).role ≡ false
    → map (row_of s) (filter limited_line (take (i + 1) lines))
    ≡ map (row_of s) (filter limited_line (take i lines))
row_passed s lines i d l e = rows_more s lines i d l
    ∙ rw e (append-nil (map (row_of s) (filter limited_line (take i lines))))

pub all_pushed : {A : Type 0} (p : A → Bool) (xs : List A) (x : A) → list_all p xs ≡ true → p x
    ≡ true → list_all p (xs ++ x ∷ []) ≡ true
all_pushed p xs x e f = list_all-append p xs (x ∷ []) ∙ rw (e, f) refl

-- one row that is too wide
fails_at : {A B : Type 0} (p : B → Bool) (f : A → B) (q : A → Bool) (xs : List A) (i : ℕ) (d : A)
    → i < length xs → q (get_or xs i d) ≡ true → p (f (get_or xs i d)) ≡ false
    → list_all p (map f (filter q xs)) ≡ false
fails_at p f q [] i d l t e = absurd (omega arith)
fails_at p f q (x ∷ xs) zero d l t e = rw (t, e) refl
fails_at p f q (x ∷ xs) (suc i) d l t e = by (q x) (fails_at p f q xs i d (omega arith) t e)
  where
    by : (b : Bool) → list_all p (map f (filter q xs)) ≡ false
        → list_all p (map f (cond b (x ∷ filter q xs) (filter q xs))) ≡ false
    by true h = rw h (second_far (p (f x)))
    by false h = h

pub row_fails : (s : Said) (i : ℕ) (d : RowLine) → i < length s.rows
    → is_limited (get_or s.rows i d).role ≡ true → row_within (row_of s (get_or s.rows i d))
    ≡ false → list_all row_within (rows_of s) ≡ false
row_fails s i d l t e = fails_at row_within (row_of s) limited_line s.rows i d l t e

-- ---- faults

-- what is too wide makes the whole too wide
pub wide_in : {A B : Type 0} (fault : LineFault) (keeps : A → Bool) (x : A) (more : B → Bool)
    (y : B) → (keeps x ≡ false → more y ≡ false) → Gives {A = A} (Err fault) (limited keeps x)
    → Gives {A = B} (Err fault) (limited more y)
wide_in Memory keeps x more y h e = tt
wide_in (Broken w) keeps x more y h e = let k = wide keeps x w e in rw (h k.0, k.1) refl

pub kept_is : {A : Type 0} (keeps : A → Bool) (x y : A) → keeps x ≡ true → x ≡ y → limited keeps x
    ≡ Ok y
kept_is keeps x y e f = rw e (ap Ok f)

pub wide_is : {A : Type 0} (keeps : A → Bool) (x : A) → keeps x ≡ false → limited keeps x
    ≡ Err what.TooWide
wide_is keeps x e = rw e refl

-- ---- a row

pub first_false : (a b : Bool) → a ≡ false → (a && b) ≡ false
first_false a b e = rw e refl

pub second_false : (a b : Bool) → b ≡ false → (a && b) ≡ false
second_false a b e = rw e (second_far a)

-- ---- the objective

-- ---- the whole

module _ (s : Said) (h : IsCoherent s) where
  costs_are : list_all (λ (c : Column). is_within (10 ^ 15) c.cost) (program_of s).columns
      ≡ list_all term_within (objective_of s).costs
  costs_are = costs_within s (objective_of s).costs s.columns.names (costs_rise s h)
      (costs_inside s h)

  pub limits_are : keeps_limits (program_of s)
      ≡ (objective_within (objective_of s) && list_all row_within (rows_of s))
  limits_are =
      ap (λ (b : Bool). (b && is_within (10 ^ 24)
      (in_sense (sense_for s) (objective_of s).offset)) && list_all row_within (rows_of s))
      costs_are
      ∙ ap (λ (b : Bool). (list_all term_within (objective_of s).costs && b)
      && list_all row_within (rows_of s))
      (sense_within (sense_for s) (10 ^ 24) (objective_of s).offset)

  pub rows_wide : list_all row_within (rows_of s) ≡ false → keeps_limits (program_of s) ≡ false
  rows_wide e = limits_are ∙ second_false (objective_within (objective_of s))
      (list_all row_within (rows_of s)) e

  pub objective_wide : objective_within (objective_of s) ≡ false → keeps_limits (program_of s)
      ≡ false
  objective_wide e = limits_are ∙ first_false (objective_within (objective_of s))
      (list_all row_within (rows_of s)) e

  pub all_kept : objective_within (objective_of s) ≡ true → list_all row_within (rows_of s) ≡ true
      → keeps_limits (program_of s) ≡ true
  all_kept e f = limits_are ∙ rw (e, f) refl

-- ---- the rules at the end, in their order

pub finished_is : (s : Said) → has_objective s.rows ≡ true
    → are_whole (all_ends s) s.columns.whole ≡ true → are_bounded (all_ends s) ≡ true → finished s
    ≡ limited keeps_limits (program_of s)
finished_is s e f g = rw (e, f, g) refl

pub some_true : {A : Type 0} (o : Option A) (b : Bool) (x : A) → is_some o ≡ b → o ≡ Some x → b
    ≡ true
some_true None b x e f = absurd cc
some_true (Some y) b x e f = sym e

-- ---- whole columns

pub whole_more : (ends : List (Option Ends)) (whole : List Bool) (j : ℕ) (e : Option Ends)
    (w : Bool) → j < length ends → j < length whole
    → (get_or whole j w || (ends_or binary (get_or ends j e)).is_whole) ≡ true
    → are_whole (drop j ends) (drop j whole) ≡ are_whole (drop (j + 1) ends) (drop (j + 1) whole)
whole_more ends whole j e w l m t = rw (drop_more ends j e l, drop_more whole j w m, t) refl

-- ---- the problem

pub program_made : (s : Said) (o : ScaledObjective) (columns : List Column) (rows : List Row)
    (costs : List Term) (offset : ℤ) (sense : Sense) → objective_of s ≡ o → rows_of s ≡ rows
    → costs ≡ o.costs → columns ≡ columns_from s costs 0 s.columns.names
    → offset ≡ in_sense (sense_for s) o.offset → sense ≡ sense_for s
    → program_of s ≡ record {
      columns = columns;
      rows = rows;
      objective = o.name;
      scale =
          o.scale;
      offset = offset;
      sense = sense;
    }
program_made s o columns rows costs offset sense a b c d e f = rw (d, c, e, f, ← b, ← a) refl
