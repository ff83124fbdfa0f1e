-- The lines of the columns, one after another.
use Rattle.std.proofs.Common.{◌≡◌, ℕ, ◌+◌, ◌<◌, ◌≤◌, List, [], ◌∷◌, ◌++◌, length, get_or, drop}
use Rattle.std.proofs.Common.{min, refl, sym, ◌∙◌, ap, arith, inl, inr, ℤ, pos}
use Rattle.std.proofs.lemmas.Bool.{cases_lt}
use Rattle.std.proofs.lemmas.List.{drop_more, drop_all}
use Rattle.bl_problem.specs.declared.problem.Column.{Column}
use Rattle.bl_report.specs.Texts.{column_line, column_lines}

pub lines_step : (cs : List Column) (xs : List ℤ) (j : ℕ) (c : Column) → j < length cs → j
    < length xs → c ≡ get_or cs j c
    → column_lines (drop j cs) (drop j xs) ≡ column_line c (get_or xs j (pos 0))
    ++ column_lines (drop (j + 1) cs) (drop (j + 1) xs)
lines_step cs xs j c in_columns in_point is =
    let a : drop j cs ≡ c ∷ drop (j + 1) cs = drop_more cs j c in_columns
    ∙ ap (λ (d : Column). d ∷ drop (j + 1) cs) (sym is) in
    ap (λ (l : List Column). column_lines l (drop j xs)) a
    ∙ ap (λ (l : List ℤ). column_lines (c ∷ drop (j + 1) cs) l)
    (drop_more xs j (pos 0) in_point)

no_point : (cs : List Column) → column_lines cs [] ≡ []
no_point [] = refl
no_point (c ∷ cs) = refl

pub lines_end : (cs : List Column) (xs : List ℤ) (j : ℕ) → min (length cs) (length xs) ≤ j
    → column_lines (drop j cs) (drop j xs) ≡ []
lines_end cs xs j past = elim (cases_lt j (length cs)) [
  | inl lt ↦ ap (λ (l : List ℤ). column_lines (drop j cs) l)
      (drop_all j xs (omega (arith, past, lt))) ∙ no_point (drop j cs)
  | inr le ↦ ap (λ (l : List Column). column_lines l (drop j xs)) (drop_all j cs le)
]
