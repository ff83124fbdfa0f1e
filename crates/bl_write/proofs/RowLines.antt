-- The lines of ROWS, read.
use Rattle.std.proofs.Common.{◌≡◌, ◌≢◌, ◌<◌, ◌≤◌, ◌+◌, ◌∙◌, ◌&&◌, ℕ, Bool, true, false, cond}
use Rattle.std.proofs.Common.{List, [], ◌∷◌, ◌++◌, map, length, ap, sym, refl, arith, codes}
use Rattle.std.proofs.Common.{Option, Some, None, ℤ, append_assoc, append-nil, nat_le, All}
use Rattle.std.specs.Prelude.{AllPairs, Ok}
use Rattle.std.specs.Ordering.{int_eq}
use Rattle.std.proofs.lemmas.List.Elements.{All-cons, All-head, All-nil, All-push, All-tail}
use Rattle.std.proofs.lemmas.List.Elements.{All-weaker}
use Rattle.std.proofs.lemmas.Bool.{lt-leb}
use Rattle.bl_problem.specs.declared.problem.Row.{Row}
use Rattle.bl_problem.specs.Program.{IsName, IsProgram, IsRow, IsRowName, IsVisible, Program}
use Rattle.bl_cards.specs.declared.kind.Role.{Role}
use Rattle.bl_cards.specs.declared.kind.Role.TheVariants.{Objective, AtMost, AtLeast, Equal}
use Rattle.bl_cards.specs.declared.kind.Section.TheVariants.{Rows}
use Rattle.bl_cards.specs.Said.{RowLine, Said, same, ◌>>=◌}
use Rattle.bl_cards.specs.Lines.{add_row, count_limited, is_limited, role_of, rows_line}
use Rattle.bl_cards.specs.Reading.{after_line}
use Rattle.bl_write.specs.Layout.{Text}
use Rattle.bl_write.specs.Written.{kind_of, row_line, rows_lines}
use Rattle.bl_write.proofs.Lines.{words_laid}
use Rattle.bl_write.proofs.Names.{other_name, pairs_head, pairs_tail, turned}
use Rattle.bl_write.proofs.States.{role_in, row_said, rows_said}
use Rattle.bl_write.proofs.Steps.{Goes, data_read, goes_first, goes_same, stays}

abbrev Others : Text → List RowLine → Type 0
Others name done = All (λ d. d.name ≢ name) done

unknown : (done : List RowLine) (name : Text) → Others name done → role_of done name ≡ None
unknown [] name others = refl
unknown (d ∷ done) name others =
    let here : same name d.name ≡ false =
    other_name name d.name (λ e. All-head (λ x. x.name ≢ name) d done others (sym e)) in
    rw here (unknown done name (All-tail (λ x. x.name ≢ name) d done others))

row_added : (done : List RowLine) (name : Text) (role : Role) → role_of done name ≡ None → same name (codes "'MARKER'") ≡ false → (is_limited role && nat_le 1000 (count_limited done)) ≡ false
    → add_row done name role ≡ Ok (done ++ record { name = name; role = role } ∷ [])
row_added done name role new plain few = rw (new, plain, few) refl

abbrev pub in_rows : Said → List RowLine → Said
in_rows s done = record s { section = Rows; rows = done }

few_enough : (n : ℕ) → n < 1000 → nat_le 1000 n ≡ false
few_enough n few = lt-leb 1000 n few

kind_name : (k : ℕ) → IsVisible k → IsName (k ∷ [])
kind_name k v = record {
  some =
      λ e. absurd cc;
  visible = All-cons IsVisible k [] v (All-nil IsVisible);
}

letter : (k : ℕ) → 64 < k → IsVisible k
letter k l = record {
  space = omega arith;
  tab = omega arith;
  return = omega arith;
  feed =
      omega arith;
}

-- a line of a kind and a name
line_read : (s : Said) (done : List RowLine) (k : ℕ) (name : Text) (role : Role) → 64 < k
    → IsRowName name → Others name done → (is_limited role && nat_le 1000 (count_limited done))
    ≡ false
    → rows_line done ((k ∷ []) ∷ name ∷ []) ≡ add_row done name role
    → after_line (in_rows s done) (row_line (k ∷ []) name)
    ≡ Ok (in_rows s (done ++ record { name = name; role = role } ∷ []))
line_read s done k name role l n others limit is =
    data_read (in_rows s done) _ (k ∷ []) (name ∷ [])
    (words_laid (2, k ∷ []) ((5, name) ∷ []) (kind_name k (letter k l))
    (All-cons (λ f. IsName f.1) (5, name) [] n.name (All-nil (λ f. IsName f.1))))
    ∙ ap (λ x. x >>= λ rows. Ok (in_rows s rows)) (is ∙ row_added done name role (unknown done name others) (other_name name (codes "'MARKER'") n.plain) limit)

-- a row's line adds the row
row_read : (s : Said) (done : List RowLine) (r : Row) → IsRowName r.name → Others r.name done
    → count_limited done < 1000 → after_line (in_rows s done)
    (row_line (kind_of r.low r.high) r.name) ≡ Ok (in_rows s (done ++ row_said r ∷ []))
row_read s done r n others few = by_ends r.low r.high
  where
    by_ends : (low high : Option ℤ) → after_line (in_rows s done)
        (row_line (kind_of low high) r.name)
        ≡ Ok (in_rows s (done ++ record { name = r.name; role = role_in low high } ∷ []))
    by_ends None high = line_read s done 76 r.name AtMost (omega arith) n others
        (few_enough (count_limited done) few) refl
    by_ends (Some low) None = line_read s done 71 r.name AtLeast (omega arith) n others
        (few_enough (count_limited done) few) refl
    by_ends (Some low) (Some high) = by_test (int_eq low high)
      where
        by_test : (t : Bool) → after_line (in_rows s done) (row_line (cond t (codes "E") (codes "L")) r.name) ≡ Ok (in_rows s (done ++ record { name = r.name; role = cond t Equal AtMost } ∷ []))
        by_test true = line_read s done 69 r.name Equal (omega arith) n others
            (few_enough (count_limited done) few) refl
        by_test false = line_read s done 76 r.name AtMost (omega arith) n others
            (few_enough (count_limited done) few) refl

pub limited_row : (low high : Option ℤ) → is_limited (role_in low high) ≡ true
limited_row None high = refl
limited_row (Some low) None = refl
limited_row (Some low) (Some high) = by_test (int_eq low high)
  where
    by_test : (t : Bool) → is_limited (cond t Equal AtMost) ≡ true
    by_test true = refl
    by_test false = refl

count_push : (done : List RowLine) (r : Row) → count_limited (done ++ row_said r ∷ [])
    ≡ count_limited done + 1
count_push [] r = rw (limited_row r.low r.high) refl
count_push (d ∷ done) r = let rest : count_limited (done ++ row_said r ∷ []) ≡ count_limited done
    + 1 = count_push done r in omega arith

abbrev Separate : List RowLine → Row → Type 0
Separate done r = Others r.name done

abbrev Differ : Row → Row → Type 0
Differ r q = r.name ≢ q.name

separate_more : (done : List RowLine) (r : Row) (rs : List Row) → All (Separate done) rs
    → All (Differ r) rs → All (Separate (done ++ row_said r ∷ [])) rs
separate_more done r rs separate differ k d k_in =
    push_other done (separate k d k_in) (differ k d k_in)
  where
    push_other : {name : Text} (xs : List RowLine) → Others name xs → r.name ≢ name
        → Others name (xs ++ row_said r ∷ [])
    push_other {name} xs others other = All-push (λ x. x.name ≢ name) xs (row_said r) others other

rows_fold : (rs : List Row) (s : Said) (done : List RowLine) → All (λ r. IsRowName r.name) rs
    → All (Separate done) rs → AllPairs Differ rs → count_limited done + length rs ≤ 1000
    → Goes (in_rows s done) (map (λ (r : Row). row_line (kind_of r.low r.high) r.name) rs)
    (in_rows s (done ++ map row_said rs))
rows_fold [] s done names separate pairs few = goes_same (in_rows s done) (in_rows s done)
    (in_rows s (done ++ [])) (in_rows s done) [] refl (ap (in_rows s) (sym (append-nil done)))
    (stays (in_rows s done))
rows_fold (r ∷ rs) s done names separate pairs few =
    goes_first (in_rows s done) (in_rows s (done ++ row_said r ∷ []))
    (in_rows s (done ++ row_said r ∷ map row_said rs))
    (row_line (kind_of r.low r.high) r.name)
    (map (λ (q : Row). row_line (kind_of q.low q.high) q.name) rs)
    refl
    (row_read s done r (All-head (λ q. IsRowName q.name) r rs names)
    (All-head (Separate done) r rs separate) (omega arith))
    (goes_same (in_rows s (done ++ row_said r ∷ [])) (in_rows s (done ++ row_said r ∷ []))
    (in_rows s (done ++ row_said r ∷ map row_said rs))
    (in_rows s ((done ++ row_said r ∷ []) ++ map row_said rs))
    (map (λ (q : Row). row_line (kind_of q.low q.high) q.name) rs) refl
    (ap (in_rows s) (append_assoc done (row_said r ∷ []) (map row_said rs)))
    (rows_fold rs s (done ++ row_said r ∷ []) (All-tail (λ q. IsRowName q.name) r rs names)
    (separate_more done r rs (All-tail (Separate done) r rs separate)
    (pairs_head Differ r rs pairs)) (pairs_tail Differ r rs pairs)
    (let e = count_push done r in omega (arith, e))))

objective_read : (s : Said) (name : Text) → IsRowName name → after_line (in_rows s []) (row_line (codes "N") name) ≡ Ok (in_rows s (record { name = name; role = Objective } ∷ []))
objective_read s name n = line_read s [] 78 name Objective (omega arith) n
    (All-nil (λ x. x.name ≢ name)) refl refl

-- from ROWS without a row yet, the lines say the objective and the rows in order
pub rows_read : (p : Program) (s : Said) → IsProgram p
    → Goes (in_rows s []) (rows_lines p) (in_rows s (rows_said p))
rows_read p s h =
    let others : All (Separate (record { name = p.objective; role = Objective } ∷ [])) p.rows =
    All-weaker (λ r. r.name ≢ p.objective)
    (Separate (record { name = p.objective; role = Objective } ∷ []))
    (λ r other. All-cons (λ d. d.name ≢ r.name) (record { name = p.objective; role = Objective })
    [] (turned r.name p.objective other) (All-nil (λ d. d.name ≢ r.name))) p.rows h.no_row in
    let names : All (λ r. IsRowName r.name) p.rows =
    All-weaker (IsRow (length p.columns)) (λ r. IsRowName r.name) (λ r row. row.name) p.rows
    h.rows in
    goes_first (in_rows s []) (in_rows s (record { name = p.objective; role = Objective } ∷ [])) (in_rows s (rows_said p)) (row_line (codes "N") p.objective) (map (λ (r : Row). row_line (kind_of r.low r.high) r.name) p.rows)
    refl (objective_read s p.objective h.objective)
    (rows_fold p.rows s (record { name = p.objective; role = Objective } ∷ []) names others
    h.row_names (let e = h.few_rows in omega (arith, e)))
