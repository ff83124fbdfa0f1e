-- Where the best point stands in the journal.
use Rattle.std.proofs.Common.{◌≡◌, ℕ, zero, suc, List, [], ◌∷◌, ◌++◌, length, refl, ap, sym, ◌∙◌}
use Rattle.std.proofs.Common.{subst, Bool, true, false, cond, Some, None, Option}
use Rattle.std.specs.Prelude.{slice_get, ℤ, int_lt, reverse}
use Rattle.bl_problem.specs.Program.{Program}
use Rattle.bl_problem.specs.Points.{value_of}
use Rattle.bl_journal.specs.declared.entry.Entry.{Entry}
use Rattle.bl_journal.specs.declared.entry.Entry.TheVariants.{Put}
use Rattle.bl_journal.specs.declared.entry.Step.{Step}
use Rattle.bl_journal.specs.States.{best_of, best_with, best_after, value_if, Found}
use Rattle.bl_tree.specs.Records.{found_in, StandsAt, place_with}
use Rattle.bl_journal.proofs.Growth.{reverse-push}

found_in-more : (entries : List Entry) (e : Entry) (place : ℕ) (x : List ℤ)
    → found_in (slice_get entries place) ≡ Some x → found_in (slice_get (entries ++ e ∷ []) place)
    ≡ Some x
found_in-more [] e place x h = cc
found_in-more (b ∷ entries) e zero x h = h
found_in-more (b ∷ entries) e (suc place) x h = found_in-more entries e place x h

slice_get-end : {X : Type 0} (xs : List X) (x : X) → slice_get (xs ++ x ∷ []) (length xs) ≡ Some x
slice_get-end [] x = refl
slice_get-end (y ∷ xs) x = slice_get-end xs x

stands_on : (o : Option Found) (entries : List Entry) (e : Entry) (place : ℕ)
    → StandsAt o entries place → StandsAt o (entries ++ e ∷ []) place
stands_on None entries e place h = tt
stands_on (Some f) entries e place h = found_in-more entries e place f.point h

-- an entry that is no put leaves the best point where it is
pub stands_more : (p : Program) (entries : List Entry) (e : Entry) (place : ℕ)
    → best_after p (best_of p (reverse entries)) e ≡ best_of p (reverse entries)
    → StandsAt (best_of p (reverse entries)) entries place
    → StandsAt (best_of p (reverse (entries ++ e ∷ []))) (entries ++ e ∷ []) place
stands_more p entries e place same h =
    let o : best_of p (reverse (entries ++ e ∷ [])) ≡ best_of p (reverse entries) =
    ap (best_of p) (reverse-push entries e) ∙ same in
    subst (λ (b : Option Found). StandsAt b (entries ++ e ∷ []) place) (sym o)
    (stands_on (best_of p (reverse entries)) entries e place h)

stands_with : (p : Program) (o : Option Found) (entries : List Entry) (seat id : ℕ)
    (found : Option (List ℤ)) (low : ℤ) (next : Step) (place : ℕ) → StandsAt o entries place
    → StandsAt (best_with p o found) (entries ++ Put seat id found low next ∷ [])
    (place_with p (value_if o) found place (length entries))
stands_with p o entries seat id None low next place h =
    stands_on o entries (Put seat id None low next) place h
stands_with p None entries seat id (Some x) low next place h =
    ap found_in (slice_get-end entries (Put seat id (Some x) low next))
stands_with p (Some b) entries seat id (Some x) low next place h =
    by_test (int_lt (value_of p x) b.value)
  where
    by_test : (t : Bool) → StandsAt (cond t (Some (record { value = value_of p x; point = x }))
        (Some b)) (entries ++ Put seat id (Some x) low next ∷ []) (cond t (length entries) place)
    by_test true = ap found_in (slice_get-end entries (Put seat id (Some x) low next))
    by_test false = found_in-more entries (Put seat id (Some x) low next) place b.point h

-- after a put
pub stands_put : (p : Program) (entries after : List Entry) (seat id : ℕ)
    (found : Option (List ℤ)) (low : ℤ) (next : Step) (best : Option ℤ) (place place' : ℕ) → after
    ≡ entries ++ Put seat id found low next ∷ []
    → best ≡ value_if (best_of p (reverse entries)) → place'
    ≡ place_with p best found place (length entries)
    → StandsAt (best_of p (reverse entries)) entries place
    → StandsAt (best_of p (reverse after)) after place'
stands_put p entries after seat id found low next best place place' made b at h =
    let e : Entry = Put seat id found low next in
    let o : best_of p (reverse (entries ++ e ∷ [])) ≡ best_with p (best_of p (reverse entries))
    found = ap (best_of p) (reverse-push entries e) in
    let base : StandsAt (best_of p (reverse (entries ++ e ∷ []))) (entries ++ e ∷ [])
    (place_with p (value_if (best_of p (reverse entries))) found place (length entries)) =
    subst (λ (f : Option Found). StandsAt f (entries ++ e ∷ [])
    (place_with p (value_if (best_of p (reverse entries))) found place (length entries)))
    (sym o)
    (stands_with p (best_of p (reverse entries)) entries seat id found low next place h) in
    let there : place' ≡ place_with p (value_if (best_of p (reverse entries))) found place
    (length entries) = at ∙ ap (λ (v : Option ℤ). place_with p v found place (length entries))
    b in
    subst (λ (es : List Entry). StandsAt (best_of p (reverse es)) es place') (sym made)
    (subst (λ (k : ℕ). StandsAt (best_of p (reverse (entries ++ e ∷ []))) (entries ++ e ∷ []) k)
    (sym there) base)
