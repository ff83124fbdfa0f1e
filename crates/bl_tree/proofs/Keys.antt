-- How many keys a pool has, and the least number of candidates.
use Rattle.std.proofs.Common.{◌≡◌, ℕ, zero, suc, ◌+◌, ◌<◌, ◌≤◌, List, [], ◌∷◌, length, ap, ap₂}
use Rattle.std.proofs.Common.{sym, ◌∙◌, arith, true, false, true≢false, Some, None, Option, refl}
use Rattle.std.specs.Prelude.{slice_index_or, count_by, is_some, IfSome}
use Rattle.std.proofs.lemmas.List.Sums.{sum_by-cons}
use Rattle.std.proofs.lemmas.Int.{ints}
use Rattle.std.proofs.lemmas.Bool.Decides.{nat_tests}
use Rattle.bl_pool.specs.declared.key.Key.{Key}
use Rattle.bl_pool.specs.declared.key.Order.{Order}
use Rattle.bl_pool.specs.declared.key.Order.TheVariants.{Best}
use Rattle.bl_pool.specs.Orders.{before}
use Rattle.bl_pool.specs.Views.{PoolView, IsFirst, key_in}
use Rattle.bl_tree.specs.Records.{candidate_key, is_listed, AreCandidates}
use Rattle.bl_journal.proofs.Sums.{one_if}

same_count : (a b : List (Option Key)) → length b ≡ length a
    → ((o : ℕ) → slice_index_or b o None ≡ slice_index_or a o None) → count_by is_some b
    ≡ count_by is_some a
same_count [] [] len f = refl
same_count [] (y ∷ b) len f = absurd (omega (arith, len))
same_count (x ∷ a) [] len f = absurd (omega (arith, len))
same_count (x ∷ a) (y ∷ b) len f =
    sum_by-cons (λ (o : Option Key). one_if (is_some o)) y b
    ∙ (ap (λ (o : Option Key). one_if (is_some o) + count_by is_some b) (f 0)
    ∙ (ap (λ n. one_if (is_some x) + n) (same_count a b (omega (arith, len)) (λ o. f (suc o)))
    ∙ sym (sum_by-cons (λ (o : Option Key). one_if (is_some o)) x a)))

-- one key goes
pub fewer_keys : (a b : List (Option Key)) (id : ℕ) (k : Key) → length b ≡ length a
    → slice_index_or a id None ≡ Some k → slice_index_or b id None ≡ None
    → ((o : ℕ) → (o ≡ id → ⊥) → slice_index_or b o None ≡ slice_index_or a o None)
    → count_by is_some b < count_by is_some a
fewer_keys [] b id k len held gone f = cc
fewer_keys (x ∷ a) [] id k len held gone f = absurd (omega (arith, len))
fewer_keys (x ∷ a) (y ∷ b) zero k len held gone f =
    let ca = sum_by-cons (λ (o : Option Key). one_if (is_some o)) x a in
    let cb = sum_by-cons (λ (o : Option Key). one_if (is_some o)) y b in
    let one : one_if (is_some x) ≡ 1 = ap (λ (o : Option Key). one_if (is_some o)) held in
    let none : one_if (is_some y) ≡ 0 = ap (λ (o : Option Key). one_if (is_some o)) gone in
    let rest = same_count a b (omega (arith, len)) (λ o. f (suc o) (λ e. omega (arith, e))) in
    omega (arith, ca, cb, one, none, rest)
fewer_keys (x ∷ a) (y ∷ b) (suc id) k len held gone f =
    let ca = sum_by-cons (λ (o : Option Key). one_if (is_some o)) x a in
    let cb = sum_by-cons (λ (o : Option Key). one_if (is_some o)) y b in
    let same : one_if (is_some y) ≡ one_if (is_some x) =
    ap (λ (o : Option Key). one_if (is_some o)) (f 0 (λ e. omega (arith, e))) in
    let rest = fewer_keys a b id k (omega (arith, len)) held gone
    (λ o ne. f (suc o) (λ e. ne (omega (arith, e)))) in
    omega (arith, ca, cb, same, rest)

no_less : (q i : ℕ) → before Best (candidate_key q) (candidate_key i) ≡ false → i ≤ q
no_less q i h = grind (arith, ints, nat_tests, h)

-- the first candidate has the least number
pub least_listed : (pool : PoolView) (k : Key) → AreCandidates pool → IsFirst pool k → (q : ℕ)
    → is_listed pool q ≡ true → k.id ≤ q
least_listed pool k a first q h = by_option (key_in pool q) refl h
  where
    by_option : (o : Option Key) → key_in pool q ≡ o → is_some o ≡ true → k.id ≤ q
    by_option None e t = absurd (true≢false (sym t))
    by_option (Some x) e t =
        no_less q k.id (ap₂ (before Best) (sym (a.plain q x e)) (sym (a.plain k.id k first.held))
        ∙ (ap (λ (o : Order). before o x k) (sym a.best) ∙ first.least q x e))

-- the same keys are candidates as before
pub same_candidates : (pool pool' : PoolView) → pool'.order ≡ pool.order
    → ((id : ℕ) → key_in pool' id ≡ key_in pool id) → AreCandidates pool → AreCandidates pool'
same_candidates pool pool' order keys a = record {
  best = order ∙ a.best;
  plain =
      λ id k e. a.plain id k (sym (keys id) ∙ e);
}

-- a pool without keys
pub no_candidates : (pool : PoolView) → pool.order ≡ Best → ((id : ℕ) → key_in pool id ≡ None)
    → AreCandidates pool
no_candidates pool order none =
    record { best = order; plain = λ id k e. let f : None ≡ Some k = sym (none id) ∙ e in cc }

pub below_more : (o : Option ℕ) (n m : ℕ) → IfSome o (λ q. q < n) → n ≤ m → IfSome o (λ q. q < m)
below_more None n m h l = tt
below_more (Some q) n m h l = omega (arith, h, l)
