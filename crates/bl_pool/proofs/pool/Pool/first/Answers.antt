use Rattle.std.proofs.Common.{ℕ, None, ◌≡◌, ◌∙◌, List, ap, subst, vec_capacity, ◌-◌, length}
use Rattle.std.specs.Prelude.{IfSome, slice_get}
use Rattle.bl_pool.specs.declared.key.Key.{Key}
use Rattle.bl_pool.specs.Views.{IsFirst, PoolView, key_in}
use Rattle.bl_pool.proofs.Changes.{first_none, first_some}
use Rattle.bl_pool.proofs.pool.Pool.first.Goals as goal

pub returns-clause-some : goal.returns-clause-some
returns-clause-some c =
    let got : c.copied.result ≡ slice_get c.self.inside.keys.items 0 = c.copied.ensures
    ∙ c.first.ensures.value ∙ ap (λ (xs : List Key). slice_get xs 0) c.deref.ensures.value in
    subst (λ (s : PoolView). IfSome c.copied.result (λ k. IsFirst s k)) c.self.view_is
    (first_some c.self.inside.order c.self.inside.keys.items c.self.inside.places.items
    (vec_capacity c.self.inside.keys - length c.self.inside.keys.items) c.copied.result
    c.self.invariant.0 c.self.invariant.1 got)

pub returns-clause-none : goal.returns-clause-none
returns-clause-none c =
    let got : c.copied.result ≡ slice_get c.self.inside.keys.items 0 = c.copied.ensures
    ∙ c.first.ensures.value ∙ ap (λ (xs : List Key). slice_get xs 0) c.deref.ensures.value in
    λ none. subst (λ (s : PoolView). (id : ℕ) → key_in s id ≡ None) c.self.view_is
    (first_none c.self.inside.keys.items c.self.inside.places.items c.copied.result
    c.self.invariant.0 got none)
