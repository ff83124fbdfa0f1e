use Rattle.std.proofs.Common.{◌≡◌, ◌∙◌, ◌++◌, ◌-◌, ◌≤◌, ℕ, List, None, ap, length, replicate}
use Rattle.std.proofs.Common.{take, arith, slice_index_or, take_all}
use Rattle.std.specs.Vec.{vec_len}
use Rattle.bl_pool.specs.declared.key.Key.{Key}
use Rattle.bl_pool.specs.Views.{PoolView, key_in}
use Rattle.bl_pool.specs.Heaps.{table_of}
use Rattle.bl_pool.proofs.Tables.{Places}
use Rattle.bl_pool.proofs.Changes.{grown_key}
use Rattle.bl_pool.proofs.pool.Pool.reserve.Goals as goal

pub returns-in_ok-resize-clause-keys : goal.returns-in_ok-resize-clause-keys
returns-in_ok-resize-clause-keys c =
    let p : Places = c.self.inside.places.items in
    let more : ℕ = c.args.below - vec_len c.self.inside.places in
    let short : length p ≤ c.args.below = omega arith in
    let whole : take c.args.below p ≡ p = take_all c.args.below p short in
    λ id. ap (λ (ks : List Key). slice_index_or (table_of ks c.resize.new.self.items) id None)
    c.in_ok-reserve.ensures.items
    ∙ grown_key c.self.inside.keys.items p c.resize.new.self.items more id
    (c.in_ok-resize.ensures.items ∙ ap (λ (x : Places). x ++ replicate more 0) whole)
    ∙ ap (λ (s : PoolView). key_in s id) c.self.view_is
