use Rattle.std.proofs.Common.{◌∙◌, None}
use Rattle.std.proofs.lemmas.Bool.{eq-eqb, ne_eqb, cond-true, cond-false}
use Rattle.std.proofs.Common.{refl}
use Rattle.bl_pool.specs.Views.{key_in}
use Rattle.bl_tree.proofs.Keys.{fewer_keys}
use Rattle.bl_tree.proofs.queue.first_open.Goals as goal

pub loop-key-smaller : goal.loop-key-smaller
loop-key-smaller c =
    let keys = c.remove.ensures.keys in
    let id = c.in-Some.key.id in
    fewer_keys c.loop-key.pool.keys c.remove.new.self.keys id c.in-Some.key c.remove.ensures.below
    c.in-Some.ensures.some.held
    (keys id ∙ cond-true _ None (key_in c.loop-key.pool id) (eq-eqb id id refl))
    (λ o ne. keys o ∙ cond-false _ None (key_in c.loop-key.pool o) (ne_eqb o id ne))
