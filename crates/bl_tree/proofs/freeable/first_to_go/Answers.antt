use Rattle.std.proofs.Common.{◌∙◌, None, refl}
use Rattle.std.proofs.lemmas.Bool.{eq-eqb, ne_eqb, cond-true, cond-false}
use Rattle.bl_pool.specs.Views.{key_in}
use Rattle.bl_tree.proofs.Keys.{fewer_keys, least_listed}
use Rattle.bl_tree.proofs.freeable.first_to_go.Goals as goal

pub returns-then-may_go-clause-least : goal.returns-then-may_go-clause-least
returns-then-may_go-clause-least c =
    λ q h. least_listed c.loop-key.pool c.in-Some.key c.loop-key.invariant.plain
    c.in-Some.ensures.some q h

pub loop-key-smaller : goal.loop-key-smaller
loop-key-smaller c =
    let keys = c.leave.ensures.keys in
    let id = c.in-Some.key.id in
    fewer_keys c.loop-key.pool.keys c.leave.new.pool.keys id c.in-Some.key c.leave.ensures.below
    c.in-Some.ensures.some.held
    (keys id ∙ cond-true _ None (key_in c.loop-key.pool id) (eq-eqb id id refl))
    (λ o ne. keys o ∙ cond-false _ None (key_in c.loop-key.pool o) (ne_eqb o id ne))
