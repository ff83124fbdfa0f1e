use Rattle.std.proofs.Common.{◌≡◌, ap, ◌∙◌, sym, subst, List, ℕ}
use Rattle.bl_cards.specs.Said.{place_of, Differ}
use Rattle.bl_cards.proofs.Places.{position_is, place_inside}
use Rattle.bl_cards.proofs.names.Names.find.Goals as goal

-- the set's answer is the place
place : (c : goal.After-get_index_of) → c.get_index_of.result
    ≡ place_of c.args.self.now c.args.name.now
place c = c.get_index_of.ensures.index ∙ position_is (λ k. k.now) c.self.inside.set.keys
    c.args.name.now ∙ ap (λ names. place_of names c.args.name.now) c.self.view_is

pub returns-clause-place : goal.returns-clause-place
returns-clause-place c = place c

pub returns-clause-within : goal.returns-clause-within
returns-clause-within c = place_inside c.args.self.now c.args.name.now c.get_index_of.result
    (sym (place c))

pub returns-clause-differ : goal.returns-clause-differ
returns-clause-differ c = subst (λ (ns : List (List ℕ)). Differ ns) c.self.view_is c.self.invariant
