use Rattle.std.proofs.Common.{◌++◌, ◌∷◌, [], ℕ, List, ap, ◌∙◌, cond, map, sym, subst}
use Rattle.bl_cards.specs.Said.{place_of, Differ}
use Rattle.bl_cards.proofs.Places.{absent, map_push}
use Rattle.bl_cards.proofs.Differing.{Differ_push}
use Rattle.bl_cards.proofs.names.Names.add.Goals as goal

pub invariant_of-self : goal.invariant_of-self
invariant_of-self c = subst (λ keys. Differ (map (λ k. k.now) keys))
    (sym c.in_err-insert.ensures.err) c.self.invariant

pub invariant_of-self-2 : goal.invariant_of-self-2
invariant_of-self-2 c =
    let keys = c.self.inside.set.keys in
    let none = ap (λ names. place_of names c.args.name.now) c.self.view_is ∙ c.requires in
    let h = c.in_ok-insert.ensures.keys ∙ ap (λ b. cond b keys (keys ++ c.args.name ∷ []))
    (absent (λ k. k.now) keys c.args.name.now none) in
    let e = ap (map (λ k. k.now)) h ∙ map_push (λ k. k.now) keys c.args.name in
    subst (λ (ns : List (List ℕ)). Differ ns) (sym e)
    (Differ_push (map (λ k. k.now) keys) c.args.name.now c.self.invariant none)

pub returns-clause-ok : goal.returns-clause-ok
returns-clause-ok c =
    let keys = c.self.inside.set.keys in
    let new = absent (λ k. k.now) keys c.args.name.now
    (ap (λ names. place_of names c.args.name.now) c.self.view_is ∙ c.requires) in
    let h = c.in_ok-insert.ensures.keys ∙ ap (λ b. cond b keys (keys ++ c.args.name ∷ [])) new in
    ap (map (λ k. k.now)) h ∙ map_push (λ k. k.now) keys c.args.name
    ∙ ap (λ names. names ++ c.args.name.now ∷ []) c.self.view_is
