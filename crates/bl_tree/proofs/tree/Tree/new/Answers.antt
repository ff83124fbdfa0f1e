use Rattle.std.proofs.Common.{◌≤◌, [], ◌∷◌, ◌++◌, List, refl, ap, sym, ◌∙◌, rules, arith, cond}
use Rattle.std.proofs.Common.{Some, None, ◌≡◌}
use Rattle.std.specs.Prelude.{FitsSigned, ℤ, vec_capacity}
use Rattle.std.specs.Int.{w128}
use Rattle.std.proofs.lemmas.Int.{to_z-of_z}
use Rattle.bl_problem.specs.Program.{Program}
use Rattle.bl_problem.specs.Points.{own_lows, own_highs, trivial_bound_of}
use Rattle.bl_journal.specs.Descriptions.{root_desc}
use Rattle.bl_pool.specs.declared.key.Key.{Key}
use Rattle.bl_pool.specs.Views.{PoolView, key_in}
use Rattle.bl_tree.specs.declared.record.Record.{Record}
use Rattle.bl_tree.specs.Records.{root_record}
use Rattle.bl_tree.proofs.Keys.{no_candidates}
use Rattle.bl_tree.proofs.Roots.{root_tree}
use Rattle.bl_tree.proofs.tree.Tree.new.Goals as goal

pub invariant_of-result : goal.invariant_of-result
invariant_of-result c =
    let p : Program = c.in_ok-problem.problem in
    let fit : FitsSigned w128 c.root_low-low.result = search rules in
    let low = to_z-of_z w128 _ fit ∙ (c.root_low-low.ensures
    ∙ ap (λ (q : Program). trivial_bound_of q (own_lows q) (own_highs q)) c.get-2.ensures) in
    let desc = c.in_ok-new.ensures ∙ (c.in_ok-desc.ensures ∙ ap root_desc c.get.ensures) in
    let is = c.root_record-record.ensures ∙ (ap (λ (z : ℤ). root_record z c.in_ok-new.field-0) low
    ∙ ap (root_record (trivial_bound_of p (own_lows p) (own_highs p))) desc) in
    let r = c.in_ok-push.ensures.items
    ∙ ap (λ (l : List Record). l ++ c.root_record-record.result ∷ [])
    c.new-records.ensures.items in
    let a : 1 ≤ vec_capacity c.push.new.self = search rules in
    let listed_long = c.add.ensures.below in
    let listed_asked = c.in_ok-reserve-2.ensures.below in
    let pool : PoolView = c.join_if.new.pool in
    let key = c.key_of.ensures in
    let same : c.key_of.result.id ≡ 0 = ap (λ (k : Key). k.id) key in
    let order : pool.order ≡ c.args.settings.order = c.join_if.ensures.order
    ∙ (c.reserve.ensures.order ∙ c.new-waiting.ensures.order) in
    let long = c.join_if.ensures.below in
    let asked = c.in_ok-reserve.ensures.below in
    let here = ap (key_in pool) (sym same)
    ∙ (c.join_if.ensures.here ∙ ap
    (λ (k : Key). cond c.root_record-record.result.has_point (Some k) None) key) in
    root_tree _ c.root_record-record.result refl c.new-3.ensures r is
    c.requires.span c.requires.short c.requires.few c.requires.gap_some c.requires.gap_few a
    (omega (arith, long, asked)) (omega (arith, listed_long, listed_asked))
    c.add.ensures.plain c.add.ensures.here order here
    (λ id ne. c.join_if.ensures.others id (λ i. ne (i ∙ same))
    ∙ (c.reserve.ensures.keys id ∙ c.new-waiting.ensures.empty id))

pub add-requires-clause-plain : goal.add-requires-clause-plain
add-requires-clause-plain c =
    no_candidates c.reserve-2.new.self (c.reserve-2.ensures.order
    ∙ c.new-candidates.ensures.order) (λ id. c.reserve-2.ensures.keys id
    ∙ c.new-candidates.ensures.empty id)
