use Rattle.std.proofs.Common.{◌≡◌, ℕ, sym, ◌∙◌, ap, map, eqb, subst, IsPermutation}
use Rattle.std.specs.List.Sorted.{IsStrictlyIncreasing}
use Rattle.std.proofs.lemmas.List.{take_all}
use Rattle.std.proofs.lemmas.List.Sorted.{IsNonDecreasingBy-from_sort}
use Rattle.std.proofs.lemmas.Map.Keys.{IsDistinct-IsPermutation, IsStrictlyIncreasing-from_distinct}
use Rattle.bl_cover.specs.Greedy.{column_of}
use Rattle.bl_cover.proofs.GreedyLaw.{eqb_flips}
use Rattle.bl_cover.proofs.greedy.columns_of.Goals as goal

pub returns-clause-rising : goal.returns-clause-rising
returns-clause-rising c =
    let n = IsNonDecreasingBy-from_sort (λ (x : ℕ). x) c.sort_unstable.new.self.items
    c.sort_unstable.ensures.sorted in
    let e : map column_of c.args.taken.now ≡ c.loop-candidate.columns.items =
    sym (ap (map column_of) (take_all c.loop-candidate.candidate-index c.args.taken.now
    c.loop-candidate-test.false)) ∙ c.loop-candidate.invariant in
    let p : IsPermutation (map column_of c.args.taken.now) c.sort_unstable.new.self.items =
    rw e c.sort_unstable.ensures.permutation in
    let d = IsDistinct-IsPermutation eqb eqb_flips (map column_of c.args.taken.now)
    c.sort_unstable.new.self.items p c.requires in
    let r = IsStrictlyIncreasing-from_distinct c.sort_unstable.new.self.items n d in
    subst IsStrictlyIncreasing (sym c.from_vec.ensures) r
