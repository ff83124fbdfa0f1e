use Rattle.std.proofs.Common.{arith, All}
use Rattle.std.proofs.lemmas.List.Sorted.{All-permutation, length_permutation}
use Rattle.bl_cover.specs.Greedy.{candidates, IsCandidate}
use Rattle.bl_cover.proofs.GreedyLaw.{few-candidates, are-candidates, distinct-taken}
use Rattle.bl_cover.proofs.search.greedy_cover.Goals as goal
use Rattle.bl_cover.proofs.search.greedy_cover.Goals.{After-room, After-as_slice-in-Some}

pub broken_size-requires-clause-few : goal.broken_size-requires-clause-few
broken_size-requires-clause-few c =
    let o = rw c.as_slice.ensures at c.in_ok-list_in_order.ensures in
    let n = length_permutation (candidates c.args.columns.now c.args.point.now
    c.args.row.now.terms) c.list_in_order.new.order.items o.same in
    let f = few-candidates c.args.columns.now c.args.point.now c.args.row.now.terms
    c.requires.row.terms in
    rw c.as_slice-2.ensures.value (omega (arith, n, f, c.requires.few))

pub broken_size-requires-clause-candidates : goal.broken_size-requires-clause-candidates
broken_size-requires-clause-candidates c =
    let o = rw c.as_slice.ensures at c.in_ok-list_in_order.ensures in
    let a = are-candidates c.args.columns.now c.args.point.now c.args.row.now.terms
    c.requires.row.terms c.requires.width c.requires.near in
    let b : All IsCandidate c.list_in_order.new.order.items =
    All-permutation IsCandidate (candidates c.args.columns.now c.args.point.now
    c.args.row.now.terms) c.list_in_order.new.order.items o.same a in
    rw c.as_slice-2.ensures.value b

pub columns_of-requires : goal.columns_of-requires
columns_of-requires c =
    let o = rw c.as_slice.ensures at c.in_ok-list_in_order.ensures in
    rw c.as_slice-in-Some.ensures.value (distinct-taken c.args.columns.now c.args.point.now
    c.args.row.now.terms c.list_in_order.new.order.items c.in-Some.size c.requires.row.terms o)
