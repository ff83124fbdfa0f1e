use Rattle.std.proofs.Common.{◌+◌, List, sym, ◌∙◌, rules, get_or}
use Rattle.bl_cover.specs.declared.greedy.Candidate.{Candidate}
use Rattle.std.proofs.lemmas.List.Sorted.{answers_always}
use Rattle.bl_cover.proofs.GreedyLaw.{comes_before-cmp}
use Rattle.bl_cover.proofs.greedy.list_in_order.Goals as goal

pub returns : goal.returns
returns c =
    let s = c.sort_unstable_by_key.ensures.sorted
    (λ (x : Candidate). (record { 0 = x.entry }, x.column))
    (answers_always _ _ _ (λ f a r g h. search rules)) in
    let order : List Candidate = c.sort_unstable_by_key.new.self.items in
    record {
      same = rw (sym c.in_ok-list.ensures) c.sort_unstable_by_key.ensures.permutation;
      sorted = λ k d z l. comes_before-cmp (get_or order (k + 1) d) (get_or order k d) ∙ s k d z l;
    }
