use Rattle.std.proofs.Common.{◌%◌, Option, sym, subst, ap, ◌∙◌}
use Rattle.bl_tree.specs.declared.answer.Born.{Born}
use Rattle.bl_tree.specs.Views.{TreeView}
use Rattle.bl_search.specs.Searches.{IsFreed, HasTidied}
use Rattle.bl_search.proofs.Tidying.{tidied_shut, tidied_between, tidied_fourth}
use Rattle.bl_search.proofs.search.tidy.Goals as goal
use Rattle.bl_search.proofs.search.tidy.Goals.{in-Some+then-count-eq0+in_ok-store_both}
use Rattle.bl_search.proofs.search.tidy.Goals.{in-Some+else-count-eq0, in_default}

pub returns-clause-tidied : goal.returns-clause-tidied
returns-clause-tidied c =
    let old = c.args.tree.now in
    let new = c.free_all.new.tree in
    let count = c.match-born.count in
    elim c.match-born.branch [
      | in-Some+then-count-eq0+in_ok-store_both w ↦
          subst (λ (o : Option Born). HasTidied old o count new) (sym w.in-Some.is)
          (tidied_fourth old w.store_both.new.tree new w.in-Some.born count
          w.in_ok-store_both.ensures
          (subst (λ (t : TreeView). IsFreed t new) w.tree-is c.in_ok-free_all.ensures))
      | in-Some+else-count-eq0 w ↦
          subst (λ (o : Option Born). HasTidied old o count new) (sym w.in-Some.is)
          (tidied_between old new w.in-Some.born count (λ e. w.if-count-eq0.false
          (ap (λ n. n % 4) (sym w.count-is) ∙ e))
          (subst (λ (t : TreeView). IsFreed t new) w.tree-is c.in_ok-free_all.ensures))
      | in_default w ↦
          subst (λ (o : Option Born). HasTidied old o count new) (sym w.in_default.is)
          (tidied_shut old new count
          (subst (λ (t : TreeView). IsFreed t new) w.tree-is c.in_ok-free_all.ensures))
    ]
