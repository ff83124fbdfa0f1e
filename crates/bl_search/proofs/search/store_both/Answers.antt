use Rattle.std.proofs.Common.{Ok, Err}
use Rattle.std.specs.Prelude.{OnOk}
use Rattle.std.specs.declared.result.Result.{Result}
use Rattle.bl_search.proofs.Tidying.{still_born, both_stored}
use Rattle.bl_search.proofs.search.store_both.Goals as goal

pub store_whole-requires-2 : goal.store_whole-requires-2
store_whole-requires-2 c = still_born c.args.tree.now c.store_whole.new.tree c.args.born.right
    c.in_ok-store_whole.ensures.kept_up c.requires.right

on_ok : {T E : Type 0} (A B : Type 0) (r : Result T E) → (A → B) → OnOk r A → OnOk r B
on_ok A B (Ok x) f h = f h
on_ok A B (Err e) f h = tt

pub returns : goal.returns
returns c =
    on_ok _ _ c.store_whole-2.result
    (both_stored c.args.tree.now c.store_whole.new.tree c.store_whole-2.new.tree c.args.born
    c.in_ok-store_whole.ensures) c.store_whole-2.ensures
