-- The wish of words that ask for a problem to be made.
use Rattle.std.proofs.Common.{◌≡◌, Bool, List, true, is_some, subst}
use Rattle.std.specs.declared.alloc.Global.{Global}
use Rattle.std.specs.declared.string.String.{String}
use Rattle.bl_words.specs.Laws.{MeanOneWish}
use Rattle.bl_words.specs.declared.wish.Wish.{Wish}
use Rattle.bl_run.specs.Runs.{AskFor, AskToMake}

pub made_by : MeanOneWish → (alone : Bool) (words : List (String Global)) (w : Wish)
    → AskFor alone words w → AskToMake alone words → is_some w.generate ≡ true
made_by law alone words w meant k =
    subst (λ (x : Wish). is_some x.generate ≡ true) (law alone _ k.wish w k.meant meant) k.makes
