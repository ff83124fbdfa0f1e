-- A list of words means one wish at most.
use Rattle.std.specs.Prelude.{◌≡◌, Bool, List}
use Rattle.bl_words.specs.Words.{Text}
use Rattle.bl_words.specs.Wishes.{Means}
use Rattle.bl_words.specs.declared.wish.Wish.{Wish}

abbrev pub MeanOneWish : Type 0
MeanOneWish = (one : Bool) (words : List Text) (v w : Wish) → Means one words v
    → Means one words w → v ≡ w
