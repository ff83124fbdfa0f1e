-- A number's text without its sign.
use Rattle.std.proofs.Common.{◌≡◌, ℕ, suc, drop, refl, pos, negsuc}
use Rattle.bl_num.specs.Texts.{text_of}

pub signless : (n places : ℕ) → drop 1 (text_of (negsuc n) places) ≡ text_of (pos (suc n)) places
unfolding text_of
signless n places = refl
