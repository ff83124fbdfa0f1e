-- Steps of a walk that writes entries at their places.
use Rattle.std.proofs.Common.{◌≡◌, ℕ, ◌+◌, ◌<◌, List, ◌∷◌, length, get_or, drop, ap, sym, ◌∙◌}
use Rattle.std.proofs.Common.{subst, arith, length-set}
use Rattle.std.specs.Prelude.{All, slice_set}
use Rattle.std.proofs.lemmas.List.{drop_more}
use Rattle.bl_mods.specs.declared.mods.Mod.{Mod}
use Rattle.bl_mods.specs.Mods.{written}

pub place_below : {T : Type 0} (ms : List (Mod T)) (i n : ℕ) (m : Mod T) → i < length ms → m
    ≡ get_or ms i m → All (λ e. e.place < n) ms → m.place < n
place_below {T} ms i n m h e all = subst (λ (x : Mod T). x.place < n) (sym e) (all i m h)

pub written_more : {T : Type 0} (ms : List (Mod T)) (i : ℕ) (m : Mod T) (list : List T) → i
    < length ms → m ≡ get_or ms i m
    → written (drop (i + 1) ms) (slice_set list m.place m.entry) ≡ written (drop i ms) list
written_more {T} ms i m list h e =
    let s : drop i ms ≡ m ∷ drop (i + 1) ms = drop_more ms i m h
    ∙ ap (λ (x : Mod T). x ∷ drop (i + 1) ms) (sym e) in
    ap (λ (l : List (Mod T)). written l list) (sym s)

pub below_set : {T : Type 0} (ms : List (Mod T)) (list list' : List T) (i : ℕ) (x : T) → list'
    ≡ slice_set list i x → All (λ e. e.place < length list) ms
    → All (λ e. e.place < length list') ms
below_set {T} ms list list' i x e all k d h =
    let len : length list' ≡ length list = ap length e ∙ length-set list i x in
    let a = all k d h in
    omega (arith, len, a)
