-- A narrowed box has the points of the box that meet the decisions.
use Rattle.std.proofs.Common.{ℕ, zero, suc, List, [], ◌∷◌, ◌++◌, arith}
use Rattle.std.specs.Prelude.{ℤ, ◌≤ℤ◌, slice_get, IfSome}
use Rattle.std.proofs.lemmas.Int.{ints, clamps}
use Rattle.bl_problem.specs.Points.{InBox}
use Rattle.bl_problem.specs.declared.decision.Decision.{Decision}
use Rattle.bl_problem.specs.declared.decision.Side.{Side}
use Rattle.bl_problem.specs.declared.decision.Side.TheVariants.{AtLeast, AtMost}
use Rattle.bl_problem.specs.Decisions.{Box, MeetsAll, MeetsSide, raised, lowered, narrowed_at}
use Rattle.bl_problem.specs.Decisions.{narrowed_all}

pub MeetsAll-append : (x : List ℤ) (a b : List Decision) → MeetsAll x a → MeetsAll x b
    → MeetsAll x (a ++ b)
MeetsAll-append x [] b m n = n
MeetsAll-append x (d ∷ a) b m n = (m.0, MeetsAll-append x a b m.1 n)

pub MeetsAll-front : (x : List ℤ) (a b : List Decision) → MeetsAll x (a ++ b) → MeetsAll x a
MeetsAll-front x [] b m = tt
MeetsAll-front x (d ∷ a) b m = (m.0, MeetsAll-front x a b m.1)

pub MeetsAll-back : (x : List ℤ) (a b : List Decision) → MeetsAll x (a ++ b) → MeetsAll x b
MeetsAll-back x [] b m = m
MeetsAll-back x (d ∷ a) b m = MeetsAll-back x a b m.1

pub InBox-raised : (lows highs x : List ℤ) (j : ℕ) (v : ℤ) → InBox lows highs x
    → IfSome (slice_get x j) (λ e. v ≤ℤ e) → InBox (raised lows j v) highs x
InBox-raised [] [] [] j v i m = tt
InBox-raised [] [] (e ∷ x) j v i m = absurd i
InBox-raised [] (h ∷ highs) x j v i m = absurd i
InBox-raised (l ∷ lows) [] x j v i m = absurd i
InBox-raised (l ∷ lows) (h ∷ highs) [] j v i m = absurd i
InBox-raised (l ∷ lows) (h ∷ highs) (e ∷ x) zero v i m =
    (omega (arith, ints, clamps, i.0, m), i.1, i.2)
InBox-raised (l ∷ lows) (h ∷ highs) (e ∷ x) (suc j) v i m =
    (i.0, i.1, InBox-raised lows highs x j v i.2 m)

pub InBox-lowered : (lows highs x : List ℤ) (j : ℕ) (v : ℤ) → InBox lows highs x
    → IfSome (slice_get x j) (λ e. e ≤ℤ v) → InBox lows (lowered highs j v) x
InBox-lowered [] [] [] j v i m = tt
InBox-lowered [] [] (e ∷ x) j v i m = absurd i
InBox-lowered [] (h ∷ highs) x j v i m = absurd i
InBox-lowered (l ∷ lows) [] x j v i m = absurd i
InBox-lowered (l ∷ lows) (h ∷ highs) [] j v i m = absurd i
InBox-lowered (l ∷ lows) (h ∷ highs) (e ∷ x) zero v i m =
    (i.0, omega (arith, ints, clamps, i.1, m), i.2)
InBox-lowered (l ∷ lows) (h ∷ highs) (e ∷ x) (suc j) v i m =
    (i.0, i.1, InBox-lowered lows highs x j v i.2 m)

pub InBox-unraised : (lows highs x : List ℤ) (j : ℕ) (v : ℤ) → InBox (raised lows j v) highs x
    → InBox lows highs x × IfSome (slice_get x j) (λ e. v ≤ℤ e)
InBox-unraised [] [] [] j v i = (tt, tt)
InBox-unraised [] [] (e ∷ x) j v i = absurd i
InBox-unraised [] (h ∷ highs) x j v i = absurd i
InBox-unraised (l ∷ lows) [] x zero v i = absurd i
InBox-unraised (l ∷ lows) [] x (suc j) v i = absurd i
InBox-unraised (l ∷ lows) (h ∷ highs) [] zero v i = absurd i
InBox-unraised (l ∷ lows) (h ∷ highs) [] (suc j) v i = absurd i
InBox-unraised (l ∷ lows) (h ∷ highs) (e ∷ x) zero v i =
    ((omega (arith, ints, clamps, i.0), i.1, i.2), omega (arith, ints, clamps, i.0))
InBox-unraised (l ∷ lows) (h ∷ highs) (e ∷ x) (suc j) v i =
    let r = InBox-unraised lows highs x j v i.2 in ((i.0, i.1, r.0), r.1)

pub InBox-unlowered : (lows highs x : List ℤ) (j : ℕ) (v : ℤ) → InBox lows (lowered highs j v) x
    → InBox lows highs x × IfSome (slice_get x j) (λ e. e ≤ℤ v)
InBox-unlowered [] [] [] j v i = (tt, tt)
InBox-unlowered [] [] (e ∷ x) j v i = absurd i
InBox-unlowered [] (h ∷ highs) x zero v i = absurd i
InBox-unlowered [] (h ∷ highs) x (suc j) v i = absurd i
InBox-unlowered (l ∷ lows) [] x j v i = absurd i
InBox-unlowered (l ∷ lows) (h ∷ highs) [] zero v i = absurd i
InBox-unlowered (l ∷ lows) (h ∷ highs) [] (suc j) v i = absurd i
InBox-unlowered (l ∷ lows) (h ∷ highs) (e ∷ x) zero v i =
    ((i.0, omega (arith, ints, clamps, i.1), i.2), omega (arith, ints, clamps, i.1))
InBox-unlowered (l ∷ lows) (h ∷ highs) (e ∷ x) (suc j) v i =
    let r = InBox-unlowered lows highs x j v i.2 in ((i.0, i.1, r.0), r.1)

pub InBox-narrowed_at : (s : Side) (b : Box) (x : List ℤ) (j : ℕ) (v : ℤ) → InBox b.lows b.highs x
    → IfSome (slice_get x j) (MeetsSide s v)
    → InBox (narrowed_at s b j v).lows (narrowed_at s b j v).highs x
InBox-narrowed_at AtLeast b x j v i m = InBox-raised b.lows b.highs x j v i m
InBox-narrowed_at AtMost b x j v i m = InBox-lowered b.lows b.highs x j v i m

pub InBox-widened_at : (s : Side) (b : Box) (x : List ℤ) (j : ℕ) (v : ℤ)
    → InBox (narrowed_at s b j v).lows (narrowed_at s b j v).highs x
    → InBox b.lows b.highs x × IfSome (slice_get x j) (MeetsSide s v)
InBox-widened_at AtLeast b x j v i = InBox-unraised b.lows b.highs x j v i
InBox-widened_at AtMost b x j v i = InBox-unlowered b.lows b.highs x j v i

pub InBox-narrowed : (b : Box) (ds : List Decision) (x : List ℤ) → InBox b.lows b.highs x
    → MeetsAll x ds
    → InBox (narrowed_all b ds).lows (narrowed_all b ds).highs x
InBox-narrowed b [] x i m = i
InBox-narrowed b (d ∷ ds) x i m =
    InBox-narrowed (narrowed_at d.side b d.column d.value) ds x
    (InBox-narrowed_at d.side b x d.column d.value i m.0) m.1

pub InBox-widened : (b : Box) (ds : List Decision) (x : List ℤ)
    → InBox (narrowed_all b ds).lows (narrowed_all b ds).highs x
    → InBox b.lows b.highs x × MeetsAll x ds
InBox-widened b [] x i = (i, tt)
InBox-widened b (d ∷ ds) x i =
    let r = InBox-widened (narrowed_at d.side b d.column d.value) ds x i in
    let s = InBox-widened_at d.side b x d.column d.value r.0 in
    (s.0, (s.1, r.1))
