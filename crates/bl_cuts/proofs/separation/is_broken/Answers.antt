use Rattle.std.proofs.Common.{◌≡◌, ℤ, pos, arith, false, refl, sym, get_or, subst}
use Rattle.std.specs.Int.{w64, w128}
use Rattle.std.proofs.lemmas.Int.{ints, to_z-of_z}
use Rattle.std.proofs.lemmas.Bool.Decides.{Decides-int_eq}
use Rattle.std.proofs.lemmas.List.Elements.{All-push}
use Rattle.bl_cuts.specs.OneRow.{row_breaks}
use Rattle.bl_cuts.proofs.Reaching.{is_out, out_of_reach, small_divisor}
use Rattle.bl_cuts.proofs.separation.is_broken.Goals as goal

pub returns-then-q-le1-clause-exact : goal.returns-then-q-le1-clause-exact
returns-then-q-le1-clause-exact c = λ x h.
    let z = to_z-of_z w64 c.args.q c.ranges.q in
    let t = rw z at c.if-q-le1.true in
    sym (small_divisor c.args.q (row_breaks c.args.split.now.lows x c.args.terms.now c.args.weight
    c.args.over c.args.q) (omega (arith, ints, t)))

pub returns-then-is_out_of_reach-clause-exact : goal.returns-then-is_out_of_reach-clause-exact
returns-then-is_out_of_reach-clause-exact c = λ x h.
    let z = to_z-of_z w64 c.args.q c.ranges.q in
    let y = to_z-of_z w128 c.args.over c.ranges.over in
    let t = rw z at c.if-q-le1.false in
    let o = rw (y, z) at (c.if-is_out_of_reach.ensures refl) in
    let e = is_out c.args.split.now x c.args.terms.now c.args.weight c.args.over c.args.q
    c.args.reach h (omega (arith, ints, t)) o c.requires.reach in
    sym (out_of_reach c.args.q (row_breaks c.args.split.now.lows x c.args.terms.now c.args.weight
    c.args.over c.args.q) e)

pub returns-then-contains-clause-exact : goal.returns-then-contains-clause-exact
returns-then-contains-clause-exact c = λ x h.
    let z = to_z-of_z w64 c.args.q c.ranges.q in
    let k = rw (z, c.deref.ensures.value) at c.if-contains.ensures.cases in
    let e = (Decides-int_eq (get_or c.args.tried.now.items k.0 (pos 0)) c.args.q).0 (k.2 (pos 0)) in
    let u = c.requires.tried x h k.0 (pos 0) k.1 in
    let b = subst (λ (q : ℤ). row_breaks c.args.split.now.lows x c.args.terms.now c.args.weight
    c.args.over q ≡ false) e u in
    sym (out_of_reach c.args.q (row_breaks c.args.split.now.lows x c.args.terms.now c.args.weight
    c.args.over c.args.q) b)

pub returns-clause-tried : goal.returns-clause-tried
returns-clause-tried c = λ x h.
    let z = to_z-of_z w64 c.args.q c.ranges.q in
    let w = to_z-of_z w64 c.args.weight c.ranges.weight in
    let y = to_z-of_z w128 c.args.over c.ranges.over in
    let e = rw (w, y, z) at (c.if-row_breaks.ensures x h) in
    let i = rw z at c.in_ok-push.ensures.items in
    rw i (All-push (λ (q : ℤ). row_breaks c.args.split.now.lows x c.args.terms.now c.args.weight
    c.args.over q ≡ false) c.args.tried.now.items c.args.q (c.requires.tried x h) (sym e))
