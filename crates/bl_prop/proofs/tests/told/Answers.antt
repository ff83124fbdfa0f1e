use Rattle.std.proofs.Common.{◌^◌, [], ◌∷◌, pos, refl, arith, rules}
use Rattle.std.proofs.lemmas.Int.{ints}
use Rattle.std.proofs.lemmas.List.Elements.{All-cons, All-nil}
use Rattle.bl_problem.specs.Sums.{IsWithin}
use Rattle.bl_prop.proofs.tests.told.Goals as goal

pub tighten-requires : goal.tighten-requires
tighten-requires c =
    let n = c.in_ok-problem.ensures in
    let d = c.in_ok-desc.ensures in
    let z : IsWithin (10 ^ 9) (pos 0) = omega (arith, ints) in
    record {
      suits = record {
        lows = rw (d.lows, n) refl;
        highs = rw (d.highs, n) (search rules);
        near_lows =
            rw d.lows (All-cons (IsWithin (10 ^ 9)) (pos 0) (pos 0 ∷ []) z
            (All-cons (IsWithin (10 ^ 9)) (pos 0) [] z (All-nil (IsWithin (10 ^ 9)))));
        near_highs = rw d.highs c.requires.highs;
        few_cuts = d.few;
        cuts = d.suit c.in_ok-problem.problem n;
      };
    }
