use Rattle.std.proofs.Common.{◌≡◌, ◌+◌, ◌≤◌, ◌++◌, ℕ, List, take}
use Rattle.bl_num.specs.Reading.{kept_of}
use Rattle.bl_num.proofs.read.Digits.keep.Given as goal

abbrev pub invariant-loop-digit : goal.invariant-loop-digit
invariant-loop-digit l = record {
  kept : (ds : List ℕ) → l.fn.self ≡ kept_of ds → l.kept
      ≡ kept_of (ds ++ take l.digit-index l.digits);
  zeros : l.kept.zeros ≤ l.fn.self.zeros + l.digit-index;
}
