use Rattle.std.proofs.Common.{◌≡◌, ◌+◌, drop}
use Rattle.std.specs.List.{prefix_len}
use Rattle.bl_num.specs.Decimals.{is_digit}
use Rattle.bl_num.proofs.read.digit_count.Given as goal

abbrev pub invariant-loop-byte : goal.invariant-loop-byte
invariant-loop-byte l = (l.n ≡ l.byte-index)
    × (l.n + prefix_len is_digit (drop l.n l.text) ≡ prefix_len is_digit l.text)
