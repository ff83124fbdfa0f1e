-- One pass of bound tightening over the rows and then the cuts.
use Rattle.std.specs.Prelude.{ℕ, zero, suc, ◌≡◌, ◌≤◌, ◌^◌, Bool, true, false, List, [], ◌∷◌, ◌++◌}
use Rattle.std.specs.Prelude.{length, ℤ, pos, negsuc, ◌+ℤ◌, ◌-ℤ◌, ◌*ℤ◌, neg_ℤ, Option, Some, None}
use Rattle.std.specs.Prelude.{All, fold, int_lt, nat_le, if◌then◌else◌, slice_set}
use Rattle.std.specs.Int.{int_min}
use Rattle.bl_num.specs.Exact.{at, floor_of}
use Rattle.bl_problem.specs.Sums.{total, IsWithin}
use Rattle.bl_problem.specs.declared.problem.Term.{Term}
use Rattle.bl_problem.specs.declared.decision.Side.TheVariants.{AtLeast, AtMost}
use Rattle.bl_bound.specs.Lines.{Line, line_at}
use Rattle.bl_prop.specs.declared.pass.Pass.{Pass}
use Rattle.bl_prop.specs.Limits.{AreDecisions}

-- a number, negated where that is asked: a low end is the negated line's high end
abbrev pub turned : Bool → ℤ → ℤ
turned false z = z
turned true z = neg_ℤ z

-- the least that the term can be within the bounds
abbrev pub least_part : Bool → List ℤ → List ℤ → Term → ℤ
least_part negate lows highs t = int_min (turned negate t.coefficient *ℤ at lows t.column)
    (turned negate t.coefficient *ℤ at highs t.column)

abbrev pub least_of : Bool → List Term → List ℤ → List ℤ → ℤ
least_of negate terms lows highs = total (least_part negate lows highs) terms

-- v becomes the high of column j where it is below it, and that is a decision
abbrev pub lowered_high : ℕ → ℤ → Pass → Pass
lowered_high j v pass =
    if int_lt v (at pass.highs j)
    then record {
      lows = pass.lows;
      highs = slice_set pass.highs j v;
      decisions =
          pass.decisions ++ record { column = j; side = AtMost; value = v } ∷ [];
      stuck = pass.stuck;
    }
    else pass

-- v becomes the low of column j where it is above it, and that is a decision
abbrev pub raised_low : ℕ → ℤ → Pass → Pass
raised_low j v pass =
    if int_lt (at pass.lows j) v
    then record {
      lows = slice_set pass.lows j v;
      highs = pass.highs;
      decisions =
          pass.decisions ++ record { column = j; side = AtLeast; value = v } ∷ [];
      stuck =
          pass.stuck;
    }
    else pass

-- what coefficient a of column j decides, where the slack is s
abbrev pub cut_by : ℤ → ℕ → ℤ → Pass → Pass
cut_by s j (pos zero) pass = pass
cut_by s j (pos (suc a)) pass = lowered_high j (at pass.lows j +ℤ floor_of s (pos (suc a))) pass
cut_by s j (negsuc a) pass = raised_low j (at pass.highs j -ℤ floor_of s (pos (suc a))) pass

-- the pass stops after 256 decisions
abbrev pub is_full : Pass → Bool
is_full pass = nat_le 256 (length pass.decisions)

abbrev pub cut_term : Bool → ℤ → Pass → Term → Pass
cut_term negate s pass t = if is_full pass then pass
    else cut_by s t.column (turned negate t.coefficient) pass

abbrev pub cut_terms : Bool → ℤ → List Term → Pass → Pass
cut_terms negate s terms pass = fold (cut_term negate s) pass terms

abbrev pub over_by : Option ℕ → Bool → Bool
over_by None full = full
over_by (Some i) full = true

-- the pass has met a line that no point of the bounds meets, or has stopped
abbrev pub is_over : Pass → Bool
is_over pass = over_by pass.stuck (is_full pass)

-- the end less the least sum: a negative slack leaves no point, else each term in order decides
abbrev pub by_slack : ℕ → Bool → List Term → ℤ → Pass → Pass
by_slack i negate terms s pass =
    if int_lt s (pos 0)
    then record { lows = pass.lows; highs = pass.highs; decisions = pass.decisions; stuck = Some i }
    else cut_terms negate s terms pass

-- one end of line i, where it is there
abbrev pub end_step : ℕ → Bool → List Term → Option ℤ → Pass → Pass
end_step i negate terms None pass = pass
end_step i negate terms (Some end) pass =
    if is_over pass then pass else by_slack i negate terms
    (turned negate end -ℤ least_of negate terms pass.lows pass.highs) pass

-- both ends of line i, high first
abbrev pub line_step : ℕ → Line → Pass → Pass
line_step i line pass = end_step i true line.terms line.low
    (end_step i false line.terms line.high pass)

-- what the pass has come to after the first n lines
unfoldable pub walked : ℕ → List Line → Pass → Pass
walked zero lines pass = pass
walked (suc n) lines pass = line_step n (line_at lines n) (walked n lines pass)

-- one low and one high for each of at most 1000 columns, and the decisions, within the limits
pub record IsNear (pass : Pass) : Type 0 where
  pub few : length pass.lows ≤ 1000
  pub highs : length pass.highs ≡ length pass.lows
  pub near_lows : All (IsWithin (10 ^ 9)) pass.lows
  pub near_highs : All (IsWithin (10 ^ 9)) pass.highs
  pub decisions : AreDecisions (length pass.lows) pass.decisions
