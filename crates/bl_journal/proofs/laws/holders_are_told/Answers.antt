use Rattle.std.proofs.Common.{◌≡◌, subst, sym}
use Rattle.std.specs.Prelude.{reverse}
use Rattle.bl_journal.specs.States.{state_of}
use Rattle.bl_journal.specs.declared.state.State.TheVariants.{Out as out}
use Rattle.bl_journal.proofs.Endings.{out_by_own, out_as_own, entries_of-reverse, none_out_at_end}
use Rattle.bl_journal.proofs.laws.holders_are_told.Goals as goal

pub returns : goal.returns
returns c = record {
  told = λ history id seat o.
      subst (λ l. state_of l id ≡ out seat) (entries_of-reverse seat history)
      (out_by_own (reverse history) id seat o);
  true_told = λ p s history id seat l o.
      out_as_own p s (reverse history) id seat l.steps
      (subst (λ l. state_of l id ≡ out seat) (sym (entries_of-reverse seat history)) o);
  none_out = none_out_at_end;
}
