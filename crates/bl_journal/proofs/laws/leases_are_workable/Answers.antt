use Rattle.std.specs.Prelude.{reverse, List}
use Rattle.bl_problem.specs.Cuts.{SuitsProblem, IsValidCut}
use Rattle.bl_problem.specs.declared.cut.Cut.{Cut}
use Rattle.bl_desc.specs.declared.desc.Desc.{Desc}
use Rattle.bl_journal.specs.declared.entry.Entry.{Entry}
use Rattle.bl_journal.specs.Births.{IsBorn}
use Rattle.bl_journal.specs.Descriptions.{full_of}
use Rattle.bl_journal.proofs.Leaves.{shape, out_born}
use Rattle.bl_journal.proofs.Workable.{cuts_fine, desc_for, out_has_point, All-from_each}
use Rattle.bl_journal.proofs.Ranges.{leased_small, IsSmall}
use Rattle.bl_journal.proofs.laws.leases_are_workable.Goals as goal

pub returns : goal.returns
returns c = λ p s history l id seat o.
    let past : List Entry = reverse history in
    let d : Desc Cut = full_of p past id in
    let born : IsBorn p past id = out_born p past id seat (shape p s past l.steps) o in
    let fine = cuts_fine p s past l.steps id born in
    record {
      desc = desc_for p s past l.steps id born;
      point = out_has_point p s past l.steps id seat o;
      suit = All-from_each (SuitsProblem p) d.cuts fine.suit;
      valid = All-from_each (IsValidCut p) d.cuts fine.valid;
      near = λ w.
          let small = leased_small p s past id seat l.steps w o in
          record {
            lows = All-from_each IsSmall d.lows small.0;
            highs =
                All-from_each IsSmall d.highs small.1;
          };
    }
