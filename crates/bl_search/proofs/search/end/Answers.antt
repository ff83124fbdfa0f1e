use Rattle.std.proofs.Common.{arith, List, subst, All, Bool, true, false, ◌≡◌}
use Rattle.std.proofs.lemmas.List.{reverse-reverse}
use Rattle.bl_journal.specs.declared.entry.Entry.{Entry}
use Rattle.bl_journal.specs.Laws.{RepliesEnd}
use Rattle.bl_journal.specs.Legality.{seat_of}
use Rattle.bl_journal.specs.Replies.{take_reply}
use Rattle.bl_journal.specs.Tidying.{IsTidied}
use Rattle.bl_tree.specs.Views.{past_of}
use Rattle.bl_search.specs.Searches.{EndsBy, last_reply}
use Rattle.bl_search.proofs.Tidying.{All-reverse}
use Rattle.bl_search.proofs.search.end.Goals as goal

pub returns-clause-ended : goal.returns-clause-ended
returns-clause-ended c =
    record {
      legal = c.journal-journal.ensures.legal;
      none_out = c.requires.between.none_out;
      seats = λ i e l. let own = subst (λ (h : List Entry). All (λ e. seat_of e ≡ 0) h)
          (reverse-reverse c.args.tree.history)
          (All-reverse (λ e. seat_of e ≡ 0) (past_of c.args.tree) c.requires.between.seats) i e l
          in omega (arith, own);
      nothing_to_free = c.requires.between.nothing_to_free;
      tidied = λ seat few. subst (λ k. IsTidied c.args.tree.problem c.args.tree.settings k
          (past_of c.args.tree)) (omega (arith, few)) c.requires.between.tidied;
      ends = by_reply c.args.limited c.requires.reply;
    }
  where
    replies : RepliesEnd c.args.tree.problem c.args.tree.settings (past_of c.args.tree)
    replies = c.replies_end_searches.ensures c.args.tree.problem c.args.tree.settings
        c.args.tree.history c.journal-journal.ensures.legal

    by_reply : (limited : Bool) → take_reply c.args.tree.problem c.args.tree.settings
        (past_of c.args.tree) ≡ last_reply limited
        → EndsBy limited c.args.tree.problem c.args.tree.settings (past_of c.args.tree)
    by_reply true e = let run_out =
        replies.at_spent e in record { spent = run_out.all_used; short = run_out.budget }
    by_reply false e = let ended =
        replies.at_done e in record { none_live = ended.none_live; final_answer = ended.decided }
