use Rattle.bl_worker.proofs.search.end.Goals as goal

pub returns-in-Done-clause-ended : goal.returns-in-Done-clause-ended
returns-in-Done-clause-ended c =
    let taken = rw c.in-Done.is at c.in_ok-take.ensures.taken in
    let ended = (c.replies_end_searches.ensures c.args.tree.problem c.args.tree.settings
    c.args.tree.history c.journal-journal.ensures.legal).at_done taken.0 in
    record {
      legal = c.journal-journal.ensures.legal;
      none_out = c.requires.none_out;
      seats = c.requires.few;
      nothing_to_free = c.requires.nothing_to_free;
      tidied = c.requires.tidied;
      ends = record { none_live = ended.none_live; final_answer = ended.decided };
    }

pub returns-in-Spent-clause-ended : goal.returns-in-Spent-clause-ended
returns-in-Spent-clause-ended c =
    let taken = rw c.in-Spent.is at c.in_ok-take.ensures.taken in
    let run_out = (c.replies_end_searches.ensures c.args.tree.problem c.args.tree.settings
    c.args.tree.history c.journal-journal.ensures.legal).at_spent taken.0 in
    record {
      legal = c.journal-journal.ensures.legal;
      none_out = c.requires.none_out;
      seats = c.requires.few;
      nothing_to_free = c.requires.nothing_to_free;
      tidied = c.requires.tidied;
      ends = record { spent = run_out.all_used; short = run_out.budget };
    }
