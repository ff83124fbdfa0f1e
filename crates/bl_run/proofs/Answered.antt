-- The answer to a search that has ended.
use Rattle.std.proofs.Common.{◌≡◌, ◌++◌, ℕ, List, ap, sym, ◌∙◌, subst, arith}
use Rattle.std.proofs.lemmas.Int.{ints}
use Rattle.std.specs.Prelude.{reverse}
use Rattle.bl_problem.specs.Program.{Program}
use Rattle.bl_journal.specs.declared.entry.Entry.{Entry}
use Rattle.bl_journal.specs.declared.settings.Settings.{Settings}
use Rattle.bl_journal.specs.Results.{Verdict, answer_of}
use Rattle.bl_journal.specs.Laws.{AnswersAreTrue}
use Rattle.bl_journal.specs.Pieces.{held_of}
use Rattle.bl_tree.specs.Views.{TreeView, past_of}
use Rattle.bl_tree.specs.Answers.{held_for, verdict_for}
use Rattle.bl_run.specs.declared.top.Answered.{Answered}
use Rattle.bl_search.specs.Places.{SplitsAt}
use Rattle.bl_search.specs.Searches.{IsEndedHistory}
use Rattle.bl_report.specs.Texts.{verdict_text}
use Rattle.bl_words.specs.declared.wish.Wish.{Wish}
use Rattle.bl_run.specs.Runs.{IsSolved, log_lines, settings_for, shows_columns}
use Rattle.bl_run.specs.Splitting.{IsSplitBy}

-- what is told of a tree by its problem, settings and past, is told of the search that its
-- journal tells
of_search : {X : Type 0} (of : Program → Settings → List Entry → X) (p : Program) (s : Settings)
    (h : List Entry) (t : TreeView) → t.problem ≡ p → t.settings ≡ s → h ≡ t.history
    → of t.problem t.settings (past_of t) ≡ of p s (reverse h)
of_search of p s h t same set entries =
    ap (λ (q : Program). of q t.settings (past_of t)) same
    ∙ (ap (λ (r : Settings). of p r (past_of t)) set
    ∙ ap (λ (g : List Entry). of p s (reverse g)) (sym entries))

-- the text that was put together of a tree's answer and of what it holds
abbrev pub told_text : Wish → Program → List Entry → ℕ → Verdict → List ℕ
told_text w p h held v = log_lines w.log h held ++ verdict_text p (shows_columns w.generate) v

pub solved : AnswersAreTrue → (workers : ℕ) (p : Program) (w : Wish) (a : Answered) (t : TreeView)
    (v : Verdict) (held : ℕ) → t.problem ≡ p → t.settings ≡ settings_for w p
    → IsEndedHistory p (settings_for w p) workers a.limited t.history
    → SplitsAt (IsSplitBy w.half) p (past_of t) → a.journal.entries ≡ t.history → v
    ≡ verdict_for t → held ≡ held_for t → a.text.items
    ≡ told_text w p a.journal.entries held v → IsSolved workers p w a
solved law workers p w a t v held same set ended places entries is holds text =
    let here : IsEndedHistory p (settings_for w p) workers a.limited a.journal.entries =
    subst (λ (h : List Entry). IsEndedHistory p (settings_for w p) workers a.limited h)
    (sym entries) ended in
    record {
      ended = here;
      places = subst (λ (h : List Entry). SplitsAt (IsSplitBy w.half) p (reverse h)) (sym entries)
          places;
      is_true = law p (settings_for w p) a.journal.entries here.legal (omega (arith, ints));
      is = text
          ∙ ap (λ n. told_text w p a.journal.entries n v)
          (holds ∙ of_search held_of p (settings_for w p) a.journal.entries t same set entries)
          ∙ ap (told_text w p a.journal.entries
          (held_of p (settings_for w p) (reverse a.journal.entries)))
          (is ∙ of_search answer_of p (settings_for w p) a.journal.entries t same set entries);
    }
