-- The account that the lock's table keeps of a seat, and what each call makes of it.
use Rattle.std.specs.Prelude.{ℕ, ◌+◌, Bool, true, false, if◌then◌else◌, List, [], ◌∷◌, length}
use Rattle.std.specs.Prelude.{Some, None}
use Rattle.bl_turn.specs.declared.view.Stage.{Stage}
use Rattle.bl_turn.specs.declared.view.Stage.TheVariants.{Away, In, Shown, Spent}
use Rattle.bl_turn.specs.declared.view.Account.{Account}
use Rattle.bl_turn.specs.Entries.{entries_by}
use Rattle.bl_turn.specs.Views.{first_view, new_view, split_view, joined_view}

abbrev pub is_over : Stage → Bool
is_over Away = false
is_over In = false
is_over Shown = false
is_over Spent = true

abbrev pub HasTurn : Stage → Type 0
HasTurn Away = ⊥
HasTurn In = Unit {0}
HasTurn Shown = Unit {0}
HasTurn Spent = ⊥

module _ {E B : Type 0} where
  -- the account of a seat that was joined into seat 0, of which nothing more is asked
  abbrev pub spent_account : Account E B
  spent_account =
      record {
        stage = Spent;
        view = record {
          number = 0;
          base = None;
          seen = [];
          mine =
              [];
          given = 0;
          ended = [];
        };
        first = 0;
        found = [];
        before = [];
        met = [];
        met_base = None;
      }

  abbrev pub is_spent : Account E B → Bool
  is_spent a = is_over a.stage

  -- how many of the seats were joined
  abbrev pub count_spent : List (Account E B) → ℕ
  count_spent [] = 0
  count_spent (a ∷ others) = (if is_spent a then 1 else 0) + count_spent others

  -- seat 0, where the lock is made
  abbrev pub first_account : (E → ℕ) → List E → B → Account E B
  first_account by list base = record {
    stage = Away;
    view = first_view by list base;
    first =
        length list;
    found = [];
    before = [];
    met = [];
    met_base = Some base;
  }

  -- a turn began, and found this history
  abbrev pub after_enter : Account E B → List E → Account E B
  after_enter a history = record a { stage = In; found = history }

  -- in its turn the seat has shown a value that stands for this list
  abbrev pub after_show : (E → ℕ) → Account E B → List E → Account E B
  after_show by a list = record a {
    stage = Shown;
    view =
        record a.view { seen = list; mine = entries_by by a.view.number list };
  }

  -- its turn ended
  abbrev pub after_leave : Account E B → Account E B
  after_leave a = record a { stage = Away }

  -- seat 0 after a split, and the new seat
  abbrev pub after_split : Account E B → Account E B
  after_split a = record a { view = split_view a.view }

  abbrev pub new_account : (E → ℕ) → Account E B → Account E B
  new_account by a = record {
    stage = Away;
    view = new_view by a.view;
    first = a.first;
    found =
        [];
    before = [];
    met = [];
    met_base = a.view.base;
  }

  -- seat 0 after a join
  abbrev pub after_join : Account E B → Account E B → Account E B
  after_join a b = record a {
    view = joined_view a.view b.view;
    before = a.view.seen;
    met =
        b.view.seen;
    met_base = b.view.base;
  }
