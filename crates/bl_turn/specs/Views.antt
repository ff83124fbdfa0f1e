-- The view of a seat: what it knows of the history.
use Rattle.std.specs.Prelude.{◌≡◌, ℕ, ◌+◌, List, [], ◌∷◌, ◌++◌, Some}
use Rattle.bl_turn.specs.declared.view.View.{View}
use Rattle.bl_turn.specs.Entries.{entries_by, longer_of, NoneBy, FromOneTo}

module _ {E B : Type 0} where
  -- the view of seat 0, where the lock is made round a value with this list and this base
  abbrev pub first_view : (E → ℕ) → List E → B → View E B
  first_view by list base = record {
    number = 0;
    base = Some base;
    seen = list;
    mine =
        entries_by by 0 list;
    given = 0;
    ended = [];
  }

  -- the view of the seat that a split of seat 0 gives: the next number, and all that seat 0 has
  -- seen
  abbrev pub new_view : (E → ℕ) → View E B → View E B
  new_view by v = record {
    number = v.given + 1;
    base = v.base;
    seen = v.seen;
    mine =
        entries_by by (v.given + 1) v.seen;
    given = 0;
    ended = [];
  }

  -- the view of seat 0 after a split
  abbrev pub split_view : View E B → View E B
  split_view v = record v { given = v.given + 1 }

  -- the view of seat 0 after a join with a seat of the second view
  abbrev pub joined_view : View E B → View E B → View E B
  joined_view v w = record v {
    seen = longer_of v.seen w.seen;
    ended =
        v.ended ++ (w.number, w.mine) ∷ [];
  }

  -- the view after a turn that found this history: the seat committed the entry e, or looked
  abbrev pub committed_view : View E B → List E → E → View E B
  committed_view v history e = record v { seen = history ++ e ∷ []; mine = v.mine ++ e ∷ [] }

  abbrev pub looked_view : View E B → List E → View E B
  looked_view v history = record v { seen = history }

  module _ (by : E → ℕ) where
    -- The history goes on from what a seat has seen, by entries of others. The entries of its
    -- own number, in what it has seen and in the history, are `mine`. To seat 0 the others are
    -- seats that it gave.
    pub record GoesOn (v : View E B) (history : List E) : Type 0 where
      pub others : List E
      pub list : history ≡ v.seen ++ others
      pub own_seen : entries_by by v.number v.seen ≡ v.mine
      pub own : entries_by by v.number history ≡ v.mine
      pub none_own : NoneBy by v.number others
      pub given : v.number ≡ 0 → FromOneTo by v.given others
