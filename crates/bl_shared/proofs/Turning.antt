-- A turn at the lock is a call of the tree at its place.
use Rattle.std.proofs.Common.{◌≡◌, ℕ, List, [], ◌∷◌, ◌++◌, ap, sym, ◌∙◌, subst, Some, append-nil}
use Rattle.std.proofs.Common.{Bool, true, false, cond, length}
use Rattle.std.specs.Prelude.{Option, ◌==◌, nat_lt}
use Rattle.std.proofs.lemmas.Bool.{eq-eqb, cond-true}
use Rattle.bl_journal.specs.declared.entry.Entry.{Entry}
use Rattle.bl_journal.specs.Legality.{seat_of}
use Rattle.bl_journal.specs.declared.outcome.Outcome.{Outcome}
use Rattle.bl_tree.specs.Views.{TreeView, LeaseView, IsLegalTree, IsLeaseOf, IsPutFor}
use Rattle.bl_tree.specs.Answers.{IsBorn}
use Rattle.bl_tree.specs.Jobs.{later, JobView, IsJobOf, JobsStay}
use Rattle.bl_shared.proofs.Later.{lease_later, put_later, born_later}
use Rattle.bl_turn.specs.Entries.{entries_by}
use Rattle.bl_turn.specs.Views.{committed_view, looked_view, joined_view, GoesOn}
use Rattle.bl_turn.proofs.EntryLemmas.{entries_by-append}
use Rattle.bl_shared.specs.declared.locked.TreeBase.{TreeBase}
use Rattle.bl_shared.specs.Calls.{Knows, base_of_tree, base_in, tree_at, tree_seen, turned}
use Rattle.bl_shared.specs.Calls.{HasSeen, IsCall}

-- a tree with the seat's base is the tree at its history
tree_is : (v : Knows) (t : TreeView) → v.base ≡ Some (base_of_tree t) → tree_at v t.history ≡ t
tree_is v t base =
    ap (λ (o : Option TreeBase). record {
      problem = (base_in o).problem;
      settings =
          (base_in o).settings;
      history = t.history;
    }) base

-- a turn that added no entry
pub looks_at : (v w : Knows) (history : List Entry) (old new : TreeView)
    (call : TreeView → TreeView → Type 0) → GoesOn seat_of v history → history ≡ old.history
    → v.base ≡ Some (base_of_tree old) → new ≡ old
    → w ≡ looked_view v history → call old new → IsLegalTree old → IsCall v [] call w × HasSeen w
looks_at v w history old new call on found base stays is called legal =
    let is' : w ≡ turned v on.others [] =
    is ∙ (ap (λ h. record v { seen = h }) (on.list ∙ sym (append-nil (v.seen ++ on.others)))
    ∙ ap (λ m. record v { seen = (v.seen ++ on.others) ++ []; mine = m })
    (sym (append-nil v.mine))) in
    let here : tree_at v (v.seen ++ on.others) ≡ old = ap (tree_at v) (sym on.list ∙ found)
    ∙ tree_is v old base in
    let now : tree_seen w ≡ old = ap tree_seen is ∙ (ap (tree_at v) found ∙ tree_is v old base) in (
      record {
        others = on.others;
        none_own = on.none_own;
        from_given = on.given;
        is = is';
        called = subst (λ t. call t (tree_seen w)) (sym here)
            (subst (call old) (stays ∙ sym now) called);
        legal = subst IsLegalTree (sym here) legal;
      },
      record {
        legal = subst IsLegalTree (sym now) legal;
        own = subst (λ (u : Knows). entries_by seat_of u.number u.seen ≡ u.mine) (sym is) on.own;
      },
    )

-- a turn that added an entry
pub commits_at : (v w : Knows) (history : List Entry) (e : Entry) (old new : TreeView)
    (call : TreeView → TreeView → Type 0) → GoesOn seat_of v history → history ≡ old.history
    → v.base ≡ Some (base_of_tree old)
    → new ≡ record {
      problem = old.problem;
      settings = old.settings;
      history = old.history ++ e
          ∷ [];
    } → seat_of e ≡ v.number
    → w ≡ committed_view v history e → call old new → IsLegalTree old → IsLegalTree new
    → IsCall v (e ∷ []) call w × HasSeen w
commits_at v w history e old new call on found base grown by is called legal_old legal_new =
    let is' : w ≡ turned v on.others (e ∷ []) =
    is ∙ ap (λ h. record v { seen = h ++ e ∷ []; mine = v.mine ++ e ∷ [] }) on.list in
    let here : tree_at v (v.seen ++ on.others) ≡ old = ap (tree_at v) (sym on.list ∙ found)
    ∙ tree_is v old base in
    let now : tree_seen w ≡ new =
    ap tree_seen is ∙ (ap (λ h. tree_at v (h ++ e ∷ [])) found
    ∙ (ap (λ (o : Option TreeBase). record {
      problem = (base_in o).problem;
      settings =
          (base_in o).settings;
      history = old.history ++ e ∷ [];
    }) base ∙ sym grown)) in
    let mine : entries_by seat_of v.number (e ∷ []) ≡ e ∷ [] =
    cond-true (seat_of e == v.number) (e ∷ []) [] (eq-eqb (seat_of e) v.number by) in (
      record {
        others = on.others;
        none_own = on.none_own;
        from_given = on.given;
        is = is';
        called = subst (λ t. call t (tree_seen w)) (sym here) (subst (call old) (sym now) called);
        legal = subst IsLegalTree (sym here) legal_old;
      },
      record {
        legal = subst IsLegalTree (sym now) legal_new;
        own = subst (λ (u : Knows). entries_by seat_of u.number u.seen ≡ u.mine) (sym is)
            (entries_by-append seat_of v.number history (e ∷ [])
            ∙ (ap (λ l. l ++ entries_by seat_of v.number (e ∷ [])) on.own
            ∙ ap (λ l. v.mine ++ l) mine));
      },
    )

-- the history that a turn found is the one that was seen, with the entries of others
found_is : (v : Knows) (history : List Entry) (t : TreeView) (on : GoesOn seat_of v history)
    → history ≡ t.history → v.base ≡ Some (base_of_tree t) → later (tree_seen v) on.others ≡ t
found_is v history t on found base = ap (tree_at v) (sym on.list ∙ found) ∙ tree_is v t base

-- a lease is still the seat's when its turn comes, and what may be put may be put then
pub lease_found : (v : Knows) (history : List Entry) (t : TreeView) (lease : LeaseView)
    → GoesOn seat_of v history → history ≡ t.history → v.base ≡ Some (base_of_tree t)
    → IsLegalTree t
    → IsLeaseOf (tree_seen v) v.number lease → IsLeaseOf t v.number lease
lease_found v history t lease on found base legal leased =
    let here = found_is v history t on found base in
    subst (λ u. IsLeaseOf u v.number lease) here
    (lease_later (tree_seen v) on.others v.number lease (subst IsLegalTree (sym here) legal)
    on.none_own leased)

pub put_found : (v : Knows) (history : List Entry) (t : TreeView) (lease : LeaseView)
    (outcome : Outcome) → GoesOn seat_of v history → history ≡ t.history → v.base
    ≡ Some (base_of_tree t) → IsLegalTree t
    → IsPutFor (tree_seen v) v.number lease outcome → IsPutFor t v.number lease outcome
put_found v history t lease outcome on found base legal may =
    let here = found_is v history t on found base in
    subst (λ u. IsPutFor u v.number lease outcome) here
    (put_later (tree_seen v) on.others v.number lease outcome
    (subst IsLegalTree (sym here) legal) on.none_own may)

pub born_found : (v : Knows) (history : List Entry) (t : TreeView) (id : ℕ)
    → GoesOn seat_of v history → history ≡ t.history → v.base ≡ Some (base_of_tree t)
    → IsBorn (tree_seen v) id → IsBorn t id
born_found v history t id on found base born =
    subst (λ u. IsBorn u id) (found_is v history t on found base)
    (born_later (tree_seen v) on.others id born)

-- a job stays one
pub job_found : (v : Knows) (history : List Entry) (t : TreeView) (job : JobView) → JobsStay
    → GoesOn seat_of v history → history ≡ t.history → v.base ≡ Some (base_of_tree t)
    → IsLegalTree (tree_seen v)
    → IsJobOf (tree_seen v) job → IsJobOf t job
job_found v history t job stay on found base legal j =
    subst (λ u. IsJobOf u job) (found_is v history t on found base)
    (stay (tree_seen v) on.others job legal j)

-- after a join the seat has seen what either has, which is legal
pub joined_seen : (v w x : Knows) → x ≡ joined_view v w → HasSeen v → HasSeen w → v.base ≡ w.base
    → entries_by seat_of x.number x.seen ≡ x.mine → HasSeen x
joined_seen v w x is a b base own =
    record {
      legal = subst (λ (u : Knows). IsLegalTree (tree_seen u)) (sym is)
          (by_length (nat_lt (length v.seen) (length w.seen)));
      own = own;
    }
  where
    here : IsLegalTree (tree_at v w.seen)
    here = subst (λ (o : Option TreeBase). IsLegalTree
        (record {
          problem = (base_in o).problem;
          settings = (base_in o).settings;
          history =
              w.seen;
        })) (sym base) b.legal

    by_length : (c : Bool) → IsLegalTree (tree_at v (cond c w.seen v.seen))
    by_length true = here
    by_length false = a.legal
