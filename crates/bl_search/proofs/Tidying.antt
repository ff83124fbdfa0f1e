-- What encodings and freeings by seat 0 do to a tree.
use Rattle.std.proofs.Common.{◌≡◌, ℕ, ◌-◌, ◌%◌, ◌<◌, List, [], ◌∷◌, ◌++◌, length, refl, ap, sym}
use Rattle.std.proofs.Common.{◌∙◌, subst, arith, Bool, true, false, cond, Some, None, inl, inr}
use Rattle.std.proofs.Common.{All, append_assoc}
use Rattle.std.specs.Prelude.{reverse, ◌==◌}
use Rattle.std.proofs.lemmas.Bool.{eq-eqb, cond-true}
use Rattle.std.proofs.lemmas.List.{length-reverse, get_or-reverse}
use Rattle.bl_problem.specs.Program.{Program}
use Rattle.bl_desc.specs.declared.desc.Form.{Form}
use Rattle.bl_desc.specs.declared.desc.Form.TheVariants.{Explicit, Relative}
use Rattle.bl_journal.specs.declared.entry.Entry.{Entry}
use Rattle.bl_journal.specs.declared.entry.Entry.TheVariants.{Encode}
use Rattle.bl_journal.specs.declared.settings.Settings.{Settings}
use Rattle.bl_journal.specs.Births.{Node, nodes_of}
use Rattle.bl_journal.specs.States.{state_of, form_of, encoded_form, is_spanned}
use Rattle.bl_journal.specs.Pieces.{is_freed}
use Rattle.bl_journal.specs.Tidying.{IsUpkeepBy, IsSettled, WasSettled}
use Rattle.bl_journal.proofs.Living.{Each, Each-append}
use Rattle.bl_journal.proofs.Workable.{Each-from_all, All-from_each}
use Rattle.bl_journal.proofs.Ties.{is_freed-is}
use Rattle.bl_journal.proofs.Upkeep.{untouched, settled_before, settled_by}
use Rattle.bl_tree.specs.declared.answer.Born.{Born}
use Rattle.bl_tree.specs.declared.answer.Encoding.{Encoding}
use Rattle.bl_tree.specs.declared.answer.Encoding.TheVariants.{Open, Same, Fixed, Gone}
use Rattle.bl_tree.specs.declared.plan.Installed.{Installed}
use Rattle.bl_tree.specs.declared.plan.Installed.TheVariants.{Same as InstalledSame}
use Rattle.bl_tree.specs.declared.plan.Installed.TheVariants.{Gone as InstalledGone}
use Rattle.bl_tree.specs.Views.{TreeView, past_of, extended}
use Rattle.bl_tree.specs.Answers.{IsBorn, encoding_for, encoding_from, installed_for}
use Rattle.bl_tree.specs.Answers.{installed_from}
use Rattle.bl_tree.specs.Calls.{installed, Installs}
use Rattle.bl_tree.specs.Jobs.{JobView}
use Rattle.bl_journal.proofs.Growth.{reverse-push}
use Rattle.bl_search.specs.Searches.{IsKeptUp, IsStoredWhole, AreStoredWhole, IsFreed, HasTidied}

-- each element of a list is one of the list turned around
pub All-reverse : {X : Type 0} (P : X → Type 0) (xs : List X) → All P xs → All P (reverse xs)
All-reverse P xs a i d h =
    let short : i < length xs = subst (λ (n : ℕ). i < n) (length-reverse xs) h in
    subst P (sym (get_or-reverse xs i d short)) (a (length xs - 1 - i) d (omega (arith, short)))

pub each_upkeep : (old new : TreeView) (k : IsKeptUp old new) → Each (IsUpkeepBy 0) k.entries
each_upkeep old new k = Each-from_all (IsUpkeepBy 0) k.entries k.upkeep

-- what holds after the entries holds of the tree, and the reverse
pub at_new : (P : Program → Settings → List Entry → Type 0) (old new : TreeView)
    (k : IsKeptUp old new) → P old.problem old.settings (k.entries ++ past_of old)
    → P new.problem new.settings (past_of new)
at_new P old new k x =
    subst (λ (q : Program). P q new.settings (past_of new)) (sym k.problem)
    (subst (λ (s : Settings). P old.problem s (past_of new)) (sym k.settings)
    (subst (λ (h : List Entry). P old.problem old.settings h) (sym k.past) x))

at_old : (P : Program → Settings → List Entry → Type 0) (old new : TreeView)
    (k : IsKeptUp old new) → P new.problem new.settings (past_of new)
    → P old.problem old.settings (k.entries ++ past_of old)
at_old P old new k x =
    subst (λ (h : List Entry). P old.problem old.settings h) k.past
    (subst (λ (s : Settings). P old.problem s (past_of new)) k.settings
    (subst (λ (q : Program). P q new.settings (past_of new)) k.problem x))

pub kept_up_none : (t : TreeView) → IsKeptUp t t
kept_up_none t = record {
  problem = refl;
  settings = refl;
  entries = [];
  past = refl;
  upkeep =
      All-from_each (IsUpkeepBy 0) [] tt;
}

pub kept_up_once : (old new : TreeView) (e : Entry) → new ≡ extended old e → IsUpkeepBy 0 e
    → IsKeptUp old new
kept_up_once old new e is u =
    subst (λ (t : TreeView). IsKeptUp old t) (sym is)
    (record {
      problem = refl;
      settings = refl;
      entries = e ∷ [];
      past =
          reverse-push old.history e;
      upkeep = All-from_each (IsUpkeepBy 0) (e ∷ []) (u, tt);
    })

pub kept_up_then : (a b c : TreeView) → IsKeptUp a b → IsKeptUp b c → IsKeptUp a c
kept_up_then a b c k l =
    record {
      problem = l.problem ∙ k.problem;
      settings = l.settings ∙ k.settings;
      entries = l.entries ++ k.entries;
      past = l.past ∙ (ap (λ h. l.entries ++ h) k.past
          ∙ sym (append_assoc l.entries k.entries (past_of a)));
      upkeep = All-from_each (IsUpkeepBy 0) (l.entries ++ k.entries)
          (Each-append (IsUpkeepBy 0) l.entries k.entries (each_upkeep b c l) (each_upkeep a b k));
    }

pub still_born : (old new : TreeView) (id : ℕ) → IsKeptUp old new → IsBorn old id → IsBorn new id
still_born old new id k born =
    at_new (λ q s h. id < length (nodes_of q h)) old new k
    (subst (λ (nodes : List Node). id < length nodes)
    (sym (untouched old.problem 0 (past_of old) k.entries (each_upkeep old new k)).nodes) born)

-- a node that is settled now was settled in time
settled_now : (old new : TreeView) (id : ℕ) (k : IsKeptUp old new)
    → IsSettled new.problem new.settings (past_of new) id
    → WasSettled old.problem old.settings 0 k.entries (past_of old) id
settled_now old new id k is =
    settled_by old.problem old.settings 0 k.entries (past_of old) id (each_upkeep old new k)
    (at_old (λ q s h. IsSettled q s h id) old new k is)

-- a node that need not or cannot be stored whole is explicit or freed
pub whole_already : (t : TreeView) (id : ℕ) (e : Encoding) → encoding_for t id Explicit ≡ e
    → (e ≡ Open → ⊥) → IsStoredWhole t id t
whole_already t id e is other = by_case (is_freed (state_of (past_of t) id))
    (form_of t.problem t.settings (past_of t) id) refl refl is
  where
    by_case : (b : Bool) (f : Form) → is_freed (state_of (past_of t) id) ≡ b
        → form_of t.problem t.settings (past_of t) id ≡ f
        → cond b Gone (encoding_from t id f Explicit) ≡ e → IsStoredWhole t id t
    by_case true f freed form is = record {
      kept_up = kept_up_none t;
      settled =
          inr (is_freed-is (state_of (past_of t) id) freed);
    }
    by_case false Explicit freed form is = record { kept_up = kept_up_none t; settled = inl form }
    by_case false Relative freed form is = absurd (other (sym is))

-- after a whole node is installed, the node is explicit or freed
pub stored_whole : (old new : TreeView) (id : ℕ) (job : JobView) (answer : Installed) → job.id
    ≡ id → job.form ≡ Explicit → Installs old 0 job answer new → IsStoredWhole old id new
stored_whole old new id job answer named whole r =
    by_case (is_freed (state_of (past_of old) id))
    (form_of old.problem old.settings (past_of old) id) refl refl
    (r.0 ∙ (ap (λ (k : ℕ). installed_for old k job.form) named ∙ ap (installed_for old id) whole))
  where
    same : (a : Installed) → answer ≡ a → installed old 0 job a ≡ old
        → IsSettled old.problem old.settings (past_of old) id → IsStoredWhole old id new
    same a is stays settled =
        subst (λ (t : TreeView). IsStoredWhole old id t)
        (sym (r.1 ∙ (ap (installed old 0 job) is ∙ stays)))
        (record { kept_up = kept_up_none old; settled = settled })

    encoded : (sp : Bool) (f : Form) → cond sp Explicit (cond (id == id) Explicit f) ≡ Explicit
    encoded true f = refl
    encoded false f = cond-true (id == id) Explicit f (eq-eqb id id refl)

    made : new ≡ extended old (Encode 0 id Explicit) → IsStoredWhole old id new
    made is =
        let k : IsKeptUp old new = kept_up_once old new (Encode 0 id Explicit) is refl in
        record {
          kept_up = k;
          settled = subst (λ (t : TreeView). IsSettled t.problem t.settings (past_of t) id) (sym is)
              (inl (ap (λ (h : List Entry). form_of old.problem old.settings h id)
              (reverse-push old.history (Encode 0 id Explicit))
              ∙ encoded (is_spanned old.problem old.settings (past_of old) id)
              (encoded_form (past_of old) id)));
        }

    by_case : (b : Bool) (f : Form) → is_freed (state_of (past_of old) id) ≡ b
        → form_of old.problem old.settings (past_of old) id ≡ f → answer
        ≡ cond b InstalledGone (installed_from old id f Explicit) → IsStoredWhole old id new
    by_case true f freed form is =
        same InstalledGone is refl (inr (is_freed-is (state_of (past_of old) id) freed))
    by_case false Explicit freed form is = same InstalledSame is refl (inl form)
    by_case false Relative freed form is =
        made (r.1 ∙ (ap (installed old 0 job) is
        ∙ (ap (λ (k : ℕ). extended old (Encode 0 k job.form)) named
        ∙ ap (λ (f : Form). extended old (Encode 0 id f)) whole)))

pub both_stored : (old mid new : TreeView) (born : Born) → IsStoredWhole old born.left mid
    → IsStoredWhole mid born.right new → AreStoredWhole old born new
unfolding kept_up_then
both_stored old mid new born a b =
    let k : IsKeptUp old new = kept_up_then old mid new a.kept_up b.kept_up in
    record {
      kept_up = k;
      left = settled_before old.problem old.settings 0 b.kept_up.entries a.kept_up.entries
          (past_of old) born.left (settled_now old mid born.left a.kept_up a.settled);
      right = settled_now old new born.right k b.settled;
    }

pub tidied_shut : (old new : TreeView) (count : ℕ) → IsFreed old new → HasTidied old None count new
tidied_shut old new count f = record {
  kept_up = f.kept_up;
  nothing_to_free =
      f.nothing_to_free;
  left = tt;
  right = tt;
}

pub tidied_between : (old new : TreeView) (born : Born) (count : ℕ) → (count % 4 ≡ 0 → ⊥)
    → IsFreed old new → HasTidied old (Some born) count new
tidied_between old new born count other f =
    record {
      kept_up = f.kept_up;
      nothing_to_free = f.nothing_to_free;
      left =
          λ e. absurd (other e);
      right = λ e. absurd (other e);
    }

pub tidied_fourth : (old mid new : TreeView) (born : Born) (count : ℕ)
    → AreStoredWhole old born mid → IsFreed mid new → HasTidied old (Some born) count new
unfolding kept_up_then
tidied_fourth old mid new born count a f =
    record {
      kept_up = kept_up_then old mid new a.kept_up f.kept_up;
      nothing_to_free = f.nothing_to_free;
      left = λ e. settled_before old.problem old.settings 0 f.kept_up.entries a.kept_up.entries
          (past_of old) born.left a.left;
      right = λ e. settled_before old.problem old.settings 0 f.kept_up.entries a.kept_up.entries
          (past_of old) born.right a.right;
    }
