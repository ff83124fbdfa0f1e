-- What turns do to what a seat knows.
use Rattle.std.proofs.Common.{◌≡◌, ◌≢◌, ℕ, ◌<◌, List, [], ◌++◌, length, refl, ap, sym, ◌∙◌, subst}
use Rattle.std.proofs.Common.{arith, Bool, true, false, cond, Some, None, inl, inr, All}
use Rattle.std.proofs.Common.{append_assoc, append-nil, Ok, Err}
use Rattle.std.specs.Prelude.{◌==◌, reverse, OnErr}
use Rattle.std.proofs.lemmas.Bool.{true≢false, eqb-true, cond-true, eq-eqb}
use Rattle.std.proofs.lemmas.List.{reverse-append}
use Rattle.std.specs.declared.result.Result.{Result}
use Rattle.bl_problem.specs.Program.{Program}
use Rattle.bl_desc.specs.declared.desc.Form.{Form}
use Rattle.bl_desc.specs.declared.desc.Form.TheVariants.{Explicit, Relative}
use Rattle.bl_journal.specs.declared.entry.Entry.{Entry}
use Rattle.bl_journal.specs.declared.entry.Entry.TheVariants.{Take, Put, Back, Encode, Free}
use Rattle.bl_journal.specs.Births.{nodes_of}
use Rattle.bl_journal.specs.States.{state_of, form_of, encoded_form, is_spanned}
use Rattle.bl_journal.specs.Pieces.{is_freed}
use Rattle.bl_journal.specs.Legality.{seat_of}
use Rattle.bl_journal.specs.Tidying.{splits, takes, IsUpkeepBy, IsSettled, WasSettled}
use Rattle.bl_journal.proofs.Growth.{reverse-push, length-nodes_more}
use Rattle.bl_journal.proofs.Living.{Each, Each-append, Each-weaken}
use Rattle.bl_journal.proofs.Workable.{Each-from_all, All-from_each}
use Rattle.bl_journal.proofs.Ties.{is_freed-is}
use Rattle.bl_journal.proofs.Upkeep.{upkeep_splits, settled_before, others_split, others_take}
use Rattle.bl_tree.specs.declared.answer.Born.{Born}
use Rattle.bl_tree.specs.declared.answer.Freed.{Freed}
use Rattle.bl_tree.specs.declared.answer.Freed.TheVariants.{Chain, Nothing}
use Rattle.bl_tree.specs.declared.plan.Planned.{Planned}
use Rattle.bl_tree.specs.declared.plan.Planned.TheVariants.{Chain as PlannedChain}
use Rattle.bl_tree.specs.declared.plan.Planned.TheVariants.{Gone as PlannedGone}
use Rattle.bl_tree.specs.declared.plan.Planned.TheVariants.{Same as PlannedSame}
use Rattle.bl_tree.specs.declared.plan.Planned.TheVariants.{Fixed as PlannedFixed}
use Rattle.bl_tree.specs.declared.plan.Installed.{Installed}
use Rattle.bl_tree.specs.declared.plan.Installed.TheVariants.{Made, Same, Gone}
use Rattle.bl_tree.specs.declared.answer.Encoding.{Encoding}
use Rattle.bl_tree.specs.declared.answer.Encoding.TheVariants.{Open, Gone as EncodingGone}
use Rattle.bl_tree.specs.declared.answer.Encoding.TheVariants.{Same as EncodingSame}
use Rattle.bl_tree.specs.declared.answer.Encoding.TheVariants.{Fixed as EncodingFixed}
use Rattle.bl_tree.specs.Jobs.{PlanView, JobView}
use Rattle.bl_tree.specs.Views.{TreeView, past_of, extended}
use Rattle.bl_tree.specs.Answers.{IsBorn, encoding_for, encoding_from, installed_for}
use Rattle.bl_tree.specs.Answers.{installed_from}
use Rattle.bl_tree.specs.Calls.{installed, Installs, IsPlanFor}
use Rattle.bl_turn.specs.Entries.{NoneBy}
use Rattle.bl_shared.specs.Calls.{Knows, tree_at, tree_seen, turned, IsCall, LooksIn, PlansIn}
use Rattle.bl_shared.specs.Calls.{InstallsIn, FreesIn, entries_of_install, entries_of_free}
use Rattle.bl_journal.proofs.Others.{All-reverse}
use Rattle.bl_worker.specs.Loops.{GoesOnBy, IsQuiet, IsKeptUp, IsStoredWhole, HasTidied}

-- a turn is a step of the history
pub call_goes : (v w : Knows) (others added : List Entry) → w ≡ turned v others added
    → GoesOnBy v (others ++ added) added w
call_goes v w others added is = is ∙ ap (λ s. record v { seen = s; mine = v.mine ++ added })
    (append_assoc v.seen others added)

pub goes_then : (v w x : Knows) (es own fs more : List Entry) → GoesOnBy v es own w
    → GoesOnBy w fs more x → GoesOnBy v (es ++ fs) (own ++ more) x
goes_then v w x es own fs more g h =
    h ∙ (ap (λ (u : Knows). record u { seen = u.seen ++ fs; mine = u.mine ++ more }) g
    ∙ (ap (λ s. record v { seen = s; mine = (v.mine ++ own) ++ more }) (append_assoc v.seen es fs)
    ∙ ap (λ m. record v { seen = v.seen ++ (es ++ fs); mine = m }) (append_assoc v.mine own more)))

pub goes_none : (v : Knows) → GoesOnBy v [] [] v
goes_none v =
    sym (ap (λ s. record v { seen = s; mine = v.mine ++ [] }) (append-nil v.seen)
    ∙ ap (λ m. record v { mine = m }) (append-nil v.mine))

-- the tree that is seen afterwards
pub goes_past : (v w : Knows) (es own : List Entry) → GoesOnBy v es own w → past_of (tree_seen w)
    ≡ reverse es ++ past_of (tree_seen v)
goes_past v w es own g = ap (λ (u : Knows). past_of (tree_seen u)) g ∙ reverse-append v.seen es

-- the entries of others are quiet, and so is the upkeep of the seat
quiet_others : (seat : ℕ) (others : List Entry) → NoneBy seat_of seat others
    → Each (IsQuiet seat) others
quiet_others seat others none = Each-weaken (λ e. seat_of e ≢ seat) (IsQuiet seat)
    (λ e other same. absurd (other same)) others (Each-from_all (λ e. seat_of e ≢ seat) others none)

pub kept_up_none : (v : Knows) → IsKeptUp v v
kept_up_none v =
    record {
      entries = [];
      own = [];
      goes = goes_none v;
      quiet = All-from_each (IsQuiet v.number) [] tt;
      upkeep = All-from_each (IsUpkeepBy v.number) [] tt;
    }

-- a turn whose entries are upkeep
pub kept_up_by : (v w : Knows) (added : List Entry) (call : TreeView → TreeView → Type 0)
    → IsCall v added call w → Each (IsUpkeepBy v.number) added → IsKeptUp v w
kept_up_by v w added call c up =
    record {
      entries = c.others ++ added;
      own = added;
      goes = call_goes v w c.others added c.is;
      quiet = All-from_each (IsQuiet v.number) (c.others ++ added)
          (Each-append (IsQuiet v.number) c.others added
          (quiet_others v.number c.others c.none_own)
          (Each-weaken (IsUpkeepBy v.number) (IsQuiet v.number) (λ e u same. u) added up));
      upkeep = All-from_each (IsUpkeepBy v.number) added up;
    }

number_is : (v w : Knows) (es own : List Entry) → GoesOnBy v es own w → w.number ≡ v.number
number_is v w es own g = ap (λ (u : Knows). u.number) g

pub kept_up_then : (v w x : Knows) → IsKeptUp v w → IsKeptUp w x → IsKeptUp v x
kept_up_then v w x k l =
    let same = number_is v w k.entries k.own k.goes in
    record {
      entries = k.entries ++ l.entries;
      own = k.own ++ l.own;
      goes = goes_then v w x k.entries k.own l.entries l.own k.goes l.goes;
      quiet = All-from_each (IsQuiet v.number) (k.entries ++ l.entries)
          (Each-append (IsQuiet v.number) k.entries l.entries (Each-from_all (IsQuiet v.number)
          k.entries k.quiet) (Each-from_all (IsQuiet v.number) l.entries
          (subst (λ n. All (IsQuiet n) l.entries) same l.quiet)));
      upkeep = All-from_each (IsUpkeepBy v.number) (k.own ++ l.own)
          (Each-append (IsUpkeepBy v.number) k.own l.own (Each-from_all (IsUpkeepBy v.number)
          k.own k.upkeep) (Each-from_all (IsUpkeepBy v.number) l.own
          (subst (λ n. All (IsUpkeepBy n) l.own) same l.upkeep)));
    }

pub looks_kept : (v w : Knows) → LooksIn v w → IsKeptUp v w
looks_kept v w c = kept_up_by v w [] _ c tt

pub still_born : (v w : Knows) (id : ℕ) → IsKeptUp v w → IsBorn (tree_seen v) id
    → IsBorn (tree_seen w) id
still_born v w id k born =
    let p : Program = (tree_seen v).problem in
    let past : List Entry = past_of (tree_seen v) in
    let longer = length-nodes_more p (reverse k.entries) past in
    let now : id < length (nodes_of p (reverse k.entries ++ past)) = omega (arith, longer, born) in
    subst (λ (u : Knows). IsBorn (tree_seen u) id) (sym k.goes)
    (subst (λ h. id < length (nodes_of p h)) (sym (reverse-append v.seen k.entries)) now)

install_upkeep : (seat : ℕ) (job : JobView) (answer : Installed)
    → Each (IsUpkeepBy seat) (entries_of_install seat job answer)
install_upkeep seat job Made = (refl, tt)
install_upkeep seat job Same = tt
install_upkeep seat job Gone = tt

pub install_kept : (v w : Knows) (job : JobView) (answer : Installed) → InstallsIn v job answer w
    → IsKeptUp v w
install_kept v w job answer c = kept_up_by v w _ _ c (install_upkeep v.number job answer)

pub plan_kept : (v w : Knows) (id : ℕ) (form : Form) (planned : Planned)
    → PlansIn v id form planned w → IsKeptUp v w
plan_kept v w id form planned c = kept_up_by v w [] _ c tt

-- a plan of the whole node gives a job
pub plan_of : (v w : Knows) (id : ℕ) (plan : PlanView) → PlansIn v id Explicit (PlannedChain plan)
    w → IsPlanFor (tree_seen w) id Explicit plan
plan_of v w id plan c = subst (λ (t : TreeView). IsPlanFor t id Explicit plan) (sym c.called.0)
    c.called.1.1

-- where no plan of the whole node is made, the node is explicit or freed
whole_already : (t : TreeView) (id : ℕ) (e : Encoding) → encoding_for t id Explicit ≡ e
    → (e ≡ Open → ⊥) → IsSettled t.problem t.settings (past_of t) id
whole_already t id e is other = by_case (is_freed (state_of (past_of t) id))
    (form_of t.problem t.settings (past_of t) id) refl refl is
  where
    by_case : (b : Bool) (f : Form) → is_freed (state_of (past_of t) id) ≡ b
        → form_of t.problem t.settings (past_of t) id ≡ f
        → cond b EncodingGone (encoding_from t id f Explicit) ≡ e
        → IsSettled t.problem t.settings (past_of t) id
    by_case true f freed form is = inr (is_freed-is (state_of (past_of t) id) freed)
    by_case false Explicit freed form is = inl form
    by_case false Relative freed form is = absurd (other (sym is))

pub gone_already : (v w : Knows) (id : ℕ) → PlansIn v id Explicit PlannedGone w → IsStoredWhole id w
gone_already v w id c =
    let old : TreeView = tree_at v (v.seen ++ c.others) in
    subst (λ (t : TreeView). IsSettled t.problem t.settings (past_of t) id) (sym c.called.0)
    (whole_already old id EncodingGone c.called.1 (λ e. cc))

pub same_already : (v w : Knows) (id : ℕ) → PlansIn v id Explicit PlannedSame w → IsStoredWhole id w
same_already v w id c =
    let old : TreeView = tree_at v (v.seen ++ c.others) in
    subst (λ (t : TreeView). IsSettled t.problem t.settings (past_of t) id) (sym c.called.0)
    (whole_already old id EncodingSame c.called.1 (λ e. cc))

pub fixed_already : (v w : Knows) (id : ℕ) → PlansIn v id Explicit PlannedFixed w
    → IsStoredWhole id w
fixed_already v w id c =
    let old : TreeView = tree_at v (v.seen ++ c.others) in
    subst (λ (t : TreeView). IsSettled t.problem t.settings (past_of t) id) (sym c.called.0)
    (whole_already old id EncodingFixed c.called.1 (λ e. cc))

-- after a whole node is installed, the node is explicit or freed
settled_after : (old new : TreeView) (seat id : ℕ) (job : JobView) (answer : Installed) → job.id
    ≡ id → job.form ≡ Explicit → Installs old seat job answer new
    → IsSettled new.problem new.settings (past_of new) id
settled_after old new seat id job answer named whole r =
    by_case (is_freed (state_of (past_of old) id))
    (form_of old.problem old.settings (past_of old) id) refl refl
    (r.0 ∙ (ap (λ (k : ℕ). installed_for old k job.form) named ∙ ap (installed_for old id) whole))
  where
    same : (a : Installed) → answer ≡ a → installed old seat job a ≡ old
        → IsSettled old.problem old.settings (past_of old) id
        → IsSettled new.problem new.settings (past_of new) id
    same a is stays settled =
        subst (λ (t : TreeView). IsSettled t.problem t.settings (past_of t) id)
        (sym (r.1 ∙ (ap (installed old seat job) is ∙ stays))) settled

    encoded : (sp : Bool) (f : Form) → cond sp Explicit (cond (id == id) Explicit f) ≡ Explicit
    encoded true f = refl
    encoded false f = cond-true (id == id) Explicit f (eq-eqb id id refl)

    made : new ≡ extended old (Encode seat id Explicit)
        → IsSettled new.problem new.settings (past_of new) id
    made is =
        subst (λ (t : TreeView). IsSettled t.problem t.settings (past_of t) id) (sym is)
        (inl (ap (λ (h : List Entry). form_of old.problem old.settings h id)
        (reverse-push old.history (Encode seat id Explicit))
        ∙ encoded (is_spanned old.problem old.settings (past_of old) id)
        (encoded_form (past_of old) id)))

    by_case : (b : Bool) (f : Form) → is_freed (state_of (past_of old) id) ≡ b
        → form_of old.problem old.settings (past_of old) id ≡ f → answer
        ≡ cond b Gone (installed_from old id f Explicit)
        → IsSettled new.problem new.settings (past_of new) id
    by_case true f freed form is =
        same Gone is refl (inr (is_freed-is (state_of (past_of old) id) freed))
    by_case false Explicit freed form is = same Same is refl (inl form)
    by_case false Relative freed form is =
        made (r.1 ∙ (ap (installed old seat job) is
        ∙ (ap (λ (k : ℕ). extended old (Encode seat k job.form)) named
        ∙ ap (λ (f : Form). extended old (Encode seat id f)) whole)))

pub install_stores : (v w : Knows) (id : ℕ) (job : JobView) (answer : Installed) → job.id ≡ id
    → job.form ≡ Explicit → InstallsIn v job answer w → IsStoredWhole id w
install_stores v w id job answer named whole c =
    settled_after (tree_at v (v.seen ++ c.others)) (tree_seen w) v.number id job answer named
    whole c.called

-- quiet entries are no takes of the seat, and none of its puts that split
pub quiet_splits : (seat : ℕ) (e : Entry) → IsQuiet seat e → splits seat e ≡ false
quiet_splits seat e q = by_seat (seat_of e == seat) refl
  where
    by_seat : (b : Bool) → (seat_of e == seat) ≡ b → splits seat e ≡ false
    by_seat true t = upkeep_splits seat e (q (eqb-true (seat_of e) seat t))
    by_seat false f = others_split seat e
        (λ same. true≢false (sym (eq-eqb (seat_of e) seat same) ∙ f))

own_takes : (seat : ℕ) (e : Entry) → IsUpkeepBy seat e → takes seat e ≡ false
own_takes seat (Encode other id form) u = refl
own_takes seat (Free other ids) u = refl
own_takes seat (Take other id) u = absurd u
own_takes seat (Put other id found low next) u = absurd u
own_takes seat (Back other id) u = absurd u

quiet_takes : (seat : ℕ) (e : Entry) → IsQuiet seat e → takes seat e ≡ false
quiet_takes seat e q = by_seat (seat_of e == seat) refl
  where
    by_seat : (b : Bool) → (seat_of e == seat) ≡ b → takes seat e ≡ false
    by_seat true t = own_takes seat e (q (eqb-true (seat_of e) seat t))
    by_seat false f = others_take seat e
        (λ same. true≢false (sym (eq-eqb (seat_of e) seat same) ∙ f))

pub quiet_back : (v w : Knows) (k : IsKeptUp v w) → Each (IsQuiet v.number) (reverse k.entries)
quiet_back v w k = Each-from_all (IsQuiet v.number) (reverse k.entries)
    (All-reverse (IsQuiet v.number) k.entries k.quiet)

-- a node that is settled now was settled in time
settled_now : (v w : Knows) (id : ℕ) (k : IsKeptUp v w) → IsStoredWhole id w
    → WasSettled (tree_seen v).problem (tree_seen v).settings v.number (reverse k.entries)
    (past_of (tree_seen v)) id
settled_now v w id k is =
    record {
      rest = [];
      soon = reverse k.entries;
      parts = refl;
      no_take = All-from_each (λ e. takes v.number e ≡ false) (reverse k.entries)
          (Each-weaken (IsQuiet v.number) (λ e. takes v.number e ≡ false) (quiet_takes v.number)
          (reverse k.entries) (quiet_back v w k));
      settled = subst (λ h. IsSettled (tree_seen v).problem (tree_seen v).settings h id)
          (reverse-append v.seen k.entries) (subst (λ (u : Knows). IsStoredWhole id u) k.goes is);
    }

-- what was settled in time stays so under more upkeep
settled_on : (v w x : Knows) (id : ℕ) (k : IsKeptUp v w) (l : IsKeptUp w x)
    → WasSettled (tree_seen v).problem (tree_seen v).settings v.number (reverse k.entries)
    (past_of (tree_seen v)) id
    → WasSettled (tree_seen v).problem (tree_seen v).settings v.number
    (reverse (k.entries ++ l.entries)) (past_of (tree_seen v)) id
settled_on v w x id k l was =
    subst (λ es. WasSettled (tree_seen v).problem (tree_seen v).settings v.number es
    (past_of (tree_seen v)) id) (sym (reverse-append k.entries l.entries))
    (settled_before (tree_seen v).problem (tree_seen v).settings v.number (reverse l.entries)
    (reverse k.entries) (past_of (tree_seen v)) id was)

pub tidied_shut : (v w : Knows) (count : ℕ) → IsKeptUp v w → HasTidied v None count w
tidied_shut v w count k = record { kept_up = k; left = tt; right = tt }

pub tidied_between : (v w : Knows) (born : Born) (count : ℕ) → (count ≡ 0 → ⊥) → IsKeptUp v w
    → HasTidied v (Some born) count w
tidied_between v w born count other k =
    record { kept_up = k; left = λ e. absurd (other e); right = λ e. absurd (other e) }

pub tidied_fourth : (v a b w : Knows) (born : Born) (count : ℕ) → IsKeptUp v a
    → IsStoredWhole born.left a → IsKeptUp a b → IsStoredWhole born.right b → IsKeptUp b w
    → HasTidied v (Some born) count w
unfolding kept_up_then
tidied_fourth v a b w born count k left l right m =
    let kl : IsKeptUp v b = kept_up_then v a b k l in
    record {
      kept_up = kept_up_then v b w kl m;
      left = λ e. settled_on v b w born.left kl m
          (settled_on v a b born.left k l (settled_now v a born.left k left));
      right = λ e. settled_on v b w born.right kl m (settled_now v b born.right kl right);
    }

free_upkeep : (seat : ℕ) (answer : Freed) → Each (IsUpkeepBy seat) (entries_of_free seat answer)
free_upkeep seat (Chain ids) = (refl, tt)
free_upkeep seat Nothing = tt

pub frees_kept : (v w : Knows) (answer : Freed) → FreesIn v answer w → IsKeptUp v w
frees_kept v w answer c = kept_up_by v w _ _ c (free_upkeep v.number answer)

pub on_err : {T E : Type 0} (A : Type 0) (r : Result T E) → A → OnErr r A
on_err A (Ok x) a = tt
on_err A (Err e) a = a
