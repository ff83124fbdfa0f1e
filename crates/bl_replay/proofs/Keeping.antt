-- The kept leases after an entry.
use Rattle.std.proofs.Common.{◌≡◌, ℕ, ◌<◌, List, [], ◌∷◌, length, refl, ap, sym, ◌∙◌, subst}
use Rattle.std.proofs.Common.{Option, Some, None, cond, inl, inr, ◌⊎◌}
use Rattle.std.specs.Prelude.{ℤ, reverse, ◌==◌}
use Rattle.std.specs.Ordering.{nat_cmp, is_eq}
use Rattle.std.specs.Cmp.{unsigned_tied}
use Rattle.std.specs.BTreeMap.{BTreeMap, get, Updates}
use Rattle.std.proofs.lemmas.Bool.{cases_eq, ne_eqb, eq-eqb, cond-false, cond-true}
use Rattle.bl_problem.specs.Program.{Program}
use Rattle.bl_mods.specs.Mods.{is_among}
use Rattle.bl_desc.specs.declared.desc.Form.{Form}
use Rattle.bl_journal.specs.declared.entry.Entry.{Entry}
use Rattle.bl_journal.specs.declared.entry.Entry.TheVariants.{Take, Put, Back, Encode, Free}
use Rattle.bl_journal.specs.declared.entry.Step.{Step}
use Rattle.bl_journal.specs.declared.entry.Step.TheVariants.{Shut, Split}
use Rattle.bl_journal.specs.Births.{Node, nodes_of, node_at}
use Rattle.bl_journal.specs.Descriptions.{full_along}
use Rattle.bl_journal.specs.States.{state_of, put_state, cutoff_of, cutoff_for}
use Rattle.bl_journal.specs.declared.state.State.{State}
use Rattle.bl_journal.specs.declared.state.State.TheVariants.{Waiting as waiting, Out as out}
use Rattle.bl_journal.specs.declared.state.State.TheVariants.{Freed as freed}
use Rattle.bl_journal.proofs.Growth.{node_at-more, reverse-push}
use Rattle.bl_journal.proofs.Leaves.{by_test, shape, out_born, state_kept}
use Rattle.bl_journal.specs.declared.outcome.Outcome.{Outcome}
use Rattle.bl_journal.specs.Replies.{gives, take_reply}
use Rattle.bl_tree.specs.Calls.{IsTaken}
use Rattle.bl_tree.specs.Views.{TreeView, past_of, extended, LeaseView, IsLegalTree, IsLeaseOf}
use Rattle.bl_tree.specs.Views.{put_entry, step_of}
use Rattle.bl_replay.specs.Leases.{IsLeaseAt, HasLeases}

-- a lease stays one under an entry that leaves its node out, and is no take of it
lease_stays : (t : TreeView) (e : Entry) (seat : ℕ) (lease : LeaseView) → IsLegalTree t
    → IsLeaseOf t seat lease → state_of (e ∷ past_of t) lease.id ≡ out seat
    → cutoff_of t.problem t.settings (e ∷ past_of t) lease.id
    ≡ cutoff_of t.problem t.settings (past_of t) lease.id → IsLeaseOf (extended t e) seat lease
lease_stays t e seat lease legal l is_out same =
    let p : Program = t.problem in
    let past : List Entry = past_of t in
    let turned : past_of (extended t e) ≡ e ∷ past = reverse-push t.history e in
    let born : lease.id < length (nodes_of p past) =
    out_born p past lease.id seat (shape p t.settings past legal.steps) l.is_out in
    let node : node_at p (past_of (extended t e)) lease.id ≡ node_at p past lease.id =
    ap (λ h. node_at p h lease.id) turned ∙ node_at-more p (e ∷ []) past lease.id born in
    record {
      is_out = ap (λ h. state_of h lease.id) turned ∙ is_out;
      depth = l.depth ∙ sym (ap (λ (n : Node). n.depth) node);
      low = l.low ∙ sym (ap (λ (n : Node). n.low) node);
      cutoff = l.cutoff ∙ sym (ap (λ h. cutoff_of p t.settings h lease.id) turned ∙ same);
      chain = l.chain ∙ ap Some (sym (ap (λ (n : Node). full_along p n.path) node));
    }

-- the same of what is kept of a node
kept_stays : (t : TreeView) (e : Entry) (seat id : ℕ) (lease : Option LeaseView) → IsLegalTree t
    → IsLeaseAt t seat id lease → state_of (e ∷ past_of t) id ≡ out seat
    → cutoff_of t.problem t.settings (e ∷ past_of t) id
    ≡ cutoff_of t.problem t.settings (past_of t) id → IsLeaseAt (extended t e) seat id lease
kept_stays t e seat id None legal l is_out same = absurd l
kept_stays t e seat id (Some lease) legal l is_out same =
    let s : IsLeaseOf (extended t e) seat lease =
    lease_stays t e seat lease legal l.1 (ap (state_of (e ∷ past_of t)) l.0 ∙ is_out)
    (ap (cutoff_of t.problem t.settings (e ∷ past_of t)) l.0 ∙ same
    ∙ ap (cutoff_of t.problem t.settings (past_of t)) (sym l.0)) in
    (l.0, s)

-- the node was out and is, was not taken, and what is kept of it is what was
pub record IsUntouched (t : TreeView) (e : Entry) (old new : BTreeMap ℕ LeaseView) (id seat : ℕ) :
    Type 0 where
  pub was_out : state_of (past_of t) id ≡ out seat
  pub cutoff : cutoff_of t.problem t.settings (e ∷ past_of t) id
      ≡ cutoff_of t.problem t.settings (past_of t) id
  pub kept : get nat_cmp new id ≡ get nat_cmp old id

untouched_stays : (t : TreeView) (e : Entry) (old new : BTreeMap ℕ LeaseView) (id seat : ℕ)
    → IsLegalTree t → HasLeases t old → state_of (e ∷ past_of t) id ≡ out seat
    → IsUntouched t e old new id seat → IsLeaseAt (extended t e) seat id (get nat_cmp new id)
untouched_stays t e old new id seat legal has is_out u =
    subst (λ (o : Option LeaseView). IsLeaseAt (extended t e) seat id o) (sym u.kept)
    (kept_stays t e seat id (get nat_cmp old id) legal (has id seat u.was_out) is_out u.cutoff)

-- each node that is out is untouched, or its lease was kept just now
leases_after : (t : TreeView) (e : Entry) (old new : BTreeMap ℕ LeaseView) → IsLegalTree t
    → HasLeases t old
    → ((id seat : ℕ) → state_of (e ∷ past_of t) id ≡ out seat → IsUntouched t e old new id seat
    ⊎ IsLeaseAt (extended t e) seat id (get nat_cmp new id)) → HasLeases (extended t e) new
leases_after t e old new legal has each = λ id seat o.
    let turned : past_of (extended t e) ≡ e ∷ past_of t = reverse-push t.history e in
    let is_out : state_of (e ∷ past_of t) id ≡ out seat = sym (ap (λ h. state_of h id) turned)
    ∙ o in
    elim (each id seat is_out) [
      | inl u ↦ untouched_stays t e old new id seat legal has is_out u
      | inr l ↦ l
    ]

same_seat : (a b : ℕ) → out a ≡ out b → a ≡ b
same_seat a b e = cc

not_put : (step : Step) (seat : ℕ) → put_state step ≡ out seat → ⊥
not_put Shut seat e = cc
not_put (Split common column at) seat e = cc

other_key : (old new : BTreeMap ℕ LeaseView) (i id : ℕ) (lease : Option LeaseView)
    → Updates nat_cmp old new i lease → (i ≡ id → ⊥) → get nat_cmp new id ≡ get nat_cmp old id
other_key old new i id lease u ne = u.0 id ∙ cond-false (is_eq (nat_cmp i id)) lease
    (get nat_cmp old id) (unsigned_tied i id ∙ ne_eqb i id ne)

same_key : (old new : BTreeMap ℕ LeaseView) (i : ℕ) (lease : Option LeaseView)
    → Updates nat_cmp old new i lease → get nat_cmp new i ≡ lease
same_key old new i lease u = u.1

-- after a take whose lease is kept
pub leases_take : (t : TreeView) (seat i : ℕ) (old new : BTreeMap ℕ LeaseView) (lease : LeaseView)
    → IsLegalTree t → HasLeases t old → Updates nat_cmp old new i (Some lease) → lease.id ≡ i
    → IsLeaseOf (extended t (Take seat i)) seat lease → HasLeases (extended t (Take seat i)) new
leases_take t seat i old new lease legal has u same l =
    leases_after t (Take seat i) old new legal has
    (λ id other o. by_number id other o (cases_eq i id))
  where
    by_number : (id other : ℕ) → state_of (Take seat i ∷ past_of t) id ≡ out other → (i ≡ id)
        ⊎ (i ≡ id → ⊥)
        → IsUntouched t (Take seat i) old new id other
        ⊎ IsLeaseAt (extended t (Take seat i)) other id (get nat_cmp new id)
    by_number id other o (inl e) =
        let now : state_of (Take seat i ∷ past_of t) id ≡ out seat =
        cond-true (i == id) (out seat) (state_of (past_of t) id) (eq-eqb i id e) in
        let s : seat ≡ other = same_seat seat other (sym now ∙ o) in
        let here : IsLeaseAt (extended t (Take seat i)) seat i (Some lease) = (same, l) in
        inr (subst (λ (k : ℕ). IsLeaseAt (extended t (Take seat i)) other k (get nat_cmp new k)) e
        (subst (λ (k : ℕ). IsLeaseAt (extended t (Take seat i)) k i (get nat_cmp new i)) s
        (subst (λ (x : Option LeaseView). IsLeaseAt (extended t (Take seat i)) seat i x)
        (sym (same_key old new i (Some lease) u)) here)))
    by_number id other o (inr ne) =
        inl (record {
          was_out = sym (state_kept id i (state_of (past_of t) id) (out seat) ne) ∙ o;
          cutoff = cond-false (i == id) (cutoff_for t.problem t.settings (past_of t))
              (cutoff_of t.problem t.settings (past_of t) id) (ne_eqb i id ne);
          kept = other_key old new i id (Some lease) u ne;
        })

-- after a put of a node whose lease is gone
pub leases_put : (t : TreeView) (seat i : ℕ) (found : Option (List ℤ)) (low : ℤ) (step : Step)
    (old new : BTreeMap ℕ LeaseView) → IsLegalTree t → HasLeases t old
    → Updates nat_cmp old new i None
    → HasLeases (extended t (Put seat i found low step)) new
leases_put t seat i found low step old new legal has u =
    leases_after t (Put seat i found low step) old new legal has
    (λ id other o. by_number id other o (cases_eq i id))
  where
    by_number : (id other : ℕ) → state_of (Put seat i found low step ∷ past_of t) id ≡ out other
        → (i ≡ id) ⊎ (i ≡ id → ⊥)
        → IsUntouched t (Put seat i found low step) old new id other
        ⊎ IsLeaseAt (extended t (Put seat i found low step)) other id (get nat_cmp new id)
    by_number id other o (inl e) =
        let now : state_of (Put seat i found low step ∷ past_of t) id ≡ put_state step =
        cond-true (i == id) (put_state step) (state_of (past_of t) id) (eq-eqb i id e) in
        absurd (not_put step other (sym now ∙ o))
    by_number id other o (inr ne) =
        inl (record {
          was_out = sym (state_kept id i (state_of (past_of t) id) (put_state step) ne) ∙ o;
          cutoff = refl;
          kept = other_key old new i id None u ne;
        })

not_waiting : (seat : ℕ) → waiting ≡ out seat → ⊥
not_waiting seat e = cc

-- after a back of a node whose lease is gone
pub leases_back : (t : TreeView) (seat i : ℕ) (old new : BTreeMap ℕ LeaseView) → IsLegalTree t
    → HasLeases t old → Updates nat_cmp old new i None → HasLeases (extended t (Back seat i)) new
leases_back t seat i old new legal has u =
    leases_after t (Back seat i) old new legal has
    (λ id other o. by_number id other o (cases_eq i id))
  where
    by_number : (id other : ℕ) → state_of (Back seat i ∷ past_of t) id ≡ out other → (i ≡ id)
        ⊎ (i ≡ id → ⊥)
        → IsUntouched t (Back seat i) old new id other
        ⊎ IsLeaseAt (extended t (Back seat i)) other id (get nat_cmp new id)
    by_number id other o (inl e) =
        let now : state_of (Back seat i ∷ past_of t) id ≡ waiting =
        cond-true (i == id) waiting (state_of (past_of t) id) (eq-eqb i id e) in
        absurd (not_waiting other (sym now ∙ o))
    by_number id other o (inr ne) =
        inl (record {
          was_out = sym (state_kept id i (state_of (past_of t) id) waiting ne) ∙ o;
          cutoff = refl;
          kept = other_key old new i id None u ne;
        })

-- after an encoding
pub leases_encode : (t : TreeView) (seat i : ℕ) (form : Form) (leases : BTreeMap ℕ LeaseView)
    → IsLegalTree t → HasLeases t leases → HasLeases (extended t (Encode seat i form)) leases
leases_encode t seat i form leases legal has =
    leases_after t (Encode seat i form) leases leases legal has
    (λ id other o. inl (record { was_out = o; cutoff = refl; kept = refl }))

not_freed : (seat : ℕ) → freed ≡ out seat → ⊥
not_freed seat e = cc

was_out : (id seat : ℕ) (ids : List ℕ) (s : State) → cond (is_among id ids) freed s ≡ out seat → s
    ≡ out seat
was_out id seat ids s =
    by_test (λ (k : State). k ≡ out seat → s ≡ out seat) (is_among id ids) freed s
    (λ _ e. absurd (not_freed seat e)) (λ _ e. e)

-- after a free
pub leases_free : (t : TreeView) (seat : ℕ) (ids : List ℕ) (leases : BTreeMap ℕ LeaseView)
    → IsLegalTree t → HasLeases t leases → HasLeases (extended t (Free seat ids)) leases
leases_free t seat ids leases legal has =
    leases_after t (Free seat ids) leases leases legal has
    (λ id other o. inl
    (record {
      was_out = was_out id other ids (state_of (past_of t) id) o;
      cutoff =
          refl;
      kept = refl;
    }))

-- the lease that is found for a node
pub lease_found : (t : TreeView) (seat id : ℕ) (o : Option LeaseView) (lease : LeaseView) → o
    ≡ Some lease → IsLeaseAt t seat id o → IsLeaseAt t seat id (Some lease)
lease_found t seat id o lease e l = subst (λ (x : Option LeaseView). IsLeaseAt t seat id x) e l

-- a node that is out has a lease
pub lease_there : (t : TreeView) (seat id : ℕ) (o : Option LeaseView) → o ≡ None
    → IsLeaseAt t seat id o → ⊥
lease_there t seat id o e l = subst (λ (x : Option LeaseView). IsLeaseAt t seat id x) e l

pub same_lease : (a b : LeaseView) → Some a ≡ Some b → a ≡ b
same_lease a b e = cc

pub same_node : (a b : ℕ) → gives a ≡ gives b → a ≡ b
same_node a b e = cc

-- where no node was taken no lease is needed
pub none_needed : (t : TreeView) (leases : BTreeMap ℕ LeaseView) → t.history ≡ []
    → HasLeases t leases
none_needed t leases e =
    λ id seat o. absurd (not_waiting seat
    (sym (ap (λ (h : List Entry). state_of (reverse h) id) e) ∙ o))

-- the entry of a put
pub put_same : (seat old id : ℕ) (outcome : Outcome) (found : Option (List ℤ)) (low : ℤ)
    (step : Step) → old ≡ id → outcome.found ≡ found → outcome.low ≡ low → step_of outcome.next
    ≡ step
    → put_entry seat old outcome ≡ Put seat id found low step
put_same seat old id outcome found low step a b c d =
    ap (λ (i : ℕ). put_entry seat i outcome) a
    ∙ ap (λ (f : Option (List ℤ)). Put seat id f outcome.low (step_of outcome.next)) b
    ∙ ap (λ (l : ℤ). Put seat id found l (step_of outcome.next)) c ∙ ap (Put seat id found low) d

-- a node is taken again, and its lease is kept
pub taken_again : (t new : TreeView) (seat i : ℕ) (old leases : BTreeMap ℕ LeaseView)
    (lease : LeaseView) → IsLegalTree t → HasLeases t old
    → take_reply t.problem t.settings (past_of t) ≡ gives i
    → IsTaken t seat lease new → Updates nat_cmp old leases i (Some lease) → HasLeases new leases
taken_again t new seat i old leases lease legal has allowed taken u =
    let same : lease.id ≡ i = same_node lease.id i (sym taken.reply ∙ allowed) in
    let entered : new ≡ extended t (Take seat i) =
    taken.entry ∙ ap (λ (k : ℕ). extended t (Take seat k)) same in
    subst (λ (v : TreeView). HasLeases v leases) (sym entered)
    (leases_take t seat i old leases lease legal has u same
    (subst (λ (v : TreeView). IsLeaseOf v seat lease) entered taken.leased))

-- the outcome of a node is put in again, and its lease goes
pub put_again : (t new : TreeView) (seat i : ℕ) (found : Option (List ℤ)) (low : ℤ) (step : Step)
    (old leases : BTreeMap ℕ LeaseView) → IsLegalTree t → HasLeases t old → new
    ≡ extended t (Put seat i found low step)
    → Updates nat_cmp old leases i None → HasLeases new leases
put_again t new seat i found low step old leases legal has entered u =
    subst (λ (v : TreeView). HasLeases v leases) (sym entered)
    (leases_put t seat i found low step old leases legal has u)
