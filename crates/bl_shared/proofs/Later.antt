-- A lease outlasts the entries of others, and so does what may be put for it.
use Rattle.std.proofs.Common.{◌≡◌, ℕ, ◌<◌, List, ◌∷◌, ◌++◌, length, ap, sym, ◌∙◌, subst, arith}
use Rattle.std.proofs.Common.{Some}
use Rattle.std.specs.Prelude.{reverse}
use Rattle.std.proofs.lemmas.List.{reverse-append}
use Rattle.bl_problem.specs.Program.{Program}
use Rattle.bl_journal.specs.declared.entry.Entry.{Entry}
use Rattle.bl_journal.specs.declared.outcome.Outcome.{Outcome}
use Rattle.bl_journal.specs.declared.outcome.Next.{Next}
use Rattle.bl_journal.specs.declared.outcome.Next.TheVariants.{Shut, Split}
use Rattle.bl_journal.specs.declared.settings.Settings.{Settings}
use Rattle.bl_journal.specs.Births.{Node, nodes_of, node_at}
use Rattle.bl_journal.specs.Descriptions.{full_of}
use Rattle.bl_journal.specs.States.{state_of, cutoff_of}
use Rattle.bl_journal.specs.Legality.{seat_of, IsLegalPast, MayPut}
use Rattle.bl_journal.proofs.Growth.{node_at-more, reverse-push, length-nodes_more}
use Rattle.bl_journal.proofs.Leaves.{shape, out_born}
use Rattle.bl_tree.specs.Views.{TreeView, LeaseView, past_of, extended, put_entry, step_of}
use Rattle.bl_tree.specs.Views.{IsLegalTree, IsLeaseOf, IsPutFor, PiecesStored}
use Rattle.bl_tree.specs.Answers.{IsBorn}
use Rattle.bl_turn.specs.Entries.{NoneBy}
use Rattle.bl_tree.specs.Jobs.{later}
use Rattle.bl_journal.proofs.Others.{others_back, out_stays, full-more, may_put_later}
use Rattle.bl_journal.proofs.Others.{pieces_later, PiecesAfter, legal_past}

pub steps_later : (t : TreeView) (others : List Entry) → IsLegalTree (later t others)
    → IsLegalPast t.problem t.settings (reverse others ++ past_of t)
steps_later t others legal = subst (IsLegalPast t.problem t.settings)
    (reverse-append t.history others) legal.steps

-- a lease outlasts the entries of others
pub lease_later : (t : TreeView) (others : List Entry) (seat : ℕ) (lease : LeaseView)
    → IsLegalTree (later t others) → NoneBy seat_of seat others → IsLeaseOf t seat lease
    → IsLeaseOf (later t others) seat lease
lease_later t others seat lease legal none l =
    let p : Program = t.problem in
    let past : List Entry = past_of t in
    let more : List Entry = reverse others in
    let turned : past_of (later t others) ≡ more ++ past = reverse-append t.history others in
    let steps : IsLegalPast p t.settings (more ++ past) = steps_later t others legal in
    let stays = out_stays p t.settings more past lease.id seat steps
    (others_back seat others none) l.is_out in
    let born : lease.id < length (nodes_of p past) =
    out_born p past lease.id seat
    (shape p t.settings past (legal_past p t.settings more past steps)) l.is_out in
    let node : node_at p (past_of (later t others)) lease.id ≡ node_at p past lease.id =
    ap (λ h. node_at p h lease.id) turned ∙ node_at-more p more past lease.id born in
    record {
      is_out = ap (λ h. state_of h lease.id) turned ∙ stays.is_out;
      depth = l.depth ∙ sym (ap (λ (n : Node). n.depth) node);
      low = l.low ∙ sym (ap (λ (n : Node). n.low) node);
      cutoff = l.cutoff ∙ sym (ap (λ h. cutoff_of p t.settings h lease.id) turned ∙ stays.cutoff);
      chain = l.chain
          ∙ ap Some (sym (ap (λ h. full_of p h lease.id) turned
          ∙ full-more p more past lease.id born));
    }

pieces_as : (t : TreeView) (next : Next) → PiecesStored t next
    → PiecesAfter t.problem t.settings (past_of t) next
pieces_as t Shut x = x
pieces_as t (Split common column at left right) x = x

pieces_from : (t : TreeView) (next : Next) → PiecesAfter t.problem t.settings (past_of t) next
    → PiecesStored t next
pieces_from t Shut x = x
pieces_from t (Split common column at left right) x = x

-- what may be put for a lease may be put after the entries of others
pub put_later : (t : TreeView) (others : List Entry) (seat : ℕ) (lease : LeaseView)
    (outcome : Outcome) → IsLegalTree (later t others) → NoneBy seat_of seat others
    → IsPutFor t seat lease outcome → IsPutFor (later t others) seat lease outcome
put_later t others seat lease outcome legal none may =
    let p : Program = t.problem in
    let s : Settings = t.settings in
    let past : List Entry = past_of t in
    let more : List Entry = reverse others in
    let e : Entry = put_entry seat lease.id outcome in
    let turned : past_of (later t others) ≡ more ++ past = reverse-append t.history others in
    let steps : IsLegalPast p s (more ++ past) = steps_later t others legal in
    let before : IsLegalPast p s past = legal_past p s more past steps in
    let now : MayPut p s (more ++ past) seat lease.id outcome.found outcome.low
    (step_of outcome.next) =
    may_put_later p s more past seat lease.id outcome.found outcome.low (step_of outcome.next)
    before steps (others_back seat others none) may.allowed in
    let pushed : past_of (extended t e) ≡ e ∷ past = reverse-push t.history e in
    let pushed_later : past_of (extended (later t others) e) ≡ e ∷ more ++ past =
    reverse-push (t.history ++ others) e ∙ ap (λ h. e ∷ h) turned in
    let pieces : PiecesAfter p s (e ∷ past) outcome.next =
    subst (λ h. PiecesAfter p s h outcome.next) pushed
    (pieces_as (extended t e) outcome.next may.pieces) in
    let pieces_now : PiecesAfter p s (e ∷ more ++ past) outcome.next =
    pieces_later p s more past seat lease.id outcome.found outcome.low outcome.next before steps
    may.allowed now pieces in
    record {
      leased = lease_later t others seat lease legal none may.leased;
      allowed =
          subst (λ h. MayPut p s h seat lease.id outcome.found outcome.low (step_of outcome.next))
          (sym turned) now;
      pieces = pieces_from (extended (later t others) e) outcome.next
          (subst (λ h. PiecesAfter p s h outcome.next) (sym pushed_later) pieces_now);
    }

-- a node that is born stays so
pub born_later : (t : TreeView) (entries : List Entry) (id : ℕ) → IsBorn t id
    → IsBorn (later t entries) id
born_later t entries id born =
    let longer = length-nodes_more t.problem (reverse entries) (past_of t) in
    let b : id < length (nodes_of t.problem (past_of t)) = born in
    let now : id < length (nodes_of t.problem (reverse entries ++ past_of t)) =
    omega (arith, longer, b) in
    subst (λ h. id < length (nodes_of t.problem h)) (sym (reverse-append t.history entries)) now
