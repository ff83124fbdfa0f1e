-- The description of a node that is out has a point, and cuts that suit the problem, hold and
-- have different ids.
use Rattle.std.proofs.Common.{◌≡◌, ℕ, zero, suc, ◌+◌, ◌≤◌, List, [], ◌∷◌, length, sym, subst}
use Rattle.std.proofs.Common.{arith, true, All}
use Rattle.std.proofs.lemmas.Bool.{and_parts}
use Rattle.bl_mods.specs.Mods.{kept_from, is_among}
use Rattle.bl_mods.proofs.Relisting.{Apart, Apart-from_pairs, Apart-kept, pairs_from_apart}
use Rattle.bl_problem.specs.Program.{Program}
use Rattle.bl_problem.specs.Cuts.{SuitsProblem}
use Rattle.bl_problem.specs.Cuts.{IsValidCut}
use Rattle.bl_problem.specs.declared.cut.Cut.{Cut}
use Rattle.bl_problem.specs.declared.decision.Decision.{Decision}
use Rattle.bl_journal.specs.declared.entry.Entry.{Entry}
use Rattle.bl_journal.specs.declared.limits.TheConstants.{MOST_CUTS}
use Rattle.bl_journal.specs.declared.settings.Settings.{Settings}
use Rattle.bl_journal.specs.Births.{Node, nodes_of, node_at, root_node, IsBorn}
use Rattle.bl_journal.specs.Descriptions.{full_of, full_along}
use Rattle.bl_journal.specs.States.{state_of, has_point, is_below, cutoff_for}
use Rattle.bl_journal.specs.declared.state.State.TheVariants.{Out as out}
use Rattle.bl_journal.specs.Legality.{IsLegalPast, SplitPut}
use Rattle.bl_journal.specs.Laws.{IsDescFor}
use Rattle.bl_journal.proofs.Growth.{get_or-grown}
use Rattle.bl_journal.proofs.Living.{Each, Each-append}
use Rattle.bl_journal.proofs.Leaves.{by_test}
use Rattle.bl_journal.proofs.Induction.{child_by, each_node, each_out}
use Rattle.bl_journal.proofs.Children.{child_list}
use Rattle.bl_journal.proofs.Lines.{full_whole, full_columns, full_rows}

pub record CutsFine (p : Program) (cuts : List Cut) : Type 0 where
  pub few : length cuts ≤ MOST_CUTS
  pub suit : Each (SuitsProblem p) cuts
  pub valid : Each (IsValidCut p) cuts
  pub apart : Apart (λ (c : Cut). c.id) cuts

pub Each-from_all : {X : Type 0} (P : X → Type 0) (xs : List X) → All P xs → Each P xs
Each-from_all P [] a = tt
Each-from_all P (x ∷ xs) a =
    (a 0 x (omega arith), Each-from_all P xs (λ i d h. a (suc i) d (omega (arith, h))))

pub All-from_each : {X : Type 0} (P : X → Type 0) (xs : List X) → Each P xs → All P xs
All-from_each P [] a i d h = absurd (omega (arith, h))
All-from_each P (x ∷ xs) a zero d h = a.0
All-from_each P (x ∷ xs) a (suc i) d h = All-from_each P xs a.1 i d (omega (arith, h))

pub Each-kept : {X : Type 0} (P : X → Type 0) (at : ℕ) (dropped : List ℕ) (xs : List X)
    → Each P xs → Each P (kept_from at dropped xs)
Each-kept P at dropped [] a = tt
Each-kept {X} P at dropped (x ∷ xs) a =
    let rest = Each-kept P (at + 1) dropped xs a.1 in
    by_test (λ (l : List X). Each P l) (is_among at dropped) (kept_from (at + 1) dropped xs)
    (x ∷ kept_from (at + 1) dropped xs) (λ _. rest) (λ _. (a.0, rest))

child_cuts : (p : Program) (s : Settings) (past : List Entry) (put : SplitPut p s past)
    (d : Decision)
    → CutsFine p (full_of p past put.id).cuts → CutsFine p (full_along p (child_by put d).path).cuts
child_cuts p s past put d f =
    let sw = put.may.sound.next_ok in
    let cuts : List Cut = (full_of p past put.id).cuts in
    let mods = put.common.cuts in
    subst (λ (l : List Cut). CutsFine p l) (sym (child_list p past put.id put.common d))
    (record {
      few = sw.common_fits.few_cuts;
      suit = Each-append (SuitsProblem p) _ _
          (Each-kept (SuitsProblem p) 0 mods.dropped cuts f.suit)
          (Each-from_all (SuitsProblem p) mods.added sw.cuts_suit);
      valid = Each-append (IsValidCut p) _ _
          (Each-kept (IsValidCut p) 0 mods.dropped cuts f.valid)
          (Each-from_all (IsValidCut p) mods.added sw.cuts_valid);
      apart = Apart-kept (λ (c : Cut). c.id) 0 mods.dropped cuts mods.added
          (Apart-from_pairs (λ (c : Cut). c.id) _ sw.common_fits.ids_differ);
    })

-- the cuts of each node hold, suit the problem and have different ids
pub cuts_fine : (p : Program) (s : Settings) (past : List Entry) → IsLegalPast p s past → (id : ℕ)
    → IsBorn p past id → CutsFine p (full_of p past id).cuts
cuts_fine p s past l id born =
    each_node p s (λ h k n. CutsFine p (full_along p n.path).cuts) (record {
      root = record { few = omega arith; suit = tt; valid = tt; apart = tt };
      kept = λ h e l a k b fine. fine;
      handed = λ h put b fine d k under. child_cuts p s h put d fine;
    }) past l id born

-- the description of each node is whole, has the problem's counts and few cuts of different ids
pub desc_for : (p : Program) (s : Settings) (past : List Entry) → IsLegalPast p s past → (id : ℕ)
    → IsBorn p past id → IsDescFor p (full_of p past id)
desc_for p s past l id born =
    let fine = cuts_fine p s past l id born in
    record {
      whole = full_whole p past id;
      columns = full_columns p past id;
      rows = full_rows p past id;
      few = fine.few;
      ids = pairs_from_apart (λ (c : Cut). c.id) (full_of p past id).cuts fine.apart;
    }

-- the box of a node that is out has a point
pub out_has_point : (p : Program) (s : Settings) (past : List Entry) → IsLegalPast p s past
    → (id seat : ℕ) → state_of past id ≡ out seat
    → has_point (full_of p past id).lows (full_of p past id).highs ≡ true
out_has_point p s =
    each_out p s (λ h k. has_point (full_of p h k).lows (full_of p h k).highs ≡ true)
    (λ h seat k given. (and_parts (has_point (full_of p h k).lows (full_of p h k).highs)
    (is_below (node_at p h k).low (cutoff_for p s h)) given.open_node).0)
    (λ h e k born some. subst (λ (n : Node). has_point (full_along p n.path).lows
    (full_along p n.path).highs ≡ true)
    (sym (get_or-grown p (nodes_of p h) e (root_node p) k born)) some)
