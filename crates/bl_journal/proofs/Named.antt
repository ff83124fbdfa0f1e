-- The ids of a node's cuts are among those that puts have added.
use Rattle.std.proofs.Common.{ℕ, List, [], ◌∷◌, ◌++◌, sym, subst, map}
use Rattle.std.specs.Prelude.{Contains}
use Rattle.std.proofs.lemmas.List.Elements.{All-contains_itself, Contains-append_left}
use Rattle.std.proofs.lemmas.List.Elements.{Contains-append_right}
use Rattle.bl_mods.specs.declared.mods.ItemId.{ItemId}
use Rattle.bl_problem.specs.Program.{Program}
use Rattle.bl_problem.specs.declared.cut.Cut.{Cut}
use Rattle.bl_journal.specs.declared.entry.Entry.{Entry}
use Rattle.bl_journal.specs.declared.settings.Settings.{Settings}
use Rattle.bl_journal.specs.Births.{IsBorn}
use Rattle.bl_journal.specs.Descriptions.{full_of, full_along}
use Rattle.bl_journal.specs.Legality.{IsLegalPast, added_by, ids_added}
use Rattle.bl_journal.proofs.Living.{Each, Each-append, Each-weaken}
use Rattle.bl_journal.proofs.Induction.{each_node}
use Rattle.bl_journal.proofs.Children.{child_list}
use Rattle.bl_journal.proofs.Workable.{Each-from_all, Each-kept}

Each-mapped : {X Y : Type 0} (P : Y → Type 0) (f : X → Y) (xs : List X) → Each P (map f xs)
    → Each (λ x. P (f x)) xs
Each-mapped P f [] a = tt
Each-mapped P f (x ∷ xs) a = (a.0, Each-mapped P f xs a.1)

-- its id is among those that were added
abbrev pub WasAdded : List Entry → Cut → Type 0
WasAdded past c = Contains (ids_added past) c.id

-- what was added before an entry was added after it
added_later : (past : List Entry) (e : Entry) (cuts : List Cut) → Each (WasAdded past) cuts
    → Each (WasAdded (e ∷ past)) cuts
added_later past e cuts = Each-weaken (WasAdded past) (WasAdded (e ∷ past))
    (λ c h. Contains-append_right (map (λ (k : Cut). k.id) (added_by e)) (ids_added past) c.id h)
    cuts

-- each cut of a node was added
pub named : (p : Program) (s : Settings) (past : List Entry) → IsLegalPast p s past → (id : ℕ)
    → IsBorn p past id → Each (WasAdded past) (full_of p past id).cuts
named p s past l id born =
    each_node p s (λ h k n. Each (WasAdded h) (full_along p n.path).cuts) (record {
      root = tt;
      kept = λ h e l a k b was. added_later h e _ was;
      handed = λ h put b was d k under.
          let new : List ItemId = map (λ (c : Cut). c.id) put.common.cuts.added in
          let here : ItemId → Type 0 = Contains (new ++ ids_added h) in
          let mine = Each-weaken (Contains new) here
          (λ x m. Contains-append_left new (ids_added h) x m) new
          (Each-from_all (Contains new) new (All-contains_itself new)) in
          let P : Cut → Type 0 = λ c. here c.id in
          subst (Each P) (sym (child_list p h put.id put.common d))
          (Each-append P _ _ (Each-kept P 0 put.common.cuts.dropped (full_of p h put.id).cuts
          (Each-weaken (WasAdded h) P (λ c m. Contains-append_right new (ids_added h) c.id m)
          (full_of p h put.id).cuts was))
          (Each-mapped here (λ (c : Cut). c.id) put.common.cuts.added mine));
    }) past l id born
