-- The serial numbers of the cuts that a seat adds.
use Rattle.std.proofs.Common.{◌≡◌, ◌≢◌, ℕ, ◌<◌, List, [], ◌∷◌, ◌++◌, map, refl, sym, ◌∙◌, subst}
use Rattle.std.proofs.Common.{arith, Bool, true, false, append-nil}
use Rattle.std.specs.Prelude.{◌==◌, reverse}
use Rattle.std.proofs.lemmas.Bool.{true≢false, eqb-true, eq-eqb}
use Rattle.std.proofs.lemmas.List.{reverse-append}
use Rattle.bl_mods.specs.declared.mods.ItemId.{ItemId}
use Rattle.bl_problem.specs.Program.{Program}
use Rattle.bl_problem.specs.declared.cut.Cut.{Cut}
use Rattle.bl_journal.specs.declared.entry.Entry.{Entry}
use Rattle.bl_journal.specs.declared.entry.Entry.TheVariants.{Take, Put, Back, Encode, Free}
use Rattle.bl_journal.specs.declared.settings.Settings.{Settings}
use Rattle.bl_journal.specs.Legality.{seat_of, ids_added, added_by, added_by_step, IsNewId}
use Rattle.bl_journal.specs.Legality.{IsAllowed, IsLegalPast}
use Rattle.bl_journal.specs.Tidying.{IsUpkeepBy}
use Rattle.bl_journal.proofs.Growth.{reverse-push}
use Rattle.bl_journal.proofs.Living.{Each, Each-append, Each-weaken, each_from}
use Rattle.bl_journal.proofs.Workable.{Each-from_all, All-from_each}
use Rattle.bl_tree.specs.Views.{TreeView, past_of, IsLegalTree}
use Rattle.bl_turn.specs.Entries.{NoneBy}
use Rattle.bl_turn.proofs.EntryLemmas.{NoneBy-nil}
use Rattle.bl_shared.specs.Calls.{Knows, HasSeen, tree_at, tree_seen, IsCall}
use Rattle.bl_journal.proofs.Others.{others_back}
use Rattle.bl_search.specs.Searches.{AreSerialsBelow}
use Rattle.bl_worker.specs.Loops.{GoesOnBy, IsQuiet, IsKeptUp, AreOwnSerialsBelow}
use Rattle.bl_worker.proofs.Steps.{call_goes, quiet_back}

-- an id of the seat has a serial number below this one
abbrev pub IsBelow : ℕ → ℕ → ItemId → Type 0
IsBelow seat serial id = id.seat ≡ seat → id.serial < serial

-- the ids of the cuts that an entry adds
abbrev pub ids_by : Entry → List ItemId
ids_by e = map (λ (c : Cut). c.id) (added_by e)

-- the cuts of another carry another seat
theirs : (p : Program) (s : Settings) (past : List Entry) (e : Entry) (seat serial : ℕ)
    → IsAllowed p s past e → seat_of e ≢ seat → Each (IsBelow seat serial) (ids_by e)
theirs p s past (Take t i) seat serial a other = tt
theirs p s past (Back t i) seat serial a other = tt
theirs p s past (Encode t i form) seat serial a other = tt
theirs p s past (Free t ids) seat serial a other = tt
theirs p s past (Put t i found low next) seat serial a other =
    each (added_by_step next) (Each-from_all (λ (c : Cut). IsNewId past t c.id)
    (added_by_step next) a.new_ids)
  where
    each : (cuts : List Cut) → Each (λ (c : Cut). IsNewId past t c.id) cuts
        → Each (IsBelow seat serial) (map (λ (c : Cut). c.id) cuts)
    each [] h = tt
    each (c ∷ cuts) h = ((λ same. absurd (other (sym h.0.0 ∙ same))), each cuts h.1)

-- upkeep adds no cut
upkeep_adds : (seat serial : ℕ) (e : Entry) → IsUpkeepBy seat e
    → Each (IsBelow seat serial) (ids_by e)
upkeep_adds seat serial (Encode t i form) u = tt
upkeep_adds seat serial (Free t ids) u = tt
upkeep_adds seat serial (Take t i) u = absurd u
upkeep_adds seat serial (Put t i found low next) u = absurd u
upkeep_adds seat serial (Back t i) u = absurd u

-- the seat's own entry adds cuts with numbers below this one
abbrev AddsBelow : ℕ → ℕ → Entry → Type 0
AddsBelow seat serial e = seat_of e ≡ seat → Each (IsBelow seat serial) (ids_by e)

serials_on : (p : Program) (s : Settings) (seat serial : ℕ) (more past : List Entry)
    → IsLegalPast p s (more ++ past) → Each (AddsBelow seat serial) more
    → AreSerialsBelow seat serial past → AreSerialsBelow seat serial (more ++ past)
serials_on p s seat serial more past l own h =
    each_from p s (AddsBelow seat serial) (AreSerialsBelow seat serial) past h step more own l
  where
    by_seat : (past : List Entry) (e : Entry) → IsAllowed p s past e → AddsBelow seat serial e
        → (b : Bool) → (seat_of e == seat) ≡ b → Each (IsBelow seat serial) (ids_by e)
    by_seat past e a adds true t = adds (eqb-true (seat_of e) seat t)
    by_seat past e a adds false f = theirs p s past e seat serial a
        (λ same. true≢false (sym (eq-eqb (seat_of e) seat same) ∙ f))

    step : (past : List Entry) (e : Entry) → IsLegalPast p s past → IsAllowed p s past e
        → AddsBelow seat serial e → AreSerialsBelow seat serial past
        → AreSerialsBelow seat serial (e ∷ past)
    step past e l a adds h =
        All-from_each (IsBelow seat serial) (ids_by e ++ ids_added past)
        (Each-append (IsBelow seat serial) (ids_by e) (ids_added past)
        (by_seat past e a adds (seat_of e == seat) refl)
        (Each-from_all (IsBelow seat serial) (ids_added past) h))

-- the history goes on, and each own entry adds cuts with numbers below this one
serials_go : (v w : Knows) (es own : List Entry) (serial : ℕ) → GoesOnBy v es own w
    → IsLegalTree (tree_seen w) → Each (AddsBelow v.number serial) (reverse es)
    → AreOwnSerialsBelow serial v → AreOwnSerialsBelow serial w
serials_go v w es own serial g legal adds h =
    let now : IsLegalTree (tree_seen (record v { seen = v.seen ++ es; mine = v.mine ++ own })) =
    subst (λ (u : Knows). IsLegalTree (tree_seen u)) g legal in
    let steps : IsLegalPast (tree_seen v).problem (tree_seen v).settings
    (reverse es ++ past_of (tree_seen v)) =
    subst (IsLegalPast (tree_seen v).problem (tree_seen v).settings)
    (reverse-append v.seen es) now.steps in
    subst (AreOwnSerialsBelow serial) (sym g)
    (subst (AreSerialsBelow v.number serial) (sym (reverse-append v.seen es))
    (serials_on (tree_seen v).problem (tree_seen v).settings v.number serial (reverse es)
    (past_of (tree_seen v)) steps adds h))

-- upkeep adds no cut
pub kept_serials : (v w : Knows) (serial : ℕ) → IsKeptUp v w → IsLegalTree (tree_seen w)
    → AreOwnSerialsBelow serial v → AreOwnSerialsBelow serial w
kept_serials v w serial k legal h =
    serials_go v w k.entries k.own serial k.goes legal
    (Each-weaken (IsQuiet v.number) (AddsBelow v.number serial)
    (λ e q same. upkeep_adds v.number serial e (q same)) (reverse k.entries)
    (quiet_back v w k)) h

-- a call whose one entry adds no cut
pub call_serials : (v w : Knows) (e : Entry) (call : TreeView → TreeView → Type 0) (serial : ℕ)
    → IsCall v (e ∷ []) call w → IsLegalTree (tree_seen w)
    → Each (IsBelow v.number serial) (ids_by e) → AreOwnSerialsBelow serial v
    → AreOwnSerialsBelow serial w
call_serials v w e call serial c legal none h =
    serials_go v w (c.others ++ e ∷ []) (e ∷ []) serial (call_goes v w c.others (e ∷ []) c.is) legal
    (subst (Each (AddsBelow v.number serial)) (sym (reverse-push c.others e)) (
      (λ same. none),
      Each-weaken (λ x. seat_of x ≢ v.number) (AddsBelow v.number serial)
          (λ x other same. absurd (other same)) (reverse c.others)
          (others_back v.number c.others c.none_own),
    )) h

-- entries of others add none of the seat's cuts
pub found_serials : (v : Knows) (others : List Entry) (serial : ℕ)
    → NoneBy seat_of v.number others → IsLegalTree (tree_at v (v.seen ++ others))
    → AreOwnSerialsBelow serial v
    → AreSerialsBelow v.number serial (past_of (tree_at v (v.seen ++ others)))
found_serials v others serial none legal h =
    subst (AreSerialsBelow v.number serial) (sym (reverse-append v.seen others))
    (serials_on (tree_seen v).problem (tree_seen v).settings v.number serial (reverse others)
    (past_of (tree_seen v)) (subst (IsLegalPast (tree_seen v).problem (tree_seen v).settings)
    (reverse-append v.seen others) legal.steps)
    (Each-weaken (λ x. seat_of x ≢ v.number) (AddsBelow v.number serial)
    (λ x other same. absurd (other same)) (reverse others) (others_back v.number others none))
    h)

-- a seat with no entry has added no cut
pub no_serials : (v : Knows) → HasSeen v → v.mine ≡ [] → AreOwnSerialsBelow 0 v
no_serials v h none =
    let all : Each (λ e. seat_of e ≢ v.number) (past_of (tree_seen v)) =
    others_back v.number v.seen (NoneBy-nil seat_of v.number v.seen (h.own ∙ none)) in
    let same : past_of (tree_seen v) ++ [] ≡ past_of (tree_seen v) =
    append-nil (past_of (tree_seen v)) in
    subst (AreSerialsBelow v.number 0) same
    (serials_on (tree_seen v).problem (tree_seen v).settings v.number 0 (past_of (tree_seen v)) []
    (subst (IsLegalPast (tree_seen v).problem (tree_seen v).settings) (sym same) h.legal.steps)
    (Each-weaken (λ e. seat_of e ≢ v.number) (AddsBelow v.number 0)
    (λ e other same. absurd (other same)) (past_of (tree_seen v)) all)
    (λ i d l. absurd (omega (arith, l))))
