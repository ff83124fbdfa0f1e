-- A child's description is its parent's with the common change applied and then the split's one
-- bound set.
use Rattle.std.proofs.Common.{◌≡◌, ℕ, ◌+◌, ◌<◌, ◌≤◌, List, [], ◌∷◌, ◌++◌, get_or, refl, ap, sym}
use Rattle.std.proofs.Common.{◌∙◌, subst, arith, append-nil, append_assoc, true}
use Rattle.std.specs.Prelude.{ℤ, pos, ◌<ℤ◌, slice_set, slice_index_or, nat_le}
use Rattle.std.specs.Int.{int_max, int_min}
use Rattle.std.proofs.lemmas.Int.{ints, clamps}
use Rattle.std.proofs.lemmas.Bool.{and_parts, leb-true}
use Rattle.std.proofs.lemmas.List.{get_or-set_other}
use Rattle.bl_mods.specs.declared.mods.Mod.{Mod}
use Rattle.bl_mods.specs.Mods.{written, relisted}
use Rattle.bl_mods.specs.Rising.{is_rising_from, places}
use Rattle.bl_problem.specs.Program.{Program}
use Rattle.bl_problem.specs.Points.{own_lows, own_highs}
use Rattle.bl_problem.specs.Decisions.{Box, narrowed_all, narrowed_at, raised, lowered}
use Rattle.bl_problem.specs.declared.decision.Decision.{Decision}
use Rattle.bl_problem.specs.declared.decision.Side.{Side}
use Rattle.bl_problem.specs.declared.decision.Side.TheVariants.{AtLeast, AtMost}
use Rattle.bl_problem.specs.declared.cut.Cut.{Cut}
use Rattle.bl_desc.specs.declared.desc.Desc.{Desc}
use Rattle.bl_desc.specs.declared.change.Change.{Change}
use Rattle.bl_desc.specs.Changes.{changed}
use Rattle.bl_journal.specs.Soundness.{Tightens, IsCommonFor, bounds_of, decisions_of}
use Rattle.bl_journal.specs.declared.entry.Entry.{Entry}
use Rattle.bl_journal.specs.Births.{Branch, node_at}
use Rattle.bl_journal.specs.Descriptions.{root_desc, full_of, decisions_along, box_along}
use Rattle.bl_journal.specs.Descriptions.{changed_along, full_along}

pub decisions_along-append : (a b : List Branch) → decisions_along (a ++ b) ≡ decisions_along a
    ++ decisions_along b
decisions_along-append [] b = refl
decisions_along-append (branch ∷ a) b =
    ap (λ ds. (decisions_of branch.common ++ branch.decision ∷ []) ++ ds)
    (decisions_along-append a b)
    ∙ sym (append_assoc (decisions_of branch.common ++ branch.decision ∷ []) (decisions_along a)
    (decisions_along b))

pub narrowed_all-append : (b : Box) (xs ys : List Decision) → narrowed_all b (xs ++ ys)
    ≡ narrowed_all (narrowed_all b xs) ys
narrowed_all-append b [] ys = refl
narrowed_all-append b (d ∷ xs) ys = narrowed_all-append (narrowed_at d.side b d.column d.value) xs
    ys

pub Tightens-set : (R : ℤ → ℤ → Type 0) (mods : List (Mod ℤ)) (list : List ℤ) (j : ℕ) (v : ℤ)
    (least : ℕ) → j < least → is_rising_from least (places mods) ≡ true
    → Tightens R mods list → Tightens R mods (slice_set list j v)
Tightens-set R [] list j v least h rise t = tt
Tightens-set R (m ∷ mods) list j v least h rise t =
    let parts = and_parts (nat_le least m.place) (is_rising_from (m.place + 1) (places mods)) rise
    in
    let above : least ≤ m.place = leb-true least m.place parts.0 in
    let same : get_or (slice_set list j v) m.place (pos 0) ≡ get_or list m.place (pos 0) =
    get_or-set_other list j m.place v (pos 0) (λ e. omega (arith, e, above, h)) in (
      subst (λ (z : ℤ). R z m.entry) (sym same) t.0,
      Tightens-set R mods list j v (m.place + 1)
          (omega (arith, above, h)) parts.1 t.1,
    )

pub raised_all : (mods : List (Mod ℤ)) (lows highs : List ℤ) (least : ℕ)
    → is_rising_from least (places mods) ≡ true → Tightens (λ old new. old <ℤ new) mods lows
    → narrowed_all (record { lows = lows; highs = highs }) (bounds_of AtLeast mods)
    ≡ record { lows = written mods lows; highs = highs }
raised_all [] lows highs least rise t = refl
raised_all (m ∷ mods) lows highs least rise t =
    let parts = and_parts (nat_le least m.place) (is_rising_from (m.place + 1) (places mods)) rise
    in
    let above : slice_index_or lows m.place (pos 0) <ℤ m.entry = t.0 in
    let new : int_max (slice_index_or lows m.place (pos 0)) m.entry ≡ m.entry =
    omega (arith, ints, clamps, above) in
    let set : raised lows m.place m.entry ≡ slice_set lows m.place m.entry =
    ap (slice_set lows m.place) new in
    let next : m.place < m.place + 1 = omega arith in
    ap (λ (ls : List ℤ). narrowed_all (record { lows = ls; highs = highs })
    (bounds_of AtLeast mods)) set
    ∙ raised_all mods (slice_set lows m.place m.entry) highs (m.place + 1) parts.1
    (Tightens-set (λ old new. old <ℤ new) mods lows m.place m.entry (m.place + 1) next parts.1
    t.1)

pub lowered_all : (mods : List (Mod ℤ)) (lows highs : List ℤ) (least : ℕ)
    → is_rising_from least (places mods) ≡ true → Tightens (λ old new. new <ℤ old) mods highs
    → narrowed_all (record { lows = lows; highs = highs }) (bounds_of AtMost mods)
    ≡ record { lows = lows; highs = written mods highs }
lowered_all [] lows highs least rise t = refl
lowered_all (m ∷ mods) lows highs least rise t =
    let parts = and_parts (nat_le least m.place) (is_rising_from (m.place + 1) (places mods)) rise
    in
    let below : m.entry <ℤ slice_index_or highs m.place (pos 0) = t.0 in
    let new : int_min (slice_index_or highs m.place (pos 0)) m.entry ≡ m.entry =
    omega (arith, ints, clamps, below) in
    let set : lowered highs m.place m.entry ≡ slice_set highs m.place m.entry =
    ap (slice_set highs m.place) new in
    let next : m.place < m.place + 1 = omega arith in
    ap (λ (hs : List ℤ). narrowed_all (record { lows = lows; highs = hs })
    (bounds_of AtMost mods)) set
    ∙ lowered_all mods lows (slice_set highs m.place m.entry) (m.place + 1) parts.1
    (Tightens-set (λ old new. new <ℤ old) mods highs m.place m.entry (m.place + 1) next
    parts.1 t.1)

pub changed_along-push : (d : Desc Cut) (branches : List Branch) (branch : Branch)
    → changed_along d (branches ++ branch ∷ []) ≡ changed branch.common (changed_along d branches)
changed_along-push d [] branch = refl
changed_along-push d (l ∷ branches) branch = changed_along-push (changed l.common d) branches branch

-- the cuts of a child are those that its parent keeps, and then the added ones
pub child_list : (p : Program) (past : List Entry) (i : ℕ) (common : Change Cut) (d : Decision)
    → (full_along p ((node_at p past i).path ++ record { common = common; decision = d }
    ∷ [])).cuts ≡ relisted common.cuts (full_of p past i).cuts
child_list p past i common d = ap (λ (x : Desc Cut). x.cuts)
    (changed_along-push (root_desc p) (node_at p past i).path
    (record { common = common; decision = d }))

abbrev pub box_of : Desc Cut → Box
box_of d = record { lows = d.lows; highs = d.highs }

-- the one bound of a decision is set
abbrev pub bound_set : Side → Desc Cut → ℕ → ℤ → Desc Cut
bound_set AtLeast d j v = record d { lows = slice_set d.lows j v }
bound_set AtMost d j v = record d { highs = slice_set d.highs j v }

-- the decision lies strictly inside the box
abbrev pub Cuts : Side → Desc Cut → ℕ → ℤ → Type 0
Cuts AtLeast d j v = slice_index_or d.lows j (pos 0) <ℤ v
Cuts AtMost d j v = v <ℤ slice_index_or d.highs j (pos 0)

narrowed_once : (s : Side) (d : Desc Cut) (j : ℕ) (v : ℤ) → Cuts s d j v
    → narrowed_at s (box_of d) j v ≡ box_of (bound_set s d j v)
narrowed_once AtLeast d j v c =
    let new : int_max (slice_index_or d.lows j (pos 0)) v ≡ v = omega (arith, ints, clamps, c) in
    ap (λ (z : ℤ). record { lows = slice_set d.lows j z; highs = d.highs }) new
narrowed_once AtMost d j v c =
    let new : int_min (slice_index_or d.highs j (pos 0)) v ≡ v = omega (arith, ints, clamps, c) in
    ap (λ (z : ℤ). record { lows = d.lows; highs = slice_set d.highs j z }) new

-- the box after a fitting common change
pub box_common : (p : Program) (path : List Branch) (common : Change Cut)
    → IsCommonFor (full_along p path) common
    → narrowed_all (box_along p path) (decisions_of common)
    ≡ box_of (changed common (full_along p path))
box_common p path common fit =
    let lows = bounds_of AtLeast common.lows in
    let highs = bounds_of AtMost common.highs in
    let parent : Desc Cut = full_along p path in
    let e : narrowed_all (box_along p path) (decisions_of common)
    ≡ narrowed_all (narrowed_all (box_along p path) lows) highs =
    narrowed_all-append (box_along p path) lows highs in
    let f : narrowed_all (box_along p path) lows ≡ record {
      lows =
          written common.lows parent.lows;
      highs = parent.highs;
    } =
    raised_all common.lows parent.lows parent.highs 0 fit.rising.lows fit.lows_rise in
    let g : narrowed_all (record { lows = written common.lows parent.lows; highs = parent.highs })
    highs ≡ box_of (changed common parent) =
    lowered_all common.highs (written common.lows parent.lows) parent.highs 0 fit.rising.highs
    fit.highs_fall in
    e ∙ (ap (λ (x : Box). narrowed_all x highs) f ∙ g)

pub box_along-push : (p : Program) (path : List Branch) (branch : Branch)
    → IsCommonFor (full_along p path) branch.common
    → Cuts branch.decision.side (changed branch.common (full_along p path)) branch.decision.column
    branch.decision.value
    → box_along p (path ++ branch ∷ []) ≡ box_of
    (bound_set branch.decision.side (changed branch.common (full_along p path))
    branch.decision.column branch.decision.value)
box_along-push p path branch fit cuts =
    let own : Box = record { lows = own_lows p; highs = own_highs p } in
    let lows = bounds_of AtLeast branch.common.lows in
    let highs = bounds_of AtMost branch.common.highs in
    let parent : Desc Cut = full_along p path in
    let a : decisions_along (path ++ branch ∷ []) ≡ decisions_along path
    ++ ((decisions_of branch.common ++ branch.decision ∷ []) ++ []) =
    decisions_along-append path (branch ∷ []) in
    let b : narrowed_all own (decisions_along path
    ++ ((decisions_of branch.common ++ branch.decision ∷ []) ++ []))
    ≡ narrowed_all (box_along p path) ((decisions_of branch.common ++ branch.decision ∷ [])
    ++ []) = narrowed_all-append own (decisions_along path) _ in
    let c : narrowed_all (box_along p path) ((decisions_of branch.common ++ branch.decision ∷ [])
    ++ []) ≡ narrowed_all (box_along p path) (decisions_of branch.common ++ branch.decision
    ∷ []) =
    ap (narrowed_all (box_along p path))
    (append-nil (decisions_of branch.common ++ branch.decision ∷ [])) in
    let d : narrowed_all (box_along p path) (decisions_of branch.common ++ branch.decision ∷ [])
    ≡ narrowed_all (narrowed_all (box_along p path) (decisions_of branch.common))
    (branch.decision ∷ []) =
    narrowed_all-append (box_along p path) (decisions_of branch.common) (branch.decision ∷ []) in
    let h : narrowed_all (box_along p path) (decisions_of branch.common)
    ≡ box_of (changed branch.common parent) = box_common p path branch.common fit in
    ap (narrowed_all own) a
    ∙ (b ∙ (c ∙ (d ∙ (ap (λ (x : Box). narrowed_all x (branch.decision ∷ [])) h
    ∙ narrowed_once branch.decision.side (changed branch.common parent) branch.decision.column
    branch.decision.value cuts))))

pub full_along-push : (p : Program) (path : List Branch) (branch : Branch)
    → IsCommonFor (full_along p path) branch.common
    → Cuts branch.decision.side (changed branch.common (full_along p path)) branch.decision.column
    branch.decision.value
    → full_along p (path ++ branch ∷ []) ≡ bound_set branch.decision.side
    (changed branch.common (full_along p path)) branch.decision.column branch.decision.value
full_along-push p path branch fit cuts =
    let b = box_along-push p path branch fit cuts in
    let c = changed_along-push (root_desc p) path branch in
    let mk : Box → Desc Cut → Desc Cut = λ x d. record d { lows = x.lows; highs = x.highs } in
    let one : full_along p (path ++ branch ∷ [])
    ≡ mk (box_of (bound_set branch.decision.side (changed branch.common (full_along p path))
    branch.decision.column branch.decision.value))
    (changed branch.common (changed_along (root_desc p) path)) =
    ap (λ (x : Box). mk x (changed_along (root_desc p) (path ++ branch ∷ []))) b ∙ ap (mk _) c in
    one ∙ same_rest branch.decision.side
  where
    same_rest : (s : Side) → record (changed branch.common (changed_along (root_desc p) path)) {
      lows = (bound_set s (changed branch.common (full_along p path)) branch.decision.column
          branch.decision.value).lows;
      highs = (bound_set s (changed branch.common (full_along p path)) branch.decision.column
          branch.decision.value).highs;
    }
        ≡ bound_set s (changed branch.common (full_along p path)) branch.decision.column
        branch.decision.value
    same_rest AtLeast = refl
    same_rest AtMost = refl
