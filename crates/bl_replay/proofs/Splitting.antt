-- The children of a put that splits, and what is stored of them.
use Rattle.std.proofs.Common.{◌≡◌, ℕ, ◌+◌, ◌-◌, ◌<◌, ℤ, List, [], ◌∷◌, ◌++◌, length, refl, ap}
use Rattle.std.proofs.Common.{sym, ◌∙◌, subst, arith, Option, Some, length-append}
use Rattle.std.specs.Prelude.{reverse}
use Rattle.std.proofs.lemmas.List.{get_or_at, get_or-append-add}
use Rattle.bl_problem.specs.Program.{Program, IsProgram}
use Rattle.bl_problem.specs.declared.cut.Cut.{Cut}
use Rattle.bl_desc.specs.declared.desc.Desc.{Desc}
use Rattle.bl_desc.specs.declared.change.Change.{Change}
use Rattle.bl_desc.specs.declared.desc.Form.{Form}
use Rattle.bl_desc.specs.declared.desc.Piece.{Piece}
use Rattle.bl_desc.specs.Changes.{changed}
use Rattle.bl_journal.specs.declared.entry.Entry.{Entry}
use Rattle.bl_journal.specs.declared.entry.Entry.TheVariants.{Put}
use Rattle.bl_journal.specs.declared.entry.Step.TheVariants.{Split as SplitStep}
use Rattle.bl_journal.specs.declared.outcome.Next.TheVariants.{Split}
use Rattle.bl_journal.specs.declared.settings.Settings.{Settings}
use Rattle.bl_journal.specs.Births.{Node, nodes_of, node_at, root_node}
use Rattle.bl_journal.specs.Descriptions.{full_of, left_child, right_child}
use Rattle.bl_journal.specs.Pieces.{stored_of, form_at_birth, piece_below}
use Rattle.bl_journal.specs.Legality.{MayPut, SplitPut, IsLegal, IsLegalPast}
use Rattle.bl_journal.specs.Laws.{NodesAreStable, DescriptionsAreWhole, ChildrenFollow}
use Rattle.bl_journal.specs.Laws.{NewbornsAreStored}
use Rattle.bl_journal.proofs.Growth.{reverse-push}
use Rattle.bl_journal.proofs.Leaves.{left_of, right_of, shape, out_born}
use Rattle.bl_mods.proofs.Relisting.{length-written}
use Rattle.bl_tree.specs.Jobs.{MayFollow}
use Rattle.bl_tree.specs.Views.{TreeView, past_of, extended, IsLegalTree, PiecesStored}
use Rattle.bl_tree.proofs.Jobs.{may_follow}
use Rattle.bl_replay.specs.Splits.{MaySplit}

-- a put that splits, in a legal tree
pub record IsSplit (t : TreeView) (seat id : ℕ) (found : Option (List ℤ)) (low : ℤ)
    (common : Change Cut) (column : ℕ) (at : ℤ) : Type 0 where
  pub legal : IsLegalTree t
  pub program : IsProgram t.problem
  pub allowed : MayPut t.problem t.settings (past_of t) seat id found low
      (SplitStep common column at)

abbrev put_of : {t : TreeView} {seat id : ℕ} {found : Option (List ℤ)} {low : ℤ}
    {common : Change Cut} {column : ℕ} {at : ℤ}
    → IsSplit t seat id found low common column at → SplitPut t.problem t.settings (past_of t)
put_of {t} {seat} {id} {found} {low} {common} {column} {at} w =
    record {
      seat = seat;
      id = id;
      found = found;
      low = low;
      common = common;
      column =
          column;
      at = at;
      may = w.allowed;
    }

-- a new node of a put may follow its parent
child_follows : DescriptionsAreWhole → NodesAreStable
    → (t : TreeView) (e : Entry) (id k : ℕ) (d : Desc Cut)
    → IsLegal t.problem t.settings (t.history ++ e ∷ []) → IsProgram t.problem
    → id < length (nodes_of t.problem (past_of t)) → k
    < length (nodes_of t.problem (e ∷ past_of t))
    → (node_at t.problem (e ∷ past_of t) k).parent ≡ Some id
    → full_of t.problem (e ∷ past_of t) k ≡ d → MayFollow (full_of t.problem (past_of t) id) d
child_follows law stable t e id k d legal program born new parent is =
    let turned : reverse (t.history ++ e ∷ []) ≡ e ∷ past_of t = reverse-push t.history e in
    let new_later : k < length (nodes_of t.problem (reverse (t.history ++ e ∷ []))) =
    subst (λ h. k < length (nodes_of t.problem h)) (sym turned) new in
    let parent_later : (node_at t.problem (reverse (t.history ++ e ∷ [])) k).parent ≡ Some id =
    subst (λ h. (node_at t.problem h k).parent ≡ Some id) (sym turned) parent in
    let f : MayFollow (full_of t.problem (reverse (t.history ++ e ∷ [])) id)
    (full_of t.problem (reverse (t.history ++ e ∷ [])) k) =
    may_follow law t.problem t.settings (t.history ++ e ∷ []) k id legal program new_later
    parent_later in
    let above : full_of t.problem (reverse (t.history ++ e ∷ [])) id
    ≡ full_of t.problem (past_of t) id =
    (stable t.problem t.history (e ∷ []) id born).description in
    let below : full_of t.problem (reverse (t.history ++ e ∷ [])) k ≡ d =
    ap (λ h. full_of t.problem h k) turned ∙ is in
    subst (λ (x : Desc Cut). MayFollow x d) above
    (subst (λ (x : Desc Cut). MayFollow (full_of t.problem (reverse (t.history ++ e ∷ [])) id)
    x) below f)

-- the parent of a split and its children
pub may_split : DescriptionsAreWhole → NodesAreStable → ChildrenFollow
    → (t : TreeView) (seat id : ℕ) (found : Option (List ℤ)) (low : ℤ) (common : Change Cut)
    (column : ℕ) (at : ℤ)
    → IsSplit t seat id found low common column at → MaySplit (full_of t.problem (past_of t) id)
    common column at
may_split law stable children t seat id found low common column at w =
    let p : Program = t.problem in
    let s : Settings = t.settings in
    let past : List Entry = past_of t in
    let e : Entry = Put seat id found low (SplitStep common column at) in
    let f : Desc Cut = full_of p past id in
    let born : id < length (nodes_of p past) =
    out_born p past id seat (shape p s past w.legal.steps) w.allowed.is_out in
    let steps : IsLegalPast p s (e ∷ past) = (w.allowed, w.legal.steps) in
    let legal : IsLegal p s (t.history ++ e ∷ []) =
    record { steps = subst (IsLegalPast p s) (sym (reverse-push t.history e)) steps } in
    let len : length (nodes_of p (e ∷ past)) ≡ length (nodes_of p past) + 2 =
    length-append (nodes_of p past) _ in
    let node : Node = node_at p past id in
    let left : node_at p (e ∷ past) (length (nodes_of p past))
    ≡ left_of node id low common column at =
    get_or_at (nodes_of p past) (left_of node id low common column at)
    (right_of node id low common column at ∷ []) (root_node p) (length (nodes_of p past)) refl
    in
    let right : node_at p (e ∷ past) (length (nodes_of p past) + 1)
    ≡ right_of node id low common column at =
    get_or-append-add (nodes_of p past) (left_of node id low common column at
    ∷ right_of node id low common column at ∷ []) 1 (root_node p) in
    let inside : column < length f.lows = w.allowed.sound.next_ok.column_in in
    let follow = children p s t.history w.legal (put_of w) in
    record {
      whole = (law p s t.history w.legal id born).desc.whole;
      fits = w.allowed.sound.next_ok.common_fits.fits;
      column_in = subst (λ (n : ℕ). column < n) (sym (length-written common.lows f.lows)) inside;
      below_high = w.allowed.sound.next_ok.below_high;
      left = child_follows law stable t e id (length (nodes_of p past))
          (left_child (changed common f) column at) legal w.program born (omega (arith, len))
          (ap (λ (n : Node). n.parent) left) follow.left;
      right = child_follows law stable t e id (length (nodes_of p past) + 1)
          (right_child (changed common f) column at) legal w.program born (omega (arith, len))
          (ap (λ (n : Node). n.parent) right) follow.right;
    }

-- the form of the children of a node
abbrev pub form_under : TreeView → ℕ → Form
form_under t id = form_at_birth t.settings.span ((node_at t.problem (past_of t) id).depth + 1)

-- the children of a split, after the common change, are what is stored of them
pub split_stored : ChildrenFollow → NewbornsAreStored
    → (t : TreeView) (seat id : ℕ) (found : Option (List ℤ)) (low : ℤ) (common : Change Cut)
    (column : ℕ) (at : ℤ)
    → IsSplit t seat id found low common column at
    → PiecesStored (extended t (Put seat id found low (SplitStep common column at)))
    (Split common column at (piece_below (full_of t.problem (past_of t) id) (form_under t id)
    (left_child (changed common (full_of t.problem (past_of t) id)) column at))
    (piece_below (full_of t.problem (past_of t) id) (form_under t id)
    (right_child (changed common (full_of t.problem (past_of t) id)) column at)))
split_stored children stored t seat id found low common column at w =
    let p : Program = t.problem in
    let s : Settings = t.settings in
    let past : List Entry = past_of t in
    let e : Entry = Put seat id found low (SplitStep common column at) in
    let f : Desc Cut = full_of p past id in
    let turned : reverse (t.history ++ e ∷ []) ≡ e ∷ past = reverse-push t.history e in
    let n : ℕ = length (nodes_of p (e ∷ past)) in
    let len : n ≡ length (nodes_of p past) + 2 = length-append (nodes_of p past) _ in
    let first : n - 2 ≡ length (nodes_of p past) = omega (arith, len) in
    let second : n - 1 ≡ length (nodes_of p past) + 1 = omega (arith, len) in
    let follow = children p s t.history w.legal (put_of w) in
    let newborn = stored p s t.history w.legal (put_of w) in
    let l : stored_of p s (e ∷ past) (n - 2)
    ≡ piece_below f (form_under t id) (left_child (changed common f) column at) =
    ap (stored_of p s (e ∷ past)) first
    ∙ (newborn.left ∙ ap (piece_below f (form_under t id)) follow.left) in
    let r : stored_of p s (e ∷ past) (n - 1)
    ≡ piece_below f (form_under t id) (right_child (changed common f) column at) =
    ap (stored_of p s (e ∷ past)) second
    ∙ (newborn.right ∙ ap (piece_below f (form_under t id)) follow.right) in (
      sym (ap (λ h. stored_of p s h (length (nodes_of p h) - 2)) turned ∙ l),
      sym
          (ap (λ h. stored_of p s h (length (nodes_of p h) - 1)) turned ∙ r),
    )

-- the pieces that are made of the description of a lease are what is stored
pub split_put : ChildrenFollow → NewbornsAreStored → (t : TreeView) (seat id : ℕ)
    (found : Option (List ℤ)) (low : ℤ) (common : Change Cut) (column : ℕ) (at : ℤ)
    (parent : Desc Cut) (form : Form) (left right : Piece Cut)
    → IsSplit t seat id found low common column at → parent ≡ full_of t.problem (past_of t) id
    → form ≡ form_under t id
    → left ≡ piece_below parent form (left_child (changed common parent) column at) → right
    ≡ piece_below parent form (right_child (changed common parent) column at)
    → PiecesStored (extended t (Put seat id found low (SplitStep common column at)))
    (Split common column at left right)
split_put children stored t seat id found low common column at parent form left right w same shape
    l r =
    let f : Desc Cut = full_of t.problem (past_of t) id in
    let k = split_stored children stored t seat id found low common column at w in
    let same_left : piece_below parent form (left_child (changed common parent) column at)
    ≡ piece_below f (form_under t id) (left_child (changed common f) column at) =
    ap (λ (x : Desc Cut). piece_below x form (left_child (changed common x) column at)) same
    ∙ ap (λ (g : Form). piece_below f g (left_child (changed common f) column at)) shape in
    let same_right : piece_below parent form (right_child (changed common parent) column at)
    ≡ piece_below f (form_under t id) (right_child (changed common f) column at) =
    ap (λ (x : Desc Cut). piece_below x form (right_child (changed common x) column at)) same
    ∙ ap (λ (g : Form). piece_below f g (right_child (changed common f) column at)) shape in
    (l ∙ same_left ∙ k.0, r ∙ same_right ∙ k.1)

pub same_desc : (a b : Desc Cut) → Some a ≡ Some b → a ≡ b
same_desc a b e = cc

-- the form by the lease's depth and the span is that of the children
pub form_is : (t : TreeView) (id span depth deep : ℕ) → t.settings.span ≡ span → deep ≡ depth
    → depth ≡ (node_at t.problem (past_of t) id).depth → form_at_birth span (deep + 1)
    ≡ form_under t id
form_is t id span depth deep same a b =
    ap (λ (n : ℕ). form_at_birth span (n + 1)) (a ∙ b)
    ∙ ap (λ (n : ℕ). form_at_birth n ((node_at t.problem (past_of t) id).depth + 1)) (sym same)
