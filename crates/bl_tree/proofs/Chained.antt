-- The pieces that stand for a node, as the records have them.
use Rattle.std.proofs.Common.{◌≡◌, ℕ, ◌<◌, ◌≤◌, List, [], ◌∷◌, ◌++◌, length, length-append, refl}
use Rattle.std.proofs.Common.{ap, sym, ◌∙◌, subst, arith, Bool, true, false, cond, Some, None}
use Rattle.std.proofs.Common.{Option}
use Rattle.std.specs.Prelude.{slice_index_or, reverse, IfSome, map}
use Rattle.std.proofs.lemmas.Bool.{cond-true, cond-false}
use Rattle.std.proofs.lemmas.List.{map-append, length-map}
use Rattle.bl_problem.specs.Program.{Program}
use Rattle.bl_problem.specs.declared.cut.Cut.{Cut}
use Rattle.bl_desc.specs.declared.desc.Desc.{Desc}
use Rattle.bl_desc.specs.declared.change.Change.{Change}
use Rattle.bl_desc.specs.declared.desc.Form.{Form}
use Rattle.bl_desc.specs.declared.desc.Form.TheVariants.{Explicit as ExplicitForm}
use Rattle.bl_desc.specs.declared.desc.Form.TheVariants.{Relative as RelativeForm}
use Rattle.bl_desc.specs.declared.desc.Piece.{Piece}
use Rattle.bl_desc.specs.declared.desc.Piece.TheVariants.{Explicit, Relative}
use Rattle.bl_desc.specs.Changes.{difference, changed, Fits, IsWhole}
use Rattle.bl_desc.proofs.Canonical.{changed-difference}
use Rattle.bl_desc.proofs.Ranges.{difference_fits}
use Rattle.bl_rebuild.specs.declared.chain.Chain.{Chain}
use Rattle.bl_rebuild.specs.Chains.{described, FitInOrder}
use Rattle.bl_journal.specs.declared.limits.TheConstants.{MOST_SPAN}
use Rattle.bl_journal.specs.declared.entry.Entry.{Entry}
use Rattle.bl_journal.specs.declared.settings.Settings.{Settings}
use Rattle.bl_journal.specs.Births.{nodes_of, node_at}
use Rattle.bl_journal.specs.Descriptions.{full_of}
use Rattle.bl_journal.specs.States.{state_of, form_of}
use Rattle.bl_journal.specs.declared.state.State.{State}
use Rattle.bl_journal.specs.declared.state.State.TheVariants.{Waiting as waiting, Out as out}
use Rattle.bl_journal.specs.declared.state.State.TheVariants.{Split as split, Shut as shut}
use Rattle.bl_journal.specs.declared.state.State.TheVariants.{Freed as freed}
use Rattle.bl_journal.specs.Pieces.{is_freed, stored_of, piece_in, difference_from, chained}
use Rattle.bl_journal.specs.Pieces.{chain_along, chain_of, rebuilt, rebuilt_onto}
use Rattle.bl_journal.specs.Legality.{IsLegalPast, HasUnfreedParent}
use Rattle.bl_journal.proofs.Lines.{IsChildOf, lines, full_whole, full_columns, full_rows}
use Rattle.bl_journal.proofs.Ties.{tied}
use Rattle.bl_journal.proofs.Chains.{chain_of-last, chain_short}
use Rattle.bl_tree.specs.declared.record.Record.{Record}
use Rattle.bl_tree.specs.Records.{IsRecordOf, IsStoredOf, AreRecords, AreStored}
use Rattle.bl_tree.specs.Views.{TreeView, past_of, pieces_of}
use Rattle.bl_tree.specs.declared.answer.Encoding.{Encoding}
use Rattle.bl_tree.specs.declared.answer.Encoding.TheVariants.{Gone}
use Rattle.bl_tree.specs.Answers.{IsBorn, encoding_for, encoding_from}
use Rattle.bl_tree.proofs.Searches.{slice_get-is}
use Rattle.bl_tree.specs.Chains.{StandsFor}

pub not_freed : (t : State) → (t ≡ freed → ⊥) → is_freed t ≡ false
not_freed waiting h = refl
not_freed (out seat) h = refl
not_freed split h = refl
not_freed shut h = refl
not_freed freed h = absurd (h refl)

pub is_not_freed : (t : State) → is_freed t ≡ false → t ≡ freed → ⊥
is_not_freed t f e = let g : true ≡ false = sym (ap is_freed e) ∙ f in cc

pub some_same : {X : Type 0} (a b : X) → Some a ≡ Some b → a ≡ b
some_same a b e = cc

-- the record of a node that stands has what is stored of it
pub stored_piece : (p : Program) (s : Settings) (past : List Entry) (id : ℕ) (r : Record)
    → IsStoredOf p s past id r → (state_of past id ≡ freed → ⊥) → r.piece
    ≡ Some (stored_of p s past id)
stored_piece p s past id r f stands = f.piece ∙ cond-false (is_freed (state_of past id)) None
    (Some (stored_of p s past id)) (not_freed (state_of past id) stands)

pub record ExplicitFacts (p : Program) (s : Settings) (past : List Entry) (id : ℕ)
    (d : Desc Cut) : Type 0 where
  pub full : d ≡ full_of p past id
  pub chain : chain_of p s past id ≡ Explicit d ∷ []
  pub form : form_of p s past id ≡ ExplicitForm

pub record RelativeFacts (p : Program) (s : Settings) (past : List Entry) (id : ℕ)
    (c : Change Cut) : Type 0 where
  pub q : ℕ
  pub parent : (node_at p past id).parent ≡ Some q
  pub below : q < id
  pub stands : state_of past q ≡ freed → ⊥
  pub chain : chain_of p s past id ≡ chain_of p s past q ++ Relative c ∷ []
  pub fits : Fits c (full_of p past q)
  pub gives : changed c (full_of p past q) ≡ full_of p past id
  pub form : form_of p s past id ≡ RelativeForm

-- what is stored explicitly is the description
pub explicit_facts : (p : Program) (s : Settings) (past : List Entry) (id : ℕ) (d : Desc Cut)
    → IsLegalPast p s past → id < length (nodes_of p past) → (state_of past id ≡ freed → ⊥)
    → stored_of p s past id ≡ Explicit d → ExplicitFacts p s past id d
explicit_facts p s past id d legal born stands e = by_form (form_of p s past id) refl e
  where
    last : chain_of p s past id ≡ Explicit d ∷ []
    last = chain_of-last p s past id
        ∙ ap (chained (chain_along p s past [] (node_at p past id).ancestors)) e

    by_parent : (o : Option ℕ) → HasUnfreedParent past o
        → difference_from p past o (full_of p past id) ≡ Explicit d → ExplicitFacts p s past id d
    by_parent None h g = absurd h
    by_parent (Some q) h g = cc

    by_form : (f : Form) → form_of p s past id ≡ f → piece_in p past id f ≡ Explicit d
        → ExplicitFacts p s past id d
    by_form ExplicitForm f g = record {
      full =
          (let k : Explicit (full_of p past id) ≡ Explicit d = g in cc);
      chain = last;
      form = f;
    }
    by_form RelativeForm f g =
        by_parent (node_at p past id).parent (tied p s past legal id born stands f) g

-- what is stored relatively stands on the parent, which is not freed
pub relative_facts : (p : Program) (s : Settings) (past : List Entry) (id : ℕ) (c : Change Cut)
    → IsLegalPast p s past → id < length (nodes_of p past) → (state_of past id ≡ freed → ⊥)
    → stored_of p s past id ≡ Relative c → RelativeFacts p s past id c
relative_facts p s past id c legal born stands e = by_form (form_of p s past id) refl e
  where
    last : chain_of p s past id ≡ chain_along p s past [] (node_at p past id).ancestors
        ++ Relative c ∷ []
    last = chain_of-last p s past id
        ∙ ap (chained (chain_along p s past [] (node_at p past id).ancestors)) e

    by_parent : (o : Option ℕ) → (node_at p past id).parent ≡ o → form_of p s past id
        ≡ RelativeForm → HasUnfreedParent past o
        → IfSome o (λ q. IsChildOf p (node_at p past q) q id (node_at p past id))
        → difference_from p past o (full_of p past id) ≡ Relative c → RelativeFacts p s past id c
    by_parent None o f h line g = absurd h
    by_parent (Some q) o f h line g =
        let is : difference (λ (x : Cut). x.id) (full_of p past q) (full_of p past id) ≡ c =
        (let k : Relative (difference (λ (x : Cut). x.id) (full_of p past q) (full_of p past id))
        ≡ Relative c = g in cc) in
        record {
          q = q;
          parent = o;
          below = line.below;
          stands = h;
          chain = last ∙ ap (λ (ids : List ℕ). chain_along p s past [] ids ++ Relative c ∷ [])
              line.ancestors;
          fits = subst (λ (x : Change Cut). Fits x (full_of p past q)) is
              (difference_fits (λ (x : Cut). x.id) (full_of p past q) (full_of p past id)
              (full_whole p past q));
          gives = ap (λ (x : Change Cut). changed x (full_of p past q)) (sym is)
              ∙ changed-difference (λ (x : Cut). x.id) (full_of p past q) (full_of p past id)
              (full_whole p past q) (full_whole p past id)
              (full_columns p past q ∙ sym (full_columns p past id))
              (full_rows p past q ∙ sym (full_rows p past id)) line.part;
          form = f;
        }

    by_form : (f : Form) → form_of p s past id ≡ f → piece_in p past id f ≡ Relative c
        → RelativeFacts p s past id c
    by_form ExplicitForm f g = cc
    by_form RelativeForm f g = by_parent (node_at p past id).parent refl f
        (tied p s past legal id born stands f) (lines p s past legal id born) g

-- one more change
described-push : (changes : List (Change Cut)) (d : Desc Cut) (c : Change Cut)
    → described (changes ++ c ∷ []) d ≡ changed c (described changes d)
described-push [] d c = refl
described-push (b ∷ changes) d c = described-push changes (changed b d) c

fit-push : (changes : List (Change Cut)) (d : Desc Cut) (c : Change Cut) → FitInOrder changes d
    → Fits c (described changes d) → FitInOrder (changes ++ c ∷ []) d
fit-push [] d c f g = (g, tt)
fit-push (b ∷ changes) d c f g = (f.0, fit-push changes (changed b d) c f.1 g)

pub stands_more : (chain next : Chain Cut) (d e : Desc Cut) (c : Change Cut) → StandsFor chain d
    → next.top ≡ chain.top → next.changes ≡ chain.changes ++ c ∷ [] → Fits c d → changed c d ≡ e
    → StandsFor next e
stands_more chain next d e c f tops more fits gives =
    let here : Fits c (described chain.changes chain.top) =
    subst (λ (x : Desc Cut). Fits c x) (sym f.gives) fits in
    record {
      whole = subst (λ (x : Desc Cut). IsWhole x) (sym tops) f.whole;
      fits = subst (λ (x : Desc Cut). FitInOrder next.changes x) (sym tops)
          (subst (λ (l : List (Change Cut)). FitInOrder l chain.top) (sym more)
          (fit-push chain.changes chain.top c f.fits here));
      gives = ap (described next.changes) tops
          ∙ (ap (λ (l : List (Change Cut)). described l chain.top) more
          ∙ (described-push chain.changes chain.top c ∙ (ap (changed c) f.gives ∙ gives)));
    }

pub pieces_more : (chain next : Chain Cut) (c : Change Cut) → next.top ≡ chain.top → next.changes
    ≡ chain.changes ++ c ∷ [] → pieces_of next ≡ pieces_of chain ++ Relative c ∷ []
pieces_more chain next c tops more =
    ap (λ (d : Desc Cut). Explicit d ∷ map Relative next.changes) tops
    ∙ (ap (λ (l : List (Change Cut)). Explicit chain.top ∷ map Relative l) more
    ∙ ap (λ (l : List (Piece Cut)). Explicit chain.top ∷ l)
    (map-append Relative chain.changes (c ∷ [])))

pub stands_first : (p : Program) (past : List Entry) (id : ℕ) (chain : Chain Cut) (d : Desc Cut)
    → chain.top ≡ d → chain.changes ≡ [] → d ≡ full_of p past id
    → StandsFor chain (full_of p past id)
stands_first p past id chain d tops none full =
    record {
      whole = subst (λ (x : Desc Cut). IsWhole x) (sym (tops ∙ full)) (full_whole p past id);
      fits = subst (λ (l : List (Change Cut)). FitInOrder l chain.top) (sym none) tt;
      gives = ap (λ (l : List (Change Cut)). described l chain.top) none ∙ (tops ∙ full);
    }

pub pieces_first : (chain : Chain Cut) (d : Desc Cut) → chain.top ≡ d → chain.changes ≡ []
    → pieces_of chain ≡ Explicit d ∷ []
pieces_first chain d tops none =
    ap (λ (x : Desc Cut). Explicit x ∷ map Relative chain.changes) tops
    ∙ ap (λ (l : List (Change Cut)). Explicit d ∷ map Relative l) none

-- what the pieces stand for
pub rebuilt_is : (chain : Chain Cut) (d : Desc Cut) → StandsFor chain d
    → rebuilt (pieces_of chain) ≡ Some d
rebuilt_is chain d f = ap Some (onto chain.changes chain.top ∙ f.gives)
  where
    onto : (changes : List (Change Cut)) (x : Desc Cut) → rebuilt_onto x (map Relative changes)
        ≡ described changes x
    onto [] x = refl
    onto (c ∷ changes) x = onto changes (changed c x)

-- a chain that is to grow has room
pub chain_room : (p : Program) (s : Settings) (past : List Entry) (id q : ℕ) (c : Change Cut)
    (chain : Chain Cut) → IsLegalPast p s past → 0 < s.span → s.span ≤ MOST_SPAN → id
    < length (nodes_of p past) → (state_of past id ≡ freed → ⊥)
    → pieces_of chain ≡ chain_of p s past q → chain_of p s past id ≡ chain_of p s past q
    ++ Relative c ∷ [] → length chain.changes < 63
chain_room p s past id q c chain legal some few born stands is more =
    let short = chain_short p s past legal some id born stands in
    let len = ap length more ∙ length-append (chain_of p s past q) (Relative c ∷ []) in
    let same = ap length is in
    let mapped : length (map Relative chain.changes) ≡ length chain.changes =
    length-map chain.changes Relative in
    omega (arith, short, few, len, same, mapped)

-- what the record of a node that stands says
pub record Standing (p : Program) (s : Settings) (history : List Entry) (id : ℕ) (r : Record) :
    Type 0 where
  pub born : id < length (nodes_of p (reverse history))
  pub stands : state_of (reverse history) id ≡ freed → ⊥
  pub storage : IsStoredOf p s (reverse history) id r
  pub piece : r.piece ≡ Some (stored_of p s (reverse history) id)

pub standing : (p : Program) (s : Settings) (history : List Entry) (t : TreeView)
    (kept : List Record) (id : ℕ) (r : Record)
    → (record { problem = p; settings = s; history = history }) ≡ t → IsBorn t id
    → (state_of (past_of t) id ≡ freed → ⊥) → length kept ≡ length (nodes_of p (reverse history))
    → AreStored p s (reverse history) kept
    → r ≡ slice_index_or kept id r → Standing p s history id r
standing p s history t kept id r view born stands count st at =
    let u : TreeView = record { problem = p; settings = s; history = history } in
    let b : id < length (nodes_of p (reverse history)) =
    subst (λ (v : TreeView). IsBorn v id) (sym view) born in
    let n : state_of (reverse history) id ≡ freed → ⊥ =
    subst (λ (v : TreeView). state_of (past_of v) id ≡ freed → ⊥) (sym view) stands in
    let f = st id r (slice_get-is kept id r (omega (arith, b, count)) at) in
    record {
      born = b;
      stands = n;
      storage = f;
      piece =
          stored_piece p s (reverse history) id r f n;
    }

pub piece_of_standing : (p : Program) (s : Settings) (history : List Entry) (id : ℕ) (r : Record)
    (piece : Piece Cut) → Standing p s history id r → r.piece ≡ Some piece
    → stored_of p s (reverse history) id ≡ piece
piece_of_standing p s history id r piece f e =
    some_same (stored_of p s (reverse history) id) piece (sym f.piece ∙ e)

-- the record of a born node
pub record Known (p : Program) (s : Settings) (history : List Entry) (id : ℕ) (r : Record) : Type
    0 where
  pub born : id < length (nodes_of p (reverse history))
  pub node : IsRecordOf p (reverse history) id r
  pub storage : IsStoredOf p s (reverse history) id r

pub known : (p : Program) (s : Settings) (history : List Entry) (t : TreeView)
    (kept : List Record) (id : ℕ) (r : Record)
    → (record { problem = p; settings = s; history = history }) ≡ t → IsBorn t id
    → AreRecords p (reverse history) kept → AreStored p s (reverse history) kept → r
    ≡ slice_index_or kept id r → Known p s history id r
known p s history t kept id r view born are st at =
    let b : id < length (nodes_of p (reverse history)) =
    subst (λ (v : TreeView). IsBorn v id) (sym view) born in
    let len : length kept ≡ length (nodes_of p (reverse history)) = are.count in
    let e = slice_get-is kept id r (omega (arith, b, len)) at in
    record { born = b; node = are.each id r e; storage = st id r e }

-- a record without a piece is that of a freed node
pub freed_known : (p : Program) (s : Settings) (past : List Entry) (id : ℕ) (r : Record)
    → IsStoredOf p s past id r → r.piece ≡ None → is_freed (state_of past id) ≡ true
freed_known p s past id r f e = by_state (is_freed (state_of past id)) (sym f.piece ∙ e)
  where
    by_state : (b : Bool) → cond b None (Some (stored_of p s past id)) ≡ None → b ≡ true
    by_state true h = refl
    by_state false h = cc

pub stands_known : (p : Program) (s : Settings) (past : List Entry) (id : ℕ) (r : Record)
    (piece : Piece Cut) → IsStoredOf p s past id r → r.piece ≡ Some piece
    → (is_freed (state_of past id) ≡ false) × (stored_of p s past id ≡ piece)
stands_known p s past id r piece f e = by_state (is_freed (state_of past id)) (sym f.piece ∙ e)
  where
    by_state : (b : Bool) → cond b None (Some (stored_of p s past id)) ≡ Some piece → (b ≡ false)
        × (stored_of p s past id ≡ piece)
    by_state true h = cc
    by_state false h = (refl, some_same (stored_of p s past id) piece h)

pub encoding_gone : (t : TreeView) (id : ℕ) (form : Form) → is_freed (state_of (past_of t) id)
    ≡ true → Gone ≡ encoding_for t id form
encoding_gone t id form e =
    sym (cond-true (is_freed (state_of (past_of t) id)) Gone
    (encoding_from t id (form_of t.problem t.settings (past_of t) id) form) e)

pub encoding_stands : (t : TreeView) (id : ℕ) (old form : Form) (answer : Encoding)
    → is_freed (state_of (past_of t) id) ≡ false → form_of t.problem t.settings (past_of t) id
    ≡ old → answer ≡ encoding_from t id old form → answer ≡ encoding_for t id form
encoding_stands t id old form answer e f g =
    g ∙ (ap (λ (o : Form). encoding_from t id o form) (sym f)
    ∙ sym (cond-false (is_freed (state_of (past_of t) id)) Gone
    (encoding_from t id (form_of t.problem t.settings (past_of t) id) form) e))

pub parent_born : (p : Program) (s : Settings) (past : List Entry) (id : ℕ) → IsLegalPast p s past
    → id < length (nodes_of p past)
    → IfSome (node_at p past id).parent (λ q. q < length (nodes_of p past))
parent_born p s past id legal born =
    by_parent (node_at p past id).parent (lines p s past legal id born)
  where
    by_parent : (o : Option ℕ) → IfSome o
        (λ q. IsChildOf p (node_at p past q) q id (node_at p past id))
        → IfSome o (λ q. q < length (nodes_of p past))
    by_parent None line = tt
    by_parent (Some q) line = let below : q < id = line.below in omega (arith, below, born)
