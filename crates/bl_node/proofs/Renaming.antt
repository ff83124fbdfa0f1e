-- Some new cuts are dropped, and the others are numbered anew.
use Rattle.std.proofs.Common.{◌≡◌, ◌≢◌, ℕ, zero, suc, ◌+◌, ◌<◌, ◌≤◌, ℤ, List, [], ◌∷◌, ◌++◌}
use Rattle.std.proofs.Common.{length, arith, refl, sym, ◌∙◌, ap, subst, Bool, true, false, cond}
use Rattle.std.proofs.Common.{Option, Some, None, All}
use Rattle.std.specs.Prelude.{Ok, Err, slice_index_or, AllPairs, pos, nat_le, int_lt}
use Rattle.std.specs.Prelude.{unsigned_abs, ◌^◌}
use Rattle.std.specs.declared.result.Result.{Result}
use Rattle.std.proofs.lemmas.List.{get_or_default}
use Rattle.bl_mods.specs.declared.mods.ItemId.{ItemId}
use Rattle.bl_mods.specs.Mods.{has_id, fresh_in, IsPartThenFresh}
use Rattle.bl_problem.specs.Program.{Program}
use Rattle.bl_problem.specs.Cuts.{SuitsProblem, IsValidCut}
use Rattle.bl_problem.specs.declared.cut.Cut.{Cut}
use Rattle.bl_problem.specs.declared.problem.Term.{Term}
use Rattle.bl_desc.specs.declared.desc.Desc.{Desc}
use Rattle.bl_desc.specs.declared.desc.Status.{Status}
use Rattle.bl_cuts.specs.declared.fault.CutFault.{CutFault}
use Rattle.bl_cuts.specs.declared.fault.CutFault.TheVariants.{TooWide, Weights as WeightsFault}
use Rattle.bl_cuts.specs.Derivations.{weighted_sum, points_at_ends, ends_sum, right_of, rounded}
use Rattle.bl_cuts.specs.Derivations.{terms_below, are_small}
use Rattle.bl_cuts.specs.Answers.{cut_within, derived_of}
use Rattle.bl_bound.specs.Lines.{lines_of}
use Rattle.bl_problem.specs.Points.{own_lows}
use Rattle.bl_cover.specs.declared.fault.CoverFault.TheVariants.{Fits}
use Rattle.bl_cover.specs.declared.fault.CoverFault.{CoverFault}
use Rattle.bl_cover.specs.Covers.{all_but_one, cut_by_slack, row_at, slack_below}
use Rattle.bl_cover.specs.declared.separator.Try.{Try}
use Rattle.bl_cover.specs.declared.separator.Try.TheVariants.{Weights, Cover}
use Rattle.bl_node.specs.declared.working.Working.{Working}
use Rattle.bl_node.specs.declared.state.State.{State}
use Rattle.bl_node.specs.Names.{AreNamedBelow, AreNumbered, AreNamed, IsRenamedFrom, DropsCuts}
use Rattle.bl_node.specs.Tried.{Gives, IsTried, AreTried}
use Rattle.bl_node.specs.Standing.{Stands, Narrows}
use Rattle.bl_node.specs.Moves.{AddsTries, MovesBy, CutMoves}
use Rattle.bl_node.proofs.Adding.{with_cuts}

-- what holds of each cut by any name holds of those that are left
pub all-renamed : (P : Cut → Type 0) (old new : List Cut)
    → ((c d : Cut) → c.terms ≡ d.terms → c.right ≡ d.right → P d → P c) → All P old
    → All (IsRenamedFrom old) new → All P new
all-renamed P old new same h r = λ i d l.
    let c = slice_index_or new i d in
    let is : IsRenamedFrom old c = r i d l in
    same c (slice_index_or old is.place c) is.terms is.right (h is.place c is.inside)

-- each cut is one of those that it is among
pub renamed-self : (cuts : List Cut) → All (IsRenamedFrom cuts) cuts
renamed-self cuts =
    λ i d l. record {
      place = i;
      inside = l;
      terms =
          ap (λ (c : Cut). c.terms) (same i d l);
      right = ap (λ (c : Cut). c.right) (same i d l);
    }
  where
    same : (i : ℕ) (d : Cut) → i < length cuts → slice_index_or cuts i d
        ≡ slice_index_or cuts i (slice_index_or cuts i d)
    same i d l = get_or_default cuts i d (slice_index_or cuts i d) l

suits-renamed : (p : Program) (c d : Cut) → c.terms ≡ d.terms → c.right ≡ d.right
    → SuitsProblem p d → SuitsProblem p c
suits-renamed p c d e f s = record { terms = rw e s.terms; right = rw f s.right }

valid-renamed : (p : Program) (c d : Cut) → c.terms ≡ d.terms → c.right ≡ d.right → IsValidCut p d
    → IsValidCut p c
valid-renamed p c d e f v = λ x h. rw (e, f) (v x h)

-- an answer with the cut by another name
abbrev renamed_in : {E : Type 0} → ItemId → Result Cut E → Result Cut E
renamed_in id (Ok c) = Ok (record { id = id; terms = c.terms; right = c.right })
renamed_in id (Err e) = Err e

renamed-if : {E : Type 0} (id : ItemId) (b : Bool) (x y : Result Cut E) (e : E) → renamed_in id x
    ≡ y → renamed_in id (cond b x (Err e)) ≡ cond b y (Err e)
renamed-if id true x y e h = h
renamed-if id false x y e h = refl

abbrev cut_named : ItemId → List Term → ℤ → Cut
cut_named id terms right = record { id = id; terms = terms; right = right }

-- the rule that makes the cut looks at no name
within-renamed : (a b : ItemId) (n : ℕ) (f : ℕ → ℤ) (right : Option ℤ)
    → renamed_in b (cut_within a n f right) ≡ cut_within b n f right
within-renamed a b n f None = refl
within-renamed a b n f (Some right) =
    let is_low = nat_le (unsigned_abs right) (10 ^ 30) in
    let made : Result Cut CutFault = Ok (cut_named a (terms_below n f) right) in
    let named : Result Cut CutFault = Ok (cut_named b (terms_below n f) right) in
    renamed-if b (are_small n f) (cond is_low made (Err TooWide))
    (cond is_low named (Err TooWide)) TooWide
    (renamed-if b is_low made named TooWide refl)

derived-renamed : (p : Program) (cuts : List Cut) (w : List ℤ) (q : ℤ) (a b : ItemId)
    → renamed_in b (derived_of p cuts w q a) ≡ derived_of p cuts w q b
derived-renamed p cuts w q a b =
    let lines = lines_of p.rows cuts in
    let n = length p.columns in
    let f = rounded (weighted_sum lines w) q in
    let right = right_of n (weighted_sum lines w) (ends_sum lines w) (own_lows p) q in
    renamed-if b (points_at_ends (length lines) lines w) (cut_within a n f right)
    (cut_within b n f right) WeightsFault
    (within-renamed a b n f right)

slack-renamed : (a b : ItemId) (listed : List ℕ) (slack : Result ℤ CoverFault)
    → renamed_in b (cut_by_slack a listed slack) ≡ cut_by_slack b listed slack
slack-renamed a b listed (Err e) = refl
slack-renamed a b listed (Ok slack) =
    renamed-if b (int_lt slack (pos 0)) (Ok (all_but_one a listed)) (Ok (all_but_one b listed))
    (Fits slack) refl

by-parts : (c cut : Cut) → c.terms ≡ cut.terms → c.right ≡ cut.right
    → record { id = c.id; terms = cut.terms; right = cut.right } ≡ c
by-parts c cut e f =
    ap (λ (t : List Term). record { id = c.id; terms = t; right = cut.right }) (sym e)
    ∙ ap (λ (r : ℤ). record { id = c.id; terms = c.terms; right = r }) (sym f)

gives-renamed : (p : Program) (d : Desc Cut) (tried : Try) (c cut : Cut) → c.terms ≡ cut.terms
    → c.right ≡ cut.right → Gives p d cut.id tried cut → Gives p d c.id tried c
gives-renamed p d (Weights pick) c cut e f g =
    sym (derived-renamed p d.cuts pick.weights pick.q cut.id c.id)
    ∙ (ap (renamed_in c.id) g ∙ ap (λ (k : Cut). Ok k) (by-parts c cut e f))
gives-renamed p d (Cover i columns) c cut e f g =
    let row = row_at p.rows i in
    sym (slack-renamed cut.id c.id columns (slack_below p.columns row.terms row.high columns))
    ∙ (ap (renamed_in c.id) g ∙ ap (λ (k : Cut). Ok k) (by-parts c cut e f))

tried-renamed : (allows : Desc Cut → Try → Type 0) (p : Program) (f : Desc Cut) (c d : Cut)
    → c.terms ≡ d.terms → c.right ≡ d.right → IsTried allows p f d → IsTried allows p f c
tried-renamed allows p f c d e h t = record {
  work = t.work;
  narrows = t.narrows;
  tried =
      t.tried;
  allowed = t.allowed;
  gives = gives-renamed p t.work.desc t.tried c d e h t.gives;
}

-- the cuts that are left come from tries too
pub drops-tries : (allows : Desc Cut → Try → Type 0) (p : Program) (f : Desc Cut)
    (old new : State) → DropsCuts f old new → AddsTries allows p f old new
drops-tries allows p f old new h = record {
  named = h.named;
  tried = λ t. all-renamed (IsTried allows p f) (fresh_in (λ (c : Cut). c.id) f.cuts
      old.work.desc.cuts) (fresh_in (λ (c : Cut). c.id) f.cuts new.work.desc.cuts)
      (tried-renamed allows p f) t h.from;
}

pub drop-moves : (allows : Desc Cut → Try → Type 0) (p : Program) (f : Desc Cut) (old new : State)
    → MovesBy (DropsCuts f) p f old new → CutMoves allows p f old new
drop-moves allows p f old new h = record {
  within = h.within;
  known = h.known;
  shrinks = h.shrinks;
  low = h.low;
  limits = h.limits;
  cuts = drops-tries allows p f old new h.cuts;
}

-- an empty list lacks all
fresh-of-none : (cuts : List Cut) → fresh_in (λ (c : Cut). c.id) [] cuts ≡ cuts
fresh-of-none [] = refl
fresh-of-none (c ∷ cuts) = ap (λ (l : List Cut). c ∷ l) (fresh-of-none cuts)

-- and so does the node's description, where it has no cuts
all-fresh : (f : Desc Cut) (cuts : List Cut) → f.cuts ≡ []
    → fresh_in (λ (c : Cut). c.id) f.cuts cuts ≡ cuts
all-fresh f cuts e = ap (λ (l : List Cut). fresh_in (λ (c : Cut). c.id) l cuts) e
    ∙ fresh-of-none cuts

part-of-none : (f : Desc Cut) (cuts : List Cut) → f.cuts ≡ []
    → IsPartThenFresh (λ (c : Cut). c.id) f.cuts cuts
part-of-none f cuts e = rw e (sym (fresh-of-none cuts))

-- numbers that rise differ, and stay below the next one
numbered-at : (seat serial : ℕ) (cuts : List Cut) (k : ℕ) (d : Cut) → AreNumbered seat serial cuts
    → k < length cuts → (slice_index_or cuts k d).id ≡ record { seat = seat; serial = serial + k }
numbered-at seat serial [] k d a l = absurd (omega (arith, l))
numbered-at seat serial (c ∷ cuts) zero d a l =
    a.0 ∙ ap (λ (n : ℕ). record { seat = seat; serial = n }) (omega arith)
numbered-at seat serial (c ∷ cuts) (suc k) d a l =
    numbered-at seat (serial + 1) cuts k d a.1 (omega (arith, l))
    ∙ ap (λ (n : ℕ). record { seat = seat; serial = n }) (omega arith)

numbered-differ : (seat serial : ℕ) (cuts : List Cut) → AreNumbered seat serial cuts
    → AllPairs (λ (a b : Cut). a.id ≢ b.id) cuts
numbered-differ seat serial cuts a = λ i j d l m e.
    let same : serial + i ≡ serial + j = ap (λ (id : ItemId). id.serial)
    (sym (numbered-at seat serial cuts i d a (omega (arith, l, m)))
    ∙ (e ∙ numbered-at seat serial cuts j d a (omega (arith, l, m)))) in
    omega (arith, same, l)

numbered-below : (seat serial n : ℕ) (cuts : List Cut) → AreNumbered seat serial cuts → n
    ≡ length cuts → AreNamedBelow seat (serial + n) cuts
numbered-below seat serial n cuts a e = λ i d l s.
    let same : (slice_index_or cuts i d).id.serial ≡ serial + i =
    ap (λ (id : ItemId). id.serial) (numbered-at seat serial cuts i d a l) in
    omega (arith, same, l, e)

-- the state with the cuts that are left
pub stands-renamed : (p : Program) (f : Desc Cut) (cutoff : Option ℤ) (w : Working)
    (cuts : List Cut) (status : List Status) → All (IsRenamedFrom w.desc.cuts) cuts
    → Stands p f cutoff w → Stands p f cutoff (with_cuts w cuts status)
stands-renamed p f cutoff w cuts status r s = record {
  best_is = s.best_is;
  found = s.found;
  better = s.better;
  inside = s.inside;
  low = s.low;
  cuts = all-renamed (IsValidCut p) w.desc.cuts cuts (valid-renamed p) s.cuts r;
}

pub narrows-renamed : (p : Program) (f : Desc Cut) (w : Working) (seat serial : ℕ)
    (cuts : List Cut) (status : List Status) → f.cuts ≡ [] → All (IsRenamedFrom w.desc.cuts) cuts
    → AreNumbered seat serial cuts → length cuts ≤ length w.desc.cuts → length status
    ≡ length cuts → Narrows p f w → Narrows p f (with_cuts w cuts status)
narrows-renamed p f w seat serial cuts status e r a few t n = record {
  describes = record {
    lows = n.describes.lows;
    highs = n.describes.highs;
    near_lows = n.describes.near_lows;
    near_highs = n.describes.near_highs;
    few_cuts = let k = n.describes.few_cuts in omega (arith, k, few);
    cuts = all-renamed (SuitsProblem p) w.desc.cuts cuts (suits-renamed p) n.describes.cuts r;
  };
  whole = record { highs = n.whole.highs; columns = n.whole.columns; cuts = t };
  rows = n.rows;
  low_width = n.low_width;
  high_width = n.high_width;
  point = n.point;
  lows_rise = n.lows_rise;
  highs_fall = n.highs_fall;
  part = part-of-none f cuts e;
  ids = numbered-differ seat serial cuts a;
  few = n.few;
  decided = n.decided;
}

-- a list of cuts without one before is fresh, named and renamed
pub drops-cuts : (f : Desc Cut) (old : State) (w : Working) (made : ℕ) → f.cuts ≡ []
    → All (IsRenamedFrom old.work.desc.cuts) w.desc.cuts
    → AreNumbered old.limits.seat old.limits.serial w.desc.cuts
    → length w.desc.cuts ≤ length old.work.desc.cuts → made ≡ length w.desc.cuts
    → DropsCuts f old (record { work = w; limits = old.limits; made = made; is_shut = old.is_shut })
drops-cuts f old w made e r a few m =
    let before = all-fresh f old.work.desc.cuts e in
    let after = all-fresh f w.desc.cuts e in
    record {
      named = λ n.
          let was : length old.work.desc.cuts ≡ old.made =
          subst (λ (l : List Cut). length l ≡ old.made) before n.made in
          let k = n.few in
          record {
            numbered = rw after a;
            made = rw after (sym m);
            few = omega (arith, few, m, was, k);
            parent_below = n.parent_below;
            below = numbered-below old.limits.seat old.limits.serial made w.desc.cuts a m;
          };
      from = rw (before, after) r;
    }

pub drops-none : (f : Desc Cut) (s : State) → DropsCuts f s s
drops-none f s = record {
  named =
      λ n. n;
  from = renamed-self (fresh_in (λ (c : Cut). c.id) f.cuts s.work.desc.cuts);
}

-- a cut by another name
pub renamed-one : (cuts : List Cut) (at : ℕ) (c d cut : Cut) (id : ItemId) → at < length cuts → c
    ≡ slice_index_or cuts at c → d ≡ c
    → cut ≡ record { id = id; terms = d.terms; right = d.right } → IsRenamedFrom cuts cut
renamed-one cuts at c d cut id l e g h =
    let same : d ≡ slice_index_or cuts at cut = g ∙ (e ∙ get_or_default cuts at c cut l) in
    record {
      place = at;
      inside = l;
      terms = ap (λ (k : Cut). k.terms) h ∙ ap (λ (k : Cut). k.terms) same;
      right = ap (λ (k : Cut). k.right) h ∙ ap (λ (k : Cut). k.right) same;
    }
