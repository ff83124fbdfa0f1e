-- The bounds keep their number and their limits through the steps of a pass.
use Rattle.std.proofs.Common.{◌≡◌, ℕ, zero, suc, ◌+◌, ◌<◌, ◌≤◌, ◌^◌, ℤ, pos, negsuc, ◌+ℤ◌, ◌-ℤ◌}
use Rattle.std.proofs.Common.{◌≤ℤ◌, arith, List, [], ◌∷◌, ◌++◌, length, All, Option, Some, None}
use Rattle.std.proofs.Common.{Bool, true, false, cond, refl, sym, ◌∙◌, slice_set, int_lt, take}
use Rattle.std.proofs.Common.{add-one}
use Rattle.std.proofs.lemmas.Int.{ints}
use Rattle.std.proofs.lemmas.List.{length-set, length-append}
use Rattle.std.proofs.lemmas.List.Elements.{All-set, All-take, All-push}
use Rattle.bl_problem.specs.Rows.{AreTerms}
use Rattle.bl_num.specs.Exact.{at, floor_of}
use Rattle.bl_num.proofs.Quotients.{floor_range}
use Rattle.bl_problem.specs.Sums.{IsWithin}
use Rattle.bl_problem.specs.declared.problem.Term.{Term}
use Rattle.bl_problem.specs.declared.decision.Side.TheVariants.{AtLeast, AtMost}
use Rattle.bl_bound.specs.Lines.{Line, line_at}
use Rattle.bl_prop.specs.declared.pass.Pass.{Pass}
use Rattle.bl_prop.specs.Passes.{turned, least_of, lowered_high, raised_low, cut_by, is_full}
use Rattle.bl_prop.specs.Passes.{cut_term, cut_terms, is_over, by_slack, end_step, line_step}
use Rattle.bl_prop.specs.Passes.{walked, IsNear}
use Rattle.bl_prop.specs.Limits.{AreLines, IsDecision, AreDecisions}
use Rattle.bl_problem.specs.declared.decision.Decision.{Decision}
use Rattle.std.proofs.lemmas.Bool.Decides.{nat_tests}

pub record StaysNear (a b : Pass) : Type 0 where
  pub near : IsNear b
  pub width : length b.lows ≡ length a.lows

stays : (pass : Pass) → IsNear pass → StaysNear pass pass
stays pass h = record { near = h; width = refl }

then : (a b c : Pass) → StaysNear a b → StaysNear b c → StaysNear a c
then a b c h k = record { near = k.near; width = k.width ∙ h.width }

-- one more decision
decided-more : (n : ℕ) (ds : List Decision) (d : Decision) → AreDecisions n ds → length ds < 256
    → d.column < n → IsWithin (10 ^ 9) d.value → AreDecisions n (ds ++ d ∷ [])
decided-more n ds d h f c v = record {
  few = let e = length-append ds (d ∷ []) in omega (arith, e, f);
  each = All-push (IsDecision n) ds d h.each (record { column = c; value = v });
}

lowered_high-near : (j : ℕ) (v : ℤ) (pass : Pass) → IsNear pass → length pass.decisions < 256 → j
    < length pass.lows → pos 0 ≤ℤ (v +ℤ pos (10 ^ 9)) → StaysNear pass (lowered_high j v pass)
lowered_high-near j v pass h f l p = by (int_lt v (at pass.highs j)) refl
  where
    by : (t : Bool) → int_lt v (at pass.highs j) ≡ t →
        StaysNear pass
        (cond t (record {
          lows = pass.lows;
          highs = slice_set pass.highs j v;
          decisions =
              pass.decisions ++ record { column = j; side = AtMost; value = v } ∷ [];
          stuck =
              pass.stuck;
        }) pass)
    by true e =
        let w = h.near_highs j (pos 0) (omega (arith, h.highs)) in
        let near : IsWithin (10 ^ 9) v = omega (arith, ints, e, w, p) in
        record {
          near = record {
            few = h.few;
            highs = length-set pass.highs j v ∙ h.highs;
            near_lows =
                h.near_lows;
            near_highs = All-set (IsWithin (10 ^ 9)) pass.highs j v near
                h.near_highs;
            decisions =
                decided-more (length pass.lows) pass.decisions _ h.decisions f l near;
          };
          width = refl;
        }
    by false e = stays pass h

raised_low-near : (j : ℕ) (v : ℤ) (pass : Pass) → IsNear pass → length pass.decisions < 256 → j
    < length pass.lows → v ≤ℤ pos (10 ^ 9) → StaysNear pass (raised_low j v pass)
raised_low-near j v pass h f l p = by (int_lt (at pass.lows j) v) refl
  where
    by : (t : Bool) → int_lt (at pass.lows j) v ≡ t →
        StaysNear pass
        (cond t (record {
          lows = slice_set pass.lows j v;
          highs = pass.highs;
          decisions =
              pass.decisions ++ record { column = j; side = AtLeast; value = v } ∷ [];
          stuck =
              pass.stuck;
        }) pass)
    by true e =
        let w = h.near_lows j (pos 0) l in
        let near : IsWithin (10 ^ 9) v = omega (arith, ints, e, w, p) in
        record {
          near = record {
            few = rw (length-set pass.lows j v) h.few;
            highs =
                h.highs ∙ sym (length-set pass.lows j v);
            near_lows = All-set (IsWithin (10 ^ 9))
                pass.lows j v near h.near_lows;
            near_highs = h.near_highs;
            decisions =
                rw (length-set pass.lows j v)
                (decided-more (length pass.lows) pass.decisions _ h.decisions f l near);
          };
          width = length-set pass.lows j v;
        }
    by false e = stays pass h

cut_by-near : (s : ℤ) (j : ℕ) (a : ℤ) (pass : Pass) → IsNear pass → length pass.decisions < 256
    → j < length pass.lows → pos 0 ≤ℤ s → StaysNear pass (cut_by s j a pass)
cut_by-near s j (pos zero) pass h f l p = stays pass h
cut_by-near s j (pos (suc a)) pass h f l p =
    let r = floor_range s (pos (suc a)) (omega (arith, ints)) p in
    let w = h.near_lows j (pos 0) l in
    lowered_high-near j (at pass.lows j +ℤ floor_of s (pos (suc a))) pass h f l
    (omega (arith, ints, r.0, w))
cut_by-near s j (negsuc a) pass h f l p =
    let r = floor_range s (pos (suc a)) (omega (arith, ints)) p in
    let w = h.near_highs j (pos 0) (omega (arith, h.highs)) in
    raised_low-near j (at pass.highs j -ℤ floor_of s (pos (suc a))) pass h f l
    (omega (arith, ints, r.0, w))

cut_term-near : (negate : Bool) (s : ℤ) (pass : Pass) (t : Term) → IsNear pass → t.column
    < length pass.lows → pos 0 ≤ℤ s → StaysNear pass (cut_term negate s pass t)
cut_term-near negate s pass t h l p = by (is_full pass) refl
  where
    by : (c : Bool) → is_full pass ≡ c
        → StaysNear pass (cond c pass (cut_by s t.column (turned negate t.coefficient) pass))
    by true e = stays pass h
    by false e = cut_by-near s t.column (turned negate t.coefficient) pass h
        (grind (arith, nat_tests)) l p

pub cut_terms-near : (negate : Bool) (s : ℤ) (n : ℕ) (terms : List Term) (pass : Pass)
    → IsNear pass → length pass.lows ≡ n → All (λ t. t.column < n) terms → pos 0 ≤ℤ s →
    StaysNear pass (cut_terms negate s terms pass)
cut_terms-near negate s n [] pass h w c p = stays pass h
cut_terms-near negate s n (t ∷ terms) pass h w c p =
    let l = c 0 t (omega arith) in
    let k = cut_term-near negate s pass t h (omega (arith, w, l)) p in
    let next = cut_term negate s pass t in
    then pass next (cut_terms negate s terms next) k
    (cut_terms-near negate s n terms next k.near (k.width ∙ w)
    (λ i d m. c (suc i) d (omega arith)) p)

by_slack-near : (i : ℕ) (negate : Bool) (n : ℕ) (terms : List Term) (s : ℤ) (pass : Pass)
    → IsNear pass → length pass.lows ≡ n → All (λ t. t.column < n) terms →
    StaysNear pass (by_slack i negate terms s pass)
by_slack-near i negate n terms s pass h w c = by (int_lt s (pos 0)) refl
  where
    by : (t : Bool) → int_lt s (pos 0) ≡ t → StaysNear pass
        (cond t (record {
          lows = pass.lows;
          highs = pass.highs;
          decisions =
              pass.decisions;
          stuck = Some i;
        }) (cut_terms negate s terms pass))
    by true e =
        record {
          near = record {
            few = h.few;
            highs = h.highs;
            near_lows =
                h.near_lows;
            near_highs = h.near_highs;
            decisions = h.decisions;
          };
          width = refl;
        }
    by false e = cut_terms-near negate s n terms pass h w c (omega (arith, ints, e))

pub end_step-near : (i : ℕ) (negate : Bool) (n : ℕ) (terms : List Term) (end : Option ℤ)
    (pass : Pass) → IsNear pass → length pass.lows ≡ n → All (λ t. t.column < n) terms →
    StaysNear pass (end_step i negate terms end pass)
end_step-near i negate n terms None pass h w c = stays pass h
end_step-near i negate n terms (Some end) pass h w c = by (is_over pass)
  where
    by : (t : Bool)
        → StaysNear pass
        (cond t pass (by_slack i negate terms
        (turned negate end -ℤ least_of negate terms pass.lows pass.highs) pass))
    by true = stays pass h
    by false = by_slack-near i negate n terms
        (turned negate end -ℤ least_of negate terms pass.lows pass.highs) pass h w c

line_step-near : (i : ℕ) (n : ℕ) (line : Line) (pass : Pass) → IsNear pass → length pass.lows ≡ n
    → All (λ t. t.column < n) line.terms → StaysNear pass (line_step i line pass)
line_step-near i n line pass h w c =
    let k = end_step-near i false n line.terms line.high pass h w c in
    let next = end_step i false line.terms line.high pass in
    then pass next (line_step i line pass) k
    (end_step-near i true n line.terms line.low next k.near (k.width ∙ w) c)

pub walked-near : (m : ℕ) (n : ℕ) (lines : List Line) (pass : Pass) → m ≤ length lines
    → IsNear pass → length pass.lows ≡ n → AreLines n lines → StaysNear pass (walked m lines pass)
unfolding walked
walked-near zero n lines pass l h w c = stays pass h
walked-near (suc m) n lines pass l h w c =
    let k = walked-near m n lines pass (omega arith) h w c in
    let next = walked m lines pass in
    let line = c m (record { terms = []; low = None; high = None }) (omega arith) in
    then pass next (line_step m (line_at lines m) next) k
    (line_step-near m n (line_at lines m) next k.near (k.width ∙ w)
    (λ i d q. (line.terms.each i d q).column))

-- the columns of terms
pub columns-in : (n : ℕ) (terms : List Term) → AreTerms n terms → All (λ t. t.column < n) terms
columns-in n terms h = λ k d l. (h.each k d l).column

-- after the first k terms
pub front-near : (negate : Bool) (s : ℤ) (terms : List Term) (k : ℕ) (pass self : Pass)
    → IsNear pass → AreTerms (length pass.lows) terms → pos 0 ≤ℤ s →
    self ≡ cut_terms negate s (take k terms) pass → StaysNear pass self
front-near negate s terms k pass self h c p e =
    rw e (cut_terms-near negate s (length pass.lows) (take k terms) pass h refl
    (All-take (λ t. t.column < length pass.lows) k terms
    (columns-in (length pass.lows) terms c)) p)

-- after one end of a line
pub end-near : (i : ℕ) (negate : Bool) (terms : List Term) (end : Option ℤ) (pass self : Pass)
    → IsNear pass → AreTerms (length pass.lows) terms →
    self ≡ end_step i negate terms end pass → StaysNear pass self
end-near i negate terms end pass self h c e =
    rw e (end_step-near i negate (length pass.lows) terms end pass h refl
    (columns-in (length pass.lows) terms c))

-- after the first n lines
pub lines-near : (n : ℕ) (lines : List Line) (pass self : Pass) → n ≤ length lines → IsNear pass
    → AreLines (length pass.lows) lines → self ≡ walked n lines pass → StaysNear pass self
lines-near n lines pass self l h c e = rw e (walked-near n (length pass.lows) lines pass l h refl c)

pub walked-start : (lines : List Line) (pass : Pass) → walked 0 lines pass ≡ pass
unfolding walked
walked-start lines pass = refl

pub walked-more : (n : ℕ) (lines : List Line) (pass : Pass) → walked (n + 1) lines pass
    ≡ line_step n (line_at lines n) (walked n lines pass)
unfolding walked
walked-more n lines pass = rw add-one refl
