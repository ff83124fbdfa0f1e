-- Each wish is within its ranges, and a list of words means one at most.
use Rattle.std.proofs.Common.{ℤ, ◌≡◌, ◌∙◌, ◌≤◌, ◌&&◌, ℕ, Bool, cond, true, false, refl, sym, ap}
use Rattle.std.proofs.Common.{subst, List, Option, Some, None, codes, length, nat_le, arith}
use Rattle.std.specs.Prelude.{IfSome}
use Rattle.std.proofs.lemmas.Bool.{leb-true}
use Rattle.bl_pool.specs.declared.key.Order.{Order}
use Rattle.bl_cover.specs.declared.separator.CutKinds.{CutKinds}
use Rattle.bl_journal.specs.declared.settings.Settings.{Settings}
use Rattle.bl_journal.specs.declared.limits.TheConstants.{MOST_NODES, MOST_SPAN, MOST_WORKERS}
use Rattle.bl_words.specs.declared.wish.TheConstants.{MOST_GAP}
use Rattle.bl_words.specs.Words.{Text, Use, digits_from, in_range, has, number_in, number_or}
use Rattle.bl_words.specs.Words.{value_of}
use Rattle.bl_words.specs.Wishes.{AreSizes, Asks, IsWithinRanges, Means, generate_of, sizes_of}
use Rattle.bl_words.specs.declared.wish.Wish.{Wish}
use Rattle.bl_words.specs.declared.wish.GenWish.{GenWish}
use Rattle.bl_words.proofs.Steps.{some≢none, some_same}

abbrev IsFrom : ℕ → ℕ → ℕ → Type 0
IsFrom least most n = (least ≤ n) × (n ≤ most)

range_kept : (least most n : ℕ) (o : Option ℕ) → in_range least most o ≡ Some n
    → IsFrom least most n
range_kept least most n None e = absurd (some≢none n (sym e))
range_kept least most n (Some m) e = go (nat_le least m) (nat_le m most) refl refl e
  where
    go : (a b : Bool) → nat_le least m ≡ a → nat_le m most ≡ b → cond (a && b) (Some m) None
        ≡ Some n → IsFrom least most n
    go true true low high e' = let same : m ≡ n =
        some_same m n e' in (
          omega (arith, leb-true least m low, same),
          omega
              (arith, leb-true m most high, same),
        )
    go true false low high e' = absurd (some≢none n (sym e'))
    go false b low high e' = absurd (some≢none n (sym e'))

number_kept : (least most n : ℕ) (text : Text) → number_in least most text ≡ Some n
    → IsFrom least most n
number_kept least most n text e = go (nat_le 1 (length text) && nat_le (length text) 10) e
  where
    go : (b : Bool) → cond b (in_range least most (digits_from 0 text)) None ≡ Some n
        → IsFrom least most n
    go true e' = range_kept least most n (digits_from 0 text) e'
    go false e' = absurd (some≢none n (sym e'))

or_kept : (least most otherwise n : ℕ) (o : Option Text) → IsFrom least most otherwise
    → number_or least most otherwise o ≡ Some n → IsFrom least most n
or_kept least most otherwise n None from e =
    subst (IsFrom least most) (some_same otherwise n e) from
or_kept least most otherwise n (Some text) from e = number_kept least most n text e

sizes_kept : (start columns rows : Option ℕ) (g : Option GenWish)
    → ((n : ℕ) → start ≡ Some n → IsFrom 0 2147483647 n)
    → ((n : ℕ) → columns ≡ Some n → IsFrom 1 1000 n) → ((n : ℕ) → rows ≡ Some n → IsFrom 0 1000 n)
    → sizes_of start columns rows ≡ Some g → IfSome g AreSizes
sizes_kept None columns rows g s c r e = absurd (some≢none g (sym e))
sizes_kept (Some start) None rows g s c r e = absurd (some≢none g (sym e))
sizes_kept (Some start) (Some columns) None g s c r e = absurd (some≢none g (sym e))
sizes_kept (Some start) (Some columns) (Some rows) g s c r e =
    subst (λ (x : Option GenWish). IfSome x AreSizes) (some_same _ g e)
    (record {
      start = omega (arith, s start refl);
      some_columns =
          (c columns refl).0;
      few_columns = (c columns refl).1;
      few_rows = (r rows refl).1;
    })

generate_kept : (start columns rows : Option Text) (g : Option GenWish)
    → generate_of start columns rows ≡ Some g → IfSome g AreSizes
generate_kept None None None g e =
    subst (λ (x : Option GenWish). IfSome x AreSizes) (some_same None g e) tt
generate_kept None None (Some rows) g e = absurd (some≢none g (sym e))
generate_kept None (Some columns) rows g e = absurd (some≢none g (sym e))
generate_kept (Some start) columns rows g e =
    sizes_kept (number_in 0 2147483647 start) (number_or 1 1000 30 columns)
    (number_or 0 1000 10 rows) g
    (λ n. number_kept 0 2147483647 n start)
    (λ n. or_kept 1 1000 30 n columns (omega arith, omega arith))
    (λ n. or_kept 0 1000 10 n rows (omega arith, omega arith)) e

pub within_ranges : (value : Text → Option Text) (write log : Bool) (w : Wish)
    → Asks value write log w → IsWithinRanges w
within_ranges value write log w a =
    let workers = or_kept 1 MOST_WORKERS 1 w.workers (value (codes "workers")) (omega arith, omega arith) a.workers in
    let span = or_kept 1 MOST_SPAN 8 w.settings.span (value (codes "span")) (omega arith, omega arith) a.span in
    record {
      some_workers = workers.0;
      few_workers = workers.1;
      few_nodes = (or_kept 0 MOST_NODES 20000 w.settings.nodes (value (codes "nodes")) (omega arith, omega arith) a.nodes).1;
      some_span = span.0;
      few_span = span.1;
      few_gap = (or_kept 0 MOST_GAP 0 w.gap (value (codes "gap")) (omega arith, omega arith) a.gap).1;
      unscaled = a.unscaled;
      sizes = generate_kept (value (codes "gen")) (value (codes "columns")) (value (codes "rows")) w.generate a.generate;
    }

-- ---- one meaning

abbrev settings : ℕ → ℕ → Order → ℤ → Settings
settings nodes span order gap = record { nodes = nodes; span = span; order = order; gap = gap }

settings_same : (s t : Settings) → s.nodes ≡ t.nodes → s.span ≡ t.span → s.order ≡ t.order → s.gap
    ≡ t.gap → s ≡ t
settings_same s t nodes span order gap =
    ap (λ n. settings n s.span s.order s.gap) nodes ∙ ap (λ n. settings t.nodes n s.order s.gap)
    span
    ∙ ap (λ o. settings t.nodes t.span o s.gap) order
    ∙ ap (λ g. settings t.nodes t.span t.order g) gap

abbrev wish : ℕ → Settings → Bool → ℕ → CutKinds → Option GenWish → Bool → Bool → Wish
wish workers settings half gap cuts generate write log =
    record {
      workers = workers;
      settings = settings;
      half = half;
      gap = gap;
      cuts =
          cuts;
      generate = generate;
      write = write;
      log = log;
    }

wish_same : (v w : Wish) → v.workers ≡ w.workers → v.settings ≡ w.settings → v.half ≡ w.half
    → v.gap ≡ w.gap → v.cuts ≡ w.cuts → v.generate ≡ w.generate → v.write ≡ w.write → v.log
    ≡ w.log → v ≡ w
wish_same v w workers settings half gap cuts generate write log =
    ap (λ n. wish n v.settings v.half v.gap v.cuts v.generate v.write v.log) workers
    ∙ ap (λ s. wish w.workers s v.half v.gap v.cuts v.generate v.write v.log) settings
    ∙ ap (λ b. wish w.workers w.settings b v.gap v.cuts v.generate v.write v.log) half
    ∙ ap (λ n. wish w.workers w.settings w.half n v.cuts v.generate v.write v.log) gap
    ∙ ap (λ k. wish w.workers w.settings w.half w.gap k v.generate v.write v.log) cuts
    ∙ ap (λ g. wish w.workers w.settings w.half w.gap w.cuts g v.write v.log) generate
    ∙ ap (λ b. wish w.workers w.settings w.half w.gap w.cuts w.generate b v.log) write
    ∙ ap (λ b. wish w.workers w.settings w.half w.gap w.cuts w.generate w.write b) log

pub one_asked : (value : Text → Option Text) (write log : Bool) (v w : Wish)
    → Asks value write log v → Asks value write log w → v ≡ w
one_asked value write log v w a b = wish_same v w
    (some_same _ _ (sym a.workers ∙ b.workers))
    (settings_same v.settings w.settings (some_same _ _ (sym a.nodes ∙ b.nodes))
    (some_same _ _ (sym a.span ∙ b.span)) (some_same _ _ (sym a.order ∙ b.order))
    (a.unscaled ∙ sym b.unscaled))
    (some_same _ _ (sym a.half ∙ b.half))
    (some_same _ _ (sym a.gap ∙ b.gap))
    (some_same _ _ (sym a.cuts ∙ b.cuts))
    (some_same _ _ (sym a.generate ∙ b.generate))
    (a.writes ∙ sym b.writes)
    (a.logs ∙ sym b.logs)

pub one_wish : (one : Bool) (words : List Text) (v w : Wish) → Means one words v
    → Means one words w → v ≡ w
one_wish one words v w m n =
    let same : n.uses ≡ m.uses = some_same _ _ (sym n.spelled.uses_are ∙ m.spelled.uses_are) in
    one_asked (λ name. value_of name m.uses) (has (codes "write") m.uses) (has (codes "log") m.uses) v w m.asked
    (subst (λ (us : List Use). Asks (λ name. value_of name us) (has (codes "write") us) (has (codes "log") us) w) same n.asked)
