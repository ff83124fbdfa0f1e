-- What a list of words asks for.
use Rattle.std.specs.Prelude.{◌≡◌, ◌≤◌, ◌<◌, ◌^◌, ◌&&◌, ℕ, pos, Bool, true, false, List, codes}
use Rattle.std.specs.Prelude.{Option, Some, None, IfSome, if◌then◌else◌}
use Rattle.std.specs.Str.{bytes_eq}
use Rattle.bl_pool.specs.declared.key.Order.{Order}
use Rattle.bl_pool.specs.declared.key.Order.TheVariants.{Best, Depth}
use Rattle.bl_cover.specs.declared.separator.CutKinds.{CutKinds}
use Rattle.bl_cover.specs.declared.separator.CutKinds.TheVariants.{Rows, Covers, Both}
use Rattle.bl_journal.specs.declared.limits.TheConstants.{MOST_NODES, MOST_SPAN, MOST_WORKERS}
use Rattle.bl_words.specs.declared.wish.TheConstants.{MOST_GAP}
use Rattle.bl_words.specs.Words.{Spell, Text, Use, has, number_in, number_or, options, value_of}
use Rattle.bl_words.specs.declared.wish.Wish.{Wish}
use Rattle.bl_words.specs.declared.wish.GenWish.{GenWish}

abbrev pub order_of : Option Text → Option Order
order_of None = Some Best
order_of (Some text) = if bytes_eq text (codes "best") then Some Best else if bytes_eq text (codes "depth") then Some Depth else None

-- whether the value asks to split in the middle
abbrev pub half_of : Option Text → Option Bool
half_of None = Some false
half_of (Some text) = if bytes_eq text (codes "half") then Some true else if bytes_eq text (codes "fraction") then Some false else None

-- the kinds of cuts that the value asks for
abbrev pub cuts_of : Option Text → Option CutKinds
cuts_of None = Some Both
cuts_of (Some text) =
    if bytes_eq text (codes "rows") then Some Rows else
    if bytes_eq text (codes "covers") then Some Covers else
    if bytes_eq text (codes "both") then Some Both else None

abbrev pub both_sizes : ℕ → Option ℕ → Option ℕ → Option (Option GenWish)
both_sizes start (Some columns) (Some rows) =
    Some (Some (record { start = start; columns = columns; rows = rows }))
both_sizes start _ _ = None

abbrev pub sizes_of : Option ℕ → Option ℕ → Option ℕ → Option (Option GenWish)
sizes_of None columns rows = None
sizes_of (Some start) columns rows = both_sizes start columns rows

-- the generated problem; its sizes may be named only beside its start
abbrev pub generate_of : Option Text → Option Text → Option Text → Option (Option GenWish)
generate_of None None None = Some None
generate_of None _ _ = None
generate_of (Some start) columns rows =
    sizes_of (number_in 0 2147483647 start) (number_or 1 1000 30 columns) (number_or 0 1000 10 rows)

-- the values that options have, and whether the flags stand, ask for this; each range and
-- default stands here
pub record Asks (value : Text → Option Text) (write log : Bool) (w : Wish) : Type 0 where
  pub workers : number_or 1 MOST_WORKERS 1 (value (codes "workers")) ≡ Some w.workers
  pub nodes : number_or 0 MOST_NODES 20000 (value (codes "nodes")) ≡ Some w.settings.nodes
  pub span : number_or 1 MOST_SPAN 8 (value (codes "span")) ≡ Some w.settings.span
  pub order : order_of (value (codes "order")) ≡ Some w.settings.order
  pub half : half_of (value (codes "branch")) ≡ Some w.half
  pub gap : number_or 0 MOST_GAP 0 (value (codes "gap")) ≡ Some w.gap
  pub cuts : cuts_of (value (codes "cuts")) ≡ Some w.cuts
  pub unscaled : w.settings.gap ≡ pos 0
  pub generate : generate_of (value (codes "gen")) (value (codes "columns")) (value (codes "rows")) ≡ Some w.generate
  pub writes : w.write ≡ write
  pub logs : w.log ≡ log
  -- a problem that is written is not searched, so there is no log
  pub apart : (write && log) ≡ false

-- the words after the name of a program mean this wish; `one` is true for the program without
-- workers
pub record Means (one : Bool) (words : List Text) (w : Wish) : Type 0 where
  pub uses : List Use
  pub spelled : Spell (options one) words uses
  pub asked : Asks (λ name. value_of name uses) (has (codes "write") uses) (has (codes "log") uses) w

abbrev pub MeansNothing : Bool → List Text → Type 0
MeansNothing one words = (w : Wish) → Means one words w → ⊥

-- ---- what holds of each wish

-- the sizes of a problem that can be made
pub record AreSizes (g : GenWish) : Type 0 where
  pub start : g.start < 2 ^ 31
  pub some_columns : 1 ≤ g.columns
  pub few_columns : g.columns ≤ 1000
  pub few_rows : g.rows ≤ 1000

pub record IsWithinRanges (w : Wish) : Type 0 where
  pub some_workers : 1 ≤ w.workers
  pub few_workers : w.workers ≤ MOST_WORKERS
  pub few_nodes : w.settings.nodes ≤ MOST_NODES
  pub some_span : 1 ≤ w.settings.span
  pub few_span : w.settings.span ≤ MOST_SPAN
  pub few_gap : w.gap ≤ MOST_GAP
  pub unscaled : w.settings.gap ≡ pos 0
  pub sizes : IfSome w.generate AreSizes
