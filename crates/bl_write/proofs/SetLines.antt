-- The lines of RHS, RANGES and BOUNDS, read.
use Rattle.std.proofs.Common.{◌≡◌, ◌<◌, ◌≤◌, ◌^◌, ◌∙◌, ◌&&◌, ◌||◌, ℕ, ℤ, Bool, true, false, List}
use Rattle.std.proofs.Common.{[], ◌∷◌, ◌++◌, map, ap, sym, refl, arith, codes, Some, append_assoc}
use Rattle.std.proofs.Common.{append-nil, All, nat_abs}
use Rattle.std.specs.Prelude.{AllPairs, Ok}
use Rattle.std.proofs.lemmas.List.Elements.{All-cons, All-head, All-nil, All-tail}
use Rattle.bl_num.specs.Texts.{text_of}
use Rattle.bl_problem.specs.declared.problem.Column.{Column}
use Rattle.bl_problem.specs.Program.{IsName, IsVisible, Program}
use Rattle.bl_cards.specs.declared.kind.Act.{Act}
use Rattle.bl_cards.specs.declared.kind.Act.TheVariants as act
use Rattle.bl_cards.specs.declared.kind.Section.TheVariants.{Bounds}
use Rattle.bl_cards.specs.Said.{Card, Given, Grid, RowLine, Said, SetOf, no_set, place_of, same}
use Rattle.bl_cards.specs.Said.{◌>>=◌}
use Rattle.bl_cards.specs.Lines.{bounds_line, data_line, given_line, has_given, is_first_set}
use Rattle.bl_cards.specs.Lines.{is_objective, is_passed, number_words}
use Rattle.bl_cards.specs.Reading.{after_line, is_end}
use Rattle.bl_cards.proofs.Differing.{same_self}
use Rattle.bl_write.specs.Layout.{Text}
use Rattle.bl_write.specs.Written.{Amount, bound_line, ends_lines, number_line}
use Rattle.bl_write.proofs.Lines.{words_laid}
use Rattle.bl_write.proofs.Names.{Apart, IsKnown, known_word, number_at-known, other_name}
use Rattle.bl_write.proofs.Names.{pairs_head, pairs_tail, turned}
use Rattle.bl_write.proofs.Numbers.{bound_reads, number_name}
use Rattle.bl_write.proofs.States.{bounds_said, cards_said, given_said, high_card, low_card}
use Rattle.bl_write.proofs.States.{set_said, state}
use Rattle.bl_write.proofs.Steps.{Goes, data_read, goes_first, goes_same, stays}

-- ---- numbers of rows

-- no number stands for the rows of these amounts
abbrev AreFresh : List Given → List Amount → Type 0
AreFresh given amounts = All (λ a. has_given given a.name ≡ false) amounts

has_push : (given : List Given) (g : Given) (row : Text) → has_given given row ≡ false
    → same row g.row ≡ false → has_given (given ++ g ∷ []) row ≡ false
has_push [] g row h n = rw n refl
has_push (x ∷ given) g row h n = by (same row x.row) h (has_push given g row)
  where
    by : (t : Bool) → (t || has_given given row) ≡ false
        → (has_given given row ≡ false → same row g.row ≡ false → has_given (given ++ g ∷ []) row
        ≡ false) → (t || has_given (given ++ g ∷ []) row) ≡ false
    by true e ih = absurd cc
    by false e ih = ih e n

fresh_push : (given : List Given) (a : Amount) (amounts : List Amount) → AreFresh given amounts
    → All (Apart a) amounts → AreFresh (given ++ given_said a ∷ []) amounts
fresh_push given a amounts fresh apart k d k_in =
    has_push given (given_said a) _ (fresh k d k_in)
    (other_name _ a.name (turned a.name _ (apart k d k_in)))

-- the objective is none of them, where it is passed over
abbrev pub IsCounted : Bool → List RowLine → Amount → Type 0
IsCounted o rows a = (k : IsKnown rows a) × ((o && is_objective k.role) ≡ false)

given_read : (o : Bool) (rows : List RowLine) (s : SetOf Given) (set : Text) (a : Amount)
    → is_first_set s.set set ≡ true → IsCounted o rows a → has_given s.given a.name ≡ false
    → given_line o rows s (set ∷ a.name ∷ text_of a.value a.places ∷ [])
    ≡ Ok (record { set = Some set; given = s.given ++ given_said a ∷ [] })
given_read o rows s set a first k new =
    let passed : is_passed o (k.0).role ≡ false = rw ((k.0).counts) k.1 in
    rw first (rw ((k.0).known, number_at-known rows a k.0) (rw passed (rw new refl)))

-- the section that is open, with its set
pub record IsSection (p : Program) (o : Bool) (rows : List RowLine) (embed : SetOf Given → Said) :
    Type 0 where
  pub open_still : (x : SetOf Given) → is_end (embed x).section ≡ false
  pub reads : (x : SetOf Given) (words : List Text) → data_line (embed x).section (embed x) words
      ≡ (given_line o rows x words >>= λ y. Ok (embed y))

module _ (p : Program) (o : Bool) (rows : List RowLine) (set : Text) (n : IsName set)
    (embed : SetOf Given → Said) (section : IsSection p o rows embed) where
  line_read : (x y : SetOf Given) (a : Amount) → IsKnown rows a
      → given_line o rows x (set ∷ a.name ∷ text_of a.value a.places ∷ []) ≡ Ok y
      → after_line (embed x) (number_line set a) ≡ Ok (embed y)
  line_read x y a k is =
      data_read (embed x) _ set (a.name ∷ text_of a.value a.places ∷ [])
      (words_laid (5, set) ((15, a.name) ∷ (25, text_of a.value a.places) ∷ []) n
      (All-cons (λ g. IsName g.1) (15, a.name) ((25, text_of a.value a.places) ∷ []) k.name.name
      (All-cons (λ g. IsName g.1) (25, text_of a.value a.places) [] (known_word rows a k)
      (All-nil (λ g. IsName g.1)))))
      ∙ section.reads x (set ∷ a.name ∷ text_of a.value a.places ∷ [])
      ∙ ap (λ z. z >>= λ w. Ok (embed w)) is

  abbrev named : List Given → SetOf Given
  named given = record { set = Some set; given = given }

  given_fold : (given : List Given) (amounts : List Amount) → All (IsCounted o rows) amounts
      → AllPairs Apart amounts → AreFresh given amounts
      → Goes (embed (named given)) (map (number_line set) amounts)
      (embed (named (given ++ map given_said amounts)))
  given_fold given [] known apart fresh =
      goes_same (embed (named given)) (embed (named given)) (embed (named (given ++ [])))
      (embed (named given)) [] refl (ap (λ gs. embed (named gs)) (sym (append-nil given)))
      (stays (embed (named given)))
  given_fold given (a ∷ amounts) known apart fresh =
      let k = All-head (IsCounted o rows) a amounts known in
      let more = given ++ given_said a ∷ [] in
      goes_first (embed (named given)) (embed (named more))
      (embed (named (given ++ given_said a ∷ map given_said amounts))) (number_line set a)
      (map (number_line set) amounts)
      (section.open_still (named given))
      (line_read (named given) (named more) a k.0 (given_read o rows (named given) set a
      (same_self set) k (All-head (λ (b : Amount). has_given given b.name ≡ false) a amounts
      fresh)))
      (goes_same (embed (named more)) (embed (named more))
      (embed (named (given ++ given_said a ∷ map given_said amounts)))
      (embed (named (more ++ map given_said amounts))) (map (number_line set) amounts) refl
      (ap (λ gs. embed (named gs))
      (append_assoc given (given_said a ∷ []) (map given_said amounts)))
      (given_fold more amounts (All-tail (IsCounted o rows) a amounts known)
      (pairs_tail Apart a amounts apart)
      (fresh_push given a amounts (All-tail (λ (b : Amount). has_given given b.name ≡ false) a
      amounts fresh) (pairs_head Apart a amounts apart))))

  -- the first line names the set
  pub given_all : (a : Amount) (amounts : List Amount) → All (IsCounted o rows) (a ∷ amounts)
      → AllPairs Apart (a ∷ amounts)
      → Goes (embed no_set) (map (number_line set) (a ∷ amounts))
      (embed (set_said set (a ∷ amounts)))
  given_all a amounts known apart =
      let k = All-head (IsCounted o rows) a amounts known in
      goes_first (embed no_set) (embed (named (given_said a ∷ [])))
      (embed (set_said set (a ∷ amounts))) (number_line set a) (map (number_line set) amounts)
      (section.open_still no_set)
      (line_read no_set (named (given_said a ∷ [])) a k.0
      (given_read o rows no_set set a refl k refl))
      (given_fold (given_said a ∷ []) amounts (All-tail (IsCounted o rows) a amounts known)
      (pairs_tail Apart a amounts apart)
      (fresh_push [] a amounts (λ k d lt. refl) (pairs_head Apart a amounts apart)))

-- ---- bounds

letter : (k : ℕ) → 64 < k → IsVisible k
letter k l = record {
  space = omega arith;
  tab = omega arith;
  return = omega arith;
  feed =
      omega arith;
}

pub two_name : (a b : ℕ) → 64 < a → 64 < b → IsName (a ∷ b ∷ [])
two_name a b k l = record {
  some = λ e. absurd cc;
  visible =
      All-cons IsVisible a (b ∷ []) (letter a k)
      (All-cons IsVisible b [] (letter b l) (All-nil IsVisible));
}

pub three_name : (a b c : ℕ) → 64 < a → 64 < b → 64 < c → IsName (a ∷ b ∷ c ∷ [])
three_name a b c k l m = record {
  some = λ e. absurd cc;
  visible =
      All-cons IsVisible a (b ∷ c ∷ []) (letter a k)
      (All-cons IsVisible b (c ∷ []) (letter b l)
      (All-cons IsVisible c [] (letter c m) (All-nil IsVisible)));
}

pub bnd_name : IsName (codes "BND")
bnd_name = three_name 66 78 68 (omega arith) (omega arith) (omega arith)

pub record IsKnownColumn (names : List Text) (c : Column) : Type 0 where
  pub place : ℕ
  pub known : place_of names c.name ≡ Some place
  pub name : IsName c.name
  pub low : nat_abs c.low ≤ 10 ^ 9
  pub high : nat_abs c.high ≤ 10 ^ 9

bound_put : (names : List Text) (s : SetOf Card) (a : Act) (name : Text) (place : ℕ) (z : ℤ) → is_first_set s.set (codes "BND") ≡ true → place_of names name ≡ Some place → nat_abs z ≤ 10 ^ 9
    → number_words names a s (codes "BND" ∷ name ∷ text_of z 0 ∷ []) ≡ Ok (record { set = Some (codes "BND"); given = s.given ++ record { column = name; act = a; number = z } ∷ [] })
bound_put names s a name place z first known small = rw first (rw (known, bound_reads z small) refl)

module _ (p : Program) (g : Grid) (rhs ranges : SetOf Given) where
  abbrev in_bounds : SetOf Card → Said
  in_bounds x = state p Bounds g rhs ranges x

  abbrev carded : List Card → SetOf Card
  carded given = record { set = Some (codes "BND"); given = given }

  bound_read : (kind name : Text) (z : ℤ) (x y : SetOf Card) → IsName kind → IsName name → nat_abs z ≤ 10 ^ 9 → bounds_line g.names x (kind ∷ codes "BND" ∷ name ∷ text_of z 0 ∷ []) ≡ Ok y
      → after_line (in_bounds x) (bound_line kind name z) ≡ Ok (in_bounds y)
  bound_read kind name z x y k n small is =
      data_read (in_bounds x) _ kind (codes "BND" ∷ name ∷ text_of z 0 ∷ []) (words_laid (2, kind) ((5, codes "BND") ∷ (15, name) ∷ (25, text_of z 0) ∷ []) k
      (All-cons (λ f. IsName f.1) (5, codes "BND") ((15, name) ∷ (25, text_of z 0) ∷ []) bnd_name
      (All-cons (λ f. IsName f.1) (15, name) ((25, text_of z 0) ∷ []) n
      (All-cons (λ f. IsName f.1) (25, text_of z 0) [] (number_name z 0 (omega (arith, small)))
      (All-nil (λ f. IsName f.1))))))
      ∙ ap (λ u. u >>= λ w. Ok (in_bounds w)) is

  low_read : (x : SetOf Card) (c : Column) → is_first_set x.set (codes "BND") ≡ true → IsKnownColumn g.names c → after_line (in_bounds x) (bound_line (codes "LO") c.name c.low) ≡ Ok (in_bounds (carded (x.given ++ low_card c ∷ [])))
  low_read x c first k = bound_read (codes "LO") c.name c.low x (carded (x.given ++ low_card c ∷ [])) (two_name 76 79 (omega arith) (omega arith)) k.name k.low (bound_put g.names x act.Low c.name k.place c.low first k.known k.low)

  high_read : (x : SetOf Card) (c : Column) → is_first_set x.set (codes "BND") ≡ true → IsKnownColumn g.names c → after_line (in_bounds x) (bound_line (codes "UP") c.name c.high) ≡ Ok (in_bounds (carded (x.given ++ high_card c ∷ [])))
  high_read x c first k = bound_read (codes "UP") c.name c.high x (carded (x.given ++ high_card c ∷ [])) (two_name 85 80 (omega arith) (omega arith)) k.name k.high (bound_put g.names x act.High c.name k.place c.high first k.known k.high)

  ends_fold : (given : List Card) (columns : List Column) → All (IsKnownColumn g.names) columns
      → Goes (in_bounds (carded given)) (ends_lines columns)
      (in_bounds (carded (given ++ cards_said columns)))
  ends_fold given [] known = goes_same (in_bounds (carded given)) (in_bounds (carded given))
      (in_bounds (carded (given ++ []))) (in_bounds (carded given)) [] refl
      (ap (λ gs. in_bounds (carded gs)) (sym (append-nil given))) (stays (in_bounds (carded given)))
  ends_fold given (c ∷ columns) known =
      let k = All-head (IsKnownColumn g.names) c columns known in
      let low = given ++ low_card c ∷ [] in
      let high = low ++ high_card c ∷ [] in
      let whole = in_bounds (carded (given ++ cards_said (c ∷ columns))) in
      goes_first (in_bounds (carded given)) (in_bounds (carded low)) whole (bound_line (codes "LO") c.name c.low) (bound_line (codes "UP") c.name c.high ∷ ends_lines columns) refl
      (low_read (carded given) c refl k)
      (goes_first (in_bounds (carded low)) (in_bounds (carded high)) whole (bound_line (codes "UP") c.name c.high) (ends_lines columns) refl
      (high_read (carded low) c refl k)
      (goes_same (in_bounds (carded high)) (in_bounds (carded high)) whole
      (in_bounds (carded (high ++ cards_said columns))) (ends_lines columns) refl
      (ap (λ gs. in_bounds (carded gs)) (append_assoc low (high_card c ∷ []) (cards_said columns)
      ∙ append_assoc given (low_card c ∷ []) (high_card c ∷ cards_said columns)))
      (ends_fold high columns (All-tail (IsKnownColumn g.names) c columns known))))

  -- the first card names the set
  pub ends_all : (c : Column) (columns : List Column) → All (IsKnownColumn g.names) (c ∷ columns)
      → Goes (in_bounds no_set) (ends_lines (c ∷ columns)) (in_bounds (bounds_said (c ∷ columns)))
  ends_all c columns known =
      let k = All-head (IsKnownColumn g.names) c columns known in
      let low = low_card c ∷ [] in
      let high = low_card c ∷ high_card c ∷ [] in
      let whole = in_bounds (bounds_said (c ∷ columns)) in
      goes_first (in_bounds no_set) (in_bounds (carded low)) whole (bound_line (codes "LO") c.name c.low) (bound_line (codes "UP") c.name c.high ∷ ends_lines columns) refl
      (low_read no_set c refl k)
      (goes_first (in_bounds (carded low)) (in_bounds (carded high)) whole (bound_line (codes "UP") c.name c.high) (ends_lines columns) refl
      (high_read (carded low) c refl k)
      (ends_fold high columns (All-tail (IsKnownColumn g.names) c columns known)))
