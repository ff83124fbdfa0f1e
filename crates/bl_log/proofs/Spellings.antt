-- Values whose words tell where they end and what they spell.
use Rattle.std.proofs.Common.{◌≡◌, ◌∙◌, ℕ, ℤ, List, [], ◌∷◌, ◌++◌, length, codes, ap, ap₂, sym}
use Rattle.std.proofs.Common.{refl, arith, cond, eqb, append_assoc}
use Rattle.std.specs.Prelude.{All}
use Rattle.std.specs.Fmt.{decimal, signed_decimal}
use Rattle.std.proofs.lemmas.List.Elements.{All-append, All-cons, All-head, All-nil, All-tail}
use Rattle.bl_mods.specs.declared.mods.Mod.{Mod}
use Rattle.bl_problem.specs.declared.cut.Cut.{Cut}
use Rattle.bl_desc.specs.declared.desc.Status.{Status}
use Rattle.bl_desc.specs.declared.desc.Status.TheVariants.{Basic, AtLow, AtHigh}
use Rattle.bl_desc.specs.declared.change.Change.{Change}
use Rattle.bl_log.specs.Spaced.{Text, each, listed}
use Rattle.bl_log.specs.Log.{bounds_and_cuts, cut, integer, lists_of, natural, placed, status}
use Rattle.bl_log.specs.Log.{status_word, statuses, term}
use Rattle.bl_log.specs.Fits.{ChangeFits, CutFits, IsI64, IsI128, IsStatus, IsU32, ListFits}
use Rattle.bl_log.specs.Fits.{ModFits, ModsFit, PlacesFit, TermFits}
use Rattle.bl_log.proofs.Words.{IsPlain, literal}
use Rattle.bl_log.proofs.Numbers.{decimal_one, decimal_plain, signed_one, signed_plain, wide128}
use Rattle.bl_log.proofs.Numbers.{wide64}

pub record IsSpelling {X : Type 0} (words : X → List Text) (fits : X → Type 0) : Type 0 where
  pub one : (a b : X) (r s : List Text) → fits a → fits b → words a ++ r ≡ words b ++ s → (a ≡ b)
      × (r ≡ s)
  pub plain : (a : X) → fits a → All IsPlain (words a)

pub first_word : (v w : Text) (r s : List Text) → v ∷ r ≡ w ∷ s → v ≡ w
first_word v w r s e = cc

pub other_words : (v w : Text) (r s : List Text) → v ∷ r ≡ w ∷ s → r ≡ s
other_words v w r s e = cc

pub plain_one : (w : Text) (ws : List Text) → IsPlain w → All IsPlain ws → All IsPlain (w ∷ ws)
plain_one w ws p h = All-cons IsPlain w ws p h

pub plain_word : (w : Text) → IsPlain w → All IsPlain (w ∷ [])
plain_word w p = All-cons IsPlain w [] p (All-nil IsPlain)

pub u32_plain : (n : ℕ) → IsU32 n → IsPlain (decimal n)
u32_plain n f = decimal_plain n (omega arith)

pub u32_one : (m n : ℕ) (r s : List Text) → IsU32 m → IsU32 n → decimal m ∷ r ≡ decimal n ∷ s → m
    ≡ n
u32_one m n r s f g e = decimal_one m n (omega arith) (omega arith) (first_word _ _ r s e)

pub i64_plain : (z : ℤ) → IsI64 z → IsPlain (signed_decimal z)
i64_plain z f = signed_plain z (wide64 z f)

pub i64_one : (y z : ℤ) (r s : List Text) → IsI64 y → IsI64 z → signed_decimal y ∷ r
    ≡ signed_decimal z ∷ s → y ≡ z
i64_one y z r s f g e = signed_one y z (wide64 y f) (wide64 z g) (first_word _ _ r s e)

pub i128_plain : (z : ℤ) → IsI128 z → IsPlain (signed_decimal z)
i128_plain z f = signed_plain z (wide128 z f)

pub i128_one : (y z : ℤ) (r s : List Text) → IsI128 y → IsI128 z → signed_decimal y ∷ r
    ≡ signed_decimal z ∷ s → y ≡ z
i128_one y z r s f g e = signed_one y z (wide128 y f) (wide128 z g) (first_word _ _ r s e)

pub natural_spelling : IsSpelling natural IsU32
natural_spelling = record {
  one = λ a b r s f g e. (u32_one a b r s f g e, other_words _ _ r s e);
  plain = λ a f. plain_word (decimal a) (u32_plain a f);
}

pub integer_spelling : IsSpelling integer IsI64
integer_spelling = record {
  one = λ a b r s f g e. (i64_one a b r s f g e, other_words _ _ r s e);
  plain = λ a f. plain_word (signed_decimal a) (i64_plain a f);
}

abbrev status_in : List ℕ → Status
status_in [] = Basic
status_in (b ∷ bs) = cond (eqb b 66) Basic (cond (eqb b 76) AtLow AtHigh)

status_reads : (s : Status) → status_in (status_word s) ≡ s
status_reads Basic = refl
status_reads AtLow = refl
status_reads AtHigh = refl

status_plain : (s : Status) → IsPlain (status_word s)
status_plain Basic = literal (codes "B") (omega arith) refl
status_plain AtLow = literal (codes "L") (omega arith) refl
status_plain AtHigh = literal (codes "H") (omega arith) refl

pub status_spelling : IsSpelling status IsStatus
status_spelling = record {
  one = λ a b r s f g e. (
    sym (status_reads a) ∙ ap status_in (first_word _ _ r s e)
        ∙ status_reads b,
    other_words _ _ r s e,
  );
  plain = λ a f. plain_word (status_word a) (status_plain a);
}

pub placed_spelling : {T : Type 0} (words : T → List Text) (fits : T → Type 0)
    → IsSpelling words fits → IsSpelling (placed words) (ModFits fits)
placed_spelling {T} words fits sp = record {
  one = λ a b r s f g e.
      let place : a.place ≡ b.place = u32_one a.place b.place _ _ f.place g.place e in
      let rest = sp.one a.entry b.entry r s f.entry g.entry (other_words _ _ _ _ e) in
      (ap₂ (λ (p : ℕ) (x : T). record { place = p; entry = x }) place rest.0, rest.1);
  plain = λ a f. plain_one (decimal a.place) (words a.entry) (u32_plain a.place f.place)
      (sp.plain a.entry f.entry);
}

pub term_spelling : IsSpelling term TermFits
term_spelling = record {
  one = λ a b r s f g e.
      let column : a.column ≡ b.column = u32_one a.column b.column _ _ f.column g.column e in
      let behind = other_words _ _ _ _ e in
      let coefficient : a.coefficient ≡ b.coefficient =
      i64_one a.coefficient b.coefficient r s f.coefficient g.coefficient behind in (
        ap₂ (λ (c : ℕ) (x : ℤ). record { column = c; coefficient = x }) column coefficient,
        other_words _ _ r s behind,
      );
  plain = λ a f. plain_one (decimal a.column) (signed_decimal a.coefficient ∷ [])
      (u32_plain a.column f.column) (plain_word _ (i64_plain a.coefficient f.coefficient));
}

each_one : {X : Type 0} (words : X → List Text) (fits : X → Type 0) → IsSpelling words fits
    → (xs ys : List X) (r s : List Text) → length xs ≡ length ys → All fits xs → All fits ys
    → each words xs ++ r ≡ each words ys ++ s → (xs ≡ ys) × (r ≡ s)
each_one words fits sp [] [] r s same f g e = (refl, e)
each_one words fits sp [] (y ∷ ys) r s same f g e = absurd (omega (arith, same))
each_one words fits sp (x ∷ xs) [] r s same f g e = absurd (omega (arith, same))
each_one {X} words fits sp (x ∷ xs) (y ∷ ys) r s same f g e =
    let one = sp.one x y (each words xs ++ r) (each words ys ++ s) (All-head fits x xs f)
    (All-head fits y ys g)
    (sym (append_assoc (words x) (each words xs) r) ∙ e
    ∙ append_assoc (words y) (each words ys) s) in
    let more = each_one words fits sp xs ys r s (omega (arith, same)) (All-tail fits x xs f)
    (All-tail fits y ys g) one.1 in
    (ap₂ (λ (z : X) (zs : List X). z ∷ zs) one.0 more.0, more.1)

pub each_plain : {X : Type 0} (words : X → List Text) (fits : X → Type 0) → IsSpelling words fits
    → (xs : List X) → All fits xs → All IsPlain (each words xs)
each_plain words fits sp [] f = All-nil IsPlain
each_plain words fits sp (x ∷ xs) f =
    All-append IsPlain (words x) (each words xs) (sp.plain x (All-head fits x xs f))
    (each_plain words fits sp xs (All-tail fits x xs f))

pub listed_spelling : {X : Type 0} (words : X → List Text) (fits : X → Type 0)
    → IsSpelling words fits → IsSpelling (listed words) (ListFits fits)
listed_spelling words fits sp = record {
  one = λ a b r s f g e.
      let same : length a ≡ length b = decimal_one (length a) (length b) (omega (arith, f.short))
      (omega (arith, g.short)) (first_word _ _ _ _ e) in
      each_one words fits sp a b r s same f.each g.each (other_words _ _ _ _ e);
  plain = λ a f. plain_one (decimal (length a)) (each words a)
      (decimal_plain (length a) (omega (arith, f.short))) (each_plain words fits sp a f.each);
}

-- to the end of a line no count is needed
pub naturals_one : (xs ys : List ℕ) → All IsU32 xs → All IsU32 ys → each natural xs
    ≡ each natural ys → xs ≡ ys
naturals_one [] [] f g e = refl
naturals_one [] (y ∷ ys) f g e = cc
naturals_one (x ∷ xs) [] f g e = cc
naturals_one (x ∷ xs) (y ∷ ys) f g e =
    ap₂ (λ (z : ℕ) (zs : List ℕ). z ∷ zs)
    (u32_one x y _ _ (All-head IsU32 x xs f) (All-head IsU32 y ys g) e)
    (naturals_one xs ys (All-tail IsU32 x xs f) (All-tail IsU32 y ys g) (other_words _ _ _ _ e))

pub cut_spelling : IsSpelling cut CutFits
cut_spelling = record {
  one = λ a b r s f g e.
      let seat : a.id.seat ≡ b.id.seat = u32_one a.id.seat b.id.seat _ _ f.seat g.seat e in
      let two = other_words _ _ _ _ e in
      let serial : a.id.serial ≡ b.id.serial =
      u32_one a.id.serial b.id.serial _ _ f.serial g.serial two in
      let three = other_words _ _ _ _ two in
      let right : a.right ≡ b.right = i128_one a.right b.right _ _ f.right g.right three in
      let terms = (listed_spelling term TermFits term_spelling).one a.terms b.terms r s f.terms
      g.terms (other_words _ _ _ _ three) in (
        (λ i. record {
          id = record { seat = seat i; serial = serial i };
          terms = terms.0 i;
          right =
              right i;
        }),
        terms.1,
      );
  plain = λ a f.
      plain_one (decimal a.id.seat) (decimal a.id.serial ∷ signed_decimal a.right
      ∷ listed term a.terms) (u32_plain a.id.seat f.seat)
      (plain_one (decimal a.id.serial) (signed_decimal a.right ∷ listed term a.terms)
      (u32_plain a.id.serial f.serial)
      (plain_one (signed_decimal a.right) (listed term a.terms) (i128_plain a.right f.right)
      ((listed_spelling term TermFits term_spelling).plain a.terms f.terms)));
}

pub mods_spelling : {T : Type 0} (name : Text) (words : T → List Text) (fits : T → Type 0)
    → IsPlain name → IsSpelling words fits
    → IsSpelling (λ (mods : List (Mod T)). name ∷ listed (placed words) mods) (ModsFit fits)
mods_spelling name words fits p sp =
    let inner = listed_spelling (placed words) (ModFits fits) (placed_spelling words fits sp) in
    record {
      one = λ a b r s f g e. inner.one a b r s f.list g.list (other_words _ _ _ _ e);
      plain = λ a f. plain_one name (listed (placed words) a) p (inner.plain a f.list);
    }

pub drop_spelling : IsSpelling (λ (places : List ℕ). codes "drop" ∷ listed natural places) PlacesFit
drop_spelling =
    let inner = listed_spelling natural IsU32 natural_spelling in
    record {
      one = λ a b r s f g e. inner.one a b r s f.list g.list (other_words _ _ _ _ e);
      plain = λ a f. plain_one (codes "drop") (listed natural a) (literal (codes "drop") (omega arith) refl) (inner.plain a f.list);
    }

pub add_spelling : IsSpelling (λ (cuts : List Cut). codes "add" ∷ listed cut cuts) (ListFits CutFits)
add_spelling =
    let inner = listed_spelling cut CutFits cut_spelling in
    record {
      one = λ a b r s f g e. inner.one a b r s f g (other_words _ _ _ _ e);
      plain = λ a f. plain_one (codes "add") (listed cut a) (literal (codes "add") (omega arith) refl) (inner.plain a f);
    }

-- what stands before others, and the others
pub then_one : {X : Type 0} (words : X → List Text) (fits : X → Type 0) → IsSpelling words fits
    → (a b : X) (u v r s : List Text) → fits a → fits b
    → (words a ++ u) ++ r ≡ (words b ++ v) ++ s → (a ≡ b) × (u ++ r ≡ v ++ s)
then_one words fits sp a b u v r s f g e =
    sp.one a b (u ++ r) (v ++ s) f g (sym (append_assoc (words a) u r) ∙ e
    ∙ append_assoc (words b) v s)

bounds : (name : Text) → IsPlain name
    → IsSpelling (λ (mods : List (Mod ℤ)). name ∷ listed (placed integer) mods) (ModsFit IsI64)
bounds name p = mods_spelling name integer IsI64 p integer_spelling

marks : (name : Text) → IsPlain name
    → IsSpelling (λ (mods : List (Mod Status)). name ∷ listed (placed status) mods)
    (ModsFit IsStatus)
marks name p = mods_spelling name status IsStatus p status_spelling

lows_spelling : IsSpelling (λ (mods : List (Mod ℤ)). codes "lows" ∷ listed (placed integer) mods) (ModsFit IsI64)
lows_spelling = bounds (codes "lows") (literal (codes "lows") (omega arith) refl)

highs_spelling : IsSpelling (λ (mods : List (Mod ℤ)). codes "highs" ∷ listed (placed integer) mods) (ModsFit IsI64)
highs_spelling = bounds (codes "highs") (literal (codes "highs") (omega arith) refl)

columns_spelling : IsSpelling (λ (mods : List (Mod Status)). codes "cols" ∷ listed (placed status) mods) (ModsFit IsStatus)
columns_spelling = marks (codes "cols") (literal (codes "cols") (omega arith) refl)

rows_spelling : IsSpelling (λ (mods : List (Mod Status)). codes "rows" ∷ listed (placed status) mods) (ModsFit IsStatus)
rows_spelling = marks (codes "rows") (literal (codes "rows") (omega arith) refl)

fresh_spelling : IsSpelling (λ (mods : List (Mod Status)). codes "cuts" ∷ listed (placed status) mods) (ModsFit IsStatus)
fresh_spelling = marks (codes "cuts") (literal (codes "cuts") (omega arith) refl)

pub change_one : (a b : Change Cut) (r s : List Text) → ChangeFits a → ChangeFits b → lists_of a
    ++ r ≡ lists_of b ++ s → (a ≡ b) × (r ≡ s)
change_one a b r s f g e =
    let all : bounds_and_cuts a ++ (statuses a ++ r) ≡ bounds_and_cuts b ++ (statuses b ++ s) =
    sym (append_assoc (bounds_and_cuts a) (statuses a) r) ∙ e
    ∙ append_assoc (bounds_and_cuts b) (statuses b) s in
    let one = then_one _ _ lows_spelling a.lows b.lows _ _ _ _ f.bounds_and_cuts.lows
    g.bounds_and_cuts.lows all in
    let two = then_one _ _ highs_spelling a.highs b.highs _ _ _ _ f.bounds_and_cuts.highs
    g.bounds_and_cuts.highs one.1 in
    let three = then_one _ _ drop_spelling a.cuts.dropped b.cuts.dropped _ _ _ _
    f.bounds_and_cuts.cuts.dropped g.bounds_and_cuts.cuts.dropped two.1 in
    let four = add_spelling.one a.cuts.added b.cuts.added (statuses a ++ r) (statuses b ++ s)
    f.bounds_and_cuts.cuts.added g.bounds_and_cuts.cuts.added three.1 in
    let five = then_one _ _ columns_spelling a.columns b.columns _ _ _ _ f.statuses.columns
    g.statuses.columns four.1 in
    let six = then_one _ _ rows_spelling a.rows b.rows _ _ _ _ f.statuses.rows g.statuses.rows
    five.1 in
    let seven = fresh_spelling.one a.fresh b.fresh r s f.statuses.fresh g.statuses.fresh six.1 in (
      (λ i. record {
        lows = one.0 i;
        highs = two.0 i;
        cuts =
            record { dropped = three.0 i; added = four.0 i };
        columns = five.0 i;
        rows =
            six.0 i;
        fresh = seven.0 i;
      }),
      seven.1,
    )

pub change_plain : (a : Change Cut) → ChangeFits a → All IsPlain (lists_of a)
change_plain a f =
    let lows : List Text = codes "lows" ∷ listed (placed integer) a.lows in
    let highs : List Text = codes "highs" ∷ listed (placed integer) a.highs in
    let dropped : List Text = codes "drop" ∷ listed natural a.cuts.dropped in
    let added : List Text = codes "add" ∷ listed cut a.cuts.added in
    let columns : List Text = codes "cols" ∷ listed (placed status) a.columns in
    let rows : List Text = codes "rows" ∷ listed (placed status) a.rows in
    let fresh : List Text = codes "cuts" ∷ listed (placed status) a.fresh in
    All-append IsPlain (bounds_and_cuts a) (statuses a)
    (All-append IsPlain lows (highs ++ (dropped ++ added))
    (lows_spelling.plain a.lows f.bounds_and_cuts.lows)
    (All-append IsPlain highs (dropped ++ added)
    (highs_spelling.plain a.highs f.bounds_and_cuts.highs)
    (All-append IsPlain dropped added (drop_spelling.plain a.cuts.dropped
    f.bounds_and_cuts.cuts.dropped)
    (add_spelling.plain a.cuts.added f.bounds_and_cuts.cuts.added))))
    (All-append IsPlain columns (rows ++ fresh)
    (columns_spelling.plain a.columns f.statuses.columns)
    (All-append IsPlain rows fresh (rows_spelling.plain a.rows f.statuses.rows)
    (fresh_spelling.plain a.fresh f.statuses.fresh)))
