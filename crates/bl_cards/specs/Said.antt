-- What the lines of a file have said so far: lists in file order, with nothing worked out.
use Rattle.std.specs.Prelude.{◌≡◌, ℕ, suc, option_map, Bool, true, false, ◌==◌, List, [], ◌∷◌}
use Rattle.std.specs.Prelude.{Option, Some, None, Result, Ok, Err, ℤ, if◌then◌else◌}
use Rattle.bl_num.specs.declared.Decimal.{Decimal}
use Rattle.bl_problem.specs.declared.problem.Sense.{Sense}
use Rattle.bl_cards.specs.declared.kind.What.{What}
use Rattle.bl_cards.specs.declared.kind.Section.{Section}
use Rattle.bl_cards.specs.declared.kind.Section.TheVariants as section
use Rattle.bl_cards.specs.declared.kind.Role.{Role}
use Rattle.bl_cards.specs.declared.kind.Act.{Act}
use lib.Pointwise.{pointwise}

-- two texts are the same
abbrev pub same : List ℕ → List ℕ → Bool
same a b = pointwise ◌==◌ a b

-- the place of a name in a list
abbrev pub place_of : List (List ℕ) → List ℕ → Option ℕ
place_of [] name = None
place_of (n ∷ names) name = if same name n then Some 0 else option_map suc (place_of names name)

-- no name stands twice
abbrev pub Differ : List (List ℕ) → Type 0
Differ [] = Unit {0}
Differ (n ∷ names) = (place_of names n ≡ None) × Differ names

-- a row of ROWS
pub record RowLine : Type 0 where
  pub name : List ℕ
  pub role : Role

-- a number of COLUMNS: the place of its column, and its row's name
pub record Cell : Type 0 where
  pub column : ℕ
  pub row : List ℕ
  pub number : Decimal

-- a number of RHS or RANGES
pub record Given : Type 0 where
  pub row : List ℕ
  pub number : Decimal

-- a card of BOUNDS; the number is 0 where the card has none
pub record Card : Type 0 where
  pub column : List ℕ
  pub act : Act
  pub number : ℤ

-- what the lines of a section's first set gave, and that set's name where one came
pub record SetOf (A : Type 0) : Type 0 where
  pub set : Option (List ℕ)
  pub given : List A

-- what COLUMNS gave: the columns' names, whether each stands in a marker stretch, and the numbers
pub record Grid : Type 0 where
  pub names : List (List ℕ)
  pub whole : List Bool
  pub cells : List Cell
  -- the last column is not left yet
  pub is_open : Bool
  -- a marker stretch is open
  pub in_stretch : Bool

pub record Said : Type 0 where
  -- the section that is open
  pub section : Section
  -- what OBJSENSE asked for, once its word came
  pub sense : Option Sense
  pub rows : List RowLine
  pub columns : Grid
  pub rhs : SetOf Given
  pub ranges : SetOf Given
  pub bounds : SetOf Card

abbrev pub no_set : {A : Type 0} → SetOf A
no_set = record { set = None; given = [] }

abbrev pub no_columns : Grid
no_columns = record { names = []; whole = []; cells = []; is_open = false; in_stretch = false }

abbrev pub nothing_said : Said
nothing_said =
    record {
      section = section.Start;
      sense = None;
      rows = [];
      columns = no_columns;
      rhs = no_set;
      ranges = no_set;
      bounds = no_set;
    }

-- the first fault ends the reading
infixl 10 ◌>>=◌
abbrev pub ◌>>=◌ : {E A B : Type 0} → Result A E → (A → Result B E) → Result B E
(Ok x) >>= f = f x
(Err e) >>= f = Err e

-- a rule that is broken where the test is true
abbrev pub refuse : Bool → What → Result (Unit {0}) What
refuse true w = Err w
refuse false w = Ok tt

-- what is there, else this fault
abbrev pub there_or : {A : Type 0} → What → Option A → Result A What
there_or w None = Err w
there_or w (Some x) = Ok x
