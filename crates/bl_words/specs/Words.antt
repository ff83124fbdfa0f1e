-- What the words after a program's name mean.
use Rattle.std.specs.Prelude.{◌≡◌, ◌+◌, ◌-◌, ◌*◌, ◌==◌, ◌&&◌, ℕ, Bool, true, false, not, nat_le}
use Rattle.std.specs.Prelude.{List, [], ◌∷◌, ◌++◌, length, find, codes, Option, Some, None}
use Rattle.std.specs.Prelude.{option_map, option_and_then, if◌then◌else◌}
use Rattle.std.specs.List.{list_any, before_first, after_first}
use Rattle.std.specs.Str.{bytes_eq}

abbrev pub Text : Type 0
Text = List ℕ

-- the options: the name of each, and whether it has a value; a flag has none
abbrev pub Options : Type 0
Options = List (Text × Bool)

abbrev pub shared_options : Options
shared_options = (codes "nodes", true) ∷ (codes "span", true) ∷ (codes "order", true) ∷ (codes "branch", true) ∷ (codes "gap", true)
    ∷ (codes "cuts", true) ∷ (codes "gen", true) ∷ (codes "columns", true) ∷ (codes "rows", true) ∷ (codes "write", false) ∷ (codes "log", false) ∷ []

-- those of the program without workers, or of the one with them
abbrev pub options : Bool → Options
options one = if one then shared_options else (codes "workers", true) ∷ shared_options

-- whether the option of this name has a value; none where there is no such option
abbrev pub kind_in : Options → Text → Option Bool
kind_in t name = option_map (λ e. e.1) (find (λ e. bytes_eq e.0 name) t)

-- ---- the uses of options that a list of words spells

-- the name of an option, and its value; a flag has none
abbrev pub Use : Type 0
Use = Text × Option Text

-- what follows two hyphens
abbrev pub after_hyphens : Text → Option Text
after_hyphens [] = None
after_hyphens (a ∷ []) = None
after_hyphens (a ∷ b ∷ rest) = if (a == 45) && (b == 45) then Some rest else None

abbrev pub is_equals : ℕ → Bool
is_equals b = b == 61

-- what a word says by itself
pub data Said : Type 0 where
  uses : Use → Said
  waits : Text → Said
  nothing : Said

-- a word's name and the value after its `=`, by whether the option has a value
abbrev pub said_by : Text → Option Text → Option Bool → Said
said_by name (Some value) (Some true) = uses (name, Some value)
said_by name None (Some true) = waits name
said_by name None (Some false) = uses (name, None)
said_by name _ _ = nothing

abbrev pub value_after : Text → Option Text
value_after rest = if list_any is_equals rest then Some (after_first is_equals rest) else None

abbrev pub said_after : Options → Text → Said
said_after t rest = said_by (before_first is_equals rest) (value_after rest)
    (kind_in t (before_first is_equals rest))

abbrev pub said_in : Options → Option Text → Said
said_in t None = nothing
said_in t (Some rest) = said_after t rest

abbrev pub said : Options → Text → Said
said t word = said_in t (after_hyphens word)

abbrev pub and_then_uses : Use → Option (List Use) → Option (List Use)
and_then_uses u = option_map (λ us. u ∷ us)

abbrev pub on_said : Said → (Option Text → Option (List Use)) → Option (List Use)
on_said (uses u) rest = and_then_uses u (rest None)
on_said (waits name) rest = rest (Some name)
on_said nothing rest = None

-- the uses that the words spell, read from the left, where an option waits for its value or none
-- does
abbrev pub uses_from : Options → Option Text → List Text → Option (List Use)
uses_from t None [] = Some []
uses_from t (Some name) [] = None
uses_from t (Some name) (word ∷ words) = and_then_uses (name, Some word) (uses_from t None words)
uses_from t None (word ∷ words) = on_said (said t word) (λ waiting. uses_from t waiting words)

abbrev pub is_named : Text → Use → Bool
is_named name u = bytes_eq u.0 name

-- no use names an option that one before it names
abbrev pub differ_after : List Use → List Use → Bool
differ_after before [] = true
differ_after before (u ∷ us) = not (list_any (is_named u.0) before)
    && differ_after (before ++ u ∷ []) us

abbrev pub differ : List Use → Bool
differ = differ_after []

-- ---- what the uses ask for

abbrev pub has : Text → List Use → Bool
has name us = list_any (is_named name) us

-- the value of an option, where it stands
abbrev pub value_of : Text → List Use → Option Text
value_of name us = option_and_then (λ u. u.1) (find (is_named name) us)

abbrev pub is_digit : ℕ → Bool
is_digit b = nat_le 48 b && nat_le b 57

-- the number that n and then these digits spell
abbrev pub digits_from : ℕ → Text → Option ℕ
digits_from n [] = Some n
digits_from n (b ∷ bytes) = if is_digit b then digits_from (n * 10 + (b - 48)) bytes else None

abbrev pub in_range : ℕ → ℕ → Option ℕ → Option ℕ
in_range least most None = None
in_range least most (Some n) = if nat_le least n && nat_le n most then Some n else None

-- the number from `least` to `most` that 1 to 10 digits spell
abbrev pub number_in : ℕ → ℕ → Text → Option ℕ
number_in least most text = if nat_le 1 (length text) && nat_le (length text) 10
    then in_range least most (digits_from 0 text) else None

abbrev pub number_or : ℕ → ℕ → ℕ → Option Text → Option ℕ
number_or least most otherwise None = Some otherwise
number_or least most otherwise (Some text) = number_in least most text

-- ---- lists of words that mean something

-- the words spell these uses, and no option stands twice
pub record Spell (t : Options) (words : List Text) (us : List Use) : Type 0 where
  pub uses_are : uses_from t None words ≡ Some us
  pub once : differ us ≡ true
