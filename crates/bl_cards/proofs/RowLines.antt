-- Rows kept as names and roles.
use Rattle.std.proofs.Common.{◌≡◌, ℕ, zero, suc, ◌+◌, ◌<◌, Bool, true, false, cond, ◌||◌, List}
use Rattle.std.proofs.Common.{[], ◌∷◌, ◌++◌, map, length, take, get_or, Option, Some, None, refl}
use Rattle.std.proofs.Common.{sym, ap, ◌∙◌, arith}
use Rattle.std.specs.Prelude.{option_map}
use Rattle.std.proofs.lemmas.Bool.{or_parts}
use Rattle.bl_cards.specs.declared.kind.Role.{Role}
use Rattle.bl_cards.specs.Said.{same, place_of, RowLine}
use Rattle.std.proofs.lemmas.List.{length-append, take_more}
use Rattle.bl_cards.specs.Lines.{role_of, count_limited, has_objective, is_limited, is_objective}
use Rattle.bl_cards.specs.Lines.{objective_in}
use Rattle.bl_cards.specs.Views.{row_lines, AreKept}

abbrev pub row : List ℕ → Role → RowLine
row n r = record { name = n; role = r }

lookup_by : (t : Bool) (r : Role) (o : Option ℕ) (roles : List Role) (d : Role)
    → cond t (Some r) (option_map (λ i. get_or roles i d) o)
    ≡ option_map (λ i. get_or (r ∷ roles) i d) (cond t (Some 0) (option_map suc o))
lookup_by true r o roles d = refl
lookup_by false r None roles d = refl
lookup_by false r (Some i) roles d = refl

-- a row's role stands at its name's place
pub role_found : (names : List (List ℕ)) (roles : List Role) (name : List ℕ) (d : Role)
    → length roles ≡ length names → role_of (row_lines names roles) name
    ≡ option_map (λ i. get_or roles i d) (place_of names name)
role_found [] roles name d e = refl
role_found (n ∷ names) [] name d e = absurd (omega arith)
role_found (n ∷ names) (r ∷ roles) name d e =
    ap (λ (o : Option Role). cond (same name n) (Some r) o)
    (role_found names roles name d (omega arith))
    ∙ lookup_by (same name n) r (place_of names name) roles d

pub no_role : (names : List (List ℕ)) (roles : List Role) (name : List ℕ) (d : Role)
    → length roles ≡ length names → role_of (row_lines names roles) name ≡ None
    → place_of names name ≡ None
no_role names roles name d e h =
    from (place_of names name) (sym (role_found names roles name d e) ∙ h) where
      from : (o : Option ℕ) → option_map (λ i. get_or roles i d) o ≡ None → o ≡ None
      from None e = refl
      from (Some i) e = absurd cc

pub pushed : (names : List (List ℕ)) (roles : List Role) (n : List ℕ) (r : Role) → length roles
    ≡ length names → row_lines (names ++ n ∷ []) (roles ++ r ∷ []) ≡ row_lines names roles
    ++ row n r ∷ []
pushed [] [] n r e = refl
pushed [] (x ∷ roles) n r e = absurd (omega arith)
pushed (m ∷ names) [] n r e = absurd (omega arith)
pushed (m ∷ names) (x ∷ roles) n r e =
    ap (λ (rows : List RowLine). row m x ∷ rows) (pushed names roles n r (omega arith))

pub lines_push : (names names' : List (List ℕ)) (roles roles' : List Role) (n : List ℕ) (r : Role)
    → length roles ≡ length names → names' ≡ names ++ n ∷ [] → roles' ≡ roles ++ r ∷ []
    → row_lines names' roles' ≡ row_lines names roles ++ row n r ∷ []
lines_push names names' roles roles' n r e f g = rw (f, g) (pushed names roles n r e)

pub count_lines : (names : List (List ℕ)) (roles : List Role) → length roles ≡ length names
    → length (row_lines names roles) ≡ length names
count_lines [] roles e = refl
count_lines (n ∷ names) [] e = absurd (omega arith)
count_lines (n ∷ names) (r ∷ roles) e = ap suc (count_lines names roles (omega arith))

pub names_are : (names : List (List ℕ)) (roles : List Role) → length roles ≡ length names
    → map (λ (r : RowLine). r.name) (row_lines names roles) ≡ names
names_are [] roles e = refl
names_are (n ∷ names) [] e = absurd (omega arith)
names_are (n ∷ names) (r ∷ roles) e =
    ap (λ (ns : List (List ℕ)). n ∷ ns) (names_are names roles (omega arith))

-- the row at a place has the name and the role of that place
pub line_at : (names : List (List ℕ)) (roles : List Role) (i : ℕ) (d : RowLine) (r : Role)
    → length roles ≡ length names → i < length names
    → ((get_or (row_lines names roles) i d).name ≡ get_or names i [])
    × ((get_or (row_lines names roles) i d).role ≡ get_or roles i r)
line_at [] roles i d r e l = absurd (omega arith)
line_at (n ∷ names) [] i d r e l = absurd (omega arith)
line_at (n ∷ names) (x ∷ roles) zero d r e l = (refl, refl)
line_at (n ∷ names) (x ∷ roles) (suc i) d r e l =
    line_at names roles i d r (omega arith) (omega arith)

pub count_pushed : (rows : List RowLine) (x : RowLine) → count_limited (rows ++ x ∷ [])
    ≡ count_limited rows + cond (is_limited x.role) 1 0
count_pushed [] x = omega arith
count_pushed (r ∷ rows) x = omega (arith, count_pushed rows x)

or_false : (a b : Bool) → (b || (a || false)) ≡ (b || a)
or_false true b = refl
or_false false b = refl

or_more : (a b c : Bool) → (a || (b || c)) ≡ ((a || b) || c)
or_more true b c = refl
or_more false b c = refl

pub objective_pushed : (rows : List RowLine) (x : RowLine) → has_objective (rows ++ x ∷ [])
    ≡ (has_objective rows || is_objective x.role)
objective_pushed [] x = or_false (is_objective x.role) false
objective_pushed (r ∷ rows) x = ap (λ (b : Bool). is_objective r.role || b)
    (objective_pushed rows x) ∙ or_more (is_objective r.role) (has_objective rows)
    (is_objective x.role)

pub kept_push : (names names' : List (List ℕ)) (roles roles' : List Role) (n : List ℕ) (r : Role)
    (limited more : ℕ) (had now : Bool) → AreKept names roles limited had → names' ≡ names ++ n
    ∷ [] → roles' ≡ roles ++ r ∷ []
    → more ≡ cond (is_limited r) 1 0 → now ≡ is_objective r
    → AreKept names' roles' (limited + more) (had || now)
kept_push names names' roles roles' n r limited more had now k f g m o =
    let e = lines_push names names' roles roles' n r k.as_many f g in
    record {
      as_many =
          rw (f, g)
          (omega (arith, length-append names (n ∷ []), length-append roles (r ∷ []), k.as_many));
      limited_is = rw (e, count_pushed (row_lines names roles) (row n r), m)
          (omega (arith, k.limited_is));
      objective_is = rw (e, objective_pushed (row_lines names roles) (row n r), o)
          (ap (λ (b : Bool). b || is_objective r) k.objective_is);
    }

-- the first objective among the rows
pub objective_at : (rows : List RowLine) (i : ℕ) (d : RowLine) → i < length rows
    → has_objective (take i rows) ≡ false → is_objective (get_or rows i d).role ≡ true
    → ((get_or rows i d).name ≡ objective_in rows) × (has_objective rows ≡ true)
objective_at [] i d l e f = absurd (omega arith)
objective_at (r ∷ rows) zero d l e f = rw f (refl, refl)
objective_at (r ∷ rows) (suc i) d l e f =
    let n = or_parts (is_objective r.role) (has_objective (take i rows)) e in
    let t = n.0 in
    rw t (objective_at rows i d (omega arith) n.1 f)

pub objective_more : (rows : List RowLine) (i : ℕ) (d : RowLine) → i < length rows
    → has_objective (take i rows) ≡ false → is_objective (get_or rows i d).role ≡ false
    → has_objective (take (i + 1) rows) ≡ false
objective_more rows i d l e f = ap has_objective (take_more rows i d l)
    ∙ objective_pushed (take i rows) (get_or rows i d) ∙ rw (e, f) refl
