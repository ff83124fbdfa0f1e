-- Every line keeps what holds of everything that a file says.
use Rattle.std.proofs.Common.{Result, Ok, Err, ◌≡◌, ◌≢◌, ℕ, suc, ◌≤◌, ◌+◌, Bool, true, false}
use Rattle.std.proofs.Common.{cond, not, List, [], ◌∷◌, ◌++◌, map, Option, Some, None, All, refl}
use Rattle.std.proofs.Common.{arith}
use Rattle.std.specs.Prelude.{is_none, option_map, nat_le, ◌&&◌, codes}
use Rattle.std.proofs.lemmas.List.{map-append}
use Rattle.std.proofs.lemmas.List.Elements.{All-push}
use Rattle.std.proofs.lemmas.Bool.Decides.{nat_tests}
use Rattle.bl_problem.specs.Program.{IsName, IsRowName}
use Rattle.bl_cards.specs.declared.kind.Role.{Role}
use Rattle.bl_cards.specs.declared.kind.What.{What}
use Rattle.bl_cards.specs.declared.kind.What.TheVariants as what
use Rattle.bl_cards.specs.Said.{same, place_of, RowLine, ◌>>=◌, refuse, there_or}
use Rattle.bl_cards.specs.Lines.{role_of, role_for, has_objective, is_limited, count_limited}
use Rattle.bl_cards.specs.Lines.{add_row, rows_line}
use Rattle.bl_cards.specs.Coherence.{AreRows}
use Rattle.bl_cards.proofs.Differing.{Differ_push, same_self}
use Rattle.bl_cards.proofs.RowLines.{count_pushed}

-- ---- steps that did not fail

pub record Went {A B : Type 0} (o : Result A What) (f : A → Result B What) (y : B) : Type 0 where
  pub x : A
  pub is : o ≡ Ok x
  pub then : f x ≡ Ok y

pub went : {A B : Type 0} (o : Result A What) (f : A → Result B What) (y : B) → (o >>= f) ≡ Ok y
    → Went o f y
went (Err w) f y e = absurd cc
went (Ok x) f y e = record { x = x; is = refl; then = e }

pub passed : (b : Bool) (w : What) (u : Unit {0}) → refuse b w ≡ Ok u → b ≡ false
passed true w u e = absurd cc
passed false w u e = refl

pub there : {A : Type 0} (w : What) (o : Option A) (x : A) → there_or w o ≡ Ok x → o ≡ Some x
there w None x e = absurd cc
there w (Some y) x e = cc

pub not_some : {A : Type 0} (o : Option A) → not (is_none o) ≡ false → o ≡ None
not_some None e = refl
not_some (Some x) e = absurd cc

-- ---- ROWS

place_by_role : (t : Bool) (r : Role) (o : Option Role) (p : Option ℕ) → (o ≡ None → p ≡ None)
    → cond t (Some r) o ≡ None → cond t (Some 0) (option_map suc p) ≡ None
place_by_role true r o p h e = absurd cc
place_by_role false r o p h e = rw (h e) refl

-- a name without a role is none of the rows'
no_place : (rows : List RowLine) (name : List ℕ) → role_of rows name ≡ None
    → place_of (map (λ (r : RowLine). r.name) rows) name ≡ None
no_place [] name e = refl
no_place (r ∷ rows) name e = place_by_role (same name r.name) r.role (role_of rows name)
    (place_of (map (λ (l : RowLine). l.name) rows) name) (no_place rows name) e

no_marker : (name : List ℕ) → same name (codes "'MARKER'") ≡ false → name ≢ codes "'MARKER'"
no_marker name e = λ h. let t : same name (codes "'MARKER'") ≡ true = rw h (same_self (codes "'MARKER'")) in absurd cc

rows_names : (rows : List RowLine) (name : List ℕ) (role : Role)
    → map (λ (r : RowLine). r.name) (rows ++ record { name = name; role = role } ∷ [])
    ≡ map (λ (r : RowLine). r.name) rows ++ name ∷ []
rows_names rows name role = map-append (λ (r : RowLine). r.name) rows
    (record { name = name; role = role } ∷ [])

few_by : (rows : List RowLine) (b : Bool) (n : ℕ) → (b && nat_le 1000 n) ≡ false → n ≤ 1000 → n
    + cond b 1 0 ≤ 1000
few_by rows true n e l = grind (arith, nat_tests)
few_by rows false n e l = omega (arith, l)

pub rows_kept : (rows : List RowLine) (words : List (List ℕ)) (new : List RowLine) → AreRows rows
    → All IsName words → rows_line rows words ≡ Ok new → AreRows new
rows_kept rows [] new h w e = absurd cc
rows_kept rows (kind ∷ []) new h w e = absurd cc
rows_kept rows (kind ∷ name ∷ more ∷ words) new h w e = absurd cc
rows_kept rows (kind ∷ name ∷ []) new h w e =
    let a = went (there_or what.Words (role_for kind (has_objective rows)))
    (λ role. add_row rows name role) new e in
    let b = went (refuse (not (is_none (role_of rows name))) what.Twice) _ new a.then in
    let c = went (refuse (same name (codes "'MARKER'")) what.Marker) _ new b.then in
    let d = went (refuse (is_limited a.x && nat_le 1000 (count_limited rows)) what.TooMany) _ new
    c.then in
    let row : RowLine = record { name = name; role = a.x } in
    let is : rows ++ row ∷ [] ≡ new = cc in
    let few = few_by rows (is_limited a.x) (count_limited rows)
    (passed (is_limited a.x && nat_le 1000 (count_limited rows)) what.TooMany d.x d.is) h.few in
    let n : IsName name = w 1 [] (omega arith) in
    rw (← is) (record {
      names = All-push (λ (r : RowLine). IsRowName r.name) rows row h.names (record { name = n; plain = no_marker name (passed (same name (codes "'MARKER'")) what.Marker c.x c.is) });
      differ = rw (rows_names rows name a.x) (Differ_push (map (λ (r : RowLine). r.name) rows)
          name h.differ (no_place rows name
          (not_some (role_of rows name)
          (passed (not (is_none (role_of rows name))) what.Twice b.x b.is))));
      few = omega (arith, few, count_pushed rows row);
    })
