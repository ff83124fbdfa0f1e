-- What a replacement keeps.
use Rattle.std.proofs.Common.{◌≡◌, ℕ, zero, suc, ◌+◌, ◌<◌, ◌^◌, List, [], ◌∷◌, ◌++◌, length, set}
use Rattle.std.proofs.Common.{get_or, refl, sym, ap, ◌∙◌, subst, arith}
use Rattle.std.specs.Prelude.{Option, Some, None, All, IfSome}
use Rattle.std.specs.Global.{Vec}
use Rattle.std.proofs.lemmas.List.FromFn.{fill_by_all}
use Rattle.std.proofs.lemmas.List.{length-set}
use Rattle.std.proofs.lemmas.List.Elements.{All-set, All-push, All-same, All-nil, All-head}
use Rattle.std.proofs.lemmas.List.Elements.{All-tail, All-weaker}
use Rattle.bl_fixed.specs.declared.Fixed.{Fixed}
use Rattle.bl_factor.specs.declared.sparse.Entry.{Entry}
use Rattle.bl_factor.specs.declared.eta.Eta.{Eta}
use Rattle.bl_factor.specs.Vectors.{unit_column, at}
use Rattle.bl_factor.specs.Sparse.{IsSparse, value_at, dense, AreEntries, AreColumns, whole}
use Rattle.bl_factor.specs.Sparse.{wholes, matrix_of}
use Rattle.bl_factor.specs.Factored.{Factored, unit_matrix, size_of}
use Rattle.bl_factor.specs.declared.Factor.TheInside.{Inside}
use Rattle.bl_factor.specs.Kept.{factored_of, IsKept}
use Rattle.bl_factor.specs.Etas.{IsEta, AreEtas}
use Rattle.bl_factor.proofs.Columns.{same_column_of, column_of-at}

-- all entries make the column
pub dense-entries : (column : List Fixed) (es : List Entry) → AreEntries column es
    → dense (length column) es ≡ column
dense-entries column es a = same_column_of (length column) (value_at es) (at column) a.values
    ∙ column_of-at column

-- ---- the matrix
pub wholes_length : (n place : ℕ) (columns : List (Option (Vec Entry)))
    → length (wholes n place columns) ≡ length columns
wholes_length n place [] = refl
wholes_length n place (o ∷ os) = ap suc (wholes_length n (suc place) os)

pub length-matrix_of : (n : ℕ) (columns : List (Option (Vec Entry)))
    → length (matrix_of n columns) ≡ length columns
length-matrix_of n columns = wholes_length n 0 columns

wholes-set : (n first : ℕ) (columns : List (Option (Vec Entry))) (place : ℕ) (entries : Vec Entry) →
    wholes n first (set columns place (Some entries))
    ≡ set (wholes n first columns) place (dense n entries.items)
wholes-set n first [] place entries = refl
wholes-set n first (o ∷ os) zero entries = refl
wholes-set n first (o ∷ os) (suc place) entries =
    ap (λ (ms : List (List Fixed)). whole n first o ∷ ms)
    (wholes-set n (suc first) os place entries)

-- what a replacement makes of the fields
pub record IsReplaced (a b : Inside) (place : ℕ) (column : List Fixed) : Type 0 where
  pub kept : IsKept b
  pub matrix : (factored_of b).matrix ≡ set (factored_of a).matrix place column

pub replaced : (a b : Inside) (f : Factored) (place : ℕ) (entries : Vec Entry) (eta : Eta) →
    IsKept a → factored_of a ≡ f → IsSparse 0 (size_of f) entries.items → IsEta (size_of f) eta →
    b.columns.items ≡ set a.columns.items place (Some entries) → b.etas.items ≡ a.etas.items
    ++ eta ∷ [] → IsReplaced a b place (dense (size_of f) entries.items)
replaced a b f place entries eta k v =
    subst (λ (f : Factored). IsSparse 0 (size_of f) entries.items → IsEta (size_of f) eta →
    b.columns.items ≡ set a.columns.items place (Some entries) → b.etas.items ≡ a.etas.items
    ++ eta ∷ [] → IsReplaced a b place (dense (size_of f) entries.items)) v
    (λ s ie bc be.
    let cs = a.columns.items in
    let n = length cs in
    let g = factored_of a in
    let m : size_of g ≡ n = length-matrix_of n cs in
    let long : length b.columns.items ≡ n = ap length bc ∙ length-set cs place (Some entries) in
    let matrix : matrix_of (length b.columns.items) b.columns.items
    ≡ set g.matrix place (dense (size_of g) entries.items) =
    ap (λ (ds : List (Option (Vec Entry))). matrix_of (length ds) ds) bc
    ∙ ap (λ (j : ℕ). matrix_of j (set cs place (Some entries))) (length-set cs place (Some entries))
    ∙ wholes-set n 0 cs place entries ∙ ap (λ (j : ℕ). set g.matrix place (dense j entries.items))
    (sym m) in
    let eta_in : IsEta n eta = subst (λ (j : ℕ). IsEta j eta) m ie in
    let sparse_in : IsSparse 0 n entries.items =
    subst (λ (j : ℕ). IsSparse 0 j entries.items) m s in
    let columns : AreColumns (length b.columns.items) b.columns.items =
    subst (λ (j : ℕ). AreColumns j b.columns.items) (sym long)
    (subst (λ (ds : List (Option (Vec Entry))). AreColumns n ds) (sym bc)
    (All-set (λ o. IfSome o (λ c. IsSparse 0 n c.items)) cs place (Some entries) sparse_in
    k.columns)) in
    let etas : AreEtas (length b.columns.items) b.etas.items =
    subst (λ (j : ℕ). AreEtas j b.etas.items) (sym long)
    (All-same (IsEta n) b.etas.items (a.etas.items ++ eta ∷ []) be
    (All-push (IsEta n) a.etas.items eta k.etas eta_in)) in
    record {
      kept = record {
        short = subst (λ (j : ℕ). j < 2 ^ 32) (sym long) k.short;
        columns =
            columns;
        etas = etas;
      };
      matrix = matrix;
    })

-- ---- the unit matrix
abbrev pub AreUnits : List (Option (Vec Entry)) → Type 0
AreUnits columns = All (λ o. o ≡ None) columns

wholes-at : (n first : ℕ) (columns : List (Option (Vec Entry))) (k j : ℕ) → AreUnits columns → k
    < length columns → first + k ≡ j → get_or (wholes n first columns) k [] ≡ unit_column n j
wholes-at n first [] k j u l e = absurd (omega (arith, l))
wholes-at n first (o ∷ os) zero j u l e =
    let f : first ≡ j = omega (arith, e) in
    ap (whole n first) (All-head (λ o. o ≡ None) o os u) ∙ ap (unit_column n) f
wholes-at n first (o ∷ os) (suc k) j u l e =
    wholes-at n (suc first) os k j (All-tail (λ o. o ≡ None) o os u) (omega (arith, l))
    (omega (arith, e))

pub matrix-units : (columns : List (Option (Vec Entry))) → AreUnits columns
    → matrix_of (length columns) columns ≡ unit_matrix (length columns)
unfolding unit_matrix
matrix-units columns u =
    let n = length columns in
    fill_by_all (unit_column n) (matrix_of n columns) n [] (length-matrix_of n columns)
    (λ k l. wholes-at n 0 columns k k u l (omega arith))

pub IsKept-units : (a : Inside) → length a.columns.items < 2 ^ 32 → AreUnits a.columns.items
    → a.etas.items ≡ [] → IsKept a
IsKept-units a short u none =
    let n = length a.columns.items in
    record {
      short = short;
      columns = All-weaker (λ o. o ≡ None) (λ o. IfSome o (λ c. IsSparse 0 n c.items))
          (λ o e. subst (λ (x : Option (Vec Entry)). IfSome x (λ c. IsSparse 0 n c.items)) (sym e)
          tt) a.columns.items u;
      etas = All-same (IsEta n) a.etas.items [] none (All-nil (IsEta n));
    }
