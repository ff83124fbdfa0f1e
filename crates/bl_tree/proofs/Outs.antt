-- The number of nodes that are out, after each call.
use Rattle.std.proofs.Common.{◌≡◌, ℕ, suc, ◌+◌, ◌<◌, List, [], ◌∷◌, ◌++◌, length, append_assoc}
use Rattle.std.proofs.Common.{refl, ap, sym, ◌∙◌, arith, Bool, true, false, Some, Option}
use Rattle.std.specs.Prelude.{slice_get, slice_set, count_by, ℤ, nat_lt, ◌||◌, ◌-◌}
use Rattle.std.proofs.Math.Bool.{or-false}
use Rattle.std.proofs.lemmas.Bool.{lt-ltb}
use Rattle.std.proofs.lemmas.List.Sums.{sum_by-cons, sum_by-append}
use Rattle.bl_problem.specs.Program.{Program}
use Rattle.bl_problem.specs.declared.cut.Cut.{Cut}
use Rattle.bl_desc.specs.declared.desc.Piece.{Piece}
use Rattle.bl_journal.specs.declared.entry.Entry.{Entry}
use Rattle.bl_journal.specs.declared.settings.Settings.{Settings}
use Rattle.bl_journal.specs.Replies.{any_out, any_below, is_waiting, take_reply, gives, is_out}
use Rattle.bl_journal.specs.States.{state_of}
use Rattle.bl_journal.specs.declared.state.State.{State}
use Rattle.bl_journal.specs.declared.state.State.TheVariants.{Waiting as waiting, Out as out}
use Rattle.bl_journal.specs.declared.state.State.TheVariants.{Split as split, Shut as shut}
use Rattle.bl_journal.specs.declared.state.State.TheVariants.{Freed as freed}
use Rattle.bl_journal.proofs.Sums.{one_if}
use Rattle.bl_journal.proofs.Living.{take_gives}
use Rattle.bl_journal.proofs.Leaves.{is_waiting-is}
use Rattle.bl_tree.specs.declared.record.Record.{Record}
use Rattle.bl_tree.specs.Records.{fresh_record, is_out_if, IsKept}
use Rattle.bl_tree.proofs.Sets.{count_by-set}
use Rattle.bl_tree.proofs.Puts.{parted}
use Rattle.bl_tree.proofs.Kept.{any_out_same, kept_out, kept_born, has_record}

-- how many nodes are out
abbrev pub out_count : List Record → ℕ
out_count kept = count_by (λ r. is_out r.stage) kept

or_step : (a b : Bool) (c : ℕ) → ((a || b) || nat_lt 0 c) ≡ (a || nat_lt 0 (one_if b + c))
or_step true b c = refl
or_step false true c = sym (lt-ltb 0 (1 + c) (omega arith))
or_step false false c = let z : c ≡ 0 + c = omega arith in ap (nat_lt 0) z

any_out_from : (f : ℕ → Bool) (n : ℕ) (rs : List Record)
    → ((i : ℕ) (r : Record) → slice_get rs i ≡ Some r → f (n + i) ≡ is_out r.stage)
    → any_below f (n + length rs)
    ≡ (any_below f n || nat_lt 0 (count_by (λ (r : Record). is_out r.stage) rs))
any_out_from f n [] h = let e : n + 0 ≡ n = omega arith in ap (any_below f) e
    ∙ sym (or-false (any_below f n))
any_out_from f n (x ∷ rs) h =
    let at : n + suc (length rs) ≡ suc n + length rs = omega arith in
    let here : n ≡ n + 0 = omega arith in
    let c : ℕ = count_by (λ (r : Record). is_out r.stage) rs in
    let later : (i : ℕ) (r : Record) → slice_get rs i ≡ Some r → f (suc n + i) ≡ is_out r.stage =
    λ i r e. let m : suc n + i ≡ n + suc i = omega arith in ap f m ∙ h (suc i) r e in
    ap (any_below f) at ∙ (any_out_from f (suc n) rs later
    ∙ (ap (λ b. (any_below f n || b) || nat_lt 0 c) (ap f here ∙ h 0 x refl)
    ∙ (or_step (any_below f n) (is_out x.stage) c
    ∙ ap (λ m. any_below f n || nat_lt 0 m)
    (sym (sum_by-cons (λ (r : Record). one_if (is_out r.stage)) x rs)))))

-- whether a node is out, by their number
pub someone_out : (p : Program) (s : Settings) (past : List Entry) (room capacity : ℕ)
    (kept : List Record) (taken : ℕ) (best : Option ℤ) (outs : ℕ)
    → IsKept p s past room capacity kept taken best
    → outs ≡ count_by (λ (r : Record). is_out r.stage) kept → any_out p past ≡ nat_lt 0 outs
someone_out p s past room capacity kept taken best outs k e =
    let zero_more : (i : ℕ) → 0 + i ≡ i = λ i. omega arith in
    sym (any_out_same p past kept k.records)
    ∙ (ap (any_below (λ i. is_out_if (slice_get kept i))) (sym (zero_more (length kept)))
    ∙ (any_out_from (λ i. is_out_if (slice_get kept i)) 0 kept
    (λ i r h. ap (λ o. is_out_if o) (ap (slice_get kept) (zero_more i) ∙ h))
    ∙ ap (nat_lt 0) (sym e)))

pub out_waits_not : (t : State) → is_out t ≡ true → is_waiting t ≡ false
out_waits_not waiting h = sym h
out_waits_not (out seat) h = refl
out_waits_not split h = refl
out_waits_not shut h = refl
out_waits_not freed h = refl

-- the node of a lease is out
pub out_counted : (p : Program) (s : Settings) (past : List Entry) (room capacity : ℕ)
    (kept : List Record) (taken : ℕ) (best : Option ℤ) (id seat outs : ℕ)
    → IsKept p s past room capacity kept taken best → state_of past id ≡ out seat → outs
    ≡ count_by (λ (r : Record). is_out r.stage) kept → 0 < outs
out_counted p s past room capacity kept taken best id seat outs k o e =
    let x = has_record p past kept id k.records
    (kept_born p s past room capacity kept taken best id seat k o) in
    let f = (kept_out p s past room capacity kept taken best id seat x.0 k o x.1).0 in
    omega (arith, f, e)

-- after a take
pub outs_taken : (p : Program) (s : Settings) (past : List Entry) (room capacity : ℕ)
    (kept : List Record) (taken : ℕ) (best : Option ℤ) (id seat : ℕ) (r : Record) (outs : ℕ)
    → IsKept p s past room capacity kept taken best → take_reply p s past ≡ gives id
    → slice_get kept id ≡ Some r → outs ≡ out_count kept
    → outs + 1 ≡ out_count (slice_set kept id (record r { stage = out seat }))
outs_taken p s past room capacity kept taken best id seat r outs k t e old =
    let was : is_out r.stage ≡ false = ap is_out
    ((k.records.each id r e).stage
    ∙ is_waiting-is (state_of past id) (take_gives p s past id t).waits) in
    let none : one_if (is_out r.stage) ≡ 0 = ap one_if was in
    let c = count_by-set (λ (q : Record). is_out q.stage) kept id (record r { stage = out seat })
    r e in
    omega (arith, c, none, old)

-- a node that was out is out no more
pub outs_ended : (p : Program) (s : Settings) (past : List Entry) (room capacity : ℕ)
    (kept : List Record) (taken : ℕ) (best : Option ℤ) (id seat : ℕ) (r y : Record) (outs : ℕ)
    → IsKept p s past room capacity kept taken best → state_of past id ≡ out seat
    → slice_get kept id ≡ Some r → outs ≡ out_count kept → is_out y.stage ≡ false
    → outs - 1 ≡ out_count (slice_set kept id y)
outs_ended p s past room capacity kept taken best id seat r y outs k o e old now =
    let f = kept_out p s past room capacity kept taken best id seat r k o e in
    let one : one_if (is_out r.stage) ≡ 1 = ap one_if f.1 in
    let none : one_if (is_out y.stage) ≡ 0 = ap one_if now in
    let c = count_by-set (λ (q : Record). is_out q.stage) kept id y r e in
    omega (arith, c, one, none, old)

-- the records after a put that splits
pub split_list : (kept one two : List Record) (id n depth : ℕ) (low : ℤ) (lo ro : Bool)
    (left right : Piece Cut) (r r1 r2 : Record)
    → r1 ≡ fresh_record id depth low lo left → r2 ≡ fresh_record id depth low ro right → one
    ≡ slice_set kept id (parted n r) ++ r1 ∷ [] → two ≡ one ++ r2 ∷ []
    → two ≡ slice_set kept id (parted n r) ++ fresh_record id depth low lo left
    ∷ fresh_record id depth low ro right ∷ []
split_list kept one two id n depth low lo ro left right r r1 r2 e1 e2 ones twos =
    let set : List Record = slice_set kept id (parted n r) in
    twos ∙ (ap (λ l. l ++ r2 ∷ []) ones ∙ (append_assoc set (r1 ∷ []) (r2 ∷ [])
    ∙ (ap (λ x. set ++ x ∷ r2 ∷ []) e1
    ∙ ap (λ x. set ++ fresh_record id depth low lo left ∷ x ∷ []) e2)))

-- after a put that splits
pub outs_split : (p : Program) (s : Settings) (past : List Entry) (room capacity : ℕ)
    (kept two : List Record) (taken : ℕ) (best : Option ℤ) (id seat n depth : ℕ) (low : ℤ)
    (lo ro : Bool) (left right : Piece Cut) (r : Record) (outs : ℕ)
    → IsKept p s past room capacity kept taken best → state_of past id ≡ out seat
    → slice_get kept id ≡ Some r → outs ≡ out_count kept
    → two ≡ slice_set kept id (parted n r) ++ fresh_record id depth low lo left
    ∷ fresh_record id depth low ro right ∷ [] → outs - 1 ≡ out_count two
outs_split p s past room capacity kept two taken best id seat n depth low lo ro left right r outs
    k o e old all =
    let set : List Record = slice_set kept id (parted n r) in
    let new : List Record = fresh_record id depth low lo left ∷ fresh_record id depth low ro right
    ∷ [] in
    let w : outs - 1 ≡ out_count set = outs_ended p s past room capacity kept taken best id seat r
    (parted n r) outs k o e old refl in
    let c : out_count (set ++ new) ≡ out_count set + 0 =
    sum_by-append (λ (q : Record). one_if (is_out q.stage)) set new in
    let d : out_count two ≡ out_count (set ++ new) = ap out_count all in
    omega (arith, c, w, d)
