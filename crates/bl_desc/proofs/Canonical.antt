-- Applying the canonical difference gives the new description.
use Rattle.std.proofs.Common.{◌≡◌, List, length, refl, ap, sym, ◌∙◌, arith, length-append, true}
use Rattle.std.specs.Prelude.{ℤ, replicate}
use Rattle.std.specs.Ordering.{int_eq}
use Rattle.std.specs.Cmp.{signed_Decides}
use Rattle.std.proofs.lemmas.List.{length-replicate}
use Rattle.bl_mods.specs.declared.mods.ItemId.{ItemId}
use Rattle.bl_mods.specs.declared.mods.ListMods.{ListMods}
use Rattle.bl_mods.specs.Mods.{relisted, kept_from, list_differences, IsPartThenFresh}
use Rattle.bl_mods.proofs.Differences.{written-differences, relisted-differences, length-kept_from}
use Rattle.bl_desc.specs.declared.desc.Status.{Status}
use Rattle.bl_desc.specs.declared.desc.Status.TheVariants.{Basic, AtLow, AtHigh}
use Rattle.bl_desc.specs.declared.desc.Desc.{Desc}
use Rattle.bl_desc.specs.Changes.{IsWhole, changed, difference, same_status, cut_status_after}

pub same_status-is : (x y : Status) → same_status x y ≡ true → x ≡ y
same_status-is Basic Basic e = refl
same_status-is Basic AtLow e = cc
same_status-is Basic AtHigh e = cc
same_status-is AtLow Basic e = cc
same_status-is AtLow AtLow e = refl
same_status-is AtLow AtHigh e = cc
same_status-is AtHigh Basic e = cc
same_status-is AtHigh AtLow e = cc
same_status-is AtHigh AtHigh e = refl

pub same_status-self : (x : Status) → same_status x x ≡ true
same_status-self Basic = refl
same_status-self AtLow = refl
same_status-self AtHigh = refl

pub number-is : (x y : ℤ) → int_eq x y ≡ true → x ≡ y
number-is x y e = (signed_Decides x y).0 e

pub length-cut_status_after : {C : Type 0} (mods : ListMods C) (cuts : List C)
    (status : List Status) → length status ≡ length cuts
    → length (cut_status_after mods status) ≡ length (relisted mods cuts)
length-cut_status_after mods cuts status e =
    let a = length-append (kept_from 0 mods.dropped status) (replicate (length mods.added) AtLow) in
    let b = length-append (kept_from 0 mods.dropped cuts) mods.added in
    let c = length-kept_from 0 mods.dropped status cuts e in
    let d : length (replicate (length mods.added) AtLow) ≡ length mods.added =
    length-replicate (length mods.added) AtLow in
    omega (arith, a, b, c, d)

-- two descriptions with equal lists are one
pub Desc-eq : {C : Type 0} (a b : Desc C) → a.lows ≡ b.lows → a.highs ≡ b.highs → a.cuts ≡ b.cuts
    → a.column_status ≡ b.column_status → a.row_status ≡ b.row_status
    → a.cut_status ≡ b.cut_status → a ≡ b
Desc-eq {C} a b e f g h i j =
    let d1 : List ℤ → Desc C = λ x. record a { lows = x } in
    let d2 : List ℤ → Desc C = λ x. record (d1 b.lows) { highs = x } in
    let d3 : List C → Desc C = λ x. record (d2 b.highs) { cuts = x } in
    let d4 : List Status → Desc C = λ x. record (d3 b.cuts) { column_status = x } in
    let d5 : List Status → Desc C = λ x. record (d4 b.column_status) { row_status = x } in
    let d6 : List Status → Desc C = λ x. record (d5 b.row_status) { cut_status = x } in
    ap d1 e ∙ (ap d2 f ∙ (ap d3 g ∙ (ap d4 h ∙ (ap d5 i ∙ ap d6 j))))

pub changed-difference : {C : Type 0} (id_of : C → ItemId) (p c : Desc C) → IsWhole p → IsWhole c
    → length p.lows ≡ length c.lows → length p.row_status ≡ length c.row_status
    → IsPartThenFresh id_of p.cuts c.cuts → changed (difference id_of p c) p ≡ c
changed-difference {C} id_of p c wp wc columns rows part =
    let cuts : relisted (list_differences id_of p.cuts c.cuts) p.cuts ≡ c.cuts =
    relisted-differences id_of p.cuts c.cuts part in
    let lows = written-differences int_eq number-is p.lows c.lows columns in
    let highs = written-differences int_eq number-is p.highs c.highs
    (wp.highs ∙ (columns ∙ sym wc.highs)) in
    let cs = written-differences same_status same_status-is p.column_status c.column_status
    (wp.columns ∙ (columns ∙ sym wc.columns)) in
    let rs = written-differences same_status same_status-is p.row_status c.row_status rows in
    let len : length (cut_status_after (list_differences id_of p.cuts c.cuts) p.cut_status)
    ≡ length c.cut_status =
    length-cut_status_after (list_differences id_of p.cuts c.cuts) p.cuts p.cut_status wp.cuts
    ∙ (ap length cuts ∙ sym wc.cuts) in
    let us = written-differences same_status same_status-is
    (cut_status_after (list_differences id_of p.cuts c.cuts) p.cut_status) c.cut_status len in
    Desc-eq _ _ lows highs cuts cs rs us
