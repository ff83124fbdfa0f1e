-- What a change makes of a description, and the canonical difference of two.
use Rattle.std.specs.Prelude.{◌≡◌, ℕ, ◌<◌, Bool, true, false, List, [], ◌++◌, length, replicate}
use Rattle.std.specs.Prelude.{All}
use Rattle.std.specs.Ordering.{int_eq}
use Rattle.bl_mods.specs.declared.mods.Mod.{Mod}
use Rattle.bl_mods.specs.declared.mods.ListMods.{ListMods}
use Rattle.bl_mods.specs.declared.mods.ItemId.{ItemId}
use Rattle.bl_mods.specs.Mods.{written, differences, kept, relisted, list_differences}
use Rattle.bl_mods.specs.Rising.{IsRising, AreRising}
use Rattle.bl_desc.specs.declared.desc.Status.{Status}
use Rattle.bl_desc.specs.declared.desc.Status.TheVariants.{Basic, AtLow, AtHigh}
use Rattle.bl_desc.specs.declared.desc.Desc.{Desc}
use Rattle.bl_desc.specs.declared.change.Change.{Change}

-- equally many lows, highs and column statuses, and equally many cuts and cut statuses
pub record IsWhole {C : Type 0} (d : Desc C) : Type 0 where
  pub highs : length d.highs ≡ length d.lows
  pub columns : length d.column_status ≡ length d.lows
  pub cuts : length d.cut_status ≡ length d.cuts

-- the change of nothing
abbrev pub nothing : {C : Type 0} → Change C
nothing = record {
  lows = [];
  highs = [];
  cuts = record { dropped = []; added = [] };
  columns =
      [];
  rows = [];
  fresh = [];
}

-- the statuses of the cuts after some are dropped and others added
abbrev pub cut_status_after : {C : Type 0} → ListMods C → List Status → List Status
cut_status_after mods status = kept mods.dropped status ++ replicate (length mods.added) AtLow

-- bounds are set, cuts are dropped and added, then statuses are set
abbrev pub changed : {C : Type 0} → Change C → Desc C → Desc C
changed c d =
    record {
      lows = written c.lows d.lows;
      highs = written c.highs d.highs;
      cuts = relisted c.cuts d.cuts;
      column_status = written c.columns d.column_status;
      row_status = written c.rows d.row_status;
      cut_status = written c.fresh (cut_status_after c.cuts d.cut_status);
    }

-- the places of the entries are below n
abbrev pub AreBelow : {T : Type 0} → ℕ → List (Mod T) → Type 0
AreBelow n mods = All (λ m. m.place < n) mods

-- the places of the change are in range for the description
pub record Fits {C : Type 0} (c : Change C) (d : Desc C) : Type 0 where
  pub lows : AreBelow (length d.lows) c.lows
  pub highs : AreBelow (length d.highs) c.highs
  pub dropped : All (λ p. p < length d.cuts) c.cuts.dropped
  pub columns : AreBelow (length d.column_status) c.columns
  pub rows : AreBelow (length d.row_status) c.rows
  pub fresh : AreBelow (length (relisted c.cuts d.cuts)) c.fresh

-- the places of each list of the change rise
pub record HasRisingPlaces {C : Type 0} (c : Change C) : Type 0 where
  pub lows : AreRising c.lows
  pub highs : AreRising c.highs
  pub dropped : IsRising c.cuts.dropped
  pub columns : AreRising c.columns
  pub rows : AreRising c.rows
  pub fresh : AreRising c.fresh

abbrev pub same_status : Status → Status → Bool
same_status Basic Basic = true
same_status Basic AtLow = false
same_status Basic AtHigh = false
same_status AtLow Basic = false
same_status AtLow AtLow = true
same_status AtLow AtHigh = false
same_status AtHigh Basic = false
same_status AtHigh AtLow = false
same_status AtHigh AtHigh = true

-- the canonical difference: the bounds and statuses that differ, the dropped and added cuts by id,
-- and the statuses of cuts that are not what dropping and adding alone leave
abbrev pub difference : {C : Type 0} → (C → ItemId) → Desc C → Desc C → Change C
difference id_of p c =
    record {
      lows = differences int_eq p.lows c.lows;
      highs = differences int_eq p.highs c.highs;
      cuts = list_differences id_of p.cuts c.cuts;
      columns = differences same_status p.column_status c.column_status;
      rows = differences same_status p.row_status c.row_status;
      fresh = differences same_status
          (cut_status_after (list_differences id_of p.cuts c.cuts) p.cut_status) c.cut_status;
    }
