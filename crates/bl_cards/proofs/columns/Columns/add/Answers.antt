use Rattle.std.proofs.Common.{◌≡◌, ◌∙◌, sym, ap, ◌++◌, ◌∷◌, [], map, List, ◌-◌, refl}
use Rattle.std.specs.Prelude.{is_some}
use Rattle.std.proofs.lemmas.List.{map-append}
use Rattle.bl_cards.specs.Said.{Cell, Grid}
use Rattle.bl_cards.specs.Views.{cell_of}
use Rattle.bl_cards.specs.declared.columns.RowCell.{RowCell}
use Rattle.bl_cards.proofs.Grids.{put_refused, put_done, one_cell}
use Rattle.bl_cards.proofs.columns.Columns.add.Goals as goal

pub returns-then-is_some-clause-said : goal.returns-then-is_some-clause-said
returns-then-is_some-clause-said c =
    let g : Grid = record {
      names = c.self.inside.names;
      whole =
          c.self.inside.whole.items;
      cells = map cell_of c.self.inside.cells.items;
      is_open =
          c.self.inside.is_open;
      in_stretch = c.self.inside.in_stretch;
    } in
    rw (← c.self.view_is) (put_refused g c.self.inside.here c.args.row.now c.args.number
    c.self.invariant.here_is (ap is_some (sym c.find.ensures.place) ∙ sym c.is_some.ensures
    ∙ c.if-is_some.true))

pub returns-clause-said : goal.returns-clause-said
returns-clause-said c =
    let g : Grid = record {
      names = c.self.inside.names;
      whole =
          c.self.inside.whole.items;
      cells = map cell_of c.self.inside.cells.items;
      is_open =
          c.self.inside.is_open;
      in_stretch = c.self.inside.in_stretch;
    } in
    let new : RowCell = record {
      column = c.len.result - 1;
      row = c.args.row;
      number =
          c.args.number;
    } in
    let items : c.push_reserved.new.self.items ≡ c.self.inside.cells.items ++ new ∷ [] =
    c.push_reserved.ensures.items ∙ ap (λ (cs : List RowCell). cs ++ new ∷ [])
    c.reserve.ensures.items in
    let is : cell_of new ≡ one_cell g c.args.row.now c.args.number = rw c.len.ensures refl in
    rw (← c.self.view_is) (put_done g c.self.inside.here c.args.row.now c.args.number
    (map cell_of c.push_reserved.new.self.items) c.self.invariant.here_is
    (ap is_some (sym c.find.ensures.place) ∙ sym c.is_some.ensures ∙ c.if-is_some.false)
    (ap (map cell_of) items ∙ map-append cell_of c.self.inside.cells.items (new ∷ [])
    ∙ ap (λ (d : Cell). map cell_of c.self.inside.cells.items ++ d ∷ []) is))
