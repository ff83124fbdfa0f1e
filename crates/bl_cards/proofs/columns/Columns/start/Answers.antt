use Rattle.std.proofs.Common.{◌≡◌, ◌∙◌, sym, ap, arith, length, ◌++◌, ◌∷◌, [], map, ◌+◌, ◌-◌}
use Rattle.std.proofs.lemmas.List.{length-append}
use Rattle.bl_cards.specs.Views.{cell_of, rows_in}
use Rattle.bl_cards.proofs.Grids.{rows_in-none}
use Rattle.bl_cards.proofs.columns.Columns.start.Goals as goal

pub invariant_of-self-in-None-2 : goal.invariant_of-self-in-None-2
invariant_of-self-in-None-2 c =
    let cells = map cell_of c.self.inside.cells.items in
    let n : length c.add.new.self ≡ length c.self.inside.names + 1 =
    ap length c.in_ok-add-in-None-2.ensures.ok
    ∙ length-append c.self.inside.names (c.args.name.now ∷ []) in
    let last : length c.add.new.self - 1 ≡ length c.self.inside.names = omega (arith, n) in
    let w = ap length (c.push_reserved.ensures.items ∙ ap (λ bs. bs ++ c.self.inside.in_stretch
    ∷ []) c.reserve.ensures.items) ∙ length-append c.self.inside.whole.items
    (c.self.inside.in_stretch ∷ []) in
    record {
      as_many = omega (arith, w, n, c.self.invariant.as_many);
      few = omega (arith, n);
      within = λ i d l. let h = c.self.invariant.within i d l in omega (arith, n, h);
      here_is = c.clear.ensures ∙ sym (ap (rows_in cells) last
          ∙ rows_in-none cells (length c.self.inside.names) c.self.invariant.within);
    }
