use Rattle.std.proofs.Common.{◌<◌, ◌∙◌, sym, ap, map, length, List, [], get_or, arith}
use Rattle.std.specs.List.{list_all}
use Rattle.std.proofs.lemmas.List.{get_or-map, length-map}
use Rattle.bl_mps.specs.declared.entries.Entry.{Entry}
use Rattle.bl_cards.specs.Said.{RowLine}
use Rattle.bl_cards.specs.declared.kind.Role.TheVariants.{Extra}
use Rattle.bl_cards.specs.Lines.{is_limited}
use Rattle.bl_mps.specs.Meaning.{entries_of, row_of, rows_of, row_within}
use Rattle.bl_mps.proofs.Limits.{kept}
use Rattle.bl_mps.proofs.Made.{row_made, row_passed, row_fails, all_pushed, wide_in}
use Rattle.bl_mps.proofs.finish.make_rows.Goals.{then-is_limited+in-Ok+in_ok-push-in-Ok}
use Rattle.bl_mps.proofs.finish.make_rows.Goals.{else-is_limited}
use Rattle.bl_mps.proofs.finish.make_rows.Goals as goal

abbrev no_line : RowLine
no_line = record { name = []; role = Extra }

pub row_at-requires-clause-entries : goal.row_at-requires-clause-entries
row_at-requires-clause-entries c = λ d.
    let cells = c.args.reader.now.columns.cells in
    let rows = c.args.reader.now.rows in
    let l : c.loop-i.i < length rows =
    omega (arith, c.loop-i-test.true, c.len-i-end.ensures, ap length c.rows.ensures) in
    let n = length-map rows (λ (r : RowLine). r.name) in
    let e = get_or-map (entries_of cells) (map (λ (r : RowLine). r.name) rows) c.loop-i.i []
    c.index-entries-i.result (omega (arith, n, l)) in
    let f = get_or-map (λ (r : RowLine). r.name) rows c.loop-i.i d [] l in
    c.as_slice.ensures ∙ c.index-entries-i.is ∙ ap
    (λ (es : List (List Entry)). get_or es c.loop-i.i c.index-entries-i.result)
    c.requires.entries ∙ e ∙ ap (entries_of cells) f

pub returns-in-Err : goal.returns-in-Err
returns-in-Err c =
    let s = c.args.reader.now in
    let l : c.loop-i.i < length s.rows =
    omega (arith, c.loop-i-test.true, c.len-i-end.ensures, ap length c.rows.ensures) in
    let role =
    ap is_limited
    (sym (c.role_at.ensures no_line
    ∙ ap (λ (rows : List RowLine). (get_or rows c.loop-i.i no_line).role)
    c.rows-in-loop-i.ensures)) ∙ sym c.is_limited.ensures ∙ c.if-is_limited.true in
    wide_in c.in-Err.fault row_within (row_of s (get_or s.rows c.loop-i.i no_line))
    (list_all row_within) (rows_of s) (row_fails s c.loop-i.i no_line l role)
    (c.in-Err.ensures no_line)

pub loop-i-preserved : goal.loop-i-preserved
loop-i-preserved c =
    let s = c.args.reader.now in
    let line = get_or s.rows c.loop-i.i no_line in
    let l : c.loop-i.i < length s.rows =
    omega (arith, c.loop-i-test.true, c.len-i-end.ensures, ap length c.rows.ensures) in
    let role =
    ap is_limited
    (sym (c.role_at.ensures no_line
    ∙ ap (λ (rows : List RowLine). (get_or rows c.loop-i.i no_line).role)
    c.rows-in-loop-i.ensures)) ∙ sym c.is_limited.ensures in
    elim c.if-is_limited.branch [
      | then-is_limited+in-Ok+in_ok-push-in-Ok w ↦
          let k = kept row_within (row_of s line) w.in-Ok.row (w.in-Ok.ensures no_line) in
          let is = w.rows-is ∙ w.in_ok-push-in-Ok.ensures.ok in
          record {
            made = is ∙ rw (c.loop-i.invariant.made, ← k.1)
                (sym (row_made s s.rows c.loop-i.i no_line l (role ∙ w.if-is_limited.true)));
            keep = ap (list_all row_within) is ∙ all_pushed row_within c.loop-i.rows w.in-Ok.row
                c.loop-i.invariant.keep (ap row_within (sym k.1) ∙ k.0);
          }
      | else-is_limited w ↦ record {
        made = w.rows-is ∙ c.loop-i.invariant.made
            ∙ sym (row_passed s s.rows c.loop-i.i no_line l (role ∙ w.if-is_limited.false));
        keep = ap (list_all row_within) w.rows-is ∙ c.loop-i.invariant.keep;
      }
    ]
