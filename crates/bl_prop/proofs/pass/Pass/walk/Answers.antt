use Rattle.std.proofs.Common.{[], None, arith, sym, ◌∙◌, ap}
use Rattle.bl_bound.specs.Lines.{Line, line_at, lines_of}
use Rattle.bl_bound.proofs.LineLemmas.{length-lines_of}
use Rattle.bl_prop.specs.declared.pass.Pass.{Pass}
use Rattle.bl_prop.specs.Passes.{line_step}
use Rattle.bl_prop.proofs.Nearness.{lines-near, walked-start, walked-more}
use Rattle.bl_prop.proofs.pass.Pass.walk.Goals as goal

pub loop-place-init : goal.loop-place-init
loop-place-init c = sym (walked-start (lines_of c.args.rows.now c.args.cuts.now) c.args.self.now)

pub line_step-requires-clause-near : goal.line_step-requires-clause-near
line_step-requires-clause-near c =
    let n = length-lines_of c.args.rows.now c.args.cuts.now in
    (lines-near c.loop-place.place (lines_of c.args.rows.now c.args.cuts.now) c.args.self.now
    c.loop-place.self (omega (arith, n, c.loop-place-test.true)) c.requires.near
    c.requires.lines c.loop-place.invariant).near

pub line_step-requires-clause-line : goal.line_step-requires-clause-line
line_step-requires-clause-line c =
    let n = length-lines_of c.args.rows.now c.args.cuts.now in
    let lines = lines_of c.args.rows.now c.args.cuts.now in
    let s = lines-near c.loop-place.place lines c.args.self.now c.loop-place.self
    (omega (arith, n, c.loop-place-test.true)) c.requires.near c.requires.lines
    c.loop-place.invariant in
    let d : Line = record { terms = []; low = None; high = None } in
    rw (s.width, c.line.ensures)
    (c.requires.lines c.loop-place.place d (omega (arith, n, c.loop-place-test.true)))

pub loop-place-preserved : goal.loop-place-preserved
loop-place-preserved c =
    let lines = lines_of c.args.rows.now c.args.cuts.now in
    c.in_ok-line_step.ensures
    ∙ ap (λ (l : Line). line_step c.loop-place.place l c.loop-place.self) c.line.ensures
    ∙ ap (λ (p : Pass). line_step c.loop-place.place (line_at lines c.loop-place.place) p)
    c.loop-place.invariant
    ∙ sym (walked-more c.loop-place.place lines c.args.self.now)
