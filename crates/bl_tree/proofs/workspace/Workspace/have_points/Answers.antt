use Rattle.std.proofs.Common.{length, ap, sym, ◌∙◌, arith}
use Rattle.bl_problem.specs.Program.{Program}
use Rattle.bl_tree.proofs.Boxes.{described_lows, described_highs}
use Rattle.bl_tree.proofs.workspace.Workspace.have_points.Goals as goal

pub write_bounds-requires-clause-lows : goal.write_bounds-requires-clause-lows
write_bounds-requires-clause-lows c =
    c.self.invariant.0 ∙ (ap (λ (p : Program). length p.columns) c.self.view_is
    ∙ (sym c.requires.width ∙ described_lows c.args.chain.now.changes c.args.chain.now.top))

pub write_bounds-requires-clause-highs : goal.write_bounds-requires-clause-highs
write_bounds-requires-clause-highs c =
    c.self.invariant.1 ∙ (ap (λ (p : Program). length p.columns) c.self.view_is
    ∙ (sym c.requires.width ∙ (described_lows c.args.chain.now.changes c.args.chain.now.top
    ∙ sym c.requires.chain.whole.highs)))

pub have_points-requires-clause-high : goal.have_points-requires-clause-high
have_points-requires-clause-high c =
    let new = ap length c.write_bounds.ensures.highs in
    let highs = described_highs c.args.chain.now.changes c.args.chain.now.top in
    let lows = described_lows c.args.chain.now.changes c.args.chain.now.top in
    let whole = c.requires.chain.whole.highs in
    let width = c.requires.width in
    let column = c.requires.column in
    omega (arith, new, highs, lows, whole, width, column)

pub invariant_of-self : goal.invariant_of-self
invariant_of-self c =
    let same = ap (λ (p : Program). length p.columns) c.self.view_is in
    let new_highs = ap length c.write_bounds.ensures.highs in
    let new_lows = ap length c.write_bounds.ensures.lows in
    let highs = described_highs c.args.chain.now.changes c.args.chain.now.top in
    let lows = described_lows c.args.chain.now.changes c.args.chain.now.top in
    let whole = c.requires.chain.whole.highs in
    let width = c.requires.width in
    let after_lows = c.have_points.ensures.lows in
    let after_highs = c.have_points.ensures.highs in (
      omega (arith, same, new_lows, width, after_lows),
      omega
          (arith, same, new_highs, highs, lows, whole, width, after_highs),
    )
