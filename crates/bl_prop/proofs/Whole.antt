-- The law of the pass over a problem and a description.
use Rattle.std.proofs.Common.{◌≡◌, ℕ, ℤ, List, [], ◌∷◌, length, map, Option, Some, None, refl}
use Rattle.std.proofs.Common.{sym, ◌∙◌, arith}
use Rattle.std.proofs.lemmas.Int.{ints}
use Rattle.std.proofs.lemmas.List.Elements.{All-append, All-map, All-nil}
use Rattle.bl_problem.specs.Rows.{AreEnds}
use Rattle.bl_problem.specs.Program.{Program, IsProgram}
use Rattle.bl_problem.specs.declared.problem.Row.{Row}
use Rattle.bl_problem.specs.declared.cut.Cut.{Cut}
use Rattle.bl_problem.specs.declared.decision.Decision.{Decision}
use Rattle.bl_problem.specs.Decisions.{MeetsAll}
use Rattle.bl_problem.proofs.Boxes.{box-width}
use Rattle.bl_desc.specs.declared.desc.Desc.{Desc}
use Rattle.bl_bound.specs.Lines.{lines_of, line_of_row, line_of_cut}
use Rattle.bl_bound.specs.Descriptions.{Describes, IsLeft}
use Rattle.bl_bound.proofs.Meets.{lines_meet}
use Rattle.bl_prop.specs.Limits.{IsEnd, IsLine, AreLines, IsDecision, AreDecisions}
use Rattle.bl_prop.specs.Passes.{IsNear}
use Rattle.bl_prop.specs.declared.pass.Pass.{Pass}
use Rattle.bl_prop.proofs.Nearness.{walked-near}
use Rattle.bl_prop.specs.Answers.{pass_of, answer_by, tightened_of, IsTightened, Keeps}
use Rattle.bl_prop.proofs.Law.{Holds, walked-holds}

ends_fit : (low high : Option ℤ) → AreEnds low high → IsEnd low × IsEnd high
ends_fit None None h = absurd h
ends_fit (Some l) None h = (omega (arith, ints, h), tt)
ends_fit None (Some u) h = (tt, omega (arith, ints, h))
ends_fit (Some l) (Some u) h = (omega (arith, ints, h.0), omega (arith, ints, h.1))

pub are_lines : (p : Program) (desc : Desc Cut) → IsProgram p → Describes p desc
    → AreLines (length p.columns) (lines_of p.rows desc.cuts)
are_lines p desc h s = All-append (IsLine (length p.columns)) (map line_of_row p.rows)
    (map line_of_cut desc.cuts)
    (All-map (IsLine (length p.columns)) line_of_row p.rows (λ k d l. let r =
    h.rows k d l in let e = ends_fit _ _ r.ends in record {
      terms = r.terms;
      low = e.0;
      high =
          e.1;
    }))
    (All-map (IsLine (length p.columns)) line_of_cut desc.cuts (λ k d l. let r =
    s.cuts k d l in record { terms = r.terms; low = tt; high = r.right }))

pub pass-holds : (p : Program) (desc : Desc Cut) (x : List ℤ) → IsProgram p → Describes p desc
    → IsLeft p desc x → Holds x (pass_of p desc)
pass-holds p desc x h s f =
    let w = box-width desc.lows desc.highs x f.box in
    let n : length p.columns ≡ length x = sym s.lows ∙ w.lows in
    let lines = are_lines p desc h s in
    walked-holds (length (lines_of p.rows desc.cuts)) (lines_of p.rows desc.cuts) x
    (record { lows = desc.lows; highs = desc.highs; decisions = []; stuck = None })
    (omega arith)
    (record { box = f.box; met = tt; free = refl })
    (λ k d l. λ i e m. let t = ((lines k d l).terms.each i e m).column in omega (arith, t, n))
    (lines_meet p desc x f)

keeps-by : (x : List ℤ) (stuck : Option ℕ) (decisions : List Decision) → stuck ≡ None
    → MeetsAll x decisions → Keeps x (answer_by stuck decisions)
keeps-by x (Some i) decisions e m = absurd cc
keeps-by x None [] e m = tt
keeps-by x None (d ∷ ds) e m = m

-- a point that is left keeps what the pass answers
pub keeps-tightened : (p : Program) (desc : Desc Cut) (x : List ℤ) → IsProgram p
    → Describes p desc → IsLeft p desc x → Keeps x (tightened_of p desc)
keeps-tightened p desc x h s f =
    let k = pass-holds p desc x h s f in
    keeps-by x (pass_of p desc).stuck (pass_of p desc).decisions k.free k.met

-- the lines of the lists that a call read
pub moved-lines : (p : Program) (desc : Desc Cut) (rows : List Row) (cuts : List Cut)
    (lows : List ℤ) → IsProgram p → Describes p desc →
    rows ≡ p.rows → cuts ≡ desc.cuts → lows ≡ desc.lows
    → AreLines (length lows) (lines_of rows cuts)
moved-lines p desc rows cuts lows h s r c e = rw (r, c, e, s.lows) (are_lines p desc h s)

within-by : (n : ℕ) (stuck : Option ℕ) (decisions : List Decision) → AreDecisions n decisions
    → IsTightened n (answer_by stuck decisions)
within-by n (Some i) decisions h = tt
within-by n None [] h = tt
within-by n None (d ∷ ds) h = h

-- the decisions of the pass are within the limits
pub tightened-within : (p : Program) (desc : Desc Cut) → IsProgram p → Describes p desc
    → IsTightened (length p.columns) (tightened_of p desc)
tightened-within p desc h s =
    let start : Pass = record {
      lows = desc.lows;
      highs = desc.highs;
      decisions = [];
      stuck =
          None;
    } in
    let none : AreDecisions (length desc.lows) [] =
    record { few = omega arith; each = All-nil (IsDecision (length desc.lows)) } in
    let near : IsNear start = record {
      few = rw s.lows h.few_columns;
      highs =
          s.highs ∙ sym s.lows;
      near_lows = s.near_lows;
      near_highs = s.near_highs;
      decisions =
          none;
    } in
    let t = walked-near (length (lines_of p.rows desc.cuts)) (length p.columns)
    (lines_of p.rows desc.cuts) start (omega arith) near s.lows (are_lines p desc h s) in
    within-by (length p.columns) (pass_of p desc).stuck (pass_of p desc).decisions
    (rw (t.width ∙ s.lows) at t.near.decisions)
