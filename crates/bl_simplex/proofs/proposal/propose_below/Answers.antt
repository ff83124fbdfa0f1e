use Rattle.std.proofs.Common.{◌≡◌, ◌+◌, ◌<◌, length, sym, subst, rules, List}
use Rattle.std.specs.Prelude.{All, IfSome}
use Rattle.bl_simplex.specs.Sides.{IsSideProposal}
use Rattle.bl_simplex.specs.declared.branching.SideProposal.{SideProposal}
use Rattle.bl_simplex.proofs.proposal.propose_below.Goals as goal

pub returns-clause-branch : goal.returns-clause-branch
returns-clause-branch c =
    let e : length c.as_slice-4.result.now ≡ length c.args.problem.now.columns = search rules in
    subst (λ n. IfSome c.in_ok-choice.choice.branch (λ k. k < n)) e c.in_ok-choice.ensures.branch

pub returns-clause-sides : goal.returns-clause-sides
returns-clause-sides c =
    let e : length c.as_slice-4.result.now ≡ length c.args.problem.now.columns = search rules in
    let f : c.from_vec-3.result ≡ c.in_ok-choice.choice.sides.items = search rules in
    let l : length c.rows.result.now + c.len-cuts.result ≡ length c.args.problem.now.rows
    + length c.args.desc.now.cuts = search rules in
    subst (λ (s : List SideProposal). All (IsSideProposal (length c.args.problem.now.columns)
    (length c.args.problem.now.rows + length c.args.desc.now.cuts)) s) (sym f)
    (subst (λ n. All (IsSideProposal n
    (length c.args.problem.now.rows + length c.args.desc.now.cuts))
    c.in_ok-choice.choice.sides.items) e
    (subst (λ n. All (IsSideProposal (length c.as_slice-4.result.now) n)
    c.in_ok-choice.choice.sides.items) l c.in_ok-choice.ensures.sides))
