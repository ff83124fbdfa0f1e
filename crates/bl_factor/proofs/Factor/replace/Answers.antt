use Rattle.std.proofs.Common.{◌≡◌, ◌∙◌, ap, sym, subst, set, ℕ, List}
use Rattle.std.specs.Prelude.{OnOk}
use Rattle.bl_fixed.specs.declared.Fixed.{Fixed}
use Rattle.bl_factor.specs.Sparse.{dense}
use Rattle.bl_factor.specs.Factored.{size_of}
use Rattle.bl_factor.proofs.KeptLemmas.{dense-entries}
use Rattle.bl_factor.proofs.Factor.replace.Goals as goal

pub returns-clause-matrix : goal.returns-clause-matrix
returns-clause-matrix c =
    let column = c.args.column.now in
    let es = c.in_ok-entries.entries.items in
    let d : dense (size_of c.args.self.now) es ≡ column =
    ap (λ (n : ℕ). dense n es) (sym c.requires.long)
    ∙ dense-entries column es c.in_ok-entries.ensures in
    subst (λ (xs : List Fixed). OnOk c.replace_solved.result (c.replace_solved.new.self.matrix
    ≡ set c.args.self.now.matrix c.args.place xs)) d
    c.replace_solved.ensures.matrix
