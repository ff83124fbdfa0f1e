use Rattle.std.proofs.Common.{◌∙◌, ap, sym, subst, length, set, List, ℕ, FitsSigned, rules}
use Rattle.std.specs.Int.{w128}
use Rattle.std.proofs.lemmas.List.{length-set}
use Rattle.bl_factor.specs.Others.{listed}
use Rattle.bl_factor.specs.declared.sparse.Entry.{Entry}
use Rattle.bl_factor.specs.Vectors.{at, column_of}
use Rattle.bl_factor.specs.Sparse.{value_at}
use Rattle.bl_factor.specs.Elimination.{less_multiple, cleared}
use Rattle.bl_factor.specs.Etas.{IsEta, elimination_of}
use Rattle.bl_factor.proofs.Numbers.{is_nought-yes, is_nought-no}
use Rattle.bl_factor.proofs.EtaLemmas.{cleared-nought, cleared-eta, eliminated-cleared}
use Rattle.bl_factor.proofs.eta.Eta.apply.Goals as goal

pub returns-then-at_place-eq0 : goal.returns-then-at_place-eq0
returns-then-at_place-eq0 c =
    let ys = c.exchange.new.right in
    let e = elimination_of (length c.args.right.now) c.args.self.now in
    let f : FitsSigned w128 (at ys c.args.self.now.place).raw = search rules in
    let z = is_nought-yes (at ys c.args.self.now.place) f c.if-at_place-eq0.true in
    sym (cleared-nought e ys z) ∙ eliminated-cleared e c.args.right.now ys c.exchange.ensures

pub returns : goal.returns
returns c =
    let ys = c.exchange.new.right in
    let eta = c.args.self.now in
    let n = c.exchange.auto.right in
    let e = elimination_of (length c.args.right.now) eta in
    let w = subst (λ (n : ℕ). IsEta n eta) (sym n) c.requires in
    let q = c.quotient-quotient.result in
    let f = is_nought-no (at ys eta.place) c.if-at_place-eq0.false in
    let l = cleared-eta eta ys q w f c.quotient-quotient.ensures in
    let zs = set ys eta.place q in
    let F = λ (m : ℕ) (es : List Entry). column_of m
    (λ i. less_multiple (at zs i) (value_at es i) q) in
    c.subtract.ensures
    ∙ ap (λ (m : ℕ). F m (listed eta.others)) (length-set ys eta.place q)
    ∙ l
    ∙ ap (λ (m : ℕ). cleared (elimination_of m eta) ys) n
    ∙ eliminated-cleared e c.args.right.now ys c.exchange.ensures
