use Rattle.std.proofs.Common.{◌∙◌, refl, length}
use Rattle.bl_factor.specs.Others.{listed}
use Rattle.bl_factor.specs.Etas.{elimination_of}
use Rattle.bl_factor.proofs.EtaLemmas.{transposed-eta, eliminated_transposed-swap}
use Rattle.bl_factor.proofs.eta.Eta.apply_transposed.Goals as goal

pub returns : goal.returns
returns c =
    let eta = c.args.self.now in
    let xs = c.args.right.now in
    let t = transposed-eta eta xs (listed eta.others) c.rest_after-rest.result c.requires refl
    c.rest_after-rest.ensures in
    c.exchange.ensures ∙ eliminated_transposed-swap (elimination_of (length xs) eta) xs
    c.quotient.result (c.quotient.ensures ∙ t)
