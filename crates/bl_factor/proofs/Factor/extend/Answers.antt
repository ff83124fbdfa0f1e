use Rattle.std.proofs.Common.{◌∙◌, ap, refl, set, length}
use Rattle.std.specs.Prelude.{Some}
use Rattle.std.specs.Vec.{with_item}
use Rattle.std.proofs.lemmas.List.{length-set}
use Rattle.bl_factor.specs.Factored.{Factored, size_of}
use Rattle.bl_factor.specs.Sparse.{dense}
use Rattle.bl_factor.proofs.KeptLemmas.{replaced}
use Rattle.bl_factor.proofs.Factor.extend.Goals as goal

pub invariant_of-self-2 : goal.invariant_of-self-2
invariant_of-self-2 c =
    (replaced c.self.inside _ c.args.self.now c.args.place c.args.entries c.in_ok-eta.eta
    c.self.invariant c.self.view_is
    c.requires.sparse c.in_ok-eta.ensures refl c.in_ok-push.ensures.items).kept

pub returns-clause-matrix : goal.returns-clause-matrix
returns-clause-matrix c =
    (replaced c.self.inside (record {
      alloc = c.self.inside.alloc;
      columns =
          with_item c.self.inside.columns c.args.place (Some c.args.entries);
      etas =
          c.push.new.self;
      fresh = c.self.inside.fresh;
      fresh_entries = c.self.inside.fresh_entries;
    })
    c.args.self.now c.args.place c.args.entries c.in_ok-eta.eta c.self.invariant c.self.view_is
    c.requires.sparse c.in_ok-eta.ensures refl c.in_ok-push.ensures.items).matrix
    ∙ ap (λ (f : Factored). set f.matrix c.args.place
    (dense (size_of c.args.self.now) c.args.entries.items)) c.self.view_is

pub returns-clause-size : goal.returns-clause-size
returns-clause-size c =
    ap length (returns-clause-matrix c) ∙ length-set c.args.self.now.matrix c.args.place
    (dense (size_of c.args.self.now) c.args.entries.items)
