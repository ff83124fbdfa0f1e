use Rattle.std.proofs.Common.{◌+◌, arith, refl, sym, ◌∙◌, subst}
use Rattle.std.proofs.lemmas.Int.{ints}
use Rattle.std.proofs.lemmas.Bool.{false≢true}
use Rattle.bl_mods.specs.declared.mods.ItemId.{ItemId}
use Rattle.bl_problem.specs.declared.cut.Cut.{Cut}
use Rattle.bl_desc.specs.declared.desc.Desc.{Desc}
use Rattle.bl_cover.specs.declared.separator.Try.{Try}
use Rattle.bl_node.specs.Tried.{Gives, IsTried}
use Rattle.bl_node.specs.Standing.{box_of, IsMade}
use Rattle.bl_node.proofs.First.{shrinks-same}
use Rattle.bl_node.proofs.Naming.{named-added, tried-added, new-name}
use Rattle.bl_node.proofs.cutting.add_proposed.Goals as goal

pub returns : goal.returns
returns g c =
    let p = c.args.problem.now in
    let f = c.args.parent.now in
    let old = c.args.state.now in
    let w = c.add_cut.new.work in
    let cut = c.in-Some-2.cut in
    let id : ItemId = record { seat = old.limits.seat; serial = old.limits.serial + old.made } in
    let made : IsMade p old.work.desc id cut = rw c.in-Some-2.is at c.in_ok-cut.ensures.made in
    let added = c.in_ok-add_cut.ensures in
    let allows : Desc Cut → Try → Type 0 =
    g.S.Separate.allows c.args.separator.now c.args.problem.now in
    let gives = rw c.in-Some-2.is at c.in_ok-cut.ensures.gives in
    let tried : IsTried allows p f cut =
    record {
      work = old.work;
      narrows = c.requires.within c.requires.open;
      tried =
          c.in-Some.tried;
      allowed = rw c.in-Some.is at c.in_ok-tried.ensures.allowed;
      gives =
          subst (λ (k : ItemId). Gives p old.work.desc k c.in-Some.tried cut) (sym made.named) gives;
    } in
    record {
      within = λ e. added.narrows p f made.suits (new-name f old cut made.named c.requires.named)
          (c.requires.within c.requires.open);
      known = λ cutoff k. record {
        stands = added.stands p f cutoff (made.holds k.stands.cuts) k.stands;
        none = λ t. absurd (false≢true (sym c.requires.open ∙ t));
      };
      shrinks = rw (added.adds.lows, added.adds.highs) (shrinks-same (box_of old.work.desc));
      low = rw added.adds.low (omega (arith, ints));
      limits = refl;
      cuts = record {
        named = named-added f old w cut added.adds.cuts made.named
            (omega (arith, c.if-state.false));
        tried = tried-added allows p f old w cut added.adds.cuts made.named c.requires.named tried;
      };
    }
