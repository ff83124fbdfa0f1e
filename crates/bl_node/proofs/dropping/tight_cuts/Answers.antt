use Rattle.std.proofs.Common.{◌≡◌, ◌+◌, [], ◌∷◌, ◌++◌, length, List, arith, ap, ◌∙◌}
use Rattle.std.proofs.lemmas.List.{length-append}
use Rattle.std.proofs.lemmas.List.Elements.{All-push}
use Rattle.bl_mods.specs.declared.mods.ItemId.{ItemId}
use Rattle.bl_problem.specs.declared.cut.Cut.{Cut}
use Rattle.bl_desc.specs.declared.desc.Status.{Status}
use Rattle.bl_node.specs.Names.{IsRenamedFrom}
use Rattle.bl_node.proofs.Naming.{numbered-push}
use Rattle.bl_node.proofs.Renaming.{renamed-one}
use Rattle.bl_node.proofs.dropping.tight_cuts.Goals as goal

pub loop-at-preserved : goal.loop-at-preserved
loop-at-preserved c =
    let i = c.loop-at.invariant in
    let cuts = c.loop-at.tight.cuts in
    let cut = c.in_ok-cut.cut in
    let id : ItemId = record {
      seat = c.args.seat;
      serial =
          c.args.serial + c.loop-at.tight.count;
    } in
    let pushed : c.push.new.self ≡ cuts ++ cut ∷ [] = c.in_ok-push.ensures.ok in
    let longer : length c.push.new.self ≡ length cuts + 1 =
    ap (λ (l : List Cut). length l) pushed ∙ length-append cuts (cut ∷ []) in
    let statuses : length c.push-in-loop-at.new.self ≡ length c.loop-at.tight.statuses + 1 =
    ap (λ (l : List Status). length l) c.in_ok-push-2.ensures.ok
    ∙ length-append c.loop-at.tight.statuses _ in
    let one : IsRenamedFrom c.args.cuts.now cut =
    renamed-one c.args.cuts.now c.loop-at.at c.index-cuts-at.result c.get.result.now cut id
    (omega (arith, c.loop-at-test.true)) c.index-cuts-at.is c.get.ensures c.in_ok-cut.ensures in
    record {
      numbered =
          rw pushed (numbered-push c.args.seat c.args.serial
          (c.args.serial + c.loop-at.tight.count) cuts cut
          i.numbered (let n = i.count in omega (arith, n))
          (ap (λ (k : Cut). k.id) c.in_ok-cut.ensures));
      few = let n = i.few in omega (arith, longer, n);
      from = rw pushed (All-push (IsRenamedFrom c.args.cuts.now) cuts cut i.from one);
      statuses = let n = i.statuses in omega (arith, longer, statuses, n);
      count = let n = i.count in omega (arith, longer, n);
    }
