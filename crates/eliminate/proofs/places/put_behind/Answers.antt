use Rattle.std.proofs.Common.{◌∙◌, ◌<◌, length, arith}
use Rattle.eliminate.proofs.Filing.{filed_behind}
use Rattle.eliminate.proofs.Placing.{within_more, live_more}
use Rattle.eliminate.proofs.places.put_behind.Goals as goal

pub returns-clause-board : goal.returns-clause-board
returns-clause-board c =
    let room : c.args.places.made < length c.args.slots.now = omega (arith, c.requires.made, c.requires.slots) in
    record {
      same = c.file_place.auto.at ∙ c.requires.board.same;
      apart = c.requires.board.apart;
      filed = filed_behind c.args.order.now.ranks.now c.args.order.now.count c.args.at.now c.file_place.new.at c.args.slots.now c.args.slot.now c.args.places.made c.file_place.auto.at room c.requires.board.filed c.file_place.ensures;
      within = within_more c.args.places.live c.insert.new.self c.args.places.made c.requires.board.within c.insert.ensures.all;
    }

pub returns-clause-live : goal.returns-clause-live
returns-clause-live c =
    live_more c.args.places.live c.insert.new.self c.args.places.made c.args.slots.now c.args.slot.now (omega (arith, c.requires.made, c.requires.slots)) c.insert.ensures.all
