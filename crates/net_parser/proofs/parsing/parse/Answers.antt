use Rattle.net_parser.proofs.Owning.{blocks_own}
use Rattle.net_parser.proofs.Stopping.{refused}
use Rattle.net_parser.proofs.parsing.parse.Goals as goal

pub new-reader-requires : goal.new-reader-requires
new-reader-requires c = rw c.list.ensures (c.tokens_stand_in_their_text.ensures.tokens c.args.text.now c.args.tokens.now c.requires)

pub returns-in-Err-clause-fault : goal.returns-in-Err-clause-fault
returns-in-Err-clause-fault c =
    let stops = rw (c.new-reader.ensures, c.list.ensures) at c.in-Err.ensures.follows in
    rw (c.at.ensures, c.place.ensures) (refused c.args.text.now c.args.tokens.now c.in-Err.stop c.text.new.self stops)

pub returns-in-Ok-clause-blocks : goal.returns-in-Ok-clause-blocks
returns-in-Ok-clause-blocks c =
    let own = c.tokens_stand_in_their_text.ensures.tokens c.args.text.now c.args.tokens.now c.requires in
    let spells = rw (c.new-reader.ensures, c.list.ensures) at c.in-Ok.ensures.rule in
    blocks_own c.args.text.now c.args.tokens.now c.in-Ok.blocks.items own spells
