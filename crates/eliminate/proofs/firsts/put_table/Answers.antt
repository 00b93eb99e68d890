use Rattle.std.proofs.lemmas.List.{take_more_set}
use Rattle.eliminate.proofs.firsts.put_table.Goals as goal

pub returns-clause-puts : goal.returns-clause-puts
returns-clause-puts g c = record { slot = c.table.result; appends = c.table.ensures; slots = take_more_set c.args.live.now c.args.count c.table.result c.requires.count }
