use Rattle.net_parser.proofs.Once.{one_tree}
use Rattle.net_parser.proofs.Stopping.{covered, exclusive, one_fault}
use Rattle.net_parser.proofs.laws.tokens_read_one_way.Goals as goal

pub returns : goal.returns
returns c = record { one_tree = one_tree; covered = covered; exclusive = exclusive; one_fault = one_fault }
