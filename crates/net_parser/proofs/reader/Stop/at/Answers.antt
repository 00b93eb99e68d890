use Rattle.std.proofs.Common.{refl}
use Rattle.net_parser.proofs.reader.Stop.at.Goals as goal

pub returns-in-Unsupported : goal.returns-in-Unsupported
returns-in-Unsupported c = rw c.in-Unsupported.is refl
