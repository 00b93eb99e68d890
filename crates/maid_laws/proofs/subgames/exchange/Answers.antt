use Rattle.maid_laws.proofs.ExchangeLaws.{exchange_law}
use Rattle.maid_laws.proofs.subgames.exchange.Goals as goal

pub returns : goal.returns
returns c = record { law = exchange_law }
