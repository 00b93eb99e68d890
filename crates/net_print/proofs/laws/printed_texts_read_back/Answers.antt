use Rattle.net_print.proofs.RoundTrips.{round_trips}
use Rattle.net_print.proofs.laws.printed_texts_read_back.Goals as goal

pub returns : goal.returns
returns c = round_trips
