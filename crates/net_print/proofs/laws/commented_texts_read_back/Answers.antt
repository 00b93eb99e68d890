use Rattle.net_print.proofs.RoundTrips.{commented_round_trips}
use Rattle.net_print.proofs.laws.commented_texts_read_back.Goals as goal

pub returns : goal.returns
returns c = commented_round_trips
