-- Few bytes, and then the test of each.
use Rattle.net_build.proofs.LabelLemmas.{short_and}
use Rattle.net_build.proofs.labels.is_label.Goals as goal

pub returns-then-bytes-le-MOST_NAME_BYTES : goal.returns-then-bytes-le-MOST_NAME_BYTES
returns-then-bytes-le-MOST_NAME_BYTES c = short_and _ _ _ c.if-bytes-le-MOST_NAME_BYTES.true c.are_printable.ensures
