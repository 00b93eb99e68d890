use Rattle.std.proofs.Common.{length, get_or, sym, ◌∙◌, arith}
use Rattle.std.proofs.lemmas.List.{get_or_default}
use Rattle.node_sets.specs.Sets.{holds}
use Rattle.factor_core.specs.Tables.{states_in}
use Rattle.factor_core.proofs.StrideRows.{taken_in, taken_few}
use Rattle.factor_core.proofs.rows.take_in.Goals as goal

pub overflow_mul-size : goal.overflow_mul-size
overflow_mul-size c =
    let counts = c.args.counts.now in
    let h = holds c.args.slot.now.scope in
    let states = get_or_default counts c.args.node 0 1 c.requires.node in
    let size = taken_in (states_in counts) h (length counts) c.args.node c.args.size.now (get_or counts c.args.node 0) c.requires.node (sym c.holds.ensures ∙ c.if-not-holds.false) states c.requires.behind in
    omega (arith, size, taken_few (states_in counts) h c.requires.counts.some (length counts) c.args.node c.requires.node c.requires.fits)

pub returns-clause-size : goal.returns-clause-size
returns-clause-size c =
    let counts = c.args.counts.now in
    taken_in (states_in counts) (holds c.args.slot.now.scope) (length counts) c.args.node c.args.size.now (get_or counts c.args.node 0) c.requires.node (sym c.holds.ensures ∙ c.if-not-holds.false) (get_or_default counts c.args.node 0 1 c.requires.node) c.requires.behind
