use Rattle.std.proofs.Common.{arith}
use Rattle.sum_tests.specs.Trials.{IsSmallSlot}
use Rattle.sum_tests.proofs.SmallTables.{all_two, wider}
use Rattle.sum_tests.proofs.tables.rows.Goals as goal

pub multiply-both-requires-clause-small : goal.multiply-both-requires-clause-small
multiply-both-requires-clause-small g c =
    let r = g.C.Cell.ring in
    let left = c.first-left.result in
    let right = c.first-right.result in
    all_two (λ s. IsSmallSlot r c.first-right.new.work.cells s 49) left right
    (c.first-right.ensures.grows.stays left 49 c.first-left.ensures.grows.small) c.first-right.ensures.grows.small

pub add_up-joined-requires-clause-small : goal.add_up-joined-requires-clause-small
add_up-joined-requires-clause-small g c =
    let r = g.C.Cell.ring in
    let left = c.first-left.result in
    let both = c.multiply-both.result in
    let cells = c.add_up-summed.new.work.cells in
    let left_there = c.add_up-summed.ensures.stays left 49 (c.multiply-both.ensures.grows.stays left 49 (c.first-right.ensures.grows.stays left 49 c.first-left.ensures.grows.small)) in
    all_two (λ s. IsSmallSlot r cells s 2401) left both (wider r cells left 49 2401 (omega arith) left_there) (c.add_up-summed.ensures.stays both 2401 c.multiply-both.ensures.grows.small)

pub sum_one-summed-requires-clause-small : goal.sum_one-summed-requires-clause-small
sum_one-summed-requires-clause-small g c =
    let both = c.multiply-both.result in
    c.add_up-joined.ensures.stays both 2401 (c.add_up-summed.ensures.stays both 2401 c.multiply-both.ensures.grows.small)

pub keep_state-kept-requires-clause-small : goal.keep_state-kept-requires-clause-small
keep_state-kept-requires-clause-small g c =
    let both = c.multiply-both.result in
    c.sum_one-summed.ensures.stays both 2401 (c.add_up-joined.ensures.stays both 2401 (c.add_up-summed.ensures.stays both 2401 c.multiply-both.ensures.grows.small))

pub turn-turned-requires-clause-small : goal.turn-turned-requires-clause-small
turn-turned-requires-clause-small g c =
    let both = c.multiply-both.result in
    c.keep_state-kept.ensures.stays both 2401 (c.sum_one-summed.ensures.stays both 2401 (c.add_up-joined.ensures.stays both 2401 (c.add_up-summed.ensures.stays both 2401 c.multiply-both.ensures.grows.small)))

pub look-requires-clause-small : goal.look-requires-clause-small
look-requires-clause-small g c =
    let both = c.multiply-both.result in
    c.turn-turned.ensures.stays both 2401 (c.keep_state-kept.ensures.stays both 2401 (c.sum_one-summed.ensures.stays both 2401 (c.add_up-joined.ensures.stays both 2401 (c.add_up-summed.ensures.stays both 2401 c.multiply-both.ensures.grows.small))))
