use Rattle.std.proofs.Common.{arith}
use Rattle.bayes_ball.proofs.Spreading.{no_wave_up, wave_up}
use Rattle.bayes_ball.proofs.waves.go_up.Goals as goal

pub returns-then-is_empty : goal.returns-then-is_empty
returns-then-is_empty c =
    no_wave_up c.args.diagram.now.nodes c.args.given.now c.args.down.now c.args.up.now c.leading_up.result c.args.followed.now c.fresh_of-fresh.result c.fresh_of-fresh.ensures c.leading_up.ensures
    (λ v. c.if-is_empty.ensures v (omega arith))

pub returns : goal.returns
returns c =
    let nodes = c.args.diagram.now.nodes in
    let first = c.if-is_empty.ensures in
    wave_up nodes c.args.given.now c.args.down.now c.args.up.now c.leading_up.result c.args.followed.now c.fresh_of-fresh.result c.fresh_of-fresh.ensures c.union.result c.intersection-parents.result first.0 first.1 c.union.ensures c.union-2.result c.leading_up.ensures
    (λ v.
    let both = c.intersection-parents.ensures v in
    let parents = c.parents_of_any.ensures v in
    let live = c.live_nodes.ensures.nodes v in
    ((λ m. let b = both.0 m in (parents.0 b.0, live.0 b.1)), (λ h. both.1 (parents.1 h.0, live.1 h.1))))
    c.union-2.ensures
