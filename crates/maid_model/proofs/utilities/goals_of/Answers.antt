use Rattle.std.proofs.Common.{sym, subst, arith}
use Rattle.node_sets.specs.Sets.{IsIn}
use Rattle.maid_model.specs.Nodes.{Owns}
use Rattle.maid_model.proofs.Below.{below_is}
use Rattle.maid_model.proofs.utilities.goals_of.Goals as goal

pub of-requires : goal.of-requires
of-requires c = let m = c.agent_of-agent.ensures.diagram.limits.nodes in let l = c.requires in omega arith

pub remove-requires : goal.remove-requires
remove-requires c = let m = c.agent_of-agent.ensures.diagram.limits.nodes in let l = c.requires in omega arith

pub returns : goal.returns
returns c v =
    let nodes = c.args.diagram.now.nodes in
    let owner = c.agent_of-agent.ensures.agent in
    let removed = c.remove.ensures v in
    let led = c.descendants-below.ensures v in
    let is = below_is nodes c.args.decision v c.agent_of-agent.ensures.diagram.graph.acyclic (IsIn c.of.result) c.of.ensures in
    let among = c.utilities_among.ensures v in (
      (λ t.
          let m = among.0 t in
          let r = removed.0 m.0 in
          record { within = m.1.within; kind = m.1.kind; owner = subst (λ a. Owns nodes a v) owner m.1.owner; below = is.0 (led.0 r.0, r.1) }),
      (λ h.
          let b = is.1 h.below in
          among.1 (removed.1 (led.1 b.0, b.1), record { within = h.within; kind = h.kind; owner = subst (λ a. Owns nodes a v) (sym owner) h.owner })),
    )
