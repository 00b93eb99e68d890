use Rattle.std.proofs.Common.{◌∙◌, sym, subst, ap}
use Rattle.maid_model.specs.Nodes.{counts_of}
use Rattle.maid_model.specs.Worlds.{IsWorld, first_world}
use Rattle.maid_model.proofs.Next.{first_is_world}
use Rattle.maid_model.proofs.worlds.World.first.Goals as goal

pub returns-clause-world : goal.returns-clause-world
returns-clause-world c =
    subst (IsWorld (counts_of c.args.diagram.now.nodes)) (sym (c.in_ok-states.ensures.items_if_clones_equal (λ y e. e) ∙ ap first_world c.count.ensures.count))
    (first_is_world c.args.diagram.now.nodes c.count.ensures.diagram.graph.has_state)
