use Rattle.std.proofs.Common.{◌∙◌, sym, ap, not, ◌&&◌, ◌==◌}
use Rattle.maid_model.specs.Nodes.{is_utility}
use Rattle.maid_model.specs.Graph.{descends}
use Rattle.info_value.proofs.Sights.{seen_by_kind, sight}
use Rattle.info_value.proofs.arcs.may_see.Goals as goal

pub returns-in-Chance : goal.returns-in-Chance
returns-in-Chance c =
    let nodes = c.args.diagram.now.nodes in
    let path = c.requires.below c.args.v in
    let seen = sight nodes c.args.decision c.args.v c.holds.result c.descent_is_tested.ensures ((λ t. path.0 (sym c.holds.ensures ∙ t)), (λ p. c.holds.ensures ∙ path.1 p)) in
    seen_by_kind c.kind.result (not c.holds.result) (not (c.args.v == c.args.decision) && not (descends nodes c.args.decision c.args.v)) c.in-Chance.is seen
    ∙ ap (λ k. not (is_utility k) && (not (c.args.v == c.args.decision) && not (descends nodes c.args.decision c.args.v))) c.kind.ensures.kind
