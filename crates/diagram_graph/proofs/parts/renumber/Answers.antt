use Rattle.std.proofs.Common.{◌∙◌, ap, subst, map, slice_index}
use Rattle.std.specs.Prelude.{Contains}
use Rattle.maid_model.specs.Views.{NodeView}
use Rattle.diagram_graph.specs.Edited.{with_parents}
use Rattle.diagram_graph.proofs.parts.renumber.Goals as goal

pub renumber_parents-requires : goal.renumber_parents-requires
renumber_parents-requires c u m = c.requires u (subst (λ (n : NodeView). Contains n.parents u) c.in_ok-copy.ensures m)

pub returns : goal.returns
returns c = c.renumber_parents.ensures ∙ ap (λ (n : NodeView). with_parents n (map (slice_index c.args.places.now) n.parents)) c.in_ok-copy.ensures
