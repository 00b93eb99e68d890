use Rattle.std.proofs.Common.{sym, subst}
use Rattle.maid_model.specs.Diagrams.{IsDiagram}
use Rattle.graph_tests.proofs.edits.is_hidden.Goals as goal

pub exchange-requires-clause-diagram : goal.exchange-requires-clause-diagram
exchange-requires-clause-diagram c = subst IsDiagram (sym c.in_ok-seeing.ensures.back.again) c.count-count.ensures.diagram
