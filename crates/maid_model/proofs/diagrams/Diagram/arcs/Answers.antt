use Rattle.std.proofs.Common.{subst, sym}
use Rattle.maid_model.specs.Private.{IsIndexed}
use Rattle.maid_model.proofs.diagrams.Diagram.arcs.Goals as goal

pub returns : goal.returns
returns c =
    let kept : IsIndexed c.args.self.now c.self.inside.index.value = subst (λ d. IsIndexed d c.self.inside.index.value) c.self.view_is c.self.invariant in
    let is : IsIndexed c.args.self.now c.deref.result.now = subst (IsIndexed c.args.self.now) (sym c.deref.ensures) kept in
    record { parents = is.nodes.parents; children = is.nodes.children; diagram = is.diagram }
