use Rattle.std.proofs.Common.{◌∙◌, subst}
use Rattle.std.specs.Prelude.{Contains}
use Rattle.maid_model.specs.Scopes.{utilities_for}
use Rattle.maid_laws.proofs.Members.{among_of}
use Rattle.part_laws.proofs.ScopeLaws.{utilities_inside}
use Rattle.pure_search.proofs.tables.part_for.Goals as goal

pub part-requires : goal.part-requires
part-requires c v m =
    utilities_inside c.args.diagram.now.nodes c.count-count.ensures.diagram.graph c.args.agent v
    (among_of v (utilities_for c.args.diagram.now.nodes c.args.agent) (subst (λ l. Contains l v) (c.deref.ensures.value ∙ c.in_ok-utilities.ensures) m))
