use Rattle.std.proofs.Common.{sym, ◌∙◌}
use Rattle.maid_model.proofs.Owners.{utility_owned}
use Rattle.maid_model.proofs.diagrams.Diagram.is_utility_of.Goals as goal

pub returns-in-Utility-clause-test : goal.returns-in-Utility-clause-test
returns-in-Utility-clause-test c = utility_owned c.args.self.now.nodes c.args.v c.args.agent c.requires (sym c.kind.ensures.kind ∙ c.in-Utility.is) c.owns.result c.owns.ensures
