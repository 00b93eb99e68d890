-- What the worth asks for is asked here.
use Rattle.std.proofs.Common.{◌∙◌}
use Rattle.std.specs.Int.{w128}
use Rattle.std.proofs.lemmas.Int.{to_z-of_z}
use Rattle.rule_solver.proofs.optima.worth_for.Goals as goal

pub worth-requires-clause-diagram : goal.worth-requires-clause-diagram
worth-requires-clause-diagram c = c.requires.diagram

pub worth-requires-clause-within : goal.worth-requires-clause-within
worth-requires-clause-within c = c.requires.within

pub worth-requires-clause-kind : goal.worth-requires-clause-kind
worth-requires-clause-kind c = c.requires.kind

pub worth-requires-clause-profile : goal.worth-requires-clause-profile
worth-requires-clause-profile c = c.requires.profile

pub worth-requires-clause-rules : goal.worth-requires-clause-rules
worth-requires-clause-rules c = c.requires.rules

pub worth-requires-clause-bound : goal.worth-requires-clause-bound
worth-requires-clause-bound c = c.requires.bound

pub worth-requires-clause-totals : goal.worth-requires-clause-totals
worth-requires-clause-totals c = c.requires.totals

pub worth-requires-clause-planned : goal.worth-requires-clause-planned
worth-requires-clause-planned c = c.requires.planned

pub worth-requires-clause-ready : goal.worth-requires-clause-ready
worth-requires-clause-ready c = c.requires.ready

pub returns-then-owns-clause-worth : goal.returns-then-owns-clause-worth
returns-then-owns-clause-worth c = λ own q i. to_z-of_z w128 c.worth.result (record { sfits = c.worth.type_inv }) ∙ c.worth.ensures.worth q i

pub returns-then-owns-clause-again : goal.returns-then-owns-clause-again
returns-then-owns-clause-again c = c.worth.ensures.again
