use Rattle.maid_model.proofs.Tested.{tests_diagrams, tests_rules, tests_profiles}
use Rattle.maid_model.proofs.laws.literals_are_tested.Goals as goal

pub returns-clause-diagram : goal.returns-clause-diagram
returns-clause-diagram c = tests_diagrams

pub returns-clause-rule : goal.returns-clause-rule
returns-clause-rule c = tests_rules

pub returns-clause-profile : goal.returns-clause-profile
returns-clause-profile c = tests_profiles
