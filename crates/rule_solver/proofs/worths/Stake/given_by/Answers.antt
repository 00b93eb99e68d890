use Rattle.std.proofs.Common.{◌∙◌, sym}
use Rattle.rule_solver.proofs.StakeLemmas.{gives_none}
use Rattle.rule_solver.proofs.worths.Stake.given_by.Goals as goal

pub returns-else-is_utility_of : goal.returns-else-is_utility_of
returns-else-is_utility_of c =
    let s = c.args.self.now in
    gives_none s.diagram.now s.profile.now s.agent s.totals.now s.worths.now s.scope c.requires.stake c.args.v (sym c.is_utility_of.ensures.test ∙ c.if-is_utility_of.false)

pub given-requires-clause-stake : goal.given-requires-clause-stake
given-requires-clause-stake c = c.requires.stake

pub given-requires-clause-within : goal.given-requires-clause-within
given-requires-clause-within c = c.requires.within

pub given-requires-clause-owned : goal.given-requires-clause-owned
given-requires-clause-owned c = sym c.is_utility_of.ensures.test ∙ c.if-is_utility_of.true
