use Rattle.whole_num.proofs.Multiples.{cross, quotient_positive}
use Rattle.whole_num.proofs.halving.without_twos.Goals as goal

pub returns-clause-same : goal.returns-clause-same
returns-clause-same c = cross c.args.num c.args.den _ c.common_twos-twos.ensures.in_a c.common_twos-twos.ensures.in_b

pub returns-clause-positive : goal.returns-clause-positive
returns-clause-positive c = quotient_positive c.args.den _ c.requires.den c.common_twos-twos.ensures.in_b
