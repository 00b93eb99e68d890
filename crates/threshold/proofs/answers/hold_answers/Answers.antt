use Rattle.threshold.proofs.Standing.{all_held}
use Rattle.threshold.proofs.answers.hold_answers.Goals as goal

pub hold_by_gains-requires : goal.hold_by_gains-requires
hold_by_gains-requires c = record { setting = c.requires.setting; relevance = c.requires.relevance }

pub returns-then-all_stand-clause-held : goal.returns-then-all_stand-clause-held
returns-then-all_stand-clause-held c =
    let laws = c.walks_to_goals_stand.ensures in
    all_held laws.control laws.walks _ (record { setting = c.requires.setting; relevance = c.requires.relevance }) (c.all_stand.ensures.0 c.if-all_stand.true) c.all_fractions.result c.all_fractions.ensures.all

pub all_stand-requires : goal.all_stand-requires
all_stand-requires c = record { setting = record { setting = c.requires.setting; relevance = c.requires.relevance } }

pub returns-then-all_stand-clause-range : goal.returns-then-all_stand-clause-range
returns-then-all_stand-clause-range c = c.all_fractions.ensures.range

pub returns-clause-range : goal.returns-clause-range
returns-clause-range c = c.hold_by_gains.ensures.range

pub returns-clause-held : goal.returns-clause-held
returns-clause-held c = c.hold_by_gains.ensures.held
