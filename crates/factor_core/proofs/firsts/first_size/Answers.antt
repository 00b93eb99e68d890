use Rattle.std.proofs.Common.{◌∙◌, sym}
use Rattle.factor_core.proofs.FirstTables.{has_rule}
use Rattle.factor_core.proofs.firsts.first_size.Goals as goal

pub rule_weights-requires : goal.rule_weights-requires
rule_weights-requires c =
    has_rule c.args.diagram.now c.kind.ensures.diagram c.args.v c.requires.node c.args.profile.now c.requires.profile (record { within = c.requires.node; kind = sym c.kind.ensures.kind ∙ c.in-Decision.is })
