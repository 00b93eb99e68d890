use Rattle.net_build.proofs.OneOutcome.{all_one}
use Rattle.net_build.proofs.laws.a_tree_has_one_fault.Goals as goal

pub returns : goal.returns
returns c = record { one_fault = λ text blocks fault. (all_one c.parents_have_one_cycle_at_most.ensures.leads_back c.parents_have_one_cycle_at_most.ensures.one_cycle text blocks).one fault }
