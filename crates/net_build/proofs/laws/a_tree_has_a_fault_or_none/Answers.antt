use Rattle.net_build.proofs.Covered.{passes_whole}
use Rattle.net_build.proofs.OneOutcome.{all_one}
use Rattle.net_build.proofs.laws.a_tree_has_a_fault_or_none.Goals as goal

pub returns-clause-covered : goal.returns-clause-covered
returns-clause-covered c text blocks = (passes_whole c.parents_have_a_cycle_or_none.ensures.covered c.a_numeral_has_a_decimal_or_none.ensures c.rows_are_scaled_or_too_wide.ensures.covered text blocks).covered

pub returns-clause-exclusive : goal.returns-clause-exclusive
returns-clause-exclusive c text blocks fault = (all_one c.parents_have_one_cycle_at_most.ensures.leads_back c.parents_have_one_cycle_at_most.ensures.one_cycle text blocks).exclusive fault
