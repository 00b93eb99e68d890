use Rattle.std.proofs.Common.{◌∙◌, sym, []}
use Rattle.plan_sums.specs.Plans.{mass_cells, gain_cells, can_cells, both_cells}
use Rattle.size_precheck.proofs.Orders.{one_size}
use Rattle.size_precheck.proofs.Planning.{scopes_listed}
use Rattle.size_precheck.proofs.laws.sizes_of_plans.Goals as goal

pub returns-clause-one : goal.returns-clause-one
returns-clause-one c nodes plans a b h k = one_size nodes plans a b h k

pub returns-clause-mass : goal.returns-clause-mass
returns-clause-mass c nodes p plan = scopes_listed mass_cells nodes p plan ∙ sym (scopes_listed mass_cells nodes [] plan)

pub returns-clause-gain : goal.returns-clause-gain
returns-clause-gain c nodes p plan = scopes_listed gain_cells nodes p plan ∙ sym (scopes_listed mass_cells nodes [] plan)

pub returns-clause-can : goal.returns-clause-can
returns-clause-can c nodes p plan = scopes_listed can_cells nodes p plan ∙ sym (scopes_listed mass_cells nodes [] plan)

pub returns-clause-both : goal.returns-clause-both
returns-clause-both c nodes p plan = scopes_listed both_cells nodes p plan ∙ sym (scopes_listed mass_cells nodes [] plan)
