-- The test is that of the plan's total.
use Rattle.std.proofs.Common.{◌≡◌, ◌∙◌, ◌↔◌, inl, ◌≤◌, ◌*◌, IsTrue, sym, ap, subst, arith}
use Rattle.cell_rings.specs.Rings.{small_size}
use Rattle.eliminate.specs.Results.{greatest_value, plan_total}
use Rattle.plan_sums.specs.Sizes.{IsPlan}
use Rattle.size_precheck.specs.Sizes.{CanBePlanned}
use Rattle.rule_solver.specs.Totals.{product_in}
use Rattle.rule_solver.proofs.GoalPlans.{members_small}
use Rattle.rule_solver.proofs.TotalLemmas.{half_fits, tables_within, total_is, value_some}
use Rattle.rule_solver.proofs.widths.fits_small.Goals as goal

pub ruled_nodes-requires : goal.ruled_nodes-requires
ruled_nodes-requires c d e =
    let is : IsPlan c.args.diagram.now.nodes c.args.plan.now.plan = subst (IsPlan c.args.diagram.now.nodes) (sym c.requires.planned.1.made.plan) c.requires.planned.1.asked.is_plan in
    members_small c.args.diagram.now.nodes c.requires.planned.0 c.args.plan.now c.requires.planned.1 c.requires.diagram.limits.nodes d (inl (is.without d e))

pub greatest_value-value-requires : goal.greatest_value-value-requires
greatest_value-value-requires c u e =
    let asked : CanBePlanned c.args.diagram.now.nodes c.args.plan.now.plan = subst (CanBePlanned c.args.diagram.now.nodes) (sym c.requires.planned.1.made.plan) c.requires.planned.1.asked in
    asked.known u (sym c.utility.ensures ∙ e)

pub product_in-tables-requires-clause-few : goal.product_in-tables-requires-clause-few
product_in-tables-requires-clause-few c = omega (arith, c.requires.fits.1.count, c.requires.diagram.limits.nodes)

pub product_in-tables-requires-clause-fits : goal.product_in-tables-requires-clause-fits
product_in-tables-requires-clause-fits c =
    let nodes = c.args.diagram.now.nodes in
    let plan = c.args.plan.now in
    tables_within (product_in c.args.totals.now c.ruled_nodes.result) (greatest_value nodes plan.plan.utility) (plan_total nodes c.requires.fits.0 plan.plan) (value_some nodes plan.plan.utility)
    (total_is nodes c.requires.fits.0 c.args.totals.now c.requires.fits.1 c.requires.planned.0 plan c.requires.planned.1 c.ruled_nodes.result c.ruled_nodes.ensures)
    (half_fits (plan_total nodes c.requires.fits.0 plan.plan) c.requires.fits.2)

pub overflow_mul-tables : goal.overflow_mul-tables
overflow_mul-tables c =
    let nodes = c.args.diagram.now.nodes in
    let plan = c.args.plan.now in
    let is : c.product_in-tables.result * c.greatest_value-value.result ≡ plan_total nodes c.requires.fits.0 plan.plan =
    (λ i. c.product_in-tables.ensures i * (c.greatest_value-value.ensures ∙ ap (greatest_value nodes) c.utility.ensures) i)
    ∙ total_is nodes c.requires.fits.0 c.args.totals.now c.requires.fits.1 c.requires.planned.0 plan c.requires.planned.1 c.ruled_nodes.result c.ruled_nodes.ensures in
    let fits = half_fits (plan_total nodes c.requires.fits.0 plan.plan) c.requires.fits.2 in
    omega (arith, is, fits)

pub returns : goal.returns
returns c p are =
    let nodes = c.args.diagram.now.nodes in
    let plan = c.args.plan.now in
    let is : c.product_in-tables.result * c.greatest_value-value.result ≡ plan_total nodes p plan.plan =
    (λ i. c.product_in-tables.ensures i * (c.greatest_value-value.ensures ∙ ap (greatest_value nodes) c.utility.ensures) i)
    ∙ total_is nodes p c.args.totals.now are c.requires.planned.0 plan c.requires.planned.1 c.ruled_nodes.result c.ruled_nodes.ensures in
    subst (λ n. IsTrue c.is_small.result ↔ (2 * n ≤ small_size)) is c.is_small.ensures
