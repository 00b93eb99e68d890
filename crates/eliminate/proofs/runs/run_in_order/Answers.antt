use Rattle.std.proofs.Common.{◌<◌, ℕ, List, length, slice_index_or, subst, sym, arith}
use Rattle.std.proofs.lemmas.List.{get_or_default}
use Rattle.eliminate.proofs.Ruled.{few_nodes, step_known}
use Rattle.eliminate.proofs.runs.run_in_order.Goals as goal

pub run_with-requires-clause-tables : goal.run_with-requires-clause-tables
run_with-requires-clause-tables g c =
    let limit = c.count.ensures.diagram.limits.nodes in
    let few = few_nodes c.args.diagram.now.nodes c.args.plan.now.plan c.requires.asked.is_plan c.requires.asked.known in
    omega (arith, few, limit, c.requires.slots)

pub run_with-requires-clause-made : goal.run_with-requires-clause-made
run_with-requires-clause-made g c = c.requires.made

pub run_with-requires-clause-fits : goal.run_with-requires-clause-fits
run_with-requires-clause-fits g c = c.requires.fits

-- each step of the plan is a node of the diagram
pub set_order-requires-clause-steps : goal.set_order-requires-clause-steps
set_order-requires-clause-steps g c k d l =
    let steps = c.args.plan.now.steps in
    let within : k < length steps = subst (λ (s : List ℕ). k < length s) c.steps.ensures l in
    let known : slice_index_or steps k d < length c.args.diagram.now.nodes = step_known c.args.diagram.now.nodes c.args.plan.now.plan steps c.requires.made.order (slice_index_or steps k d) (k, within, get_or_default steps k _ d within) in
    subst (λ (s : List ℕ). slice_index_or s k d < length c.split_at_mut-ranks.result.0.now) (sym c.steps.ensures) (omega (arith, known, c.split_at_mut-ranks.ensures.front_len, c.count-2.ensures.count))
