use Rattle.std.proofs.Common.{◌∙◌, ◌<◌, ℕ, All, length, sym, subst, ap}
use Rattle.first_fault.specs.Answers.{IsFaultOrNoMemory}
use Rattle.rule_solver.specs.Faults.{solve_fault, solve_pass}
use Rattle.app_forms.specs.Lines.{bound_line, cycle_line, too_large_line}
use Rattle.app_forms.specs.Reading.{found_by}
use Rattle.app_forms.specs.Solve.{solver_stages}
use Rattle.app_forms.specs.declared.status.Status.TheVariants.{Cycle, WeightBound, TooLarge}
use Rattle.app_forms.proofs.Nodes.{cycle_within}
use Rattle.app_forms.proofs.Refusals.{told_gives}
use Rattle.app_forms.proofs.SolveRefusals.{bound_of, bound_told, cycle_of, place_known, size_of}
use Rattle.app_forms.proofs.Solving.{bound_found, cycle_found, size_found}
use Rattle.app_forms.proofs.forms.solve.refusal.Goals as goal

-- the decisions of the relevance cycle are nodes, which have names
pub list_line-requires : goal.list_line-requires
list_line-requires c =
    let d = c.args.diagram.now in
    let found = cycle_of d c.in-Cycle.list.items (subst (IsFaultOrNoMemory solve_fault (solve_pass d)) c.in-Cycle.is c.requires.fault) in
    subst (λ (n : ℕ). All (λ v. v < n) c.deref.result.now) (sym c.requires.fit.nodes) (subst (All (λ v. v < length d.nodes)) (sym c.deref.ensures.value) (cycle_within d.nodes c.in-Cycle.list.items found.1))

-- the line names the relevance cycle
pub returns-in-Cycle : goal.returns-in-Cycle
returns-in-Cycle c =
    let d = c.args.diagram.now in
    let names = c.args.names.now in
    let found = cycle_of d c.in-Cycle.list.items (subst (IsFaultOrNoMemory solve_fault (solve_pass d)) c.in-Cycle.is c.requires.fault) in
    told_gives (found_by d names solver_stages) Cycle (cycle_line names c.deref.result.now) c.list_line.result c.told.result
    (λ told e. cycle_found d names told c.in-Cycle.list.items found.0 found.1 (e ∙ ap (cycle_line names) c.deref.ensures.value))
    c.list_line.ensures
    c.told.ensures

-- the place at which the weight bound is passed is a node, which has a name
pub weight_bound-requires : goal.weight_bound-requires
weight_bound-requires c =
    let d = c.args.diagram.now in
    place_known d c.args.names.now c.in-WeightBound.node c.requires.fit (subst (IsFaultOrNoMemory solve_fault (solve_pass d)) c.in-WeightBound.is c.requires.fault)

-- the line tells it
pub returns-in-WeightBound : goal.returns-in-WeightBound
returns-in-WeightBound c =
    let d = c.args.diagram.now in
    let names = c.args.names.now in
    let found = bound_of d c.in-WeightBound.node (subst (IsFaultOrNoMemory solve_fault (solve_pass d)) c.in-WeightBound.is c.requires.fault) in
    told_gives (found_by d names solver_stages) WeightBound (bound_line names c.in-WeightBound.node) c.weight_bound.result c.told-in-WeightBound.result
    (λ told e. bound_found d names told found.0 (bound_told d names c.in-WeightBound.node told found.1 e))
    c.weight_bound.ensures
    c.told-in-WeightBound.ensures

-- or it tells the cells and the work of too large a run
pub returns-in-TooLarge : goal.returns-in-TooLarge
returns-in-TooLarge c =
    let d = c.args.diagram.now in
    let names = c.args.names.now in
    let found = size_of d c.in-TooLarge.cells c.in-TooLarge.work (subst (IsFaultOrNoMemory solve_fault (solve_pass d)) c.in-TooLarge.is c.requires.fault) in
    told_gives (found_by d names solver_stages) TooLarge (too_large_line c.in-TooLarge.cells c.in-TooLarge.work) c.too_large.result c.told-in-TooLarge.result
    (λ told e. size_found d names told c.in-TooLarge.cells c.in-TooLarge.work found.0 found.1 found.2 e)
    c.too_large.ensures
    c.told-in-TooLarge.ensures
