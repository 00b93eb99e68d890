use Rattle.std.proofs.Common.{◌∙◌, ◌<◌, ◌++◌, All, codes, length, sym, subst, ap}
use Rattle.first_fault.specs.Answers.{IsFaultOrNoMemory}
use Rattle.evidence.specs.Faults.{given_fault, given_pass}
use Rattle.maid_model.specs.Reports.{line}
use Rattle.app_forms.specs.Given.{evidence_stages}
use Rattle.app_forms.specs.Lines.{bound_line, cycle_line, impossible_line, rules_line, too_large_line}
use Rattle.app_forms.specs.Reading.{found_by}
use Rattle.app_forms.specs.declared.status.Status.TheVariants.{BelowDecision, Cycle, Impossible, TooLarge, WeightBound}
use Rattle.app_forms.proofs.Conditions.{below_found, rules_found, cycle_given_found, bound_given_found, size_given_found, impossible_found, cycle_named, bound_named}
use Rattle.app_forms.proofs.Refusals.{told_gives}
use Rattle.app_forms.proofs.forms.given.refusal.Goals as goal

-- the decisions of the relevance cycle are nodes, which have names
pub list_line-requires : goal.list_line-requires
list_line-requires c =
    let d = c.args.diagram.now in
    let place = c.args.place in
    let found = subst (IsFaultOrNoMemory given_fault (given_pass d place.node place.state)) c.in-Cycle.is c.requires.fault in
    subst (All (λ v. v < length c.args.names.now.nodes)) (sym c.deref.ensures.value) (cycle_named d c.args.names.now place.node place.state c.in-Cycle.list.items c.requires.fit found)

-- the place at which the weight bound is passed is a node, which has a name
pub weight_bound-requires : goal.weight_bound-requires
weight_bound-requires c =
    let d = c.args.diagram.now in
    let place = c.args.place in
    let found = subst (IsFaultOrNoMemory given_fault (given_pass d place.node place.state)) c.in-WeightBound.is c.requires.fault in
    bound_named d c.args.names.now place.node place.state c.in-WeightBound.node c.requires.fit found

-- the node descends from a decision
pub returns-in-BelowDecision : goal.returns-in-BelowDecision
returns-in-BelowDecision c =
    let d = c.args.diagram.now in
    let names = c.args.names.now in
    let node = c.args.node.now in
    let state = c.args.state.now in
    let place = c.args.place in
    let found = subst (IsFaultOrNoMemory given_fault (given_pass d place.node place.state)) c.in-BelowDecision.is c.requires.fault in
    told_gives (found_by d names (evidence_stages node state)) BelowDecision (line (codes "below a decision: " ++ c.as_bytes.result.now)) c.told.result c.told-in-BelowDecision.result
    (λ told e. below_found d names node state told place c.requires.place found (e ∙ ap (λ name. line (codes "below a decision: " ++ name)) c.as_bytes.ensures.value))
    c.told.ensures
    c.told-in-BelowDecision.ensures

-- or the rules are too large
pub returns-in-RulesTooLarge : goal.returns-in-RulesTooLarge
returns-in-RulesTooLarge c =
    let d = c.args.diagram.now in
    let names = c.args.names.now in
    let node = c.args.node.now in
    let state = c.args.state.now in
    let place = c.args.place in
    let found = subst (IsFaultOrNoMemory given_fault (given_pass d place.node place.state)) c.in-RulesTooLarge.is c.requires.fault in
    told_gives (found_by d names (evidence_stages node state)) TooLarge rules_line c.told-in-RulesTooLarge.result c.told-in-RulesTooLarge-2.result
    (λ told e. rules_found d names node state told place c.requires.place found e)
    c.told-in-RulesTooLarge.ensures
    c.told-in-RulesTooLarge-2.ensures

-- or the line names the relevance cycle
pub returns-in-Cycle : goal.returns-in-Cycle
returns-in-Cycle c =
    let d = c.args.diagram.now in
    let names = c.args.names.now in
    let node = c.args.node.now in
    let state = c.args.state.now in
    let place = c.args.place in
    let found = subst (IsFaultOrNoMemory given_fault (given_pass d place.node place.state)) c.in-Cycle.is c.requires.fault in
    told_gives (found_by d names (evidence_stages node state)) Cycle (cycle_line names c.deref.result.now) c.list_line.result c.told-in-Cycle.result
    (λ told e. cycle_given_found d names node state told place c.requires.place c.in-Cycle.list.items found (e ∙ ap (cycle_line names) c.deref.ensures.value))
    c.list_line.ensures
    c.told-in-Cycle.ensures

-- or the place at which the weight bound is passed
pub returns-in-WeightBound : goal.returns-in-WeightBound
returns-in-WeightBound c =
    let d = c.args.diagram.now in
    let names = c.args.names.now in
    let node = c.args.node.now in
    let state = c.args.state.now in
    let place = c.args.place in
    let found = subst (IsFaultOrNoMemory given_fault (given_pass d place.node place.state)) c.in-WeightBound.is c.requires.fault in
    told_gives (found_by d names (evidence_stages node state)) WeightBound (bound_line names c.in-WeightBound.node) c.weight_bound.result c.told-in-WeightBound.result
    (λ told e. bound_given_found d names node state told place c.requires.place c.in-WeightBound.node found e)
    c.weight_bound.ensures
    c.told-in-WeightBound.ensures

-- or the cells and the work of too large a run
pub returns-in-TooLarge : goal.returns-in-TooLarge
returns-in-TooLarge c =
    let d = c.args.diagram.now in
    let names = c.args.names.now in
    let node = c.args.node.now in
    let state = c.args.state.now in
    let place = c.args.place in
    let found = subst (IsFaultOrNoMemory given_fault (given_pass d place.node place.state)) c.in-TooLarge.is c.requires.fault in
    told_gives (found_by d names (evidence_stages node state)) TooLarge (too_large_line c.in-TooLarge.cells c.in-TooLarge.work) c.too_large.result c.told-in-TooLarge.result
    (λ told e. size_given_found d names node state told place c.requires.place c.in-TooLarge.cells c.in-TooLarge.work found e)
    c.too_large.ensures
    c.told-in-TooLarge.ensures

-- or the node never has the state
pub returns-in-Impossible : goal.returns-in-Impossible
returns-in-Impossible c =
    let d = c.args.diagram.now in
    let names = c.args.names.now in
    let node = c.args.node.now in
    let state = c.args.state.now in
    let place = c.args.place in
    let found = subst (IsFaultOrNoMemory given_fault (given_pass d place.node place.state)) c.in-Impossible.is c.requires.fault in
    told_gives (found_by d names (evidence_stages node state)) Impossible (impossible_line c.as_bytes-in-Impossible.result.now c.as_bytes-in-Impossible-2.result.now) c.impossible.result c.told-in-Impossible.result
    (λ told e. impossible_found d names node state told place c.requires.place found (e ∙ ap (λ n. impossible_line n c.as_bytes-in-Impossible-2.result.now) c.as_bytes-in-Impossible.ensures.value ∙ ap (impossible_line node) c.as_bytes-in-Impossible-2.ensures.value))
    c.impossible.ensures
    c.told-in-Impossible.ensures
