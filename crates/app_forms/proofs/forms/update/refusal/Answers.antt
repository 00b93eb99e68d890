use Rattle.std.proofs.Common.{subst}
use Rattle.first_fault.specs.Answers.{IsFaultOrNoMemory}
use Rattle.policy_update.specs.Faults.{update_fault, update_pass}
use Rattle.app_forms.specs.Lines.{bound_line, not_one_agent_line, rounds_line, too_large_line}
use Rattle.app_forms.specs.Reading.{found_by}
use Rattle.app_forms.specs.Update.{update_stages}
use Rattle.app_forms.specs.declared.forms.update.TheConstants.{MOST_ROUNDS}
use Rattle.app_forms.specs.declared.status.Status.TheVariants.{NotOneAgent, RoundsSpent, TooLarge, WeightBound}
use Rattle.app_forms.proofs.Refusals.{told_gives}
use Rattle.app_forms.proofs.SolveRefusals.{place_named}
use Rattle.app_forms.proofs.Searches.{update_passed, update_owners, update_bound, update_size, update_rounds}
use Rattle.app_forms.proofs.forms.update.refusal.Goals as goal

-- the place at which the weight bound is passed is a node, which has a name
pub weight_bound-requires : goal.weight_bound-requires
weight_bound-requires c =
    let d = c.args.diagram.now in
    let found = subst (IsFaultOrNoMemory update_fault (update_pass d MOST_ROUNDS)) c.in-WeightBound.is c.requires.fault in
    place_named d c.args.names.now c.in-WeightBound.node c.requires.fit (update_passed d c.in-WeightBound.node found).1

-- two decisions have different owners
pub returns-in-NotOneAgent : goal.returns-in-NotOneAgent
returns-in-NotOneAgent c =
    let d = c.args.diagram.now in
    let names = c.args.names.now in
    let found = subst (IsFaultOrNoMemory update_fault (update_pass d MOST_ROUNDS)) c.in-NotOneAgent.is c.requires.fault in
    told_gives (found_by d names update_stages) NotOneAgent not_one_agent_line c.told.result c.told-in-NotOneAgent.result
    (λ told e. update_owners d names told found e)
    c.told.ensures
    c.told-in-NotOneAgent.ensures

-- the line tells the place
pub returns-in-WeightBound : goal.returns-in-WeightBound
returns-in-WeightBound c =
    let d = c.args.diagram.now in
    let names = c.args.names.now in
    let found = subst (IsFaultOrNoMemory update_fault (update_pass d MOST_ROUNDS)) c.in-WeightBound.is c.requires.fault in
    told_gives (found_by d names update_stages) WeightBound (bound_line names c.in-WeightBound.node) c.weight_bound.result c.told-in-WeightBound.result
    (λ told e. update_bound d names told c.in-WeightBound.node found e)
    c.weight_bound.ensures
    c.told-in-WeightBound.ensures

-- or the cells and the work of too large a run
pub returns-in-TooLarge : goal.returns-in-TooLarge
returns-in-TooLarge c =
    let d = c.args.diagram.now in
    let names = c.args.names.now in
    let found = subst (IsFaultOrNoMemory update_fault (update_pass d MOST_ROUNDS)) c.in-TooLarge.is c.requires.fault in
    told_gives (found_by d names update_stages) TooLarge (too_large_line c.in-TooLarge.cells c.in-TooLarge.work) c.too_large.result c.told-in-TooLarge.result
    (λ told e. update_size d names told c.in-TooLarge.cells c.in-TooLarge.work found e)
    c.too_large.ensures
    c.told-in-TooLarge.ensures

-- or how many rounds all raised
pub returns-in-RoundsSpent : goal.returns-in-RoundsSpent
returns-in-RoundsSpent c =
    let d = c.args.diagram.now in
    let names = c.args.names.now in
    let found = subst (IsFaultOrNoMemory update_fault (update_pass d MOST_ROUNDS)) c.in-RoundsSpent.is c.requires.fault in
    told_gives (found_by d names update_stages) RoundsSpent (rounds_line c.in-RoundsSpent.rounds) c.rounds_spent.result c.told-in-RoundsSpent.result
    (λ told e. update_rounds d names told c.in-RoundsSpent.rounds c.in-RoundsSpent.gain found e)
    c.rounds_spent.ensures
    c.told-in-RoundsSpent.ensures
