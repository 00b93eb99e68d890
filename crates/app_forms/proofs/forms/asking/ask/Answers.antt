use Rattle.std.proofs.Common.{rules, [], ◌∷◌, inl}
use Rattle.first_fault.specs.Answers.{IsFaultOrNoMemory}
use Rattle.app_forms.specs.Asking.{agent_stages}
use Rattle.app_forms.specs.Diagrams.{NamedDiagram}
use Rattle.app_forms.specs.Reading.{TellsFound, found_by}
use Rattle.app_forms.specs.Refusal.{refused_as}
use Rattle.app_forms.specs.Solve.{solver_stages}
use Rattle.app_forms.specs.Stages.{agent_pass, unknown_agent}
use Rattle.app_forms.proofs.Known.{place_listed}
use Rattle.app_forms.proofs.Refusals.{if_err_then, found_too, behind}
use Rattle.app_forms.proofs.forms.asking.ask.Goals as goal

-- no node has the agent
pub returns-in_err-number-clause-err : goal.returns-in_err-number-clause-err
returns-in_err-number-clause-err c =
    let d = c.args.diagram.now in
    let names = c.args.names.now in
    let agent = c.args.agent.now in
    let x : NamedDiagram = record { d = d; names = names } in
    if_err_then c.from_residual.result (IsFaultOrNoMemory refused_as (agent_pass names agent)) (TellsFound d names (agent_stages agent))
    (λ refusal. found_too (agent_pass names agent) (found_by d names (agent_stages agent)) (λ f found name bytes is. inl (x, is, found)) (refused_as refusal))
    (search rules)

-- a later stage refuses the diagram
pub returns-in_err-solved-clause-err : goal.returns-in_err-solved-clause-err
returns-in_err-solved-clause-err c =
    let d = c.args.diagram.now in
    let names = c.args.names.now in
    let agent = c.args.agent.now in
    let x : NamedDiagram = record { d = d; names = names } in
    let listed = place_listed names.agents agent c.in_ok-number.number c.in_ok-number.ensures.ok in
    if_err_then c.from_residual-in_err-solved.result (TellsFound d names solver_stages) (TellsFound d names (agent_stages agent))
    (λ refusal. behind d names (unknown_agent agent ∷ []) solver_stages refusal (λ name bytes is. ((x, is, listed), tt)))
    (search rules)

-- the answer is that of the diagram
pub returns-clause-ok : goal.returns-clause-ok
returns-clause-ok c = record { solvable = c.in_ok-solved.ensures.solvable; solution = c.in_ok-solved.ensures.ok; is_agent = c.in_ok-number.ensures.ok }
