use Rattle.std.proofs.Common.{rules, refl, [], ◌∷◌, ◌∙◌, All, length, sym, ap, subst}
use Rattle.app_forms.specs.Asking.{agent_stages}
use Rattle.app_forms.specs.Control.{HasControl, control_nodes, control_text, weighing_control}
use Rattle.app_forms.specs.Diagrams.{NamedDiagram}
use Rattle.app_forms.specs.Found.{AreKnown}
use Rattle.app_forms.specs.Reading.{TellsFor, TellsFound}
use Rattle.app_forms.specs.Stages.{unknown_agent}
use Rattle.app_forms.proofs.Known.{control_known, place_listed}
use Rattle.app_forms.proofs.Refusals.{if_err_then, stages_refuse}
use Rattle.app_forms.proofs.Solving.{solved_given}
use Rattle.app_forms.proofs.forms.control.answer.Goals as goal

-- what the stages find refuses it
pub returns-in_err-asked-clause-err : goal.returns-in_err-asked-clause-err
returns-in_err-asked-clause-err c =
    let agent = c.args.agent.now in
    let d = c.args.diagram.now in
    let names = c.args.names.now in
    let task = weighing_control agent in
    if_err_then c.from_residual.result (TellsFound d names (agent_stages agent)) (TellsFor task d names) (λ refusal. stages_refuse d names task (agent_stages agent) refusal refl) (search rules)

-- all that its lines name has a name
pub control_text-requires : goal.control_text-requires
control_text-requires c =
    let asked = c.in_ok-asked.asked in
    let d = c.args.diagram.now in
    let lines = c.in_ok-lines.lines.items in
    let known : All (λ told. AreKnown (length d.nodes) (control_nodes told)) lines = control_known d asked.solved.answers asked.agent c.in_ok-lines.ensures.lines.0 lines c.in_ok-lines.ensures.nodes c.in_ok-lines.ensures.lines.2 in
    subst (λ n. All (λ told. AreKnown n (control_nodes told)) c.deref.result.now) (sym c.requires.nodes)
    (subst (All (λ told. AreKnown (length d.nodes) (control_nodes told))) (sym c.deref.ensures.value) known)

-- the lines are those of the diagram's answer
pub returns-clause-ok : goal.returns-clause-ok
returns-clause-ok c =
    let agent = c.args.agent.now in
    let d = c.args.diagram.now in
    let names = c.args.names.now in
    let asked = c.in_ok-asked.asked in
    let made = c.in_ok-asked.ensures.ok in
    let x : NamedDiagram = record { d = d; names = names } in
    let listed = place_listed names.agents agent asked.agent made.is_agent in
    solved_given d names (unknown_agent agent ∷ []) (HasControl agent) c.in_ok-control_text.field-0.items (λ name bytes is. ((x, is, listed), tt)) made.solvable
    (record {
      solved = asked.solved;
      solution = made.solution;
      number = asked.agent;
      is_agent = made.is_agent;
      lines = c.in_ok-lines.lines.items;
      nodes = c.in_ok-lines.ensures.nodes;
      trimmed = c.in_ok-lines.ensures.lines.0;
      is_trimmed = c.in_ok-lines.ensures.lines.1;
      found = c.in_ok-lines.ensures.lines.2;
      worths = c.in_ok-lines.ensures.worths;
      is = c.in_ok-control_text.ensures ∙ ap (control_text c.as_bytes.result.now names) c.deref.ensures.value ∙ ap (λ a. control_text a names c.in_ok-lines.lines.items) c.as_bytes.ensures.value;
    })
