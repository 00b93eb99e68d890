use Rattle.std.proofs.Common.{◌∙◌, refl, sym}
use Rattle.std.proofs.lemmas.Bool.{false≢true}
use Rattle.bayes_ball.proofs.Finding.{finding_begins, finding_then, finding_falls, marks_reach, none_is_left}
use Rattle.bayes_ball.proofs.nearing.all_reach_goals.Goals as goal

pub waves-init : goal.waves-init
waves-init c =
    finding_begins c.args.diagram.now.nodes c.args.decision c.family_of-family.result c.requires _ _ _ _ _ _ c.of-below.ensures c.empty-down.ensures c.empty-up.ensures c.empty-followed.ensures c.empty-followed_down.ensures c.empty-followed_up.ensures

pub waves-preserved : goal.waves-preserved
waves-preserved c =
    finding_then c.args.diagram.now.nodes c.args.decision c.family_of-family.result c.requires c.agent_of-agent.result _ _ _ _ _ _ _ _ _ _ _ _ _ _ _ _ c.agent_of-agent.ensures.agent c.find_goals.ensures c.go_down.ensures c.go_up.ensures c.waves.invariant

pub waves-smaller : goal.waves-smaller
waves-smaller c =
    (finding_falls c.args.diagram.now.nodes c.args.decision c.family_of-family.result c.requires c.agent_of-agent.result _ _ _ _ _ _ _ _ _ _ _ _ _ _ _ _ c.agent_of-agent.ensures.agent c.find_goals.ensures c.go_down.ensures c.go_up.ensures c.waves.invariant).fewer c.if-not-went.false

pub returns-then-not-went : goal.returns-then-not-went
returns-then-not-went c =
    let left = none_is_left c.args.diagram.now.nodes c.args.decision c.family_of-family.result c.requires c.agent_of-agent.result _ _ _ _ _ _ _ _ _ _ _ _ _ _ _ _ c.agent_of-agent.ensures.agent c.find_goals.ensures c.go_down.ensures c.go_up.ensures c.waves.invariant
    c.if-not-went.true c.agent_of-agent.ensures.diagram.graph c.family_of-family.ensures.known c.family_of-family.ensures.family in
    ((λ e. absurd (false≢true e)), (λ all. sym c.waves-test.true ∙ c.are_all_marked.ensures.1 (λ v m. left v (all v m))))

pub returns : goal.returns
returns c =
    let reach = marks_reach c.args.diagram.now.nodes c.args.decision c.family_of-family.result c.requires _ _ _ _ _ _ c.agent_of-agent.ensures.diagram.graph c.family_of-family.ensures.family c.waves.invariant in
    ((λ _ v m. reach v (c.are_all_marked.ensures.0 c.waves-test.false v m)), (λ _. refl))
