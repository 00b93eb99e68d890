use Rattle.std.proofs.Common.{subst, sym}
use Rattle.maid_model.specs.Nodes.{decisions_of}
use Rattle.size_precheck.specs.Decisions.{ArePlans}
use Rattle.policy_update.proofs.Plans.{plan_pure}
use Rattle.policy_update.proofs.updating.go_planned.Goals as goal

pub new-requires-clause-decisions : goal.new-requires-clause-decisions
new-requires-clause-decisions c = c.requires.decisions

pub new-requires-clause-pure : goal.new-requires-clause-pure
new-requires-clause-pure c = plan_pure c.args.diagram.now.nodes c.pure_profiles_listed.ensures.choices c.args.answers.now c.args.profile.now c.requires.plan

pub new-requires-clause-planned : goal.new-requires-clause-planned
new-requires-clause-planned c = subst (ArePlans c.args.diagram.now.nodes (decisions_of c.args.diagram.now.nodes)) (sym c.deref.ensures.value) c.requires.run.plans

pub go_rounds-requires-clause-kept : goal.go_rounds-requires-clause-kept
go_rounds-requires-clause-kept c = record {
  is_kept = c.in_ok-kept.ensures;
  cells = c.args.run.now.size.cells;
  ready = c.requires.ready;
  room = c.requires.run.room;
}

pub go_rounds-requires-clause-bound : goal.go_rounds-requires-clause-bound
go_rounds-requires-clause-bound c = c.requires.bound

pub go_rounds-requires-clause-owner : goal.go_rounds-requires-clause-owner
go_rounds-requires-clause-owner c = c.requires.owner

pub go_rounds-requires-clause-plan : goal.go_rounds-requires-clause-plan
go_rounds-requires-clause-plan c = c.requires.plan

pub go_rounds-requires-clause-start : goal.go_rounds-requires-clause-start
go_rounds-requires-clause-start c = c.requires.start

pub returns-clause-plan : goal.returns-clause-plan
returns-clause-plan c = c.go_rounds.ensures.plan

pub returns-clause-again : goal.returns-clause-again
returns-clause-again c = c.go_rounds.ensures.again

pub returns-clause-settled : goal.returns-clause-settled
returns-clause-settled c = c.go_rounds.ensures.settled
