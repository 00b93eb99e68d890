use Rattle.std.proofs.Common.{arith, subst, sym}
use Rattle.rule_solver.specs.Rooms.{AreReady}
use Rattle.size_precheck.specs.Sizes.{ArePlansOfWorths}
use Rattle.policy_update.proofs.Plans.{plan_pure}
use Rattle.policy_update.proofs.updating.go_to_end.Goals as goal

pub overflow_cast-run : goal.overflow_cast-run
overflow_cast-run c = omega (arith, c.requires.run.limit)

pub reserve-requires : goal.reserve-requires
reserve-requires c = c.requires.run.limit

pub go_planned-requires-clause-decisions : goal.go_planned-requires-clause-decisions
go_planned-requires-clause-decisions c = c.requires.decisions

pub go_planned-requires-clause-owner : goal.go_planned-requires-clause-owner
go_planned-requires-clause-owner c = c.requires.owner

pub go_planned-requires-clause-bound : goal.go_planned-requires-clause-bound
go_planned-requires-clause-bound c = c.requires.bound

pub go_planned-requires-clause-run : goal.go_planned-requires-clause-run
go_planned-requires-clause-run c = c.requires.run

pub go_planned-requires-clause-ready : goal.go_planned-requires-clause-ready
go_planned-requires-clause-ready c = c.in_ok-spaces.ensures

pub go_planned-requires-clause-plan : goal.go_planned-requires-clause-plan
go_planned-requires-clause-plan c = c.requires.plan

pub go_planned-requires-clause-start : goal.go_planned-requires-clause-start
go_planned-requires-clause-start c = c.requires.start

pub expected_along-requires-clause-bound : goal.expected_along-requires-clause-bound
expected_along-requires-clause-bound c = c.requires.bound

pub expected_along-requires-clause-profile : goal.expected_along-requires-clause-profile
expected_along-requires-clause-profile c = (plan_pure c.args.diagram.now.nodes c.pure_profiles_listed.ensures.choices c.go_planned.new.answers c.go_planned.new.profile c.in_ok-raised.ensures.plan).profile

pub expected_along-requires-clause-pure : goal.expected_along-requires-clause-pure
expected_along-requires-clause-pure c = (plan_pure c.args.diagram.now.nodes c.pure_profiles_listed.ensures.choices c.go_planned.new.answers c.go_planned.new.profile c.in_ok-raised.ensures.plan).total

pub expected_along-requires-clause-planned : goal.expected_along-requires-clause-planned
expected_along-requires-clause-planned c = subst (ArePlansOfWorths c.args.diagram.now.nodes) (sym c.deref.ensures.value) c.requires.run.worths

pub expected_along-requires-clause-ready : goal.expected_along-requires-clause-ready
expected_along-requires-clause-ready c = (
  c.args.run.now.size.cells,
  subst (AreReady c.args.run.now.size.cells) (sym c.in_ok-raised.ensures.again) c.in_ok-spaces.ensures,
  c.requires.run.room.worths,
)

pub returns-clause-plan : goal.returns-clause-plan
returns-clause-plan c = c.in_ok-raised.ensures.plan

pub returns-clause-settled : goal.returns-clause-settled
returns-clause-settled c = c.in_ok-raised.ensures.settled

pub returns-clause-gains : goal.returns-clause-gains
returns-clause-gains c = c.in_ok-gains.ensures.gains
