use Rattle.std.proofs.Common.{◌≢◌, ◌∙◌, inr, refl, sym, subst, add-one}
use Rattle.reach_laws.specs.Updates.{IsReachedAfter, Raised, Start}
use Rattle.policy_update.specs.Kept.{AreKept}
use Rattle.policy_update.specs.Steps.{TellsChange}
use Rattle.policy_update.proofs.Kept.{decision_listed, number_listed}
use Rattle.policy_update.proofs.rounds.go_rounds.Goals as goal

pub loop-raised-init : goal.loop-raised-init
loop-raised-init c = (c.requires.plan, (λ d k out. absurd (out ((c.insert_all.ensures.all d).1 (inr (decision_listed c.args.diagram.now.nodes c.args.kept.now c.requires.kept.is_kept d k))))), subst (IsReachedAfter c.args.diagram.now.nodes 0) (sym c.requires.start) Start, refl)

pub insert_all-requires : goal.insert_all-requires
insert_all-requires c = number_listed c.args.diagram.now c.args.kept.now c.count-count.ensures.diagram c.requires.kept.is_kept

pub go_round-requires-clause-settled : goal.go_round-requires-clause-settled
go_round-requires-clause-settled c = c.loop-raised.invariant.1

pub go_round-requires-clause-kept : goal.go_round-requires-clause-kept
go_round-requires-clause-kept c = subst (AreKept c.args.diagram.now.nodes c.args.kept.now) (sym c.loop-raised.invariant.3) c.requires.kept

-- the round raised
pub loop-raised-preserved : goal.loop-raised-preserved
loop-raised-preserved c =
    let differ : c.loop-raised.profile ≢ c.go_round.new.profile = subst (λ b. TellsChange b c.loop-raised.profile c.go_round.new.profile) c.if-not-branch.false c.in_ok-go_round.ensures.raised in (
      c.in_ok-go_round.ensures.plan,
      c.in_ok-go_round.ensures.settled,
      subst (λ n. IsReachedAfter c.args.diagram.now.nodes n c.go_round.new.profile) (sym (add-one c.loop-raised.raised)) (Raised c.loop-raised.invariant.2 c.in_ok-go_round.ensures.round differ),
      c.in_ok-go_round.ensures.again ∙ c.loop-raised.invariant.3,
    )

pub go_round-requires-clause-bound : goal.go_round-requires-clause-bound
go_round-requires-clause-bound c = c.requires.bound

pub go_round-requires-clause-owner : goal.go_round-requires-clause-owner
go_round-requires-clause-owner c = c.requires.owner

pub go_round-requires-clause-plan : goal.go_round-requires-clause-plan
go_round-requires-clause-plan c = c.loop-raised.invariant.0

pub returns-clause-plan : goal.returns-clause-plan
returns-clause-plan c = c.loop-raised.invariant.0

pub returns-clause-again : goal.returns-clause-again
returns-clause-again c = c.loop-raised.invariant.3
