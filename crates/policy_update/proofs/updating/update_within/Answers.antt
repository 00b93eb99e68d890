use Rattle.std.proofs.Common.{◌≡◌, ◌∙◌, ◌++◌, ◌<◌, ◌^◌, ℕ, List, arith, ap, drop, length, refl, slice_index, subst, sym, take}
use Rattle.std.proofs.lemmas.Grind.{common_steps}
use Rattle.maid_model.specs.Views.{AnswerView}
use Rattle.maid_model.specs.Answers.{AreChoices, IsExpectedUtility, pure_profile}
use Rattle.maid_model.specs.Subgames.{OwnsAll}
use Rattle.rule_solver.specs.Masses.{HasGains}
use Rattle.reach_laws.specs.Updates.{IsReachedAfter, IsUpdated}
use Rattle.policy_update.specs.Steps.{EndsAt, IsSettled}
use Rattle.policy_update.proofs.Owners.{decision_at, owns_like}
use Rattle.policy_update.proofs.Plans.{first_plan, first_start}
use Rattle.policy_update.proofs.Rising.{some_decision}
use Rattle.policy_update.proofs.Spent.{never_reached}
use Rattle.first_fault.proofs.HandedOn.{hands_on}
use Rattle.policy_update.specs.declared.faults.UpdateFault.TheVariants.{NoMemory}
use Rattle.policy_update.specs.Faults.{rounds_pass, update_fault}
use Rattle.std.proofs.lemmas.Result.{IfOk-from_err}
use Rattle.policy_update.proofs.updating.update_within.Goals as goal

pub go_to_end-requires-clause-plan : goal.go_to_end-requires-clause-plan
go_to_end-requires-clause-plan c =
    first_plan c.args.diagram.now.nodes c.count-count.ensures.diagram.graph c.deref_mut.result.now c.in_ok-profile.profile (c.deref_mut.ensures.value ∙ c.in_ok-answers.ensures)
    (c.in_ok-profile.ensures.rules ∙ ap (pure_profile c.args.diagram.now.nodes) (c.deref.ensures.value ∙ sym c.deref_mut.ensures.value))

pub go_to_end-requires-clause-start : goal.go_to_end-requires-clause-start
go_to_end-requires-clause-start c =
    c.in_ok-profile.ensures.rules ∙ ap (pure_profile c.args.diagram.now.nodes) (c.deref.ensures.value ∙ c.in_ok-answers.ensures) ∙ first_start c.args.diagram.now.nodes c.count-count.ensures.diagram.graph

pub returns-in-Some-clause-rows : goal.returns-in-Some-clause-rows
returns-in-Some-clause-rows c p reached =
    let nodes = c.args.diagram.now.nodes in
    let settled : IsSettled nodes c.args.rounds c.go_to_end.new.profile c.in-Some.raised = subst (EndsAt nodes c.args.rounds c.go_to_end.new.profile) c.in-Some.is c.in_ok-raised.ensures.settled in
    let is = c.count-count.ensures.diagram in
    never_reached nodes is.graph is.tables c.requires.owner.0 c.requires.owner.1 c.round_raises.ensures.exists c.in-Some.raised c.args.rounds c.go_to_end.new.profile p settled.updated settled.before reached

pub owner-requires-clause-some : goal.owner-requires-clause-some
owner-requires-clause-some c =
    let nodes = c.args.diagram.now.nodes in
    let reached : IsReachedAfter nodes c.args.rounds c.go_to_end.new.profile = subst (EndsAt nodes c.args.rounds c.go_to_end.new.profile) c.in-None.is c.in_ok-raised.ensures.settled in
    subst (λ ds. 0 < length ds) (sym c.requires.decisions) (some_decision nodes c.args.rounds c.go_to_end.new.profile c.requires.some reached)

-- the owner's expected utility after the last round
pub returns-in-None-clause-rows : goal.returns-in-None-clause-rows
returns-in-None-clause-rows c =
    let d = c.args.diagram.now in
    let reached : IsReachedAfter d.nodes c.args.rounds c.go_to_end.new.profile = subst (EndsAt d.nodes c.args.rounds c.go_to_end.new.profile) c.in-None.is c.in_ok-raised.ensures.settled in
    let some : 0 < length c.args.decisions.now = subst (λ ds. 0 < length ds) (sym c.requires.decisions) (some_decision d.nodes c.args.rounds c.go_to_end.new.profile c.requires.some reached) in
    let first = decision_at d.nodes c.args.decisions.now 0 c.requires.decisions some in (
      refl,
      record {
        profile = c.go_to_end.new.profile;
        reached = reached;
        owner = c.owner.result;
        owns = subst (OwnsAll d.nodes) (sym c.owner.ensures.owner) (owns_like d.nodes c.requires.owner.0 (slice_index c.args.decisions.now 0) c.requires.owner.1 first);
        expected = subst (IsExpectedUtility d.nodes (10 ^ d.decimals) c.go_to_end.new.profile c.owner.result) (sym c.index.ensures) (c.in_ok-raised.ensures.gains.each c.owner.result c.index.result.now c.owner.ensures.within);
      },
    )

-- the answers written back over the vector's own are the answers
answers_back : (n : ℕ) (new old : List AnswerView) → length new ≡ n → length old ≡ n → take n (new ++ drop (length new) old) ≡ new
answers_back n new old e f = search (arith, common_steps)

pub returns-in-Some-clause-ok : goal.returns-in-Some-clause-ok
returns-in-Some-clause-ok c =
    let d = c.args.diagram.now in
    let plan = c.in_ok-raised.ensures.plan in
    let settled : IsSettled d.nodes c.args.rounds c.go_to_end.new.profile c.in-Some.raised = subst (EndsAt d.nodes c.args.rounds c.go_to_end.new.profile) c.in-Some.is c.in_ok-raised.ensures.settled in
    let back = sym (answers_back c.in_ok-answers.answers.len c.go_to_end.new.answers c.in_ok-answers.answers.items (c.go_to_end.auto.answers ∙ c.deref_mut.ensures.len) (sym c.in_ok-answers.answers.ok.0)) in
    let rules : c.go_to_end.new.profile ≡ pure_profile d.nodes _ = plan.rules ∙ ap (pure_profile d.nodes) back in
    record {
      choices = subst (AreChoices d.nodes) back plan.choices;
      result = subst (IsUpdated d.nodes c.in-Some.raised) rules settled.updated;
      gains = subst (λ p. HasGains d p d.agents c.in_ok-raised.field-0.gains.items) rules c.in_ok-raised.ensures.gains;
    }

pub first_choices-requires : goal.first_choices-requires
first_choices-requires c = c.requires.decisions

pub go_to_end-requires-clause-bound : goal.go_to_end-requires-clause-bound
go_to_end-requires-clause-bound c = c.requires.bound

pub go_to_end-requires-clause-owner : goal.go_to_end-requires-clause-owner
go_to_end-requires-clause-owner c = c.requires.owner

pub owner-requires-clause-decisions : goal.owner-requires-clause-decisions
owner-requires-clause-decisions c = c.requires.decisions

pub returns-in_err-answers-clause-rows : goal.returns-in_err-answers-clause-rows
returns-in_err-answers-clause-rows c = hands_on update_fault (rounds_pass c.args.diagram.now c.args.rounds) _ NoMemory c.from_residual.ensures tt

pub returns-in_err-answers-clause-ok : goal.returns-in_err-answers-clause-ok
returns-in_err-answers-clause-ok c = IfOk-from_err _ _ c.from_residual.ensures.0

pub returns-in_err-profile-clause-rows : goal.returns-in_err-profile-clause-rows
returns-in_err-profile-clause-rows c = hands_on update_fault (rounds_pass c.args.diagram.now c.args.rounds) _ NoMemory c.from_residual-in_err-profile.ensures tt

pub returns-in_err-profile-clause-ok : goal.returns-in_err-profile-clause-ok
returns-in_err-profile-clause-ok c = IfOk-from_err _ _ c.from_residual-in_err-profile.ensures.0

pub returns-in_err-raised-clause-rows : goal.returns-in_err-raised-clause-rows
returns-in_err-raised-clause-rows c = hands_on update_fault (rounds_pass c.args.diagram.now c.args.rounds) _ NoMemory c.from_residual-in_err-raised.ensures tt

pub returns-in_err-raised-clause-ok : goal.returns-in_err-raised-clause-ok
returns-in_err-raised-clause-ok c = IfOk-from_err _ _ c.from_residual-in_err-raised.ensures.0
