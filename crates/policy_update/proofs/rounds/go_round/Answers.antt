use Rattle.std.proofs.Common.{◌≡◌, ◌∙◌, ◌⊎◌, ◌<◌, ℕ, get_or, length, refl, sym, ap, subst, ◌<ℤ◌}
use Rattle.std.proofs.lemmas.List.{length-map, take_more}
use Rattle.maid_model.specs.Gains.{gain_of}
use Rattle.maid_model.specs.Nodes.{IsDecision, decisions_of}
use Rattle.maid_model.specs.Subgames.{OwnsAll}
use Rattle.maid_model.specs.Views.{AnswerView}
use Rattle.maid_laws.specs.Optimum.{IsPure}
use Rattle.reach_laws.specs.Updates.{IsPass, Over}
use Rattle.reach_laws.proofs.Steps.{step_cases}
use Rattle.policy_update.specs.Kept.{AreKept}
use Rattle.policy_update.specs.Steps.{IsProfileOf}
use Rattle.policy_update.proofs.Owners.{decision_at}
use Rattle.policy_update.proofs.Plans.{plan_pure}
use Rattle.policy_update.proofs.Rising.{pass_more, rises_more, rises_tell}
use Rattle.policy_update.proofs.rounds.go_round.Goals as goal
use Rattle.policy_update.proofs.rounds.go_round.Goals.{then-changed, else-changed}

pub loop-place-init : goal.loop-place-init
loop-place-init c = (c.requires.plan, c.requires.settled, Over, (λ agent owns. refl), refl)

pub settle-requires-clause-kept : goal.settle-requires-clause-kept
settle-requires-clause-kept c = subst (AreKept c.args.diagram.now.nodes c.args.kept.now) (sym c.loop-place.invariant.4) c.requires.kept

-- one step more
pub loop-place-preserved : goal.loop-place-preserved
loop-place-preserved c =
    let nodes = c.args.diagram.now.nodes in
    let p = c.loop-place.profile in
    let q = c.settle.new.profile in
    let plan : IsProfileOf nodes c.loop-place.answers p = c.loop-place.invariant.0 in
    let pure : IsPure nodes p = plan_pure nodes c.pure_profiles_listed.ensures.choices c.loop-place.answers p plan in
    let whole : length c.args.answers.now ≡ length (decisions_of nodes) = sym (length-map c.args.answers.now (λ (a : AnswerView). a.decision)) ∙ ap length c.requires.plan.choices.follow in
    let place : c.loop-place.place < length (decisions_of nodes) = subst (λ n. c.loop-place.place < n) whole c.loop-place-test.true in
    let d = get_or (decisions_of nodes) c.loop-place.place 0 in
    let k : IsDecision nodes d = decision_at nodes (decisions_of nodes) c.loop-place.place refl place in
    let is = c.count-count.ensures.diagram in
    let rises : (agent : ℕ) → OwnsAll nodes agent → (p ≡ q) ⊎ (gain_of nodes p agent <ℤ gain_of nodes q agent) =
    (λ agent owns. subst (λ a. (p ≡ q) ⊎ (gain_of nodes p a <ℤ gain_of nodes q a)) (owns d k) (step_cases nodes is.graph is.tables p q d k pure c.in_ok-changed.ensures.step)) in (
      c.in_ok-changed.ensures.plan,
      c.in_ok-changed.ensures.settled,
      subst (λ ds. IsPass nodes ds c.args.profile.now q) (sym (take_more (decisions_of nodes) c.loop-place.place 0 place)) (pass_more nodes q d c.loop-place.invariant.2 c.in_ok-changed.ensures.step),
      elim c.if-changed.branch [
        | then-changed w ↦ (λ agent owns. rises_more nodes agent c.loop-place.raised c.in_ok-changed.changed c.if-changed.raised c.args.profile.now p q (λ e. w.raised-is) (λ e. w.raised-is ∙ sym w.if-changed.true) (c.loop-place.invariant.3 agent owns) c.in_ok-changed.ensures.changed (rises agent owns))
        | else-changed w ↦ (λ agent owns. rises_more nodes agent c.loop-place.raised c.in_ok-changed.changed c.if-changed.raised c.args.profile.now p q (λ e. w.raised-is ∙ e) (λ e. w.raised-is ∙ e ∙ sym w.if-changed.false) (c.loop-place.invariant.3 agent owns) c.in_ok-changed.ensures.changed (rises agent owns))
      ],
      c.in_ok-changed.ensures.again ∙ c.loop-place.invariant.4,
    )

pub returns-clause-raised : goal.returns-clause-raised
returns-clause-raised c = rises_tell c.args.diagram.now.nodes c.requires.owner.0 c.loop-place.raised c.args.profile.now c.loop-place.profile (c.loop-place.invariant.3 c.requires.owner.0 c.requires.owner.1)

pub settle-requires-clause-bound : goal.settle-requires-clause-bound
settle-requires-clause-bound c = c.requires.bound

pub settle-requires-clause-plan : goal.settle-requires-clause-plan
settle-requires-clause-plan c = c.loop-place.invariant.0

pub returns-clause-plan : goal.returns-clause-plan
returns-clause-plan c = c.loop-place.invariant.0

pub returns-clause-again : goal.returns-clause-again
returns-clause-again c = c.loop-place.invariant.4

-- ---- what is settled
pub settle-requires-clause-settled : goal.settle-requires-clause-settled
settle-requires-clause-settled c = c.loop-place.invariant.1

pub returns-clause-settled : goal.returns-clause-settled
returns-clause-settled c = c.loop-place.invariant.1
