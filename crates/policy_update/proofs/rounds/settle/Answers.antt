use Rattle.std.proofs.Common.{◌≡◌, ◌∙◌, ◌↔◌, ℕ, List, false, true, get_or, slice_index_or, sym, subst}
use Rattle.maid_laws.specs.Optimum.{IsPure}
use Rattle.maid_model.specs.Nodes.{IsDecision}
use Rattle.maid_model.specs.Scopes.{scope_of}
use Rattle.maid_model.specs.Views.{RuleView}
use Rattle.node_sets.specs.Sets.{IsIn}
use Rattle.part_laws.specs.PartLaws.{DecidesAlike}
use Rattle.reach_laws.specs.Updates.{IsStep}
use Rattle.policy_update.specs.Kept.{AddsAffected}
use Rattle.policy_update.specs.Steps.{TellsChange}
use Rattle.policy_update.proofs.Kept.{decision_here, decisions_and_scopes, number_here}
use Rattle.policy_update.proofs.Plans.{plan_pure}
use Rattle.policy_update.proofs.Settled.{settled_changed, settled_unchanged}
use Rattle.policy_update.proofs.rounds.settle.Goals as goal
use Rattle.policy_update.proofs.rounds.settle.Goals.{After-remove, then-changed, else-changed}

pub holds-requires : goal.holds-requires
holds-requires c = number_here c.args.diagram.now c.args.kept.now c.count-count.ensures.diagram c.requires.kept.is_kept c.args.answers.now c.requires.plan.choices c.args.place c.requires.place

pub add_affected-requires-clause-decision : goal.add_affected-requires-clause-decision
add_affected-requires-clause-decision c = number_here c.args.diagram.now c.args.kept.now c.count-count.ensures.diagram c.requires.kept.is_kept c.args.answers.now c.requires.plan.choices c.args.place c.requires.place

pub remove-requires : goal.remove-requires
remove-requires c = number_here c.args.diagram.now c.args.kept.now c.count-count.ensures.diagram c.requires.kept.is_kept c.args.answers.now c.requires.plan.choices c.args.place c.requires.place

pub add_affected-requires-clause-lists : goal.add_affected-requires-clause-lists
add_affected-requires-clause-lists c = decisions_and_scopes c.args.diagram.now c.args.kept.now c.count-count.ensures.diagram c.requires.kept.is_kept

-- ---- it is settled
pub returns-then-not-holds-clause-step : goal.returns-then-not-holds-clause-step
returns-then-not-holds-clause-step c =
    let nodes = c.args.diagram.now.nodes in
    let p = c.args.profile.now in
    subst (λ ds. IsStep nodes p (get_or ds c.args.place 0) p) c.requires.kept.is_kept.decided
    (c.requires.settled (slice_index_or c.args.kept.now.decisions.now c.args.place 0) (decision_here nodes c.args.kept.now c.requires.kept.is_kept c.args.answers.now c.requires.plan.choices c.args.place c.requires.place) (λ h. not_both (c.if-not-holds.ensures ∙ h)))
  where
    not_both : false ≡ true → ⊥
    not_both e = cc

-- ---- it is improved
-- the part of a decision's scope decides as the whole does
alike : (c : After-remove) (r : List RuleView) → IsPure c.args.diagram.now.nodes r → (e : ℕ) → IsDecision c.args.diagram.now.nodes e → (row : ℕ) → DecidesAlike c.args.diagram.now.nodes r (scope_of c.args.diagram.now.nodes e) e row
alike c r pure e k row =
    let nodes = c.args.diagram.now.nodes in
    let is = c.count-count.ensures.diagram in
    let scope = c.scopes_are_parts.ensures.decisions nodes e is.graph k in
    c.parts_decide.ensures.choices nodes r (scope_of nodes e) e row is.graph is.tables pure.profile scope.0 k scope.2 scope.3

pub returns-clause-settled : goal.returns-clause-settled
returns-clause-settled c =
    let nodes = c.args.diagram.now.nodes in
    let kept = c.requires.kept.is_kept in
    let p = c.args.profile.now in
    let q = c.improve.new.profile in
    let d = slice_index_or c.args.kept.now.decisions.now c.args.place 0 in
    let pure : IsPure nodes p = plan_pure nodes c.pure_profiles_listed.ensures.choices c.args.answers.now p c.requires.plan in
    let step : IsStep nodes p d q = subst (λ ds. IsStep nodes p (get_or ds c.args.place 0) q) (sym kept.decided) c.in_ok-changed.ensures.step in
    elim c.if-changed.branch [
      | then-changed w ↦ settled_changed nodes p q d pure step (alike c) c.args.unsettled.now c.remove.new.self c.requires.settled c.args.kept.now kept c.if-changed.unsettled
          (subst (AddsAffected c.args.kept.now d c.args.unsettled.now) (sym w.unsettled-is) w.add_affected.ensures) c.remove.ensures
      | else-changed w ↦ settled_unchanged nodes p q d pure step (alike c) c.args.unsettled.now c.remove.new.self c.requires.settled (subst (λ b. TellsChange b p q) w.if-changed.false c.in_ok-changed.ensures.changed)
          (subst (λ set. (x : ℕ) → IsIn c.remove.new.self x ↔ (IsIn set x × (x ≡ d → ⊥))) w.unsettled-is c.remove.ensures)
    ]
