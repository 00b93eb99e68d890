-- Some of the goals, and then some of the others.
use Rattle.std.proofs.Common.{◌≡◌, ◌∙◌, ℕ, ℤ, ◌*◌, ◌≤◌, ◌<◌, Contains, List, [], length, take, drop, sym, ap, subst, arith, nat_abs, length-drop, refl}
use Rattle.std.proofs.lemmas.List.{append-nil}
use Rattle.finite_sums.specs.Members.{Among}
use Rattle.finite_sums.specs.Sums.{World, InRange}
use Rattle.finite_sums.proofs.Members.{contains_from_among}
use Rattle.joint_sums.specs.Joint.{AreGoals}
use Rattle.maid_model.specs.Gains.{greatest_abs}
use Rattle.maid_model.specs.Nodes.{node_at, states_of}
use Rattle.maid_model.specs.Relevance.{IsGoal}
use Rattle.maid_model.specs.Scopes.{goals_of, scope_product}
use Rattle.maid_model.specs.Views.{NodeView, RuleView}
use Rattle.rule_solver.specs.Rooms.{IsEmptyWithin}
use Rattle.rule_solver.specs.Sums.{AddsGoals, HasGoals, HasRoomForGoals, goal_part}
use Rattle.rule_solver.proofs.JointNodes.{goal_listed_is}
use Rattle.rule_solver.proofs.JointLists.{all_goals, first_in, other_in, other_goals}
use Rattle.rule_solver.proofs.SettingLemmas.{part_small}
use Rattle.rule_solver.proofs.SumLemmas.{goals_more, room_for, take_then}
use Rattle.rule_solver.proofs.joint_goals.add_together.Goals as goal
use Rattle.rule_solver.proofs.joint_goals.add_together.Goals.{else-parts-test, then-parts-test+in_ok-added+then-added-eq0}

none_more : (nodes : List NodeView) (p : List RuleView) (d n : ℕ) (us list : List ℕ) (before after : List ℤ) → n ≡ 0 → HasGoals nodes p d us before → AddsGoals nodes p d (take n list) before after → HasGoals nodes p d us after
none_more nodes p d n us list before after none so adds =
    subst (λ (l : List ℕ). HasGoals nodes p d l after) (append-nil us)
    (goals_more nodes p d us [] before after (λ u m. absurd m) so (subst (λ k. AddsGoals nodes p d (take k list) before after) none adds))

pub add_first-requires-clause-goals : goal.add_first-requires-clause-goals
add_first-requires-clause-goals c =
    let nodes = c.args.setting.now.diagram.now.nodes in
    let s = c.requires.setting in
    let here : c.parts.done < length c.args.goals.now = c.parts-test.true in
    let list : length c.args.goals.now ≡ length (goals_of nodes c.args.setting.now.decision) = ap (λ (l : List ℕ). length l) c.requires.goals in
    let all : AreGoals nodes c.args.setting.now.decision c.args.goals.now = subst (AreGoals nodes c.args.setting.now.decision) (sym c.requires.goals) (all_goals nodes c.args.setting.now.decision s.is_diagram.graph s.is_decision (omega (arith, here, list))) in
    subst (AreGoals nodes c.args.setting.now.decision) (sym c.behind-rest.ensures)
    (other_goals nodes c.args.setting.now.decision c.parts.done c.args.goals.now here all)

pub add_first-requires-clause-room : goal.add_first-requires-clause-room
add_first-requires-clause-room c =
    let d = c.args.setting.now.diagram.now in
    let s = c.requires.setting in
    let so : HasGoals d.nodes c.args.setting.now.base.now c.args.setting.now.decision (take c.parts.done (goals_of d.nodes c.args.setting.now.decision)) c.parts.gains =
    subst (λ (l : List ℕ). HasGoals d.nodes c.args.setting.now.base.now c.args.setting.now.decision (take c.parts.done l) c.parts.gains) c.requires.goals c.parts.invariant.1 in
    subst (λ (us : List ℕ). HasRoomForGoals d c.args.setting.now.decision us c.parts.gains) (sym (c.behind-rest.ensures ∙ ap (λ (l : List ℕ). drop c.parts.done l) c.requires.goals))
    (room_for d c.args.setting.now.base.now c.args.setting.now.decision c.parts.done c.parts.gains s.bound so)

pub parts-preserved : goal.parts-preserved
parts-preserved c =
    let d = c.args.setting.now.diagram.now in
    let p = c.args.setting.now.base.now in
    let s = c.requires.setting in
    let goals = c.args.goals.now in
    let more = take c.in_ok-added.added (drop c.parts.done goals) in
    let few : c.in_ok-added.added ≤ length (drop c.parts.done goals) = subst (λ (l : List ℕ). c.in_ok-added.added ≤ length l) c.behind-rest.ensures c.in_ok-added.ensures.few in
    let left = length-drop c.parts.done goals in
    let within = c.parts.invariant.0 in
    let adds : AddsGoals d.nodes p c.args.setting.now.decision more c.parts.gains c.add_first.new.gains =
    subst (λ (l : List ℕ). AddsGoals d.nodes p c.args.setting.now.decision (take c.in_ok-added.added l) c.parts.gains c.add_first.new.gains) c.behind-rest.ensures c.in_ok-added.ensures.adds in
    let are : (u : ℕ) → Contains more u → IsGoal d.nodes c.args.setting.now.decision u =
    (λ u m. goal_listed_is d.nodes s.is_diagram.graph c.args.setting.now.decision s.is_decision u (subst (λ (l : List ℕ). Contains l u) c.requires.goals (other_in c.parts.done goals u (first_in c.in_ok-added.added (drop c.parts.done goals) u m)))) in
    let small : (v : ℕ) → Among v more → (q : World) → InRange (states_of d.nodes) q → nat_abs (goal_part d.nodes p c.args.setting.now.decision v q) ≤ scope_product d.nodes c.args.setting.now.decision * greatest_abs (node_at d.nodes v).cells =
    (λ v m q i. part_small d p c.args.setting.now.decision c.args.setting.now.totals.now c.args.setting.now.scope s c.plans_keep_scopes.ensures.decisions c.plans_keep_scopes.ensures.positive v (are v (contains_from_among more v m)) q i) in (
      omega (arith, few, left, within),
      subst (λ (l : List ℕ). HasGoals d.nodes p c.args.setting.now.decision l c.add_first.new.gains) (sym (take_then c.parts.done c.in_ok-added.added goals))
          (goals_more d.nodes p c.args.setting.now.decision (take c.parts.done goals) more c.parts.gains c.add_first.new.gains small c.parts.invariant.1 adds),
      c.in_ok-added.ensures.again ∙ c.parts.invariant.2,
      c.add_first.ensures.len ∙ c.parts.invariant.3,
    )

pub returns-then-goals-lt2-clause-gains : goal.returns-then-goals-lt2-clause-gains
returns-then-goals-lt2-clause-gains c = c.requires.none

pub returns-then-goals-lt2-clause-again : goal.returns-then-goals-lt2-clause-again
returns-then-goals-lt2-clause-again c = refl

pub returns-then-goals-lt2-clause-len : goal.returns-then-goals-lt2-clause-len
returns-then-goals-lt2-clause-len c = refl

pub new-requires-clause-setting : goal.new-requires-clause-setting
new-requires-clause-setting c = c.requires.setting

pub new-requires-clause-goals : goal.new-requires-clause-goals
new-requires-clause-goals c = c.requires.goals

pub new-requires-clause-some : goal.new-requires-clause-some
new-requires-clause-some c = omega (arith, c.if-goals-lt2.false)

pub new-requires-clause-planned : goal.new-requires-clause-planned
new-requires-clause-planned c = c.requires.planned

pub behind-rest-requires : goal.behind-rest-requires
behind-rest-requires c = c.parts.invariant.0

pub add_first-requires-clause-setting : goal.add_first-requires-clause-setting
add_first-requires-clause-setting c = c.requires.setting

pub add_first-requires-clause-joint : goal.add_first-requires-clause-joint
add_first-requires-clause-joint c = c.in_ok-joint.ensures

pub add_first-requires-clause-ready : goal.add_first-requires-clause-ready
add_first-requires-clause-ready c = subst (IsEmptyWithin c.args.cells) (sym c.parts.invariant.2) c.requires.ready

pub returns-in_err-added-clause-len : goal.returns-in_err-added-clause-len
returns-in_err-added-clause-len c = c.add_first.ensures.len ∙ c.parts.invariant.3

pub overflow_add-done : goal.overflow_add-done
overflow_add-done c =
    let rest = ap (λ (l : List ℕ). length l) c.behind-rest.ensures ∙ length-drop c.parts.done c.args.goals.now in
    record { fits = omega (arith, c.in_ok-added.ensures.few, rest, c.parts-test.true, c.well_formed.1.1.0) }

pub parts-smaller : goal.parts-smaller
parts-smaller c = omega (arith, c.parts-test.true, c.if-added-eq0.false)

pub returns-clause-len : goal.returns-clause-len
returns-clause-len c = c.parts-test.auto.gains ∙ c.parts.invariant.3

pub returns-clause-again : goal.returns-clause-again
returns-clause-again c = elim c.parts-test.branch [
  | else-parts-test w ↦ w.work-is ∙ c.parts.invariant.2
  | then-parts-test+in_ok-added+then-added-eq0 w ↦ w.work-is ∙ w.in_ok-added.ensures.again ∙ c.parts.invariant.2
]

pub returns-clause-gains : goal.returns-clause-gains
returns-clause-gains c =
    let nodes = c.args.setting.now.diagram.now.nodes in
    let so_far = take c.parts.done c.args.goals.now in
    elim c.parts-test.branch [
      | else-parts-test w ↦ subst (HasGoals nodes c.args.setting.now.base.now c.args.setting.now.decision so_far) (sym w.gains-is) c.parts.invariant.1
      | then-parts-test+in_ok-added+then-added-eq0 w ↦ subst (HasGoals nodes c.args.setting.now.base.now c.args.setting.now.decision so_far) (sym w.gains-is)
          (none_more nodes c.args.setting.now.base.now c.args.setting.now.decision w.in_ok-added.added so_far w.behind-rest.result.now c.parts.gains w.add_first.new.gains w.if-added-eq0.true c.parts.invariant.1 w.in_ok-added.ensures.adds)
    ]
