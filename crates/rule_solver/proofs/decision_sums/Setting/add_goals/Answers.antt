-- The goals that are not summed together, one after another.
use Rattle.std.proofs.Common.{rules, ◌∙◌, inl, inr, ℕ, ◌*◌, ◌<◌, ◌≤◌, List, [], ◌∷◌, length, take, drop, slice_index, sym, subst, arith, nat_abs}
use Rattle.std.proofs.lemmas.List.{take_more, take_all}
use Rattle.finite_sums.specs.Members.{Among}
use Rattle.finite_sums.specs.Sums.{World, InRange}
use Rattle.maid_model.specs.Gains.{greatest_abs}
use Rattle.maid_model.specs.Nodes.{node_at, states_of}
use Rattle.maid_model.specs.Relevance.{IsGoal}
use Rattle.maid_model.specs.Scopes.{goals_of, scope_product}
use Rattle.plan_sums.specs.Plans.{gain_plan}
use Rattle.rule_solver.specs.Rooms.{AreReady, HasCellsAtMost}
use Rattle.rule_solver.specs.Sums.{HasGoals, HasRoomForGoals, goal_part}
use Rattle.size_precheck.specs.Sizes.{IsPlanned}
use Rattle.rule_solver.proofs.GoalPlans.{goal_plan_at, goal_plans_long}
use Rattle.rule_solver.proofs.SettingLemmas.{goal_at, part_small}
use Rattle.rule_solver.proofs.SumLemmas.{goals_more, room_for, room_next}
use Rattle.rule_solver.proofs.decision_sums.Setting.add_goals.Goals as goal

-- the plan at a goal's place is the goal's
pub bounds-plans-place : goal.bounds-plans-place
bounds-plans-place c =
    let nodes = c.args.self.now.diagram.now.nodes in
    let here : c.loop-place.place < length (goals_of nodes c.args.self.now.decision) = subst (λ (l : List ℕ). c.loop-place.place < length l) c.requires.goals c.loop-place-test.true in
    let long = goal_plans_long nodes c.args.self.now.decision c.args.plans.now c.requires.planned in
    omega (arith, here, long)

pub offset_bounds-plans-place : goal.offset_bounds-plans-place
offset_bounds-plans-place c = let here : c.loop-place.place < length c.args.plans.now = bounds-plans-place c in search (rules, here)

pub add_goal-requires-clause-goal : goal.add_goal-requires-clause-goal
add_goal-requires-clause-goal c =
    let nodes = c.args.self.now.diagram.now.nodes in
    let s = c.requires.setting in
    let here : c.loop-place.place < length (goals_of nodes c.args.self.now.decision) = subst (λ (l : List ℕ). c.loop-place.place < length l) c.requires.goals c.loop-place-test.true in
    subst (λ (l : List ℕ). IsGoal nodes c.args.self.now.decision (slice_index l c.loop-place.place)) (sym c.requires.goals) (goal_at nodes s.is_diagram.graph c.args.self.now.decision s.is_decision c.loop-place.place here)

pub add_goal-requires-clause-planned : goal.add_goal-requires-clause-planned
add_goal-requires-clause-planned c =
    let nodes = c.args.self.now.diagram.now.nodes in
    let here : c.loop-place.place < length (goals_of nodes c.args.self.now.decision) = subst (λ (l : List ℕ). c.loop-place.place < length l) c.requires.goals c.loop-place-test.true in
    subst (λ (l : List ℕ). IsPlanned nodes (gain_plan nodes c.args.self.now.decision (slice_index l c.loop-place.place)) c.index-plans-place.result) (sym c.requires.goals)
    (goal_plan_at nodes c.args.self.now.decision c.args.plans.now c.requires.planned c.loop-place.place c.index-plans-place.result here c.index-plans-place.is)

pub add_goal-requires-clause-ready : goal.add_goal-requires-clause-ready
add_goal-requires-clause-ready c =
    let nodes = c.args.self.now.diagram.now.nodes in
    let s = c.requires.setting in
    let here : c.loop-place.place < length (goals_of nodes c.args.self.now.decision) = subst (λ (l : List ℕ). c.loop-place.place < length l) c.requires.goals c.loop-place-test.true in
    let ready : AreReady c.requires.ready.0 c.loop-place.spaces = subst (AreReady c.requires.ready.0) (sym c.loop-place.invariant.1) c.requires.ready.1 in (
      c.requires.ready.0,
      ready.small,
      ready.wide,
      subst (λ (l : List ℕ). HasCellsAtMost nodes (gain_plan nodes c.args.self.now.decision (slice_index l c.loop-place.place)) c.requires.ready.0) (sym c.requires.goals)
          (c.requires.ready.2 (slice_index (goals_of nodes c.args.self.now.decision) c.loop-place.place) (goal_at nodes s.is_diagram.graph c.args.self.now.decision s.is_decision c.loop-place.place here)),
    )

pub add_goal-requires-clause-room : goal.add_goal-requires-clause-room
add_goal-requires-clause-room c =
    let d = c.args.self.now.diagram.now in
    let s = c.requires.setting in
    let so : HasGoals d.nodes c.args.self.now.base.now c.args.self.now.decision (take c.loop-place.place (goals_of d.nodes c.args.self.now.decision)) c.loop-place.gains =
    subst (λ (l : List ℕ). HasGoals d.nodes c.args.self.now.base.now c.args.self.now.decision (take c.loop-place.place l) c.loop-place.gains) c.requires.goals c.loop-place.invariant.0 in
    room_next d c.args.self.now.decision c.loop-place.place c.args.goals.now c.loop-place.gains c.loop-place-test.true
    (subst (λ (l : List ℕ). HasRoomForGoals d c.args.self.now.decision (drop c.loop-place.place l) c.loop-place.gains) (sym c.requires.goals)
    (room_for d c.args.self.now.base.now c.args.self.now.decision c.loop-place.place c.loop-place.gains s.bound so))

pub loop-place-preserved : goal.loop-place-preserved
loop-place-preserved c =
    let d = c.args.self.now.diagram.now in
    let p = c.args.self.now.base.now in
    let s = c.requires.setting in
    let goals = c.args.goals.now in
    let u = slice_index goals c.loop-place.place in
    let here : c.loop-place.place < length (goals_of d.nodes c.args.self.now.decision) = subst (λ (l : List ℕ). c.loop-place.place < length l) c.requires.goals c.loop-place-test.true in
    let is_goal : IsGoal d.nodes c.args.self.now.decision u = subst (λ (l : List ℕ). IsGoal d.nodes c.args.self.now.decision (slice_index l c.loop-place.place)) (sym c.requires.goals) (goal_at d.nodes s.is_diagram.graph c.args.self.now.decision s.is_decision c.loop-place.place here) in
    let small : (v : ℕ) → Among v (u ∷ []) → (q : World) → InRange (states_of d.nodes) q → nat_abs (goal_part d.nodes p c.args.self.now.decision v q) ≤ scope_product d.nodes c.args.self.now.decision * greatest_abs (node_at d.nodes v).cells =
    (λ v m q i. elim m as (λ _. nat_abs (goal_part d.nodes p c.args.self.now.decision v q) ≤ scope_product d.nodes c.args.self.now.decision * greatest_abs (node_at d.nodes v).cells) [
      | inl e ↦ part_small d p c.args.self.now.decision c.args.self.now.totals.now c.args.self.now.scope s c.plans_keep_scopes.ensures.decisions c.plans_keep_scopes.ensures.positive v (subst (IsGoal d.nodes c.args.self.now.decision) (sym e) is_goal) q i
      | inr n ↦ absurd n
    ]) in (
      subst (λ (l : List ℕ). HasGoals d.nodes p c.args.self.now.decision l c.add_goal.new.gains) (sym (take_more goals c.loop-place.place 0 c.loop-place-test.true))
          (goals_more d.nodes p c.args.self.now.decision (take c.loop-place.place goals) (u ∷ []) c.loop-place.gains c.add_goal.new.gains small c.loop-place.invariant.0 c.in_ok-add_goal.ensures.adds),
      (λ i. record { small = c.in_ok-add_goal.ensures.again.0 i; wide = c.in_ok-add_goal.ensures.again.1 i; pairs = c.loop-place.spaces.pairs; lists = tt; cells = c.loop-place.spaces.cells; pair_cells = c.loop-place.spaces.pair_cells }) ∙ c.loop-place.invariant.1,
      c.add_goal.ensures.len ∙ c.loop-place.invariant.2,
    )

pub add_together-requires-clause-setting : goal.add_together-requires-clause-setting
add_together-requires-clause-setting c = c.requires.setting

pub add_together-requires-clause-goals : goal.add_together-requires-clause-goals
add_together-requires-clause-goals c = c.requires.goals

pub add_together-requires-clause-planned : goal.add_together-requires-clause-planned
add_together-requires-clause-planned c = c.requires.planned

pub add_together-requires-clause-ready : goal.add_together-requires-clause-ready
add_together-requires-clause-ready c = c.requires.ready.1.pairs

pub add_together-requires-clause-none : goal.add_together-requires-clause-none
add_together-requires-clause-none c = c.requires.none

pub loop-place-init : goal.loop-place-init
loop-place-init c =
    (c.in_ok-added.ensures.gains, (λ i. record { small = c.args.spaces.now.small; wide = c.args.spaces.now.wide; pairs = c.in_ok-added.ensures.again i; lists = tt; cells = c.args.spaces.now.cells; pair_cells = c.args.spaces.now.pair_cells }), c.add_together.ensures.len)

pub bounds-goals-place : goal.bounds-goals-place
bounds-goals-place c = c.loop-place-test.true

pub add_goal-requires-clause-setting : goal.add_goal-requires-clause-setting
add_goal-requires-clause-setting c = c.requires.setting

pub returns-in_err-added-clause-len : goal.returns-in_err-added-clause-len
returns-in_err-added-clause-len c = c.add_together.ensures.len

pub returns-in_err-add_goal-clause-len : goal.returns-in_err-add_goal-clause-len
returns-in_err-add_goal-clause-len c = c.add_goal.ensures.len ∙ c.loop-place.invariant.2

pub returns-clause-gains : goal.returns-clause-gains
returns-clause-gains c =
    subst (λ (l : List ℕ). HasGoals c.args.self.now.diagram.now.nodes c.args.self.now.base.now c.args.self.now.decision l c.loop-place.gains) (take_all c.loop-place.place c.args.goals.now c.loop-place-test.false) c.loop-place.invariant.0

pub returns-clause-again : goal.returns-clause-again
returns-clause-again c = c.loop-place.invariant.1

pub returns-clause-len : goal.returns-clause-len
returns-clause-len c = c.loop-place.invariant.2
