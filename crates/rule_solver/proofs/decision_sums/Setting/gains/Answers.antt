-- The gains as they were written.
use Rattle.std.proofs.Common.{◌≡◌, ◌∙◌, ℕ, ℤ, List, length, sym, ap, subst, arith, zero, suc, ◌*◌, replicate, get_or, pos, refl}
use Rattle.maid_model.specs.Scopes.{goals_of}
use Rattle.rule_solver.specs.Sums.{HasGoals}
use Rattle.rule_solver.proofs.GoalPlans.{goals_in_plans}
use Rattle.rule_solver.proofs.SumLemmas.{back_written, no_goals}
use Rattle.std.proofs.lemmas.List.{length-replicate}
use Rattle.maid_model.specs.Nodes.{rows_of, states_of}
use Rattle.rule_solver.proofs.decision_sums.Setting.gains.Goals as goal

pub add_goals-requires-clause-goals : goal.add_goals-requires-clause-goals
add_goals-requires-clause-goals c =
    c.deref.ensures.value ∙ c.in_ok-goals.ensures ∙ goals_in_plans c.args.self.now.diagram.now.nodes c.args.self.now.decision c.args.plans.now c.requires.planned

pub returns-clause-gains : goal.returns-clause-gains
returns-clause-gains c =
    let nodes = c.args.self.now.diagram.now.nodes in
    let list : c.deref.result.now ≡ goals_of nodes c.args.self.now.decision = c.deref.ensures.value ∙ c.in_ok-goals.ensures ∙ goals_in_plans nodes c.args.self.now.decision c.args.plans.now c.requires.planned in
    let before : length c.deref_mut.result.now ≡ length c.in_ok-gains.gains.items = ap (λ (xs : List ℤ). length xs) c.deref_mut.ensures.value in
    let same : length c.add_goals.new.gains ≡ length c.in_ok-gains.gains.items = c.add_goals.ensures.len ∙ before in
    let ok = c.in_ok-gains.gains.ok in
    let back = back_written c.in_ok-gains.gains.len c.add_goals.new.gains c.in_ok-gains.gains.items same (omega arith) in
    subst (HasGoals nodes c.args.self.now.base.now c.args.self.now.decision (goals_of nodes c.args.self.now.decision)) (sym back)
    (subst (λ (l : List ℕ). HasGoals nodes c.args.self.now.base.now c.args.self.now.decision l c.add_goals.new.gains) list c.in_ok-add_goals.ensures.gains)

-- each of so many noughts is one
noughts : (n i : ℕ) → get_or (replicate n (pos 0)) i (pos 0) ≡ pos 0
noughts zero i = refl
noughts (suc n) zero = refl
noughts (suc n) (suc i) = noughts n i

pub rows-rows-requires : goal.rows-rows-requires
rows-rows-requires c = c.requires.setting.is_decision.within

pub states-requires : goal.states-requires
states-requires c = c.requires.setting.is_decision.within

pub overflow_mul-rows : goal.overflow_mul-rows
overflow_mul-rows c =
    let cells : c.rows-rows.result * c.states.result ≡ rows_of c.args.self.now.diagram.now.nodes c.args.self.now.decision * states_of c.args.self.now.diagram.now.nodes c.args.self.now.decision = (λ i. c.rows-rows.ensures i * c.states.ensures.states i) in
    omega (arith, cells, c.requires.setting.is_diagram.limits.cells c.args.self.now.decision c.requires.setting.is_decision.within)

pub add_goals-requires-clause-setting : goal.add_goals-requires-clause-setting
add_goals-requires-clause-setting c = c.requires.setting

pub add_goals-requires-clause-planned : goal.add_goals-requires-clause-planned
add_goals-requires-clause-planned c = c.requires.planned

pub add_goals-requires-clause-ready : goal.add_goals-requires-clause-ready
add_goals-requires-clause-ready c = c.requires.ready

pub add_goals-requires-clause-none : goal.add_goals-requires-clause-none
add_goals-requires-clause-none c =
    let nodes = c.args.self.now.diagram.now.nodes in
    let cells = c.rows-rows.result * c.states.result in
    let made : c.deref_mut.result.now ≡ replicate cells (pos 0) = c.deref_mut.ensures.value ∙ c.in_ok-gains.ensures.items_if_clones_equal (λ y e. e) in
    no_goals nodes c.args.self.now.base.now c.args.self.now.decision c.deref_mut.result.now (ap (λ (xs : List ℤ). length xs) made ∙ length-replicate cells (pos 0) ∙ (λ i. c.rows-rows.ensures i * c.states.ensures.states i))
    (λ i. ap (λ (xs : List ℤ). get_or xs i (pos 0)) made ∙ noughts cells i)

pub returns-clause-again : goal.returns-clause-again
returns-clause-again c = c.in_ok-add_goals.ensures.again
