-- One elimination of the goals, and its last table read.
use Rattle.std.proofs.Common.{All, ◌≡◌, ◌∙◌, ◌++◌, ◌<◌, ◌≤◌, ℕ, List, length, sym, ap, subst, arith, refl}
use Rattle.std.proofs.lemmas.List.{take_all}
use Rattle.cell_rings.specs.Kinds.{both_kind}
use Rattle.cell_rings.specs.Rings.{most_size}
use Rattle.eliminate.specs.Results.{SumsTables, tables_at}
use Rattle.factor_core.specs.Operations.{NumbersFit}
use Rattle.joint_sums.specs.Joint.{joint_ruled}
use Rattle.joint_sums.proofs.KindSums.{both_run}
use Rattle.maid_model.specs.Nodes.{states_of}
use Rattle.ring_sums.specs.Groups.{StepsFit, StepsHold}
use Rattle.rule_solver.specs.Sums.{AddsGoals}
use Rattle.rule_solver.proofs.JointRuns.{few_labels, known, numbers, slot_adds, slot_room, slot_scope, steps_fit, steps_hold, steps_known}
use Rattle.rule_solver.proofs.SumLemmas.{adds_none}
use Rattle.rule_solver.proofs.joint_goals.JointSums.sum_goals.Goals as goal

-- the nodes of the sum are the ruled ones and then the goals
nodes_are : {whole more copied own ruled listed : List ℕ} (goals : List ℕ) → whole ≡ more → more ≡ copied ++ goals → copied ≡ own → own ≡ ruled → ruled ≡ listed → whole ≡ listed ++ goals
nodes_are goals a b c d e = a ∙ b ∙ ap (λ l. l ++ goals) (c ∙ d ∙ e)

pub sum_tables-slot-requires-clause-known : goal.sum_tables-slot-requires-clause-known
sum_tables-slot-requires-clause-known c =
    let list : c.deref-2.result.now ≡ joint_ruled c.args.setting.now.diagram.now.nodes c.args.setting.now.decision ++ c.args.goals.now =
    nodes_are c.args.goals.now c.deref-2.ensures.value c.in_ok-extend_from_slice.ensures.items c.in_ok-nodes.ensures.items c.deref.ensures.value c.requires.joint.ruled in
    subst (All (λ v. v < length c.args.setting.now.diagram.now.nodes)) (sym list) (known c.args.setting.now.diagram.now c.args.setting.now.base.now c.args.setting.now.decision c.args.setting.now.totals.now c.args.setting.now.scope c.requires.setting c.args.goals.now c.requires.goals c.args.self.now.total c.requires.joint.total c.requires.fits c.args.self.now.steps.now c.requires.joint.order)

pub sum_tables-slot-requires-clause-few : goal.sum_tables-slot-requires-clause-few
sum_tables-slot-requires-clause-few c =
    let list : c.deref-2.result.now ≡ joint_ruled c.args.setting.now.diagram.now.nodes c.args.setting.now.decision ++ c.args.goals.now =
    nodes_are c.args.goals.now c.deref-2.ensures.value c.in_ok-extend_from_slice.ensures.items c.in_ok-nodes.ensures.items c.deref.ensures.value c.requires.joint.ruled in
    subst (λ (l : List ℕ). length l ≤ 256) (sym list) (few_labels c.args.setting.now.diagram.now c.args.setting.now.base.now c.args.setting.now.decision c.args.setting.now.totals.now c.args.setting.now.scope c.requires.setting c.args.goals.now c.requires.goals c.args.self.now.total c.requires.joint.total c.requires.fits c.args.self.now.steps.now c.requires.joint.order)

pub sum_tables-slot-requires-clause-numbers : goal.sum_tables-slot-requires-clause-numbers
sum_tables-slot-requires-clause-numbers c =
    let list : c.deref-2.result.now ≡ joint_ruled c.args.setting.now.diagram.now.nodes c.args.setting.now.decision ++ c.args.goals.now =
    nodes_are c.args.goals.now c.deref-2.ensures.value c.in_ok-extend_from_slice.ensures.items c.in_ok-nodes.ensures.items c.deref.ensures.value c.requires.joint.ruled in
    subst (All (NumbersFit most_size c.args.setting.now.diagram.now.nodes c.args.setting.now.base.now)) (sym list) (numbers c.args.setting.now.diagram.now c.args.setting.now.base.now c.args.setting.now.decision c.args.setting.now.totals.now c.args.setting.now.scope c.requires.setting c.args.goals.now c.requires.goals c.args.self.now.total c.requires.joint.total c.requires.fits c.args.self.now.steps.now c.requires.joint.order c.first_numbers_fit.ensures.weights c.first_numbers_fit.ensures.values)

pub sum_tables-slot-requires-clause-steps : goal.sum_tables-slot-requires-clause-steps
sum_tables-slot-requires-clause-steps c =
    steps_known c.args.setting.now.diagram.now c.args.setting.now.base.now c.args.setting.now.decision c.args.setting.now.totals.now c.args.setting.now.scope c.requires.setting c.args.goals.now c.requires.goals c.args.self.now.total c.requires.joint.total c.requires.fits c.args.self.now.steps.now c.requires.joint.order

pub sum_tables-slot-requires-clause-holds : goal.sum_tables-slot-requires-clause-holds
sum_tables-slot-requires-clause-holds c =
    let list : c.deref-2.result.now ≡ joint_ruled c.args.setting.now.diagram.now.nodes c.args.setting.now.decision ++ c.args.goals.now =
    nodes_are c.args.goals.now c.deref-2.ensures.value c.in_ok-extend_from_slice.ensures.items c.in_ok-nodes.ensures.items c.deref.ensures.value c.requires.joint.ruled in
    subst (λ (vs : List ℕ). StepsHold both_kind (states_of c.args.setting.now.diagram.now.nodes) c.args.self.now.steps.now (tables_at both_run c.args.setting.now.diagram.now.nodes c.args.setting.now.base.now vs)) (sym list)
    (steps_hold c.args.setting.now.diagram.now c.args.setting.now.base.now c.args.setting.now.decision c.args.setting.now.totals.now c.args.setting.now.scope c.requires.setting c.args.goals.now c.requires.goals c.args.self.now.total c.requires.joint.total c.requires.fits c.args.self.now.steps.now c.requires.joint.order)

pub sum_tables-slot-requires-clause-fits : goal.sum_tables-slot-requires-clause-fits
sum_tables-slot-requires-clause-fits c =
    let list : c.deref-2.result.now ≡ joint_ruled c.args.setting.now.diagram.now.nodes c.args.setting.now.decision ++ c.args.goals.now =
    nodes_are c.args.goals.now c.deref-2.ensures.value c.in_ok-extend_from_slice.ensures.items c.in_ok-nodes.ensures.items c.deref.ensures.value c.requires.joint.ruled in
    subst (λ (vs : List ℕ). StepsFit both_kind both_kind.size (states_of c.args.setting.now.diagram.now.nodes) most_size c.args.self.now.steps.now (tables_at both_run c.args.setting.now.diagram.now.nodes c.args.setting.now.base.now vs)) (sym list)
    (steps_fit c.args.setting.now.diagram.now c.args.setting.now.base.now c.args.setting.now.decision c.args.setting.now.totals.now c.args.setting.now.scope c.requires.setting c.args.goals.now c.requires.goals c.args.self.now.total c.requires.joint.total c.requires.fits c.args.self.now.steps.now c.requires.joint.order)

pub add_gains-requires-clause-scope : goal.add_gains-requires-clause-scope
add_gains-requires-clause-scope c =
    let list : c.deref-2.result.now ≡ joint_ruled c.args.setting.now.diagram.now.nodes c.args.setting.now.decision ++ c.args.goals.now =
    nodes_are c.args.goals.now c.deref-2.ensures.value c.in_ok-extend_from_slice.ensures.items c.in_ok-nodes.ensures.items c.deref.ensures.value c.requires.joint.ruled in
    let so : SumsTables both_run c.args.setting.now.diagram.now.nodes c.args.setting.now.base.now (joint_ruled c.args.setting.now.diagram.now.nodes c.args.setting.now.decision ++ c.args.goals.now) c.args.self.now.steps.now c.sum_tables-slot.new.work c.in-Some.slot =
    subst (λ (vs : List ℕ). SumsTables both_run c.args.setting.now.diagram.now.nodes c.args.setting.now.base.now vs c.args.self.now.steps.now c.sum_tables-slot.new.work c.in-Some.slot) list c.in-Some.ensures.some in
    slot_scope c.args.setting.now.diagram.now c.args.setting.now.base.now c.args.setting.now.decision c.args.setting.now.totals.now c.args.setting.now.scope c.requires.setting c.args.goals.now c.requires.goals c.args.self.now.total c.requires.joint.total c.requires.fits c.args.self.now.steps.now c.requires.joint.order c.sum_tables-slot.new.work c.in-Some.slot so

pub add_gains-requires-clause-room : goal.add_gains-requires-clause-room
add_gains-requires-clause-room c =
    let list : c.deref-2.result.now ≡ joint_ruled c.args.setting.now.diagram.now.nodes c.args.setting.now.decision ++ c.args.goals.now =
    nodes_are c.args.goals.now c.deref-2.ensures.value c.in_ok-extend_from_slice.ensures.items c.in_ok-nodes.ensures.items c.deref.ensures.value c.requires.joint.ruled in
    let so : SumsTables both_run c.args.setting.now.diagram.now.nodes c.args.setting.now.base.now (joint_ruled c.args.setting.now.diagram.now.nodes c.args.setting.now.decision ++ c.args.goals.now) c.args.self.now.steps.now c.sum_tables-slot.new.work c.in-Some.slot =
    subst (λ (vs : List ℕ). SumsTables both_run c.args.setting.now.diagram.now.nodes c.args.setting.now.base.now vs c.args.self.now.steps.now c.sum_tables-slot.new.work c.in-Some.slot) list c.in-Some.ensures.some in
    slot_room c.args.setting.now.diagram.now c.args.setting.now.base.now c.args.setting.now.decision c.args.setting.now.totals.now c.args.setting.now.scope c.requires.setting c.args.goals.now c.requires.goals c.args.self.now.total c.requires.joint.total c.requires.fits c.args.self.now.steps.now c.requires.joint.order c.sum_tables-slot.new.work c.in-Some.slot so c.plans_keep_scopes.ensures.decisions c.plans_keep_scopes.ensures.positive c.args.gains.now c.requires.room

pub returns-in-Some-clause-adds : goal.returns-in-Some-clause-adds
returns-in-Some-clause-adds c =
    let list : c.deref-2.result.now ≡ joint_ruled c.args.setting.now.diagram.now.nodes c.args.setting.now.decision ++ c.args.goals.now =
    nodes_are c.args.goals.now c.deref-2.ensures.value c.in_ok-extend_from_slice.ensures.items c.in_ok-nodes.ensures.items c.deref.ensures.value c.requires.joint.ruled in
    let so : SumsTables both_run c.args.setting.now.diagram.now.nodes c.args.setting.now.base.now (joint_ruled c.args.setting.now.diagram.now.nodes c.args.setting.now.decision ++ c.args.goals.now) c.args.self.now.steps.now c.sum_tables-slot.new.work c.in-Some.slot =
    subst (λ (vs : List ℕ). SumsTables both_run c.args.setting.now.diagram.now.nodes c.args.setting.now.base.now vs c.args.self.now.steps.now c.sum_tables-slot.new.work c.in-Some.slot) list c.in-Some.ensures.some in
    subst (λ (us : List ℕ). AddsGoals c.args.setting.now.diagram.now.nodes c.args.setting.now.base.now c.args.setting.now.decision us c.args.gains.now c.add_gains.new.gains) (sym (take_all (length c.args.goals.now) c.args.goals.now (omega arith)))
    (slot_adds c.args.setting.now.diagram.now c.args.setting.now.base.now c.args.setting.now.decision c.args.setting.now.totals.now c.args.setting.now.scope c.requires.setting c.args.goals.now c.requires.goals c.args.self.now.total c.requires.joint.total c.requires.fits c.args.self.now.steps.now c.requires.joint.order c.sum_tables-slot.new.work c.in-Some.slot so c.args.gains.now c.add_gains.new.gains c.in_ok-add_gains-in-Some.ensures.adds)

pub sum_tables-slot-requires-clause-profile : goal.sum_tables-slot-requires-clause-profile
sum_tables-slot-requires-clause-profile c = c.requires.setting.profile

pub sum_tables-slot-requires-clause-small : goal.sum_tables-slot-requires-clause-small
sum_tables-slot-requires-clause-small c = c.requires.ready.limit

pub sum_tables-slot-requires-clause-room : goal.sum_tables-slot-requires-clause-room
sum_tables-slot-requires-clause-room c = omega (arith, c.requires.ready.spare)

pub add_gains-requires-clause-decision : goal.add_gains-requires-clause-decision
add_gains-requires-clause-decision c = c.requires.setting.is_decision

pub add_gains-requires-clause-live : goal.add_gains-requires-clause-live
add_gains-requires-clause-live c = c.in-Some.ensures.some.live

pub add_gains-requires-clause-gains : goal.add_gains-requires-clause-gains
add_gains-requires-clause-gains c = c.requires.room.count

pub returns-in_err-add_gains-in-Some-clause-len : goal.returns-in_err-add_gains-in-Some-clause-len
returns-in_err-add_gains-in-Some-clause-len c = c.add_gains.ensures.len

pub returns-in-Some-clause-len : goal.returns-in-Some-clause-len
returns-in-Some-clause-len c = c.add_gains.ensures.len

pub returns-in-Some-clause-space : goal.returns-in-Some-clause-space
returns-in-Some-clause-space c =
    omega (arith, c.sum_tables-slot.ensures.grows.space, ap (λ cells. length cells) c.requires.ready.empty, c.requires.ready.spare)

pub returns-clause-adds : goal.returns-clause-adds
returns-clause-adds c = adds_none c.args.setting.now.diagram.now.nodes c.args.setting.now.base.now c.args.setting.now.decision c.args.gains.now

pub returns-clause-space : goal.returns-clause-space
returns-clause-space c = omega (arith, c.sum_tables-slot.ensures.grows.space, ap (λ cells. length cells) c.requires.ready.empty, c.requires.ready.spare)

pub returns-clause-len : goal.returns-clause-len
returns-clause-len c = refl
