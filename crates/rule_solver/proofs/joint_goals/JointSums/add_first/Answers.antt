-- The first goals, summed.
use Rattle.std.proofs.Common.{ℕ, List, sym, subst, arith, ◌≡◌, ◌∙◌, ◌<◌, ◌≤◌, ◌+◌, length, take, refl, ap}
use Rattle.joint_sums.specs.Joint.{AreGoals}
use Rattle.rule_solver.specs.Sums.{HasRoomForGoals, AddsGoals}
use Rattle.rule_solver.proofs.JointLists.{first_goals}
use Rattle.rule_solver.proofs.SumLemmas.{room_first, adds_none}
use Rattle.std.proofs.lemmas.List.{length-take, take-take}
use Rattle.rule_solver.specs.Together.{FitsPairs}
use Rattle.rule_solver.proofs.joint_goals.JointSums.add_first.Goals as goal

pub fitting-count-requires : goal.fitting-count-requires
fitting-count-requires c u m = (c.requires.goals.each u m).within

pub sum_goals-requires-clause-goals : goal.sum_goals-requires-clause-goals
sum_goals-requires-clause-goals c =
    subst (AreGoals c.args.setting.now.diagram.now.nodes c.args.setting.now.decision) (sym c.before-goals.ensures)
    (first_goals c.args.setting.now.diagram.now.nodes c.args.setting.now.decision c.fitting-count.result c.args.goals.now (let h = c.if-count-lt2.false in omega (arith, h)) c.requires.goals)

pub sum_goals-requires-clause-room : goal.sum_goals-requires-clause-room
sum_goals-requires-clause-room c =
    subst (λ (us : List ℕ). HasRoomForGoals c.args.setting.now.diagram.now c.args.setting.now.decision us c.args.gains.now) (sym c.before-goals.ensures)
    (room_first c.args.setting.now.diagram.now c.args.setting.now.decision c.fitting-count.result c.args.goals.now c.args.gains.now c.requires.room)

pub returns-then-count-lt2-clause-adds : goal.returns-then-count-lt2-clause-adds
returns-then-count-lt2-clause-adds c =
    adds_none c.args.setting.now.diagram.now.nodes c.args.setting.now.base.now c.args.setting.now.decision c.args.gains.now

pub returns-then-count-lt2-clause-again : goal.returns-then-count-lt2-clause-again
returns-then-count-lt2-clause-again c = refl

pub returns-then-count-lt2-clause-len : goal.returns-then-count-lt2-clause-len
returns-then-count-lt2-clause-len c = refl

pub before-goals-requires : goal.before-goals-requires
before-goals-requires c = c.fitting-count.ensures.few

pub sum_goals-requires-clause-setting : goal.sum_goals-requires-clause-setting
sum_goals-requires-clause-setting c = c.requires.setting

pub sum_goals-requires-clause-joint : goal.sum_goals-requires-clause-joint
sum_goals-requires-clause-joint c = c.requires.joint

pub sum_goals-requires-clause-fits : goal.sum_goals-requires-clause-fits
sum_goals-requires-clause-fits c =
    let some : 0 < c.fitting-count.result = omega (arith, c.if-count-lt2.false) in
    subst (FitsPairs c.args.setting.now.diagram.now.nodes c.args.self.now.total) (sym c.before-goals.ensures) (c.fitting-count.ensures.fits some)

pub sum_goals-requires-clause-ready : goal.sum_goals-requires-clause-ready
sum_goals-requires-clause-ready c = c.requires.ready

pub returns-clause-few : goal.returns-clause-few
returns-clause-few c =
    omega (arith, c.in_ok-added.ensures.few, ap (λ (l : List ℕ). length l) c.before-goals.ensures, length-take c.fitting-count.result c.args.goals.now, c.fitting-count.ensures.few)

pub returns-clause-adds : goal.returns-clause-adds
returns-clause-adds c =
    let n = c.in_ok-added.added in
    let fewer : n ≤ c.fitting-count.result = omega (arith, c.in_ok-added.ensures.few, ap (λ (l : List ℕ). length l) c.before-goals.ensures, length-take c.fitting-count.result c.args.goals.now, c.fitting-count.ensures.few) in
    subst (λ (l : List ℕ). AddsGoals c.args.setting.now.diagram.now.nodes c.args.setting.now.base.now c.args.setting.now.decision l c.args.gains.now c.sum_goals.new.gains) (ap (λ (l : List ℕ). take n l) c.before-goals.ensures ∙ take-take n c.fitting-count.result c.args.goals.now fewer) c.in_ok-added.ensures.adds

pub returns-clause-again : goal.returns-clause-again
returns-clause-again c =
    let spare : c.sum_goals.new.work.spare + length c.sum_goals.new.work.cells ≡ c.args.work.now.spare = omega (arith, c.in_ok-added.ensures.space, c.requires.ready.spare) in
    c.release.ensures ∙ (λ i. record { cells = sym c.requires.ready.empty i; spare = spare i })

pub returns-clause-len : goal.returns-clause-len
returns-clause-len c = c.sum_goals.ensures.len

pub returns-in_err-added-clause-len : goal.returns-in_err-added-clause-len
returns-in_err-added-clause-len c = c.sum_goals.ensures.len
