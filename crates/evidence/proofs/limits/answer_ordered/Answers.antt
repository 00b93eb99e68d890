-- What the limits or the mass refuse is refused first, and the answer is that of the solver.
use Rattle.std.proofs.Common.{◌≡◌, ◌∙◌, ◌<◌, sym, subst, refl, inr, arith}
use Rattle.maid_model.specs.declared.diagrams.Kind.TheVariants.{Chance, Utility}
use Rattle.rule_solver.specs.Rooms.{AreReady}
use Rattle.evidence.specs.Faults.{impossible_pass, limits_pass}
use Rattle.evidence.specs.Unsolved.{ordered_pass}
use Rattle.evidence.proofs.Conditional.{impossible_is, possible_is}
use Rattle.evidence.proofs.HandedOn.{out_of_memory, solver_fault}
use Rattle.evidence.proofs.limits.answer_ordered.Goals as goal

pub keep_limits-requires-clause-kind : goal.keep_limits-requires-clause-kind
keep_limits-requires-clause-kind c = λ e. let f : Chance ≡ Utility = sym c.requires.evidence.kind ∙ e in cc

pub returns-in_err-plans-clause-rows : goal.returns-in_err-plans-clause-rows
returns-in_err-plans-clause-rows c = solver_fault (limits_pass c.args.diagram.now c.args.node) (impossible_pass c.args.diagram.now c.args.node c.args.state) _ _ c.in_err-plans.ensures.rows c.from_residual.ensures

pub returns-in_err-spaces-clause-rows : goal.returns-in_err-spaces-clause-rows
returns-in_err-spaces-clause-rows c = out_of_memory (ordered_pass c.args.diagram.now c.args.node c.args.state) _ c.from_residual-in_err-spaces.ensures

pub returns-in_err-mass-clause-rows : goal.returns-in_err-mass-clause-rows
returns-in_err-mass-clause-rows c = out_of_memory (ordered_pass c.args.diagram.now c.args.node c.args.state) _ c.from_residual-in_err-mass.ensures

pub returns-in_err-solved-clause-rows : goal.returns-in_err-solved-clause-rows
returns-in_err-solved-clause-rows c = out_of_memory (ordered_pass c.args.diagram.now c.args.node c.args.state) _ c.from_residual-in_err-solved.ensures

-- ---- the mass, which is nought exactly where the evidence is impossible
pub mass_of-requires-clause-ready : goal.mass_of-requires-clause-ready
mass_of-requires-clause-ready c =
    (c.in_ok-plans.plans.size.cells, c.in_ok-spaces.ensures, c.in_ok-plans.ensures.plans.room.given.alone)

pub returns-then-mass-eq0-clause-rows : goal.returns-then-mass-eq0-clause-rows
returns-then-mass-eq0-clause-rows c =
    let never = impossible_is c.args.diagram.now c.args.node c.args.state c.in_ok-plans.ensures.diagram c.requires.within c.requires.state c.in_ok-mass.mass c.in_ok-mass.ensures.mass c.if-mass-eq0.true in
    inr (c.in_ok-plans.ensures.rows, (never, refl))

-- ---- the answer, in the same workspaces
pub solve_by-requires-clause-bound : goal.solve_by-requires-clause-bound
solve_by-requires-clause-bound c = c.in_ok-plans.ensures.rows.0

pub solve_by-requires-clause-ready : goal.solve_by-requires-clause-ready
solve_by-requires-clause-ready c = (
  c.in_ok-plans.plans.size.cells,
  subst (AreReady c.in_ok-plans.plans.size.cells) (sym c.in_ok-mass.ensures.again) c.in_ok-spaces.ensures,
  c.in_ok-plans.ensures.plans.room.run,
)

pub returns-clause-rows : goal.returns-clause-rows
returns-clause-rows c =
    let some : 0 < c.in_ok-mass.mass = omega (arith, c.if-mass-eq0.false) in
    (c.in_ok-plans.ensures.rows, possible_is c.args.diagram.now c.args.node c.args.state c.in_ok-plans.ensures.diagram c.requires.within c.requires.state c.in_ok-mass.mass c.in_ok-mass.ensures.mass some)

pub returns-clause-positive : goal.returns-clause-positive
returns-clause-positive c = omega (arith, c.if-mass-eq0.false)

pub returns-clause-ready : goal.returns-clause-ready
returns-clause-ready c = (
  c.in_ok-plans.plans.size.cells,
  subst (AreReady c.in_ok-plans.plans.size.cells) (sym (c.in_ok-solved.ensures.again ∙ c.in_ok-mass.ensures.again)) c.in_ok-spaces.ensures,
  c.in_ok-plans.ensures.plans.room.given,
)
