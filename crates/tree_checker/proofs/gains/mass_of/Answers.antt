use Rattle.std.proofs.Common.{◌≡◌, ◌∙◌, ◌*◌, ◌+◌, length, ap, arith}
use Rattle.maid_model.specs.Gains.{mass}
use Rattle.maid_model.specs.Tables.{weight_total}
use Rattle.tree_checker.proofs.ProductSteps.{mass_from, next_factor, so_far, totals_positive}
use Rattle.tree_checker.proofs.gains.mass_of.Goals as goal
use Rattle.tree_checker.proofs.gains.mass_of.Goals.{After-total_of-mass}

-- with the next factor
next : (c : After-total_of-mass) → c.loop-v.mass * c.total_of-mass.result * mass_from c.args.diagram.now.nodes c.args.profile.now (c.loop-v.v + 1) ≡ mass c.args.diagram.now.nodes c.args.profile.now
next c =
    let nodes = c.args.diagram.now.nodes in
    let p = c.args.profile.now in
    ap (λ t. c.loop-v.mass * t * mass_from nodes p (c.loop-v.v + 1)) c.total_of-mass.ensures
    ∙ next_factor (weight_total nodes p) (length nodes) c.loop-v.v c.loop-v.mass (let l = c.loop-v-test.true in omega (arith, l, c.count-v-end.ensures.count))
    ∙ c.loop-v.invariant

pub overflow_mul-mass : goal.overflow_mul-mass
overflow_mul-mass c =
    let nodes = c.args.diagram.now.nodes in
    let p = c.args.profile.now in
    let small = so_far (weight_total nodes p) (length nodes) (c.loop-v.v + 1) (c.loop-v.mass * c.total_of-mass.result) (totals_positive nodes p c.count-v-end.ensures.diagram.tables c.requires.profile) in
    let whole = next c in
    let fits = c.requires.fits in
    omega (arith, small, whole, fits)

pub loop-v-preserved : goal.loop-v-preserved
loop-v-preserved c = next c
