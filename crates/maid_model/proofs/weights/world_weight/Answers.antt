use Rattle.std.proofs.Common.{arith}
use Rattle.maid_model.specs.Gains.{base_total}
use Rattle.maid_model.specs.Worlds.{world_of}
use Rattle.maid_model.proofs.Weighing.{factors, base_positive, product_start, product_step, product_fits, product_zero, product_end}
use Rattle.maid_model.proofs.weights.world_weight.Goals as goal

pub loop-v-init : goal.loop-v-init
loop-v-init c = product_start c.args.diagram.now.nodes (factors c.args.diagram.now.nodes c.args.profile.now c.args.left_out (world_of c.args.world.now)) (base_total c.args.diagram.now.nodes c.args.profile.now c.args.left_out)

pub overflow_mul-weight : goal.overflow_mul-weight
overflow_mul-weight c =
    omega (
      arith,
      product_fits c.args.diagram.now.nodes (factors c.args.diagram.now.nodes c.args.profile.now c.args.left_out (world_of c.args.world.now)) (base_total c.args.diagram.now.nodes c.args.profile.now c.args.left_out)
          (base_positive c.args.diagram.now c.count-v-end.ensures.diagram c.args.profile.now c.requires.profile c.args.left_out) c.loop-v.weight c.loop-v.v c.factor-weight.result c.loop-v.invariant (omega arith) c.factor-weight.ensures.factor c.factor-weight.ensures.within,
      c.requires.fits,
    )

pub loop-v-preserved : goal.loop-v-preserved
loop-v-preserved c =
    product_step c.args.diagram.now.nodes (factors c.args.diagram.now.nodes c.args.profile.now c.args.left_out (world_of c.args.world.now)) (base_total c.args.diagram.now.nodes c.args.profile.now c.args.left_out)
    (base_positive c.args.diagram.now c.count-v-end.ensures.diagram c.args.profile.now c.requires.profile c.args.left_out) c.loop-v.weight c.loop-v.v c.factor-weight.result c.loop-v.invariant (omega arith) c.factor-weight.ensures.factor c.factor-weight.ensures.within

pub returns-then-weight-eq0-clause-weight : goal.returns-then-weight-eq0-clause-weight
returns-then-weight-eq0-clause-weight c =
    product_zero c.args.diagram.now.nodes (factors c.args.diagram.now.nodes c.args.profile.now c.args.left_out (world_of c.args.world.now)) (base_total c.args.diagram.now.nodes c.args.profile.now c.args.left_out) _ _
    (product_step c.args.diagram.now.nodes (factors c.args.diagram.now.nodes c.args.profile.now c.args.left_out (world_of c.args.world.now)) (base_total c.args.diagram.now.nodes c.args.profile.now c.args.left_out)
    (base_positive c.args.diagram.now c.count-v-end.ensures.diagram c.args.profile.now c.requires.profile c.args.left_out) c.loop-v.weight c.loop-v.v c.factor-weight.result c.loop-v.invariant (omega arith) c.factor-weight.ensures.factor c.factor-weight.ensures.within)
    c.if-weight-eq0.true

pub returns-clause-weight : goal.returns-clause-weight
returns-clause-weight c = (product_end c.args.diagram.now.nodes (factors c.args.diagram.now.nodes c.args.profile.now c.args.left_out (world_of c.args.world.now)) (base_total c.args.diagram.now.nodes c.args.profile.now c.args.left_out) c.loop-v.weight c.loop-v.v c.loop-v.invariant (omega arith)).0

pub returns-clause-within : goal.returns-clause-within
returns-clause-within c = (product_end c.args.diagram.now.nodes (factors c.args.diagram.now.nodes c.args.profile.now c.args.left_out (world_of c.args.world.now)) (base_total c.args.diagram.now.nodes c.args.profile.now c.args.left_out) c.loop-v.weight c.loop-v.v c.loop-v.invariant (omega arith)).1
