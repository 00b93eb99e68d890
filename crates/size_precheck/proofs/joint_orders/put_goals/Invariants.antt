use Rattle.size_precheck.specs.Joints.{KeepsPlaces}
use Rattle.size_precheck.proofs.joint_orders.put_goals.Given as goal

abbrev pub invariant-loop-plan : goal.invariant-loop-plan
invariant-loop-plan l = KeepsPlaces l.fn.known l.known
