use Rattle.std.proofs.Common.{arith}
use Rattle.size_precheck.proofs.Classing.{next_found, next_none}
use Rattle.size_precheck.proofs.classes.find_next.Goals as goal

pub returns-in-Some : goal.returns-in-Some
returns-in-Some c counts waits are = next_found counts waits c.args.classes.now c.loop-class.class-index c.in-Some.v are c.loop-class-test.true c.loop-class.invariant c.in-Some.ensures

pub returns : goal.returns
returns c counts waits are = next_none counts waits c.args.classes.now are (λ k l w m. c.loop-class.invariant k (let a = c.loop-class-test.false in omega arith) w m)
