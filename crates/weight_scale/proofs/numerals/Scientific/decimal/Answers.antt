use Rattle.std.proofs.Common.{arith, ◌-◌}
use Rattle.weight_scale.proofs.Tens.{some_of_same, none_of_same, cancel_above, cancel_below, tens_positive}
use Rattle.weight_scale.proofs.numerals.Scientific.decimal.Goals as goal

pub returns-then-self-clause-some : goal.returns-then-self-clause-some
returns-then-self-clause-some c = let s = c.args.self in
    some_of_same c.args.minus _ 1 _ _ (omega arith) (tens_positive s.below) (cancel_below s.size s.above s.below c.if-self.true) c.with_tens.result c.with_tens.ensures.some

pub returns-then-self-clause-none : goal.returns-then-self-clause-none
returns-then-self-clause-none c = let s = c.args.self in
    none_of_same c.args.minus _ 1 _ _ (omega arith) (tens_positive s.below) (cancel_below s.size s.above s.below c.if-self.true) c.with_tens.result c.with_tens.ensures.none

pub returns-else-self-clause-some : goal.returns-else-self-clause-some
returns-else-self-clause-some c = let s = c.args.self in
    some_of_same c.args.minus _ _ _ _ (tens_positive (s.below - s.above)) (tens_positive s.below) (cancel_above s.size s.above s.below (omega arith)) c.with_decimals.result c.with_decimals.ensures.some

pub returns-else-self-clause-none : goal.returns-else-self-clause-none
returns-else-self-clause-none c = let s = c.args.self in
    none_of_same c.args.minus _ _ _ _ (tens_positive (s.below - s.above)) (tens_positive s.below) (cancel_above s.size s.above s.below (omega arith)) c.with_decimals.result c.with_decimals.ensures.none
