use Rattle.std.proofs.Common.{length, ◌≡◌, ◌+◌, ◌*◌, take, ◌++◌}
use Rattle.factor_core.specs.Copies.{one_by_one, gathered, count_of_steps}
use Rattle.factor_core.proofs.copies.+copy_walk.Given as goal

abbrev pub decreases-copy_walk : goal.decreases-copy_walk
decreases-copy_walk g l = length l.steps.now

abbrev pub invariant-loop : goal.invariant-loop
invariant-loop g l = record {
  here : l.here ≡ l.from + l.counter * l.step.stride;
  place : l.place ≡ l.fn.at + l.counter * count_of_steps l.rest;
  len : length l.out ≡ length l.fn.out;
  copied : take l.place l.out ≡ take l.fn.at l.fn.out ++ one_by_one l.counter (λ s. gathered g.C.Cell.ring (g.S.Source.cells l.source) l.rest (l.from + s * l.step.stride));
}
