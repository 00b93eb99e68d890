use Rattle.std.proofs.Common.{length, [], ◌∷◌, ◌≡◌, ◌+◌, ◌*◌, take, ◌++◌}
use Rattle.factor_core.specs.Copies.{one_by_one, gathered}
use Rattle.factor_core.proofs.copies.copy_rows.Given as goal

abbrev pub invariant-loop : goal.invariant-loop
invariant-loop g l = record {
  here : l.here ≡ l.from + l.counter * l.step.stride;
  place : l.place ≡ l.at + l.counter * l.inner.states;
  len : length l.out ≡ length l.fn.out;
  copied : take l.place l.out ≡ take l.at l.fn.out ++ one_by_one l.counter (λ s. gathered g.C.Cell.ring (g.S.Source.cells l.source) (l.inner ∷ []) (l.from + s * l.step.stride));
}
