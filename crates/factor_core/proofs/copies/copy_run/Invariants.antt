use Rattle.std.proofs.Common.{length, ◌≡◌, ◌+◌, ◌*◌, take, ◌++◌, [], ◌∷◌}
use Rattle.cell_rings.specs.Sums.{cell_at}
use Rattle.factor_core.specs.Copies.{one_by_one}
use Rattle.factor_core.proofs.copies.copy_run.Given as goal

abbrev pub invariant-loop : goal.invariant-loop
invariant-loop g l = record {
  here : l.here ≡ l.from + l.counter * l.step.stride;
  place : l.place ≡ l.at + l.counter;
  len : length l.out ≡ length l.fn.out;
  copied : take l.place l.out ≡ take l.at l.fn.out ++ one_by_one l.counter (λ s. cell_at g.C.Cell.ring (g.S.Source.cells l.source) (l.from + s * l.step.stride) ∷ []);
}
