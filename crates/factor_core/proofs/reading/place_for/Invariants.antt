use Rattle.std.proofs.Common.{◌≡◌, ℕ, ◌+◌, ◌-◌, ◌*◌, ◌≤◌, drop, length}
use Rattle.node_sets.specs.Sets.{holds}
use Rattle.factor_core.specs.Tables.{states_in, size_from, place_from, size_of, place_of, listed, GivesStates}
use Rattle.factor_core.proofs.reading.place_for.Given as goal

abbrev pub invariant-loop-v : goal.invariant-loop-v
invariant-loop-v l = record {
  left : drop l.i (listed (holds l.scope) 0 (length l.counts)) ≡ listed (holds l.scope) l.v (length l.counts - l.v);
  fits : (l.place + 1) * size_from (states_in l.counts) (holds l.scope) l.v (length l.counts - l.v) ≤ size_of l.counts l.scope;
  place : (w : ℕ → ℕ) → GivesStates l.counts l.scope w l.states → l.place * size_from (states_in l.counts) (holds l.scope) l.v (length l.counts - l.v) + place_from (states_in l.counts) (holds l.scope) w l.v (length l.counts - l.v) ≡ place_of l.counts l.scope w;
  few : l.i ≤ l.v;
}
