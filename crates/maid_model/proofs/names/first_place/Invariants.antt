use Rattle.std.proofs.Common.{◌≡◌, ℕ, ◌<◌, [], slice_index_or}
use Rattle.maid_model.specs.Names.{list_of}
use Rattle.maid_model.proofs.names.first_place.Given as goal

-- none of the names before has it
abbrev pub invariant-loop-place : goal.invariant-loop-place
invariant-loop-place l = (k : ℕ) → k < l.place → slice_index_or (list_of l.names) k [] ≡ l.name → ⊥
