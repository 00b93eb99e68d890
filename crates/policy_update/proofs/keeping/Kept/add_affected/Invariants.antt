use Rattle.std.proofs.Common.{◌≡◌, ◌↔◌, ◌⊎◌, ℕ, ◌<◌, slice_index, slice_index_or}
use Rattle.node_sets.specs.Sets.{IsIn, no_nodes}
use Rattle.policy_update.proofs.keeping.Kept.add_affected.Given as goal

-- the set has gained those of the decisions so far whose scope has this one
abbrev pub invariant-loop-place : goal.invariant-loop-place
invariant-loop-place l =
    (e : ℕ) → IsIn l.set e
    ↔ (IsIn l.fn.set e ⊎ ((k : ℕ) × (k < l.place) × (slice_index l.self.decisions.now k ≡ e) × IsIn (slice_index_or l.self.scopes.items k no_nodes) l.decision))
