use Rattle.std.proofs.Common.{◌≡◌, ◌<◌, ℕ, length, get_or}
use Rattle.maid_model.specs.Nodes.{IsDecision}
use Rattle.maid_model.specs.Private.{IsFirstAt}
use Rattle.maid_model.proofs.weights.rule_places.Given as goal

abbrev pub invariant-loop-v : goal.invariant-loop-v
invariant-loop-v l = record { len : length l.places ≡ 256; at : (u : ℕ) → u < l.v → IsDecision l.diagram.nodes u → IsFirstAt l.profile u (get_or l.places u 0) }
