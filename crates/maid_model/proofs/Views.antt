-- What the code reads of a diagram.
use Rattle.std.proofs.Common.{◌≡◌, ℕ, zero, suc, ◌<◌, List, [], ◌∷◌, length, get_or, refl, arith}
use Rattle.maid_model.specs.Nodes.{states_of, counts_of}
use Rattle.maid_model.specs.Views.{NodeView}

pub counts_at : (nodes : List NodeView) (v : ℕ) → v < length nodes → states_of nodes v ≡ get_or (counts_of nodes) v 0
counts_at [] v h = absurd (omega arith)
counts_at (n ∷ ns) zero h = refl
counts_at (n ∷ ns) (suc v) h = counts_at ns v (omega arith)
