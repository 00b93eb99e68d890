-- Paths joined, and read from their other end. Crates above may cite these.
use Rattle.std.proofs.Common.{ℕ}
use Rattle.node_sets.specs.Paths.{IsPath, Here, Along}

pub path_then : {Arc : ℕ → ℕ → Type 0} (z m : ℕ) → IsPath Arc m z → (a : ℕ) → IsPath Arc a m → IsPath Arc a z
path_then z m q a Here = q
path_then z m q a (Along {v = b} h p) = Along h (path_then z m q b p)

-- a path read from its other end
pub path_turn : (R : ℕ → ℕ → Type 0) (to from : ℕ) → IsPath R from to → IsPath (λ a b. R b a) to from
path_turn R to from Here = Here
path_turn R to from (Along {v = b} h p) =
    let step : IsPath (λ a b. R b a) b from = Along h Here in path_then from b step to (path_turn R to b p)
