-- What updating owes: one outcome.
use Rattle.std.specs.Prelude.{◌≡◌, ◌<◌, ℕ}
use Rattle.first_fault.specs.Properties.{IsExclusive, HasOneFault}
use Rattle.maid_model.specs.Diagrams.{IsDiagram}
use Rattle.maid_model.specs.Views.{DiagramView}
use Rattle.policy_update.specs.Faults.{HasTwoOwners, update_pass}
use Rattle.policy_update.specs.Updated.{UpdatedView, IsUpdateOf}

-- a diagram is refused for one fault, and is not where nothing is found
abbrev pub OneRefusal : Type 0
OneRefusal = (d : DiagramView) (rounds : ℕ) → IsDiagram d → 0 < rounds
    → IsExclusive (update_pass d rounds) × HasOneFault (update_pass d rounds)

-- it has one result
abbrev pub OneUpdate : Type 0
OneUpdate = (d : DiagramView) (a b : UpdatedView) → IsDiagram d → (HasTwoOwners d.nodes → ⊥)
    → IsUpdateOf d a → IsUpdateOf d b → a ≡ b
