-- Scopes of several slots. Only private contracts cite this file.
use Rattle.std.specs.Prelude.{ℕ, ◌==◌, Bool, false, if◌then◌else◌, List}
use Rattle.std.specs.List.{list_any}
use Rattle.node_sets.specs.Sets.{holds}
use Rattle.factor_core.specs.declared.slots.Slot.{Slot}

-- whether a node is in one of the slots
abbrev pub united : List Slot → ℕ → Bool
united slots v = list_any (λ s. holds s.scope v) slots

-- whether a node is in one of the slots and isn't x
abbrev pub united_but : List Slot → ℕ → ℕ → Bool
united_but slots x v = if v == x then false else united slots v
