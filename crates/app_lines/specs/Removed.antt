-- The lines of arcs that were removed, as comments of a text.
use Rattle.std.specs.Prelude.{ℕ, ◌<◌, List, ◌++◌, All, codes, length}
use Rattle.std.specs.List.{flat_map}
use Rattle.maid_model.specs.Names.{NamesView, name_of}
use Rattle.maid_model.specs.Reports.{line}

-- both ends of each arc have names
abbrev pub AreNamed : NamesView → List (ℕ × ℕ) → Type 0
AreNamed names removed =
    All (λ arc. (arc.0 < length names.nodes) × (arc.1 < length names.nodes)) removed

-- from which node to which the arc led, behind a percent sign
abbrev pub removed_line : NamesView → ℕ × ℕ → List ℕ
removed_line names arc =
    line (codes "% removed " ++ name_of names arc.0 ++ codes " -> " ++ name_of names arc.1)

-- a line for each arc, in order of removal
abbrev pub removed_lines : NamesView → List (ℕ × ℕ) → List ℕ
removed_lines names removed = flat_map (removed_line names) removed
