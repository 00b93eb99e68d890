-- The texts of a node's owners, parents, head and rows, which private functions append.
use Rattle.std.specs.Prelude.{ℕ, ℤ, List, decimal, map, unsigned_abs}
use Rattle.maid_model.specs.Names.{NamesView}
use Rattle.maid_model.specs.Nodes.{parents_of}
use Rattle.maid_model.specs.Views.{NodeView}
use Rattle.net_build.specs.Plain.{reduced_row}
use Rattle.net_print.specs.Parts.{parted_behind}
use Rattle.net_print.specs.Printed.{parents_text, head_text, owner_names, owners_text, parted, reduced_rows_of}

-- the owners of the node v
abbrev pub owners_text_of : List NodeView → NamesView → ℕ → List ℕ
owners_text_of nodes names v = owners_text (owner_names nodes names v)

-- the names of its parents behind a bar
abbrev pub given_text_of : List NodeView → NamesView → ℕ → List ℕ
given_text_of nodes names v = parents_text names (parents_of nodes v)

-- its potential's head
abbrev pub head_text_of : List NodeView → NamesView → ℕ → List ℕ
head_text_of nodes names v = head_text names v (parents_of nodes v)

-- a row's weights over their greatest common divisor, each with its gap, behind so many others
abbrev pub row_text_behind : ℕ → List ℤ → List ℕ
row_text_behind before row = parted_behind decimal before (reduced_row (map unsigned_abs row))

-- a chance node's reduced rows, one after the other
abbrev pub rows_text_of : List NodeView → ℕ → List ℕ
rows_text_of nodes v = parted decimal (reduced_rows_of nodes v)
