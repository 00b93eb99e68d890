-- The text of a diagram: a line for each node block, and then a line for each potential, both in
-- the order of the nodes.
use Rattle.std.specs.Prelude.{ℕ, zero, suc, ◌-◌, ◌/◌, ◌%◌, ◌^◌, ◌==◌, ℤ, pos, negsuc, unsigned_abs, List, [], ◌∷◌, ◌++◌, length, map, replicate, codes, decimal, if◌then◌else◌}
use Rattle.std.specs.List.{flat_map}
use Rattle.maid_model.specs.declared.diagrams.Kind.{Kind}
use Rattle.maid_model.specs.declared.diagrams.Kind.TheVariants.{Chance, Decision, Utility}
use Rattle.maid_model.specs.Names.{NamesView, name_of, labels_of, agent_name}
use Rattle.maid_model.specs.Nodes.{node_at, owners_of, rows_of, numbers_of, states_of}
use Rattle.maid_model.specs.Reports.{line, quoted, spaced}
use Rattle.maid_model.specs.Views.{NodeView, DiagramView}
use Rattle.net_build.specs.Plain.{reduced_rows}

-- the text of each, parted by one space
abbrev pub parted : {A : Type 0} → (A → List ℕ) → List A → List ℕ
parted text [] = []
parted text (x ∷ xs) = text x ++ flat_map (λ y. 32 ∷ text y) xs

-- the word that begins a node's block
abbrev pub kind_word : Kind → List ℕ
kind_word Chance = codes "node"
kind_word Decision = codes "decision"
kind_word Utility = codes "utility"

-- the states of a chance node or a decision: their labels in a list behind `states`
abbrev pub states_text : List (List ℕ) → List ℕ
states_text labels = codes "states = (" ++ parted quoted labels ++ codes "); "

-- an owner behind `agent`
abbrev pub agent_text : List ℕ → List ℕ
agent_text agent = codes "agent = " ++ quoted agent ++ codes "; "

-- one owner stands behind `agent`, several in a list behind `agents`
abbrev pub owners_text : List (List ℕ) → List ℕ
owners_text [] = codes "agents = (" ++ codes "); "
owners_text (agent ∷ []) = agent_text agent
owners_text (agent ∷ other ∷ more) =
    codes "agents = (" ++ parted quoted (agent ∷ other ∷ more) ++ codes "); "

-- a chance node and a decision have states, and a decision and a utility have owners
abbrev pub attributes_text : Kind → List (List ℕ) → List (List ℕ) → List ℕ
attributes_text Chance labels owners = states_text labels
attributes_text Decision labels owners = states_text labels ++ owners_text owners
attributes_text Utility labels owners = owners_text owners

-- what stands behind a head: attributes in braces
abbrev pub body_text : List ℕ → List ℕ
body_text attributes = codes " { " ++ attributes ++ codes "}"

-- the names of a node's owners, in written order
abbrev pub owner_names : List NodeView → NamesView → ℕ → List (List ℕ)
owner_names nodes names v = map (agent_name names) (owners_of nodes v)

-- the attributes in the block of the node v
abbrev pub attributes_of : List NodeView → NamesView → ℕ → List ℕ
attributes_of nodes names v =
    attributes_text (node_at nodes v).kind (labels_of names v) (owner_names nodes names v)

-- a node's block
abbrev pub node_line : List NodeView → NamesView → ℕ → List ℕ
node_line nodes names v = line (kind_word (node_at nodes v).kind ++ 32 ∷ name_of names v
    ++ body_text (attributes_of nodes names v))

-- the node blocks, a line each
abbrev pub nodes_text : List NodeView → NamesView → List ℕ
nodes_text nodes names = flat_map (node_line nodes names) (numbers_of nodes)

-- the names of the parents behind a bar; without parents there is no bar
abbrev pub parents_text : NamesView → List ℕ → List ℕ
parents_text names [] = []
parents_text names (u ∷ us) = codes " |" ++ spaced (map (name_of names) (u ∷ us))

-- the digits of a number with noughts before them, so many in all
abbrev pub padded : ℕ → ℕ → List ℕ
padded width number = replicate (width - length (decimal number)) 48 ++ decimal number

-- size / 10^k with the least number of decimals: while there are decimals, a nought at the end is
-- dropped
abbrev pub size_text : ℕ → ℕ → List ℕ
size_text zero size = decimal size
size_text (suc k) size = if size % 10 == 0
    then size_text k (size / 10)
    else decimal (size / 10 ^ suc k) ++ 46 ∷ padded (suc k) (size % 10 ^ suc k)

-- a minus where the number is below nought
abbrev pub sign_text : ℤ → List ℕ
sign_text (pos n) = []
sign_text (negsuc n) = 45 ∷ []

-- the decimal cell / 10^k
abbrev pub value_text : ℕ → ℤ → List ℕ
value_text k cell = sign_text cell ++ size_text k (unsigned_abs cell)

-- the reduced rows of a chance node
abbrev pub reduced_rows_of : List NodeView → ℕ → List ℕ
reduced_rows_of nodes v = reduced_rows (states_of nodes v) (rows_of nodes v) (node_at nodes v).cells

-- a chance node's reduced rows, and a utility's values
abbrev pub numbers_text : Kind → ℕ → ℕ → ℕ → List ℤ → List ℕ
numbers_text Chance decimals states rows cells = parted decimal (reduced_rows states rows cells)
numbers_text Decision decimals states rows cells = []
numbers_text Utility decimals states rows cells = parted (value_text decimals) cells

-- the numbers of the node v
abbrev pub numbers_text_of : DiagramView → ℕ → List ℕ
numbers_text_of d v = numbers_text (node_at d.nodes v).kind d.decimals (states_of d.nodes v)
    (rows_of d.nodes v) (node_at d.nodes v).cells

-- the numbers of a chance node or a utility; a decision has no table
abbrev pub table_text : Kind → ℕ → ℕ → ℕ → List ℤ → List ℕ
table_text Chance decimals states rows cells =
    codes "data = (" ++ numbers_text Chance decimals states rows cells ++ codes "); "
table_text Decision decimals states rows cells = []
table_text Utility decimals states rows cells =
    codes "data = (" ++ numbers_text Utility decimals states rows cells ++ codes "); "

-- the table of the node v
abbrev pub table_text_of : DiagramView → ℕ → List ℕ
table_text_of d v = table_text (node_at d.nodes v).kind d.decimals (states_of d.nodes v)
    (rows_of d.nodes v) (node_at d.nodes v).cells

-- a potential's head
abbrev pub head_text : NamesView → ℕ → List ℕ → List ℕ
head_text names v parents =
    codes "potential (" ++ name_of names v ++ parents_text names parents ++ codes ")"

-- a node's potential
abbrev pub potential_line : DiagramView → NamesView → ℕ → List ℕ
potential_line d names v =
    line (head_text names v (node_at d.nodes v).parents ++ body_text (table_text_of d v))

-- the potentials, a line each
abbrev pub potentials_text : DiagramView → NamesView → List ℕ
potentials_text d names = flat_map (potential_line d names) (numbers_of d.nodes)

-- the text of a diagram
unfoldable pub printed : DiagramView → NamesView → List ℕ
printed d names = nodes_text d.nodes names ++ potentials_text d names
