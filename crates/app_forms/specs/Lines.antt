-- The lines of `err`.
use Rattle.std.specs.Prelude.{ℕ, List, ◌∷◌, ◌++◌, Option, None, Some, codes, decimal}
use Rattle.maid_model.specs.Names.{NamesView, name_of}
use Rattle.maid_model.specs.Reports.{line, names_line}
use Rattle.app_lines.specs.Places.{line_at, column_at}

-- what is told of words that are of no form: all forms
abbrev pub usage_line : List ℕ
usage_line = line (codes
    "usage: maidsolve solve F | check F R | graph F | print F | trim F | info F A | control F A | demo K | pure F | update F | given F X S | threshold F X ROW STATE")

-- there is no file of that name
abbrev pub absent_line : List ℕ → List ℕ
absent_line name = line (codes "absent: " ++ name)

-- reading the file failed
abbrev pub read_fault_line : List ℕ → List ℕ
read_fault_line name = line (codes "read fault: " ++ name)

-- the file passes its limit
abbrev pub too_long_line : List ℕ → List ℕ
too_long_line name = line (codes "text too long: " ++ name)

-- the file, the line and the column of the place, and what is wrong there
abbrev pub fault_line : List ℕ → List ℕ → ℕ → List ℕ → List ℕ
fault_line name text at words = line (name ++ 58 ∷ decimal (line_at text at) ++ 58
    ∷ decimal (column_at text at) ++ 58 ∷ 32 ∷ words)

-- writing failed
abbrev pub write_fault_line : List ℕ
write_fault_line = line (codes "write fault")

-- memory ran out
abbrev pub no_memory_line : List ℕ
no_memory_line = line (codes "no memory")

-- an agent that no node has
abbrev pub unknown_agent_line : List ℕ → List ℕ
unknown_agent_line agent = line (codes "unknown agent: " ++ agent)

-- a name that no chance node has
abbrev pub unknown_node_line : List ℕ → List ℕ
unknown_node_line node = line (codes "unknown chance node: " ++ node)

-- a label that none of the node's states has
abbrev pub unknown_state_line : List ℕ → List ℕ
unknown_state_line state = line (codes "unknown state: " ++ state)

-- evidence that descends from a decision
abbrev pub below_decision_line : List ℕ → List ℕ
below_decision_line node = line (codes "below a decision: " ++ node)

-- too large rules, where every decision sees the evidence
abbrev pub rules_line : List ℕ
rules_line = line (codes "too large: rules")

-- evidence without weight
abbrev pub impossible_line : List ℕ → List ℕ → List ℕ
impossible_line node state = line (codes "impossible: " ++ node ++ 32 ∷ state)

-- a row that a table has not
abbrev pub unknown_row_line : ℕ → List ℕ
unknown_row_line row = line (codes "unknown row: " ++ decimal row)

-- a node whose row gives no other state any weight
abbrev pub no_other_state_line : List ℕ → List ℕ
no_other_state_line node = line (codes "no other state: " ++ node)

-- the relevance cycle, each decision relying on the next
abbrev pub cycle_line : NamesView → List ℕ → List ℕ
cycle_line names cycle = names_line (codes "relevance cycle:") names cycle

-- the node at which the weight bound is passed, or that the utilities pass it
abbrev pub bound_line : NamesView → Option ℕ → List ℕ
bound_line names (Some v) = line (codes "weight bound: node " ++ name_of names v)
bound_line names None = line (codes "weight bound: utilities")

-- the most cells of a plan of the run, and the work of all its plans
abbrev pub too_large_line : ℕ → ℕ → List ℕ
too_large_line cells work =
    line (codes "too large: cells " ++ decimal cells ++ codes " work " ++ decimal work)

-- the pure profiles and the worlds of a diagram whose equilibria are not looked for
abbrev pub profiles_line : ℕ → ℕ → List ℕ
profiles_line profiles leaves =
    line (codes "too large: profiles " ++ decimal profiles ++ codes " leaves " ++ decimal leaves)

-- how many pure profiles are no equilibrium
abbrev pub no_equilibrium_line : ℕ → List ℕ
no_equilibrium_line profiles =
    line (codes "no pure equilibrium: " ++ decimal profiles ++ codes " profiles")

-- two decisions have different owners
abbrev pub not_one_agent_line : List ℕ
not_one_agent_line = line (codes "not one agent")

-- how many rounds of updating all raised
abbrev pub rounds_line : ℕ → List ℕ
rounds_line rounds = line (codes "rounds spent: " ++ decimal rounds)

-- how many leaves a diagram has whose report is not looked at
abbrev pub leaves_line : ℕ → List ℕ
leaves_line leaves = line (codes "too large: leaves " ++ decimal leaves)

-- the file of a report, and the first of its lines with which no report begins
abbrev pub bad_line_line : List ℕ → ℕ → List ℕ
bad_line_line name at = line (name ++ 58 ∷ decimal at ++ codes ": bad line")
