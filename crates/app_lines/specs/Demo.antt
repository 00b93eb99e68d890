-- The text of the generated diagram of k stages.
use Rattle.std.specs.Prelude.{ℕ, ◌-◌, ◌==◌, List, ◌++◌, codes, decimal, if◌then◌else◌}
use Rattle.std.specs.List.{flat_map, range_with_len}

-- the node block of a stage's state
abbrev pub state_block : ℕ → List ℕ
state_block i = codes "node X" ++ decimal i ++ codes " { states = (\"s1\" \"s2\"); }\n"

-- the node block of its decision, which stays or flips
abbrev pub choice_block : ℕ → List ℕ
choice_block i = codes "decision D" ++ decimal i
    ++ codes " { states = (\"stay\" \"flip\"); agent = \"agent\"; }\n"

-- the node block of its utility
abbrev pub worth_block : ℕ → List ℕ
worth_block i = codes "utility U" ++ decimal i ++ codes " { agent = \"agent\"; }\n"

-- a stage's three node blocks
abbrev pub stage_blocks : ℕ → List ℕ
stage_blocks i = state_block i ++ choice_block i ++ worth_block i

-- a later state comes of the state and the decision before it: to stay keeps it, and to flip makes
-- s1 and s2 equally likely
abbrev pub later_potential : ℕ → List ℕ
later_potential i = codes "potential (X" ++ decimal i ++ codes " | X" ++ decimal (i - 1)
    ++ codes " D" ++ decimal (i - 1) ++ codes ") { data = (1 0 1 1 0 1 1 1); }\n"

-- the first state is s1 or s2, each as likely as the other
abbrev pub state_potential : ℕ → List ℕ
state_potential i = if i == 0 then codes "potential (X0) { data = (1 1); }\n" else later_potential i

-- a decision sees its stage's state
abbrev pub choice_potential : ℕ → List ℕ
choice_potential i =
    codes "potential (D" ++ decimal i ++ codes " | X" ++ decimal i ++ codes ") { }\n"

-- a stage is worth 1 in s1, and nothing in s2
abbrev pub worth_potential : ℕ → List ℕ
worth_potential i =
    codes "potential (U" ++ decimal i ++ codes " | X" ++ decimal i ++ codes ") { data = (1 0); }\n"

-- a stage's three potentials
abbrev pub stage_potentials : ℕ → List ℕ
stage_potentials i = state_potential i ++ choice_potential i ++ worth_potential i

-- the node blocks of so many stages
abbrev pub blocks_of : ℕ → List ℕ
blocks_of k = flat_map stage_blocks (range_with_len 0 k)

-- the potentials of so many stages
abbrev pub potentials_of : ℕ → List ℕ
potentials_of k = flat_map stage_potentials (range_with_len 0 k)

-- all node blocks, stage by stage, and then all potentials
abbrev pub demo_text : ℕ → List ℕ
demo_text k = blocks_of k ++ potentials_of k
