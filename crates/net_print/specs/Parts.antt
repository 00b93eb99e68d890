-- What private functions say of their part of a text.
use Rattle.std.specs.Prelude.{ℕ, zero, suc, ◌+◌, List, [], ◌∷◌, ◌++◌, codes}
use Rattle.std.specs.List.{flat_map}
use Rattle.maid_model.specs.Names.{NamesView, agent_name}
use Rattle.maid_model.specs.Reports.{quoted}

-- one space behind another piece, and nothing before the first
abbrev pub gap : ℕ → List ℕ
gap zero = []
gap (suc n) = 32 ∷ []

-- the text of each, with its gap, behind so many others
abbrev pub parted_behind : {A : Type 0} → (A → List ℕ) → ℕ → List A → List ℕ
parted_behind text before [] = []
parted_behind text before (x ∷ xs) = gap before ++ text x ++ parted_behind text (before + 1) xs

-- each agent, behind a space
abbrev pub more_agents_text : NamesView → List ℕ → List ℕ
more_agents_text names agents = flat_map (λ a. 32 ∷ quoted (agent_name names a)) agents

-- an agent and others in a list
abbrev pub agents_text : NamesView → List ℕ → List ℕ → List ℕ
agents_text names first others =
    codes "agents = (" ++ (quoted first ++ more_agents_text names others) ++ codes "); "
