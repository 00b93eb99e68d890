-- What an edit of a diagram is worth, in words.
use Rattle.std.specs.Prelude.{ℕ, ◌<◌, List, [], ◌++◌, All, codes, map}
use Rattle.maid_model.specs.Names.{NamesView, name_of}
use Rattle.maid_model.specs.Reports.{ratio_text, spaced}
use Rattle.optimum_gap.specs.declared.found.Found.{Found}
use Rattle.optimum_gap.specs.declared.found.Found.TheVariants as found

-- the value, or the first reason why none stands there
abbrev pub found_words : NamesView → Found → List ℕ
found_words names (found.Value r) = codes "value " ++ ratio_text r
found_words names found.Worthless = codes "worthless"
found_words names (found.Cycle list) = codes "cycle" ++ spaced (map (name_of names) list.items)
found_words names found.Bound = codes "bound"
found_words names found.TooLarge = codes "too large"

-- the nodes of the cycle that is told, where one is
abbrev pub cycle_told : Found → List ℕ
cycle_told (found.Cycle list) = list.items
cycle_told (found.Value r) = []
cycle_told found.Worthless = []
cycle_told found.Bound = []
cycle_told found.TooLarge = []

-- all of the list are among so many nodes, and have names
abbrev pub AreKnown : ℕ → List ℕ → Type 0
AreKnown count list = All (λ v. v < count) list
