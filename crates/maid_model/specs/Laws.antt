-- Laws over the definitions alone. Each is the contract of a public function without parameters.
use Rattle.std.specs.Prelude.{◌≡◌, ◌≢◌, ◌↔◌, ℕ, ◌<◌, true, List, ◌++◌, map, length, take, slice_index, Contains, AllPairs}
use Rattle.std.specs.List.{list_all}
use Rattle.maid_model.specs.Views.{NodeView, RuleView, DiagramView}
use Rattle.maid_model.specs.Nodes.{IsDecision, decisions_of}
use Rattle.maid_model.specs.Graph.{Arc, Descends, IsGraph, AllDifferent, descends}
use Rattle.maid_model.specs.Profiles.{IsRule, IsProfile, HasRule}
use Rattle.maid_model.specs.Diagrams.{IsDiagram}
use Rattle.maid_model.specs.Tested.{all_true, diagram_tests, rule_tests, rule_at}
use Rattle.maid_model.specs.Worlds.{IsWorld, worlds, worlds_from}

-- the test of descent says where a path leads
abbrev pub TestsDescent : Type 0
TestsDescent =
    (nodes : List NodeView) (u v : ℕ) → (descends nodes u v ≡ true) ↔ Descends (Arc nodes) u v

-- a list of all nodes, each once, in which each stands after its parents
pub record IsParentsFirst (nodes : List NodeView) (order : List ℕ) : Type 0 where
  pub all : (v : ℕ) → v < length nodes → Contains order v
  pub within : (v : ℕ) → Contains order v → v < length nodes
  pub once : AllDifferent order
  pub parents_first :
      (i u : ℕ) → i < length order → Arc nodes u (slice_index order i) → Contains (take i order) u

-- every graph has such a list
abbrev pub GraphsHaveOrders : Type 0
GraphsHaveOrders =
    (nodes : List NodeView) → IsGraph nodes → (order : List ℕ) × IsParentsFirst nodes order

-- the list of all worlds has each world once
pub record ListsWorlds : Type 0 where
  pub all : (counts xs : List ℕ) → IsWorld counts xs ↔ Contains (worlds counts) xs
  pub once : (counts : List ℕ) → AllPairs (λ xs ys. xs ≢ ys) (worlds counts)

-- the worlds from xs on are the end of the list of all worlds
abbrev pub EndsWithWorldsFrom : Type 0
EndsWithWorldsFrom = (counts xs : List ℕ) → IsWorld counts xs
    → (front : List (List ℕ)) × (worlds counts ≡ front ++ worlds_from counts xs)

-- a profile has a rule for each decision
abbrev pub HasRules : Type 0
HasRules = (nodes : List NodeView) (p : List RuleView) (v : ℕ) → IsProfile nodes p
    → IsDecision nodes v → HasRule p v

-- what passes the tests of a diagram is one
abbrev pub TestsDiagrams : Type 0
TestsDiagrams = (d : DiagramView) → all_true (diagram_tests d) ≡ true → IsDiagram d

-- what passes the tests of a rule is one
abbrev pub TestsRules : Type 0
TestsRules =
    (nodes : List NodeView) (r : RuleView) → all_true (rule_tests nodes r) ≡ true → IsRule nodes r

-- rules of all decisions in text order, which pass, are a profile
abbrev pub TestsProfiles : Type 0
TestsProfiles = (nodes : List NodeView) (p : List RuleView)
    → map (λ r. r.decision) p ≡ decisions_of nodes
    → list_all (λ v. all_true (rule_tests nodes (rule_at p v))) (decisions_of nodes) ≡ true
    → IsProfile nodes p
