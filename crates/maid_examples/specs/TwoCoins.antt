-- Two coins, a node that shows whether they fell alike, and a guess at the second coin.
use Rattle.std.specs.Prelude.{◌≡◌, ℕ, List, [], ◌∷◌, pos}
use Rattle.maid_model.specs.declared.diagrams.Kind.TheVariants.{Chance}
use Rattle.maid_model.specs.declared.answers.Ratio.{Ratio}
use Rattle.maid_model.specs.Views.{NodeView, DiagramView}
use Rattle.maid_model.specs.Diagrams.{IsDiagram}
use Rattle.maid_model.specs.Graph.{Arc}
use Rattle.maid_model.specs.Walks.{IsActive}
use Rattle.maid_model.specs.Relevance.{IsLive, IsRequisite}
use Rattle.maid_model.specs.Edits.{without_arc}
use Rattle.maid_model.specs.Trimming.{IsFirstToRemove, IsTrimmed}
use Rattle.maid_model.specs.Values.{IsOptimum, IsValueOfSeen, IsValueOfUnseen}
use Rattle.maid_examples.specs.Samples.{decision, pay, whole}

-- nodes 0 and 1: a coin whose two sides are as likely
abbrev pub coin : NodeView
coin = record {
  kind = Chance;
  owner = 0;
  more = [];
  states = 2;
  parents = [];
  cells = pos 1 ∷ pos 1 ∷ [];
}

-- node 2: the first state where the coins are alike, the second where not
abbrev pub alike : NodeView
alike = record {
  kind = Chance;
  owner = 0;
  more = [];
  states = 2;
  parents = 0 ∷ 1 ∷ [];
  cells = pos 1 ∷ pos 0 ∷ pos 0 ∷ pos 1 ∷ pos 0 ∷ pos 1 ∷ pos 1 ∷ pos 0 ∷ [];
}

-- node 4: a right guess at coin 1 is worth 1
abbrev pub right : NodeView
right = pay 0 (1 ∷ 3 ∷ []) (pos 1 ∷ pos 0 ∷ pos 0 ∷ pos 1 ∷ [])

-- node 3 guesses the side of coin 1 and sees these nodes
abbrev pub guessing : List ℕ → List NodeView
guessing seen = coin ∷ coin ∷ alike ∷ decision 0 seen ∷ right ∷ []

-- the guess sees coin 0 and whether the coins are alike
abbrev pub told : List NodeView
told = guessing (0 ∷ 2 ∷ [])

-- the guess sees coin 0 alone
abbrev pub untold : List NodeView
untold = guessing (0 ∷ [])

-- the guess that is told both, with one agent: every parent is requisite
abbrev pub told_diagram : DiagramView
told_diagram = record { nodes = told; agents = 1; decimals = 0 }

-- the guess that is told the coin alone, with one agent: an arc to be trimmed
abbrev pub untold_diagram : DiagramView
untold_diagram = record { nodes = untold; agents = 1; decimals = 0 }

-- both are diagrams
pub record AreSound : Type 0 where
  pub with_news : IsDiagram told_diagram
  pub without : IsDiagram untold_diagram

-- an active walk where exactly these nodes are given
abbrev pub IsActiveIn : List NodeView → (ℕ → Type 0) → List ℕ → Type 0
IsActiveIn nodes Given walk = IsActive (Arc nodes) (IsLive nodes) Given walk

-- From coin to coin a walk leads through the node that both have arrows to, if that node is given;
-- given nothing it is blocked there. From that node to the pay a walk leads through coin 1, if that
-- coin isn't given.
pub record HasWalks : Type 0 where
  pub opened : IsActiveIn told (λ v. v ≡ 2) (0 ∷ 2 ∷ 1 ∷ [])
  pub blocked : IsActiveIn told (λ v. ⊥) (0 ∷ 2 ∷ 1 ∷ []) → ⊥
  pub passed : IsActiveIn told (λ v. ⊥) (2 ∷ 1 ∷ 4 ∷ [])
  pub stopped : IsActiveIn told (λ v. v ≡ 1) (2 ∷ 1 ∷ 4 ∷ []) → ⊥

-- Seen together, coin 0 and whether the coins are alike tell coin 1, so both are requisite and no
-- arc is trimmed. Coin 0 alone tells nothing of coin 1: its arc is not requisite, is the first to
-- go, and no other is left.
pub record HasRequisites : Type 0 where
  pub coin_matters : IsRequisite told 3 0
  pub alike_matters : IsRequisite told 3 2
  pub nothing_trimmed : IsTrimmed told [] told
  pub coin_alone : IsRequisite untold 3 0 → ⊥
  pub first_to_go : IsFirstToRemove untold 0 3
  pub trimmed : IsTrimmed untold ((0, 3) ∷ []) (without_arc untold 0 3)

-- the fraction 1/2
abbrev pub half : Ratio
half = record { num = pos 1; den = 2 }

-- Told both, the guess is always right: the optimum is 1. Told one of them or nothing it is right
-- half of the time, whatever the rules: the optimum is 1/2. So coin 0 is worth 1/2 beside the news
-- whether the coins are alike, and nothing alone; and so is the news worth 1/2 beside coin 0.
pub record HasCoinValues : Type 0 where
  pub told_optimum : IsOptimum told 0 0 (whole (pos 1))
  pub untold_optimum : IsOptimum untold 0 0 half
  pub coin_beside_news : IsValueOfSeen told 0 [] 0 0 3 half
  pub coin_alone : IsValueOfSeen untold 0 [] 0 0 3 (whole (pos 0))
  pub news : IsValueOfUnseen untold 0 [] 0 2 3 half
  pub no_other : (r : Ratio) → IsValueOfSeen told 0 [] 0 0 3 r → r ≡ half
