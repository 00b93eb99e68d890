-- What the small diagrams share: nodes, rules and rows, and the sums of a row.
use Rattle.std.specs.Prelude.{◌≡◌, ℕ, ℤ, List, [], ◌∷◌, pos, negsuc, Some, None}
use Rattle.maid_model.specs.declared.diagrams.Kind.TheVariants.{Chance, Decision, Utility}
use Rattle.maid_model.specs.declared.answers.Ratio.{Ratio}
use Rattle.maid_model.specs.declared.answers.Row.{Row}
use Rattle.maid_model.specs.Views.{NodeView, RuleView}
use Rattle.maid_model.specs.Profiles.{uniform_profile}
use Rattle.maid_model.specs.Gains.{gain_of, mass, gain_at, mass_at}

-- a decision of two states, of the agent, that sees the parents
abbrev pub decision : ℕ → List ℕ → NodeView
decision owner parents =
    record { kind = Decision; owner = owner; more = []; states = 2; parents = parents; cells = [] }

-- what the agent gets for the parents' states
abbrev pub pay : ℕ → List ℕ → List ℤ → NodeView
pay owner parents cells = record {
  kind = Utility;
  owner = owner;
  more = [];
  states = 1;
  parents = parents;
  cells = cells;
}

-- node 0, of agent 0: to ask much or little
abbrev pub leader : NodeView
leader = decision 0 []

-- what node 0 chose, copied without fail
abbrev pub copy : NodeView
copy = record {
  kind = Chance;
  owner = 0;
  more = [];
  states = 2;
  parents = 0 ∷ [];
  cells = pos 1 ∷ pos 0 ∷ pos 0 ∷ pos 1 ∷ [];
}

-- of agent 1: to take or to leave, seeing the parents
abbrev pub follower : List ℕ → NodeView
follower parents = decision 1 parents

-- agent 0, over its choice and the follower's: much is worth 5 taken and -1 left, little 3 and 0
abbrev pub leader_pay : ℕ → NodeView
leader_pay follower = pay 0 (0 ∷ follower ∷ []) (pos 5 ∷ negsuc 0 ∷ pos 3 ∷ pos 0 ∷ [])

-- agent 1, over what is asked and the follower's choice: much is worth -2 taken and 1 left, little
-- 5 and 0
abbrev pub follower_pay : ℕ → ℕ → NodeView
follower_pay asked follower = pay 1 (asked ∷ follower ∷ []) (negsuc 1 ∷ pos 1 ∷ pos 5 ∷ pos 0 ∷ [])

-- a rule whose rows come to the total
abbrev pub rule : ℕ → ℕ → List ℕ → RuleView
rule decision total weights = record { decision = decision; total = total; weights = weights }

-- a whole number as a fraction
abbrev pub whole : ℤ → Ratio
whole n = record { num = n; den = 1 }

-- a row that takes the state, worth a whole number
abbrev pub reached : ℕ → ℕ → Row
reached choice worth = record { choice = choice; worth = Some (whole (pos worth)) }

-- a row that takes the state and is marked as never reached
abbrev pub never : ℕ → Row
never choice = record { choice = choice; worth = None }

-- against the profile, what the first and the second state of d gain in the row, and the row's mass
pub record HasRowSums
    (nodes : List NodeView) (p : List RuleView) (d row : ℕ) (first second mass : ℤ) : Type 0 where
  pub of_first : gain_at nodes p d 0 row ≡ first
  pub of_second : gain_at nodes p d 1 row ≡ second
  pub of_row : mass_at nodes p d row ≡ mass

-- what the profile gives to the leader and to the follower, and its mass
pub record HasTwoGains
    (nodes : List NodeView) (p : List RuleView) (leader follower : ℤ) (product : ℕ) : Type 0 where
  pub to_leader : gain_of nodes p 0 ≡ leader
  pub to_follower : gain_of nodes p 1 ≡ follower
  pub of_profile : mass nodes p ≡ product

-- the leader asks little, the follower leaves much and takes little
abbrev pub plan : ℕ → List RuleView
plan follower = rule 0 1 (0 ∷ 1 ∷ []) ∷ rule follower 1 (0 ∷ 1 ∷ 1 ∷ 0 ∷ []) ∷ []

-- The sums of a leader and a follower who sees what is asked. Four worlds: much taken, much left,
-- little taken, little left. With uniform rules each has weight 1, and the mass is 2 * 2. leader: 5
-- - 1 + 3 + 0 = 7; follower: -2 + 1 + 5 + 0 = 4 Under the plan little taken has weight 1, the other
-- worlds 0, and the mass is 1 * 1. leader: 3; follower: 5 At the follower in a row one world is
-- left for each state: its value is the state's gain, and the leader's weight the mass. much: take
-- -2, leave 1; little: take 5, leave 0; mass 1 in both with uniform rules, 0 and 1 under the plan
-- At the leader two worlds are left for each state, each with the follower's weight. uniform: much
-- 5 - 1 = 4, little 3 + 0 = 3, mass 1 + 1; under the plan: much -1, little 3, mass 0 + 1
pub record HasSums (nodes : List NodeView) (follower : ℕ) : Type 0 where
  pub uniform : HasTwoGains nodes (uniform_profile nodes) (pos 7) (pos 4) 4
  pub planned : HasTwoGains nodes (plan follower) (pos 3) (pos 5) 1
  pub much : HasRowSums nodes (uniform_profile nodes) follower 0 (negsuc 1) (pos 1) (pos 1)
  pub little : HasRowSums nodes (uniform_profile nodes) follower 1 (pos 5) (pos 0) (pos 1)
  pub much_in_plan : HasRowSums nodes (plan follower) follower 0 (pos 0) (pos 0) (pos 0)
  pub little_in_plan : HasRowSums nodes (plan follower) follower 1 (pos 5) (pos 0) (pos 1)
  pub asked : HasRowSums nodes (uniform_profile nodes) 0 0 (pos 4) (pos 3) (pos 2)
  pub asked_in_plan : HasRowSums nodes (plan follower) 0 0 (negsuc 0) (pos 3) (pos 1)
