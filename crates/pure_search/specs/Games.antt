-- Words of the search, for contracts between its functions alone.
use Rattle.std.specs.Prelude.{◌≡◌, ℕ, ◌+◌, ◌-◌, ◌*◌, ◌^◌, ◌<◌, ◌≤◌, List, [], ◌∷◌, ◌++◌, map, length, take, drop, Bool, true, false, ◌↔◌, None, slice_index, slice_index_or, ◌==◌, if◌then◌else◌, ℤ, pos, negsuc, ◌≤ℤ◌, All}
use Rattle.std.specs.Global.{Vec}
use Rattle.maid_model.specs.declared.answers.Row.{Row}
use Rattle.maid_model.specs.declared.limits.TheConstants.{MOST_PROFILES}
use Rattle.maid_model.specs.Views.{NodeView, DiagramView, AnswerView}
use Rattle.maid_model.specs.Nodes.{decisions_of, rows_of}
use Rattle.maid_model.specs.Gains.{gain_of}
use Rattle.maid_model.specs.Scopes.{KeepsScopedBounds, rules_in_scope_for, scope_for, scope_part_for}
use Rattle.maid_model.specs.Worlds.{worlds, worlds_from}
use Rattle.maid_model.specs.Parts.{part_diagram}
use Rattle.pure_search.specs.declared.games.Game.{Game}
use Rattle.pure_search.specs.declared.tables.Table.{Table}
use Rattle.reach_laws.specs.Equilibria.{AgreeForOthers, IsEquilibrium, choice_counts, choice_owners, profile_of}

-- how many choices each row has, decisions in text order
abbrev pub counts_for : List NodeView → List ℕ
counts_for nodes = choice_counts nodes (decisions_of nodes)

-- whose choice each of them is
abbrev pub owners_for : List NodeView → List ℕ
owners_for nodes = choice_owners nodes (decisions_of nodes)

-- all lists of choices
abbrev pub choice_lists : List NodeView → List (List ℕ)
choice_lists nodes = worlds (counts_for nodes)

-- how many there are
abbrev pub list_count : List NodeView → ℕ
list_count nodes = length (choice_lists nodes)

-- the list of choices stands in the list of all right before the other
abbrev pub StandsRightBefore : List ℕ → List ℕ → List ℕ → Type 0
StandsRightBefore counts choices next =
    worlds_from counts choices ≡ choices ∷ worlds_from counts next

-- the lists of choices from these on are all of them
abbrev pub AreFirstChoices : List ℕ → Vec ℕ → Type 0
AreFirstChoices counts choices = worlds_from counts choices.items ≡ worlds counts

-- these choices are those at a place of the lists
abbrev pub AreChoicesAt : List ℕ → ℕ → Vec ℕ → Type 0
AreChoicesAt counts place choices = choices.items ≡ slice_index_or (worlds counts) place []

-- the list of choices at a place of that list
abbrev pub choices_at : List NodeView → ℕ → List ℕ
choices_at nodes place = slice_index_or (choice_lists nodes) place []

-- a choice without a worth
abbrev pub unpriced : ℕ → Row
unpriced choice = record { choice = choice; worth = None }

-- the answers of a list of choices, which has the first decision's rows first
abbrev pub answers_of : List NodeView → List ℕ → List ℕ → List AnswerView
answers_of nodes [] choices = []
answers_of nodes (v ∷ vs) choices = record {
  decision = v;
  rows = map unpriced (take (rows_of nodes v) choices);
}
    ∷ answers_of nodes vs (drop (rows_of nodes v) choices)

-- these are the answers of the list of choices
abbrev pub AnswerChoices : List NodeView → List ℕ → List ℕ → Vec AnswerView → Type 0
AnswerChoices nodes vs choices answers = answers.items ≡ answers_of nodes vs choices

-- a choice, or the first one where it is the agent's own
abbrev pub unless_own : ℕ → ℕ → ℕ → ℕ
unless_own agent owner choice = if owner == agent then 0 else choice

-- the number whose digits are the others' choices, and 0 at the agent's own places; each digit
-- counts up to its count
abbrev pub key_from : ℕ → ℕ → List ℕ → List ℕ → List ℕ → ℕ
key_from agent key [] owners choices = key
key_from agent key (n ∷ counts) [] choices = key
key_from agent key (n ∷ counts) (owner ∷ owners) [] = key
key_from agent key (n ∷ counts) (owner ∷ owners) (choice ∷ choices) =
    key_from agent (key * n + unless_own agent owner choice) counts owners choices

-- the number of the others' choices in a list of choices: lists that agree for the others have one
-- number
abbrev pub key_of : List NodeView → ℕ → List ℕ → ℕ
key_of nodes agent choices = key_from agent 0 (counts_for nodes) (owners_for nodes) choices

-- the agent's gain in the part of its scope
abbrev pub part_gain : List NodeView → ℕ → List ℕ → ℤ
part_gain nodes agent choices = gain_of (scope_part_for nodes agent)
    (rules_in_scope_for nodes (profile_of nodes choices) agent) agent

-- the decisions, the choices of each of their rows, and their owners
pub record IsGame (nodes : List NodeView) (decisions counts owners : List ℕ) : Type 0 where
  pub decisions_are : decisions ≡ decisions_of nodes
  pub counts_are : counts ≡ counts_for nodes
  pub owners_are : owners ≡ owners_for nodes

-- the game that the code holds is that of the nodes
abbrev pub IsGameOf : List NodeView → Game → Type 0
IsGameOf nodes game = IsGame nodes game.decisions.items game.counts.items game.owners.items

-- for each list of choices the number of the others' choices, and the agent's gain
pub record IsGainTable
    (nodes : List NodeView) (agent : ℕ) (keys : List ℕ) (gains : List ℤ) : Type 0 where
  pub keys_are : keys ≡ map (key_of nodes agent) (choice_lists nodes)
  pub gains_are : gains ≡ map (part_gain nodes agent) (choice_lists nodes)
  pub within : All (λ key. key < length (choice_lists nodes)) keys

-- the table that the code holds is that
abbrev pub IsGainTableOf : List NodeView → ℕ → Table → Type 0
IsGainTableOf nodes agent table = IsGainTable nodes agent table.keys.items table.gains.items

-- the rows of those lists stand behind all that the table had
pub record AddsRows
    (nodes : List NodeView) (agent : ℕ) (lists : List (List ℕ)) (old new : Table) : Type 0 where
  pub keys_are : new.keys.items ≡ old.keys.items ++ map (key_of nodes agent) lists
  pub gains_are : new.gains.items ≡ old.gains.items ++ map (part_gain nodes agent) lists
  pub within : All (λ key. key < length (choice_lists nodes)) (map (key_of nodes agent) lists)

-- the row of one list of choices stands behind it
abbrev pub AddsRow : List NodeView → ℕ → List ℕ → Table → Table → Type 0
AddsRow nodes agent choices old new = AddsRows nodes agent (choices ∷ []) old new

-- the part of the agent's scope
abbrev pub part_of_agent : DiagramView → ℕ → DiagramView
part_of_agent d agent = part_diagram d (scope_for d.nodes agent)

-- a diagram within the limits of the search
pub record IsSearched (d : DiagramView) : Type 0 where
  pub bound : KeepsScopedBounds d
  pub few : length (choice_lists d.nodes) ≤ MOST_PROFILES

-- the list at one place gives the agent the greatest gain of all that agree with it on the others'
-- choices
abbrev pub IsBestFor : List NodeView → ℕ → ℕ → Type 0
IsBestFor nodes agent place = (j : ℕ) → j < length (choice_lists nodes)
    → AgreeForOthers nodes agent (choices_at nodes place) (choices_at nodes j)
    → part_gain nodes agent (choices_at nodes j) ≤ℤ part_gain nodes agent (choices_at nodes place)

-- the least whole number of 128 bits
abbrev pub least_signed : ℤ
least_signed = negsuc (2 ^ 127 - 1)

-- the entry is the greatest of those with its key
abbrev pub IsGreatest : List ℕ → List ℤ → ℕ → Type 0
IsGreatest keys gains k = (j : ℕ) → j < length gains → slice_index keys j ≡ slice_index keys k
    → slice_index_or gains j (pos 0) ≤ℤ slice_index_or gains k (pos 0)

-- for each key the greatest of the first n entries that have it, or the least number of 128 bits
-- where none has
pub record AreGreatest (keys : List ℕ) (gains : List ℤ) (n : ℕ) (best : List ℤ) : Type 0 where
  pub len : length best ≡ length gains
  pub upper : (j : ℕ) → j < n
      → slice_index_or gains j (pos 0) ≤ℤ slice_index_or best (slice_index keys j) (pos 0)
  pub least : (key : ℕ) (z : ℤ) → key < length gains → least_signed ≤ℤ z
      → ((j : ℕ) → j < n → slice_index keys j ≡ key → slice_index_or gains j (pos 0) ≤ℤ z)
      → slice_index_or best key (pos 0) ≤ℤ z

-- those marks stay whose entry is the greatest of its key
pub record KeepsGreatest (keys : List ℕ) (gains : List ℤ) (old new : List Bool) : Type 0 where
  pub len : length new ≡ length old
  pub each : (k : ℕ) → k < length old
      → (slice_index_or new k false ≡ true)
      ↔ ((slice_index_or old k false ≡ true) × IsGreatest keys gains k)

-- the marks of the lists that are best for each agent below a number
pub record MarksBest (nodes : List NodeView) (agents : ℕ) (marks : List Bool) : Type 0 where
  pub len : length marks ≡ length (choice_lists nodes)
  pub each : (k : ℕ) → k < length marks
      → (slice_index_or marks k false ≡ true)
      ↔ ((agent : ℕ) → agent < agents → IsBestFor nodes agent k)

-- the marks of the equilibria
pub record MarksStable (nodes : List NodeView) (marks : List Bool) : Type 0 where
  pub len : length marks ≡ length (choice_lists nodes)
  pub each : (k : ℕ) → k < length marks
      → (slice_index_or marks k false ≡ true)
      ↔ IsEquilibrium nodes (profile_of nodes (choices_at nodes k))

-- the first place with a mark
pub record IsFirstMark (marks : List Bool) (place : ℕ) : Type 0 where
  pub within : place < length marks
  pub marked : slice_index_or marks place false ≡ true
  pub before : (k : ℕ) → k < place → slice_index_or marks k false ≡ false

-- there is none
abbrev pub MarksNone : List Bool → Type 0
MarksNone marks = (k : ℕ) → k < length marks → slice_index_or marks k false ≡ false
