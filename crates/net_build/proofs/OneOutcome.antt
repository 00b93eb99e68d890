-- A pass finds nothing or a fault, never both, and one fault at most: each row does, and so do rows
-- in turn.
use Rattle.std.proofs.Common.{◌≡◌, ℕ, inl, inr, List, [], ◌∷◌, Option, None, Some, sym, ◌∙◌, ap, arith}
use Rattle.std.specs.Prelude.{slice_index, All}
use Rattle.std.proofs.lemmas.Bool.{cases_lt}
use Rattle.diagram_graph.specs.Laws.{CycleLeadsBack, OneCycle}
use Rattle.maid_model.specs.declared.diagrams.Kind.{Kind}
use Rattle.maid_model.specs.declared.diagrams.Kind.TheVariants.{Chance, Decision, Utility}
use Rattle.maid_model.specs.Placing.{IsLeast}
use Rattle.net_lexer.specs.Token.{token_bytes}
use Rattle.net_lexer.specs.declared.tokens.Token.{Token}
use Rattle.net_parser.specs.Trees.{AttributeTree, BlockTree}
use Rattle.first_fault.specs.Passes.{each}
use Rattle.first_fault.proofs.Kept.{IsOne, clear_one, rule_one, only_one, then_one, each_one, each_after_one, over_one}
use Rattle.net_build.specs.Passes.{found, GraphCycle}
use Rattle.net_build.specs.Blocks.{node_blocks, parent_lists, potential_list}
use Rattle.net_build.specs.Linking.{condition_steps, behind_rows, missing_at, size_steps_at}
use Rattle.net_build.specs.Stages.{heads_of, head_at, link_lists}
use Rattle.net_build.specs.declared.nodes.Head.{Head}
use Rattle.net_build.specs.Scaling.{IsWholeBy}
use Rattle.net_build.specs.Table.{repeated_row, repeats, label_row, label_rows, states_rows, repeated_agent_row, agent_rows, sight_row, name_rows, owner_rows, node_rows, node_pass, potential_pass, missing_pass, graph_pass, size_pass, number_row, length_row, sign_row, total_row, data_parts, draft_part, node_part, node_part_at, table_pass, utility_numbers, IsUtilityScale, wide_row, wide_pass, all_passes}

pub least_once : (P : ℕ → Type 0) (v w : ℕ) → IsLeast P v → IsLeast P w → v ≡ w
least_once P v w h k = elim (cases_lt v w) as (λ _. v ≡ w) [
  | inl l ↦ absurd (k.1 v l h.0)
  | inr g ↦ elim (cases_lt w v) as (λ _. v ≡ w) [ inl l ↦ absurd (h.1 w l k.0) | inr m ↦ omega arith ]
]

pub scale_once : (text : List ℕ) (blocks : List BlockTree) (k l : ℕ) → IsUtilityScale text blocks k → IsUtilityScale text blocks l → k ≡ l
scale_once text blocks k l = least_once (λ k. All (λ t. IsWholeBy k (token_bytes text t)) (utility_numbers text blocks)) k l

-- The rows of the table, in its order.
repeats_one : (text : List ℕ) (block : BlockTree) → IsOne (repeats text block)
unfolding repeats
repeats_one text block = each_after_one {P = repeated_row text} (λ earlier a. rule_one _ _) [] _

label_rows_one : (text : List ℕ) (states : AttributeTree) → IsOne (label_rows text states)
unfolding label_rows
label_rows_one text states = then_one (rule_one _ _) (then_one (rule_one _ _) (each_one {P = label_row text} (λ label. rule_one _ _) _))

states_rows_one : (text : List ℕ) (block : BlockTree) (attributes : List AttributeTree) → IsOne (states_rows text block attributes)
unfolding states_rows
states_rows_one text block [] = rule_one _ _
states_rows_one text block (states ∷ more) = label_rows_one text states

agent_rows_one : (text : List ℕ) (attributes : List AttributeTree) → IsOne (agent_rows text attributes)
unfolding agent_rows
agent_rows_one text [] = clear_one
agent_rows_one text (agents ∷ more) = then_one (rule_one _ _) (each_after_one {P = repeated_agent_row text} (λ earlier agent. rule_one _ _) [] _)

name_rows_one : (text : List ℕ) (names : List (List ℕ)) (block : BlockTree) → IsOne (name_rows text names block)
unfolding name_rows
name_rows_one text names block = then_one (rule_one _ _) (then_one (rule_one _ _) (rule_one _ _))

owner_rows_one : (text : List ℕ) (agents : List (List ℕ)) (block : BlockTree) → IsOne (owner_rows text agents block)
unfolding owner_rows
owner_rows_one text agents block = then_one (agent_rows_one text _) (each_after_one {P = sight_row agents _} (λ earlier agent. rule_one _ _) [] _)

node_rows_one : (text : List ℕ) (names agents : List (List ℕ)) (block : BlockTree) → IsOne (node_rows text names agents block)
unfolding node_rows
node_rows_one text names agents block =
    then_one (name_rows_one text names block) (then_one (repeats_one text block) (then_one (only_one _ (states_rows_one text block _)) (only_one _ (owner_rows_one text agents block))))

node_pass_one : (text : List ℕ) (blocks : List BlockTree) → IsOne (node_pass text blocks)
unfolding node_pass
node_pass_one text blocks = each_after_one (λ earlier b. node_rows_one text _ _ b) [] (node_blocks blocks)

condition_steps_one : (text : List ℕ) (names : List (List ℕ)) (heads : List Head) (earlier : List Token) (name : Token) → IsOne (condition_steps text names heads earlier name)
condition_steps_one text names heads earlier name = then_one (rule_one _ _) (then_one (rule_one _ _) (rule_one _ _))

behind_rows_one : (text : List ℕ) (names : List (List ℕ)) (heads : List Head) (earlier : List BlockTree) (potential : BlockTree) → IsOne (behind_rows text names heads earlier potential)
behind_rows_one text names heads earlier potential =
    then_one (rule_one _ _) (then_one (rule_one _ _) (then_one (each_after_one (condition_steps_one text names heads) [] _) (rule_one _ _)))

potential_pass_one : (text : List ℕ) (blocks : List BlockTree) → IsOne (potential_pass text blocks)
unfolding potential_pass
potential_pass_one text blocks = each_after_one (behind_rows_one text _ _) [] _

missing_pass_one : (text : List ℕ) (blocks : List BlockTree) → IsOne (missing_pass text blocks)
unfolding missing_pass
missing_pass_one text blocks = each_one {P = missing_at (heads_of text (node_blocks blocks)) (potential_list text blocks)} (λ v. only_one _ (rule_one _ _)) _

graph_pass_one : CycleLeadsBack → OneCycle → (text : List ℕ) (blocks : List BlockTree) → IsOne (graph_pass text blocks)
unfolding graph_pass
graph_pass_one leads_back one_cycle text blocks = record {
  exclusive = λ f none some. leads_back (parent_lists text blocks) some.0 some.1 none;
  one = λ f g h k. h.2 ∙ ap (λ (cycle : List ℕ). found (head_at (heads_of text (node_blocks blocks)) (slice_index cycle 0)).at (GraphCycle cycle)) (one_cycle (parent_lists text blocks) h.0 k.0 h.1 k.1) ∙ sym k.2;
}

size_pass_one : (text : List ℕ) (blocks : List BlockTree) → IsOne (size_pass text blocks)
unfolding size_pass
size_pass_one text blocks = each_one {P = size_steps_at (heads_of text (node_blocks blocks)) (parent_lists text blocks)} (λ v. then_one (rule_one _ _) (only_one _ (rule_one _ _))) _

total_row_one : (text : List ℕ) (numbers : List Token) → IsOne (total_row text numbers)
total_row_one text [] = clear_one
total_row_one text (number ∷ numbers) = rule_one _ _

data_parts_one : (text : List ℕ) (kind : Kind) (rows states : ℕ) (potential : BlockTree) (tables : List AttributeTree) → IsOne (data_parts text kind rows states potential tables)
data_parts_one text kind rows states potential [] = rule_one _ _
data_parts_one text kind rows states potential (table ∷ more) =
    then_one (then_one (each_one {P = number_row} (λ leaf. rule_one _ _) _) (then_one (rule_one _ _) (each_one {P = length_row text} (λ number. rule_one _ _) _)))
    (only_one _ (then_one (each_one {P = sign_row text} (λ number. rule_one _ _) _) (then_one (each_one (total_row_one text) _) (rule_one _ _))))

draft_part_one : (text : List ℕ) (kind : Kind) (rows states : ℕ) (potential : Option BlockTree) → IsOne (draft_part text kind rows states potential)
draft_part_one text kind rows states None = clear_one
draft_part_one text kind rows states (Some potential) = then_one (repeats_one text potential) (data_parts_one text kind rows states potential _)

node_part_one : (text : List ℕ) (kind : Kind) (rows states : ℕ) (potential : Option BlockTree) → IsOne (node_part text kind rows states potential)
node_part_one text Chance rows states potential = draft_part_one text Chance rows states potential
node_part_one text Decision rows states potential = clear_one
node_part_one text Utility rows states potential = draft_part_one text Utility rows states potential

table_pass_one : (text : List ℕ) (blocks : List BlockTree) → IsOne (table_pass text blocks)
unfolding table_pass
table_pass_one text blocks = each_one {P = node_part_at text (heads_of text (node_blocks blocks)) (link_lists text blocks)} (λ v. node_part_one text _ _ _ _) _

wide_pass_one : (text : List ℕ) (blocks : List BlockTree) → IsOne (wide_pass text blocks)
unfolding wide_pass
wide_pass_one text blocks =
    over_one (IsUtilityScale text blocks) (λ scale. each (wide_row text scale) (utility_numbers text blocks)) (scale_once text blocks)
    (λ scale is. each_one {P = wide_row text scale} (λ number. rule_one _ _) (utility_numbers text blocks))

pub all_one : CycleLeadsBack → OneCycle → (text : List ℕ) (blocks : List BlockTree) → IsOne (all_passes text blocks)
unfolding all_passes
all_one leads_back one_cycle text blocks =
    then_one (node_pass_one text blocks) (then_one (potential_pass_one text blocks) (then_one (missing_pass_one text blocks) (then_one (graph_pass_one leads_back one_cycle text blocks)
    (then_one (size_pass_one text blocks) (then_one (table_pass_one text blocks) (wide_pass_one text blocks))))))
