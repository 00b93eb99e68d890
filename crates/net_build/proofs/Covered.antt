-- A text's tree has a fault or none: it can be told of each row of the table whether it applies,
-- the graph has a cycle or none, and the utilities have a scale.
use Rattle.std.proofs.Common.{◌≡◌, ◌⊎◌, ◌<◌, ◌≤◌, ◌+◌, ◌-◌, ◌*◌, ◌^◌, ℕ, zero, suc, ℤ, pos, ◌*ℤ◌, Bool, true, false, cond, inl, inr, List, [], ◌∷◌, length, map, All, Option, None, Some, refl, sym, subst, arith}
use Rattle.std.specs.Prelude.{slice_index, nat_abs, unsigned_abs}
use Rattle.std.specs.Int.{◌∣◌}
use Rattle.std.proofs.Math.Decide.{ℕ_discrete, dec_dvd, dec_le, dec_lt, map_dec}
use Rattle.std.proofs.Math.IntN.{ℤ_discrete}
use Rattle.std.proofs.Math.Nat.{dvd-mul_left}
use Rattle.std.proofs.lemmas.Int.{ints}
use Rattle.std.proofs.lemmas.Bool.{cases_lt}
use Rattle.std.proofs.lemmas.List.{length-map}
use Rattle.std.proofs.lemmas.List.Elements.{All-nil, All-cons}
use Rattle.std.proofs.lemmas.Nat.{pow-add}
use Rattle.diagram_graph.specs.Cycles.{ListedArc, IsParentCycle}
use Rattle.maid_model.specs.Graph.{IsAcyclic}
use Rattle.diagram_graph.specs.Laws.{CycleOrNone}
use Rattle.first_fault.specs.Passes.{rule, only, ◌▸◌, each}
use Rattle.first_fault.specs.Properties.{IsCovered}
use Rattle.first_fault.proofs.Kept.{IsWhole, covered_whole, clear_whole, rule_whole, only_whole, then_whole, behind_whole, each_whole, each_after_whole, over_whole}
use Rattle.maid_model.specs.Nodes.{is_chance}
use Rattle.maid_model.specs.declared.diagrams.Kind.{Kind}
use Rattle.maid_model.specs.declared.diagrams.Kind.TheVariants.{Chance, Decision, Utility}
use Rattle.maid_model.specs.Placing.{IsLeast}
use Rattle.net_lexer.specs.Token.{token_bytes}
use Rattle.net_lexer.specs.declared.tokens.Token.{Token}
use Rattle.net_parser.specs.Owned.{leaves}
use Rattle.net_parser.specs.Trees.{AttributeTree, BlockTree}
use Rattle.weight_scale.specs.Laws.{DecimalOrNone, ScaledOrTooWide}
use Rattle.weight_scale.specs.Numeral.{numerator, denominator, is_minus, exponent_of, exponent_size, decimal_digits}
use Rattle.net_build.specs.Passes.{found, GraphCycle, WideWeight, ZeroRow}
use Rattle.net_build.specs.Scaling.{IsWholeBy}
use Rattle.net_build.specs.Blocks.{node_blocks, block_name, block_parents, parent_lists, potential_list}
use Rattle.net_build.specs.Linking.{condition_steps, behind_rows, missing_at, size_steps_at}
use Rattle.net_build.specs.Stages.{head_of, heads_of, head_at, link_lists}
use Rattle.net_build.specs.declared.nodes.Head.{Head}
use Rattle.net_build.specs.Table.{repeated_row, repeats, label_row, label_rows, states_rows, repeated_agent_row, agent_rows, sight_row, name_rows, owner_rows, node_rows, node_pass, potential_pass, missing_pass, graph_pass, size_pass, number_row, length_row, sign_row, total_row, rows_by, IsWideTotal, number_rows, weight_part, data_parts, draft_part, node_part, node_part_at, table_pass, utility_numbers, IsUtilityScale, wide_row, wide_pass, all_passes}
use Rattle.net_build.proofs.FitLemmas.{known_arcs}
use Rattle.net_build.proofs.LinksMade.{parents_fit}
use Rattle.net_build.proofs.PlainTables.{whole_part}
use Rattle.net_build.proofs.ScaledOrWide.{decimals_exist, dec_too_long, dec_negative, dec_wide}
use Rattle.net_build.proofs.ScaleLemmas.{one_more, sizes, tens_split, whole_by}
use Rattle.net_build.proofs.WholeRows.{stable}
use Rattle.net_build.proofs.Telling.{dec_false, dec_utility, dec_some, dec_none, dec_not, dec_both, dec_all, dec_contains}

-- The rows of the table, in its order.
repeats_whole : (text : List ℕ) (block : BlockTree) → IsWhole (repeats text block)
unfolding repeats
repeats_whole text block = each_after_whole {P = repeated_row text} (λ earlier a. rule_whole _ _ (dec_contains _ _)) [] _

label_rows_whole : (text : List ℕ) (states : AttributeTree) → IsWhole (label_rows text states)
unfolding label_rows
label_rows_whole text states = then_whole (rule_whole _ _ (dec_false _)) (then_whole (rule_whole _ _ (dec_lt _ _)) (each_whole {P = label_row text} (λ label. rule_whole _ _ (dec_false _)) _))

states_rows_whole : (text : List ℕ) (block : BlockTree) (attributes : List AttributeTree) → IsWhole (states_rows text block attributes)
unfolding states_rows
states_rows_whole text block [] = rule_whole _ _ (yes tt)
states_rows_whole text block (states ∷ more) = label_rows_whole text states

agent_rows_whole : (text : List ℕ) (attributes : List AttributeTree) → IsWhole (agent_rows text attributes)
unfolding agent_rows
agent_rows_whole text [] = clear_whole
agent_rows_whole text (agents ∷ more) = then_whole (rule_whole _ _ (dec_false _)) (each_after_whole {P = repeated_agent_row text} (λ earlier agent. rule_whole _ _ (dec_contains _ _)) [] _)

name_rows_whole : (text : List ℕ) (names : List (List ℕ)) (block : BlockTree) → IsWhole (name_rows text names block)
unfolding name_rows
name_rows_whole text names block = then_whole (rule_whole _ _ (dec_le _ _)) (then_whole (rule_whole _ _ (dec_lt _ _)) (rule_whole _ _ (dec_contains _ _)))

owner_rows_whole : (text : List ℕ) (agents : List (List ℕ)) (block : BlockTree) → IsWhole (owner_rows text agents block)
unfolding owner_rows
owner_rows_whole text agents block = then_whole (agent_rows_whole text _) (each_after_whole {P = sight_row agents _} (λ earlier agent. rule_whole _ _ (dec_both (dec_le _ _) (dec_not (dec_contains _ _)))) [] _)

node_rows_whole : (text : List ℕ) (names agents : List (List ℕ)) (block : BlockTree) → IsWhole (node_rows text names agents block)
unfolding node_rows
node_rows_whole text names agents block =
    then_whole (name_rows_whole text names block) (then_whole (repeats_whole text block)
    (then_whole (only_whole _ (states_rows_whole text block _)) (only_whole _ (owner_rows_whole text agents block))))

node_pass_whole : (text : List ℕ) (blocks : List BlockTree) → IsWhole (node_pass text blocks)
unfolding node_pass
node_pass_whole text blocks = each_after_whole (λ earlier b. node_rows_whole text _ _ b) [] (node_blocks blocks)

condition_steps_whole : (text : List ℕ) (names : List (List ℕ)) (heads : List Head) (earlier : List Token) (name : Token) → IsWhole (condition_steps text names heads earlier name)
condition_steps_whole text names heads earlier name = then_whole (rule_whole _ _ (dec_not (dec_contains _ _))) (then_whole (rule_whole _ _ (dec_contains _ _)) (rule_whole _ _ (dec_utility _)))

behind_rows_whole : (text : List ℕ) (names : List (List ℕ)) (heads : List Head) (earlier : List BlockTree) (potential : BlockTree) → IsWhole (behind_rows text names heads earlier potential)
behind_rows_whole text names heads earlier potential =
    then_whole (rule_whole _ _ (dec_not (dec_contains _ _))) (then_whole (rule_whole _ _ (dec_some _)) (then_whole (each_after_whole (condition_steps_whole text names heads) [] _) (rule_whole _ _ (dec_lt _ _))))

potential_pass_whole : (text : List ℕ) (blocks : List BlockTree) → IsWhole (potential_pass text blocks)
unfolding potential_pass
potential_pass_whole text blocks = each_after_whole (behind_rows_whole text _ _) [] _

missing_pass_whole : (text : List ℕ) (blocks : List BlockTree) → IsWhole (missing_pass text blocks)
unfolding missing_pass
missing_pass_whole text blocks = each_whole {P = missing_at (heads_of text (node_blocks blocks)) (potential_list text blocks)} (λ v. only_whole _ (rule_whole _ _ (dec_none _))) _

size_pass_whole : (text : List ℕ) (blocks : List BlockTree) → IsWhole (size_pass text blocks)
unfolding size_pass
size_pass_whole text blocks = each_whole {P = size_steps_at (heads_of text (node_blocks blocks)) (parent_lists text blocks)} (λ v. then_whole (rule_whole _ _ (dec_lt _ _)) (only_whole _ (rule_whole _ _ (dec_lt _ _)))) _

total_row_whole : (text : List ℕ) (numbers : List Token) → IsWhole (total_row text numbers)
total_row_whole text [] = clear_whole
total_row_whole text (number ∷ numbers) = rule_whole _ (found number.start ZeroRow) (dec_all (λ t. numerator (token_bytes text t) ≡ pos 0) (λ t. ℤ_discrete _ _) (number ∷ numbers))

-- the numbers of a table, as many as it has cells
module _ (decides : DecimalOrNone) (scales : ScaledOrTooWide) (text : List ℕ) where
  length_row_whole : (number : Token) → IsWhole (length_row text number)
  length_row_whole number = rule_whole _ _ (dec_too_long decides (token_bytes text number))

  weight_part_whole : (states rows at : ℕ) (numbers : List Token) → length numbers ≡ rows * states → each (length_row text) numbers None → IsWhole (weight_part text states rows at numbers)
  weight_part_whole states rows at numbers count short =
      let signs = each (sign_row text) numbers in
      let totals = each (total_row text) (rows_by states numbers rows) in
      let wide = rule (IsWideTotal text states numbers) (found at WideWeight) in
      behind_whole signs (totals ▸ wide) (each_whole {P = sign_row text} (λ number. rule_whole _ _ (dec_negative _)) _)
      (λ no_sign. behind_whole totals wide (each_whole {P = total_row text} (total_row_whole text) _)
      (λ no_total. let ds = decimals_exist decides text numbers short in rule_whole _ _ (dec_wide scales text states rows numbers ds.0 count ds.1 no_sign no_total)))

  data_parts_whole : (kind : Kind) (rows states : ℕ) (potential : BlockTree) (tables : List AttributeTree) → IsWhole (data_parts text kind rows states potential tables)
  data_parts_whole kind rows states potential [] = rule_whole _ _ (yes tt)
  data_parts_whole kind rows states potential (table ∷ more) =
      behind_whole (number_rows text (rows * states) table) (only (is_chance kind) (weight_part text states rows table.name.start (leaves table.value)))
      (then_whole (each_whole {P = number_row} (λ leaf. rule_whole _ _ (dec_false _)) _) (then_whole (rule_whole _ _ (dec_not (ℕ_discrete _ _))) (each_whole {P = length_row text} length_row_whole _)))
      (λ clear. only_whole _ (weight_part_whole states rows table.name.start (leaves table.value) (stable _ _ clear.1.0) clear.1.1))

  draft_part_whole : (kind : Kind) (rows states : ℕ) (potential : Option BlockTree) → IsWhole (draft_part text kind rows states potential)
  draft_part_whole kind rows states None = clear_whole
  draft_part_whole kind rows states (Some potential) = then_whole (repeats_whole text potential) (data_parts_whole kind rows states potential _)

  node_part_whole : (kind : Kind) (rows states : ℕ) (potential : Option BlockTree) → IsWhole (node_part text kind rows states potential)
  node_part_whole Chance rows states potential = draft_part_whole Chance rows states potential
  node_part_whole Decision rows states potential = clear_whole
  node_part_whole Utility rows states potential = draft_part_whole Utility rows states potential

  table_pass_whole : (blocks : List BlockTree) → IsWhole (table_pass text blocks)
  unfolding table_pass
  table_pass_whole blocks = each_whole {P = node_part_at text (heads_of text (node_blocks blocks)) (link_lists text blocks)} (λ v. node_part_whole _ _ _ _) _

-- the parents are nodes
known : (text : List ℕ) (blocks : List BlockTree) → potential_pass text blocks None → (u v : ℕ) → ListedArc (parent_lists text blocks) u v → u < length (parent_lists text blocks)
known text blocks none u v arc =
    let nodes = node_blocks blocks in
    let heads = length-map nodes (head_of text nodes) in
    let lists = length-map nodes (λ b. block_parents text blocks (block_name text b)) in
    omega (arith, known_arcs (map (head_of text nodes) nodes) (parent_lists text blocks) (parents_fit text blocks none) u v arc, heads, lists)

graph_pass_covered : CycleOrNone → (text : List ℕ) (blocks : List BlockTree) → potential_pass text blocks None → IsCovered (graph_pass text blocks)
unfolding graph_pass
graph_pass_covered cycle_or_none text blocks nothing = by_cycle (cycle_or_none (parent_lists text blocks) (known text blocks nothing)) where
  by_cycle : IsAcyclic (ListedArc (parent_lists text blocks)) ⊎ ((cycle : List ℕ) × IsParentCycle (parent_lists text blocks) cycle) → IsCovered (graph_pass text blocks)
  by_cycle (inl acyclic) = inl acyclic
  by_cycle (inr is) = inr (found (head_at (heads_of text (node_blocks blocks)) (slice_index is.0 0)).at (GraphCycle is.0), (is.0, is.1, refl))

-- A numeral's value times a great power of ten is whole, so that the utilities have a scale.
below_is_tens : (down : Bool) (a e : ℕ) → (s : ℕ) × (10 ^ a * cond down (10 ^ e) 1 ≡ 10 ^ s)
below_is_tens true a e = (a + e, sym (pow-add 10 a e))
below_is_tens false a e = (a, omega arith)

whole_from : (num : ℤ) (den s : ℕ) → den ≡ 10 ^ s → (k : ℕ) → s ≤ k → (num *ℤ pos (10 ^ (k - s))) *ℤ pos den ≡ (num *ℤ pos (10 ^ k)) *ℤ pos 1
whole_from num den s e k l = rw (e, tens_split s k l) (whole_by num num (10 ^ (k - s)) (10 ^ s) (10 ^ s) refl)

numeral_whole : (numeral : List ℕ) → (s : ℕ) × ((k : ℕ) → s ≤ k → IsWholeBy k numeral)
numeral_whole numeral =
    let tens = below_is_tens (is_minus (exponent_of numeral)) (length (decimal_digits numeral)) (exponent_size (exponent_of numeral)) in
    (tens.0, λ k l. (numerator numeral *ℤ pos (10 ^ (k - tens.0)), whole_from (numerator numeral) (denominator numeral) tens.0 tens.1 k l))

all_whole : (text : List ℕ) (tokens : List Token) → (s : ℕ) × ((k : ℕ) → s ≤ k → All (λ t. IsWholeBy k (token_bytes text t)) tokens)
all_whole text [] = (0, λ k l. All-nil (λ t. IsWholeBy k (token_bytes text t)))
all_whole text (token ∷ tokens) =
    let here = numeral_whole (token_bytes text token) in
    let rest = all_whole text tokens in
    (here.0 + rest.0, λ k l. All-cons (λ t. IsWholeBy k (token_bytes text t)) token tokens (here.1 k (omega arith)) (rest.1 k (omega arith)))

-- whether it is whole times a power of ten can be told
dec_whole : (k : ℕ) (numeral : List ℕ) → Dec (IsWholeBy k numeral)
dec_whole k numeral = map_dec made told (dec_dvd (denominator numeral) (nat_abs (numerator numeral) * 10 ^ k)) where
  times_one : (y num : ℤ) (p den : ℕ) → y *ℤ pos den ≡ num *ℤ pos p → y *ℤ pos den ≡ (num *ℤ pos p) *ℤ pos 1
  times_one y num p den e = omega (arith, ints, e)

  made : denominator numeral ∣ nat_abs (numerator numeral) * 10 ^ k → IsWholeBy k numeral
  made d = let part = whole_part (numerator numeral) (denominator numeral) (10 ^ k) d in (part.0, times_one part.0 (numerator numeral) (10 ^ k) (denominator numeral) part.1)

  told : IsWholeBy k numeral → denominator numeral ∣ nat_abs (numerator numeral) * 10 ^ k
  told (x, is) = subst (λ n. denominator numeral ∣ n) (sizes x (numerator numeral) (10 ^ k) (denominator numeral) (one_more x (numerator numeral) (10 ^ k) (denominator numeral) is)) (dvd-mul_left (denominator numeral) (unsigned_abs x))

-- the least number of which that holds, or that it holds of none below
least_or_none : (P : ℕ → Type 0) → ((k : ℕ) → Dec (P k)) → (n : ℕ) → ((k : ℕ) × IsLeast P k) ⊎ ((k : ℕ) → k < n → P k → ⊥)
least_or_none P decide zero = inr (λ k l. absurd (omega arith))
least_or_none P decide (suc n) = go (least_or_none P decide n) (decide n) where
  go : ((k : ℕ) × IsLeast P k) ⊎ ((k : ℕ) → k < n → P k → ⊥) → Dec (P n) → ((k : ℕ) × IsLeast P k) ⊎ ((k : ℕ) → k < suc n → P k → ⊥)
  go (inl least) d = inl least
  go (inr none) (yes p) = inl (n, (p, none))
  go (inr none) (no q) = inr (λ k l p. elim (cases_lt k n) as (λ _. ⊥) [ inl a ↦ none k a p | inr b ↦ let e : k ≡ n = omega arith in q (subst P e p) ])

pub scale_exists : (text : List ℕ) (blocks : List BlockTree) → (scale : ℕ) × IsUtilityScale text blocks scale
scale_exists text blocks = go (least_or_none (λ k. All (λ t. IsWholeBy k (token_bytes text t)) (utility_numbers text blocks)) (λ k. dec_all (λ t. IsWholeBy k (token_bytes text t)) (λ t. dec_whole k (token_bytes text t)) (utility_numbers text blocks)) (suc some.0)) where
  some : (s : ℕ) × ((k : ℕ) → s ≤ k → All (λ t. IsWholeBy k (token_bytes text t)) (utility_numbers text blocks))
  some = all_whole text (utility_numbers text blocks)

  go : ((scale : ℕ) × IsUtilityScale text blocks scale) ⊎ ((k : ℕ) → k < suc some.0 → All (λ t. IsWholeBy k (token_bytes text t)) (utility_numbers text blocks) → ⊥) → (scale : ℕ) × IsUtilityScale text blocks scale
  go (inl least) = least
  go (inr none) = absurd (none some.0 (omega arith) (some.1 some.0 (omega arith)))

wide_pass_whole : (text : List ℕ) (blocks : List BlockTree) → IsWhole (wide_pass text blocks)
unfolding wide_pass
wide_pass_whole text blocks =
    let scale = scale_exists text blocks in
    over_whole (IsUtilityScale text blocks) (λ n. each (wide_row text n) (utility_numbers text blocks)) scale.0 scale.1 (each_whole {P = wide_row text scale.0} (λ number. rule_whole _ _ (dec_lt _ _)) _)

pub passes_whole : CycleOrNone → DecimalOrNone → ScaledOrTooWide → (text : List ℕ) (blocks : List BlockTree) → IsWhole (all_passes text blocks)
unfolding all_passes
passes_whole cycle_or_none decides scales text blocks =
    then_whole (node_pass_whole text blocks)
    (behind_whole (potential_pass text blocks) (missing_pass text blocks ▸ graph_pass text blocks ▸ size_pass text blocks ▸ table_pass text blocks ▸ wide_pass text blocks) (potential_pass_whole text blocks)
    (λ nothing. then_whole (missing_pass_whole text blocks) (then_whole (covered_whole {P = graph_pass text blocks} (graph_pass_covered cycle_or_none text blocks nothing))
    (then_whole (size_pass_whole text blocks) (then_whole (table_pass_whole decides scales text blocks) (wide_pass_whole text blocks))))))
