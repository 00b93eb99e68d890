-- The diagram in which other agents' decisions take the answered choices is one.
use Rattle.std.proofs.Common.{◌≡◌, ◌≢◌, ◌⊎◌, ◌∙◌, ℕ, zero, suc, ◌+◌, ◌*◌, ◌<◌, ◌≤◌, cond, eqb, Bool, true, false, List, [], ◌∷◌, ◌++◌, map, flat_map, length, get_or, refl, sym, ap, subst, inl, inr, pos, ◌+ℤ◌, nat_abs, arith, slice_index_or, All}
use Rattle.std.specs.List.{range_with_len}
use Rattle.std.specs.Prelude.{Contains}
use Rattle.std.proofs.lemmas.Int.{ints}
use Rattle.std.proofs.lemmas.List.{get_or_past}
use Rattle.std.proofs.lemmas.List.FromFn.{map-range_with_len_more}
use Rattle.std.proofs.lemmas.List.Elements.{All-map, All-append, All-nil}
use Rattle.std.proofs.Math.Path.{fun_ext}
use Rattle.std.proofs.lemmas.Bool.Decides.{nat_tests}
use Rattle.std.proofs.Math.Decide.{ℕ_discrete, dec_lt}
use Rattle.arc_laws.proofs.Alone.{LeavesTo, leaves, states_at, parents_at}
use Rattle.finite_sums.specs.Sums.{sum_below, nat_sum_over}
use Rattle.maid_model.specs.declared.answers.Row.{Row}
use Rattle.maid_model.specs.declared.diagrams.Kind.{Kind}
use Rattle.maid_model.specs.declared.diagrams.Kind.TheVariants.{Chance, Decision, Utility}
use Rattle.maid_model.specs.declared.limits.TheConstants.{MOST_STATES, MOST_PARENTS, MOST_CELLS}
use Rattle.maid_model.specs.Answers.{rows_at}
use Rattle.maid_model.specs.Diagrams.{IsDiagram, HasOwners, HasValues, KeepsLimits, greatest_number}
use Rattle.maid_model.specs.Edits.{as_chance, fixed_by, one_agent}
use Rattle.maid_model.specs.Graph.{IsGraph, AllDifferent}
use Rattle.maid_model.specs.Nodes.{agent_of, is_decision, node_at, states_of, parents_of, owners_of, Owns, numbers_of, rows_of, rows_under}
use Rattle.maid_model.specs.Profiles.{pure_row}
use Rattle.maid_model.specs.Tables.{HasChanceTables, chance_total}
use Rattle.maid_model.specs.Views.{NodeView, AnswerView}
use Rattle.diagram_graph.specs.Edited.{IsOthersDecision}
use Rattle.diagram_graph.specs.Room.{cells_at, rule_cells, rule_cells_at}
use Rattle.diagram_graph.proofs.Filters.{sum_over_le}
use Rattle.diagram_graph.proofs.RuleCells.{rules_summed}

-- one node more
pub fixed_more : (nodes : List NodeView) (agent : ℕ) (answers : List AnswerView) (n : ℕ) (made : List NodeView) (node : NodeView)
    → made ≡ map (λ v. fixed_by (node_at nodes v).kind nodes agent answers v) (range_with_len 0 n) → node ≡ fixed_by (node_at nodes n).kind nodes agent answers n
    → made ++ node ∷ [] ≡ map (λ v. fixed_by (node_at nodes v).kind nodes agent answers v) (range_with_len 0 (n + 1))
fixed_more nodes agent answers n made node e f = (λ i. e i ++ f i ∷ []) ∙ sym (map-range_with_len_more (λ v. fixed_by (node_at nodes v).kind nodes agent answers v) 0 n n (omega arith))

-- another agent's decision takes its choices, and any other node stays
pub others_fixed : (nodes : List NodeView) (agent : ℕ) (answers : List AnswerView) (v : ℕ) → IsOthersDecision nodes agent v → fixed_by (node_at nodes v).kind nodes agent answers v ≡ as_chance nodes answers v
others_fixed nodes agent answers v others =
    ap (λ k. fixed_by k nodes agent answers v) others.0.kind
    ∙ ap (λ b. cond b (node_at nodes v) (as_chance nodes answers v)) (differ (agent_of nodes v) agent others.1)
  where
    differ : (a b : ℕ) → a ≢ b → eqb a b ≡ false
    differ a b n = grind (arith, nat_tests)

pub own_fixed : (nodes : List NodeView) (agent : ℕ) (answers : List AnswerView) (v : ℕ) → v < length nodes → (IsOthersDecision nodes agent v → ⊥) → fixed_by (node_at nodes v).kind nodes agent answers v ≡ node_at nodes v
own_fixed nodes agent answers v within own = go (node_at nodes v).kind (λ e n. own (record { within = within; kind = e }, n)) (ℕ_discrete (agent_of nodes v) agent)
  where
    same : (a b : ℕ) → a ≡ b → eqb a b ≡ true
    same a b e = grind (arith, nat_tests)

    go : (k : Kind) → (k ≡ Decision → agent_of nodes v ≢ agent → ⊥) → Dec (agent_of nodes v ≡ agent) → fixed_by k nodes agent answers v ≡ node_at nodes v
    go Chance none d = refl
    go Utility none d = refl
    go Decision none (yes e) = ap (λ b. cond b (node_at nodes v) (as_chance nodes answers v)) (same (agent_of nodes v) agent e)
    go Decision none (no n) = absurd (none refl n)

-- ---- weights of 0 and 1
few_weights : (n : ℕ) (choices : List ℕ) → All (λ w. w ≤ 1) (flat_map (pure_row n) choices)
few_weights n [] = All-nil (λ w. w ≤ 1)
few_weights n (c ∷ choices) = All-append (λ w. w ≤ 1) (pure_row n c) (flat_map (pure_row n) choices) (All-map (λ w. w ≤ 1) (λ s. cond (eqb s c) 1 0) (range_with_len 0 n) (λ i d l. one (eqb (get_or (range_with_len 0 n) i d) c))) (few_weights n choices)
  where
    one : (b : Bool) → cond b 1 0 ≤ 1
    one true = omega arith
    one false = omega arith

-- the first n of them add up to n at most
small_sum : (ws : List ℕ) → All (λ w. w ≤ 1) ws → (n : ℕ) → (k : ℕ) × (k ≤ n) × (sum_below n (λ s. slice_index_or (map pos ws) s (pos 0)) ≡ pos k)
small_sum ws all zero = (0, omega arith, refl)
small_sum ws all (suc n) =
    let r = small_sum ws all n in
    let w = get_or ws n 0 in
    let l : w ≤ 1 = weight n (dec_lt n (length ws)) in
    let e = pos_at ws n in (r.0 + w, (let m = r.1 in omega arith), (λ i. r.2 i +ℤ e i) ∙ together r.0 w)
  where
    weight : (i : ℕ) → Dec (i < length ws) → get_or ws i 0 ≤ 1
    weight i (yes l) = all i 0 l
    weight i (no n) = let e = get_or_past ws i 0 (omega arith) in omega arith

    pos_at : (xs : List ℕ) (i : ℕ) → slice_index_or (map pos xs) i (pos 0) ≡ pos (get_or xs i 0)
    pos_at [] i = refl
    pos_at (x ∷ xs) zero = refl
    pos_at (x ∷ xs) (suc i) = pos_at xs i

    together : (a b : ℕ) → pos a +ℤ pos b ≡ pos (a + b)
    together a b = omega (arith, ints)

not_decision : Chance ≡ Decision → ⊥
not_decision e = cc

not_utility : Chance ≡ Utility → ⊥
not_utility e = cc

utility_decision : Utility ≡ Decision → ⊥
utility_decision e = cc

module _ (nodes : List NodeView) (agent : ℕ) (answers : List AnswerView) where
  abbrev others : List NodeView
  others = one_agent nodes agent answers

  r : LeavesTo nodes others agent answers
  r = leaves nodes agent answers

  -- the node stays, or is another agent's decision
  abbrev Which : ℕ → Type 0
  Which v = (node_at others v ≡ node_at nodes v) ⊎ (node_at others v ≡ as_chance nodes answers v)

  which : (v : ℕ) → Which v
  which v = go (node_at nodes v).kind refl (ℕ_discrete (agent_of nodes v) agent)
    where
      go : (k : Kind) → (node_at nodes v).kind ≡ k → Dec (agent_of nodes v ≡ agent) → (node_at others v ≡ node_at nodes v) ⊎ (node_at others v ≡ as_chance nodes answers v)
      go Chance e d = inl (r.own v (λ f. absurd (not_decision (sym e ∙ f))))
      go Decision e (yes o) = inl (r.own v (λ f. o))
      go Decision e (no n) = inr (r.fixed v e n)
      go Utility e d = inl (r.own v (λ f. absurd (utility_decision (sym e ∙ f))))

  same_states : (v : ℕ) → states_of others v ≡ states_of nodes v
  same_states = states_at nodes others agent answers r

  same_parents : (v : ℕ) → parents_of others v ≡ parents_of nodes v
  same_parents = parents_at nodes others agent answers r

  rows_same : (v : ℕ) → rows_of others v ≡ rows_of nodes v
  rows_same v = λ i. rows_under (fun_ext same_states i) (same_parents v i)

  cells_same : (v : ℕ) → cells_at others v ≡ cells_at nodes v
  cells_same v = λ i. rows_same v i * same_states v i

  -- the rules have no more cells
  rule_le : (v : ℕ) → rule_cells_at others v ≤ rule_cells_at nodes v
  rule_le v = go (which v)
    where
      go : Which v → rule_cells_at others v ≤ rule_cells_at nodes v
      go (inl e) = let f : rule_cells_at others v ≡ rule_cells_at nodes v = (λ i. cond (is_decision (e i).kind) (cells_same v i) 0) in omega arith
      go (inr e) = let f : rule_cells_at others v ≡ 0 = ap (λ (n : NodeView). cond (is_decision n.kind) (cells_at others v) 0) e in omega arith

  rules_le : rule_cells others ≤ rule_cells nodes
  rules_le =
      let a = rules_summed nodes in
      let b = rules_summed others ∙ ap (λ n. nat_sum_over (rule_cells_at others) (range_with_len 0 n)) r.len in
      let c = sum_over_le (rule_cells_at others) (rule_cells_at nodes) rule_le (numbers_of nodes) in omega arith

  owners_kept : (agents : ℕ) → HasOwners nodes agents → HasOwners others agents
  owners_kept agents h = record {
    agent = λ v a l n o. few v a (subst (λ m. v < m) r.len l) n o (which v);
    differ = λ v. differ v (which v);
    one = λ v n. one v n (which v);
    chance = λ v e. none v e (which v);
  }
    where
      few : (v a : ℕ) → v < length nodes → (node_at others v).kind ≢ Chance → Owns others a v → Which v → a < agents
      few v a l n o (inl e) = h.agent v a l (subst (λ (m : NodeView). m.kind ≢ Chance) e n) (subst (λ (m : NodeView). Contains (m.owner ∷ m.more) a) e o)
      few v a l n o (inr e) = absurd (n (ap (λ m. m.kind) e))

      differ : (v : ℕ) → Which v → AllDifferent (owners_of others v)
      differ v (inl e) = subst (λ (m : NodeView). AllDifferent (m.owner ∷ m.more)) (sym e) (h.differ v)
      differ v (inr e) = subst (λ (m : NodeView). AllDifferent (m.owner ∷ m.more)) (sym e) ((λ m. let low = m.1 in absurd (omega arith)), tt)

      one : (v : ℕ) → (node_at others v).kind ≢ Utility → Which v → (node_at others v).more ≡ []
      one v n (inl e) = ap (λ m. m.more) e ∙ h.one v (subst (λ (m : NodeView). m.kind ≢ Utility) e n)
      one v n (inr e) = ap (λ m. m.more) e

      none : (v : ℕ) → (node_at others v).kind ≡ Chance → Which v → (node_at others v).owner ≡ 0
      none v k (inl e) = ap (λ m. m.owner) e ∙ h.chance v (subst (λ (m : NodeView). m.kind ≡ Chance) e k)
      none v k (inr e) = ap (λ m. m.owner) e

  values_kept : HasValues nodes → HasValues others
  values_kept h = record { utility = λ v l k. utility v (subst (λ m. v < m) r.len l) k (which v); decision = λ v k. decision v k (which v) }
    where
      utility : (v : ℕ) → v < length nodes → (node_at others v).kind ≡ Utility → Which v → length (node_at others v).cells ≡ rows_of others v
      utility v l k (inl e) = ap (λ m. length m.cells) e ∙ h.utility v l (subst (λ (m : NodeView). m.kind ≡ Utility) e k) ∙ sym (rows_same v)
      utility v l k (inr e) = absurd (not_utility (sym (ap (λ m. m.kind) e) ∙ k))

      decision : (v : ℕ) → (node_at others v).kind ≡ Decision → Which v → (node_at others v).cells ≡ []
      decision v k (inl e) = ap (λ m. m.cells) e ∙ h.decision v (subst (λ (m : NodeView). m.kind ≡ Decision) e k)
      decision v k (inr e) = absurd (not_decision (sym (ap (λ m. m.kind) e) ∙ k))

  limits_kept : (agents decimals : ℕ) → KeepsLimits (record { nodes = nodes; agents = agents; decimals = decimals }) → KeepsLimits (record { nodes = others; agents = agents; decimals = decimals })
  limits_kept agents decimals h = record {
    nodes = let a = h.nodes in let b = r.len in omega arith;
    states = λ v. subst (λ n. n ≤ MOST_STATES) (sym (same_states v)) (h.states v);
    parents = λ v. subst (λ (us : List ℕ). length us ≤ MOST_PARENTS) (sym (same_parents v)) (h.parents v);
    cells = λ v l. subst (λ n. n ≤ MOST_CELLS) (sym (cells_same v)) (h.cells v (subst (λ m. v < m) r.len l));
    rules = let a = h.rules in let b = rules_le in omega arith;
    totals = λ v k. total v k (which v);
    values = λ v k. value v k (which v);
    agents = h.agents;
    decimals = h.decimals;
  }
    where
      total : (v : ℕ) → (node_at others v).kind ≡ Chance → Which v → chance_total others v ≤ greatest_number
      total v k (inl e) = subst (λ (m : NodeView). nat_abs (sum_below m.states (λ s. slice_index_or m.cells s (pos 0))) ≤ greatest_number) (sym e) (h.totals v (subst (λ (m : NodeView). m.kind ≡ Chance) e k))
      total v k (inr e) =
          let s = states_of nodes v in
          let choices = map (λ (row : Row). row.choice) (rows_at answers v) in
          let sum = small_sum (flat_map (pure_row s) choices) (few_weights s choices) s in
          let l = sum.1 in
          let m = h.states v in
          subst (λ (m : NodeView). nat_abs (sum_below m.states (λ s. slice_index_or m.cells s (pos 0))) ≤ greatest_number) (sym e) (subst (λ z. nat_abs z ≤ greatest_number) (sym sum.2) (omega arith))

      value : (v : ℕ) → (node_at others v).kind ≡ Utility → Which v → All (λ z. nat_abs z ≤ greatest_number) (node_at others v).cells
      value v k (inl e) = subst (λ (m : NodeView). All (λ z. nat_abs z ≤ greatest_number) m.cells) (sym e) (h.values v (subst (λ (m : NodeView). m.kind ≡ Utility) e k))
      value v k (inr e) = absurd (not_utility (sym (ap (λ m. m.kind) e) ∙ k))

  pub alone_kept : (agents decimals : ℕ) → IsGraph others → HasChanceTables others → IsDiagram (record { nodes = nodes; agents = agents; decimals = decimals }) → IsDiagram (record { nodes = others; agents = agents; decimals = decimals })
  alone_kept agents decimals graph tables h = record {
    graph = graph;
    owners = owners_kept agents h.owners;
    tables = tables;
    values = values_kept h.values;
    limits = limits_kept agents decimals h.limits;
  }
