-- The diagram in which only one agent decides: the others' decisions are chance nodes that take the
-- answered choices.
use Rattle.std.proofs.Common.{◌≡◌, ◌≢◌, ◌⊎◌, ◌∙◌, ℕ, ◌+◌, ◌*◌, ◌<◌, ◌≤◌, Bool, true, false, cond, ◌&&◌, eqb, flat_map, List, [], map, length, slice_index, slice_index_or, refl, sym, ap, subst, inl, inr, ℤ, pos, ◌*ℤ◌, ◌≤ℤ◌, ◌^◌, nat_abs, arith, ◌==◌, ◌∷◌}
use Rattle.std.proofs.lemmas.List.{length-map}
use Rattle.std.proofs.lemmas.List.FromFn.{get_or-map-range_with_len}
use Rattle.std.proofs.Math.Path.{fun_ext}
use Rattle.std.proofs.Math.Decide.{ℕ_discrete, dec_lt}
use Rattle.maid_model.specs.declared.answers.Ratio.{Ratio}
use Rattle.maid_model.specs.declared.answers.Row.{Row}
use Rattle.maid_model.specs.declared.diagrams.Kind.{Kind}
use Rattle.maid_model.specs.declared.diagrams.Kind.TheVariants.{Chance, Decision, Utility}
use Rattle.maid_model.specs.Answers.{FitsAnswers, IsFraction, pure_profile, rows_at}
use Rattle.maid_model.specs.Edits.{one_agent, as_chance, fixed_by}
use Rattle.maid_model.specs.Gains.{gain_of, mass, value_for}
use Rattle.maid_model.specs.Graph.{IsGraph}
use Rattle.maid_model.specs.Nodes.{IsDecision, node_at, no_node, states_of, parents_of, rows_of, numbers_of, is_utility, owns, agent_of, is_utility_of}
use Rattle.maid_model.specs.Profiles.{IsProfile, IsRule, SameRule, pure_row}
use Rattle.maid_model.specs.Subgames.{OwnsAll, IsOptimal, IsListing, IsSubgamePerfect, gain_from, mass_from}
use Rattle.finite_sums.specs.Sums.{World, sum_below}
use Rattle.maid_model.specs.Tables.{HasChanceTables, IsTable, row_of, table, table_by, weights_of, rule_total, weight_total, total_by, chance_total, cell_of}
use Rattle.maid_model.specs.Values.{IsOptimum}
use Rattle.maid_model.specs.Views.{NodeView, RuleView, AnswerView}
use Rattle.maid_model.proofs.Pure.{pure_is_rule, pure_is_profile}
use Rattle.maid_model.proofs.Weighing.{pos_at}
use Rattle.arc_laws.specs.Worths.{OneAgentDiagram, AnswerIsOptimum}
use Rattle.maid_laws.proofs.Alike.{gain_between, mass_between}
use Rattle.maid_laws.proofs.AnswerLaws.{perfect_law, answers_fit}
use Rattle.maid_laws.proofs.Basis.{table_same}
use Rattle.maid_laws.proofs.Booleans.{eqb_yes, eqb_no}
use Rattle.maid_laws.proofs.Choices.{made, made_at, made_profile}
use Rattle.maid_laws.proofs.OneAgent.{empty_start, gain_whole, mass_whole}
use Rattle.maid_laws.proofs.OrderLaws.{listing_law}
use Rattle.maid_laws.proofs.PureRules.{pure_weights, pure_total}
use Rattle.maid_laws.proofs.Ranks.{past_end}
use Rattle.maid_laws.proofs.Rearranged.{length_range}
use Rattle.maid_laws.proofs.Rows.{rows_positive}
use Rattle.maid_laws.proofs.Rules.{among_decisions}
use Rattle.arc_laws.proofs.SameArcs.{states_same, row_same, graph_alike, table_there, rule_there, rule_back}
use Rattle.maid_laws.proofs.Tied.{kind_within, decision_of}
use Rattle.std.specs.List.{list_any}

-- the node is no other agent's decision
abbrev pub IsLeft : NodeView → ℕ → Type 0
IsLeft node agent = node.kind ≡ Decision → node.owner ≡ agent

-- all other agents' decisions are chance nodes
pub record LeavesTo (nodes others : List NodeView) (agent : ℕ) (answers : List AnswerView) : Type 0 where
  pub len : length others ≡ length nodes
  pub own : (v : ℕ) → IsLeft (node_at nodes v) agent → node_at others v ≡ node_at nodes v
  pub fixed : (v : ℕ) → (node_at nodes v).kind ≡ Decision → agent_of nodes v ≢ agent → node_at others v ≡ as_chance nodes answers v

pub leaves : (nodes : List NodeView) (agent : ℕ) (answers : List AnswerView) → LeavesTo nodes (one_agent nodes agent answers) agent answers
leaves nodes agent answers = record {
  len = long;
  own = λ v h. own v h (dec_lt v (length nodes));
  fixed = λ v e n. at v (kind_within nodes v (λ f. decision_utility (sym e ∙ f))) ∙ ap (λ k. fixed_by k nodes agent answers v) e ∙ ap (λ b. cond b (node_at nodes v) (as_chance nodes answers v)) (eqb_no (agent_of nodes v) agent n);
}
  where
    decision_utility : Decision ≡ Utility → ⊥
    decision_utility e = cc

    long : length (one_agent nodes agent answers) ≡ length nodes
    long = length-map (numbers_of nodes) (λ v. fixed_by (node_at nodes v).kind nodes agent answers v) ∙ length_range 0 (length nodes)

    at : (v : ℕ) → v < length nodes → node_at (one_agent nodes agent answers) v ≡ fixed_by (node_at nodes v).kind nodes agent answers v
    at v l = get_or-map-range_with_len (λ u. fixed_by (node_at nodes u).kind nodes agent answers u) 0 (length nodes) v v no_node l (omega arith)

    same : (k : Kind) (v : ℕ) → (k ≡ Decision → agent_of nodes v ≡ agent) → fixed_by k nodes agent answers v ≡ node_at nodes v
    same Chance v h = refl
    same Decision v h = ap (λ b. cond b (node_at nodes v) (as_chance nodes answers v)) (eqb_yes (agent_of nodes v) agent (h refl))
    same Utility v h = refl

    past : (v : ℕ) → ¬ (v < length nodes) → length nodes ≤ v
    past v n = omega arith

    own : (v : ℕ) → IsLeft (node_at nodes v) agent → Dec (v < length nodes) → node_at (one_agent nodes agent answers) v ≡ node_at nodes v
    own v h (yes l) = at v l ∙ same (node_at nodes v).kind v h
    own v h (no n) = past_end (one_agent nodes agent answers) v (subst (λ m. m ≤ v) (sym long) (past v n)) ∙ sym (past_end nodes v (past v n))

module _ (nodes others : List NodeView) (agent : ℕ) (answers : List AnswerView) (r : LeavesTo nodes others agent answers) where
  -- each node stays or is another agent's decision
  abbrev Which : ℕ → Type 0
  Which v = IsLeft (node_at nodes v) agent ⊎ (((node_at nodes v).kind ≡ Decision) × (agent_of nodes v ≢ agent))

  which : (v : ℕ) → Which v
  which v = go (node_at nodes v).kind refl (ℕ_discrete (agent_of nodes v) agent)
    where
      chance : Chance ≡ Decision → ⊥
      chance e = cc

      utility : Utility ≡ Decision → ⊥
      utility e = cc

      go : (k : Kind) → (node_at nodes v).kind ≡ k → Dec (agent_of nodes v ≡ agent) → IsLeft (node_at nodes v) agent ⊎ (((node_at nodes v).kind ≡ Decision) × (agent_of nodes v ≢ agent))
      go Chance e d = inl (λ f. absurd (chance (sym e ∙ f)))
      go Decision e (yes o) = inl (λ f. o)
      go Decision e (no n) = inr (e, n)
      go Utility e d = inl (λ f. absurd (utility (sym e ∙ f)))

  -- states and parents stay
  kept : {A : Type 0} (f : NodeView → A) → ((v : ℕ) → f (as_chance nodes answers v) ≡ f (node_at nodes v)) → (v : ℕ) → f (node_at others v) ≡ f (node_at nodes v)
  kept f same v = go (which v)
    where
      go : IsLeft (node_at nodes v) agent ⊎ (((node_at nodes v).kind ≡ Decision) × (agent_of nodes v ≢ agent)) → f (node_at others v) ≡ f (node_at nodes v)
      go (inl h) = ap f (r.own v h)
      go (inr h) = ap f (r.fixed v h.0 h.1) ∙ same v

  pub states_at : (v : ℕ) → states_of others v ≡ states_of nodes v
  states_at = kept (λ n. n.states) (λ v. refl)

  pub parents_at : (v : ℕ) → parents_of others v ≡ parents_of nodes v
  parents_at = kept (λ n. n.parents) (λ v. refl)

  chance_decision : Chance ≡ Decision → ⊥
  chance_decision e = cc

  chance_utility : Chance ≡ Utility → ⊥
  chance_utility e = cc

  -- another agent's decision is a chance node
  kind_fixed : (v : ℕ) → (node_at nodes v).kind ≡ Decision → agent_of nodes v ≢ agent → (node_at others v).kind ≡ Chance
  kind_fixed v e n = ap (λ m. m.kind) (r.fixed v e n)

  utility_back : (v : ℕ) → (node_at others v).kind ≡ Utility → (node_at nodes v).kind ≡ Utility
  utility_back v e = go (which v)
    where
      go : IsLeft (node_at nodes v) agent ⊎ (((node_at nodes v).kind ≡ Decision) × (agent_of nodes v ≢ agent)) → (node_at nodes v).kind ≡ Utility
      go (inl h) = sym (ap (λ m. m.kind) (r.own v h)) ∙ e
      go (inr h) = absurd (chance_utility (sym (kind_fixed v h.0 h.1) ∙ e))

  -- what is left as a decision is the agent's
  pub left_decision : (v : ℕ) → IsDecision others v → IsDecision nodes v × (agent_of nodes v ≡ agent)
  left_decision v d = go (which v)
    where
      go : IsLeft (node_at nodes v) agent ⊎ (((node_at nodes v).kind ≡ Decision) × (agent_of nodes v ≢ agent)) → IsDecision nodes v × (agent_of nodes v ≡ agent)
      go (inl h) = let e : (node_at nodes v).kind ≡ Decision = sym (ap (λ m. m.kind) (r.own v h)) ∙ d.kind in (decision_of nodes v e, h e)
      go (inr h) = absurd (chance_decision (sym (kind_fixed v h.0 h.1) ∙ d.kind))

  pub decision_there : (v : ℕ) → IsDecision nodes v → agent_of nodes v ≡ agent → IsDecision others v
  decision_there v d o = decision_of others v (ap (λ m. m.kind) (r.own v (λ e. o)) ∙ d.kind)

  pub owns_all : OwnsAll others agent
  owns_all v d = let h = left_decision v d in ap (λ m. m.owner) (r.own v (λ e. h.1)) ∙ h.1

  pub graph_kept : IsGraph nodes → IsGraph others
  graph_kept g = graph_alike nodes others r.len states_at parents_at utility_back g

  module _ (g : IsGraph nodes) (c : HasChanceTables nodes) (fits : FitsAnswers nodes answers) where
    -- the weights of the pure rule
    abbrev pure_at : ℕ → List ℕ
    pure_at v = flat_map (pure_row (states_of nodes v)) (map (λ (r : Row). r.choice) (rows_at answers v))

    pure_fits : (v : ℕ) → IsDecision nodes v → IsRule nodes (record { decision = v; total = 1; weights = pure_at v })
    pure_fits v d = pure_is_rule nodes v (rows_at answers v) (fits v d).0 (fits v d).1

    cells_fixed : (v : ℕ) → (node_at nodes v).kind ≡ Decision → agent_of nodes v ≢ agent → (node_at others v).cells ≡ map pos (pure_at v)
    cells_fixed v e n = ap (λ m. m.cells) (r.fixed v e n)

    -- their total is 1
    total_fixed : (v : ℕ) → (node_at nodes v).kind ≡ Decision → agent_of nodes v ≢ agent → chance_total others v ≡ 1
    total_fixed v e n =
        (λ i. nat_abs (sum_below (states_at v i) (λ s. slice_index_or (cells_fixed v e n i) s (pos 0))))
        ∙ ap nat_abs (ap (sum_below (states_of nodes v)) (fun_ext (λ s. ap (λ j. slice_index_or (map pos (pure_at v)) j (pos 0)) (first (states_of nodes v) s)))
        ∙ (pure_fits v (decision_of nodes v e)).table.row 0 (rows_positive (states_of nodes) g.has_state (parents_of nodes v)))
      where
        first : (n s : ℕ) → s ≡ 0 * n + s
        first n s = omega arith

    total_own : (v : ℕ) → IsLeft (node_at nodes v) agent → chance_total others v ≡ chance_total nodes v
    total_own v h = λ i. nat_abs (sum_below (r.own v h i).states (λ s. slice_index_or (r.own v h i).cells s (pos 0)))

    pub tables_kept : HasChanceTables others
    tables_kept = record { positive = λ v e. positive v e (which v); table = λ v e. fits_at v e (which v) }
      where
        positive : (v : ℕ) → (node_at others v).kind ≡ Chance → IsLeft (node_at nodes v) agent ⊎ (((node_at nodes v).kind ≡ Decision) × (agent_of nodes v ≢ agent)) → 0 < chance_total others v
        positive v e (inl h) = subst (λ n. 0 < n) (sym (total_own v h)) (c.positive v (sym (ap (λ m. m.kind) (r.own v h)) ∙ e))
        positive v e (inr h) = subst (λ n. 0 < n) (sym (total_fixed v h.0 h.1)) (omega arith)

        fits_at : (v : ℕ) → (node_at others v).kind ≡ Chance → IsLeft (node_at nodes v) agent ⊎ (((node_at nodes v).kind ≡ Decision) × (agent_of nodes v ≢ agent)) → IsTable (node_at others v).cells (rows_of others v) (states_of others v) (chance_total others v)
        fits_at v e (inl h) =
            table_there nodes others r.len states_at parents_at v (chance_total others v) (node_at others v).cells
            (subst (λ n. IsTable (node_at others v).cells (rows_of nodes v) (states_of nodes v) n) (sym (total_own v h))
            (subst (λ z. IsTable z (rows_of nodes v) (states_of nodes v) (chance_total nodes v)) (sym (ap (λ m. m.cells) (r.own v h))) (c.table v (sym (ap (λ m. m.kind) (r.own v h)) ∙ e))))
        fits_at v e (inr h) =
            table_there nodes others r.len states_at parents_at v (chance_total others v) (node_at others v).cells
            (subst (λ n. IsTable (node_at others v).cells (rows_of nodes v) (states_of nodes v) n) (sym (total_fixed v h.0 h.1))
            (subst (λ z. IsTable z (rows_of nodes v) (states_of nodes v) 1) (sym (cells_fixed v h.0 h.1)) (pure_fits v (decision_of nodes v h.0)).table))

    -- ---- profiles of both
    -- p has the agent's rules of q, and the answered choices at the other decisions
    pub record Follows (p q : List RuleView) : Type 0 where
      pub own : (v : ℕ) → IsDecision nodes v → agent_of nodes v ≡ agent → SameRule p q v
      pub weights : (v : ℕ) → IsDecision nodes v → agent_of nodes v ≢ agent → weights_of p v ≡ flat_map (pure_row (states_of nodes v)) (map (λ (r : Row). r.choice) (rows_at answers v))
      pub total : (v : ℕ) → IsDecision nodes v → agent_of nodes v ≢ agent → rule_total p v ≡ 1

    module _ (p q : List RuleView) (f : Follows p q) where
      table_alike : (v : ℕ) (w : World) → table others q v w ≡ table nodes p v w
      table_alike v w = go (which v)
        where
          go : IsLeft (node_at nodes v) agent ⊎ (((node_at nodes v).kind ≡ Decision) × (agent_of nodes v ≢ agent)) → table others q v w ≡ table nodes p v w
          go (inl h) =
              (λ i. table_by (r.own v h i).kind (r.own v h i).cells (weights_of q v) (row_same nodes others r.len states_at parents_at v w i * states_at v i + w v))
              ∙ table_same (node_at nodes v).kind (node_at nodes v).cells (weights_of q v) (weights_of p v) (cell_of nodes v w) (λ e. sym (f.own v (decision_of nodes v e) (h e)).weights)
          go (inr h) =
              (λ i. table_by (kind_fixed v h.0 h.1 i) (cells_fixed v h.0 h.1 i) (weights_of q v) (row_same nodes others r.len states_at parents_at v w i * states_at v i + w v))
              ∙ pos_at (pure_at v) (cell_of nodes v w)
              ∙ ap (λ ws. pos (slice_index ws (cell_of nodes v w))) (sym (f.weights v (decision_of nodes v h.0) h.1))
              ∙ (λ i. table_by (sym h.0 i) (node_at nodes v).cells (weights_of p v) (cell_of nodes v w))

      value_alike : (v : ℕ) (w : World) → value_for others agent v w ≡ value_for nodes agent v w
      value_alike v w = go (which v)
        where
          none : (b : Bool) (z : ℤ) → b ≡ false → cond b z (pos 0) ≡ pos 0
          none true z e = cc
          none false z e = refl

          no_value : (ns : List NodeView) (k : Kind) → (node_at ns v).kind ≡ k → is_utility k ≡ false → value_for ns agent v w ≡ pos 0
          no_value ns k e n = none (is_utility_of ns agent v) (slice_index_or (node_at ns v).cells (row_of ns v w) (pos 0)) (ap (λ a. is_utility a && owns ns agent v) e ∙ ap (λ b. b && owns ns agent v) n)

          go : IsLeft (node_at nodes v) agent ⊎ (((node_at nodes v).kind ≡ Decision) × (agent_of nodes v ≢ agent)) → value_for others agent v w ≡ value_for nodes agent v w
          go (inl h) = λ i. cond (is_utility (r.own v h i).kind && list_any (λ a. a == agent) ((r.own v h i).owner ∷ (r.own v h i).more)) (slice_index_or (r.own v h i).cells (row_same nodes others r.len states_at parents_at v w i) (pos 0)) (pos 0)
          go (inr h) = no_value others Chance (kind_fixed v h.0 h.1) refl ∙ sym (no_value nodes Decision h.0 refl)

      pub gain_alike : gain_of others q agent ≡ gain_of nodes p agent
      gain_alike = gain_between nodes others r.len p q agent g.has_state (states_same nodes others r.len states_at parents_at) (λ v l w i. table_alike v w) value_alike

      pub mass_alike : mass others q ≡ mass nodes p
      mass_alike = mass_between nodes others r.len p q (λ v. go v (which v))
        where
          by_kind : (k : Kind) (a m n : ℕ) → (k ≡ Decision → m ≡ n) → total_by k a m ≡ total_by k a n
          by_kind Chance a m n e = refl
          by_kind Decision a m n e = e refl
          by_kind Utility a m n e = refl

          go : (v : ℕ) → IsLeft (node_at nodes v) agent ⊎ (((node_at nodes v).kind ≡ Decision) × (agent_of nodes v ≢ agent)) → weight_total others q v ≡ weight_total nodes p v
          go v (inl h) = (λ i. total_by (r.own v h i).kind (total_own v h i) (rule_total q v)) ∙ by_kind (node_at nodes v).kind (chance_total nodes v) (rule_total q v) (rule_total p v) (λ e. sym (f.own v (decision_of nodes v e) (h e)).total)
          go v (inr h) = (λ i. total_by (kind_fixed v h.0 h.1 i) (total_fixed v h.0 h.1 i) (rule_total q v)) ∙ sym (f.total v (decision_of nodes v h.0) h.1) ∙ (λ i. total_by (sym h.0 i) (chance_total nodes v) (rule_total p v))

    -- the agent's rules and the answered choices
    abbrev joined : List RuleView → List RuleView
    joined q = made nodes (λ v. cond (eqb (agent_of nodes v) agent) (rule_total q v) 1) (λ v. cond (eqb (agent_of nodes v) agent) (weights_of q v) (pure_at v))

    joined_profile : (q : List RuleView) → IsProfile others q → IsProfile nodes (joined q)
    joined_profile q hq = made_profile nodes (λ v. cond (eqb (agent_of nodes v) agent) (rule_total q v) 1) (λ v. cond (eqb (agent_of nodes v) agent) (weights_of q v) (pure_at v)) (λ v d. go v d (ℕ_discrete (agent_of nodes v) agent))
      where
        go : (v : ℕ) → IsDecision nodes v → Dec (agent_of nodes v ≡ agent) → IsRule nodes (record { decision = v; total = cond (eqb (agent_of nodes v) agent) (rule_total q v) 1; weights = cond (eqb (agent_of nodes v) agent) (weights_of q v) (pure_at v) })
        go v d (yes o) =
            subst (λ b. IsRule nodes (record { decision = v; total = cond b (rule_total q v) 1; weights = cond b (weights_of q v) (pure_at v) })) (sym (eqb_yes (agent_of nodes v) agent o))
            (rule_back nodes others r.len states_at parents_at (record { decision = v; total = rule_total q v; weights = weights_of q v }) (hq.rule v (decision_there v d o)))
        go v d (no n) =
            subst (λ b. IsRule nodes (record { decision = v; total = cond b (rule_total q v) 1; weights = cond b (weights_of q v) (pure_at v) })) (sym (eqb_no (agent_of nodes v) agent n)) (pure_fits v d)

    joined_follows : (q : List RuleView) → Follows (joined q) q
    joined_follows q = record {
      own = λ v d o. record { weights = (at v d).0 ∙ ap (λ b. cond b (weights_of q v) (pure_at v)) (eqb_yes (agent_of nodes v) agent o); total = (at v d).1 ∙ ap (λ b. cond b (rule_total q v) 1) (eqb_yes (agent_of nodes v) agent o) };
      weights = λ v d n. (at v d).0 ∙ ap (λ b. cond b (weights_of q v) (pure_at v)) (eqb_no (agent_of nodes v) agent n);
      total = λ v d n. (at v d).1 ∙ ap (λ b. cond b (rule_total q v) 1) (eqb_no (agent_of nodes v) agent n);
    }
      where
        at : (v : ℕ) → IsDecision nodes v → (weights_of (joined q) v ≡ cond (eqb (agent_of nodes v) agent) (weights_of q v) (pure_at v)) × (rule_total (joined q) v ≡ cond (eqb (agent_of nodes v) agent) (rule_total q v) 1)
        at v d = made_at nodes (λ v. cond (eqb (agent_of nodes v) agent) (rule_total q v) 1) (λ v. cond (eqb (agent_of nodes v) agent) (weights_of q v) (pure_at v)) v (among_decisions nodes v d)

    -- the answered choices of the agent
    abbrev plan : List RuleView
    plan = pure_profile nodes answers

    abbrev part : List RuleView
    part = made others (rule_total plan) (weights_of plan)

    part_profile : IsProfile others part
    part_profile = made_profile others (rule_total plan) (weights_of plan) (λ v d. rule_there nodes others r.len states_at parents_at (record { decision = v; total = rule_total plan v; weights = weights_of plan v }) ((pure_is_profile nodes answers fits).rule v (left_decision v d).0))

    part_follows : Follows plan part
    part_follows = record {
      own = λ v d o. let m = made_at others (rule_total plan) (weights_of plan) v (among_decisions others v (decision_there v d o)) in record { weights = sym m.0; total = sym m.1 };
      weights = λ v d n. pure_weights nodes answers v d;
      total = λ v d n. pure_total nodes answers v d;
    }

    -- no profile of the agent alone gains more, as it would be a deviation
    part_optimal : IsSubgamePerfect nodes plan → IsOptimal others part agent
    part_optimal perfect = record {
      profile = part_profile;
      greatest = λ t ht.
          let l = listing_law nodes g in
          let h = perfect.from_each_start l.0 [] l.1 (empty_start nodes l.0) agent (joined t) (joined_profile t ht) (λ v d n. record { weights = ((joined_follows t).weights v d n) ∙ sym (pure_weights nodes answers v d); total = ((joined_follows t).total v d n) ∙ sym (pure_total nodes answers v d) }) in
          subst (λ x. x ≤ℤ (gain_of others part agent *ℤ pos (mass others t))) (λ i. left t l.0 l.1 i)
          (subst (λ x. (gain_from nodes l.0 [] (joined t) agent *ℤ pos (mass_from nodes l.0 [] plan)) ≤ℤ x) (λ i. right t l.0 l.1 i) h);
    }
      where
        left : (t : List RuleView) (order : List ℕ) (l : IsListing nodes order) → gain_from nodes order [] (joined t) agent *ℤ pos (mass_from nodes order [] plan) ≡ gain_of others t agent *ℤ pos (mass others part)
        left t order l = λ i. (gain_whole nodes g order l (joined t) agent ∙ sym (gain_alike (joined t) t (joined_follows t))) i *ℤ (mass_whole nodes g order l plan ∙ ap pos (sym (mass_alike plan part part_follows))) i

        right : (t : List RuleView) (order : List ℕ) (l : IsListing nodes order) → gain_from nodes order [] plan agent *ℤ pos (mass_from nodes order [] (joined t)) ≡ gain_of others part agent *ℤ pos (mass others t)
        right t order l = λ i. (gain_whole nodes g order l plan agent ∙ sym (gain_alike plan part part_follows)) i *ℤ (mass_whole nodes g order l (joined t) ∙ ap pos (sym (mass_alike (joined t) t (joined_follows t)))) i

    pub part_optimum : (decimals : ℕ) (w : Ratio) → IsSubgamePerfect nodes plan → IsFraction w (gain_of nodes plan agent) (mass nodes plan * 10 ^ decimals) → IsOptimum others decimals agent w
    part_optimum decimals w perfect f = record {
      alone = owns_all;
      best = part;
      optimal = part_optimal perfect;
      worth = subst (λ m. IsFraction w (gain_of others part agent) (m * 10 ^ decimals)) (sym (mass_alike plan part part_follows)) (subst (λ z. IsFraction w z (mass nodes plan * 10 ^ decimals)) (sym (gain_alike plan part part_follows)) f);
    }

-- for every diagram
pub one_agent_law : OneAgentDiagram
one_agent_law nodes agent answers g c fits =
    let r = leaves nodes agent answers in (
      graph_kept nodes (one_agent nodes agent answers) agent answers r g,
      tables_kept nodes (one_agent nodes agent answers) agent answers r g c fits,
      owns_all nodes (one_agent nodes agent answers) agent answers r,
      λ v. ((λ d. left_decision nodes (one_agent nodes agent answers) agent answers r v d), (λ h. decision_there nodes (one_agent nodes agent answers) agent answers r v h.0 h.1)),
    )

-- the answer's plan is subgame-perfect
pub answer_optimum_law : AnswerIsOptimum
answer_optimum_law d solved agent r g c a l =
    part_optimum d.nodes (one_agent d.nodes agent solved.answers) agent solved.answers (leaves d.nodes agent solved.answers) g c (answers_fit d solved g c a.fits) d.decimals (slice_index_or solved.gains agent r)
    (perfect_law d solved g c a) (a.gains.each agent r l)
