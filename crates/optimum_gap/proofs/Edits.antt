-- What an edit leaves of an agent's scope: an arc less, a chance node as a decision, and the
-- others' decisions as chance nodes.
use Rattle.std.proofs.Common.{◌≡◌, ◌≢◌, ◌∙◌, ℕ, ◌+◌, ◌*◌, Bool, true, false, ◌&&◌, List, ◌∷◌, map, slice_index_or, refl, sym, ap, subst, arith, inl, inr, ◌⊎◌, pos, nat_abs, ◌==◌}
use Rattle.std.proofs.lemmas.Nat.Gcd.{dvd_refl}
use Rattle.std.proofs.Math.Decide.{ℕ_discrete}
use Rattle.std.proofs.Math.Nat.{one-dvd}
use Rattle.std.proofs.Math.Path.{fun_ext}
use Rattle.std.specs.Int.{◌∣◌}
use Rattle.std.specs.Prelude.{Contains}
use Rattle.std.specs.List.{list_any}
use Rattle.diagram_graph.specs.Edited.{with_nodes}
use Rattle.finite_sums.specs.Sums.{sum_below}
use Rattle.arc_laws.proofs.Alone.{LeavesTo, leaves, IsLeft}
use Rattle.arc_laws.proofs.ControlLaws.{chance_within}
use Rattle.arc_laws.proofs.InControl.{Controls, controls}
use Rattle.arc_laws.proofs.LostArc.{Loses, loses, loses_added}
use Rattle.maid_laws.proofs.AnswerLaws.{perfect_law}
use Rattle.maid_laws.proofs.PureRules.{pure_total, pure_weights}
use Rattle.maid_laws.proofs.Rows.{rows_positive}
use Rattle.maid_laws.proofs.Tied.{decision_of}
use Rattle.maid_model.specs.declared.diagrams.Kind.{Kind}
use Rattle.maid_model.specs.declared.diagrams.Kind.TheVariants.{Chance, Decision, Utility}
use Rattle.maid_model.specs.Answers.{IsAnswer, pure_profile}
use Rattle.maid_model.specs.Edits.{as_decision, one_agent, with_arc, without_arc}
use Rattle.maid_model.specs.Graph.{Arc, IsPath, Here, Along, IsGraph}
use Rattle.maid_model.specs.Nodes.{agent_of, is_utility, is_utility_of, node_at, parents_of, states_of}
use Rattle.maid_model.specs.Scopes.{chance_factor, chance_factor_by}
use Rattle.maid_model.specs.Tables.{HasChanceTables, chance_total, weights_of}
use Rattle.maid_model.specs.Views.{NodeView, DiagramView, RuleView, SolvedView}
use Rattle.arc_laws.proofs.InControl as control
use Rattle.arc_laws.proofs.LostArc as lost
use Rattle.arc_laws.proofs.Alone as others
use Rattle.optimum_gap.specs.Laws.{CoversControl, CoversWithArc, CoversWithoutArc}
use Rattle.optimum_gap.proofs.Counting.{Counts, covers}

-- equal factors divide one another
equal_divides : (a b : ℕ) → a ≡ b → a ∣ b
equal_divides a b e = subst (λ z. a ∣ z) e (dvd_refl a)

-- a test of utilities looks at the kind and the owners
utility_test : (node other : NodeView) (agent : ℕ) → node.kind ≡ other.kind → (node.owner ∷ node.more) ≡ (other.owner ∷ other.more)
    → (is_utility node.kind && list_any (λ a. a == agent) (node.owner ∷ node.more)) ≡ (is_utility other.kind && list_any (λ a. a == agent) (other.owner ∷ other.more))
utility_test node other agent e o = λ i. is_utility (e i) && list_any (λ a. a == agent) (o i)

-- ---- an arc less
lost_counts : (nodes less : List NodeView) (agents decimals x to agent : ℕ) → Loses nodes less x to → Counts (record { nodes = nodes; agents = agents; decimals = decimals }) (record { nodes = less; agents = agents; decimals = decimals }) agent
lost_counts nodes less agents decimals x to agent l = record {
  len = l.len;
  utilities = λ v. utility_test (node_at less v) (node_at nodes v) agent (lost.kind_same nodes less x to l v) (lost.owners_same nodes less x to l v);
  path = λ v u p. lost.path_back nodes less x to l p;
  factor = λ v. equal_divides (chance_factor less v) (chance_factor nodes v) (λ i. chance_factor_by (lost.kind_same nodes less x to l v i) (lost.chance_same nodes less x to l v i));
  values = λ v e. lost.cells_same nodes less x to l v;
  decimals = refl;
}

pub without_law : CoversWithoutArc
without_law d x to agent g c k =
    let l = loses d.nodes x to k.within in
    covers d (with_nodes d (without_arc d.nodes x to)) agent g (lost.graph_kept d.nodes (without_arc d.nodes x to) x to l g) (lost_counts d.nodes (without_arc d.nodes x to) d.agents d.decimals x to agent l)

pub with_law : CoversWithArc
with_law d x to agent g c k =
    let l = loses_added d.nodes x to k.within g in
    covers (with_nodes d (with_arc d.nodes x to)) d agent g (lost.graph_kept (with_arc d.nodes x to) d.nodes x to l g) (lost_counts (with_arc d.nodes x to) d.nodes d.agents d.decimals x to agent l)

-- ---- a chance node as a decision
-- paths where all nodes have the same parents
path_same : (nodes more : List NodeView) → ((v : ℕ) → parents_of more v ≡ parents_of nodes v) → {to from : ℕ} → IsPath (Arc more) from to → IsPath (Arc nodes) from to
path_same nodes more same Here = Here
path_same nodes more same (Along {u = u} {v = v} a p) = Along (subst (λ ps. Contains ps u) (same v) a) (path_same nodes more same p)

control_counts : (nodes made : List NodeView) (agents decimals agent x : ℕ) → Controls nodes made agent x → (node_at nodes x).kind ≡ Chance → Counts (record { nodes = nodes; agents = agents; decimals = decimals }) (record { nodes = made; agents = agents; decimals = decimals }) agent
control_counts nodes made agents decimals agent x r k = record {
  len = r.len;
  utilities = λ v. by v (ℕ_discrete v x) (λ node. is_utility node.kind && list_any (λ a. a == agent) (node.owner ∷ node.more)) no_utility;
  path = λ v u p. path_same nodes made (control.parents_at nodes made agent x r k) p;
  factor = λ v. factor v (ℕ_discrete v x);
  values = λ v e. ap (λ node. node.cells) (r.else v (λ f. utility_not_x v f e));
  decimals = refl;
}
  where
    at_x : (is_utility (node_at made x).kind) ≡ false
    at_x = ap (λ node. is_utility node.kind) r.at

    was_x : is_utility (node_at nodes x).kind ≡ false
    was_x = ap is_utility k

    no_utility : is_utility_of made agent x ≡ is_utility_of nodes agent x
    no_utility = (λ i. at_x i && list_any (λ a. a == agent) ((node_at made x).owner ∷ (node_at made x).more)) ∙ sym (λ i. was_x i && list_any (λ a. a == agent) ((node_at nodes x).owner ∷ (node_at nodes x).more))

    by : (v : ℕ) → Dec (v ≡ x) → (f : NodeView → Bool) → f (node_at made x) ≡ f (node_at nodes x) → f (node_at made v) ≡ f (node_at nodes v)
    by v (yes e) f h = ap (λ w. f (node_at made w)) e ∙ h ∙ ap (λ w. f (node_at nodes w)) (sym e)
    by v (no n) f h = ap f (r.else v n)

    utility_not_x : (v : ℕ) → v ≡ x → is_utility_of nodes agent v ≡ true → ⊥
    utility_not_x v f e = both (sym e ∙ ap (is_utility_of nodes agent) f ∙ (λ i. was_x i && list_any (λ a. a == agent) ((node_at nodes x).owner ∷ (node_at nodes x).more)))
      where
        both : true ≡ false → ⊥
        both p = cc

    factor : (v : ℕ) → Dec (v ≡ x) → chance_factor made v ∣ chance_factor nodes v
    factor v (yes e) = subst (λ z. z ∣ chance_factor nodes v) (sym (ap (chance_factor made) e ∙ (λ i. chance_factor_by (r.at i).kind (chance_total made x)))) (one-dvd (chance_factor nodes v))
    factor v (no n) = equal_divides (chance_factor made v) (chance_factor nodes v) (λ i. chance_factor_by (r.else v n i).kind (nat_abs (sum_below (r.else v n i).states (λ s. slice_index_or (r.else v n i).cells s (pos 0)))))

pub control_law : CoversControl
control_law d x agent g c k =
    let r = controls d.nodes agent x (chance_within d.nodes x k) in
    covers d (with_nodes d (as_decision d.nodes agent x)) agent g (control.graph_kept d.nodes (as_decision d.nodes agent x) agent x r k g) (control_counts d.nodes (as_decision d.nodes agent x) d.agents d.decimals agent x r k)

-- ---- the others' decisions as chance nodes
module _ (d : DiagramView) (solved : SolvedView) (agent : ℕ) (g : IsGraph d.nodes) (c : HasChanceTables d.nodes) (a : IsAnswer d solved) where
  abbrev alone : List NodeView
  alone = one_agent d.nodes agent solved.answers

  left : LeavesTo d.nodes alone agent solved.answers
  left = leaves d.nodes agent solved.answers

  abbrev rules : List RuleView
  rules = pure_profile d.nodes solved.answers

  -- each has the total 1
  total_fixed : (v : ℕ) → (node_at d.nodes v).kind ≡ Decision → agent_of d.nodes v ≢ agent → chance_total alone v ≡ 1
  total_fixed v e n =
      let is = decision_of d.nodes v e in
      let rule = (perfect_law d solved g c a).profile.rule v is in
      (λ i. nat_abs (sum_below (left.fixed v e n i).states (λ s. slice_index_or (left.fixed v e n i).cells s (pos 0))))
      ∙ (λ i. nat_abs (sum_below (states_of d.nodes v) (λ s. slice_index_or (map pos (sym (pure_weights d.nodes solved.answers v is) i)) s (pos 0))))
      ∙ ap nat_abs (ap (sum_below (states_of d.nodes v)) (fun_ext (λ s. ap (λ j. slice_index_or (map pos (weights_of rules v)) j (pos 0)) (first (states_of d.nodes v) s))))
      ∙ ap nat_abs (rule.table.row 0 (rows_positive (states_of d.nodes) g.has_state (parents_of d.nodes v)))
      ∙ pure_total d.nodes solved.answers v is
    where
      first : (n s : ℕ) → s ≡ 0 * n + s
      first n s = omega arith

  which : (v : ℕ) → IsLeft (node_at d.nodes v) agent ⊎ (((node_at d.nodes v).kind ≡ Decision) × (agent_of d.nodes v ≢ agent))
  which v = go (node_at d.nodes v).kind refl (ℕ_discrete (agent_of d.nodes v) agent)
    where
      no_chance : Chance ≡ Decision → ⊥
      no_chance e = cc

      no_utility : Utility ≡ Decision → ⊥
      no_utility e = cc

      go : (k : Kind) → (node_at d.nodes v).kind ≡ k → Dec (agent_of d.nodes v ≡ agent) → IsLeft (node_at d.nodes v) agent ⊎ (((node_at d.nodes v).kind ≡ Decision) × (agent_of d.nodes v ≢ agent))
      go Chance e o = inl (λ f. absurd (no_chance (sym e ∙ f)))
      go Decision e (yes o) = inl (λ f. o)
      go Decision e (no n) = inr (e, n)
      go Utility e o = inl (λ f. absurd (no_utility (sym e ∙ f)))

  utility_at : (v : ℕ) → IsLeft (node_at d.nodes v) agent ⊎ (((node_at d.nodes v).kind ≡ Decision) × (agent_of d.nodes v ≢ agent)) → is_utility_of alone agent v ≡ is_utility_of d.nodes agent v
  utility_at v (inl h) = λ i. is_utility (left.own v h i).kind && list_any (λ b. b == agent) ((left.own v h i).owner ∷ (left.own v h i).more)
  utility_at v (inr h) =
      (λ i. is_utility (left.fixed v h.0 h.1 i).kind && list_any (λ b. b == agent) ((node_at alone v).owner ∷ (node_at alone v).more))
      ∙ (λ i. is_utility (sym h.0 i) && list_any (λ b. b == agent) ((node_at d.nodes v).owner ∷ (node_at d.nodes v).more))

  factor_at : (v : ℕ) → IsLeft (node_at d.nodes v) agent ⊎ (((node_at d.nodes v).kind ≡ Decision) × (agent_of d.nodes v ≢ agent)) → chance_factor alone v ∣ chance_factor d.nodes v
  factor_at v (inl h) = equal_divides (chance_factor alone v) (chance_factor d.nodes v) (λ i. chance_factor_by (left.own v h i).kind (nat_abs (sum_below (left.own v h i).states (λ s. slice_index_or (left.own v h i).cells s (pos 0)))))
  factor_at v (inr h) = subst (λ z. z ∣ chance_factor d.nodes v) (sym ((λ i. chance_factor_by (left.fixed v h.0 h.1 i).kind (chance_total alone v)) ∙ total_fixed v h.0 h.1)) (one-dvd (chance_factor d.nodes v))

  values_at : (v : ℕ) → is_utility_of d.nodes agent v ≡ true → IsLeft (node_at d.nodes v) agent ⊎ (((node_at d.nodes v).kind ≡ Decision) × (agent_of d.nodes v ≢ agent)) → (node_at alone v).cells ≡ (node_at d.nodes v).cells
  values_at v e (inl h) = ap (λ node. node.cells) (left.own v h)
  values_at v e (inr h) = absurd (no_both (sym e ∙ (λ i. is_utility (h.0 i) && list_any (λ b. b == agent) ((node_at d.nodes v).owner ∷ (node_at d.nodes v).more))))
    where
      no_both : true ≡ false → ⊥
      no_both p = cc

  pub alone_counts : Counts d (with_nodes d (one_agent d.nodes agent solved.answers)) agent
  alone_counts = record {
    len = left.len;
    utilities = λ v. utility_at v (which v);
    path = λ v u p. path_same d.nodes alone (others.parents_at d.nodes alone agent solved.answers left) p;
    factor = λ v. factor_at v (which v);
    values = λ v e. values_at v e (which v);
    decimals = refl;
  }
