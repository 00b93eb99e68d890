-- A diagram in which a chance node is a decision of an agent over its own parents.
use Rattle.std.proofs.Common.{◌≡◌, ◌≢◌, ◌⊎◌, ◌↔◌, ◌∙◌, ℕ, suc, ◌+◌, ◌*◌, ◌<◌, Bool, true, false, cond, ◌&&◌, eqb, List, [], ◌∷◌, map, length, slice_index_or, filter, not, refl, sym, ap, subst, inl, inr, ℤ, pos, negsuc, ◌≤ℤ◌, nat_abs, arith, Contains, ◌==◌}
use Rattle.std.proofs.lemmas.Int.{ints}
use Rattle.std.proofs.lemmas.List.{length-set}
use Rattle.std.proofs.Math.Decide.{ℕ_discrete}
use Rattle.maid_model.specs.declared.diagrams.Kind.{Kind}
use Rattle.maid_model.specs.declared.diagrams.Kind.TheVariants.{Chance, Decision, Utility}
use Rattle.maid_model.specs.Edits.{as_decision}
use Rattle.maid_model.specs.Gains.{gain_of, mass, value_for}
use Rattle.maid_model.specs.Graph.{Arc, IsGraph}
use Rattle.maid_model.specs.Nodes.{IsDecision, node_at, states_of, parents_of, rows_of, is_utility, owns, Owns, agent_of, is_utility_of}
use Rattle.maid_model.specs.Relevance.{IsLive, IsInFamilyBut, IsRequisite}
use Rattle.maid_model.specs.Subgames.{OwnsAll}
use Rattle.finite_sums.specs.Sums.{World, sum_below}
use Rattle.maid_model.specs.Tables.{HasChanceTables, IsTable, row_of, table, table_by, weights_of, rule_total, weight_total, total_by, chance_total, cell_of}
use Rattle.maid_model.specs.Views.{NodeView, RuleView}
use Rattle.maid_model.specs.Walks.{IsJoined, IsCollider, IsActive, IsReached}
use Rattle.maid_model.specs.Values.{IsUnreached}
use Rattle.maid_model.proofs.Weighing.{pos_at}
use Rattle.maid_laws.proofs.Alike.{gain_between, mass_between}
use Rattle.maid_laws.proofs.Basis.{table_same}
use Rattle.arc_laws.proofs.LostArc.{Loses, set_at, set_else}
use Rattle.arc_laws.proofs.SameArcs.{states_same, row_same, arc_back, arc_there, descends_back, graph_alike, table_there}
use Rattle.maid_laws.proofs.Tied.{decision_of}
use Rattle.std.specs.List.{list_any}

-- walks of other live nodes along the same arcs
module _ (Arc More : ℕ → ℕ → Type 0) (there : (x y : ℕ) → Arc x y → More x y) (back : (x y : ℕ) → More x y → Arc x y) (Live Lives Given Fixed : ℕ → Type 0) (live : (x : ℕ) → Live x → Lives x) (same : (x : ℕ) → Given x ↔ Fixed x) where
  joined_map : (x y : ℕ) → IsJoined Arc x y → IsJoined More x y
  joined_map x y (inl a) = inl (there x y a)
  joined_map x y (inr a) = inr (there y x a)

  meet_map : (x y z : ℕ) → (IsCollider Arc x y z ↔ Given y) → (IsCollider More x y z ↔ Fixed y)
  meet_map x y z h = ((λ m. (same y).0 (h.0 (back x y m.0, back z y m.1))), (λ f. let m = h.1 ((same y).1 f) in (there x y m.0, there z y m.1)))

  active_map : (ws : List ℕ) → IsActive Arc Live Given ws → IsActive More Lives Fixed ws
  active_map [] h = h
  active_map (x ∷ []) h = live x h
  active_map (x ∷ (y ∷ [])) h = (live x h.0, joined_map x y h.1, live y h.2)
  active_map (x ∷ (y ∷ (z ∷ rest))) h = (live x h.0, joined_map x y h.1, meet_map x y z h.2, active_map (y ∷ (z ∷ rest)) h.3)

  pub reached_map : (x y : ℕ) → IsReached Arc Live Given x y → IsReached More Lives Fixed x y
  reached_map x y r = record { rest = r.rest; active = active_map (x ∷ r.rest) r.active; ends = r.ends }

-- cells of a chance table as weights of a rule
pub abs_cells : (cells : List ℤ) → ((i : ℕ) → pos 0 ≤ℤ slice_index_or cells i (pos 0)) → map pos (map nat_abs cells) ≡ cells
abs_cells [] h = refl
abs_cells (x ∷ xs) h = λ i. abs x (h 0) i ∷ abs_cells xs (λ k. h (suc k)) i
  where
    abs : (x : ℤ) → pos 0 ≤ℤ x → pos (nat_abs x) ≡ x
    abs (pos n) l = refl
    abs (negsuc n) l = absurd (omega (arith, ints))

-- x is a decision of the agent
pub record Controls (nodes others : List NodeView) (agent x : ℕ) : Type 0 where
  pub len : length others ≡ length nodes
  pub else : (v : ℕ) → v ≢ x → node_at others v ≡ node_at nodes v
  pub at : node_at others x ≡ record { kind = Decision; owner = agent; more = []; states = (node_at nodes x).states; parents = (node_at nodes x).parents; cells = [] }

pub controls : (nodes : List NodeView) (agent x : ℕ) → x < length nodes → Controls nodes (as_decision nodes agent x) agent x
controls nodes agent x l = record {
  len = length-set nodes x (made nodes agent x);
  else = λ v n. set_else nodes x (made nodes agent x) v n;
  at = set_at nodes x (made nodes agent x) l;
}
  where
    made : List NodeView → ℕ → ℕ → NodeView
    made nodes agent x = record { kind = Decision; owner = agent; more = []; states = (node_at nodes x).states; parents = (node_at nodes x).parents; cells = [] }

-- also where both diagrams lose an arc into another node
pub controls_less : (nodes others less fewer : List NodeView) (agent x y d : ℕ) → d ≢ x → Controls nodes others agent x → Loses nodes less y d → Loses others fewer y d → Controls less fewer agent x
controls_less nodes others less fewer agent x y d n r l m = record {
  len = m.len ∙ r.len ∙ sym l.len;
  else = λ v k. else v k (ℕ_discrete v d);
  at = m.else x (λ e. n (sym e)) ∙ r.at ∙ (λ i. record { kind = Decision; owner = agent; more = []; states = (sym (l.else x (λ e. n (sym e))) i).states; parents = (sym (l.else x (λ e. n (sym e))) i).parents; cells = [] });
}
  where
    else : (v : ℕ) → v ≢ x → Dec (v ≡ d) → node_at fewer v ≡ node_at less v
    else v k (yes e) =
        ap (node_at fewer) e ∙ m.at
        ∙ (λ i. record { kind = (r.else d n i).kind; owner = (r.else d n i).owner; more = (r.else d n i).more; states = (r.else d n i).states; parents = filter (λ u. not (eqb u y)) (r.else d n i).parents; cells = (r.else d n i).cells })
        ∙ sym (ap (node_at less) e ∙ l.at)
    else v k (no j) = m.else v j ∙ r.else v k ∙ sym (l.else v j)

module _ (nodes others : List NodeView) (agent x : ℕ) (r : Controls nodes others agent x) (k : (node_at nodes x).kind ≡ Chance) where
  chance_decision : Chance ≡ Decision → ⊥
  chance_decision e = cc

  decision_utility : Decision ≡ Utility → ⊥
  decision_utility e = cc

  decision_chance : Decision ≡ Chance → ⊥
  decision_chance e = cc

  -- states and parents stay
  kept : {A : Type 0} (f : NodeView → A) → f (record { kind = Decision; owner = agent; more = []; states = (node_at nodes x).states; parents = (node_at nodes x).parents; cells = [] }) ≡ f (node_at nodes x) → (v : ℕ) → f (node_at others v) ≡ f (node_at nodes v)
  kept f same v = go (ℕ_discrete v x)
    where
      go : Dec (v ≡ x) → f (node_at others v) ≡ f (node_at nodes v)
      go (yes e) = ap (λ u. f (node_at others u)) e ∙ ap f r.at ∙ same ∙ ap (λ u. f (node_at nodes u)) (sym e)
      go (no n) = ap f (r.else v n)

  pub states_at : (v : ℕ) → states_of others v ≡ states_of nodes v
  states_at = kept (λ n. n.states) refl

  pub parents_at : (v : ℕ) → parents_of others v ≡ parents_of nodes v
  parents_at = kept (λ n. n.parents) refl

  chance_same : (v : ℕ) → v ≢ x → chance_total others v ≡ chance_total nodes v
  chance_same v n = λ i. nat_abs (sum_below (r.else v n i).states (λ s. slice_index_or (r.else v n i).cells s (pos 0)))

  -- x is no chance node there, and no utility
  kind_x : (node_at others x).kind ≡ Decision
  kind_x = ap (λ n. n.kind) r.at

  else_of : (v : ℕ) → (v ≡ x → ⊥) → (node_at others v).kind ≡ (node_at nodes v).kind
  else_of v n = ap (λ m. m.kind) (r.else v n)

  not_x : (v : ℕ) (c : Kind) → (node_at others v).kind ≡ c → (Decision ≡ c → ⊥) → v ≢ x
  not_x v c e n f = n (sym kind_x ∙ ap (λ u. (node_at others u).kind) (sym f) ∙ e)

  was_not_x : (v : ℕ) (c : Kind) → (node_at nodes v).kind ≡ c → (Chance ≡ c → ⊥) → v ≢ x
  was_not_x v c e n f = n (sym k ∙ ap (λ u. (node_at nodes u).kind) (sym f) ∙ e)

  pub utility_back : (v : ℕ) → (node_at others v).kind ≡ Utility → (node_at nodes v).kind ≡ Utility
  utility_back v e = sym (else_of v (not_x v Utility e decision_utility)) ∙ e

  -- whose a utility is stays
  owns_back : (other v : ℕ) → (node_at others v).kind ≡ Utility → Owns others other v → Owns nodes other v
  owns_back other v e o = subst (λ m. Contains (m.owner ∷ m.more) other) (r.else v (not_x v Utility e decision_utility)) o

  pub decision_there : (v : ℕ) → IsDecision nodes v → IsDecision others v
  decision_there v d = record { within = subst (λ n. v < n) (sym r.len) d.within; kind = else_of v (was_not_x v Decision d.kind chance_decision) ∙ d.kind }

  pub decision_back : (v : ℕ) → v ≢ x → IsDecision others v → IsDecision nodes v
  decision_back v n d = record { within = subst (λ m. v < m) r.len d.within; kind = sym (else_of v n) ∙ d.kind }

  pub decision_not_x : (v : ℕ) → IsDecision nodes v → v ≢ x
  decision_not_x v d = was_not_x v Decision d.kind chance_decision

  pub owns_there : OwnsAll nodes agent → OwnsAll others agent
  owns_there owns v d = go (ℕ_discrete v x)
    where
      go : Dec (v ≡ x) → (node_at others v).owner ≡ agent
      go (yes e) = ap (λ u. (node_at others u).owner) e ∙ ap (λ n. n.owner) r.at
      go (no n) = ap (λ m. m.owner) (r.else v n) ∙ owns v (decision_back v n d)

  -- ---- it is a diagram
  pub graph_kept : IsGraph nodes → IsGraph others
  graph_kept g = graph_alike nodes others r.len states_at parents_at utility_back g

  pub tables_kept : HasChanceTables nodes → HasChanceTables others
  tables_kept c = record {
    positive = λ v e. let n = not_x v Chance e decision_chance in subst (λ m. 0 < m) (sym (chance_same v n)) (c.positive v (sym (else_of v n) ∙ e));
    table = λ v e. let n = not_x v Chance e decision_chance in
        table_there nodes others r.len states_at parents_at v (chance_total others v) (node_at others v).cells
        (subst (λ m. IsTable (node_at others v).cells (rows_of nodes v) (states_of nodes v) m) (sym (chance_same v n))
        (subst (λ z. IsTable z (rows_of nodes v) (states_of nodes v) (chance_total nodes v)) (sym (ap (λ m. m.cells) (r.else v n))) (c.table v (sym (else_of v n) ∙ e))));
  }

  -- ---- what is requisite there was so here
  live_back : (v : ℕ) → IsLive others v → IsLive nodes v
  live_back v l = record { within = subst (λ n. v < n) r.len l.within; states = at l.states }
    where
      at : ((node_at others v).kind ≡ Utility) ⊎ (1 < states_of others v) → ((node_at nodes v).kind ≡ Utility) ⊎ (1 < states_of nodes v)
      at (inl e) = inl (utility_back v e)
      at (inr m) = inr (subst (λ n. 1 < n) (states_at v) m)

  fixed_back : (d y u : ℕ) → IsInFamilyBut (Arc others) d y u ↔ IsInFamilyBut (Arc nodes) d y u
  fixed_back d y u = (here, there)
    where
      here : IsInFamilyBut (Arc others) d y u → IsInFamilyBut (Arc nodes) d y u
      here (inl e) = inl e
      here (inr a) = inr (arc_back nodes others r.len states_at parents_at u d a.0, a.1)

      there : IsInFamilyBut (Arc nodes) d y u → IsInFamilyBut (Arc others) d y u
      there (inl e) = inl e
      there (inr a) = inr (arc_there nodes others r.len states_at parents_at u d a.0, a.1)

  pub requisite_back : (d y : ℕ) → IsDecision nodes d → IsRequisite others d y → IsRequisite nodes d y
  requisite_back d y kd q = record {
    live = live_back y q.live;
    goal = q.goal;
    is_goal = record {
      within = subst (λ n. q.goal < n) r.len q.is_goal.within;
      kind = utility_back q.goal q.is_goal.kind;
      owner = owns_back (agent_of nodes d) q.goal q.is_goal.kind (subst (λ m. Owns others m.owner q.goal) (r.else d (decision_not_x d kd)) q.is_goal.owner);
      below = descends_back nodes others r.len states_at parents_at d q.goal q.is_goal.below;
    };
    walk = reached_map (Arc others) (Arc nodes) (arc_back nodes others r.len states_at parents_at) (arc_there nodes others r.len states_at parents_at) (IsLive others) (IsLive nodes) (IsInFamilyBut (Arc others) d y) (IsInFamilyBut (Arc nodes) d y) live_back (fixed_back d y) y q.goal q.walk;
  }

  pub unreached_there : (other : ℕ) → IsUnreached nodes other x → IsUnreached others other x
  unreached_there other far u l k o h =
      far u (subst (λ n. u < n) r.len l) (utility_back u k)
      (owns_back other u k o) (descends_back nodes others r.len states_at parents_at x u h)

  -- ---- x's table as a rule
  abbrev pub own_weights : List ℕ
  own_weights = map nat_abs (node_at nodes x).cells

  pub own_table : HasChanceTables nodes → IsTable (map pos (map nat_abs (node_at nodes x).cells)) (rows_of others x) (states_of others x) (chance_total nodes x)
  own_table c =
      table_there nodes others r.len states_at parents_at x (chance_total nodes x) (map pos own_weights)
      (subst (λ z. IsTable z (rows_of nodes x) (states_of nodes x) (chance_total nodes x)) (sym (abs_cells (node_at nodes x).cells (c.table x k).not_negative)) (c.table x k))

  -- q has p's rules, and x's table as the rule of x
  pub record Fills (p q : List RuleView) : Type 0 where
    pub weights : (v : ℕ) → IsDecision nodes v → weights_of q v ≡ weights_of p v
    pub total : (v : ℕ) → IsDecision nodes v → rule_total q v ≡ rule_total p v
    pub own_weights : weights_of q x ≡ map nat_abs (node_at nodes x).cells
    pub own_total : rule_total q x ≡ chance_total nodes x

  module _ (c : HasChanceTables nodes) (has : (v : ℕ) → 0 < states_of nodes v) (p q : List RuleView) (h : Fills p q) where
    -- the tables are the same
    table_filled : (v : ℕ) → v < length nodes → (w : World) → table others q v w ≡ table nodes p v w
    table_filled v l w = go (ℕ_discrete v x)
      where
        at_x : table others q x w ≡ table nodes p x w
        at_x =
            (λ i. table_by (kind_x i) (node_at others x).cells (h.own_weights i) (row_same nodes others r.len states_at parents_at x w i * states_at x i + w x))
            ∙ sym (pos_at (map nat_abs (node_at nodes x).cells) (cell_of nodes x w))
            ∙ ap (λ cs. slice_index_or cs (cell_of nodes x w) (pos 0)) (abs_cells (node_at nodes x).cells (c.table x k).not_negative)
            ∙ (λ i. table_by (sym k i) (node_at nodes x).cells (weights_of p x) (cell_of nodes x w))

        go : Dec (v ≡ x) → table others q v w ≡ table nodes p v w
        go (yes e) = subst (λ u. table others q u w ≡ table nodes p u w) (sym e) at_x
        go (no n) =
            (λ i. table_by (r.else v n i).kind (r.else v n i).cells (weights_of q v) (row_same nodes others r.len states_at parents_at v w i * states_at v i + w v))
            ∙ table_same (node_at nodes v).kind (node_at nodes v).cells (weights_of q v) (weights_of p v) (cell_of nodes v w) (λ e. h.weights v (record { within = l; kind = e }))

    value_same : (other v : ℕ) (w : World) → value_for others other v w ≡ value_for nodes other v w
    value_same other v w = go (ℕ_discrete v x)
      where
        none : (b : Bool) (z : ℤ) → b ≡ false → cond b z (pos 0) ≡ pos 0
        none true z e = cc
        none false z e = refl

        no_value : (ns : List NodeView) (d : Kind) → (node_at ns v).kind ≡ d → is_utility d ≡ false → value_for ns other v w ≡ pos 0
        no_value ns d e f = none (is_utility_of ns other v) (slice_index_or (node_at ns v).cells (row_of ns v w) (pos 0)) (ap (λ a. is_utility a && owns ns other v) e ∙ ap (λ b. b && owns ns other v) f)

        go : Dec (v ≡ x) → value_for others other v w ≡ value_for nodes other v w
        go (yes e) = no_value others Decision (ap (λ u. (node_at others u).kind) e ∙ kind_x) refl ∙ sym (no_value nodes Chance (ap (λ u. (node_at nodes u).kind) e ∙ k) refl)
        go (no n) = λ i. cond (is_utility (r.else v n i).kind && list_any (λ a. a == other) ((r.else v n i).owner ∷ (r.else v n i).more)) (slice_index_or (r.else v n i).cells (row_same nodes others r.len states_at parents_at v w i) (pos 0)) (pos 0)

    pub gain_filled : (other : ℕ) → gain_of others q other ≡ gain_of nodes p other
    gain_filled other = gain_between nodes others r.len p q other has (states_same nodes others r.len states_at parents_at) (λ v l w i. table_filled v l w) (value_same other)

    pub mass_filled : mass others q ≡ mass nodes p
    mass_filled = mass_between nodes others r.len p q (λ v. go v (ℕ_discrete v x))
      where
        by_kind : (d : Kind) (a m n : ℕ) → (d ≡ Decision → m ≡ n) → total_by d a m ≡ total_by d a n
        by_kind Chance a m n e = refl
        by_kind Decision a m n e = e refl
        by_kind Utility a m n e = refl

        at_x : weight_total others q x ≡ weight_total nodes p x
        at_x = (λ i. total_by (kind_x i) (chance_total others x) (h.own_total i)) ∙ (λ i. total_by (sym k i) (chance_total nodes x) (rule_total p x))

        go : (v : ℕ) → Dec (v ≡ x) → weight_total others q v ≡ weight_total nodes p v
        go v (yes e) = subst (λ u. weight_total others q u ≡ weight_total nodes p u) (sym e) at_x
        go v (no n) = (λ i. total_by (else_of v n i) (chance_same v n i) (rule_total q v)) ∙ by_kind (node_at nodes v).kind (chance_total nodes v) (rule_total q v) (rule_total p v) (λ e. h.total v (decision_of nodes v e))
