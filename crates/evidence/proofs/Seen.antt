-- The nodes of the diagram in which every decision sees x: all but the decisions' parents stay.
use Rattle.std.proofs.Common.{◌≡◌, ◌⊎◌, ◌∙◌, ℕ, zero, suc, ◌+◌, ◌*◌, ◌<◌, ◌≤◌, Bool, true, false, cond, ◌&&◌, not, List, [], ◌∷◌, ◌++◌, All, Contains, ℤ, length, slice_index_or, refl, sym, ap, subst, inl, inr, arith, pos, nat_abs, length-append, eqb}
use Rattle.std.proofs.lemmas.List.{length-map}
use Rattle.std.proofs.Math.Nat.{mul_assoc, mul_comm}
use Rattle.std.proofs.Math.ListN.{get_or-map}
use Rattle.std.proofs.Math.Decide.{dec_lt, ℕ_discrete}
use Rattle.std.proofs.Math.Path.{fun_ext}
use Rattle.std.specs.List.{list_any, range_with_len}
use Rattle.finite_sums.specs.Members.{Among}
use Rattle.finite_sums.specs.Sums.{nat_sum_over, sum_below}
use Rattle.finite_sums.proofs.Lists.{among_filter}
use Rattle.maid_model.specs.declared.diagrams.Kind.{Kind}
use Rattle.maid_model.specs.declared.diagrams.Kind.TheVariants.{Chance, Decision, Utility}
use Rattle.maid_model.specs.declared.limits.TheConstants.{MOST_CELLS, MOST_PARENTS, MOST_RULE_CELLS, MOST_STATES}
use Rattle.node_sets.specs.declared.sets.TheConstants.{MOST_NODES}
use Rattle.maid_model.specs.Diagrams.{HasOwners, HasValues, IsDiagram, KeepsLimits, greatest_number}
use Rattle.maid_model.specs.Graph.{AllDifferent}
use Rattle.maid_model.specs.Nodes.{IsDecision, decisions_of, is_decision, no_node, node_at, numbers_of, owners_of, parents_of, rows_of, rows_under, states_of}
use Rattle.maid_model.specs.Tables.{chance_total}
use Rattle.maid_model.specs.Views.{NodeView, DiagramView}
use Rattle.maid_laws.proofs.Ranks.{past_end}
use Rattle.maid_laws.proofs.Rearranged.{numbered}
use Rattle.diagram_graph.specs.Room.{cells_at, rule_cells, rule_cells_at}
use Rattle.reach_laws.specs.Evidence.{IsEvidence, SeenEverywhere, all_seeing, all_seeing_diagram, seeing}
use Rattle.scope_sums.proofs.Shares.{passing_sizes}
use Rattle.evidence.specs.Rules.{KeepsRules}
use Rattle.evidence.specs.Sights.{HasOwnCells, KeepsOwnRule, adds}

-- the test of a decision
pub kind_of : (k : Kind) → is_decision k ≡ true → k ≡ Decision
kind_of Chance h = cc
kind_of Decision h = refl
kind_of Utility h = cc

module _ (nodes : List NodeView) (x : ℕ) where
  abbrev pub others : List NodeView
  others = all_seeing nodes x

  node_is : (v : ℕ) → node_at others v ≡ seeing x (node_at nodes v)
  node_is v = get_or-map (seeing x) nodes v no_node

  -- all but the parents stay
  kept : {A : Type 0} (f : NodeView → A) → ((n : NodeView) → f (record { kind = n.kind; owner = n.owner; more = n.more; states = n.states; parents = n.parents ++ x ∷ []; cells = n.cells }) ≡ f n) → (v : ℕ) → f (node_at others v) ≡ f (node_at nodes v)
  kept f same v = ap f (node_is v) ∙ go (adds nodes x v)
    where
      go : (b : Bool) → f (cond b (record { kind = (node_at nodes v).kind; owner = (node_at nodes v).owner; more = (node_at nodes v).more; states = (node_at nodes v).states; parents = (node_at nodes v).parents ++ x ∷ []; cells = (node_at nodes v).cells }) (node_at nodes v)) ≡ f (node_at nodes v)
      go true = same (node_at nodes v)
      go false = refl

  pub kind_same : (v : ℕ) → (node_at others v).kind ≡ (node_at nodes v).kind
  kind_same = kept (λ n. n.kind) (λ n. refl)

  more_same : (v : ℕ) → (node_at others v).more ≡ (node_at nodes v).more
  more_same = kept (λ n. n.more) (λ n. refl)

  owner_same : (v : ℕ) → (node_at others v).owner ≡ (node_at nodes v).owner
  owner_same = kept (λ n. n.owner) (λ n. refl)

  owners_same : (v : ℕ) → owners_of others v ≡ owners_of nodes v
  owners_same = kept (λ n. n.owner ∷ n.more) (λ n. refl)

  pub states_at : (v : ℕ) → states_of others v ≡ states_of nodes v
  states_at = kept (λ n. n.states) (λ n. refl)

  cells_same : (v : ℕ) → (node_at others v).cells ≡ (node_at nodes v).cells
  cells_same = kept (λ n. n.cells) (λ n. refl)

  states_same : ◌≡◌ {A = ℕ → ℕ} (states_of others) (states_of nodes)
  states_same = fun_ext states_at

  pub count_same : length others ≡ length nodes
  count_same = length-map nodes (seeing x)

  pub decision_there : (v : ℕ) → IsDecision nodes v → IsDecision others v
  decision_there v k = record { within = subst (λ n. v < n) (sym count_same) k.within; kind = kind_same v ∙ k.kind }

  -- the parents
  parents_by : (v : ℕ) (b : Bool) → adds nodes x v ≡ b → parents_of others v ≡ cond b (parents_of nodes v ++ x ∷ []) (parents_of nodes v)
  parents_by v b e = ap (λ n. n.parents) (node_is v) ∙ ap (λ b. (seen b).parents) e ∙ by_test b
    where
      seen : Bool → NodeView
      seen b = cond b (record { kind = (node_at nodes v).kind; owner = (node_at nodes v).owner; more = (node_at nodes v).more; states = (node_at nodes v).states; parents = (node_at nodes v).parents ++ x ∷ []; cells = (node_at nodes v).cells }) (node_at nodes v)

      by_test : (b : Bool) → (cond b (record { kind = (node_at nodes v).kind; owner = (node_at nodes v).owner; more = (node_at nodes v).more; states = (node_at nodes v).states; parents = (node_at nodes v).parents ++ x ∷ []; cells = (node_at nodes v).cells }) (node_at nodes v)).parents ≡ cond b (parents_of nodes v ++ x ∷ []) (parents_of nodes v)
      by_test true = refl
      by_test false = refl

  rows_push : (count : ℕ → ℕ) (us : List ℕ) → rows_under count (us ++ x ∷ []) ≡ rows_under count us * count x
  rows_push count [] = turn (count x)
    where
      turn : (n : ℕ) → n * 1 ≡ 1 * n
      turn n = omega arith
  rows_push count (u ∷ us) = ap (λ n. count u * n) (rows_push count us) ∙ sym (mul_assoc (count u) (rows_under count us) (count x))

  -- the parents and the cells where x is added, and where it is not
  pub parents_more : (v : ℕ) → adds nodes x v ≡ true → length (parents_of others v) ≡ length (parents_of nodes v) + 1
  parents_more v e = ap (λ (l : List ℕ). length l) (parents_by v true e) ∙ length-append (parents_of nodes v) (x ∷ [])

  pub parents_same : (v : ℕ) → adds nodes x v ≡ false → parents_of others v ≡ parents_of nodes v
  parents_same v e = parents_by v false e

  pub rows_same : (v : ℕ) → adds nodes x v ≡ false → rows_of others v ≡ rows_of nodes v
  rows_same v e = λ i. rows_under (states_same i) (parents_same v e i)

  pub cells_stay : (v : ℕ) → adds nodes x v ≡ false → cells_at others v ≡ cells_at nodes v
  cells_stay v e = λ i. rows_same v e i * states_at v i

  pub cells_more : (v : ℕ) → adds nodes x v ≡ true → cells_at others v ≡ cells_at nodes v * states_of nodes x
  cells_more v e =
      (λ i. rows_under (states_same i) (parents_by v true e i) * states_at v i)
      ∙ ap (λ n. n * states_of nodes v) (rows_push (states_of nodes) (parents_of nodes v))
      ∙ turn (rows_of nodes v) (states_of nodes x) (states_of nodes v)
    where
      turn : (a b c : ℕ) → a * b * c ≡ a * c * b
      turn a b c = mul_assoc a b c ∙ ap (λ n. a * n) (mul_comm b c) ∙ sym (mul_assoc a c b)

  -- no decision has a parent added that is none
  pub adds_none : (v : ℕ) → ((node_at nodes v).kind ≡ Decision → ⊥) → adds nodes x v ≡ false
  adds_none v n = go (is_decision (node_at nodes v).kind) (λ e. n (kind_of (node_at nodes v).kind e))
    where
      go : (b : Bool) → (b ≡ true → ⊥) → (b && not (list_any (λ u. eqb u x) (node_at nodes v).parents)) ≡ false
      go true h = absurd (h refl)
      go false h = refl

  -- what v adds to the cells of rules
  pub adds_cells : (v : ℕ) → IsDecision others v → cells_at others v ≡ rule_cells_at others v
  adds_cells v k = ap (λ b. cond b (cells_at others v) 0) (sym (ap is_decision k.kind))

-- ---- one rule
module _ (d : DiagramView) (x : ℕ) (is : IsDiagram d) (v : ℕ) where
  -- of a decision that sees x
  pub own_same : IsDecision d.nodes v → adds d.nodes x v ≡ false → (cells : ℕ) → cells ≡ cells_at d.nodes v → HasOwnCells (all_seeing d.nodes x) v cells
  own_same k e cells c = record {
    keeps = record {
      parents = λ _. subst (λ (l : List ℕ). length l ≤ MOST_PARENTS) (sym (parents_same d.nodes x v e)) (is.limits.parents v);
      cells = λ _. subst (λ n. n ≤ MOST_CELLS) (sym (cells_stay d.nodes x v e)) (is.limits.cells v k.within);
    };
    is = c ∙ sym (cells_stay d.nodes x v e) ∙ adds_cells d.nodes x v (decision_there d.nodes x v k);
    few = subst (λ n. n ≤ MOST_CELLS) (sym c) (is.limits.cells v k.within);
  }

  -- of one that doesn't
  module _ (k : IsDecision d.nodes v) (e : adds d.nodes x v ≡ true) where
    pub own_more : (cells : ℕ) → cells ≡ cells_at d.nodes v * states_of d.nodes x → length (parents_of d.nodes v) < MOST_PARENTS → cells ≤ MOST_CELLS → HasOwnCells (all_seeing d.nodes x) v cells
    own_more cells c few l = record {
      keeps = record {
        parents = λ _. subst (λ n. n ≤ MOST_PARENTS) (sym (parents_more d.nodes x v e)) (one_more _ few);
        cells = λ _. subst (λ n. n ≤ MOST_CELLS) (c ∙ sym (cells_more d.nodes x v e)) l;
      };
      is = c ∙ sym (cells_more d.nodes x v e) ∙ adds_cells d.nodes x v (decision_there d.nodes x v k);
      few = l;
    }
      where
        one_more : (n : ℕ) → n < MOST_PARENTS → n + 1 ≤ MOST_PARENTS
        one_more n h = omega (arith, h)

    pub many_cells : (cells : ℕ) → cells ≡ cells_at d.nodes v * states_of d.nodes x → MOST_CELLS < cells → KeepsOwnRule (all_seeing d.nodes x) v → ⊥
    many_cells cells c h keeps = clash _ _ h (subst (λ n. n ≤ MOST_CELLS) (cells_more d.nodes x v e ∙ sym c) (keeps.cells (decision_there d.nodes x v k)))
      where
        clash : (m n : ℕ) → m < n → n ≤ m → ⊥
        clash m n h l = omega (arith, h, l)

-- ---- rule by rule
-- one term more
next_term : (f : ℕ → ℕ) (k n : ℕ) → nat_sum_over f (range_with_len k n) + f (k + n) ≡ nat_sum_over f (range_with_len k (suc n))
next_term f k zero = at_zero (f k) (f (k + 0)) (ap f (zero_more k))
  where
    zero_more : (k : ℕ) → k + 0 ≡ k
    zero_more k = omega arith

    at_zero : (a b : ℕ) → b ≡ a → 0 + b ≡ a + 0
    at_zero a b e = omega (arith, e)
next_term f k (suc n) = regroup (f k) (nat_sum_over f (range_with_len (k + 1) n)) (f (k + suc n)) (f (k + 1 + n)) (ap f (next k n)) ∙ ap (λ m. f k + m) (next_term f (k + 1) n)
  where
    next : (k n : ℕ) → k + suc n ≡ k + 1 + n
    next k n = omega arith

    regroup : (a b c e : ℕ) → c ≡ e → (a + b) + c ≡ a + (b + e)
    regroup a b c e h = omega (arith, h)

-- the rules of the first nodes keep their limits, and have so many cells
pub record AddsUp (nodes : List NodeView) (n cells : ℕ) : Type 0 where
  pub is : cells ≡ nat_sum_over (rule_cells_at nodes) (range_with_len 0 n)
  pub few : cells ≤ n * MOST_CELLS
  pub each : (d : ℕ) → d < n → KeepsOwnRule nodes d

pub adds_next : (nodes : List NodeView) (n cells more : ℕ) → AddsUp nodes n cells → HasOwnCells nodes n more → AddsUp nodes (n + 1) (cells + more)
adds_next nodes n cells more sum own = record {
  is = (λ i. sum.is i + (own.is ∙ ap (rule_cells_at nodes) (from_zero n)) i) ∙ next_term (rule_cells_at nodes) 0 n ∙ ap (λ m. nat_sum_over (rule_cells_at nodes) (range_with_len 0 m)) (later n);
  few = together _ _ _ sum.few own.few;
  each = λ d l. go d l (ℕ_discrete d n);
}
  where
    from_zero : (v : ℕ) → v ≡ 0 + v
    from_zero v = omega arith

    later : (v : ℕ) → suc v ≡ v + 1
    later v = omega arith

    together : (c m n : ℕ) → c ≤ n * MOST_CELLS → m ≤ MOST_CELLS → c + m ≤ (n + 1) * MOST_CELLS
    together c m n h l = omega (arith, h, l)

    go : (d : ℕ) → d < n + 1 → Dec (d ≡ n) → KeepsOwnRule nodes d
    go d l (yes e) = subst (KeepsOwnRule nodes) (sym e) own.keeps
    go d l (no m) = sum.each d (omega (arith, l))

-- ---- all rules
pub rule_cells_are : (nodes : List NodeView) → nat_sum_over (rule_cells_at nodes) (numbers_of nodes) ≡ rule_cells nodes
rule_cells_are nodes = passing_sizes (λ v. is_decision (node_at nodes v).kind) (cells_at nodes) (numbers_of nodes)

-- without a decision there are no cells of rules
pub rules_small : (nodes : List NodeView) → KeepsRules nodes → rule_cells nodes ≤ MOST_RULE_CELLS
rules_small nodes keeps = go (decisions_of nodes) refl
  where
    go : (ds : List ℕ) → ds ≡ decisions_of nodes → nat_sum_over (cells_at nodes) ds ≤ MOST_RULE_CELLS
    go [] e = omega arith
    go (d ∷ ds) e =
        let m = among_filter (λ v. is_decision (node_at nodes v).kind) d (numbers_of nodes) (subst (Among d) e (inl refl)) in
        subst (λ l. nat_sum_over (cells_at nodes) l ≤ MOST_RULE_CELLS) (sym e) (keeps.each d (record { within = numbered nodes d m.0; kind = kind_of (node_at nodes d).kind m.1 })).all

-- the rules that are added up keep the limits where their cells do
pub rules_kept : (nodes : List NodeView) (cells : ℕ) → AddsUp nodes (length nodes) cells → cells ≤ MOST_RULE_CELLS → KeepsRules nodes
rules_kept nodes cells sum few = record {
  each = λ d k. record {
    parents = (sum.each d k.within).parents k;
    cells = (sum.each d k.within).cells k;
    all = subst (λ n. n ≤ MOST_RULE_CELLS) (sum.is ∙ rule_cells_are nodes) few;
  };
}

pub rules_told : (nodes : List NodeView) (cells : ℕ) → AddsUp nodes (length nodes) cells → KeepsRules nodes → cells ≤ MOST_RULE_CELLS
rules_told nodes cells sum keeps = subst (λ n. n ≤ MOST_RULE_CELLS) (sym (sum.is ∙ rule_cells_are nodes)) (rules_small nodes keeps)

-- ---- it is a diagram
module _ (law : SeenEverywhere) (d : DiagramView) (x : ℕ) (is : IsDiagram d) (evidence : IsEvidence d.nodes x) (keeps : KeepsRules (all_seeing d.nodes x)) where
  abbrev all : List NodeView
  all = all_seeing d.nodes x

  seen_owners : HasOwners all d.agents
  seen_owners = record {
    agent = λ v a l k o. is.owners.agent v a (subst (λ n. v < n) (count_same d.nodes x) l) (λ e. k (kind_same d.nodes x v ∙ e)) (subst (λ l. Contains l a) (owners_same d.nodes x v) o);
    differ = λ v. subst AllDifferent (sym (owners_same d.nodes x v)) (is.owners.differ v);
    one = λ v k. more_same d.nodes x v ∙ is.owners.one v (λ e. k (kind_same d.nodes x v ∙ e));
    chance = λ v k. owner_same d.nodes x v ∙ is.owners.chance v (sym (kind_same d.nodes x v) ∙ k);
  }

  seen_values : HasValues all
  seen_values = record {
    utility = λ v l k.
        let f : (node_at d.nodes v).kind ≡ Utility = sym (kind_same d.nodes x v) ∙ k in
        ap (λ (c : List ℤ). length c) (cells_same d.nodes x v) ∙ is.values.utility v (subst (λ n. v < n) (count_same d.nodes x) l) f ∙ sym (rows_same d.nodes x v (adds_none d.nodes x v (λ e. clash (sym f ∙ e))));
    decision = λ v k. cells_same d.nodes x v ∙ is.values.decision v (sym (kind_same d.nodes x v) ∙ k);
  }
    where
      clash : Utility ≡ Decision → ⊥
      clash e = cc

  total_same : (v : ℕ) → chance_total all v ≡ chance_total d.nodes v
  total_same v = λ i. nat_abs (sum_below (states_at d.nodes x v i) (λ s. slice_index_or (cells_same d.nodes x v i) s (pos 0)))

  -- by whether v is a decision
  by_kind : (v : ℕ) → v < length d.nodes → (IsDecision all v) ⊎ (adds d.nodes x v ≡ false)
  by_kind v l = go (node_at d.nodes v).kind refl
    where
      go : (k : Kind) → (node_at d.nodes v).kind ≡ k → (IsDecision all v) ⊎ (adds d.nodes x v ≡ false)
      go Chance e = inr (adds_none d.nodes x v (λ f. let g : Chance ≡ Decision = sym e ∙ f in cc))
      go Decision e = inl (decision_there d.nodes x v (record { within = l; kind = e }))
      go Utility e = inr (adds_none d.nodes x v (λ f. let g : Utility ≡ Decision = sym e ∙ f in cc))

  seen_limits : KeepsLimits (all_seeing_diagram d x)
  seen_limits = record {
    nodes = subst (λ n. n ≤ MOST_NODES) (sym (count_same d.nodes x)) is.limits.nodes;
    states = λ v. subst (λ n. n ≤ MOST_STATES) (sym (states_at d.nodes x v)) (is.limits.states v);
    parents = parents;
    cells = λ v l. elim (by_kind v (subst (λ n. v < n) (count_same d.nodes x) l)) [
      | inl k ↦ (keeps.each v k).cells
      | inr e ↦ subst (λ n. n ≤ MOST_CELLS) (sym (cells_stay d.nodes x v e)) (is.limits.cells v (subst (λ n. v < n) (count_same d.nodes x) l))
    ];
    rules = rules_small all keeps;
    totals = λ v k. subst (λ n. n ≤ greatest_number) (sym (total_same v)) (is.limits.totals v (sym (kind_same d.nodes x v) ∙ k));
    values = λ v k. subst (All (λ z. nat_abs z ≤ greatest_number)) (sym (cells_same d.nodes x v)) (is.limits.values v (sym (kind_same d.nodes x v) ∙ k));
    agents = is.limits.agents;
    decimals = is.limits.decimals;
  }
    where
      parents : (v : ℕ) → length (parents_of all v) ≤ MOST_PARENTS
      parents v = go (dec_lt v (length d.nodes))
        where
          same : adds d.nodes x v ≡ false → length (parents_of all v) ≤ MOST_PARENTS
          same e = subst (λ (l : List ℕ). length l ≤ MOST_PARENTS) (sym (parents_same d.nodes x v e)) (is.limits.parents v)

          past : ¬ (v < length d.nodes) → length d.nodes ≤ v
          past n = omega arith

          plain : Utility ≡ Decision → ⊥
          plain e = cc

          go : Dec (v < length d.nodes) → length (parents_of all v) ≤ MOST_PARENTS
          go (yes l) = elim (by_kind v l) [
            | inl k ↦ (keeps.each v k).parents
            | inr e ↦ same e
          ]
          go (no n) = same (adds_none d.nodes x v (λ f. plain (sym (ap (λ (z : NodeView). z.kind) (past_end d.nodes v (past n))) ∙ f)))

  pub seen_diagram : IsDiagram (all_seeing_diagram d x)
  seen_diagram =
      let seen = law d.nodes x is.graph is.tables evidence in
      record { graph = seen.0; owners = seen_owners; tables = seen.1; values = seen_values; limits = seen_limits }
