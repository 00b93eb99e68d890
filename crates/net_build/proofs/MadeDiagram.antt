-- The nodes that are made of fitting heads, parents and tables are a diagram.
use Rattle.std.proofs.Common.{◌≡◌, ◌≢◌, ◌⊎◌, inl, inr, ℕ, ◌+◌, ◌*◌, ◌<◌, ◌≤◌, ℤ, pos, nat_abs, List, [], ◌∷◌, length, get_or, map, filter, fold, sum, All, Contains, refl, ap, sym, ◌∙◌, subst, arith}
use Rattle.std.proofs.lemmas.Bool.{cases_lt}
use Rattle.std.proofs.lemmas.List.{get_or_past}
use Rattle.std.proofs.lemmas.List.Elements.{All-nil}
use Rattle.std.proofs.lemmas.List.FromFn.{get_or-map-range_with_len, length-map-range_with_len}
use Rattle.std.proofs.lemmas.Nat.{mul-lt}
use Rattle.std.specs.List.{range_with_len}
use Rattle.diagram_graph.specs.Cycles.{ListedArc}
use Rattle.maid_model.specs.declared.diagrams.Kind.{Kind}
use Rattle.maid_model.specs.declared.diagrams.Kind.TheVariants.{Chance, Decision, Utility}
use Rattle.maid_model.specs.Diagrams.{IsDiagram, HasOwners, HasValues, KeepsLimits, greatest_number}
use Rattle.maid_model.specs.Graph.{Arc, IsAcyclic, AllDifferent, IsGraph}
use Rattle.maid_model.specs.Nodes.{node_at, no_node, states_of, rows_of, rows_under, decisions_of, is_decision}
use Rattle.finite_sums.specs.Sums.{sum_below, nat_sum_over}
use Rattle.maid_model.specs.Tables.{chance_total, IsTable, HasChanceTables}
use Rattle.maid_model.specs.Views.{NodeView}
use Rattle.net_build.specs.declared.nodes.Head.{Head}
use Rattle.net_build.specs.Stages.{AreLinks, FitsTable, TablesFit, head_at, no_head, head_rows, cells_of_head, made_at, made_nodes}

-- a head within the limits
pub record HeadFits (h : Head) : Type 0 where
  pub some : 0 < h.states
  pub many : h.states ≤ 256
  pub utility : h.kind ≡ Utility → h.states ≡ 1
  pub chance : h.kind ≡ Chance → h.owner ≡ 0

-- owners that fit a node of that kind, among so many agents
pub record OwnersFit (kind : Kind) (owner : ℕ) (more : List ℕ) (agents : ℕ) : Type 0 where
  pub known : kind ≢ Chance → All (λ a. a < agents) (owner ∷ more)
  pub differ : AllDifferent (owner ∷ more)
  pub one : kind ≢ Utility → more ≡ []

-- heads, further owners, parents and tables that fit one another
pub record Fits (heads : List Head) (more parents : List (List ℕ)) (cells : List (List ℤ)) (agents decimals : ℕ) : Type 0 where
  pub more_len : length more ≡ length heads
  pub parents_len : length parents ≡ length heads
  pub cells_len : length cells ≡ length heads
  pub heads_fit : (v : ℕ) → HeadFits (head_at heads v)
  pub owners : (v : ℕ) → v < length heads → OwnersFit (head_at heads v).kind (head_at heads v).owner (get_or more v []) agents
  pub count : length heads ≤ 256
  pub few_agents : agents ≤ 16
  pub links : AreLinks heads parents
  pub tables : TablesFit heads parents cells
  pub few : decimals ≤ 30

-- a sum from a number on
fold_plus : (a : ℕ) (xs : List ℕ) → fold ◌+◌ a xs ≡ a + fold ◌+◌ 0 xs
fold_plus a [] = omega arith
fold_plus a (x ∷ xs) = let one = fold_plus (a + x) xs in let other = fold_plus (0 + x) xs in omega arith

-- a sum over a list, as the diagram's word for it has it
sum_over_is : (f : ℕ → ℕ) (xs : List ℕ) → nat_sum_over f xs ≡ sum (map f xs)
sum_over_is f [] = refl
sum_over_is f (x ∷ xs) = let rest = sum_over_is f xs in let first = fold_plus (0 + f x) (map f xs) in omega arith

pub rows_positive : (count : ℕ → ℕ) → ((u : ℕ) → 0 < count u) → (us : List ℕ) → 0 < rows_under count us
rows_positive count some [] = omega arith
rows_positive count some (u ∷ us) = let product = mul-lt 0 0 (count u) (rows_under count us) (some u) (rows_positive count some us) in product

-- node number v
pub made_node_at : (heads : List Head) (more parents : List (List ℕ)) (cells : List (List ℤ)) → length more ≡ length heads → length parents ≡ length heads → length cells ≡ length heads → (v : ℕ) → node_at (made_nodes heads more parents cells) v ≡ made_at heads more parents cells v
made_node_at heads more parents cells ms ps cs v = by_place (cases_lt v (length heads)) where
  by_place : (v < length heads) ⊎ (length heads ≤ v) → node_at (made_nodes heads more parents cells) v ≡ made_at heads more parents cells v
  by_place (inl h) = get_or-map-range_with_len (made_at heads more parents cells) 0 (length heads) v v no_node h (omega arith)
  by_place (inr h) =
      let n = length-map-range_with_len (made_at heads more parents cells) 0 (length heads) in
      let head : head_at heads v ≡ no_head = get_or_past heads v no_head h in
      let others : get_or more v [] ≡ [] = get_or_past more v [] (omega arith) in
      let these : get_or parents v [] ≡ [] = get_or_past parents v [] (omega arith) in
      let table : get_or cells v [] ≡ [] = get_or_past cells v [] (omega arith) in
      get_or_past (made_nodes heads more parents cells) v no_node (omega arith)
      ∙ sym (λ j. record { kind = (head j).kind; owner = (head j).owner; more = others j; states = (head j).states; parents = these j; cells = table j })

module _ (heads : List Head) (more parents : List (List ℕ)) (cells : List (List ℤ)) (agents decimals : ℕ) (f : Fits heads more parents cells agents decimals) where
  abbrev N : List NodeView
  N = made_nodes heads more parents cells

  at : (v : ℕ) → node_at N v ≡ made_at heads more parents cells v
  at v = made_node_at heads more parents cells f.more_len f.parents_len f.cells_len v

  count_is : length N ≡ length heads
  count_is = length-map-range_with_len (made_at heads more parents cells) 0 (length heads)

  arc_is : (u v : ℕ) → Arc N u v → ListedArc parents u v
  arc_is u v arc = subst (λ (n : NodeView). Contains n.parents u) (at v) arc

  arcs : Arc N ≡ ListedArc parents
  arcs = λ j u v. Contains ((at v j).parents) u

  is_graph : IsGraph N
  is_graph = record {
    parents_known = λ u v arc. subst (λ (n : ℕ). u < n) (sym count_is) (f.links.known u v (arc_is u v arc));
    parents_differ = λ v. subst (λ (n : NodeView). AllDifferent n.parents) (sym (at v)) (f.links.differ v);
    no_utility_parent = λ u v arc. subst (λ (n : NodeView). n.kind ≢ Utility) (sym (at u)) (f.links.no_utility u v (arc_is u v arc));
    has_state = λ v. subst (λ (n : NodeView). 0 < n.states) (sym (at v)) (f.heads_fit v).some;
    utility_states = λ v. subst (λ (n : NodeView). n.kind ≡ Utility → n.states ≡ 1) (sym (at v)) (f.heads_fit v).utility;
    acyclic = subst IsAcyclic (sym arcs) f.links.acyclic;
  }

  no_more : (v : ℕ) → get_or more v [] ≡ [] → AllDifferent ((head_at heads v).owner ∷ get_or more v [])
  no_more v e = subst (λ (m : List ℕ). AllDifferent ((head_at heads v).owner ∷ m)) (sym e) ((λ c. absurd (none c)), tt) where
    none : Contains {X = ℕ} [] (head_at heads v).owner → ⊥
    none (k, l, f) = absurd (omega arith)

  by_place : {P : Type 0} (v : ℕ) → (v < length heads → P) → (length heads ≤ v → P) → P
  by_place {P = P} v inside past = go (cases_lt v (length heads)) where
    go : (v < length heads) ⊎ (length heads ≤ v) → P
    go (inl h) = inside h
    go (inr h) = past h

  owners_are : HasOwners N agents
  owners_are = record {
    agent = λ v a h. subst (λ (n : NodeView). n.kind ≢ Chance → Contains (n.owner ∷ n.more) a → a < agents) (sym (at v))
        (λ k c. subst (λ (x : ℕ). x < agents) c.2 ((f.owners v (subst (λ (n : ℕ). v < n) count_is h)).known k c.0 a c.1));
    differ = λ v. subst (λ (n : NodeView). AllDifferent (n.owner ∷ n.more)) (sym (at v)) (by_place v (λ l. (f.owners v l).differ) (λ m. no_more v (get_or_past more v [] (let e = f.more_len in omega arith))));
    one = λ v. subst (λ (n : NodeView). n.kind ≢ Utility → n.more ≡ []) (sym (at v)) (by_place v (λ l. (f.owners v l).one) (λ m k. get_or_past more v [] (let e = f.more_len in omega arith)));
    chance = λ v. subst (λ (n : NodeView). n.kind ≡ Chance → n.owner ≡ 0) (sym (at v)) (f.heads_fit v).chance;
  }

  rows_is : (v : ℕ) → rows_of N v ≡ head_rows heads parents v
  rows_is v = λ j. rows_under (λ u. (at u j).states) ((at v j).parents)

  size_is : (v : ℕ) → rows_of N v * states_of N v ≡ cells_of_head heads parents v
  size_is v = λ j. rows_is v j * (at v j).states

  kind_is : (v : ℕ) (k : Kind) → (node_at N v).kind ≡ k → (head_at heads v).kind ≡ k
  kind_is v k e = sym (ap (λ (n : NodeView). n.kind) (at v)) ∙ e

  -- a node that is no utility is one of the heads
  within : (v : ℕ) → ((head_at heads v).kind ≡ Utility → ⊥) → v < length heads
  within v other = by_place (cases_lt v (length heads)) where
    by_place : (v < length heads) ⊎ (length heads ≤ v) → v < length heads
    by_place (inl h) = h
    by_place (inr h) = absurd (other (ap (λ (x : Head). x.kind) (get_or_past heads v no_head h)))

  chance_fits : (v : ℕ) → (head_at heads v).kind ≡ Chance → FitsTable Chance (head_rows heads parents v) (head_at heads v).states (get_or cells v [])
  chance_fits v e =
      let other : (head_at heads v).kind ≡ Utility → ⊥ = λ u. let clash : Chance ≡ Utility = sym e ∙ u in cc in
      subst (λ (k : Kind). FitsTable k (head_rows heads parents v) (head_at heads v).states (get_or cells v [])) e (f.tables v (within v other))

  total_is : (v : ℕ) (e : (head_at heads v).kind ≡ Chance) → chance_total N v ≡ (chance_fits v e).0
  total_is v e =
      let fit = chance_fits v e in
      let some : 0 < head_rows heads parents v = rows_positive (λ u. (head_at heads u).states) (λ u. (f.heads_fit u).some) (get_or parents v []) in
      let start : (s : ℕ) → s ≡ 0 * (head_at heads v).states + s = λ s. omega arith in
      (λ j. nat_abs (sum_below (at v j).states (λ s. get_or (at v j).cells s (pos 0))))
      ∙ (λ j. nat_abs (sum_below (head_at heads v).states (λ s. get_or (get_or cells v []) (start s j) (pos 0))))
      ∙ ap nat_abs (fit.3.row 0 some)

  tables_are : HasChanceTables N
  tables_are = record {
    positive = λ v k. let e = kind_is v Chance k in subst (λ (t : ℕ). 0 < t) (sym (total_is v e)) (chance_fits v e).1;
    table = λ v k. let e = kind_is v Chance k in
        subst (λ (n : NodeView). IsTable n.cells (rows_of N v) n.states (chance_total N v)) (sym (at v))
        (subst (λ (r : ℕ). IsTable (get_or cells v []) r (head_at heads v).states (chance_total N v)) (sym (rows_is v))
        (subst (λ (t : ℕ). IsTable (get_or cells v []) (head_rows heads parents v) (head_at heads v).states t) (sym (total_is v e)) (chance_fits v e).3));
  }

  values_are : HasValues N
  values_are = record {
    utility = λ v h k.
        let fit = subst (λ (x : Kind). FitsTable x (head_rows heads parents v) (head_at heads v).states (get_or cells v [])) (kind_is v Utility k) (f.tables v (subst (λ (n : ℕ). v < n) count_is h)) in
        ap (λ (n : NodeView). length n.cells) (at v) ∙ fit.0 ∙ sym (rows_is v);
    decision = λ v k.
        let e = kind_is v Decision k in
        let other : (head_at heads v).kind ≡ Utility → ⊥ = λ u. let clash : Decision ≡ Utility = sym e ∙ u in cc in
        let fit = subst (λ (x : Kind). FitsTable x (head_rows heads parents v) (head_at heads v).states (get_or cells v [])) e (f.tables v (within v other)) in
        ap (λ (n : NodeView). n.cells) (at v) ∙ fit;
  }

  utility_values : (v : ℕ) → (head_at heads v).kind ≡ Utility → All (λ x. nat_abs x ≤ greatest_number) (get_or cells v [])
  utility_values v e = by_place (cases_lt v (length heads)) where
    by_place : (v < length heads) ⊎ (length heads ≤ v) → All (λ x. nat_abs x ≤ greatest_number) (get_or cells v [])
    by_place (inl h) = (subst (λ (x : Kind). FitsTable x (head_rows heads parents v) (head_at heads v).states (get_or cells v [])) e (f.tables v h)).1
    by_place (inr h) = let past = f.cells_len in subst (All (λ x. nat_abs x ≤ greatest_number)) (sym (get_or_past cells v [] (omega arith))) (All-nil (λ x. nat_abs x ≤ greatest_number))

  rules_are : nat_sum_over (λ v. rows_of N v * states_of N v) (decisions_of N) ≡ sum (map (cells_of_head heads parents) (filter (λ v. is_decision (head_at heads v).kind) (range_with_len 0 (length heads))))
  rules_are = (λ j. nat_sum_over (λ v. size_is v j) (filter (λ v. is_decision (at v j).kind) (range_with_len 0 (count_is j)))) ∙ sum_over_is (cells_of_head heads parents) (filter (λ v. is_decision (head_at heads v).kind) (range_with_len 0 (length heads)))

  limits_are : KeepsLimits (record { nodes = N; agents = agents; decimals = decimals })
  limits_are = record {
    nodes = subst (λ (n : ℕ). n ≤ 256) (sym count_is) f.count;
    states = λ v. subst (λ (n : NodeView). n.states ≤ 256) (sym (at v)) (f.heads_fit v).many;
    parents = λ v. subst (λ (n : NodeView). length n.parents ≤ 16) (sym (at v)) (f.links.few v);
    cells = λ v h. subst (λ (n : ℕ). n ≤ 65536) (sym (size_is v)) (f.links.cells v (subst (λ (n : ℕ). v < n) count_is h));
    rules = subst (λ (n : ℕ). n ≤ 262144) (sym rules_are) f.links.rules;
    totals = λ v k. let e = kind_is v Chance k in subst (λ (t : ℕ). t ≤ greatest_number) (sym (total_is v e)) (chance_fits v e).2;
    values = λ v k. subst (λ (n : NodeView). All (λ x. nat_abs x ≤ greatest_number) n.cells) (sym (at v)) (utility_values v (kind_is v Utility k));
    agents = f.few_agents;
    decimals = f.few;
  }

  pub made_is_diagram : IsDiagram (record { nodes = made_nodes heads more parents cells; agents = agents; decimals = decimals })
  made_is_diagram = record { graph = is_graph; owners = owners_are; tables = tables_are; values = values_are; limits = limits_are }
