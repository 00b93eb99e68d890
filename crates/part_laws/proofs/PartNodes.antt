-- The nodes of a part, its arcs, tables and rules.
use Rattle.std.proofs.Common.{◌≡◌, ◌⊎◌, ◌∙◌, ℕ, zero, suc, ◌+◌, ◌*◌, ◌<◌, cond, List, [], ◌∷◌, map, length, slice_index, slice_index_or, refl, sym, ap, subst, inl, inr, arith, pos, nat_abs}
use Rattle.std.proofs.lemmas.List.{length-map}
use Rattle.std.proofs.Math.Decide.{ℕ_discrete, dec_lt}
use Rattle.maid_model.specs.declared.diagrams.Kind.{Kind}
use Rattle.maid_model.specs.declared.diagrams.Kind.TheVariants.{Chance, Decision, Utility}
use Rattle.maid_model.specs.Graph.{Arc, IsPath, Here, Along, Descends, IsGraph, AllDifferent}
use Rattle.maid_model.specs.Nodes.{node_at, no_node, states_of, parents_of, decisions_of, rows_under, rows_of}
use Rattle.maid_model.specs.Profiles.{IsProfile, IsRule}
use Rattle.finite_sums.specs.Sums.{World, sum_below}
use Rattle.maid_model.specs.Tables.{HasChanceTables, IsTable, row_from, row_of, cell_of, table, table_by, weights_of, rule_total, chance_total, weight_total, total_by}
use Rattle.maid_model.specs.Views.{NodeView, RuleView}
use Rattle.maid_model.proofs.Members.{decision_listed}
use Rattle.finite_sums.specs.Members.{Among}
use Rattle.maid_model.specs.Parts.{IsAncestral, place_in, renumbered, part_of, rule_in, rules_in}
use Rattle.maid_laws.proofs.Basis.{table_same}
use Rattle.maid_laws.proofs.Booleans.{eqb_yes, eqb_no}
use Rattle.maid_laws.proofs.Collapse.{Apart}
use Rattle.maid_laws.proofs.Members.{among_of, contains_of, apart_of, arc_of, parent_of}
use Rattle.maid_laws.proofs.Notions.{IsParent}
use Rattle.part_laws.proofs.Places.{at_place, place_below, place_at, among_at, spread}
use Rattle.maid_laws.proofs.Ranks.{past_end, arc_inside}
use Rattle.maid_laws.proofs.Tied.{kind_within, decision_of}

-- a node made of a number, at its place
pub made_at : (f : ℕ → NodeView) (xs : List ℕ) (k : ℕ) → k < length xs → node_at (map f xs) k ≡ f (slice_index xs k)
made_at f [] k l = absurd (omega arith)
made_at f (x ∷ xs) zero l = refl
made_at f (x ∷ xs) (suc k) l = made_at f xs k (omega arith)

-- rules made of numbers
weights_made : (p : List RuleView) (kept ks : List ℕ) (k : ℕ) → Among k ks → weights_of (map (rule_in p kept) ks) k ≡ weights_of p (slice_index kept k)
weights_made p kept [] k m = absurd m
weights_made p kept (j ∷ ks) k m = go (ℕ_discrete j k) m (λ i. weights_made p kept ks k i)
  where
    go : Dec (j ≡ k) → (k ≡ j) ⊎ Among k ks → (Among k ks → weights_of (map (rule_in p kept) ks) k ≡ weights_of p (slice_index kept k)) → weights_of (map (rule_in p kept) (j ∷ ks)) k ≡ weights_of p (slice_index kept k)
    go (yes e) i r = ap (λ b. cond b (weights_of p (slice_index kept j)) (weights_of (map (rule_in p kept) ks) k)) (eqb_yes j k e) ∙ ap (λ z. weights_of p (slice_index kept z)) e
    go (no n) (inl e) r = absurd (n (sym e))
    go (no n) (inr i) r = ap (λ b. cond b (weights_of p (slice_index kept j)) (weights_of (map (rule_in p kept) ks) k)) (eqb_no j k n) ∙ r i

total_made : (p : List RuleView) (kept ks : List ℕ) (k : ℕ) → Among k ks → rule_total (map (rule_in p kept) ks) k ≡ rule_total p (slice_index kept k)
total_made p kept [] k m = absurd m
total_made p kept (j ∷ ks) k m = go (ℕ_discrete j k) m (λ i. total_made p kept ks k i)
  where
    go : Dec (j ≡ k) → (k ≡ j) ⊎ Among k ks → (Among k ks → rule_total (map (rule_in p kept) ks) k ≡ rule_total p (slice_index kept k)) → rule_total (map (rule_in p kept) (j ∷ ks)) k ≡ rule_total p (slice_index kept k)
    go (yes e) i r = ap (λ b. cond b (rule_total p (slice_index kept j)) (rule_total (map (rule_in p kept) ks) k)) (eqb_yes j k e) ∙ ap (λ z. rule_total p (slice_index kept z)) e
    go (no n) (inl e) r = absurd (n (sym e))
    go (no n) (inr i) r = ap (λ b. cond b (rule_total p (slice_index kept j)) (rule_total (map (rule_in p kept) ks) k)) (eqb_no j k n) ∙ r i

decisions_made : (p : List RuleView) (kept ks : List ℕ) → map (λ r. r.decision) (map (rule_in p kept) ks) ≡ ks
decisions_made p kept [] = refl
decisions_made p kept (k ∷ ks) = ap (λ l. k ∷ l) (decisions_made p kept ks)

-- members of a mapped list
mapped : (f : ℕ → ℕ) (u : ℕ) (us : List ℕ) → Among u us → Among (f u) (map f us)
mapped f u [] m = absurd m
mapped f u (x ∷ us) (inl e) = inl (ap f e)
mapped f u (x ∷ us) (inr m) = inr (mapped f u us m)

unmapped : (f : ℕ → ℕ) (j : ℕ) (us : List ℕ) → Among j (map f us) → (u : ℕ) × Among u us × (j ≡ f u)
unmapped f j [] m = absurd m
unmapped f j (x ∷ us) (inl e) = (x, inl refl, e)
unmapped f j (x ∷ us) (inr m) = let r = unmapped f j us m in (r.0, inr r.1, r.2)

-- what is used of a closed list
pub record Closed (nodes : List NodeView) (kept : List ℕ) : Type 0 where
  pub apart : Apart kept
  pub within : (v : ℕ) → Among v kept → v < length nodes
  pub parents : (u v : ℕ) → IsParent nodes u v → Among v kept → Among u kept

pub closed_of : (nodes : List NodeView) (kept : List ℕ) → IsAncestral nodes kept → Closed nodes kept
closed_of nodes kept c = record {
  apart = apart_of kept c.once;
  within = λ v m. c.within v (contains_of v kept m);
  parents = λ u v a m. among_of u kept (c.parents u v (arc_of nodes u v a) (contains_of v kept m));
}

module _ (nodes : List NodeView) (kept : List ℕ) (c : Closed nodes kept) where
  abbrev pub part : List NodeView
  part = part_of nodes kept

  -- the old number
  abbrev pub old : ℕ → ℕ
  old k = slice_index kept k

  -- the new one
  abbrev pub new : ℕ → ℕ
  new v = place_in kept v

  pub length_part : length part ≡ length kept
  length_part = length-map kept (λ v. renumbered kept (node_at nodes v))

  pub inside : (k : ℕ) → k < length part → k < length kept
  inside k l = let e : length part ≡ length kept = length_part in omega arith

  pub outside : (k : ℕ) → k < length kept → k < length part
  outside k l = let e : length part ≡ length kept = length_part in omega arith

  pub node_is : (k : ℕ) → k < length kept → node_at part k ≡ renumbered kept (node_at nodes (old k))
  node_is k l = made_at (λ v. renumbered kept (node_at nodes v)) kept k l

  pub node_new : (v : ℕ) → Among v kept → node_at part (new v) ≡ renumbered kept (node_at nodes v)
  node_new v m = node_is (new v) (place_below kept v m) ∙ ap (λ u. renumbered kept (node_at nodes u)) (at_place kept v m)

  pub states_is : (k : ℕ) → k < length kept → states_of part k ≡ states_of nodes (old k)
  states_is k l = ap (λ n. n.states) (node_is k l)

  pub states_new : (v : ℕ) → Among v kept → states_of part (new v) ≡ states_of nodes v
  states_new v m = ap (λ n. n.states) (node_new v m)

  pub kind_is : (k : ℕ) → k < length kept → (node_at part k).kind ≡ (node_at nodes (old k)).kind
  kind_is k l = ap (λ n. n.kind) (node_is k l)

  pub old_in : (k : ℕ) → k < length kept → Among (old k) kept
  old_in k l = among_at kept k l

  parents_in : (k : ℕ) → k < length kept → (u : ℕ) → Among u (parents_of nodes (old k)) → Among u kept
  parents_in k l u a = c.parents u (old k) a (old_in k l)

  -- ---- rows
  rows_new : (us : List ℕ) → ((u : ℕ) → Among u us → Among u kept) → rows_under (states_of part) (map (place_in kept) us) ≡ rows_under (states_of nodes) us
  rows_new [] h = refl
  rows_new (u ∷ us) h = λ i. states_new u (h u (inl refl)) i * rows_new us (λ x m. h x (inr m)) i

  pub rows_is : (k : ℕ) → k < length kept → rows_of part k ≡ rows_of nodes (old k)
  rows_is k l = ap (λ n. rows_under (states_of part) n.parents) (node_is k l) ∙ rows_new (parents_of nodes (old k)) (parents_in k l)

  row_new : (x : World) (us : List ℕ) → ((u : ℕ) → Among u us → Among u kept) → (r : ℕ) → row_from (states_of part) x r (map (place_in kept) us) ≡ row_from (states_of nodes) (spread kept x) r us
  row_new x [] h r = refl
  row_new x (u ∷ us) h r =
      ap (λ n. row_from (states_of part) x (r * n + x (place_in kept u)) (map (place_in kept) us)) (states_new u (h u (inl refl)))
      ∙ row_new x us (λ y m. h y (inr m)) (r * states_of nodes u + x (place_in kept u))

  pub row_is : (x : World) (k : ℕ) → k < length kept → row_of part k x ≡ row_of nodes (old k) (spread kept x)
  row_is x k l = ap (λ n. row_from (states_of part) x 0 n.parents) (node_is k l) ∙ row_new x (parents_of nodes (old k)) (parents_in k l) 0

  pub state_is : (x : World) (k : ℕ) → k < length kept → x k ≡ spread kept x (old k)
  state_is x k l = ap x (sym (place_at kept c.apart k l))

  cell_is : (x : World) (k : ℕ) → k < length kept → cell_of part k x ≡ cell_of nodes (old k) (spread kept x)
  cell_is x k l = λ i. row_is x k l i * states_is k l i + state_is x k l i

  -- ---- rules and tables
  module _ (p : List RuleView) where
    abbrev pub rules : List RuleView
    rules = rules_in nodes p kept

    decision_in : (k : ℕ) → k < length kept → (node_at nodes (old k)).kind ≡ Decision → Among k (decisions_of part)
    decision_in k l e = decision_listed part k (record { within = outside k l; kind = kind_is k l ∙ e })

    pub weights_is : (k : ℕ) → k < length kept → (node_at nodes (old k)).kind ≡ Decision → weights_of rules k ≡ weights_of p (old k)
    weights_is k l e = weights_made p kept (decisions_of part) k (decision_in k l e)

    pub total_is : (k : ℕ) → k < length kept → (node_at nodes (old k)).kind ≡ Decision → rule_total rules k ≡ rule_total p (old k)
    total_is k l e = total_made p kept (decisions_of part) k (decision_in k l e)

    pub table_is : (x : World) (k : ℕ) → k < length kept → table part rules k x ≡ table nodes p (old k) (spread kept x)
    table_is x k l =
        (λ i. table_by (node_is k l i).kind (node_is k l i).cells (weights_of rules k) (cell_is x k l i))
        ∙ table_same (node_at nodes (old k)).kind (node_at nodes (old k)).cells (weights_of rules k) (weights_of p (old k)) (cell_of nodes (old k) (spread kept x)) (weights_is k l)

    pub chance_is : (k : ℕ) → k < length kept → chance_total part k ≡ chance_total nodes (old k)
    chance_is k l = ap (λ n. nat_abs (sum_below n.states (λ s. slice_index_or n.cells s (pos 0)))) (node_is k l)

    total_same : (k : Kind) (a x y : ℕ) → (k ≡ Decision → x ≡ y) → total_by k a x ≡ total_by k a y
    total_same Chance a x y h = refl
    total_same Decision a x y h = h refl
    total_same Utility a x y h = refl

    pub weight_total_is : (k : ℕ) → k < length kept → weight_total part rules k ≡ weight_total nodes p (old k)
    weight_total_is k l =
        (λ i. total_by (kind_is k l i) (chance_is k l i) (rule_total rules k))
        ∙ total_same (node_at nodes (old k)).kind (chance_total nodes (old k)) (rule_total rules k) (rule_total p (old k)) (total_is k l)

    pub profile_is : IsProfile nodes p → IsProfile part rules
    profile_is h = record {
      decisions = decisions_made p kept (decisions_of part);
      rule = λ k d. rule k (inside k d.within) (sym (kind_is k (inside k d.within)) ∙ d.kind);
    }
      where
        rule : (k : ℕ) → k < length kept → (node_at nodes (old k)).kind ≡ Decision → IsRule part (record { decision = k; total = rule_total rules k; weights = weights_of rules k })
        rule k l e =
            let r : IsRule nodes (record { decision = old k; total = rule_total p (old k); weights = weights_of p (old k) }) = h.rule (old k) (decision_of nodes (old k) e) in
            record {
              positive = subst (λ t. 0 < t) (sym (total_is k l e)) r.positive;
              table = subst (λ t. t) (λ i. IsTable (map pos (sym (weights_is k l e) i)) (sym (rows_is k l) i) (sym (states_is k l) i) (sym (total_is k l e) i)) r.table;
            }

  pub tables_are : HasChanceTables nodes → HasChanceTables part
  tables_are h = record {
    positive = λ k e. positive k (low k e) (sym (kind_is k (low k e)) ∙ e);
    table = λ k e. at k (low k e) (sym (kind_is k (low k e)) ∙ e);
  }
    where
      low : (k : ℕ) → (node_at part k).kind ≡ Chance → k < length kept
      low k e = inside k (kind_within part k (λ f. not_both (sym e ∙ f)))
        where
          not_both : Chance ≡ Utility → ⊥
          not_both e = cc

      positive : (k : ℕ) → k < length kept → (node_at nodes (old k)).kind ≡ Chance → 0 < chance_total part k
      positive k l e = subst (λ t. 0 < t) (sym (chance_is [] k l)) (h.positive (old k) e)

      at : (k : ℕ) → k < length kept → (node_at nodes (old k)).kind ≡ Chance → IsTable (node_at part k).cells (rows_of part k) (states_of part k) (chance_total part k)
      at k l e = subst (λ t. t) (λ i. IsTable (sym (node_is k l) i).cells (sym (rows_is k l) i) (sym (states_is k l) i) (sym (chance_is [] k l) i)) (h.table (old k) e)

  -- ---- arcs and paths
  arc_low : (j k : ℕ) → IsParent part j k → k < length kept
  arc_low j k a = inside k (arc_inside part j k a)

  pub arc_old : (j k : ℕ) → IsParent part j k → (j < length kept) × IsParent nodes (old j) (old k)
  arc_old j k a =
      let l : k < length kept = arc_low j k a in
      let r = unmapped (place_in kept) j (parents_of nodes (old k)) (subst (λ n. Among j n.parents) (node_is k l) a) in
      let m : Among r.0 kept = parents_in k l r.0 r.1 in
      (subst (λ z. z < length kept) (sym r.2) (place_below kept r.0 m), subst (λ z. IsParent nodes z (old k)) (sym (ap (slice_index kept) r.2 ∙ at_place kept r.0 m)) r.1)

  pub arc_new : (u v : ℕ) → IsParent nodes u v → Among v kept → IsParent part (new u) (new v)
  arc_new u v a m = subst (λ n. Among (new u) n.parents) (sym (node_new v m)) (mapped (place_in kept) u (parents_of nodes v) a)

  pub path_old : {to from : ℕ} → IsPath (Arc part) from to → IsPath (Arc nodes) (old from) (old to)
  path_old Here = Here
  path_old (Along {u = u} {v = v} a h) = Along (arc_of nodes (old u) (old v) (arc_old u v (parent_of part u v a)).1) (path_old h)

  pub path_in : {to from : ℕ} → IsPath (Arc nodes) from to → Among to kept → Among from kept
  path_in Here m = m
  path_in (Along {u = u} {v = v} a h) m = c.parents u v (parent_of nodes u v a) (path_in h m)

  pub path_new : {to from : ℕ} → IsPath (Arc nodes) from to → Among to kept → IsPath (Arc part) (new from) (new to)
  path_new Here m = Here
  path_new (Along {u = u} {v = v} a h) m = Along (arc_of part (new u) (new v) (arc_new u v (parent_of nodes u v a) (path_in h m))) (path_new h m)

  pub descends_old : (j k : ℕ) → Descends (Arc part) j k → Descends (Arc nodes) (old j) (old k)
  descends_old j k (n, a, h) = (old n, arc_of nodes (old j) (old n) (arc_old j n (parent_of part j n a)).1, path_old h)

  pub descends_new : (u v : ℕ) → Descends (Arc nodes) u v → Among v kept → Descends (Arc part) (new u) (new v)
  descends_new u v (n, a, h) m = (new n, arc_of part (new u) (new n) (arc_new u n (parent_of nodes u n a) (path_in h m)), path_new h m)

  -- distinct members have distinct places
  avoids_place : (x : ℕ) (us : List ℕ) → Among x kept → ((u : ℕ) → Among u us → Among u kept) → ¬ (Among x us) → ¬ (Among (new x) (map (place_in kept) us))
  avoids_place x us mx h n m =
      let r = unmapped (place_in kept) (new x) us m in
      n (subst (λ z. Among z us) (sym (sym (at_place kept x mx) ∙ ap (slice_index kept) r.2 ∙ at_place kept r.0 (h r.0 r.1))) r.1)

  places_differ : (us : List ℕ) → ((u : ℕ) → Among u us → Among u kept) → AllDifferent us → AllDifferent (map (place_in kept) us)
  places_differ [] h d = tt
  places_differ (x ∷ us) h d =
      ((λ k. avoids_place x us (h x (inl refl)) (λ u m. h u (inr m)) (λ m. d.0 (contains_of x us m)) (among_of (new x) (map (place_in kept) us) k)), places_differ us (λ u m. h u (inr m)) d.1)

  pub graph_is : IsGraph nodes → IsGraph part
  graph_is g = record {
    parents_known = λ u v a. outside u (arc_old u v (parent_of part u v a)).0;
    parents_differ = λ v. differ v (dec_lt v (length kept));
    no_utility_parent = λ u v a e. let r = arc_old u v (parent_of part u v a) in g.no_utility_parent (old u) (old v) (arc_of nodes (old u) (old v) r.1) (sym (kind_is u r.0) ∙ e);
    has_state = λ v. states v (dec_lt v (length kept));
    utility_states = λ v e. utility v e (dec_lt v (length kept));
    acyclic = λ v d. g.acyclic (old v) (descends_old v v d);
  }
    where
      past : (v : ℕ) → ¬ (v < length kept) → node_at part v ≡ no_node
      past v n = past_end part v (let e : length part ≡ length kept = length_part in omega arith)

      differ : (v : ℕ) → Dec (v < length kept) → AllDifferent (parents_of part v)
      differ v (yes l) = subst (λ n. AllDifferent n.parents) (sym (node_is v l)) (places_differ (parents_of nodes (old v)) (parents_in v l) (g.parents_differ (old v)))
      differ v (no n) = subst (λ x. AllDifferent x.parents) (sym (past v n)) tt

      states : (v : ℕ) → Dec (v < length kept) → 0 < states_of part v
      states v (yes l) = subst (λ n. 0 < n) (sym (states_is v l)) (g.has_state (old v))
      states v (no n) = subst (λ x. 0 < x.states) (sym (past v n)) (omega arith)

      utility : (v : ℕ) → (node_at part v).kind ≡ Utility → Dec (v < length kept) → states_of part v ≡ 1
      utility v e (yes l) = states_is v l ∙ g.utility_states (old v) (sym (kind_is v l) ∙ e)
      utility v e (no n) = ap (λ x. x.states) (past v n)
