-- A list of all chance nodes and decisions, and a subgame start along it.
use Rattle.std.proofs.Common.{◌≡◌, ◌≢◌, ◌⊎◌, ◌∙◌, ℕ, ◌<◌, ◌≤◌, Bool, true, false, cond, not, ◌||◌, eqb, filter, List, [], ◌∷◌, ◌++◌, map, take, drop, length, slice_index, refl, sym, ap, subst, inl, inr, arith, ℤ, pos, ◌*ℤ◌, ◌<ℤ◌}
use Rattle.std.proofs.Math.Path.{fun_ext}
use Rattle.std.specs.Prelude.{Contains}
use Rattle.maid_model.specs.declared.diagrams.Kind.{Kind}
use Rattle.maid_model.specs.declared.diagrams.Kind.TheVariants.{Chance, Decision, Utility}
use Rattle.maid_model.specs.Gains.{sum_worlds, utility}
use Rattle.maid_model.specs.Graph.{Arc, IsGraph}
use Rattle.maid_model.specs.Nodes.{IsDecision, node_at, states_of, numbers_of, is_utility}
use Rattle.maid_model.specs.Subgames.{IsListing, IsHistory, IsSubgameStart, IsReachable, KeepsInformation, AgreeOnParents, agrees, world_of_history, gain_from, mass_from}
use Rattle.finite_sums.specs.Sums.{World, InRange, product_over}
use Rattle.maid_model.specs.Tables.{table, table_by, weights_of, cell_of, weight_total, total_by, chance_total, rule_total}
use Rattle.maid_model.specs.Views.{NodeView, RuleView}
use Rattle.finite_sums.specs.Members.{Among, Shuffled}
use Rattle.finite_sums.proofs.Lists.{among_filter, product_over-shuffled}
use Rattle.finite_sums.proofs.Totals.{product_over-append}
use Rattle.finite_sums.proofs.Ints.{mul_one}
use Rattle.maid_laws.proofs.Booleans.{eqb_yes, eqb_same, bool_same, all_at, at_all}
use Rattle.maid_laws.proofs.Basis.{among_filter_in}
use Rattle.maid_laws.proofs.Collapse.{Apart}
use Rattle.maid_laws.proofs.Histories.{in_start, start_at, in_start_at, history_at, history_range, agrees_at, agrees_all, start_product, at_map, length_first, extends_map, map_extends, among_take}
use Rattle.maid_laws.proofs.Members.{contains_of, among_of, apart_of, among_index, index_of, arc_of, parent_of}
use Rattle.maid_laws.proofs.Notions.{IsParent, IsStart, extends, gain_from_start, mass_from_start}
use Rattle.maid_laws.proofs.Proportions.{kind_of_utility}
use Rattle.maid_laws.proofs.Rearranged.{number, numbered, shuffled_of, apart_append, among_append, among_left, among_right, range_apart, apart_filter}
use Rattle.maid_laws.proofs.Signs.{pos_product}
use Rattle.maid_laws.proofs.Tied.{decision_of}

-- a test that fails does not hold
no_true : false ≡ true → ⊥
no_true e = cc

-- the utilities, in text order
abbrev pub utilities : List NodeView → List ℕ
utilities nodes = filter (λ v. is_utility (node_at nodes v).kind) (numbers_of nodes)

-- kinds can be told
utility_or_not : (k : Kind) → (k ≡ Utility) ⊎ (k ≢ Utility)
utility_or_not Chance = inr (λ e. cc)
utility_or_not Decision = inr (λ e. cc)
utility_or_not Utility = inl refl

-- the nodes in text order, rearranged: those of the list, and the utilities
pub listed : (nodes : List NodeView) (order : List ℕ) → IsListing nodes order → Shuffled (numbers_of nodes) (order ++ utilities nodes)
listed nodes order l =
    shuffled_of (numbers_of nodes) (order ++ utilities nodes) (range_apart 0 (length nodes))
    (apart_append order (utilities nodes) (apart_of order l.once) (apart_filter (λ v. is_utility (node_at nodes v).kind) (numbers_of nodes) (range_apart 0 (length nodes)))
    (λ v m k. (l.within v (contained v m)).1 (kind_of_utility (node_at nodes v).kind (among_filter (λ v. is_utility (node_at nodes v).kind) v (numbers_of nodes) k).1)))
    (λ v m. there v m (utility_or_not (node_at nodes v).kind))
    (λ v m. back v (among_append v order (utilities nodes) m))
  where
    contained : (v : ℕ) → Among v order → Contains order v
    contained v m = contains_of v order m

    there : (v : ℕ) → Among v (numbers_of nodes) → ((node_at nodes v).kind ≡ Utility) ⊎ ((node_at nodes v).kind ≢ Utility) → Among v (order ++ utilities nodes)
    there v m (inl e) = among_right v order (utilities nodes) (among_filter_in (λ v. is_utility (node_at nodes v).kind) v (numbers_of nodes) m (ap is_utility e))
    there v m (inr n) = among_left v order (utilities nodes) (among_of v order (l.all v (numbered nodes v m) n))

    back : (v : ℕ) → Among v order ⊎ Among v (utilities nodes) → Among v (numbers_of nodes)
    back v (inl m) = number nodes v (l.within v (contained v m)).0
    back v (inr m) = (among_filter (λ v. is_utility (node_at nodes v).kind) v (numbers_of nodes) m).0

-- a product of ones
ones : (f : ℕ → ℤ) (vs : List ℕ) → ((v : ℕ) → Among v vs → f v ≡ pos 1) → product_over f vs ≡ pos 1
ones f [] h = refl
ones f (v ∷ vs) h = λ i. h v (inl refl) i *ℤ ones f vs (λ u m. h u (inr m)) i

module _ (nodes : List NodeView) (g : IsGraph nodes) (order start : List ℕ) (listing : IsListing nodes order) (history : IsHistory nodes order start) where
  -- no node stands twice
  apart : Apart order
  apart = apart_of order listing.once

  -- places of the history are places of the list
  longer : (i : ℕ) → i < length start → i < length order
  longer i l = let k : length start ≤ length order = history.within in omega arith

  -- a product over all nodes is one over the later nodes of the list, where a utility's factor is 1
  product_later : (f : ℕ → ℤ) → ((v : ℕ) → (node_at nodes v).kind ≡ Utility → f v ≡ pos 1) → product_over (λ v. cond (in_start order start v) (pos 1) (f v)) (numbers_of nodes) ≡ product_over f (drop (length start) order)
  product_later f h =
      product_over-shuffled (λ v. cond (in_start order start v) (pos 1) (f v)) (listed nodes order listing)
      ∙ product_over-append (λ v. cond (in_start order start v) (pos 1) (f v)) order (utilities nodes)
      ∙ (λ i. start_product f order start apart i *ℤ ones (λ v. cond (in_start order start v) (pos 1) (f v)) (utilities nodes) (λ v m. one (in_start order start v) v (kind_of_utility (node_at nodes v).kind (among_filter (λ v. is_utility (node_at nodes v).kind) v (numbers_of nodes) m).1)) i)
      ∙ mul_one (product_over f (drop (length start) order))
    where
      one : (b : Bool) (v : ℕ) → (node_at nodes v).kind ≡ Utility → cond b (pos 1) (f v) ≡ pos 1
      one true v k = refl
      one false v k = h v k

  -- worlds that extend the start agree with the history
  extends_same : (w : World) → extends nodes (in_start order start) (world_of_history order start) w ≡ agrees order start w
  extends_same w = bool_same (extends nodes (in_start order start) (world_of_history order start) w) (agrees order start w) there back
    where
      part : (a b : Bool) → a ≡ true → (not a || b) ≡ true → b ≡ true
      part true b h k = k
      part false b h k = absurd (no_true h)

      there : extends nodes (in_start order start) (world_of_history order start) w ≡ true → agrees order start w ≡ true
      there h = agrees_all order start w (λ i l m.
          let v : ℕ = slice_index order i in
          let inside = (listing.within (slice_index order i) (contains_of (slice_index order i) order (among_index order i m))).0 in
          let k = all_at (λ v. not (in_start order start v) || eqb (w v) (world_of_history order start v)) (numbers_of nodes) h (slice_index order i) (number nodes (slice_index order i) inside) in
          eqb_same (w (slice_index order i)) (world_of_history order start (slice_index order i)) (part (in_start order start (slice_index order i)) (eqb (w (slice_index order i)) (world_of_history order start (slice_index order i))) (in_start_at order start i l m) k)
          ∙ history_at order start apart i l m)

      back : agrees order start w ≡ true → extends nodes (in_start order start) (world_of_history order start) w ≡ true
      back h = at_all (λ v. not (in_start order start v) || eqb (w v) (world_of_history order start v)) (numbers_of nodes) (λ v m. go v (in_start order start v) refl)
        where
          go : (v : ℕ) (b : Bool) → in_start order start v ≡ b → (not b || eqb (w v) (world_of_history order start v)) ≡ true
          go v false e = refl
          go v true e =
              let k = start_at order start v e in
              eqb_yes (w v) (world_of_history order start v)
              (subst (λ z. w z ≡ world_of_history order start z) k.3 (agrees_at order start w h k.0 k.1 k.2 ∙ sym (history_at order start apart k.0 k.1 k.2)))

  -- a utility has the factor 1
  table_utility : (p : List RuleView) (w : World) (v : ℕ) → (node_at nodes v).kind ≡ Utility → table nodes p v w ≡ pos 1
  table_utility p w v k = ap (λ x. table_by x (node_at nodes v).cells (weights_of p v) (cell_of nodes v w)) k

  -- gains from a start as a set and as a history
  pub gain_same : (p : List RuleView) (agent : ℕ) → gain_from_start nodes (in_start order start) (world_of_history order start) p agent ≡ gain_from nodes order start p agent
  gain_same p agent = ap (sum_worlds nodes) (fun_ext (λ w. λ i. cond (extends_same w i) (product_later (λ v. table nodes p v w) (table_utility p w) i *ℤ utility nodes agent w) (pos 0)))

  -- and masses
  pub mass_same : (p : List RuleView) → mass_from_start nodes (in_start order start) p ≡ pos (mass_from nodes order start p)
  mass_same p =
      product_later (λ v. pos (weight_total nodes p v)) (λ v k. ap (λ x. pos (total_by x (chance_total nodes v) (rule_total p v))) k)
      ∙ pos_product (weight_total nodes p) (drop (length start) order)

  -- ---- the start as a set
  pub range : InRange (states_of nodes) (world_of_history order start)
  range = record { state = history_range (states_of nodes) g.has_state order start history.each }

  -- the start's nodes are nodes
  inside : (v : ℕ) → in_start order start v ≡ true → v < length nodes
  inside v e = let k = start_at order start v e in subst (λ z. z < length nodes) k.3 (listing.within (slice_index order k.0) (contains_of (slice_index order k.0) order (among_index order k.0 k.2))).0

  -- parents stand before
  pub closed_up : (u v : ℕ) → IsParent nodes u v → in_start order start v ≡ true → in_start order start u ≡ true
  closed_up u v a e =
      let k = start_at order start v e in
      let i : ℕ = k.0 in
      let l : i < length start = k.1 in
      let m : i < length order = k.2 in
      let c = among_take order i u (among_of u (take i order) (listing.parents_first i u m (subst (λ z. Arc nodes u z) (sym k.3) (arc_of nodes u v a)))) in
      let j : c.0 < i = c.1 in
      subst (λ z. in_start order start z ≡ true) c.3 (in_start_at order start c.0 (omega arith) c.2)

  -- chance cells of the start
  pub reached : IsReachable nodes order start → (v : ℕ) → in_start order start v ≡ true → (node_at nodes v).kind ≡ Chance → pos 0 <ℤ table nodes [] v (world_of_history order start)
  reached r v e k =
      let s = start_at order start v e in
      subst (λ z. pos 0 <ℤ table nodes [] z (world_of_history order start)) s.3 (r s.0 s.1 (subst (λ z. (node_at nodes z).kind ≡ Chance) (sym s.3) k))

  -- the place of a later decision
  place_of_later : (d : ℕ) → in_start order start d ≡ false → (node_at nodes d).kind ≡ Decision → (i : ℕ) × (length start ≤ i) × (i < length order) × (slice_index order i ≡ d)
  place_of_later d e k =
      let s = index_of d order (among_of d order (listing.all d (decision_of nodes d k).within (λ u. no_both (sym k ∙ u)))) in
      (s.0, later s.0 s.1 s.2, s.1, s.2)
    where
      no_both : Decision ≡ Utility → ⊥
      no_both f = cc

      past : (a b : ℕ) → ¬ (a < b) → b ≤ a
      past a b n = omega arith

      later : (i : ℕ) → i < length order → slice_index order i ≡ d → length start ≤ i
      later i m f = past i (length start) (λ l. no_true (sym e ∙ subst (λ z. in_start order start z ≡ true) f (in_start_at order start i l m)))

  -- the states of a world at the first nodes
  first_history : (y : World) → InRange (states_of nodes) y → (i : ℕ) → i ≤ length order → IsHistory nodes order (map y (take i order))
  first_history y iy i within = let len : length (map y (take i order)) ≡ i = length_first y order i within in record {
    within = omega arith;
    each = λ j l. subst (λ z. z < states_of nodes (slice_index order j)) (sym (at_map y order i j (omega arith) (omega arith))) (iy.state (slice_index order j));
  }

  -- worlds that agree on d's parents have histories that agree on them
  first_agree : (d : ℕ) (w x : World) (i : ℕ) → i ≤ length order → slice_index order i ≡ d → ((u : ℕ) → IsParent nodes u d → w u ≡ x u)
      → AgreeOnParents nodes order (slice_index order i) (map w (take i order)) (map x (take i order))
  first_agree d w x i within e parents j l a =
      let len : length (map w (take i order)) ≡ i = length_first w order i within in
      at_map w order i j (omega arith) (omega arith)
      ∙ parents (slice_index order j) (parent_of nodes (slice_index order j) d (subst (λ z. Arc nodes (slice_index order j) z) e a))
      ∙ sym (at_map x order i j (omega arith) (omega arith))

  -- for two worlds, the histories of the nodes before d
  pub closed : KeepsInformation nodes order start → (d : ℕ) → in_start order start d ≡ false → (node_at nodes d).kind ≡ Decision → (w x : World) → InRange (states_of nodes) w → InRange (states_of nodes) x
      → ((u : ℕ) → IsParent nodes u d → w u ≡ x u) → ((v : ℕ) → in_start order start v ≡ true → w v ≡ world_of_history order start v) → (v : ℕ) → in_start order start v ≡ true → x v ≡ world_of_history order start v
  closed keeps d e k w x iw ix parents ext v f =
      subst (λ z. x z ≡ world_of_history order start z) s.3 (map_extends x order start p.0 after within extended s.0 s.1 ∙ sym (history_at order start apart s.0 s.1 s.2))
    where
      p : (i : ℕ) × (length start ≤ i) × (i < length order) × (slice_index order i ≡ d)
      p = place_of_later d e k

      after : length start ≤ p.0
      after = p.1

      within : p.0 ≤ length order
      within = let l : p.0 < length order = p.2 in omega arith

      s : (j : ℕ) × (j < length start) × (j < length order) × (slice_index order j ≡ v)
      s = start_at order start v f

      extended : take (length start) (map x (take p.0 order)) ≡ start
      extended = keeps p.0 (map w (take p.0 order)) (map x (take p.0 order)) p.1 p.2 (subst (IsDecision nodes) (sym p.3) (decision_of nodes d k))
          (first_history w iw p.0 within) (first_history x ix p.0 within) (length_first w order p.0 within) (length_first x order p.0 within) (first_agree d w x p.0 within p.3 parents)
          (extends_map w order start p.0 p.1 within (λ j l. ext (slice_index order j) (in_start_at order start j l (longer j l)) ∙ history_at order start apart j l (longer j l)))

-- a subgame start, as a set of nodes with a world
pub start_of : (nodes : List NodeView) (g : IsGraph nodes) (order start : List ℕ) → IsListing nodes order → IsSubgameStart nodes order start → IsStart nodes (in_start order start) (world_of_history order start)
start_of nodes g order start l s = record {
  range = range nodes g order start l s.history;
  started_inside = inside nodes g order start l s.history;
  closed_up = closed_up nodes g order start l s.history;
  reached = reached nodes g order start l s.history s.reachable;
  closed = closed nodes g order start l s.history s.keeps;
}
