-- A diagram with one more arc into a decision, which closes no cycle and keeps the limits.
use Rattle.std.proofs.Common.{◌≡◌, ◌≢◌, ◌⊎◌, ◌↔◌, ◌∙◌, ℕ, ◌+◌, ◌*◌, ◌<◌, ◌≤◌, cond, List, [], ◌∷◌, ◌++◌, length, sym, ap, subst, inl, inr, arith, length-append}
use Rattle.std.specs.List.{range_with_len}
use Rattle.std.specs.Prelude.{Contains}
use Rattle.std.proofs.Math.Decide.{ℕ_discrete}
use Rattle.std.proofs.lemmas.Bool.{cases_lt}
use Rattle.std.proofs.lemmas.List.Elements.{Contains-push_cases}
use Rattle.finite_sums.specs.Members.{Among}
use Rattle.maid_laws.proofs.Members.{apart_of, contains_of, different_of}
use Rattle.std.proofs.Math.Nat.{mul_assoc, mul_comm}
use Rattle.maid_laws.proofs.Rearranged.{apart_append, number}
use Rattle.maid_model.specs.declared.diagrams.Kind.TheVariants.{Decision, Utility}
use Rattle.maid_model.specs.declared.limits.TheConstants.{MOST_PARENTS, MOST_CELLS, MOST_RULE_CELLS}
use Rattle.maid_model.specs.Diagrams.{IsDiagram}
use Rattle.maid_model.specs.Edits.{with_arc}
use Rattle.maid_model.specs.Graph.{Arc, AllDifferent, IsGraph, IsPath, Here, Along, IsAcyclic}
use Rattle.maid_model.specs.Nodes.{IsDecision, is_decision, node_at, states_of, parents_of, rows_of, rows_under}
use Rattle.maid_model.specs.Views.{NodeView}
use Rattle.diagram_graph.specs.Room.{IsArcTooLarge, RulesFit, cells_at, rule_cells, rule_cells_at}
use Rattle.diagram_graph.proofs.Reparented.{else, len, kind_at, states_at, parents_at, rows_at, rows_else, diagram_kept}
use Rattle.diagram_graph.proofs.RuleCells.{rules_changed}

-- ---- one more arc, from x to d, in any graph
module _ (Arc More : ℕ → ℕ → Type 0) (x d : ℕ) (which : (u v : ℕ) → More u v → Arc u v ⊎ ((u ≡ x) × (v ≡ d))) where
  -- a path goes along the new arc or not; what it comes through before and after is old
  paths : {to from : ℕ} → IsPath More from to → IsPath Arc from to ⊎ (IsPath Arc from x × IsPath Arc d to)
  paths Here = inl Here
  paths {to = to} (Along {u = u} {v = v} a rest) = step u v (which u v a) (paths rest)
    where
      step : (u v : ℕ) → Arc u v ⊎ ((u ≡ x) × (v ≡ d)) → IsPath Arc v to ⊎ (IsPath Arc v x × IsPath Arc d to) → IsPath Arc u to ⊎ (IsPath Arc u x × IsPath Arc d to)
      step u v (inl old) (inl p) = inl (Along old p)
      step u v (inl old) (inr p) = inr (Along old p.0, p.1)
      step u v (inr new) (inl p) = inr (subst (λ y. IsPath Arc y x) (sym new.0) Here, subst (λ y. IsPath Arc y to) new.1 p)
      step u v (inr new) (inr p) = inr (subst (λ y. IsPath Arc y x) (sym new.0) Here, p.1)

  join : {b a c : ℕ} → IsPath Arc a b → IsPath Arc b c → IsPath Arc a c
  join Here q = q
  join (Along old p) q = Along old (join p q)

  -- where no path leads back, no cycle is closed
  pub still_acyclic : IsAcyclic Arc → (IsPath Arc d x → ⊥) → IsAcyclic More
  still_acyclic acyclic back v h = first (h.0) (which v h.0 h.1) (paths h.2)
    where
      first : (n : ℕ) → Arc v n ⊎ ((v ≡ x) × (n ≡ d)) → IsPath Arc n v ⊎ (IsPath Arc n x × IsPath Arc d v) → ⊥
      first n (inl old) (inl p) = acyclic v (n, old, p)
      first n (inl old) (inr p) = back (join p.1 (Along old p.0))
      first n (inr new) (inl p) = back (subst (λ y. IsPath Arc y x) new.1 (subst (λ y. IsPath Arc n y) new.0 p))
      first n (inr new) (inr p) = back (subst (λ y. IsPath Arc y x) new.1 p.0)

-- one more at the end
rows_more : (count : ℕ → ℕ) (us : List ℕ) (x : ℕ) → rows_under count (us ++ x ∷ []) ≡ rows_under count us * count x
rows_more count [] x = omega arith
rows_more count (u ∷ us) x = ap (λ n. count u * n) (rows_more count us x) ∙ grouped (count u) (rows_under count us) (count x)
  where
    grouped : (a b c : ℕ) → a * (b * c) ≡ (a * b) * c
    grouped a b c = sym (mul_assoc a b c)

differ_more : (us : List ℕ) (x : ℕ) → AllDifferent us → (Contains us x → ⊥) → AllDifferent (us ++ x ∷ [])
differ_more us x a n = different_of (us ++ x ∷ []) (apart_append us (x ∷ []) (apart_of us a) (tt, tt) apart)
  where
    apart : (v : ℕ) → Among v us → Among v (x ∷ []) → ⊥
    apart v m (inl e) = n (contains_of x us (subst (λ w. Among w us) e m))
    apart v m (inr none) = none

module _ (nodes : List NodeView) (x d : ℕ) (k : IsDecision nodes d) where
  abbrev more : List NodeView
  more = with_arc nodes x d

  abbrev seen : List ℕ
  seen = parents_of nodes d ++ x ∷ []

  -- an arc is old or the new one
  old_or_new : (u v : ℕ) → Arc more u v → Arc nodes u v ⊎ ((u ≡ x) × (v ≡ d))
  old_or_new u v a = go (ℕ_discrete v d) a
    where
      at_last : (w : ℕ) → w ≡ d → Contains (parents_of nodes d) u ⊎ (x ≡ u) → Arc nodes u w ⊎ ((u ≡ x) × (w ≡ d))
      at_last w e (inl m) = inl (subst (λ z. Arc nodes u z) (sym e) m)
      at_last w e (inr f) = inr (sym f, e)

      go : Dec (v ≡ d) → Arc more u v → Arc nodes u v ⊎ ((u ≡ x) × (v ≡ d))
      go (yes e) a = at_last v e (Contains-push_cases (parents_of nodes d) x u (subst (λ (us : List ℕ). Contains us u) (parents_at nodes d k seen) (subst (λ w. Arc more u w) e a)))
      go (no n) a = inl (subst (λ (m : NodeView). Contains m.parents u) (else nodes d k seen v n) a)

  module _ (graph : IsGraph nodes) (within : x < length nodes) (no_utility : (node_at nodes x).kind ≢ Utility) (absent : Arc nodes x d → ⊥) (back : IsPath (Arc nodes) d x → ⊥) where
    pub more_graph : IsGraph more
    more_graph = record {
      parents_known = λ u v a. subst (λ n. u < n) (sym (len nodes d k seen)) (known u v (old_or_new u v a));
      parents_differ = λ v. differ v (ℕ_discrete v d);
      no_utility_parent = λ u v a e. not_utility u v (old_or_new u v a) (sym (kind_at nodes d k seen u) ∙ e);
      has_state = λ v. subst (λ n. 0 < n) (sym (states_at nodes d k seen v)) (graph.has_state v);
      utility_states = λ v e. states_at nodes d k seen v ∙ graph.utility_states v (sym (kind_at nodes d k seen v) ∙ e);
      acyclic = still_acyclic (Arc nodes) (Arc more) x d old_or_new graph.acyclic back;
    }
      where
        known : (u v : ℕ) → Arc nodes u v ⊎ ((u ≡ x) × (v ≡ d)) → u < length nodes
        known u v (inl a) = graph.parents_known u v a
        known u v (inr e) = subst (λ w. w < length nodes) (sym e.0) within

        not_utility : (u v : ℕ) → Arc nodes u v ⊎ ((u ≡ x) × (v ≡ d)) → (node_at nodes u).kind ≢ Utility
        not_utility u v (inl a) = graph.no_utility_parent u v a
        not_utility u v (inr e) = λ f. no_utility (ap (λ w. (node_at nodes w).kind) (sym e.0) ∙ f)

        differ : (v : ℕ) → Dec (v ≡ d) → AllDifferent (parents_of more v)
        differ v (yes e) = subst (λ w. AllDifferent (parents_of more w)) (sym e) (subst AllDifferent (sym (parents_at nodes d k seen)) (differ_more (parents_of nodes d) x (graph.parents_differ d) absent))
        differ v (no n) = subst (λ (m : NodeView). AllDifferent m.parents) (sym (else nodes d k seen v n)) (graph.parents_differ v)

  -- ---- room
  cells_more : cells_at more d ≡ cells_at nodes d * states_of nodes x
  cells_more = (λ i. (rows_at nodes d k seen ∙ rows_more (states_of nodes) (parents_of nodes d) x) i * states_at nodes d k seen d i) ∙ turned (rows_of nodes d) (states_of nodes x) (states_of nodes d)
    where
      turned : (a b c : ℕ) → (a * b) * c ≡ (a * c) * b
      turned a b c = mul_assoc a b c ∙ ap (λ n. a * n) (mul_comm b c) ∙ sym (mul_assoc a c b)

  -- what the decision's rule adds
  rule_here : (others : List NodeView) → (node_at others d).kind ≡ Decision → rule_cells_at others d ≡ cells_at others d
  rule_here others e = ap (λ kind. cond (is_decision kind) (cells_at others d) 0) e

  rules_more : rule_cells more + cells_at nodes d ≡ rule_cells nodes + cells_at nodes d * states_of nodes x
  rules_more =
      let h = rules_changed nodes more d (ap (range_with_len 0) (len nodes d k seen)) (number nodes d k.within)
      (λ v n i. cond (is_decision (kind_at nodes d k seen v i)) (rows_else nodes d k seen v n i * states_at nodes d k seen v i) 0) in
      let a = rule_here nodes k.kind in
      let b = rule_here more (kind_at nodes d k seen d ∙ k.kind) ∙ cells_more in omega arith

  pub room : (length (parents_of nodes d) < MOST_PARENTS × cells_at nodes d * states_of nodes x ≤ MOST_CELLS × rule_cells nodes + cells_at nodes d * states_of nodes x ≤ MOST_RULE_CELLS + cells_at nodes d) ↔ RulesFit more d
  room = (
    (λ h. record {
      parents = let a = h.0 in let b = long in omega arith;
      cells = let a = h.1 in let b = cells_more in omega arith;
      all = let a = h.2 in let b = rules_more in omega arith;
    }),
    (λ fit. ((let a = fit.parents in let b = long in omega arith), (let a = fit.cells in let b = cells_more in omega arith), (let a = fit.all in let b = rules_more in omega arith))),
  )
    where
      long : length (parents_of more d) ≡ length (parents_of nodes d) + 1
      long = ap length (parents_at nodes d k seen) ∙ length-append (parents_of nodes d) (x ∷ [])

  pub more_kept : (agents decimals : ℕ) → IsGraph more → RulesFit more d → IsDiagram (record { nodes = nodes; agents = agents; decimals = decimals }) → IsDiagram (record { nodes = more; agents = agents; decimals = decimals })
  more_kept agents decimals graph fit h = diagram_kept nodes d k seen agents decimals graph fit h

-- an arc that is not there, closes no cycle and isn't too large leaves the rules few enough cells
pub rules_fit : (nodes : List NodeView) (x d : ℕ) → (Arc nodes x d → ⊥) → (IsPath (Arc nodes) d x → ⊥) → (IsArcTooLarge nodes x d → ⊥) → RulesFit (with_arc nodes x d) d
rules_fit nodes x d absent no_cycle room = record {
  parents = stable _ _ (λ n. unfit (λ fit. n fit.parents));
  cells = stable _ _ (λ n. unfit (λ fit. n fit.cells));
  all = stable _ _ (λ n. unfit (λ fit. n fit.all));
}
  where
    unfit : (RulesFit (with_arc nodes x d) d → ⊥) → ⊥
    unfit n = room (record { absent = absent; no_cycle = no_cycle; too_much = n })

    stable : (a b : ℕ) → ((a ≤ b → ⊥) → ⊥) → a ≤ b
    stable a b h = elim (cases_lt b a) as (λ _. a ≤ b) [ inl l ↦ absurd (h (λ m. absurd (omega arith))) | inr m ↦ m ]
