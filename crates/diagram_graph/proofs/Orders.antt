-- Orders of nodes, whether what a node needs is told by lists or by its parents.
use Rattle.std.proofs.Common.{◌≡◌, ℕ, zero, suc, ◌<◌, Bool, true, List, [], length, map, take, get_or, replicate, ◌↔◌, inl, inr, refl, subst, sym, arith}
use Rattle.std.specs.Prelude.{Contains}
use Rattle.std.proofs.lemmas.Bool.{false≢true, cases_lt}
use Rattle.std.proofs.lemmas.List.{get_or_past}
use Rattle.std.proofs.Math.ListN.{get_or-map}
use Rattle.maid_model.specs.Views.{NodeView}
use Rattle.maid_model.specs.Nodes.{no_node}
use Rattle.maid_model.specs.Graph.{Arc, IsPath, Here, Along, IsAcyclic}
use Rattle.maid_model.specs.Placing.{Remains, CanPlace, IsPlacing, IsOrder}
use Rattle.diagram_graph.specs.Needs.{IsMarkedIn, needs_of, NeedsItem}
use Rattle.diagram_graph.specs.Rounds.{IsFirstCycle, IsRingOfNeeds}
use Rattle.diagram_graph.proofs.Placings.{least_same}
use Rattle.diagram_graph.proofs.Trails.{round_same}
use Rattle.diagram_graph.proofs.Rings.{order_acyclic, ring_descends}
use Rattle.node_sets.proofs.Turning.{path_turn}

-- all are in the set
pub all_in : (n : ℕ) (marks : List Bool) → marks ≡ replicate n true → (v : ℕ) → IsMarkedIn marks v ↔ (v < n)
all_in n marks e v = subst (λ (xs : List Bool). IsMarkedIn xs v ↔ (v < n)) (sym e) (both n v)
  where
    both : (n v : ℕ) → IsMarkedIn (replicate n true) v ↔ (v < n)
    both zero v = ((λ m. absurd (false≢true m)), (λ l. absurd (omega arith)))
    both (suc n) zero = ((λ _. omega arith), (λ _. refl))
    both (suc n) (suc v) = let h = both n v in ((λ m. let l = h.0 m in omega arith), (λ l. h.1 (omega arith)))

module _ (P Q : ℕ → Type 0) (N M : ℕ → ℕ → Type 0) (items : (v : ℕ) → P v ↔ Q v) (needs : (v e : ℕ) → N v e ↔ M v e) where
  can_same : (placed : List ℕ) (v : ℕ) → CanPlace P N placed v ↔ CanPlace Q M placed v
  can_same placed v = (
    (λ h. (((items v).0 h.0.0, h.0.1), λ e m. h.1 e ((needs v e).1 m))),
    (λ h. (((items v).1 h.0.0, h.0.1), λ e m. h.1 e ((needs v e).0 m))),
  )

  pub placing_same : (order : List ℕ) → IsPlacing P N order → IsPlacing Q M order
  placing_same order h k l = least_same _ _ (can_same (take k order)) _ (h k l)

  pub order_same : (order : List ℕ) → IsOrder P N order → IsOrder Q M order
  order_same order h = record { placing = placing_same order h.placing; complete = λ v q. h.complete v ((items v).1 q) }

pub first_cycle_same : (P Q : ℕ → Type 0) (lists : List (List ℕ)) → ((v : ℕ) → P v ↔ Q v) → (cycle : List ℕ) → IsFirstCycle P lists cycle → IsFirstCycle Q lists cycle
first_cycle_same P Q lists f cycle h =
    let same : (v e : ℕ) → NeedsItem lists v e ↔ NeedsItem lists v e = λ v e. ((λ x. x), (λ x. x)) in
    record {
      placed = h.placed;
      placing = placing_same P Q (NeedsItem lists) (NeedsItem lists) f same h.placed h.placing;
      stuck = λ v c. h.stuck v ((can_same P Q (NeedsItem lists) (NeedsItem lists) f same h.placed v).1 c);
      round = round_same (Remains P h.placed) (Remains Q h.placed) lists (λ v. ((λ r. ((f v).0 r.0, r.1)), (λ r. ((f v).1 r.0, r.1)))) cycle h.round;
    }

-- what has needs is an item of the list
pub needs_within : (lists : List (List ℕ)) (v e : ℕ) → NeedsItem lists v e → v < length lists
needs_within lists v e h = elim (cases_lt v (length lists)) as (λ _. v < length lists) [
  | inl l ↦ l
  | inr g ↦ let k = subst (λ (xs : List ℕ). Contains xs e) (get_or_past lists v [] g) h in let l = k.1 in absurd (omega arith)
]

-- where all are placed, no arc leads back
pub order_no_cycle : (lists : List (List ℕ)) (order : List ℕ) → IsOrder (λ v. v < length lists) (NeedsItem lists) order → IsAcyclic (λ u v. NeedsItem lists v u)
order_no_cycle lists order h v (next, arc, path) =
    order_acyclic (λ v. v < length lists) (NeedsItem lists) order h.placing next (h.complete next (needs_within lists next v arc)) (v, arc, path_turn (λ u v. NeedsItem lists v u) v next path)

path_map : (R S : ℕ → ℕ → Type 0) → ((a b : ℕ) → R a b → S a b) → (to from : ℕ) → IsPath R from to → IsPath S from to
path_map R S f to from Here = Here
path_map R S f to from (Along {v = b} h p) = Along (f from b h) (path_map R S f to b p)

-- a ring of needs leads back along arcs
pub ring_leads_back : (Arc Needs : ℕ → ℕ → Type 0) → ((v e : ℕ) → Needs v e → Arc e v) → (ring : List ℕ) → IsRingOfNeeds Needs ring → IsAcyclic Arc → ⊥
ring_leads_back Arc Needs f ring h acyclic =
    let d = ring_descends Needs ring h in
    let first = get_or ring 0 0 in
    acyclic d.0 (first, f first d.0 d.1, path_map (λ a b. Needs b a) Arc (λ a b n. f b a n) d.0 first (path_turn Needs first d.0 d.2))

-- what nodes need by the lists of their parents
pub needs_parents : (nodes : List NodeView) (v p : ℕ) → NeedsItem (map (λ (node : NodeView). node.parents) nodes) v p ↔ Arc nodes p v
needs_parents nodes v p =
    subst (λ (xs : List ℕ). Contains (needs_of (map (λ (node : NodeView). node.parents) nodes) v) p ↔ Contains xs p) (get_or-map (λ (node : NodeView). node.parents) nodes v no_node)
    ((λ h. h), (λ h. h))
