-- Placing by the lists of what each decision relies on is the order of solving, or the relevance
-- cycle.
use Rattle.std.proofs.Common.{◌≡◌, ℕ, ◌<◌, ◌≤◌, Bool, List, [], length, take, get_or, ◌↔◌, inl, inr, subst, sym, ◌∙◌, arith}
use Rattle.std.specs.Prelude.{Contains}
use Rattle.std.proofs.lemmas.Bool.{cases_lt}
use Rattle.std.proofs.lemmas.List.{get_or_past, get_or_default}
use Rattle.maid_model.specs.Views.{NodeView}
use Rattle.maid_model.specs.Nodes.{IsDecision}
use Rattle.maid_model.specs.Relevance.{ReliesOn}
use Rattle.maid_model.specs.Placing.{IsLeast, Remains, CanPlace, IsPlacing, IsOrder, IsRound, IsRelianceOrder, IsRelianceCycle}
use Rattle.diagram_graph.specs.Needs.{IsMarkedIn}
use Rattle.diagram_graph.specs.Needs.{needs_of, NeedsItem}
use Rattle.diagram_graph.specs.Rounds.{IsFirstLeft, IsFirstCycle, IsRingOfNeeds}
use Rattle.diagram_graph.specs.Rounds.{IsListedRound as IsListRound}
use Rattle.diagram_graph.specs.Placed.{IsPlacingOf, IsOrderOf}
use Rattle.diagram_graph.specs.declared.placing.Placing.{Placing}
use Rattle.diagram_graph.specs.declared.placing.Placing.TheVariants.{Order, Cycle}
use Rattle.relevance_graph.specs.Views.{outcome_of}
use Rattle.relevance_graph.specs.Relevant.{IsOutcome}
use Rattle.relevance_graph.specs.Steps.{TellsReliance}
use Rattle.relevance_graph.proofs.Listing.{earlier}

-- two sets with the same members have the same least one
least_same : (P Q : ℕ → Type 0) → ((x : ℕ) → P x ↔ Q x) → (v : ℕ) → IsLeast P v → IsLeast Q v
least_same P Q f v h = ((f v).0 h.0, λ w l q. h.1 w l ((f w).1 q))

-- orders depend only on which items there are and what they need
module _ (P Q : ℕ → Type 0) (N M : ℕ → ℕ → Type 0) (items : (v : ℕ) → P v ↔ Q v) (needs : (v e : ℕ) → N v e ↔ M v e) where
  can_same : (placed : List ℕ) (v : ℕ) → CanPlace P N placed v ↔ CanPlace Q M placed v
  can_same placed v = (
    (λ h. (((items v).0 h.0.0, h.0.1), λ e m. h.1 e ((needs v e).1 m))),
    (λ h. (((items v).1 h.0.0, h.0.1), λ e m. h.1 e ((needs v e).0 m))),
  )

  placing_same : (order : List ℕ) → IsPlacing P N order → IsPlacing Q M order
  placing_same order h k l = least_same _ _ (can_same (take k order)) _ (h k l)

  order_same : (order : List ℕ) → IsOrder P N order → IsOrder Q M order
  order_same order h = record { placing = placing_same order h.placing; complete = λ v q. h.complete v ((items v).1 q) }

module _ (nodes : List NodeView) (lists : List (List ℕ)) (tells : TellsReliance nodes (length nodes) lists) where
  -- the lists tell who relies on whom
  pub needs_relies : (d e : ℕ) → NeedsItem lists d e ↔ ReliesOn nodes d e
  needs_relies d e = (
    (λ c. elim (cases_lt d (length nodes)) as (λ _. ReliesOn nodes d e) [
      | inl l ↦ (((tells.each d l).members e).0 c).0
      | inr g ↦
          let past : length lists ≤ d = let m = tells.count in omega arith in
          let none : Contains [] e = subst (λ (xs : List ℕ). Contains xs e) (get_or_past lists d [] past) c in
          let k = none.1 in absurd (omega arith)
    ]),
    (λ r. ((tells.each d r.from_decision.within).members e).1 (r, r.on_decision.within)),
  )

  -- the first of a decision's list that is left is the first in text
  first_least : (Left Left' : ℕ → Type 0) → ((x : ℕ) → Left x ↔ Left' x) → (d e : ℕ) → IsFirstLeft Left (needs_of lists d) e → IsLeast (λ x. ReliesOn nodes d x × Left' x) e
  first_least Left Left' same d e h =
      let list = needs_of lists d in
      let at : get_or list h.0 0 ≡ e = h.2 in
      let here : Contains list e = (h.0, h.1, sym (get_or_default list h.0 0 e h.1) ∙ at) in
      let relies : ReliesOn nodes d e = (needs_relies d e).0 here in (
        (relies, (same e).0 h.3),
        λ w less p.
            let there : Contains list w = (needs_relies d w).1 p.0 in
            let at_w : get_or list there.0 0 ≡ w = get_or_default list there.0 0 w there.1 ∙ there.2 in
            let before : there.0 < h.0 = earlier (ReliesOn nodes d) (length nodes) list (tells.each d relies.from_decision.within) there.0 h.0 there.1 h.1 (omega arith) in
            h.4 there.0 before (subst (λ x. Left x) (sym at_w) ((same w).1 p.1)),
      )

  round_is : (Left Left' : ℕ → Type 0) → ((x : ℕ) → Left x ↔ Left' x) → (cycle : List ℕ) → IsListRound Left lists cycle → IsRound Left' (ReliesOn nodes) cycle
  round_is Left Left' same cycle h = record {
    trail = h.trail;
    back = h.back;
    is_trail = record {
      first = λ l. least_same Left Left' same _ (h.is_trail.first l);
      next = λ k l. first_least Left Left' same _ _ (h.is_trail.next k l);
      distinct = h.is_trail.distinct;
    };
    within = h.within;
    closes = first_least Left Left' same _ _ h.closes;
    is = h.is;
  }

  module _ (items : List Bool) (all : (v : ℕ) → IsMarkedIn items v ↔ IsDecision nodes v) where
    order_is : (order : List ℕ) → IsOrderOf lists items order → IsRelianceOrder nodes order
    order_is order h = order_same (IsMarkedIn items) (IsDecision nodes) (NeedsItem lists) (ReliesOn nodes) all needs_relies order h

    order_from : (order : List ℕ) → IsRelianceOrder nodes order → IsOrderOf lists items order
    order_from order h =
        order_same (IsDecision nodes) (IsMarkedIn items) (ReliesOn nodes) (NeedsItem lists) (λ v. ((all v).1, (all v).0)) (λ d e. ((needs_relies d e).1, (needs_relies d e).0)) order h

    cycle_is : (cycle : List ℕ) → IsFirstCycle (IsMarkedIn items) lists cycle → IsRelianceCycle nodes cycle
    cycle_is cycle h = record {
      placed = h.placed;
      placing = placing_same (IsMarkedIn items) (IsDecision nodes) (NeedsItem lists) (ReliesOn nodes) all needs_relies h.placed h.placing;
      stuck = λ v c. h.stuck v ((can_same (IsMarkedIn items) (IsDecision nodes) (NeedsItem lists) (ReliesOn nodes) all needs_relies h.placed v).1 c);
      round = round_is (Remains (IsMarkedIn items) h.placed) (Remains (IsDecision nodes) h.placed) (λ v. ((λ r. ((all v).0 r.0, r.1)), (λ r. ((all v).1 r.0, r.1)))) cycle h.round;
    }

    ring_is : (cycle : List ℕ) → IsRingOfNeeds (NeedsItem lists) cycle → IsRingOfNeeds (ReliesOn nodes) cycle
    ring_is cycle h = record {
      some = h.some;
      next = λ k l. (needs_relies _ _).0 (h.next k l);
      closes = (needs_relies _ _).0 h.closes;
      distinct = h.distinct;
    }

    pub outcome_is : (placing : Placing) → IsPlacingOf lists items placing → IsOutcome nodes (outcome_of placing)
    outcome_is (Order order) h = order_is order.items h
    outcome_is (Cycle cycle) h = record {
      is_cycle = cycle_is cycle.items h.first;
      ring = ring_is cycle.items h.ring;
      no_order = λ order o. h.no_order order (order_from order o);
    }
