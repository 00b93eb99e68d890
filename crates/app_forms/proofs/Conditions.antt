-- The stages of a diagram under evidence, one behind another.
use Rattle.std.proofs.Common.{◌≡◌, ℕ, ◌<◌, List, ◌∷◌, inl, inr, refl, subst, sym, All, length, Option, None, Some, IfSome}
use Rattle.std.proofs.lemmas.List.{length-map}
use Rattle.evidence.specs.Bounds.{IsPassedAtGiven}
use Rattle.evidence.specs.Faults.{BelowDecision, Impossible, RulesTooLarge, Unsolved, further_pass, given_pass}
use Rattle.maid_model.specs.Names.{NamesView, NamesFit}
use Rattle.maid_model.specs.Scopes.{KeepsScopedBounds, chance_factor, utilities_for}
use Rattle.maid_model.specs.Views.{DiagramView}
use Rattle.reach_laws.specs.Evidence.{all_seeing, all_seeing_diagram, seeing}
use Rattle.rule_solver.specs.Faults as solver
use Rattle.app_forms.specs.Chances.{IsStatePlace}
use Rattle.app_forms.specs.Diagrams.{NamedDiagram}
use Rattle.app_forms.specs.Evidence.{TellsBoundGiven, AtNode, AtUtilities, AtFurtherNode, AtFurtherUtilities}
use Rattle.app_forms.specs.Given.{evidence_stages}
use Rattle.app_forms.specs.Lines.{below_decision_line, bound_line, cycle_line, impossible_line, rules_line, too_large_line}
use Rattle.app_forms.specs.Outcome.{refused}
use Rattle.app_forms.specs.Reading.{found_by}
use Rattle.app_forms.specs.declared.forms.chances.StatePlace.{StatePlace}
use Rattle.app_forms.specs.declared.status.Status.TheVariants as statuses
use Rattle.app_forms.proofs.Nodes.{cycle_within}
use Rattle.app_forms.proofs.SolveRefusals.{place_in_scope, place_within}

as_many : (d : DiagramView) (x : ℕ) → length (all_seeing d.nodes x) ≡ length d.nodes
as_many d x = length-map d.nodes (seeing x)

further_within : (d : DiagramView) (x v : ℕ) → IsPassedAtGiven d x v → v < length d.nodes
further_within d x v h = place_in_scope d.nodes (x ∷ utilities_for d.nodes h.agent) (chance_factor d.nodes) v h.passes

module _ (d : DiagramView) (names : NamesView) (node state told : List ℕ) (place : StatePlace) (at : IsStatePlace d names node state place) where
  abbrev seen : DiagramView
  seen = all_seeing_diagram d place.node

  pub below_found : given_pass d place.node place.state (Some BelowDecision) → told ≡ below_decision_line node → found_by d names (evidence_stages node state) (Some (refused statuses.BelowDecision told))
  below_found (inl (inl h)) says name bytes is = let x : NamedDiagram = record { d = d; names = names } in inl (x, is, (place, at, (refl, record { below = h.0; says = says })))
  below_found (inl (inr h)) says name bytes is = absurd h.1
  below_found (inr (sight, inl h)) says name bytes is = absurd h
  below_found (inr (sight, inr h)) says name bytes is = let e = h.1.1 in absurd cc

  pub rules_found : given_pass d place.node place.state (Some RulesTooLarge) → told ≡ rules_line → found_by d names (evidence_stages node state) (Some (refused statuses.TooLarge told))
  rules_found (inl (inl h)) says name bytes is = let e = h.1 in absurd cc
  rules_found (inl (inr h)) says name bytes is =
      let x : NamedDiagram = record { d = d; names = names } in
      inr ((x, is, (place, at, h.0)), inl (x, is, (place, at, (refl, record { passes = h.1; says = says }))))
  rules_found (inr (sight, inl h)) says name bytes is = absurd h
  rules_found (inr (sight, inr h)) says name bytes is = let e = h.1.1 in absurd cc

  pub cycle_given_found : (list : List ℕ) → given_pass d place.node place.state (Some (Unsolved (solver.Cycle list))) → told ≡ cycle_line names list
      → found_by d names (evidence_stages node state) (Some (refused statuses.Cycle told))
  cycle_given_found list (inl (inl h)) says name bytes is = let e = h.1 in absurd cc
  cycle_given_found list (inl (inr h)) says name bytes is = absurd h.1
  cycle_given_found list (inr (sight, inl (inl h))) says name bytes is =
      let x : NamedDiagram = record { d = d; names = names } in
      inr (
        (x, is, (place, at, sight.0)),
        inr (
          (x, is, (place, at, sight.1)),
          inl (x, is, (place, at, (refl, record { no_order = h.0; cycle = list; is_cycle = h.1; says = says }))),
        ),
      )
  cycle_given_found list (inr (sight, inl (inr (order, inl h)))) says name bytes is = absurd h
  cycle_given_found list (inr (sight, inl (inr (order, inr (bound, inl h))))) says name bytes is = absurd h
  cycle_given_found list (inr (sight, inl (inr (order, inr (bound, inr (further, h)))))) says name bytes is = absurd h
  cycle_given_found list (inr (sight, inr h)) says name bytes is = let e = h.1.1 in absurd cc

  -- a place at which the bound is passed, in one of the scopes or in a further one
  bound_told_at : (v : Option ℕ) → solver.bound_pass seen (Some (solver.WeightBound v)) → told ≡ bound_line names v → TellsBoundGiven seen place.node names told
  bound_told_at None h says = AtUtilities h says
  bound_told_at (Some v) h says = AtNode v h says

  further_told_at : (v : Option ℕ) → KeepsScopedBounds seen → further_pass seen place.node (Some (solver.WeightBound v)) → told ≡ bound_line names v → TellsBoundGiven seen place.node names told
  further_told_at None keeps h says = AtFurtherUtilities keeps h says
  further_told_at (Some v) keeps h says = AtFurtherNode v keeps h says

  pub bound_given_found : (v : Option ℕ) → given_pass d place.node place.state (Some (Unsolved (solver.WeightBound v))) → told ≡ bound_line names v
      → found_by d names (evidence_stages node state) (Some (refused statuses.WeightBound told))
  bound_given_found v (inl (inl h)) says name bytes is = let e = h.1 in absurd cc
  bound_given_found v (inl (inr h)) says name bytes is = absurd h.1
  bound_given_found v (inr (sight, inl (inl h))) says name bytes is = absurd h
  bound_given_found v (inr (sight, inl (inr (order, inl h)))) says name bytes is =
      let x : NamedDiagram = record { d = d; names = names } in
      inr (
        (x, is, (place, at, sight.0)),
        inr (
          (x, is, (place, at, sight.1)),
          inr (
            (x, is, (place, at, order)),
            inl (x, is, (place, at, (refl, bound_told_at v h says))),
          ),
        ),
      )
  bound_given_found v (inr (sight, inl (inr (order, inr (bound, inl h))))) says name bytes is =
      let x : NamedDiagram = record { d = d; names = names } in
      inr (
        (x, is, (place, at, sight.0)),
        inr (
          (x, is, (place, at, sight.1)),
          inr (
            (x, is, (place, at, order)),
            inl (x, is, (place, at, (refl, further_told_at v bound h says))),
          ),
        ),
      )
  bound_given_found v (inr (sight, inl (inr (order, inr (bound, inr (further, h)))))) says name bytes is = absurd h
  bound_given_found v (inr (sight, inr h)) says name bytes is = let e = h.1.1 in absurd cc

  pub size_given_found : (cells work : ℕ) → given_pass d place.node place.state (Some (Unsolved (solver.TooLarge cells work))) → told ≡ too_large_line cells work
      → found_by d names (evidence_stages node state) (Some (refused statuses.TooLarge told))
  size_given_found cells work (inl (inl h)) says name bytes is = let e = h.1 in absurd cc
  size_given_found cells work (inl (inr h)) says name bytes is = absurd h.1
  size_given_found cells work (inr (sight, inl (inl h))) says name bytes is = absurd h
  size_given_found cells work (inr (sight, inl (inr (order, inl h)))) says name bytes is = absurd h
  size_given_found cells work (inr (sight, inl (inr (order, inr (bound, inl h))))) says name bytes is = absurd h
  size_given_found cells work (inr (sight, inl (inr (order, inr (bound, inr (further, h)))))) says name bytes is =
      let x : NamedDiagram = record { d = d; names = names } in
      inr (
        (x, is, (place, at, sight.0)),
        inr (
          (x, is, (place, at, sight.1)),
          inr (
            (x, is, (place, at, order)),
            inr (
              (x, is, (place, at, record { scopes = bound; further = further })),
              inl (x, is, (place, at, (refl, record { cells = cells; work = work; is_size = h; says = says }))),
            ),
          ),
        ),
      )
  size_given_found cells work (inr (sight, inr h)) says name bytes is = let e = h.1.1 in absurd cc

  pub impossible_found : given_pass d place.node place.state (Some Impossible) → told ≡ impossible_line node state → found_by d names (evidence_stages node state) (Some (refused statuses.Impossible told))
  impossible_found (inl (inl h)) says name bytes is = let e = h.1 in absurd cc
  impossible_found (inl (inr h)) says name bytes is = absurd h.1
  impossible_found (inr (sight, inl h)) says name bytes is = absurd h
  impossible_found (inr (sight, inr (solved, h))) says name bytes is =
      let x : NamedDiagram = record { d = d; names = names } in
      inr (
        (x, is, (place, at, sight.0)),
        inr (
          (x, is, (place, at, sight.1)),
          inr (
            (x, is, (place, at, solved.0)),
            inr (
              (x, is, (place, at, record { scopes = solved.1.0; further = solved.1.1.0 })),
              inr (
                (x, is, (place, at, solved.1.1.1)),
                inl (x, is, (place, at, (refl, record { impossible = h.0; says = says }))),
              ),
            ),
          ),
        ),
      )

-- what is told names nodes
pub cycle_named : (d : DiagramView) (names : NamesView) (x s : ℕ) (list : List ℕ) → NamesFit d names → given_pass d x s (Some (Unsolved (solver.Cycle list))) → All (λ v. v < length names.nodes) list
cycle_named d names x s list fit h = subst (λ n. All (λ v. v < n) list) (sym (fit.nodes)) (subst (λ n. All (λ v. v < n) list) (as_many d x) (by h))
  where
    by : given_pass d x s (Some (Unsolved (solver.Cycle list))) → All (λ v. v < length (all_seeing d.nodes x)) list
    by (inl (inl h)) = let e = h.1 in absurd cc
    by (inl (inr h)) = absurd h.1
    by (inr (sight, inl (inl h))) = cycle_within (all_seeing d.nodes x) list h.1
    by (inr (sight, inl (inr (order, inl h)))) = absurd h
    by (inr (sight, inl (inr (order, inr (bound, inl h))))) = absurd h
    by (inr (sight, inl (inr (order, inr (bound, inr (further, h)))))) = absurd h
    by (inr (sight, inr h)) = let e = h.1.1 in absurd cc

bound_node : (d : DiagramView) (x s v : ℕ) → given_pass d x s (Some (Unsolved (solver.WeightBound (Some v)))) → v < length (all_seeing d.nodes x)
bound_node d x s v (inl (inl h)) = let e = h.1 in absurd cc
bound_node d x s v (inl (inr h)) = absurd h.1
bound_node d x s v (inr (sight, inl (inl h))) = absurd h
bound_node d x s v (inr (sight, inl (inr (order, inl h)))) = place_within (all_seeing_diagram d x) v h
bound_node d x s v (inr (sight, inl (inr (order, inr (bound, inl h))))) = further_within (all_seeing_diagram d x) x v h
bound_node d x s v (inr (sight, inl (inr (order, inr (bound, inr (further, h)))))) = absurd h
bound_node d x s v (inr (sight, inr h)) = let e = h.1.1 in absurd cc

pub bound_named : (d : DiagramView) (names : NamesView) (x s : ℕ) (at : Option ℕ) → NamesFit d names → given_pass d x s (Some (Unsolved (solver.WeightBound at))) → IfSome at (λ v. v < length names.nodes)
bound_named d names x s None fit h = tt
bound_named d names x s (Some v) fit h = subst (λ n. v < n) (sym fit.nodes) (subst (λ n. v < n) (as_many d x) (bound_node d x s v h))
