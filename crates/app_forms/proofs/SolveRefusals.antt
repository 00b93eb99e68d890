-- Which stage of solving finds a fault, that those before it find nothing, and that a place in a
-- scope is a node.
use Rattle.std.proofs.Common.{◌≡◌, ◌<◌, inl, inr, ℕ, List, ◌∷◌, length, Option, None, Some, IfSome, sym, subst}
use Rattle.maid_model.specs.Bounds.{bound_factor}
use Rattle.maid_model.specs.Nodes.{numbers_of}
use Rattle.maid_model.specs.Parts.{leads_to, with_ancestors}
use Rattle.maid_model.specs.Placing.{HasRelianceOrder}
use Rattle.maid_model.specs.Scopes.{KeepsScopedBounds, PassesInScope, goals_of, utilities_for, chance_factor}
use Rattle.maid_model.specs.Views.{NodeView, DiagramView}
use Rattle.finite_sums.proofs.Lists.{among_filter}
use Rattle.maid_laws.proofs.Members.{among_of}
use Rattle.maid_laws.proofs.Rearranged.{numbered}
use Rattle.weight_scale.specs.Bound.{IsPassedAt, IsPassedByUtilities}
use Rattle.maid_model.specs.Names.{NamesView, NamesFit}
use Rattle.app_forms.specs.Lines.{bound_line}
use Rattle.app_forms.specs.Stages.{TellsBound, AtNode, AtUtilities}
use Rattle.rule_solver.specs.Faults.{Cycle, WeightBound, TooLarge, IsTooLarge, cycle_pass, bound_pass, solve_pass}

pub cycle_of : (d : DiagramView) (list : List ℕ) → solve_pass d (Some (Cycle list)) → cycle_pass d (Some (Cycle list))
cycle_of d list (inl h) = h
cycle_of d list (inr (order, inl h)) = absurd h
cycle_of d list (inr (order, inr (bound, h))) = absurd h

pub bound_of : (d : DiagramView) (at : Option ℕ) → solve_pass d (Some (WeightBound at)) → HasRelianceOrder d.nodes × bound_pass d (Some (WeightBound at))
bound_of d at (inl h) = absurd h
bound_of d at (inr (order, inl h)) = (order, h)
bound_of d at (inr (order, inr (bound, h))) = absurd h

pub size_of : (d : DiagramView) (cells work : ℕ) → solve_pass d (Some (TooLarge cells work)) → HasRelianceOrder d.nodes × KeepsScopedBounds d × IsTooLarge d cells work
size_of d cells work (inl h) = absurd h
size_of d cells work (inr (order, inl h)) = absurd h
size_of d cells work (inr (order, inr (bound, h))) = (order, bound, h)

-- a scope lists nodes alone
pub place_in_scope : (nodes : List NodeView) (of : List ℕ) (factor : ℕ → ℕ) (v : ℕ) → PassesInScope factor (with_ancestors nodes of) v → v < length nodes
place_in_scope nodes of factor v passes = numbered nodes v (among_filter (leads_to nodes of) v (numbers_of nodes) (among_of v (with_ancestors nodes of) passes.listed)).0

-- so the place at which the weight bound is passed is a node
pub place_within : (d : DiagramView) (v : ℕ) → IsPassedAt d v → v < length d.nodes
place_within d v (inl (e, fails, passes)) = place_in_scope d.nodes (e ∷ goals_of d.nodes e) (bound_factor d.nodes) v passes
place_within d v (inr (agent, fails, passes)) = place_in_scope d.nodes (utilities_for d.nodes agent) (chance_factor d.nodes) v passes

-- a place at which the bound is passed: a node, or the utilities
abbrev pub IsPassed : DiagramView → Option ℕ → Type 0
IsPassed d None = IsPassedByUtilities d
IsPassed d (Some v) = IsPassedAt d v

passed_of : (d : DiagramView) (at : Option ℕ) → bound_pass d (Some (WeightBound at)) → IsPassed d at
passed_of d None h = h
passed_of d (Some v) h = h

-- a node has a name
pub place_named : (d : DiagramView) (names : NamesView) (at : Option ℕ) → NamesFit d names → IsPassed d at → IfSome at (λ v. v < length names.nodes)
place_named d names None fit h = tt
place_named d names (Some v) fit h = subst (λ n. v < n) (sym fit.nodes) (place_within d v h)

pub place_known : (d : DiagramView) (names : NamesView) (at : Option ℕ) → NamesFit d names → solve_pass d (Some (WeightBound at)) → IfSome at (λ v. v < length names.nodes)
place_known d names at fit h = place_named d names at fit (passed_of d at (bound_of d at h).1)

-- the line tells the place
pub passed_told : (d : DiagramView) (names : NamesView) (at : Option ℕ) (told : List ℕ) → IsPassed d at → told ≡ bound_line names at → TellsBound d names told
passed_told d names None told h e = AtUtilities h e
passed_told d names (Some v) told h e = AtNode v h e

pub bound_told : (d : DiagramView) (names : NamesView) (at : Option ℕ) (told : List ℕ) → bound_pass d (Some (WeightBound at)) → told ≡ bound_line names at → TellsBound d names told
bound_told d names at told h e = passed_told d names at told (passed_of d at h) e
