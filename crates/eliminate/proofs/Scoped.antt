-- The scopes of first tables, and of what a step joins.
use Rattle.std.proofs.Common.{◌≡◌, ◌∙◌, ◌⊎◌, ◌↔◌, ℕ, Bool, true, false, not, ◌&&◌, ◌*◌, cond, eqb, List, [], ◌∷◌, length, refl, sym, ap, inl, inr, Contains}
use Rattle.std.specs.List.{list_any}
use Rattle.std.proofs.Math.Path.{fun_ext}
use Rattle.maid_model.specs.declared.diagrams.Kind.TheVariants.{Utility}
use Rattle.maid_model.specs.Nodes.{node_at, parents_of, is_utility}
use Rattle.maid_model.specs.Views.{NodeView}
use Rattle.node_sets.specs.declared.sets.NodeSet.{NodeSet}
use Rattle.node_sets.specs.Sets.{holds, IsIn}
use Rattle.plan_sums.specs.Plans.{mass_cells, has}
use Rattle.ring_sums.proofs.Same.{any_map, map_filter}
use Rattle.factor_core.specs.declared.slots.Slot.{Slot}
use Rattle.factor_core.specs.Operations.{first_table}
use Rattle.factor_core.proofs.Scoping.{joined_is}
use Rattle.size_precheck.specs.Counts.{counted_cells}
use Rattle.size_precheck.specs.Greedy.{holding, joined_set}
use Rattle.eliminate.specs.Limits.{scopes_at, step_cells, step_work}
use Rattle.eliminate.specs.Steps.{slots_with}
use Rattle.eliminate.proofs.Standing.{map_length}
use Rattle.finite_sums.specs.Members.{Among}
use Rattle.plan_sums.proofs.Filters.{has_yes, has_member}
use Rattle.eliminate.proofs.Placing.{one_test}
use Rattle.eliminate.proofs.Ruled.{has_contains}
use Rattle.eliminate.proofs.Whole.{first_node, first_value}

module _ (nodes : List NodeView) (node : ℕ) (empty parents : NodeSet) (none : (x : ℕ) → IsIn empty x → ⊥) (are : (x : ℕ) → IsIn parents x ↔ (IsIn empty x ⊎ Contains (parents_of nodes node) x)) where
  held : (u : ℕ) → holds parents u ≡ has (parents_of nodes node) u
  held u = one_test (holds parents u) (has (parents_of nodes node) u) (λ t. (has_contains (parents_of nodes node) u).1 (listed ((are u).0 t))) (λ t. (are u).1 (inr ((has_contains (parents_of nodes node) u).0 t)))
    where
      listed : (IsIn empty u ⊎ Contains (parents_of nodes node) u) → Contains (parents_of nodes node) u
      listed (inl m) = absurd (none u m)
      listed (inr m) = m

  -- a utility's table is over its parents
  pub utility_scope : (node_at nodes node).kind ≡ Utility → (u : ℕ) → holds parents u ≡ (first_table mass_cells nodes [] node).holds u
  utility_scope e u = held u ∙ ap (λ t. t.holds u) (sym (first_value mass_cells nodes [] node (ap is_utility e)))

  -- another node's over itself too
  pub node_scope : (scope : NodeSet) → ((x : ℕ) → IsIn scope x ↔ (IsIn parents x ⊎ (x ≡ node))) → is_utility (node_at nodes node).kind ≡ false → (u : ℕ) → holds scope u ≡ (first_table mass_cells nodes [] node).holds u
  node_scope scope is e u =
      one_test (holds scope u) (has (node ∷ parents_of nodes node) u) (λ t. has_yes u (node ∷ parents_of nodes node) (into ((is u).0 t))) (λ t. out (has_member u (node ∷ parents_of nodes node) t))
      ∙ ap (λ t. t.holds u) (sym (first_node mass_cells nodes [] node e))
    where
      into : (IsIn parents u ⊎ (u ≡ node)) → Among u (node ∷ parents_of nodes node)
      into (inl m) = inr (has_member u (parents_of nodes node) (sym (held u) ∙ m))
      into (inr m) = inl m

      out : Among u (node ∷ parents_of nodes node) → IsIn scope u
      out (inl m) = (is u).1 (inr m)
      out (inr m) = (is u).1 (inl (held u ∙ has_yes u (parents_of nodes node) m))

-- ---- what a step joins: the list of slots that hold v, and their nodes
module _ (nodes : List NodeView) (v : ℕ) (slots list : List Slot) (list_is : list ≡ slots_with v slots) (scope : NodeSet) (are : (u : ℕ) → holds scope u ≡ list_any (λ s. holds s.scope u) list) where
  held_scopes : scopes_at list ≡ holding v (scopes_at slots)
  held_scopes = ap scopes_at list_is ∙ map_filter (λ (s : Slot). holds s.scope) (λ h. h v) slots

  joined_is_scope : (u : ℕ) → holds scope u ≡ joined_set v (scopes_at slots) u
  joined_is_scope u = are u ∙ sym (any_map (λ h. h u) (λ (s : Slot). holds s.scope) list) ∙ ap (λ hs. list_any (λ h. h u) hs) held_scopes

  pub work_of_step : counted_cells nodes (holds scope) * length list ≡ step_work nodes v (scopes_at slots)
  work_of_step = (λ i. counted_cells nodes (fun_ext joined_is_scope i) * (sym (map_length (λ (s : Slot). holds s.scope) list) ∙ ap length held_scopes) i)

  pub cells_of_step : (rest : NodeSet) → ((u : ℕ) → IsIn rest u ↔ (IsIn scope u × (u ≡ v → ⊥))) → counted_cells nodes (holds rest) ≡ step_cells nodes v (scopes_at slots)
  cells_of_step rest left = ap (counted_cells nodes) (fun_ext (λ u.
      joined_is list v scope rest are left u
      ∙ flip (eqb u v) (list_any (λ s. holds s.scope u) list)
      ∙ ap (λ b. b && not (eqb u v)) (sym (are u) ∙ joined_is_scope u)))
    where
      flip : (b c : Bool) → cond b false c ≡ c && not b
      flip true true = refl
      flip true false = refl
      flip false true = refl
      flip false false = refl
