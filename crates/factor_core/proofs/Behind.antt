-- What may be written behind the first cells.
use Rattle.std.proofs.Common.{◌≡◌, ◌∙◌, ℕ, ◌+◌, ◌^◌, ◌<◌, ◌≤◌, Bool, true, false, ◌||◌, List, [], ◌∷◌, length, sym, ap, subst, arith, All, inl, inr}
use Rattle.std.proofs.Math.Path.{fun_ext}
use Rattle.maid_model.specs.declared.limits.TheConstants.{MOST_PLAN_CELLS}
use Rattle.node_sets.specs.declared.sets.NodeSet.{NodeSet}
use Rattle.node_sets.specs.Sets.{holds, IsIn}
use Rattle.maid_model.specs.Views.{NodeView, DiagramView}
use Rattle.maid_model.specs.Diagrams.{IsDiagram}
use Rattle.maid_model.specs.Nodes.{states_of, counts_of}
use Rattle.cell_rings.specs.Rings.{Ring, IsRing, IsSize}
use Rattle.ring_sums.specs.Groups.{ProductsFit, JoinFits}
use Rattle.ring_sums.proofs.Each.{Each, each_of, all_of, each_map, yes_or_no}
use Rattle.factor_core.specs.declared.slots.Slot.{Slot}
use Rattle.factor_core.specs.Scopes.{united, united_but}
use Rattle.factor_core.specs.Slots.{space, cells_over, IsLiveSlot, tables_of, join_of, product_of_slots}
use Rattle.factor_core.specs.Spaces.{CanJoinIn, CanMultiplyIn}
use Rattle.factor_core.specs.Tables.{LiesIn, size_of}
use Rattle.factor_core.proofs.Conditions.{united_is, but_is, room_to_join, room_to_multiply}
use Rattle.factor_core.proofs.Counts.{are_counts, cells_are, counts_length}
use Rattle.factor_core.proofs.Standing.{lies_in}

module _ {C : Type 0} (nodes : List NodeView) (cells : List C) where
  -- a node of the slots is one of the diagram
  pub node_known : (slots : List Slot) (x : ℕ) → 0 < length slots → Each (IsLiveSlot nodes cells) slots → Each (λ s. IsIn s.scope x) slots → x < length nodes
  node_known [] x some live hold = absurd (omega arith)
  node_known (s ∷ ss) x some live hold = live.0.known x hold.0

  pub united_known : (slots : List Slot) (v : ℕ) → Each (IsLiveSlot nodes cells) slots → united slots v ≡ true → v < length nodes
  united_known [] v live t = absurd (let no : false ≡ true = t in cc)
  united_known (s ∷ ss) v live t =
      elim (yes_or_no (holds s.scope v)) [
        | inl e ↦ live.0.known v e
        | inr f ↦ united_known ss v live.1 (sym (ap (λ b. b || united ss v) f) ∙ t)
      ]

-- a table over the scope has a cell for each choice of its nodes' states
pub size_is_cells : (nodes : List NodeView) (counts : List ℕ) (is : counts ≡ counts_of nodes) (scope : NodeSet) (h : ℕ → Bool) → ((v : ℕ) → holds scope v ≡ h v) → size_of counts scope ≡ cells_over nodes h
size_is_cells nodes counts is scope h held = ap (λ cs. size_of cs scope) is ∙ cells_are nodes (holds scope) ∙ ap (cells_over nodes) (fun_ext held)

module _ {C : Type 0} {r : Ring C} (laws : IsRing r) (sized : IsSize r r.size) (nodes : List NodeView) (counts : List ℕ) (is : counts ≡ counts_of nodes) (cells : List C) (slots : List Slot) (scope : NodeSet) where
  -- so has the join of the slots
  pub join_size : (x : ℕ) → ((v : ℕ) → holds scope v ≡ united_but slots x v) → size_of counts scope ≡ cells_over nodes (join_of r nodes x cells slots).holds
  join_size x held = size_is_cells nodes counts is scope (join_of r nodes x cells slots).holds (λ v. held v ∙ but_is {r = r} laws sized nodes cells slots x v)

  -- and their product
  pub product_size : ((v : ℕ) → holds scope v ≡ united slots v) → size_of counts scope ≡ cells_over nodes (product_of_slots r nodes cells slots).holds
  product_size held = size_is_cells nodes counts is scope (product_of_slots r nodes cells slots).holds (λ v. held v ∙ united_is {r = r} laws sized nodes cells slots v)

-- it ends within the cells where there is room for it
pub ends_within : {C : Type 0} (nodes : List NodeView) (counts : List ℕ) (is : counts ≡ counts_of nodes) (scope : NodeSet) (h : ℕ → Bool) (held : (v : ℕ) → holds scope v ≡ h v) (all : List C) (used : ℕ) → used ≤ length all → cells_over nodes h ≤ (space all used).spare → used + size_of counts scope ≤ length all
ends_within nodes counts is scope h held all used within room = omega (arith, size_is_cells nodes counts is scope h held, room, within)

module _ {C : Type 0} {r : Ring C} (laws : IsRing r) (sized : IsSize r r.size) (d : DiagramView) (is : IsDiagram d) (counts : List ℕ) (e : counts ≡ counts_of d.nodes) (cells : List C) (short : length cells ≤ MOST_PLAN_CELLS) (slots : List Slot) (live : All (IsLiveSlot d.nodes cells) slots) where
  lying : All (LiesIn (counts_of d.nodes) (length cells)) slots
  lying = all_of (LiesIn (counts_of d.nodes) (length cells)) slots (each_map (IsLiveSlot d.nodes cells) (LiesIn (counts_of d.nodes) (length cells)) (λ s l. lies_in r d.nodes cells s l) slots (each_of (IsLiveSlot d.nodes cells) slots live))

  small : All (λ s. size_of (counts_of d.nodes) s.scope ≤ 2 ^ 32) slots
  small = λ i z l. let s = lying i z l in omega (arith, s.size, s.within, short)

  pub can_join : (x : ℕ) → x < length d.nodes → JoinFits r.size (states_of d.nodes) r.most x (tables_of r d.nodes cells slots) → CanJoinIn r cells counts slots x
  can_join x inside f = subst (λ cs. CanJoinIn r cells cs slots x) (sym e) (record {
    are_counts = are_counts d is;
    node = (omega (arith, counts_length d.nodes, inside));
    live = lying;
    small = small;
    fits = room_to_join laws sized d.nodes cells slots x (each_of (IsLiveSlot d.nodes cells) slots live) f;
  })

  pub can_multiply : ProductsFit r.size (states_of d.nodes) r.most (tables_of r d.nodes cells slots) → CanMultiplyIn r cells counts slots
  can_multiply f = subst (λ cs. CanMultiplyIn r cells cs slots) (sym e) (record {
    are_counts = are_counts d is;
    live = lying;
    small = small;
    fits = room_to_multiply laws sized d.nodes cells slots (each_of (IsLiveSlot d.nodes cells) slots live) f;
  })
